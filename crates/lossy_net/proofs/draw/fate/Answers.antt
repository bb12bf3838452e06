use Rattle.std.proofs.Common.{◌/◌, ◌%◌, refl}
use Rattle.std.proofs.lemmas.Bool.{lt-ltb, le-ltb}
use Rattle.lossy_net.proofs.draw.fate.Goals as goal

pub returns-then-word-loss : goal.returns-then-word-loss
returns-then-word-loss c = rw (lt-ltb (c.args.word % 1000) c.args.loss c.if-word-loss.true) refl

pub returns-then-word-repeat : goal.returns-then-word-repeat
returns-then-word-repeat c =
    rw (le-ltb (c.args.word % 1000) c.args.loss c.if-word-loss.false, lt-ltb (c.args.word / 1000 % 1000) c.args.repeat c.if-word-repeat.true) refl

pub returns-else-word-repeat : goal.returns-else-word-repeat
returns-else-word-repeat c =
    rw (le-ltb (c.args.word % 1000) c.args.loss c.if-word-loss.false, le-ltb (c.args.word / 1000 % 1000) c.args.repeat c.if-word-repeat.false) refl
