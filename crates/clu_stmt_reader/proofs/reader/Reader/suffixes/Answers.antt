use Rattle.std.proofs.Common.{◌≡◌, ℕ, suc, ◌+◌, ◌-◌, true, false, rules, arith}
use Rattle.std.proofs.lemmas.Grind.{common_steps}
use Rattle.clu_stmt_reader.specs.Parts as parts
use Rattle.clu_stmt_reader.proofs.Loops.{goes_first, goes_last, goes_turn, goes_more, goes_out}
use Rattle.clu_stmt_reader.proofs.Steps.{suffixes-goes}
use Rattle.clu_stmt_reader.proofs.reader.Reader.suffixes.Goals as goal

pub loop-turn-init : goal.loop-turn-init
loop-turn-init g c = goes_first parts.at_suffix (parts.suffix c.args.self.now.depth) (suc c.args.self.now.depth) _ _ _ (omega arith) (suffixes-goes c.args.self.now.depth (suc c.args.self.now.depth) c.args.first.stmt c.args.cursor.now)

pub returns-then-not-at_suffix : goal.returns-then-not-at_suffix
returns-then-not-at_suffix g c =
    let none : parts.at_suffix c.loop-turn.cursor ≡ false = first_of (search rules, grind (arith, common_steps)) in
    goes_last parts.at_suffix (parts.suffix c.args.self.now.depth) _ _ c.loop-turn.of.stmt c.loop-turn.cursor c.loop-turn.invariant c.loop-turn-test.true none

pub returns-in_err-of : goal.returns-in_err-of
returns-in_err-of g c =
    let some : parts.at_suffix c.loop-turn.cursor ≡ true = first_of (search rules, grind (arith, common_steps)) in
    let e = goes_turn parts.at_suffix (parts.suffix c.args.self.now.depth) _ _ c.loop-turn.of.stmt c.loop-turn.cursor c.loop-turn.invariant c.loop-turn-test.true some in
    first_of (search rules, grind (arith, common_steps))

pub loop-turn-preserved : goal.loop-turn-preserved
loop-turn-preserved g c =
    let some : parts.at_suffix c.loop-turn.cursor ≡ true = first_of (search rules, grind (arith, common_steps)) in
    goes_more parts.at_suffix (parts.suffix c.args.self.now.depth) _ _ c.loop-turn.of.stmt c.loop-turn.cursor c.loop-turn.invariant _ _ c.loop-turn-test.true some c.in_ok-of.ensures

pub returns : goal.returns
returns g c = goes_out parts.at_suffix (parts.suffix c.args.self.now.depth) _ _ c.loop-turn.of.stmt c.loop-turn.cursor c.loop-turn.invariant c.loop-turn-test.false
