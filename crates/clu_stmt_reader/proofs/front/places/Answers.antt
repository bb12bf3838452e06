use Rattle.std.proofs.Common.{◌≡◌, ℕ, suc, ◌+◌, ◌-◌, true, false, rules, arith}
use Rattle.std.proofs.lemmas.Grind.{common_steps}
use Rattle.clu_stmt_reader.specs.Parts as parts
use Rattle.clu_stmt_reader.specs.Places.{place_of}
use Rattle.clu_stmt_reader.proofs.Loops.{goes_first, goes_last, goes_turn, goes_more, goes_out}
use Rattle.clu_stmt_reader.proofs.Steps.{places-goes}
use Rattle.clu_stmt_reader.proofs.front.places.Goals as goal

pub loop-turn-init : goal.loop-turn-init
loop-turn-init c = goes_first parts.at_place (parts.further c.args.depth c.args.line) (suc c.args.depth) _ _ _ (omega arith) (places-goes c.args.depth c.args.line (suc c.args.depth) (place_of c.args.first) c.args.cursor.now)

pub returns-then-not-at_place : goal.returns-then-not-at_place
returns-then-not-at_place c =
    let none : parts.at_place c.loop-turn.cursor ≡ false = first_of (search rules, grind (arith, common_steps)) in
    goes_last parts.at_place (parts.further c.args.depth c.args.line) _ _ (place_of c.loop-turn.place) c.loop-turn.cursor c.loop-turn.invariant c.loop-turn-test.true none

pub returns-in_err-place : goal.returns-in_err-place
returns-in_err-place c =
    let some : parts.at_place c.loop-turn.cursor ≡ true = first_of (search rules, grind (arith, common_steps)) in
    let e = goes_turn parts.at_place (parts.further c.args.depth c.args.line) _ _ (place_of c.loop-turn.place) c.loop-turn.cursor c.loop-turn.invariant c.loop-turn-test.true some in
    first_of (search rules, grind (arith, common_steps))

pub loop-turn-preserved : goal.loop-turn-preserved
loop-turn-preserved c =
    let some : parts.at_place c.loop-turn.cursor ≡ true = first_of (search rules, grind (arith, common_steps)) in
    goes_more parts.at_place (parts.further c.args.depth c.args.line) _ _ (place_of c.loop-turn.place) c.loop-turn.cursor c.loop-turn.invariant _ _ c.loop-turn-test.true some c.in_ok-place.ensures

pub returns : goal.returns
returns c = goes_out parts.at_place (parts.further c.args.depth c.args.line) _ _ (place_of c.loop-turn.place) c.loop-turn.cursor c.loop-turn.invariant c.loop-turn-test.false
