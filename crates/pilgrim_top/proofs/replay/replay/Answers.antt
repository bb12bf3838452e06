use Rattle.std.proofs.Common.{◌≡◌, ◌<◌, ◌≤◌, ℕ, List, refl, sym, subst, arith, length}
use Rattle.clu_reader.specs.Accepted.{IsAccepted}
use Rattle.clu_tree.specs.declared.program.Program.{Program}
use Rattle.pilgrim_top.specs.Replay.{file_lacks, file_read, most_bytes, not_accepted, ran, ran_out, refused, refused_text, script_lacks, too_long, unscripted}
use Rattle.pilgrim_top.specs.Script.{RunsScript}
use Rattle.pilgrim_top.proofs.Replays.{unnoticed}
use Rattle.pilgrim_top.proofs.replay.replay.Goals as goal

-- of the same bytes
none_of : (xs ys : List ℕ) → xs ≡ ys → ((p : Program) → IsAccepted xs p → ⊥) → (p : Program) → IsAccepted ys p → ⊥
none_of xs ys e h p a = h p (subst (λ (z : List ℕ). IsAccepted z p) (sym e) a)

pub returns-in-Err-Memory-clause-replays : goal.returns-in-Err-Memory-clause-replays
returns-in-Err-Memory-clause-replays g c = ran_out (file_lacks (rw c.in-Err-Memory.field-0-is at c.in-Err-Memory.ensures.told)) c.requires (c.puts_in_a_row.ensures.nothing (g.K.Sink.told c.args.sink.now)) refl

pub returns-then-len-gt-MOST_BYTES-clause-replays : goal.returns-then-len-gt-MOST_BYTES-clause-replays
returns-then-len-gt-MOST_BYTES-clause-replays g c =
    let long : most_bytes < length c.in-Ok.text.items = omega (arith, c.if-len-gt-MOST_BYTES.true, c.len.ensures, c.in-Ok.text.ok.0) in
    refused c.in-Ok.text.items _ c.in-Ok.ensures.told (too_long long) c.requires c.say.ensures.says

pub returns-in-Err-Refused-clause-replays : goal.returns-in-Err-Refused-clause-replays
returns-in-Err-Refused-clause-replays g c =
    let short : length c.in-Ok.text.items ≤ most_bytes = omega (arith, c.if-len-gt-MOST_BYTES.false, c.len.ensures, c.in-Ok.text.ok.0) in
    let none : (p : Program) → IsAccepted c.as_slice.result.now p → ⊥ = (rw c.in-Err-Refused.field-0-is at c.in-Err-Refused.ensures.refused) c.in-Err-Refused.line refl in
    refused c.in-Ok.text.items (refused_text c.in-Err-Refused.line) c.in-Ok.ensures.told (not_accepted c.in-Err-Refused.line short (none_of _ _ c.as_slice.ensures.value none)) c.requires c.refuse.ensures.says

pub returns-in-Err-Memory-accept-clause-replays : goal.returns-in-Err-Memory-accept-clause-replays
returns-in-Err-Memory-accept-clause-replays g c = ran_out (file_read c.in-Ok.text.items c.in-Ok.ensures.told) c.requires (c.puts_in_a_row.ensures.nothing (g.K.Sink.told c.args.sink.now)) refl

pub returns-in-Err-Failed-load-clause-replays : goal.returns-in-Err-Failed-load-clause-replays
returns-in-Err-Failed-load-clause-replays g c =
    unscripted c.in-Ok.text.items c.in-Ok-accept.program _ c.in-Ok.ensures.told (rw c.as_slice.ensures.value at c.in-Ok-accept.ensures.ok)
    (rw c.in-Err-Failed-load.field-0-is at c.in-Err-Failed-load.ensures.told) c.requires (c.puts_in_a_row.ensures.nothing (g.K.Sink.told c.args.sink.now)) refl

pub returns-in-Err-Memory-load-clause-replays : goal.returns-in-Err-Memory-load-clause-replays
returns-in-Err-Memory-load-clause-replays g c =
    ran_out (script_lacks c.in-Ok.text.items c.in-Ok-accept.program _ c.in-Ok.ensures.told (rw c.as_slice.ensures.value at c.in-Ok-accept.ensures.ok) (rw c.in-Err-Memory-load.field-0-is at c.in-Err-Memory-load.ensures.told)) c.requires (c.puts_in_a_row.ensures.nothing (g.K.Sink.told c.args.sink.now)) refl

pub returns-clause-replays : goal.returns-clause-replays
returns-clause-replays g c =
    let runs : RunsScript c.in-Ok-accept.program c.in-Ok-load.lines.items (g.K.Sink.told c.args.sink.now) (g.K.Sink.told c.run_script.new.sink) c.run_script.new.journal.items c.run_script.result =
    rw c.as_slice-2.ensures.value at c.run_script.ensures.runs in
    ran c.in-Ok.text.items c.in-Ok-accept.program _ c.in-Ok-load.lines.items c.in-Ok.ensures.told (rw c.as_slice.ensures.value at c.in-Ok-accept.ensures.ok) c.in-Ok-load.ensures.told
    runs (unnoticed _ _ _ _ _ c.run_script.result c.erasing_laws.ensures c.plain_law.ensures runs)
