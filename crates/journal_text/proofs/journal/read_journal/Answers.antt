use Rattle.journal_text.proofs.Sequence.{bad_is_found, journal_is_read}
use Rattle.journal_text.proofs.journal.read_journal.Goals as goal

pub returns-clause-found : goal.returns-clause-found
returns-clause-found c = bad_is_found c.args.bytes.now c.lines.result c.lines.ensures.read c.lines.ensures.bad

pub returns-clause-all_read : goal.returns-clause-all_read
returns-clause-all_read c = journal_is_read c.args.bytes.now c.lines.result c.lines.ensures.read c.lines.ensures.bad

pub returns-clause-read : goal.returns-clause-read
returns-clause-read c = c.lines.ensures.read

pub returns-clause-bad : goal.returns-clause-bad
returns-clause-bad c = c.lines.ensures.bad
