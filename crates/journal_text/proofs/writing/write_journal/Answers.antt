use Rattle.journal_text.proofs.Sequence.{is_written, only_journal}
use Rattle.journal_text.proofs.writing.write_journal.Goals as goal

pub returns-clause-only : goal.returns-clause-only
returns-clause-only c = only_journal c.args.lines.now c.put_lines.result c.put_lines.ensures c.requires.few c.requires.each

pub returns-clause-written : goal.returns-clause-written
returns-clause-written c = is_written c.args.lines.now c.put_lines.result c.put_lines.ensures c.requires.few c.requires.each
