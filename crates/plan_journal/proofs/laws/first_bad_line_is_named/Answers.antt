use Rattle.site_lines.proofs.Readings.{first_fault}
use Rattle.plan_journal.specs.Reading.{Begun, ended_lines, journal_of, read_all, read_line}
use Rattle.plan_journal.proofs.laws.first_bad_line_is_named.Goals as goal

pub returns : goal.returns
unfolding journal_of
returns c = λ names bytes at is. first_fault (read_line names) read_all 1 Begun (ended_lines bytes) at is
