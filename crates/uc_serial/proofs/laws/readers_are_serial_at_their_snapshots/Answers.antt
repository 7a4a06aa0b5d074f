use Rattle.std.proofs.Common.{sym, ◌∙◌}
use Rattle.uc_serial.proofs.Untouched.{untouched_before}
use Rattle.uc_serial.proofs.laws.readers_are_serial_at_their_snapshots.Goals as goal

pub returns : goal.returns
returns g c before since query at le low high =
    c.what_was_read_stays.ensures before since query high
    ∙ sym (c.current_reads_have_one_answer.ensures before query at (c.untouched_reads_are_current.ensures before query at le (untouched_before before query low)))
