use Rattle.uc_version_state.proofs.Memtables.{rising_from_any}
use Rattle.uc_version_open.proofs.flushes.fed_version.Goals as goal

pub flush_writes-requires-clause-rising : goal.flush_writes-requires-clause-rising
flush_writes-requires-clause-rising g c = rising_from_any c.args.version.now.last c.args.writes.now c.requires.may.rising
