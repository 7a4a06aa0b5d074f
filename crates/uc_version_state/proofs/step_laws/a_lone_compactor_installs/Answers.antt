use Rattle.uc_version_state.proofs.Lone.{installs}
use Rattle.uc_version_state.proofs.step_laws.a_lone_compactor_installs.Goals as goal

pub returns : goal.returns
returns c m o first count i laws may two within made =
    installs c.flushed_writes_are_a_run.ensures m laws o may (c.opening_gives_a_version.ensures o may) first count two within i made
