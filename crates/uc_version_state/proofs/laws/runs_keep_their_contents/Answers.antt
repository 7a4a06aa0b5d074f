use Rattle.uc_version_state.proofs.SameRuns.{same_run}
use Rattle.uc_version_state.proofs.laws.runs_keep_their_contents.Goals as goal

pub returns : goal.returns
returns g c h later run again legal has has_again same =
    same_run g.O.Operator.meaning c.flushed_writes_are_a_run.ensures g.met.O.Operator.lawful h later legal (c.opening_gives_a_version.ensures h.opening legal.opens) run again has has_again same
