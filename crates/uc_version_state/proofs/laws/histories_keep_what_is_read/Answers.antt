use Rattle.uc_version_state.proofs.Along.{is_version, read_stays}
use Rattle.uc_version_state.proofs.laws.histories_keep_what_is_read.Goals as goal

pub returns : goal.returns
returns g c =
    let m = g.O.Operator.meaning in
    let laws = g.met.O.Operator.lawful in
    let is_run = c.flushed_writes_are_a_run.ensures in
    record {
      version = λ h legal. is_version is_run m laws h legal (c.opening_gives_a_version.ensures h.opening legal.opens);
      values = λ h key at legal read. read_stays is_run m laws c.flush_keeps_every_effect.ensures h legal (c.opening_gives_a_version.ensures h.opening legal.opens) (λ k a. c.opening_keeps_every_effect.ensures h.opening k a legal.opens) key at read;
    }
