-- Results of a step through a log.
use Rattle.std.specs.Prelude.{◌≡◌, ℕ, List, length}
use Rattle.uc_bytes.specs.declared.write.Write.{Write}
use Rattle.uc_c.specs.declared.c_log_place.CLogPlace.{CLogPlace}
use Rattle.uc_c.specs.declared.log_step.LogStep.{LogStep}
use Rattle.uc_c.specs.declared.log_step.LogStep.TheVariants.{Batch, Ended}
use Rattle.uc_c.specs.declared.log_step.LaidWrites.{LaidWrites}
use Rattle.uc_c.specs.LogWalk.{ComesNext, EndsAt}
use Rattle.uc_c.specs.LogWrites.{writes_bytes}

-- The next batch was encoded, and leads to the place after it.
pub record IsLaid (laid : LaidWrites) (log : List ℕ) (place behind : CLogPlace) : Type 0 where
  pub writes : List Write
  pub next : ComesNext writes log place behind
  pub bytes : laid.bytes.items ≡ writes_bytes writes
  pub count : laid.count ≡ length writes

-- what comes next at a place of a log
abbrev pub StepsTo : LogStep → List ℕ → CLogPlace → Type 0
StepsTo (Batch laid behind) log place = IsLaid laid log place behind
StepsTo (Ended ended) log place = EndsAt ended log place
