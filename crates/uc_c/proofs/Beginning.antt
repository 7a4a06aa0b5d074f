-- Where a walk over a log begins.
use Rattle.std.proofs.Common.{◌≡◌, ℕ, List, refl, sym, subst}
use Rattle.uc_logrec.specs.Log.{reading_of}
use Rattle.uc_batch.specs.Log.{log_writes}
use Rattle.uc_c.specs.declared.c_log_place.CLogPlace.{CLogPlace}
use Rattle.uc_c.specs.LogWalk.{ahead_of, start}

at_start : (log : List ℕ) → ahead_of log start ≡ log_writes log
unfolding reading_of
at_start log = refl

pub begins : (log : List ℕ) (place : CLogPlace) → place ≡ start → ahead_of log place ≡ log_writes log
begins log place e = subst (λ (p : CLogPlace). ahead_of log p ≡ log_writes log) (sym e) (at_start log)
