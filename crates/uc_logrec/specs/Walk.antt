-- A walk through a log, payload by payload, from its start.
use Rattle.std.specs.Prelude.{◌≡◌, ◌≤◌, ℕ, List, [], ◌∷◌, ◌++◌, length, take}
use Rattle.uc_logrec.specs.declared.ending.Ending.TheVariants.{Clean}
use Rattle.uc_logrec.specs.Log.{payloads_of, ending_of, text_from}
use Rattle.uc_logrec.specs.Position.{ahead_in, LiesIn}

-- The walk returned these payloads and led to this offset: to the start, or past one more payload.
pub data Walks (log : List ℕ) : List (List ℕ) → ℕ → Type 0 where
  at_start : Walks log [] 0
  one_more : (payloads : List (List ℕ)) (offset : ℕ) (payload : List ℕ) (behind : ℕ) → Walks log payloads offset → LiesIn payload log offset behind → Walks log (payloads ++ payload ∷ []) behind

-- The log holds these payloads and then what is ahead at the offset, and it ends as that does.
pub record BeginsWith (log : List ℕ) (payloads : List (List ℕ)) (offset : ℕ) : Type 0 where
  pub within : offset ≤ length log
  pub payloads_are : payloads_of log ≡ payloads ++ (ahead_in log offset).payloads
  pub ending_is : ending_of log ≡ (ahead_in log offset).ending

-- a log that is cut at an offset, with these bytes in place of the rest
abbrev pub cut_and_added : List ℕ → ℕ → List ℕ → List ℕ
cut_and_added log offset text = take offset log ++ text

-- Cut at the offset and continued by more payloads, the log holds those and these, and ends clean.
pub record GoesOn (log : List ℕ) (payloads : List (List ℕ)) (offset : ℕ) (more : List (List ℕ)) : Type 0 where
  pub same : payloads_of (cut_and_added log offset (text_from offset more)) ≡ payloads ++ more
  pub clean : ending_of (cut_and_added log offset (text_from offset more)) ≡ Clean
