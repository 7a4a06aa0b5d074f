-- The payload that is open while a log is read, and what a record does to it.
use Rattle.std.specs.Prelude.{ℕ, Bool, List, Option, Some, None}
use Rattle.uc_logrec.specs.declared.fault.LogFault.{LogFault}
use Rattle.uc_logrec.specs.declared.step.Unfinished.{Unfinished}
use Rattle.uc_logrec.specs.declared.step.Step.{Step}
use Rattle.uc_logrec.specs.declared.step.Step.TheVariants as step

-- a payload whose LAST has not come: the offset of its FIRST, its data so far, and whether there is nothing but a
-- FIRST without data
pub record Fragments : Type 0 where
  pub start : ℕ
  pub payload : List ℕ
  pub is_empty_first : Bool

-- a payload is complete and none is open now; or this one is open now; or the record can't be there
pub data StepWithData : Type 0 where
  Complete : List ℕ → StepWithData
  Open : Fragments → StepWithData
  Refused : LogFault → StepWithData

-- ---- as the reader keeps them, with the open payload's data in a buffer

abbrev pub fragments_of : Unfinished → List ℕ → Fragments
fragments_of unfinished joined = record { start = unfinished.start; payload = joined; is_empty_first = unfinished.is_empty_first }

-- the open payload, if there is one
abbrev pub open_in : Option Unfinished → List ℕ → Option Fragments
open_in None joined = None
open_in (Some unfinished) joined = Some (fragments_of unfinished joined)

-- what a step means, if the buffer has `joined` after it and the record has this fragment
abbrev pub step_with_data : Step → List ℕ → List ℕ → StepWithData
step_with_data step.Whole joined fragment = Complete fragment
step_with_data step.Joined joined fragment = Complete joined
step_with_data (step.Open unfinished) joined fragment = Open (fragments_of unfinished joined)
step_with_data (step.Refused fault) joined fragment = Refused fault
