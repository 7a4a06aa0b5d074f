-- Reasons why a run failed, which are printed in addition to the line of the run.
use Rattle.std.specs.Prelude.{◌≡◌, ℕ, ⊤, List, Option, Some, None, IfSome}
use Rattle.std.specs.Option.{option_map}
use Rattle.uc_batch.specs.WriteLog.{WriteLog}
use Rattle.uc_batch.specs.declared.ended.Ended.{Ended}
use Rattle.uc_batch.specs.declared.ended.Ended.TheVariants as ended
use Rattle.uc_version_state.specs.declared.options.Options.{Options}
use Rattle.uc_version_state.specs.Openings.{Opening}
use Rattle.uc_version_open.specs.Refusal.{opening_refusal}
use Rattle.uc_version_open.specs.declared.open_error.OpenError.{OpenError}
use Rattle.uc_script.specs.Explanations.{explanation_of, explanation_text}
use Rattle.uc_script.specs.declared.part.Source.{Source}
use Rattle.uc_tool_opening.specs.Faults.{fault_of_opening}
use Rattle.uc_tool_opening.specs.declared.reason.Reason.{Reason}
use Rattle.uc_tool_opening.specs.declared.reason.Reason.TheVariants as reason

-- The cause why a run is rejected, if more can be said of it than its line says: the line of this number, from 1, in some input, or
-- an opening under these options.
pub data Cause : Type 0 where
  AtLine : Source → List ℕ → ℕ → Cause
  AtOpening : OpenError → Options → Cause

-- A reason is that of a cause: what is said of this line and no other, or what stands against this opening.
abbrev pub Explains : Option Cause → Reason → Type 0
Explains None told = ⊥
Explains (Some (AtLine source text number)) (reason.Line said) = explanation_of source text number ≡ Some (explanation_text said)
Explains (Some (AtLine source text number)) (reason.Opening fault) = ⊥
Explains (Some (AtOpening error options)) (reason.Line said) = ⊥
Explains (Some (AtOpening error options)) (reason.Opening fault) = fault_of_opening error options ≡ Some fault

-- The reason that is printed for a run with this cause, or with none. Without a cause there is no reason. With a cause there may be
-- none if allocation fails.
abbrev pub IsReason : Option Cause → Option Reason → Type 0
IsReason cause told = IfSome told (Explains cause)

-- the reason of an opening that failed with this error
abbrev pub reason_of_opening : OpenError → Options → Option Reason
reason_of_opening error options = option_map reason.Opening (fault_of_opening error options)

-- If an opening failed, its reason is returned. It takes no memory.
abbrev pub TellsOpening : Option Cause → Option Reason → Type 0
TellsOpening None told = ⊤
TellsOpening (Some (AtLine source text number)) told = ⊤
TellsOpening (Some (AtOpening error options)) told = told ≡ reason_of_opening error options

-- the cause of an opening that fails, if it does
abbrev pub opening_cause : Opening → Option Cause
opening_cause o = option_map (λ error. AtOpening error o.options) (opening_refusal o)

-- the cause where a store opens from these writes of a log; a log that has a fault opens none, and its own line says all of that
abbrev pub unless_faulty : Opening → Ended → Option Cause
unless_faulty o ended.Clean = opening_cause o
unless_faulty o (ended.Torn offset) = opening_cause o
unless_faulty o (ended.LogFault fault offset) = None
unless_faulty o (ended.BatchFault number fault) = None

-- the cause where a store opens from a log, with these keeps
abbrev pub log_cause : Options → List ℕ → WriteLog → Option Cause
log_cause options keeps log = unless_faulty (record { writes = log.list; keeps = keeps; options = options }) log.ended
