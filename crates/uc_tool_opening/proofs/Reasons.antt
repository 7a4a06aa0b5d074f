-- The reason for the input that was read is the reason for what the reader returns.
use Rattle.std.proofs.Common.{◌≡◌, ℕ, ◌≤◌, List, Option, Some, None, Result, Ok, Err, length, refl, subst, inl, inr}
use Rattle.std.specs.Prelude.{◌≢◌, IfSome, IfNone, OnOk}
use Rattle.std.specs.Option.{option_flatten}
use Rattle.std.specs.Fn.{Once}
use denote.Ref.{MutBor}
use Rattle.uc_tool_io.specs.Ending.{Finishes}
use Rattle.uc_tool_io.specs.Works.{WasDone}
use Rattle.uc_tool_io.specs.declared.done.Done.{Done}
use Rattle.uc_tool_io.specs.declared.done.Done.TheVariants.{Refused}
use Rattle.uc_tool_io.specs.declared.input.TheConstants.{INPUT_LIMIT}
use Rattle.uc_tool_io.specs.declared.run_error.RunError.{RunError}
use Rattle.uc_tool_io.specs.declared.run_error.RunError.TheVariants as run_error
use Rattle.uc_tool_opening.specs.Reasons.{Cause, IsReason, TellsOpening}
use Rattle.uc_tool_opening.specs.declared.reason.Reason.{Reason}

-- the reason in the result of work, if any was done
abbrev pub reason_in : {T : Type 0} → (T → Option Reason) → Option T → Option Reason
reason_in reason_of None = None
reason_in reason_of (Some told) = reason_of told

-- work whose result is only a reason
pub reason_alone : (told : Option (Option Reason)) → reason_in (λ reason. reason) told ≡ option_flatten told
reason_alone None = refl
reason_alone (Some reason) = refl

-- what holds of the bytes that were read holds of those that the reader gives
of_bytes : (P : List ℕ → Type 0) (remaining : Option (List ℕ)) (read : List ℕ) → IfSome remaining (λ bytes. read ≡ bytes) → P read → IfSome remaining P
of_bytes P None read whole p = tt
of_bytes P (Some input) read whole p = subst P whole p

-- what holds of any bytes
of_any : (P : List ℕ → Type 0) (remaining : Option (List ℕ)) → ((input : List ℕ) → P input) → IfSome remaining P
of_any P None p = tt
of_any P (Some input) p = p input

-- a run that ends as failed had printed its line
of_refused : (outcome : Result Done RunError) (old new : Option (List ℕ)) (result : Done) (P : Type 0) → Finishes outcome old new result → result ≡ Refused → OnOk outcome P → P
of_refused (Ok done) old new result P ends is p = p
of_refused (Err run_error.Device) old new result P ends is p = absurd cc
of_refused (Err run_error.Memory) old new result P (inl ends) is p = absurd cc
of_refused (Err run_error.Memory) old new result P (inr ends) is p = absurd cc

-- ---- a whole run over its input

module _ {F I W T : Type 0} (bytes : I → List ℕ) (g : Once F (I × (MutBor W × Unit {0})) ((Result Done RunError × T) × (MutBor W × Unit {0}))) (f : F) (contents : W → Option (List ℕ)) (remaining old new : Option (List ℕ)) (done : Done) (cause : List ℕ → Option Cause) (reason_of : T → Option Reason) where
  -- the reason belongs to its input
  abbrev pub Tells : Type 0
  Tells =
      (input : I) (before after : MutBor W) (outcome : Result Done RunError) (told : T) → length (bytes input) ≤ INPUT_LIMIT
      → g.post f (input, (before, tt)) ((outcome, told), (after, tt))
      → IsReason (cause (bytes input)) (reason_of told) × OnOk outcome (TellsOpening (cause (bytes input)) (reason_of told))

  pub told_after : (told : Option T) → IfSome told (WasDone bytes g f contents remaining old new done) → Tells → IfSome remaining (λ input. IsReason (cause input) (reason_in reason_of told))
  told_after None w tells = of_any (λ input. IsReason (cause input) None) remaining (λ input. tt)
  told_after (Some told) w tells =
      of_bytes (λ input. IsReason (cause input) (reason_of told)) remaining (bytes w.input) w.whole (tells w.input w.before w.after w.outcome told w.short w.call).0

  pub opening_after : (told : Option T) → IfSome told (WasDone bytes g f contents remaining old new done) → IfNone told (done ≢ Refused) → Tells → done ≡ Refused
      → IfSome remaining (λ input. TellsOpening (cause input) (reason_in reason_of told))
  opening_after None w none tells is = absurd (none is)
  opening_after (Some told) w none tells is =
      let tells_opening = (tells w.input w.before w.after w.outcome told w.short w.call).1 in
      of_bytes (λ input. TellsOpening (cause input) (reason_of told)) remaining (bytes w.input) w.whole (of_refused w.outcome (contents w.after.now) new done (TellsOpening (cause (bytes w.input)) (reason_of told)) w.ends is tells_opening)
