use Rattle.std.proofs.Common.{List, ℕ, ap, subst}
use Rattle.std.specs.Prelude.{option_map}
use Rattle.uc_claims.specs.Holding.{NoneHeld, IsFirstHeld}
use Rattle.uc_version_compact.specs.declared.claim_error.ClaimError.TheVariants.{Busy}
use Rattle.uc_version.proofs.HeldClaims.{none_held}
use Rattle.uc_version.proofs.Flags.{none_busy, first_is}
use Rattle.uc_version.proofs.slots.claim_slots.Goals as goal

pub returns-in-Ok-clause-apart : goal.returns-in-Ok-clause-apart
returns-in-Ok-clause-apart c = subst (λ (asked : List ℕ). NoneHeld asked c.args.held.now.slots) c.slots_of-slots.ensures c.in-Ok.ensures.apart

pub returns-in-Ok-clause-none : goal.returns-in-Ok-clause-none
returns-in-Ok-clause-none c =
    none_busy c.args.held.now.slots _ (none_held _ c.args.held.now.slots (subst (λ (asked : List ℕ). NoneHeld asked c.args.held.now.slots) c.slots_of-slots.ensures c.in-Ok.ensures.apart))

pub returns-in-Err-clause-err : goal.returns-in-Err-clause-err
returns-in-Err-clause-err c = (
  c.in-Err.ensures.busy.0,
  ap (option_map Busy) (first_is c.args.held.now.slots _ c.in-Err.busy.0
      (subst (λ (asked : List ℕ). IsFirstHeld asked c.args.held.now.slots c.in-Err.busy.0) c.slots_of-slots.ensures (c.in-Err.ensures.whole c.requires.whole))),
)
