use Rattle.std.proofs.Common.{◌≡◌, ℕ, Option, None, Some, [], ap, subst}
use Rattle.std.specs.Prelude.{Contains, IfSome, IfNone}
use Rattle.uc_claims.specs.Claims.{slot_bit}
use Rattle.uc_claims.proofs.Records.{in_set, holds_nothing}
use Rattle.uc_claims.proofs.held_slots.HeldSlots.any.Goals as goal

pub returns-clause-some : goal.returns-clause-some
returns-clause-some c =
    subst (λ slots. IfSome c.any.result (λ slot. Contains slots slot)) (ap (λ h. h.slots) c.self.view_is)
    (some_held c.any.result c.any.ensures.some)
  where
    some_held : (found : Option ℕ) → IfSome found (λ slot. slot_bit c.self.inside.set.groups slot ≡ 1) → IfSome found (Contains c.self.inside.token.me.0.slots)
    some_held None is = tt
    some_held (Some slot) is = (in_set c.self.invariant.1 slot).0 is

pub returns-clause-none : goal.returns-clause-none
returns-clause-none c =
    subst (λ slots. IfNone c.any.result (slots ≡ [])) (ap (λ h. h.slots) c.self.view_is)
    (none_held c.any.result c.any.ensures.none)
  where
    none_held : (found : Option ℕ) → IfNone found ((slot : ℕ) → slot_bit c.self.inside.set.groups slot ≡ 0) → IfNone found (c.self.inside.token.me.0.slots ≡ [])
    none_held None is = holds_nothing c.self.invariant.1 is
    none_held (Some slot) is = tt
