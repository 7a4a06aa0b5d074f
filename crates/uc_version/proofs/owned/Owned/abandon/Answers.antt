use Rattle.std.proofs.Common.{◌≡◌, ◌≤◌, ℕ, List, length, sym, subst}
use Rattle.std.specs.Prelude.{All, Contains, Some, None, slice_set}
use Rattle.uc_claims.specs.Claims.{times}
use Rattle.uc_claims.specs.Holding.{Holding, AreDistinct, without}
use Rattle.uc_claims.specs.declared.table.TheConstants.{MOST_SLOTS}
use Rattle.uc_version_state.specs.Versions.{PlacedRun, slots_of}
use Rattle.uc_version.specs.Owners.{claimed_slots}
use Rattle.uc_version.specs.Claiming.{Claim, held_by}
use Rattle.uc_version.specs.HeldOwners.{owner, IsOwned}
use Rattle.uc_version_compact.proofs.Few.{few_part}
use Rattle.uc_version_compact.proofs.PartSlots.{part_distinct}
use Rattle.uc_version.proofs.Taking.{all_held, same_less, with_one_less}
use Rattle.uc_version.proofs.owned.Owned.abandon.Goals as goal

pub give_slots-requires-clause-few : goal.give_slots-requires-clause-few
give_slots-requires-clause-few g c =
    let h = c.held_stretch-held.result in
    subst (λ (ps : List PlacedRun). length ps ≤ MOST_SLOTS) (sym c.held_runs.ensures) (few_part c.self.inside.version c.self.invariant.owner_is.version h.first h.count)

pub give_slots-requires-clause-distinct : goal.give_slots-requires-clause-distinct
give_slots-requires-clause-distinct g c =
    let h = c.held_stretch-held.result in
    subst (λ (ps : List PlacedRun). AreDistinct (slots_of ps)) (sym c.held_runs.ensures) (part_distinct c.self.inside.version c.self.invariant.owner_is.version h.first h.count)

pub give_slots-requires-clause-held : goal.give_slots-requires-clause-held
give_slots-requires-clause-held g c =
    let i = c.self.invariant in
    let number = c.claim.inside.number in
    let held_is = subst (λ (claim : Claim). held_by c.self.inside.claims claim.number ≡ Some c.held_stretch-held.result) (sym c.claim.view_is) c.held_stretch-held.ensures in
    subst (λ (ps : List PlacedRun). All (Contains c.self.inside.held.slots) (slots_of ps)) (sym c.held_runs.ensures)
    (all_held (owner c.self.inside) i.owner_is c.self.inside.held.slots i.slots number c.held_stretch-held.result held_is)

pub invariant_of-self : goal.invariant_of-self
invariant_of-self g c =
    let i = c.self.invariant in
    let number = c.claim.inside.number in
    let slots = c.self.inside.held.slots in
    let held_is = subst (λ (claim : Claim). held_by c.self.inside.claims claim.number ≡ Some c.held_stretch-held.result) (sym c.claim.view_is) c.held_stretch-held.ensures in
    let same = same_less (owner c.self.inside) i.owner_is slots i.slots number c.held_stretch-held.result held_is in
    subst (λ (h : Holding). IsOwned (record c.self.inside { held = h; claims = slice_set c.self.inside.claims number None })) (sym c.give_slots.ensures)
    (record {
      owner_is = with_one_less (owner c.self.inside) i.owner_is slots i.slots number c.held_stretch-held.result held_is;
      count = i.count;
      table = i.table;
      whole = i.whole;
      slots = subst (λ (ps : List PlacedRun). (k : ℕ) → times k (without (slots_of ps) slots) ≡ times k (claimed_slots (record (owner c.self.inside) { claims = slice_set c.self.inside.claims number None }))) (sym c.held_runs.ensures) same;
    })
