use Rattle.std.proofs.Common.{◌≡◌, ◌≤◌, ◌<◌, ◌∙◌, List, length, refl, sym, ap, subst, arith}
use Rattle.std.specs.Prelude.{Some, None, slice_set}
use Rattle.std.specs.List.{AllByRecursion}
use Rattle.uc_claims.specs.Holding.{Holding, AreDistinct}
use Rattle.uc_claims.specs.declared.table.TheConstants.{MOST_SLOTS}
use Rattle.uc_version_state.specs.Versions.{PlacedRun, slots_of}
use Rattle.uc_version_state.specs.Installs.{part_of}
use Rattle.uc_version.specs.Owners.{Owner}
use Rattle.uc_version.specs.Claiming.{claim_refusal, claim_of, with_claim}
use Rattle.uc_version.specs.HeldOwners.{owner, IsOwned}
use Rattle.uc_version_compact.proofs.Few.{few_part}
use Rattle.uc_version_compact.proofs.PartSlots.{part_below, part_distinct}
use Rattle.uc_version.proofs.ClaimMade.{refused, allowed, claim_is, number_below, owner_after, slots_after}
use Rattle.uc_version.proofs.owned.Owned.claim.Goals as goal

pub claim_slots-requires-clause-few : goal.claim_slots-requires-clause-few
claim_slots-requires-clause-few g c =
    let s = c.args.stretch in
    let runs = c.in-Ok.ensures.ok.1 ∙ ap (part_of s.first s.count) c.runs.ensures in
    subst (λ (ps : List PlacedRun). length ps ≤ MOST_SLOTS) (sym runs) (few_part c.self.inside.version c.self.invariant.owner_is.version s.first s.count)

pub claim_slots-requires-clause-below : goal.claim_slots-requires-clause-below
claim_slots-requires-clause-below g c =
    let s = c.args.stretch in
    let runs = c.in-Ok.ensures.ok.1 ∙ ap (part_of s.first s.count) c.runs.ensures in
    subst (λ (ps : List PlacedRun). AllByRecursion (λ slot. slot < MOST_SLOTS) (slots_of ps)) (sym runs) (part_below c.self.inside.version c.self.invariant.owner_is.version s.first s.count)

pub claim_slots-requires-clause-distinct : goal.claim_slots-requires-clause-distinct
claim_slots-requires-clause-distinct g c =
    let s = c.args.stretch in
    let runs = c.in-Ok.ensures.ok.1 ∙ ap (part_of s.first s.count) c.runs.ensures in
    subst (λ (ps : List PlacedRun). AreDistinct (slots_of ps)) (sym runs) (part_distinct c.self.inside.version c.self.invariant.owner_is.version s.first s.count)

pub invariant_of-self : goal.invariant_of-self
invariant_of-self g c =
    subst (λ (h : Holding). IsOwned (record c.self.inside { held = h })) (sym c.in-Err-claim_slots.ensures.err.0) c.self.invariant

pub returns-in-Err-claim_slots-clause-err : goal.returns-in-Err-claim_slots-clause-err
returns-in-Err-claim_slots-clause-err g c =
    let i = c.self.invariant in (
      ap (λ (o : Owner). claim_refusal o c.args.stretch) (sym c.self.view_is)
          ∙ refused (owner c.self.inside) i.owner_is c.self.inside.held.slots i.slots c.args.stretch c.runs.result.now c.in-Ok.runs.now c.runs.ensures c.in-Ok.ensures.ok.0 c.in-Ok.ensures.ok.1 c.in-Err-claim_slots.error c.in-Err-claim_slots.ensures.err.1,
      c.self.view_is,
    )

pub bounds-self-inside-number : goal.bounds-self-inside-number
bounds-self-inside-number g c =
    let i = c.self.invariant in
    let below = number_below (owner c.self.inside) i.owner_is c.self.inside.held.slots i.slots c.args.stretch c.runs.result.now c.in-Ok.runs.now c.runs.ensures c.in-Ok.ensures.ok.0 c.in-Ok.ensures.ok.1 0 0 c.in_default.ensures.apart c.free_number-number.result c.free_number-number.ensures in
    let numbers = i.owner_is.numbers in
    omega (arith, below, numbers)

pub offset_bounds-self-inside-number : goal.offset_bounds-self-inside-number
offset_bounds-self-inside-number g c =
    let i = c.self.invariant in
    let below = number_below (owner c.self.inside) i.owner_is c.self.inside.held.slots i.slots c.args.stretch c.runs.result.now c.in-Ok.runs.now c.runs.ensures c.in-Ok.ensures.ok.0 c.in-Ok.ensures.ok.1 0 0 c.in_default.ensures.apart c.free_number-number.result c.free_number-number.ensures in
    let numbers = i.owner_is.numbers in
    omega (arith, below, numbers)

pub invariant_of-self-2 : goal.invariant_of-self-2
invariant_of-self-2 g c =
    let i = c.self.invariant in
    let n = c.free_number-number.result in
    let newest = c.newest_id-newest.result in
    let oldest = c.last_id-oldest.result in
    let slots = c.self.inside.held.slots in
    let s = c.args.stretch in
    subst (λ (h : Holding). IsOwned (record c.self.inside { held = h; claims = slice_set c.self.inside.claims n (Some (record { first = s.first; count = s.count; newest = newest; oldest = oldest })) })) (sym c.in_default.ensures.ok)
    (record {
      owner_is = owner_after (owner c.self.inside) i.owner_is slots i.slots s c.runs.result.now c.in-Ok.runs.now c.runs.ensures c.in-Ok.ensures.ok.0 c.in-Ok.ensures.ok.1 newest oldest c.in_default.ensures.apart n c.free_number-number.ensures c.newest_id-newest.ensures c.last_id-oldest.ensures;
      count = i.count;
      table = i.table;
      whole = i.whole;
      slots = slots_after (owner c.self.inside) i.owner_is slots i.slots s c.runs.result.now c.in-Ok.runs.now c.runs.ensures c.in-Ok.ensures.ok.0 c.in-Ok.ensures.ok.1 newest oldest c.in_default.ensures.apart n c.free_number-number.ensures;
    })

pub returns-clause-ok : goal.returns-clause-ok
returns-clause-ok g c =
    let i = c.self.invariant in
    let n = c.free_number-number.result in
    let newest = c.newest_id-newest.result in
    let oldest = c.last_id-oldest.result in
    let slots = c.self.inside.held.slots in
    let s = c.args.stretch in
    let fine = allowed (owner c.self.inside) i.owner_is slots i.slots s c.runs.result.now c.in-Ok.runs.now c.runs.ensures c.in-Ok.ensures.ok.0 c.in-Ok.ensures.ok.1 c.in_default.ensures.none in
    let made = claim_is (owner c.self.inside) i.owner_is slots i.slots s c.runs.result.now c.in-Ok.runs.now c.runs.ensures c.in-Ok.ensures.ok.0 c.in-Ok.ensures.ok.1 n newest oldest c.free_number-number.ensures c.newest_id-newest.ensures c.last_id-oldest.ensures in
    subst (λ (o : Owner). (claim_refusal o s ≡ None) × (record { number = n; newest = newest; oldest = oldest } ≡ claim_of o s) × (record (owner c.self.inside) { claims = slice_set c.self.inside.claims n (Some (record { first = s.first; count = s.count; newest = newest; oldest = oldest })) } ≡ with_claim o (record { number = n; newest = newest; oldest = oldest }) s)) c.self.view_is
    (fine, made, refl)
