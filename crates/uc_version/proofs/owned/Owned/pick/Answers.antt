use Rattle.std.proofs.Common.{◌≡◌, ◌<◌, ◌∙◌, false, ap}
use Rattle.std.specs.Prelude.{slice_index_or}
use Rattle.uc_claims.specs.declared.table.TheConstants.{MOST_SLOTS}
use Rattle.uc_compact.proofs.NestedLists.{all-map}
use Rattle.uc_version_state.specs.Picks.{picked}
use Rattle.uc_version_state.specs.Versions.{slots_of}
use Rattle.uc_version.specs.Owners.{Owner, is_busy, claimed_slots}
use Rattle.uc_version_compact.specs.Picking.{candidates_of}
use Rattle.uc_version.specs.HeldOwners.{owner}
use Rattle.uc_version.proofs.Flags.{same_any}
use Rattle.uc_version_compact.proofs.BySlots.{same_candidates}
use Rattle.uc_version.proofs.owned.Owned.pick.Goals as goal

pub returns : goal.returns
returns g c =
    let o = owner c.self.inside in
    c.pick.ensures
    ∙ ap (picked c.self.inside.options)
    (same_candidates (λ slot. slice_index_or c.busy_slots.result slot false) (is_busy o) c.self.inside.version.runs
    (all-map (λ slot. slot < MOST_SLOTS) (λ slot. slice_index_or c.busy_slots.result slot false ≡ is_busy o slot)
    (λ slot lt. c.busy_slots.ensures slot lt ∙ same_any c.self.inside.held.slots (claimed_slots o) slot (c.self.invariant.slots slot))
    (slots_of c.self.inside.version.runs) c.self.invariant.owner_is.version.slots_below))
    ∙ ap (λ (p : Owner). picked p.options (candidates_of p.version (is_busy p))) c.self.view_is
