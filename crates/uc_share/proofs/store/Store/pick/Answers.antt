use Rattle.std.proofs.Common.{◌≡◌, ◌∙◌, ℕ, Bool, ap, false, length, slice_index_or}
use Rattle.std.proofs.lemmas.List.{length-map}
use Rattle.uc_version_state.specs.Picks.{picked}
use Rattle.uc_version_state.specs.Versions.{Stored}
use Rattle.uc_version_compact.specs.Picking.{candidate_of, candidates_of}
use Rattle.uc_share.proofs.InRange.{pick_in_range}
use Rattle.uc_share.specs.Stores.{Shared}
use Rattle.uc_share.proofs.store.Store.pick.Goals as goal

pub returns-clause-picked : goal.returns-clause-picked
returns-clause-picked g c = (
  c.busy_slots-busy.result,
  c.busy_slots-busy.ensures.whole,
  c.pick.ensures
      ∙ (ap (λ (v : Stored). picked c.self.inside.options (candidates_of v (λ slot. slice_index_or c.busy_slots-busy.result slot false))) c.version.ensures
      ∙ ap (λ (s : Shared). picked s.options (candidates_of c.args.pin.now.version (λ slot. slice_index_or c.busy_slots-busy.result slot false))) c.self.view_is),
)

pub returns-clause-claimable : goal.returns-clause-claimable
returns-clause-claimable g c =
    let o = c.self.inside.options in
    let flags : ℕ → Bool = λ slot. slice_index_or c.busy_slots-busy.result slot false in
    let runs = candidates_of c.version.result.now flags in
    let len : length runs ≡ length c.args.pin.now.version.runs = length-map c.version.result.now.runs (candidate_of flags) ∙ ap (λ (v : Stored). length v.runs) c.version.ensures in
    pick_in_range o runs (length c.args.pin.now.version.runs) c.pick.result c.pick.ensures len (λ s. c.picks_are_unclaimed_runs.ensures.there o runs s) (λ s. c.picks_are_unclaimed_runs.ensures.two o runs s c.self.invariant.1)
