use Rattle.std.proofs.Common.{◌≡◌, ◌+◌, ◌<◌, ℕ, false, Some, None, length, get_or, take, min, refl, sym, ap, ◌∙◌, subst, arith}
use Rattle.std.proofs.lemmas.List.Elements.{All-from_recursion}
use Rattle.uc_oper.specs.Composition.{applied}
use Rattle.uc_oper.specs.declared.effect.Effect.{Effect}
use Rattle.uc_oper.specs.declared.effect.Effect.TheVariants.{Keep, Set}
use Rattle.uc_model.specs.Meaning.{effect_on}
use Rattle.uc_compact.specs.Inputs.{points_of, writes_of}
use Rattle.uc_run_entry.specs.Seek.{seek_place}
use Rattle.uc_run.specs.BackCursors.{last_key, IsGreatestKey, IsPreviousKey}
use Rattle.uc_run.specs.Cursors.{Standing, has_ranges}
use Rattle.uc_query_read.specs.Back.{IsAtBefore, passed_back, StandsBelow}
use Rattle.uc_query_read.specs.Walks.{runs_of, IsOfRun}
use Rattle.uc_query_read.proofs.Alone.{runs_set, same_element}
use Rattle.uc_query_read.proofs.BackAlone.{all_keep_back, map_set, newer_lower, own_greatest, runs_passed_back}
use Rattle.uc_query_read.proofs.BackStanding.{one_before}
use Rattle.uc_query_read.proofs.Effects.{one_older, set_stays}
use Rattle.uc_query_read.proofs.Hiding.{all_taken}
use Rattle.uc_query_read.proofs.back_walk.prev_newest.Goals as goal

pub returns-clause-last : goal.returns-clause-last
returns-clause-last g c high stand = c.in_ok-key.ensures high stand

pub returns-clause-value : goal.returns-clause-value
returns-clause-value g c high stand =
    let m = g.O.Operator.meaning in
    let at = c.args.at in
    let value = c.in_ok-value.value.now in
    let cursors = c.args.cursors.now in
    let place = c.in_ok-place.place in
    let key = c.in_ok-key.key.now in
    let lt : place < length cursors = c.in_ok-place.ensures.within in
    let all : IsGreatestKey (points_of (runs_of cursors)) high key = c.in_ok-key.ensures high stand in
    let second = get_or cursors place c.index-cursors-place.result in
    let is : second ≡ get_or cursors place second = same_element cursors place c.index-cursors-place.result second lt in
    let stands : StandsBelow high second = subst (StandsBelow high) (sym is) (All-from_recursion (StandsBelow high) cursors stand place second lt) in
    let of_run : IsOfRun second = subst IsOfRun (sym is) (All-from_recursion IsOfRun cursors c.requires.of_runs place second lt) in
    let at_it : IsAtBefore key second = c.in_ok-place.ensures.there c.index-cursors-place.result in
    let there : last_key second ≡ Some key = at_it.same in
    let from = own_greatest high key all.below second stands (subst (IsPreviousKey second.run.points high) there (at_it.last high stands)) in
    let plain : has_ranges second ≡ false =
    subst (λ (s : Standing). has_ranges s ≡ false) (sym is) (All-from_recursion (λ s. has_ranges s ≡ false) cursors c.requires.plain place second lt) in
    let sets = c.in_ok-value.ensures.puts key there from plain in
    let newers = take place cursors in
    let lower = newer_lower high key all.below cursors place stand all.greatest c.in_ok-place.ensures.before (omega (arith, lt)) in
    let kept : effect_on m (writes_of (runs_of newers)) key at ≡ Keep =
    all_keep_back high key all.below c.keys_at_places_are_next.ensures m c.effects_of_parts_compose.ensures c.other_keys_are_kept.ensures at newers
    (all_taken IsOfRun place cursors c.requires.of_runs) (all_taken (λ s. has_ranges s ≡ false) place cursors c.requires.plain) lower in
    let parts = c.effects_of_parts_compose.ensures in
    let so_far =
    one_older (λ s. s.run) m parts key at cursors place second second.run (Set (Some value)) Keep (Set (Some value)) lt is refl (sym sets) (sym kept) refl in
    let effect : effect_on m (writes_of (runs_of cursors)) key at ≡ Set (Some value) =
    set_stays (λ s. s.run) m parts key at cursors (place + 1) (Set (Some value)) refl (sym so_far) in
    sym (c.effect_gives_value.ensures.none (writes_of (runs_of cursors)) key at) ∙ ap (λ (e : Effect). applied m e None) effect

pub returns-clause-passes : goal.returns-clause-passes
returns-clause-passes g c high stand =
    let cursors = c.args.cursors.now in
    let place = c.in_ok-place.place in
    let key = c.in_ok-key.key.now in
    let lt : place < length cursors = c.in_ok-place.ensures.within in
    let all : IsGreatestKey (points_of (runs_of cursors)) high key = c.in_ok-key.ensures high stand in
    let second = get_or cursors place c.index-cursors-place.result in
    let is : second ≡ get_or cursors place second = same_element cursors place c.index-cursors-place.result second lt in
    let stands : StandsBelow high second = subst (StandsBelow high) (sym is) (All-from_recursion (StandsBelow high) cursors stand place second lt) in
    let at_it : IsAtBefore key second = c.in_ok-place.ensures.there c.index-cursors-place.result in
    let there : last_key second ≡ Some key = at_it.same in
    let below = one_before high key all.below second.place second.run.points stands in
    let moved = c.in_ok-value.ensures.passes key there in
    let same =
    ap (passed_back key) moved
    ∙ ap {B = Standing} (λ (n : ℕ). record { run = second.run; place = n }) (twice second.place (seek_place second.run.points key false) below) in
    c.pass_each.ensures ∙ map_set (passed_back key) cursors place c.index-cursors-place.result _ lt same
  where
    twice : (n s : ℕ) → min n s ≡ s → min s s ≡ min n s
    twice n s e = omega (arith, e)

pub returns-clause-runs : goal.returns-clause-runs
returns-clause-runs g c =
    let cursors = c.args.cursors.now in
    let place = c.in_ok-place.place in
    let key = c.in_ok-key.key.now in
    let lt : place < length cursors = c.in_ok-place.ensures.within in
    let at_it : IsAtBefore key (get_or cursors place c.index-cursors-place.result) = c.in_ok-place.ensures.there c.index-cursors-place.result in
    let there : last_key (get_or cursors place c.index-cursors-place.result) ≡ Some key = at_it.same in
    ap runs_of c.pass_each.ensures ∙ runs_passed_back key _ ∙ runs_set cursors place c.index-cursors-place.result _ lt (ap (λ (s : Standing). s.run) (c.in_ok-value.ensures.passes key there))
