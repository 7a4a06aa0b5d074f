use Rattle.std.proofs.Common.{◌≡◌, ◌+◌, ◌<◌, ◌++◌, ℕ, true, false, List, Some, None, length, get_or, take, drop, option_map, refl, sym, ap, ◌∙◌, subst, arith}
use Rattle.std.proofs.lemmas.List.{take_all, take-append-drop}
use Rattle.std.proofs.lemmas.List.Elements.{All-from_recursion}
use Rattle.uc_oper.specs.Composition.{applied}
use Rattle.uc_oper.specs.declared.effect.Effect.{Effect}
use Rattle.uc_oper.specs.declared.effect.Effect.TheVariants.{Keep, Set}
use Rattle.uc_model.specs.Meaning.{effect_on}
use Rattle.uc_compact.specs.Inputs.{points_of, writes_of}
use Rattle.uc_run_entry.specs.Seek.{seek_place}
use Rattle.uc_run.specs.BackCursors.{last_key, IsGreatestKey, IsPreviousKey}
use Rattle.uc_run.specs.Cursors.{Standing, has_ranges}
use Rattle.uc_query_read.specs.Back.{is_above_other, passed_back, StandsBelow}
use Rattle.uc_query_read.specs.Walks.{runs_of, IsOfRun}
use Rattle.uc_query_read.proofs.Alone.{runs_set, same_element}
use Rattle.uc_query_read.proofs.BackAlone.{greater_is, after_greatest, are_lower, all_stay_back, all_keep_back}
use Rattle.uc_query_read.proofs.BackKeys.{greatest_step}
use Rattle.uc_query_read.proofs.BackStanding.{one_before}
use Rattle.uc_query_read.proofs.Effects.{one_older}
use Rattle.uc_query_read.proofs.Hiding.{all_taken}
use Rattle.uc_query_read.proofs.Oldest.{last_moved}
use Rattle.uc_query_read.proofs.back_walk.prev_alone.Goals as goal

pub returns-clause-last : goal.returns-clause-last
returns-clause-last g c high stand =
    let cursors = c.args.cursors.now in
    let last = c.in_ok-last.last in
    let key = c.in_ok-key.key.now in
    let newer = option_map (λ k. k.now) c.greatest_key-newer.result in
    let oldest = get_or cursors last c.index-cursors-last.result in
    let whole : last + 1 ≡ length cursors = omega (arith, c.in_ok-last.ensures) in
    let lt : last < length cursors = omega (arith, whole) in
    let is : oldest ≡ get_or cursors last oldest = same_element cursors last c.index-cursors-last.result oldest lt in
    let stands : StandsBelow high oldest = subst (StandsBelow high) (sym is) (All-from_recursion (StandsBelow high) cursors stand last oldest lt) in
    let newers = take last cursors in
    let before : IsPreviousKey (points_of (runs_of newers)) high newer = c.greatest_key-newer.ensures high (all_taken (StandsBelow high) last cursors stand) in
    let above : is_above_other key newer ≡ true = sym c.is_above.ensures ∙ c.if-not-is_above.false in
    let all : take (last + 1) cursors ≡ cursors = take_all (last + 1) cursors (omega (arith, whole)) in
    subst (λ (cs : List Standing). IsPreviousKey (points_of (runs_of cs)) high (Some key)) all
    (greatest_step high (λ s. s.run) cursors last oldest newer (Some key) (Some key) lt is before (c.in_ok-key.ensures.last high stands) (greater_is key newer above))

pub returns-clause-value : goal.returns-clause-value
returns-clause-value g c high stand =
    let m = g.O.Operator.meaning in
    let at = c.args.at in
    let value = c.in_ok-value.value.now in
    let cursors = c.args.cursors.now in
    let last = c.in_ok-last.last in
    let key = c.in_ok-key.key.now in
    let newer = option_map (λ k. k.now) c.greatest_key-newer.result in
    let oldest = get_or cursors last c.index-cursors-last.result in
    let whole : last + 1 ≡ length cursors = omega (arith, c.in_ok-last.ensures) in
    let lt : last < length cursors = omega (arith, whole) in
    let is : oldest ≡ get_or cursors last oldest = same_element cursors last c.index-cursors-last.result oldest lt in
    let stands : StandsBelow high oldest = subst (StandsBelow high) (sym is) (All-from_recursion (StandsBelow high) cursors stand last oldest lt) in
    let newers = take last cursors in
    let before : IsPreviousKey (points_of (runs_of newers)) high newer = c.greatest_key-newer.ensures high (all_taken (StandsBelow high) last cursors stand) in
    let above : is_above_other key newer ≡ true = sym c.is_above.ensures ∙ c.if-not-is_above.false in
    let own : IsGreatestKey oldest.run.points high key = c.in_ok-key.ensures.last high stands in
    let second = get_or cursors last c.index-cursors-last-2.result in
    let same : second ≡ oldest = same_element cursors last c.index-cursors-last-2.result c.index-cursors-last.result lt in
    let there : last_key second ≡ Some key = ap last_key same ∙ sym c.in_ok-key.ensures.there in
    let from : second.place ≡ seek_place second.run.points key true =
    subst (λ (s : Standing). s.place ≡ seek_place s.run.points key true) (sym same) (stands ∙ after_greatest high key oldest.run.points own) in
    let plain : has_ranges second ≡ false =
    subst (λ (s : Standing). has_ranges s ≡ false) (sym (same ∙ is)) (All-from_recursion (λ s. has_ranges s ≡ false) cursors c.requires.plain last oldest lt) in
    let sets = c.in_ok-value.ensures.puts key there from plain in
    let lower = are_lower high key own.below newer (points_of (runs_of newers)) above before in
    let kept : effect_on m (writes_of (runs_of newers)) key at ≡ Keep =
    all_keep_back high key own.below c.keys_at_places_are_next.ensures m c.effects_of_parts_compose.ensures c.other_keys_are_kept.ensures at newers
    (all_taken IsOfRun last cursors c.requires.of_runs) (all_taken (λ s. has_ranges s ≡ false) last cursors c.requires.plain) lower in
    let all : take (last + 1) cursors ≡ cursors = take_all (last + 1) cursors (omega (arith, whole)) in
    let effect : effect_on m (writes_of (runs_of cursors)) key at ≡ Set (Some value) =
    ap (λ (cs : List Standing). effect_on m (writes_of (runs_of cs)) key at) (sym all)
    ∙ sym (one_older (λ s. s.run) m c.effects_of_parts_compose.ensures key at cursors last second second.run (Set (Some value)) Keep (Set (Some value)) lt
    (same_element cursors last c.index-cursors-last-2.result second lt) refl (sym sets) (sym kept) refl) in
    sym (c.effect_gives_value.ensures.none (writes_of (runs_of cursors)) key at) ∙ ap (λ (e : Effect). applied m e None) effect

pub returns-clause-passes : goal.returns-clause-passes
returns-clause-passes g c high stand =
    let cursors = c.args.cursors.now in
    let last = c.in_ok-last.last in
    let key = c.in_ok-key.key.now in
    let newer = option_map (λ k. k.now) c.greatest_key-newer.result in
    let oldest = get_or cursors last c.index-cursors-last.result in
    let whole : last + 1 ≡ length cursors = omega (arith, c.in_ok-last.ensures) in
    let lt : last < length cursors = omega (arith, whole) in
    let is : oldest ≡ get_or cursors last oldest = same_element cursors last c.index-cursors-last.result oldest lt in
    let stands : StandsBelow high oldest = subst (StandsBelow high) (sym is) (All-from_recursion (StandsBelow high) cursors stand last oldest lt) in
    let newers = take last cursors in
    let before : IsPreviousKey (points_of (runs_of newers)) high newer = c.greatest_key-newer.ensures high (all_taken (StandsBelow high) last cursors stand) in
    let above : is_above_other key newer ≡ true = sym c.is_above.ensures ∙ c.if-not-is_above.false in
    let own : IsGreatestKey oldest.run.points high key = c.in_ok-key.ensures.last high stands in
    let second = get_or cursors last c.index-cursors-last-2.result in
    let same : second ≡ oldest = same_element cursors last c.index-cursors-last-2.result c.index-cursors-last.result lt in
    let there : last_key second ≡ Some key = ap last_key same ∙ sym c.in_ok-key.ensures.there in
    let lower = are_lower high key own.below newer (points_of (runs_of newers)) above before in
    let stay = all_stay_back high key own.below newers (all_taken (StandsBelow high) last cursors stand) lower in
    let place = one_before high key own.below second.place second.run.points (subst (StandsBelow high) (sym same) stands) in
    let made =
    c.in_ok-value.ensures.passes key there ∙ sym (ap {B = Standing} (λ (n : ℕ). record { run = second.run; place = n }) place)
    ∙ ap (passed_back key) (same_element cursors last c.index-cursors-last-2.result second lt) in
    last_moved (passed_back key) cursors cursors last second _ whole (sym (take-append-drop last cursors) ∙ ap (λ (cs : List Standing). cs ++ drop last cursors) stay) made

pub returns-clause-runs : goal.returns-clause-runs
returns-clause-runs g c =
    let cursors = c.args.cursors.now in
    let last = c.in_ok-last.last in
    let key = c.in_ok-key.key.now in
    let whole : last + 1 ≡ length cursors = omega (arith, c.in_ok-last.ensures) in
    let lt : last < length cursors = omega (arith, whole) in
    let second = get_or cursors last c.index-cursors-last-2.result in
    let same : second ≡ get_or cursors last c.index-cursors-last.result = same_element cursors last c.index-cursors-last-2.result c.index-cursors-last.result lt in
    let there : last_key second ≡ Some key = ap last_key same ∙ sym c.in_ok-key.ensures.there in
    runs_set cursors last second _ lt
    (ap (λ (s : Standing). s.run) (c.in_ok-value.ensures.passes key there) ∙ ap (λ (s : Standing). s.run) (same_element cursors last c.index-cursors-last-2.result second lt))
