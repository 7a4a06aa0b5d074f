use Rattle.std.proofs.Common.{◌≡◌, ◌≢◌, ◌+◌, ◌-◌, ◌<◌, ◌++◌, ℕ, false, List, Some, None, length, get_or, map, take, drop, option_map, refl, sym, ap, ◌∙◌, subst, arith}
use Rattle.std.specs.List.{AllByRecursion}
use Rattle.std.proofs.lemmas.List.{take_all, take-append-drop}
use Rattle.std.proofs.lemmas.List.Elements.{All-from_recursion}
use Rattle.uc_oper.specs.Composition.{applied}
use Rattle.uc_oper.specs.declared.effect.Effect.{Effect}
use Rattle.uc_oper.specs.declared.effect.Effect.TheVariants.{Keep, Set}
use Rattle.uc_model.specs.Meaning.{effect_on}
use Rattle.uc_compact.specs.Inputs.{points_of, writes_of}
use Rattle.uc_run.specs.Cursors.{Standing, has_ranges}
use Rattle.uc_run.specs.Heads.{next_key, IsLeast}
use Rattle.uc_run.specs.NextKey.{IsNextKey}
use Rattle.uc_query_read.specs.Walks.{runs_of, passed, StandsAt, IsOfRun}
use Rattle.uc_query_read.proofs.Alone.{all_keep, below_least, lesser_below, runs_set, same_element, without_all}
use Rattle.uc_query_read.proofs.Beside.{least_is_next}
use Rattle.uc_query_read.proofs.Effects.{one_older}
use Rattle.uc_query_read.proofs.Hiding.{all_taken}
use Rattle.uc_query_read.proofs.LeastKeys.{least_step}
use Rattle.uc_query_read.proofs.Oldest.{all_next, all_stay, last_moved}
use Rattle.uc_query_read.proofs.Standing.{at_place, one_behind}
use Rattle.uc_query_read.proofs.walkers.next_alone.Goals as goal

pub returns-clause-next : goal.returns-clause-next
returns-clause-next g c low strict stand =
    let cursors = c.args.cursors.now in
    let last = c.in_ok-last.last in
    let key = c.in_ok-key.key.now in
    let newer = option_map (λ head. head.key.now) c.args.newer in
    let oldest = get_or cursors last c.index-cursors-last.result in
    let whole : last + 1 ≡ length cursors = omega (arith, c.in_ok-last.ensures) in
    let lt : last < length cursors = omega (arith, whole) in
    let is : oldest ≡ get_or cursors last oldest = same_element cursors last c.index-cursors-last.result oldest lt in
    let before_it : length cursors - 1 ≡ last = omega (arith, whole) in
    let least = subst (λ (n : ℕ). IsLeast (map next_key (take n cursors)) newer) before_it c.requires.least in
    let before : IsNextKey (points_of (runs_of (take last cursors))) low strict newer =
    least_is_next low strict c.keys_at_places_are_next.ensures (take last cursors) newer (all_taken IsOfRun last cursors c.requires.of_runs)
    (all_taken (StandsAt low strict) last cursors stand) least in
    let own : IsNextKey oldest.run.points low strict (Some key) = c.in_ok-key.ensures.next low strict (at_place low strict cursors last oldest lt is stand) in
    let all : take (last + 1) cursors ≡ cursors = take_all (last + 1) cursors (omega (arith, whole)) in
    subst (λ (cs : List Standing). IsNextKey (points_of (runs_of cs)) low strict (Some key)) all
    (least_step low strict (λ s. s.run) cursors last oldest newer (Some key) (Some key) lt is before own
    (lesser_below key newer (sym c.is_before.ensures ∙ c.if-not-is_before.false)))

pub returns-clause-value : goal.returns-clause-value
returns-clause-value g c stand =
    let m = g.O.Operator.meaning in
    let at = c.args.at in
    let cursors = c.args.cursors.now in
    let last = c.in_ok-last.last in
    let key = c.in_ok-key.key.now in
    let value = c.in_ok-value.value.now in
    let newer = option_map (λ head. head.key.now) c.args.newer in
    let first = get_or cursors last c.index-cursors-last.result in
    let oldest = get_or cursors last c.index-cursors-last-2.result in
    let whole : last + 1 ≡ length cursors = omega (arith, c.in_ok-last.ensures) in
    let lt : last < length cursors = omega (arith, whole) in
    let is : oldest ≡ get_or cursors last oldest = same_element cursors last c.index-cursors-last-2.result oldest lt in
    let same : first ≡ oldest = same_element cursors last c.index-cursors-last.result c.index-cursors-last-2.result lt in
    let before_it : length cursors - 1 ≡ last = omega (arith, whole) in
    let newers = take last cursors in
    let least = subst (λ (n : ℕ). IsLeast (map next_key (take n cursors)) newer) before_it c.requires.least in
    let others = all_next (λ k. k ≢ Some key) newers (below_least key (map next_key newers) newer least (sym c.is_before.ensures ∙ c.if-not-is_before.false)) in
    let plain : AllByRecursion (λ s. has_ranges s ≡ false) cursors = c.requires.plain in
    let kept : effect_on m (writes_of (runs_of newers)) key at ≡ Keep =
    all_keep m c.effects_of_parts_compose.ensures c.other_keys_are_kept.ensures c.keys_at_places_are_next.ensures key at newers
    (all_taken (StandsAt key false) last cursors stand) (all_taken IsOfRun last cursors c.requires.of_runs) others
    (without_all newers (all_taken (λ s. has_ranges s ≡ false) last cursors plain)) in
    let next : next_key oldest ≡ Some key = ap next_key (sym same) ∙ sym c.in_ok-key.ensures.there in
    let none : has_ranges oldest ≡ false = subst (λ (s : Standing). has_ranges s ≡ false) (sym is) (All-from_recursion (λ s. has_ranges s ≡ false) cursors plain last oldest lt) in
    let sets = c.in_ok-value.ensures.puts key next (at_place key false cursors last oldest lt is stand) none in
    let all : take (last + 1) cursors ≡ cursors = take_all (last + 1) cursors (omega (arith, whole)) in
    let effect : effect_on m (writes_of (runs_of cursors)) key at ≡ Set (Some value) =
    ap (λ (cs : List Standing). effect_on m (writes_of (runs_of cs)) key at) (sym all)
    ∙ sym (one_older (λ s. s.run) m c.effects_of_parts_compose.ensures key at cursors last oldest oldest.run (Set (Some value)) Keep (Set (Some value)) lt
    is refl (sym sets) (sym kept) refl) in
    sym (c.effect_gives_value.ensures.none (writes_of (runs_of cursors)) key at) ∙ ap (λ (e : Effect). applied m e None) effect

pub returns-clause-passes : goal.returns-clause-passes
returns-clause-passes g c stand =
    let cursors = c.args.cursors.now in
    let last = c.in_ok-last.last in
    let key = c.in_ok-key.key.now in
    let newer = option_map (λ head. head.key.now) c.args.newer in
    let first = get_or cursors last c.index-cursors-last.result in
    let oldest = get_or cursors last c.index-cursors-last-2.result in
    let whole : last + 1 ≡ length cursors = omega (arith, c.in_ok-last.ensures) in
    let lt : last < length cursors = omega (arith, whole) in
    let is : oldest ≡ get_or cursors last oldest = same_element cursors last c.index-cursors-last-2.result oldest lt in
    let same : first ≡ oldest = same_element cursors last c.index-cursors-last.result c.index-cursors-last-2.result lt in
    let before_it : length cursors - 1 ≡ last = omega (arith, whole) in
    let newers = take last cursors in
    let least = subst (λ (n : ℕ). IsLeast (map next_key (take n cursors)) newer) before_it c.requires.least in
    let others = all_next (λ k. k ≢ Some key) newers (below_least key (map next_key newers) newer least (sym c.is_before.ensures ∙ c.if-not-is_before.false)) in
    let stay = all_stay key c.keys_at_places_are_next.ensures newers (all_taken IsOfRun last cursors c.requires.of_runs) (all_taken (StandsAt key false) last cursors stand) others in
    let next : next_key oldest ≡ Some key = ap next_key (sym same) ∙ sym c.in_ok-key.ensures.there in
    let there = one_behind key oldest.place oldest.run.points (at_place key false cursors last oldest lt is stand) in
    let made = c.in_ok-value.ensures.passes key next ∙ sym (ap {B = Standing} (λ (n : ℕ). record { run = oldest.run; place = n }) there) ∙ ap (passed key) is in
    last_moved (passed key) cursors cursors last oldest _ whole (sym (take-append-drop last cursors) ∙ ap (λ (cs : List Standing). cs ++ drop last cursors) stay) made

pub returns-clause-runs : goal.returns-clause-runs
returns-clause-runs g c =
    let cursors = c.args.cursors.now in
    let last = c.in_ok-last.last in
    let key = c.in_ok-key.key.now in
    let first = get_or cursors last c.index-cursors-last.result in
    let oldest = get_or cursors last c.index-cursors-last-2.result in
    let whole : last + 1 ≡ length cursors = omega (arith, c.in_ok-last.ensures) in
    let lt : last < length cursors = omega (arith, whole) in
    let is : oldest ≡ get_or cursors last oldest = same_element cursors last c.index-cursors-last-2.result oldest lt in
    let same : first ≡ oldest = same_element cursors last c.index-cursors-last.result c.index-cursors-last-2.result lt in
    let next : next_key oldest ≡ Some key = ap next_key (sym same) ∙ sym c.in_ok-key.ensures.there in
    runs_set cursors last oldest _ lt (ap (λ (s : Standing). s.run) (c.in_ok-value.ensures.passes key next) ∙ ap (λ (s : Standing). s.run) is)
