use Rattle.std.proofs.Common.{rules, ◌≡◌, ◌≢◌, ◌+◌, ◌<◌, ℕ, true, false, List, Option, Some, None, length, get_or, take, option_map, refl, sym, ap, ◌∙◌, subst, arith}
use Rattle.std.specs.List.{AllWithin}
use Rattle.std.proofs.lemmas.List.{get_or-map, length-map, length-set}
use Rattle.std.proofs.lemmas.List.Elements.{All-from_recursion}
use Rattle.uc_oper.specs.declared.effect.Effect.TheVariants.{Keep, Set}
use Rattle.uc_model.specs.Meaning.{effect_on}
use Rattle.uc_run_entry.proofs.Written.{written}
use Rattle.uc_run_entry.specs.PlainList.{plain_list}
use Rattle.uc_run_entry.specs.Seek.{seek_place}
use Rattle.uc_compact.specs.Inputs.{writes_of}
use Rattle.uc_run.specs.Cursors.{Standing, has_ranges}
use Rattle.uc_run.specs.Heads.{NextKeys, next_key}
use Rattle.uc_query_read.specs.Walks.{runs_of, passed, ArePassedTo, IsOfRun, StandsAt}
use Rattle.uc_query_read.proofs.Alone.{all_keep, same_element, taken_others, without_all}
use Rattle.uc_query_read.proofs.Beside.{moved, nowhere, passed_to}
use Rattle.uc_query_read.proofs.Effects.{one_older, set_stays}
use Rattle.uc_query_read.proofs.Hiding.{all_taken}
use Rattle.uc_query_read.proofs.Standing.{at_place, one_behind}
use Rattle.uc_query_read.proofs.passing.take_there.Goals as goal

pub pass_from-requires-clause-heads : goal.pass_from-requires-clause-heads
pass_from-requires-clause-heads g c =
    ap (λ (h : NextKeys). h.keys) c.set.ensures
    ∙ moved c.args.heads.now.keys c.args.cursors.now c.next_at-first.result c.next_put.new.self (option_map (λ k. k.now) c.key.result) c.requires.heads c.key.ensures.there

pub returns-clause-puts : goal.returns-clause-puts
returns-clause-puts g c =
    let m = g.O.Operator.meaning in
    let at = c.args.at in
    let key = c.args.head.key.now in
    let cursors = c.args.cursors.now in
    let first = c.next_at-first.result in
    let value = c.in_ok-value.value.now in
    let lt : first < length cursors = search rules in
    let own = get_or cursors first nowhere in
    let is : own ≡ get_or cursors first own = same_element cursors first nowhere own lt in
    let same : get_or cursors first c.index-cursors-first.result ≡ own = same_element cursors first c.index-cursors-first.result nowhere lt in
    let next : next_key own ≡ Some key =
    sym (get_or-map next_key cursors first nowhere None lt)
    ∙ ap (λ (ks : List (Option (List ℕ))). get_or ks first None) (sym c.requires.heads)
    ∙ c.next_at-first.ensures.there (omega (arith, lt, ap length c.requires.heads, length-map cursors next_key)) None in
    let stands = at_place key false cursors first own lt is c.requires.stand in
    let none : has_ranges own ≡ false = subst (λ (s : Standing). has_ranges s ≡ false) (sym is) (All-from_recursion (λ s. has_ranges s ≡ false) cursors c.requires.plain first own lt) in
    let sets = subst (λ (s : Standing). (key : List ℕ) → next_key s ≡ Some key → s.place ≡ seek_place s.run.points key false → has_ranges s ≡ false → effect_on m (plain_list s.run) key at ≡ Set (Some value)) same c.in_ok-value.ensures.puts key next stands none in
    let newers = take first cursors in
    let before = subst (λ (ks : List (Option (List ℕ))). AllWithin (λ k. k ≢ Some key) ks 0 first) c.requires.heads c.next_at-first.ensures.before in
    let kept : effect_on m (writes_of (runs_of newers)) key at ≡ Keep =
    all_keep m c.effects_of_parts_compose.ensures c.other_keys_are_kept.ensures c.keys_at_places_are_next.ensures key at newers
    (all_taken (StandsAt key false) first cursors c.requires.stand) (all_taken IsOfRun first cursors c.requires.of_runs) (taken_others key cursors first before (omega (arith, lt)))
    (without_all newers (all_taken (λ s. has_ranges s ≡ false) first cursors c.requires.plain)) in
    let parts = c.effects_of_parts_compose.ensures in
    let so_far = one_older (λ s. s.run) m parts key at cursors first own own.run (Set (Some value)) Keep (Set (Some value)) lt is refl (sym sets) (sym kept) refl in
    set_stays (λ s. s.run) m parts key at cursors (first + 1) (Set (Some value)) refl (sym so_far)

pub returns-clause-cursors : goal.returns-clause-cursors
returns-clause-cursors g c =
    let key = c.args.head.key.now in
    let cursors = c.args.cursors.now in
    let first = c.next_at-first.result in
    let moved = c.next_put.new.self in
    let lt : first < length cursors = search rules in
    let own = get_or cursors first nowhere in
    let is : own ≡ get_or cursors first own = same_element cursors first nowhere own lt in
    let same : get_or cursors first c.index-cursors-first.result ≡ own = same_element cursors first c.index-cursors-first.result nowhere lt in
    let next : next_key own ≡ Some key =
    sym (get_or-map next_key cursors first nowhere None lt)
    ∙ ap (λ (ks : List (Option (List ℕ))). get_or ks first None) (sym c.requires.heads)
    ∙ c.next_at-first.ensures.there (omega (arith, lt, ap length c.requires.heads, length-map cursors next_key)) None in
    let there = one_behind key own.place own.run.points (at_place key false cursors first own lt is c.requires.stand) in
    let passes = subst (λ (s : Standing). (key : List ℕ) → next_key s ≡ Some key → moved ≡ record { run = s.run; place = seek_place s.run.points key true }) same c.in_ok-value.ensures.passes key next in
    let made : moved ≡ passed key (get_or cursors first nowhere) = passes ∙ sym (ap {B = Standing} (λ (n : ℕ). record { run = own.run; place = n }) there) in
    let before = c.next_at-first.ensures.before in
    let so_far : ArePassedTo key cursors cursors first =
    passed_to key c.keys_at_places_are_next.ensures c.args.heads.now.keys cursors cursors c.requires.heads c.requires.stand c.requires.of_runs refl 0 first (omega arith) (omega (arith, lt)) before refl in
    c.pass_from.ensures.cursors cursors c.requires.stand c.requires.of_runs (length-set cursors first moved)
    (written (passed key) cursors cursors first nowhere moved lt so_far made)
