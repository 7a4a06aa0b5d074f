use Rattle.std.proofs.Common.{◌≡◌, ◌+◌, ◌-◌, ◌<◌, ◌∙◌, List, Some, length, map, take, option_map, subst, sym, ap, arith}
use Rattle.std.specs.List.{AllByRecursion, slice_get}
use Rattle.std.proofs.lemmas.List.{take_all}
use Rattle.std.proofs.lemmas.Option.{get_or_from_slice_get, slice_get_within, IfSome_then}
use Rattle.uc_compact.specs.Inputs.{points_of}
use Rattle.uc_run.specs.Cursors.{Standing}
use Rattle.uc_run.specs.Heads.{NextKeys, IsLeast, next_key}
use Rattle.uc_run.specs.NextKey.{IsNextKey}
use Rattle.uc_query_read.specs.Walks.{Numbered, runs_of, newer_of, StandsAt, IsOfRun, IsFoundAmong}
use Rattle.uc_query_read.proofs.Beside.{least_is_next}
use Rattle.uc_query_read.proofs.Hiding.{all_taken}
use Rattle.uc_query_read.proofs.LeastKeys.{least_step}
use Rattle.uc_query_read.proofs.Oldest.{is_found}
use Rattle.uc_query_read.proofs.Standing.{at_place}
use Rattle.uc_query_read.proofs.walkers.Walkers.least.Goals as goal

pub returns-clause-next : goal.returns-clause-next
returns-clause-next c low strict stands =
    let w = c.self.inside in
    let items = w.cursors.items in
    let last = length items - 1 in
    let oldest = c.in_ok-oldest.oldest.now in
    let newer = option_map (λ head. head.key.now) w.newer in
    let own = option_map (λ k. k.now) c.key.result in
    let least = option_map (λ least. least.key.now) c.least_of.result in
    let same : items ≡ c.args.self.now.cursors = ap (λ (n : Numbered). n.cursors) c.self.view_is in
    let there : slice_get items last ≡ Some oldest = ap (λ (cs : List Standing). slice_get cs (length cs - 1)) (sym c.deref.ensures.value) ∙ sym c.in_ok-oldest.ensures.value in
    let lt : last < length items = slice_get_within items last oldest there in
    let is = sym (get_or_from_slice_get items last oldest oldest there) in
    let stand : AllByRecursion (StandsAt low strict) items = subst (AllByRecursion (StandsAt low strict)) (sym same) stands in
    let before : IsNextKey (points_of (runs_of (take last items))) low strict newer =
    least_is_next low strict c.keys_at_places_are_next.ensures (take last items) newer (all_taken IsOfRun last items c.self.invariant.of_runs)
    (all_taken (StandsAt low strict) last items stand) (subst (λ (ks : List _). IsLeast ks newer) c.self.invariant.heads c.self.invariant.least) in
    let all : take (last + 1) items ≡ items = take_all (last + 1) items (omega arith) in
    subst (λ (cs : List Standing). IsNextKey (points_of (runs_of cs)) low strict least) (all ∙ same)
    (least_step low strict (λ s. s.run) items last oldest newer own least lt is before (c.key.ensures.next low strict (at_place low strict items last oldest lt is stand)) c.least_of.ensures.key)

pub returns-clause-found : goal.returns-clause-found
returns-clause-found c =
    let w = c.self.inside in
    let heads : record { front = w.heads.front; keys = w.heads.keys } ≡ record { front = c.args.self.now.front; keys = map next_key (newer_of c.args.self.now.cursors) } =
    ap (λ (ks : List _). record { front = w.heads.front; keys = ks }) c.self.invariant.heads
    ∙ ap (λ (n : Numbered). record { front = n.front; keys = map next_key (newer_of n.cursors) }) c.self.view_is in
    IfSome_then c.least_of.result c.least_of.ensures.number
    (λ least beside.
    subst (λ (h : NextKeys). IsFoundAmong h least.key.now least.number) heads
    (is_found (λ h. (h.key.now, h.number)) w.heads.front w.heads.keys w.newer c.self.invariant.least c.self.invariant.number least.key.now least.number beside))
