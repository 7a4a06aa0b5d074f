use Rattle.std.proofs.Common.{◌≡◌, ◌<◌, ◌≤◌, ◌+◌, ◌++◌, ◌∙◌, ℕ, List, length, map, drop, set, ap, subst, option_map, refl, arith}
use Rattle.std.proofs.lemmas.List.{append-nil, drop_all, length-map, length-set, take_all}
use Rattle.uc_run.specs.Cursors.{Standing}
use Rattle.uc_run.specs.Heads.{NextKeys, next_key}
use Rattle.uc_run_entry.proofs.Written.{written}
use Rattle.uc_query_read.specs.Walks.{passed}
use Rattle.uc_query_read.proofs.Beside.{moved, passed_to}
use Rattle.uc_query_read.proofs.passing.pass_from.Goals as goal

pub loop-place-init : goal.loop-place-init
loop-place-init c =
    let old = c.args.cursors.now in
    let within : c.next_at-place.result ≤ length old = subst (λ (n : ℕ). c.next_at-place.result ≤ n) (ap length c.requires.heads ∙ length-map old next_key) c.next_at-place.ensures.bound.1 in
    record {
      within = within;
      cursors = λ all stand of_runs long is.
          passed_to c.args.head.key.now c.keys_at_places_are_next.ensures c.args.heads.now.keys all old c.requires.heads stand of_runs long c.args.from c.next_at-place.result c.next_at-place.ensures.bound.0 (omega (arith, within, long))
          c.next_at-place.ensures.before is;
      heads = c.requires.heads;
      front = refl;
    }

pub loop-place-preserved : goal.loop-place-preserved
loop-place-preserved c =
    let key = c.args.head.key.now in
    let old = c.args.cursors.now in
    let now = c.loop-place.cursors in
    let place = c.loop-place.place in
    let next = c.next_at-place-in-loop-place.result in
    let own = c.pass.new.self in
    let lt : place < length old = subst (λ (n : ℕ). place < n) c.loop-place.auto.cursors c.loop-place-test.true in
    let beside : c.set.new.self.keys ≡ map next_key (set now place own) =
    ap (λ (h : NextKeys). h.keys) c.set.ensures
    ∙ moved c.loop-place.heads.keys now place own (option_map (λ k. k.now) c.key.result) c.loop-place.invariant.heads c.key.ensures.there in
    let long : length (set now place own) ≡ length old = length-set now place own ∙ c.loop-place.auto.cursors in
    let within : next ≤ length old = subst (λ (n : ℕ). next ≤ n) (ap length beside ∙ length-map (set now place own) next_key ∙ long) c.next_at-place-in-loop-place.ensures.bound.1 in
    record {
      within = within;
      cursors = λ all stand of_runs same is.
          passed_to key c.keys_at_places_are_next.ensures c.set.new.self.keys all (set now place own) beside stand of_runs (long ∙ same) (place + 1) next c.next_at-place-in-loop-place.ensures.bound.0 (omega (arith, within, same))
          c.next_at-place-in-loop-place.ensures.before (written (passed key) all now place _ own (omega (arith, lt, same)) (c.loop-place.invariant.cursors all stand of_runs same is) c.pass.ensures);
      heads = beside;
      front = ap (λ (h : NextKeys). h.front) c.set.ensures ∙ c.loop-place.invariant.front;
    }

pub returns-clause-cursors : goal.returns-clause-cursors
returns-clause-cursors c all stand of_runs same is =
    let key = c.args.head.key.now in
    let place = c.loop-place.place in
    let ends : length all ≤ place = let over = c.loop-place-test.false in omega (arith, over, same, c.loop-place.auto.cursors) in
    c.loop-place.invariant.cursors all stand of_runs same is
    ∙ ap (λ (cs : List Standing). map (passed key) cs ++ drop place all) (take_all place all ends)
    ∙ ap (λ (cs : List Standing). map (passed key) all ++ cs) (drop_all place all ends)
    ∙ append-nil (map (passed key) all)
