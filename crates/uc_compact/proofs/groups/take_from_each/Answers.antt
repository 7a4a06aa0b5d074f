use Rattle.std.proofs.Common.{◌≡◌, ◌<◌, ◌≤◌, ◌+◌, ◌∙◌, ℕ, length, map, drop, set, List, ap, subst, option_map, refl, arith}
use Rattle.std.proofs.lemmas.List.{length-map, length-set}
use Rattle.uc_run_entry.specs.declared.entry.Entry.{Entry}
use Rattle.uc_run_entry.proofs.Written.{written}
use Rattle.uc_run.specs.Heads.{NextKeys}
use Rattle.uc_compact.specs.Heads.{first_key, first_named}
use Rattle.uc_compact.proofs.NextKeys.{moved, passed_to, gathered_lasting}
use Rattle.uc_compact.proofs.groups.take_from_each.Goals as goal

pub loop-place-init : goal.loop-place-init
loop-place-init c =
    let old = c.args.cursors.now in
    let before = c.args.points.now.items in
    let within : c.next_at-place.result ≤ length old = subst (λ (n : ℕ). c.next_at-place.result ≤ n) (ap length c.requires.keys ∙ length-map old first_key) c.next_at-place.ensures.bound.1 in
    record {
      within = within;
      taken = passed_to c.args.keeps.now c.args.head.key.now c.args.heads.now.keys old old c.requires.keys 0 c.next_at-place.result (omega arith) within refl c.next_at-place.ensures.before before before (refl, refl);
      heads = c.requires.keys;
      front = refl;
    }

pub loop-place-preserved : goal.loop-place-preserved
loop-place-preserved c =
    let key = c.args.head.key.now in
    let old = c.args.cursors.now in
    let now = c.loop-place.cursors in
    let place = c.loop-place.place in
    let next = c.next_at-place-in-loop-place.result in
    let own = c.take_named.new.self in
    let left = λ (ps : List Entry). drop (first_named key ps) ps in
    let before = c.args.points.now.items in
    let so_far = c.loop-place.points.items in
    let more = c.take_named.new.points.items in
    let lt : place < length old = subst (λ (n : ℕ). place < n) c.loop-place.auto.cursors c.loop-place-test.true in
    let beside : c.set.new.self.keys ≡ map first_key (set now place own) =
    ap (λ (h : NextKeys). h.keys) c.set.ensures
    ∙ moved c.loop-place.heads.keys now place own (option_map (λ k. k.now) c.key.result) c.loop-place.invariant.heads c.key.ensures in
    let long : length (set now place own) ≡ length old = length-set now place own ∙ c.loop-place.auto.cursors in
    let within : next ≤ length old = subst (λ (n : ℕ). next ≤ n) (ap length beside ∙ length-map (set now place own) first_key ∙ long) c.next_at-place-in-loop-place.ensures.bound.1 in
    record {
      within = within;
      taken =
          passed_to c.args.keeps.now key c.set.new.self.keys old (set now place own) beside (place + 1) next c.next_at-place-in-loop-place.ensures.bound.0 within long c.next_at-place-in-loop-place.ensures.before before more (
            written left old now place _ own lt c.loop-place.invariant.taken.0 c.in_ok-take_named.ensures.left,
            gathered_lasting c.args.keeps.now key old now place _ before so_far more lt c.loop-place.invariant.taken.0 c.loop-place.invariant.taken.1 c.in_ok-take_named.ensures.taken,
          );
      heads = beside;
      front = ap (λ (h : NextKeys). h.front) c.set.ensures ∙ c.loop-place.invariant.front;
    }
