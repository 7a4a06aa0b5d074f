use Rattle.std.proofs.Common.{length, option_map, subst, sym, ◌<◌, ◌≤◌, ◌+◌, ℕ, arith, None}
use Rattle.uc_run.proofs.LeastNumber.{as_long, lesser_more, others_to, least_of_all, number_of_least}
use Rattle.uc_run.proofs.heads.least_of.Goals as goal

pub loop-walk-init : goal.loop-walk-init
loop-walk-init c =
    let keys = c.args.keys.now in
    let long = as_long (option_map (λ k. k.now)) c.requires.numbered.0 c.args.low keys c.args.numbers.now c.requires.numbered.1.each in
    record {
      within = c.next-walk.ensures.bound.1;
      there = c.next-walk.ensures.there;
      least = λ front held.
          others_to (option_map (λ k. k.now)) front c.args.low keys c.args.numbers.now held.each 0 c.next-walk.result None None (omega arith)
          (subst (λ (n : ℕ). c.next-walk.result ≤ n) long c.next-walk.ensures.bound.1) c.next-walk.ensures.before tt;
    }

pub returns : goal.returns
returns c =
    let front = c.requires.numbered.0 in
    let held = c.requires.numbered.1 in
    record {
      least =
          least_of_all (option_map (λ k. k.now)) front c.args.low c.args.keys.now c.args.numbers.now held.each c.loop-walk.walk (option_map (λ k. k.now) c.loop-walk.least) c.loop-walk-test.false
          c.requires.low.lower c.requires.low.there held.bytes (c.loop-walk.invariant.least front held);
      number = λ front held.
          number_of_least (option_map (λ k. k.now)) front c.args.low c.args.keys.now c.args.numbers.now held.each c.loop-walk.walk (option_map (λ k. k.now) c.loop-walk.least) c.loop-walk-test.false
          (c.loop-walk.invariant.least front held);
    }

pub loop-walk-preserved : goal.loop-walk-preserved
loop-walk-preserved c =
    let keys = c.args.keys.now in
    let long = as_long (option_map (λ k. k.now)) c.requires.numbered.0 c.args.low keys c.args.numbers.now c.requires.numbered.1.each in
    let walk = c.loop-walk.walk in
    let lt : walk < length c.args.numbers.now = subst (λ (n : ℕ). walk < n) (sym long) c.loop-walk-test.true in
    record {
      within = c.next-walk-in-loop-walk.ensures.bound.1;
      there = c.next-walk-in-loop-walk.ensures.there;
      least = λ front held.
          others_to (option_map (λ k. k.now)) front c.args.low keys c.args.numbers.now held.each (walk + 1) c.next-walk-in-loop-walk.result None (option_map (λ k. k.now) c.lesser-least.result) c.next-walk-in-loop-walk.ensures.bound.0
          (subst (λ (n : ℕ). c.next-walk-in-loop-walk.result ≤ n) long c.next-walk-in-loop-walk.ensures.bound.1) c.next-walk-in-loop-walk.ensures.before
          (lesser_more (option_map (λ k. k.now)) front c.args.low keys c.args.numbers.now held.each walk _ (option_map (λ k. k.now) c.loop-walk.least) (option_map (λ k. k.now) c.lesser-least.result)
          c.loop-walk-test.true (c.loop-walk.invariant.there lt 0) c.lesser-least.ensures (c.loop-walk.invariant.least front held));
    }
