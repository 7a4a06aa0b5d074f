use Rattle.std.proofs.Common.{rules, ◌≡◌, ◌≢◌, ◌≤◌, ◌+◌, ℕ, List, Option, Some, false, length, map, option_map, sym, ◌∙◌, arith}
use Rattle.std.proofs.lemmas.Bool.{false≢true}
use Rattle.std.proofs.lemmas.List.{length-map}
use Rattle.std.proofs.lemmas.List.Elements.{AllWithin-more}
use Rattle.uc_run.proofs.LeastInBlocks.{all_joined}
use Rattle.uc_run.proofs.LeastNumber.{as_long}
use Rattle.uc_run.proofs.NextHead.{other_keys, holds_mapped}
use Rattle.uc_run.proofs.heads.next_of.Goals as goal

pub loop-walk-init : goal.loop-walk-init
loop-walk-init c =
    let f = option_map (λ k. k.now) in
    let keys = c.args.keys.now in
    let front = c.requires.numbered.0 in
    let held = c.requires.numbered.1 in
    let long : length c.args.numbers.now ≡ length keys = as_long f front c.args.head.number keys c.args.numbers.now held.each in
    let bound : c.next-walk.result ≤ length keys = omega (arith, long, c.next-walk.ensures.bound.1) in
    record {
      from = c.next-walk.ensures.bound.0;
      within = bound;
      before =
          other_keys front c.args.head.key.now c.args.head.number (map f keys) c.args.numbers.now c.args.from c.next-walk.result held.each c.requires.numbered.2
          (omega (arith, bound, length-map keys f)) c.next-walk.ensures.before;
    }

pub loop-walk-preserved : goal.loop-walk-preserved
loop-walk-preserved c =
    let f = option_map (λ k. k.now) in
    let keys = c.args.keys.now in
    let key = c.args.head.key.now in
    let front = c.requires.numbered.0 in
    let held = c.requires.numbered.1 in
    let walk = c.loop-walk.walk in
    let next = c.next-walk-in-loop-walk.result in
    let other = λ (k : Option (List ℕ)). k ≢ Some key in
    let not : c.is_key.result ≡ false = search rules in
    let long : length c.args.numbers.now ≡ length keys = as_long f front c.args.head.number keys c.args.numbers.now held.each in
    let bound : next ≤ length keys = omega (arith, long, c.next-walk-in-loop-walk.ensures.bound.1) in
    record {
      from = omega (arith, c.loop-walk.invariant.from, c.next-walk-in-loop-walk.ensures.bound.0);
      within = bound;
      before =
          all_joined other (map f keys) c.args.from (walk + 1) next
          (AllWithin-more other (map f keys) c.args.from walk c.loop-walk.invariant.before
          (holds_mapped f other keys walk _ c.loop-walk-test.true (λ same. false≢true (sym not ∙ c.is_key.ensures.1 same))))
          (other_keys front key c.args.head.number (map f keys) c.args.numbers.now (walk + 1) next held.each c.requires.numbered.2 (omega (arith, bound, length-map keys f)) c.next-walk-in-loop-walk.ensures.before);
    }
