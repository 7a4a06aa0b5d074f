use Rattle.std.proofs.Common.{ℕ, ◌<◌, ◌*◌, ◌-◌, Option, Some, None, subst, arith}
use Rattle.uc_log_crash.specs.Places.{places_from, block_count, IsFirst}
use Rattle.uc_log_crash.proofs.Searched.{in_this_block, in_later_block, blocks_over}
use Rattle.uc_log_crash.proofs.search.first_in_blocks.Goals as goal

pub loop-block-init : goal.loop-block-init
loop-block-init c = record { count_is = omega arith; so_far = λ found first. first }

pub returns-in-Some : goal.returns-in-Some
returns-in-Some c =
    let more : c.loop-block.block < block_count c.args.log.now = omega (arith, c.loop-block-test.true, c.loop-block.invariant.count_is) in
    let first = subst (λ (found : Option ℕ). IsFirst c.args.log.now c.args.end c.args.last (places_from c.args.log.now (32768 * c.loop-block.block)) found) c.in-Some.is c.in_ok-place.ensures in
    c.loop-block.invariant.so_far (Some c.in-Some.place) (in_this_block c.args.log.now c.args.end c.args.last (block_count c.args.log.now) c.loop-block.block c.in-Some.place more first)

pub loop-block-preserved : goal.loop-block-preserved
loop-block-preserved c =
    let more : c.loop-block.block < block_count c.args.log.now = omega (arith, c.loop-block-test.true, c.loop-block.invariant.count_is) in
    record {
      count_is = c.loop-block.invariant.count_is;
      so_far = λ found first.
          let none = subst (λ (o : Option ℕ). IsFirst c.args.log.now c.args.end c.args.last (places_from c.args.log.now (32768 * c.loop-block.block)) o) c.in_default.is c.in_ok-place.ensures in
          c.loop-block.invariant.so_far found (in_later_block c.args.log.now c.args.end c.args.last (block_count c.args.log.now) c.loop-block.block found more none first);
    }

pub returns : goal.returns
returns c =
    c.loop-block.invariant.so_far None
    (blocks_over c.args.log.now c.args.end c.args.last (block_count c.args.log.now - c.loop-block.block) c.loop-block.block (omega (arith, c.loop-block-test.false, c.loop-block.invariant.count_is)))
