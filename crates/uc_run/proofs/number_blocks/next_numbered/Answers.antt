use Rattle.std.proofs.Common.{rules, arith, ◌≡◌, ◌<◌, ◌+◌, ◌*◌, ◌/◌, min, length, get_or, ◌≢◌}
use Rattle.uc_run.proofs.LeastInBlocks.{none_below, all_joined}
use Rattle.uc_run.proofs.number_blocks.next_numbered.Goals as goal

pub loop-place-preserved-then-number-leasts : goal.loop-place-preserved-then-number-leasts
loop-place-preserved-then-number-leasts c =
    let numbers = c.args.numbers.now in
    let place = c.loop-place.place in
    let end = c.block_end-place.result in
    let ends : end ≡ min (length numbers) (16 * (place / 16) + 16) = c.block_end-place.ensures in
    let in_block : place < end = omega (arith, ends, c.loop-place-test.true) in
    record {
      within = omega (arith, ends);
      least = omega (arith, in_block, c.loop-place.invariant.least);
      before = all_joined (λ other. other ≢ c.args.number) numbers c.args.from place end c.loop-place.invariant.before
          (none_below numbers c.args.leasts.now c.requires.leasts c.args.number place (get_or c.args.leasts.now (place / 16) 0) end (search rules) (search rules) ends);
    }
