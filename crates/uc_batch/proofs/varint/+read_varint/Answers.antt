use Rattle.std.proofs.Common.{◌-◌, arith}
use Rattle.uc_batch.proofs.Room.{room_from, room_above, room_within}
use Rattle.uc_batch.proofs.varint.+read_varint.Goals as goal

pub returns-then-low-lt128-clause-small : goal.returns-then-low-lt128-clause-small
returns-then-low-lt128-clause-small t c =
    omega (arith, room_from c.args.more c.if-more-eq0.false, room_above (c.args.more - 1), c.from-low.ensures)

pub overflow_mul-result : goal.overflow_mul-result
overflow_mul-result t c =
    omega (arith, room_from c.args.more c.if-more-eq0.false, room_within c.args.more c.requires, c.in_ok-high.ensures.small)

pub overflow_add-result : goal.overflow_add-result
overflow_add-result t c =
    omega (arith, room_from c.args.more c.if-more-eq0.false, room_within c.args.more c.requires, c.in_ok-high.ensures.small, c.from-low.ensures)
