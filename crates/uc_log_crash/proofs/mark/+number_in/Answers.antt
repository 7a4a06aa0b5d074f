use Rattle.std.proofs.Common.{◌-◌, length, take, drop, arith}
use Rattle.std.proofs.lemmas.List.{length-take, length-drop}
use Rattle.uc_log_crash.proofs.Bounds.{within_eight}
use Rattle.uc_log_crash.proofs.mark.+number_in.Goals as goal

pub overflow_mul-result : goal.overflow_mul-result
overflow_mul-result t c =
    omega (arith, c.in_ok-high.ensures.small, within_eight (length (take (length c.args.bytes.now - 1) (drop 1 c.args.bytes.now))) (omega (arith, c.requires, length-drop 1 c.args.bytes.now, length-take (length c.args.bytes.now - 1) (drop 1 c.args.bytes.now))))

pub overflow_add-result : goal.overflow_add-result
overflow_add-result t c =
    omega (arith, c.from-low.type_inv, c.in_ok-high.ensures.small, within_eight (length (take (length c.args.bytes.now - 1) (drop 1 c.args.bytes.now))) (omega (arith, c.requires, length-drop 1 c.args.bytes.now, length-take (length c.args.bytes.now - 1) (drop 1 c.args.bytes.now))))
