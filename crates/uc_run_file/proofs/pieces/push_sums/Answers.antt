use Rattle.std.proofs.Common.{◌++◌}
use Rattle.uc_run_file.proofs.PieceSums.{none_summed, one_summed}
use Rattle.uc_run_file.proofs.pieces.push_sums.Goals as goal

pub loop-init : goal.loop-init
loop-init c = none_summed (c.args.first.now ++ c.args.second.now) c.args.table.now.items

pub loop-preserved : goal.loop-preserved
loop-preserved c =
    one_summed (c.args.first.now ++ c.args.second.now) (c.loop.rest.first.now ++ c.loop.rest.second.now) (c.sum_front-sum.result.1.first.now ++ c.sum_front-sum.result.1.second.now)
    c.args.table.now.items c.loop.table.items c.push_half.new.bytes.items c.loop.counter c.sum_front-sum.result.0 c.piece_len.result
    c.loop.invariant c.piece_len.ensures.len c.sum_front-sum.ensures.sum c.sum_front-sum.ensures.rest c.in_ok-push_half.ensures
