use Rattle.std.proofs.Common.{◌≡◌, ◌-◌, suc, length, arith}
use Rattle.uc_batch.proofs.Joining.{AreFilled-set, extended_if_ok, unchanged_if_err, no_shorter}
use Rattle.uc_batch.proofs.pieces.extend_last.Goals as goal

pub returns-clause-ok : goal.returns-clause-ok
returns-clause-ok c =
    let long : length c.args.pieces.now.items ≡ suc (c.len-last.result - 1) = omega arith in
    extended_if_ok c.extend_from_slice.result c.args.pieces.now.items (c.len-last.result - 1) c.index_mut.result.now c.extend_from_slice.new.self c.args.bytes.now long c.index_mut.ensures.value c.extend_from_slice.ensures.items

pub returns-clause-err : goal.returns-clause-err
returns-clause-err c = unchanged_if_err c.extend_from_slice.result c.args.pieces.now.items (c.len-last.result - 1) c.index_mut.result.now c.extend_from_slice.new.self c.args.bytes.now c.index_mut.ensures.value c.extend_from_slice.ensures.items

pub returns-clause-filled : goal.returns-clause-filled
returns-clause-filled c = AreFilled-set c.args.pieces.now.items (c.len-last.result - 1) c.index_mut.result.now c.extend_from_slice.new.self c.index_mut.ensures.value (no_shorter c.extend_from_slice.result c.index_mut.result.now.items c.extend_from_slice.new.self.items c.args.bytes.now c.extend_from_slice.ensures.items)
