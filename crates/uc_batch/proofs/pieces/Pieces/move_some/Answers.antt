use Rattle.std.proofs.Common.{◌≤◌, ◌<◌, ℕ, List, length, take, ap, arith}
use Rattle.uc_batch.specs.Pieces.{bytes_of}
use Rattle.uc_batch.proofs.Joining.{moved_part}
use Rattle.uc_batch.proofs.pieces.Pieces.move_some.Goals as goal

pub returns-in_ok-extend_from_slice-clause-same : goal.returns-in_ok-extend_from_slice-clause-same
returns-in_ok-extend_from_slice-clause-same c =
    let first = c.in-Some.first.now in
    let within : c.args.most ≤ length first.items = omega arith in
    let some : 0 < length c.self.inside.pieces.items = c.in-Some.ensures.item.3.0 in
    rw (← c.self.view_is) (moved_part c.self.inside.pieces.items first c.args.target.now.items c.extend_from_slice.new.self.items (bytes_of c.cut_first.new.pieces.items) (take c.args.most c.deref.result.now) c.args.most some c.in-Some.ensures.lookup within (ap (λ (l : List ℕ). take c.args.most l) c.deref.ensures.value) c.in_ok-extend_from_slice.ensures.items c.cut_first.ensures.bytes)
