use Rattle.std.proofs.Common.{◌≡◌, length, drop, ap, arith, length-append, length-drop}
use Rattle.uc_batch.specs.Unread.{bytes_ahead}
use Rattle.uc_batch.proofs.Joining.{next_passed}
use Rattle.uc_batch.proofs.unread.Unread.skip.Goals as goal

pub loop-self-preserved : goal.loop-self-preserved
loop-self-preserved c =
    let s = c.loop-self.self in
    let next = c.in-Some.next.items in
    let behind = c.pop_first.new.self in
    let long : c.len-in-loop-self.result ≡ length s.piece.items = omega arith in
    record {
      within = omega arith;
      ahead = omega (arith, long, ap length c.in-Some.ensures.some.0, length-append next behind, length-append (drop s.at s.piece.items) s.rest, length-drop s.at s.piece.items);
      same = next_passed s.piece.items s.rest next behind (drop c.args.size (bytes_ahead c.args.self.now)) c.len-in-loop-self.result s.at c.loop-self.left long (omega (arith, c.loop-self-test.true)) c.in-Some.ensures.some.0 c.loop-self.invariant.same;
    }
