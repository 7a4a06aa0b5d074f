use Rattle.std.proofs.Common.{arith}
use Rattle.uc_batch.proofs.Rises.{open_rising, close_rising}
use Rattle.uc_batch.proofs.writes.is_rising.Goals.{then-write-last-via-then-write-last, then-write-last-via-else-write-last+then-write-gt-MAX_SEQUENCE}
use Rattle.uc_batch.proofs.writes.is_rising.Goals as goal

pub loop-write-preserved : goal.loop-write-preserved
loop-write-preserved c =
    let l = c.loop-write in
    let ws = c.args.list.now in
    let w = c.write-item.result in (
      λ h. l.invariant.0 (close_rising l.last l.write-index ws w c.loop-write-test.true c.write-item.is (c.if-write-last.false, omega arith, h)),
      λ h. (open_rising l.last l.write-index ws w c.loop-write-test.true c.write-item.is (l.invariant.1 h)).2,
    )

pub returns-then-write-last : goal.returns-then-write-last
returns-then-write-last c =
    let l = c.loop-write in
    let ws = c.args.list.now in
    let w = c.write-item.result in (
      λ no. absurd cc,
      λ h.
          let opened = open_rising l.last l.write-index ws w c.loop-write-test.true c.write-item.is (l.invariant.1 h) in
          elim c.then-write-last.branch [
            | then-write-last-via-then-write-last b ↦ absurd (omega arith)
            | then-write-last-via-else-write-last+then-write-gt-MAX_SEQUENCE b ↦ absurd (omega arith)
          ],
    )
