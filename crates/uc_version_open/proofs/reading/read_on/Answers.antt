use Rattle.std.proofs.Common.{List, ◌++◌, ap, sym, ◌∙◌, arith}
use Rattle.uc_bytes.specs.declared.write.Write.{Write}
use Rattle.uc_batch.specs.Rising.{last_of}
use Rattle.uc_version_open.specs.Progress.{progress_of}
use Rattle.uc_version_open.proofs.Taking.{on_batch}
use Rattle.uc_version_open.proofs.reading.read_on.Goals as goal

pub returns-then-waiting-ge-ROUND-clause-on : goal.returns-then-waiting-ge-ROUND-clause-on
returns-then-waiting-ge-ROUND-clause-on g c =
    let l = c.loop-opener in
    let comes = rw c.in-Batch.is at c.in_ok-advance.ensures.ok in
    let inserted = c.in_ok-insert_batch-in-Batch.ensures in
    on_batch l.batches c.advance.new.self l.opener c.insert_batch.new.opener l.invariant.on comes
    (λ options before is. inserted.taken options before is ∙ ap (λ (ws : List Write). progress_of options (before ++ ws)) c.writes.ensures) inserted.stay

pub loop-opener-preserved : goal.loop-opener-preserved
loop-opener-preserved g c =
    let l = c.loop-opener in
    let comes = rw c.in-Batch.is at c.in_ok-advance.ensures.ok in
    let inserted = c.in_ok-insert_batch-in-Batch.ensures in
    record {
      as_far = inserted.last ∙ ap (last_of l.opener.last) c.writes.ensures ∙ ap (λ n. last_of n c.advance.new.self.batch) l.invariant.as_far ∙ sym comes.last;
      on = on_batch l.batches c.advance.new.self l.opener c.insert_batch.new.opener l.invariant.on comes
          (λ options before is. inserted.taken options before is ∙ ap (λ (ws : List Write). progress_of options (before ++ ws)) c.writes.ensures) inserted.stay;
      fewer = omega (arith, comes.fewer, l.invariant.fewer);
    }
