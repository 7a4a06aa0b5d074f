use Rattle.std.proofs.Common.{length, drop, refl, sym, rules}
use Rattle.std.proofs.lemmas.Bool.{le-ltb}
use Rattle.uc_batch.specs.Batch.{writes_in, AreCounted}
use Rattle.uc_batch.proofs.Again.{by_parts}
use Rattle.uc_batch.proofs.Counted.{counted_is}
use Rattle.uc_batch.proofs.batch_writes.judge_batch.Goals as goal

pub returns-clause-value : goal.returns-clause-value
returns-clause-value c =
    let bytes = c.args.bytes.now in
    let h = c.in-Some.header in
    let counted : AreCounted h.count (length bytes) (drop 12 bytes) = search rules in
    by_parts c.args.last h.sequence h.count bytes (drop 12 bytes) (writes_in h.sequence bytes) (le-ltb _ _ c.in-Some.ensures.long) (sym c.in-Some.ensures.sequence) (sym c.in-Some.ensures.count) refl c.in_ok-judge.ensures.value (counted_is h.sequence h.count (length bytes) (drop 12 bytes) counted)
