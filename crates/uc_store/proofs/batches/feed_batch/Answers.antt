use Rattle.std.proofs.Common.{◌≡◌, ◌+◌, List, length, refl, ap, sym, subst, arith}
use Rattle.std.proofs.lemmas.Bool.{false≢true}
use Rattle.uc_bytes.specs.declared.op.Op.{Op}
use Rattle.uc_bytes.specs.declared.write.Write.{Write}
use Rattle.uc_batch.specs.Rising.{IsRising}
use Rattle.uc_batch.proofs.Rises.{rising-numbered}
use Rattle.uc_store.proofs.batches.feed_batch.Goals as goal

pub unreachable-requires : goal.unreachable-requires
unreachable-requires g c =
    let fits = c.if-not-fits_batch.ensures.0 refl in
    let ends = fits.ends in
    let count : length c.deref.result.now ≡ length c.args.ops.items = ap (λ (ops : List Op). length ops) c.deref.ensures.value in
    let rising = rising-numbered 0 (c.last-first.result + 1) c.args.ops.items (omega arith) (omega (arith, ends, count)) in
    false≢true (c.in_default.ensures.rising.1 (subst (λ (ws : List Write). IsRising 0 ws) (sym c.in_ok-numbered.ensures) rising))
