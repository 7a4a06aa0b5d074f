use Rattle.std.proofs.Common.{rules, ◌≡◌, ◌+◌, ◌-◌, ◌<◌, ℕ, length, get_or, sym, subst, arith}
use Rattle.uc_memtable.specs.Linked.{bucket_of, HaveHeads, AreChained}
use Rattle.uc_memtable.proofs.Links.{heads_unlinked}
use Rattle.uc_memtable.proofs.linking.unlink_from.Goals as goal

pub loop-place-preserved : goal.loop-place-preserved
loop-place-preserved c =
    let labels = c.args.labels.now in
    let before = c.args.before.now in
    let heads = c.loop-place.heads in
    let place = c.loop-place.place - 1 in
    let some : c.args.count < c.loop-place.place = search rules in
    let e : c.loop-place.place ≡ place + 1 = omega (arith, some) in
    let l : place < length labels = search rules in
    let same : length heads ≡ length c.args.heads.now = search rules in
    let bucket : c.bucket_of-bucket.result ≡ bucket_of (length heads) (get_or labels place 0) = search rules in
    let within : c.bucket_of-bucket.result < length heads = search rules in
    let old : HaveHeads heads labels (place + 1) = subst (λ (n : ℕ). HaveHeads heads labels n) e c.loop-place.invariant.heads in
    let chained : AreChained (length heads) labels before (length labels) = subst (λ (n : ℕ). AreChained n labels before (length labels)) (sym same) c.requires.chained in
    record {
      low = omega (arith, some);
      heads = heads_unlinked heads labels before (length labels) place c.bucket_of-bucket.result bucket within l old chained;
    }
