use Rattle.std.proofs.Common.{rules, ltb}
use Rattle.std.proofs.lemmas.List.Sorted.{IsPartitionPoint-from_clause}
use Rattle.uc_compact.proofs.Searched.{keeps_parted, stripe_at}
use Rattle.uc_compact.proofs.stripe.Stripe.of.Goals as goal

pub returns : goal.returns
returns c =
    let keeps = c.args.keeps.now in
    let place = c.partition_point-place in
    let point = IsPartitionPoint-from_clause (λ k. ltb k c.args.seq) keeps place.result place.ensures.partitioned (keeps_parted c.args.seq keeps c.requires) (λ a r q k. search rules) in
    rw (c.keep_before.ensures, c.keep_at.ensures) (stripe_at c.args.seq 0 keeps place.result place.ensures.bound point)
