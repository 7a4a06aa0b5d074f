use Rattle.std.proofs.Common.{rules, ltb}
use Rattle.std.proofs.lemmas.List.Sorted.{IsPartitionPoint-from_clause}
use Rattle.uc_compact.proofs.NumbersFall.{parted, points_as, newer_points, older_points}
use Rattle.uc_compact.proofs.falling.points_above.Goals as goal

pub returns-clause-newer : goal.returns-clause-newer
returns-clause-newer c =
    let points = c.args.points.now in
    let place = c.partition_point in
    let point = IsPartitionPoint-from_clause (λ y. ltb c.args.seq y.seq) points place.result place.ensures.partitioned (parted (λ y. y.seq) c.args.seq points (points_as points c.requires)) (λ a r q k. search rules) in
    newer_points c.args.seq points place.result place.ensures.bound point

pub returns-clause-older : goal.returns-clause-older
returns-clause-older c =
    let points = c.args.points.now in
    let place = c.partition_point in
    let point = IsPartitionPoint-from_clause (λ y. ltb c.args.seq y.seq) points place.result place.ensures.partitioned (parted (λ y. y.seq) c.args.seq points (points_as points c.requires)) (λ a r q k. search rules) in
    older_points c.args.seq points place.result place.ensures.bound point
