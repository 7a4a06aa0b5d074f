use Rattle.std.proofs.Common.{◌≡◌, ◌-◌, ◌<◌, ◌≤◌, true, false, List, length, take, sym, ap, ◌∙◌, subst, arith}
use Rattle.std.specs.List.{AllWithin, HoldsAt}
use Rattle.std.specs.List.Sorted.{IsPartitionedBy, IsPartitionPoint}
use Rattle.std.proofs.lemmas.List.{get_or-take}
use Rattle.uc_run_points.proofs.Searched.{passed_point}
use Rattle.uc_run_entry.specs.declared.entry.Entry.{Entry}
use Rattle.uc_run_entry.specs.Order.{entry_cmp}
use Rattle.uc_run_entry.proofs.Partitions.{partitioned, part_parted, length_part, count-front}
use Rattle.uc_run.specs.Places.{is_newer}
use Rattle.uc_run.proofs.Order.{newer_before}
use Rattle.uc_run.proofs.places.count_newer.Goals as goal

pub partition_point-count-requires : goal.partition_point-count-requires
partition_point-count-requires c =
    let points = c.args.points.now in
    let test = is_newer c.args.key.now c.args.at in
    let parted = partitioned test entry_cmp (newer_before c.args.key.now c.args.at) points c.requires in
    subst (IsPartitionedBy test) (sym c.slice-near.ensures) (part_parted test points 0 c.min.result (omega arith) (omega (arith, c.len.ensures.count, c.min.ensures)) parted)

pub partition_point-requires : goal.partition_point-requires
partition_point-requires c = partitioned (is_newer c.args.key.now c.args.at) entry_cmp (newer_before c.args.key.now c.args.at) c.args.points.now c.requires

pub returns-clause-count : goal.returns-clause-count
returns-clause-count c = count-front (is_newer c.args.key.now c.args.at) c.args.points.now c.partition_point.result c.partition_point.ensures.bound c.partition_point.ensures.place

pub returns-then-count-len-clause-count : goal.returns-then-count-len-clause-count
returns-then-count-len-clause-count c =
    let points = c.args.points.now in
    let test = is_newer c.args.key.now c.args.at in
    let parted = partitioned test entry_cmp (newer_before c.args.key.now c.args.at) points c.requires in
    let many = c.min.result in
    let within : many ≤ length points = omega (arith, c.len.ensures.count, c.min.ensures) in
    let n = c.partition_point-count.result in
    let near = take (many - 0) points in
    let long : length near ≡ many - 0 = length_part test points 0 many (omega arith) within in
    let lt : n < many - 0 = omega (arith, c.if-count-len.true, c.len-2.ensures.count, ap (λ (es : List Entry). length es) c.slice-near.ensures, long) in
    let point = subst (λ (es : List Entry). IsPartitionPoint (λ p. test p ≡ true) (λ p. test p ≡ false) es n) c.slice-near.ensures c.partition_point-count.ensures.place in
    let before : AllWithin (λ p. test p ≡ true) points 0 n = λ k d low l. sym (ap test (get_or-take (many - 0) points k d (omega (arith, l, lt)))) ∙ point.0 k d low l in
    let there : n < length points → HoldsAt (λ p. test p ≡ false) points n = λ l d. sym (ap test (get_or-take (many - 0) points n d lt)) ∙ point.1 n d (omega arith) (omega (arith, lt, long)) in
    count-front test points n (omega (arith, lt, within)) (before, passed_point test points n parted (omega (arith, lt, within)) there)
