use Rattle.std.proofs.Common.{rules, sym, ◌∙◌}
use Rattle.std.specs.Ordering.{is_lt}
use Rattle.std.proofs.lemmas.List.Sorted.{IsPartitionPoint-from_clause}
use Rattle.uc_bytes.specs.Bytes.{bytes_cmp}
use Rattle.uc_run_entry.proofs.Partitions.{count-front}
use Rattle.uc_run_entry.proofs.Spanned.{below_parted, count_of_map}
use Rattle.uc_run_entry.proofs.spanning.count_below.Goals as goal

pub returns : goal.returns
returns c =
    let key = c.args.key.now in
    let cuts = c.args.cuts.now in
    let n = c.partition_point.result in
    let point = IsPartitionPoint-from_clause (λ cut. is_lt (bytes_cmp cut.now key)) cuts n c.partition_point.ensures.partitioned (below_parted (λ cut. cut.now) key cuts c.requires) (λ a r f called. search rules) in
    count-front (λ cut. is_lt (bytes_cmp cut.now key)) cuts n c.partition_point.ensures.bound point
    ∙ sym (count_of_map (λ cut. cut.now) (λ cut. is_lt (bytes_cmp cut key)) cuts)
