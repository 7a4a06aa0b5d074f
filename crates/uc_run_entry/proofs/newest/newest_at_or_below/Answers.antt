use Rattle.std.proofs.Common.{rules, ◌∙◌, sym, ltb, leb, arith, get_or}
use Rattle.std.proofs.lemmas.List.{take_rest}
use Rattle.std.proofs.lemmas.List.Sorted.{IsPartitionPoint-from_clause}
use Rattle.uc_run_entry.proofs.SpanCuts.{filter-back}
use Rattle.uc_run_entry.proofs.Greatest.{partitioned, not_above, not_below}
use Rattle.uc_run_entry.proofs.newest.newest_at_or_below.Goals as goal

pub returns : goal.returns
returns c =
    let seqs = c.args.seqs.now in
    let n = c.partition_point-above.result in
    let le = c.partition_point-above.ensures.bound in
    let point = IsPartitionPoint-from_clause (λ seq. ltb c.args.at seq) seqs n c.partition_point-above.ensures.partitioned
    (partitioned c.args.at seqs c.requires)
    (λ a r q k. search rules) in
    let rest = filter-back (λ seq. leb seq c.args.at) seqs n (record {
      within = omega (arith, le);
      before = λ k d l. not_below c.args.at (get_or seqs k d) (point.0 k d (omega arith) l);
      behind = λ k d l m. not_above c.args.at (get_or seqs k d) (point.1 k d l m);
    }) in
    rw (rest ∙ sym (take_rest seqs n)) (search rules)
