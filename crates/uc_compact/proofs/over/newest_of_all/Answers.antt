use Rattle.std.proofs.Common.{leb, ap, ◌∙◌}
use Rattle.uc_run_entry.specs.Newest.{newer}
use Rattle.uc_run_entry.specs.Order.{IsFalling}
use Rattle.uc_compact.proofs.Best.{best_more, best_all, all_seen}
use Rattle.uc_compact.proofs.over.newest_of_all.Goals as goal

pub newest_at_or_below-requires : goal.newest_at_or_below-requires
newest_at_or_below-requires c = all_seen (λ seqs. seqs.now) (λ n. leb n c.args.at) IsFalling c.args.lists.now c.loop-seqs.seqs-index c.seqs-item.result c.loop-seqs-test.true c.seqs-item.is c.requires

pub loop-seqs-preserved : goal.loop-seqs-preserved
loop-seqs-preserved c =
    c.newer-newest.ensures
    ∙ ap (λ o. newer o c.newest_at_or_below.result) c.loop-seqs.invariant
    ∙ ap (newer _) c.newest_at_or_below.ensures
    ∙ best_more (λ seqs. seqs.now) (λ n. leb n c.args.at) c.args.lists.now c.loop-seqs.seqs-index c.seqs-item.result c.loop-seqs-test.true c.seqs-item.is

pub returns : goal.returns
returns c = c.loop-seqs.invariant ∙ best_all (λ seqs. seqs.now) (λ n. leb n c.args.at) c.args.lists.now c.loop-seqs.seqs-index c.loop-seqs-test.false c.requires
