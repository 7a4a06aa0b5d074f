use Rattle.std.proofs.Common.{ℕ, true, List, map, ap, sym, ◌∙◌}
use Rattle.std.specs.List.{slice_get}
use Rattle.uc_run_entry.specs.Newest.{newer}
use Rattle.uc_compact.specs.Together.{together}
use Rattle.uc_compact.proofs.NestedLists.{all-passed}
use Rattle.uc_compact.proofs.Best.{best_more, best_all}
use Rattle.uc_compact.proofs.over.first_of_all.Goals as goal

pub loop-seqs-preserved : goal.loop-seqs-preserved
loop-seqs-preserved c =
    c.newer-newest.ensures
    ∙ ap (λ o. newer o c.newest.result) c.loop-seqs.invariant
    ∙ ap (newer _) (c.newest.ensures ∙ ap (λ (seqs : List ℕ). slice_get seqs 0) (sym (all-passed c.seqs-item.result.now)))
    ∙ best_more (λ seqs. seqs.now) (λ _. true) c.args.lists.now c.loop-seqs.seqs-index c.seqs-item.result c.loop-seqs-test.true c.seqs-item.is

pub returns : goal.returns
returns c =
    c.loop-seqs.invariant
    ∙ best_all (λ seqs. seqs.now) (λ _. true) c.args.lists.now c.loop-seqs.seqs-index c.loop-seqs-test.false c.requires
    ∙ ap (λ (seqs : List ℕ). slice_get seqs 0) (all-passed (together (map (λ seqs. seqs.now) c.args.lists.now)))
