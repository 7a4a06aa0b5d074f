use Rattle.std.proofs.Common.{rules, ◌≡◌, ◌-◌, ltb, List, length, map, filter, sym, ap, ◌∙◌, subst}
use Rattle.std.specs.Arc.{arc_value}
use Rattle.std.specs.Result.{IfOk}
use Rattle.uc_run_entry.specs.Cutting.{pieces}
use Rattle.uc_run_entry.specs.Fragment.{Fragment}
use Rattle.uc_run_entry.specs.Spanning.{covered, with_seqs}
use Rattle.uc_compact.specs.Output.{fragment_kept}
use Rattle.uc_compact.specs.Pieces.{fragments_in}
use Rattle.uc_compact.proofs.Cutting.{pieces_of_fronts}
use Rattle.uc_compact.proofs.fragments.fragments_kept.Goals as goal

pub returns : goal.returns
returns c =
    let k = c.args.keeping.now in
    let runs = map arc_value c.args.inputs.now in
    let fronts = c.deref_mut.result.now in
    let same : fragments_in fronts ≡ fragments_in runs = ap fragments_in c.deref_mut.ensures.value ∙ c.in_ok-fronts.ensures in
    subst (λ (fs : List Fragment). IfOk c.of_lists.result (λ made. made ≡ fs))
    ((λ j. covered (with_seqs (pieces (c.in_ok-new.ensures.ok j)) (c.in_ok-new-2.ensures.ok j)))
    ∙ c.in_ok-cuts.ensures.kept
    ∙ ap (λ (fs : List Fragment). filter (λ (f : Fragment). ltb 0 (length f.seqs)) (map (fragment_kept k) fs)) (pieces_of_fronts runs fronts c.are_runs.ensures same))
    c.of_lists.ensures
