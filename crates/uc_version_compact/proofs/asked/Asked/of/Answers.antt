use Rattle.std.proofs.Common.{refl, ℕ, List, ap, ◌∙◌, sym, subst}
use Rattle.std.specs.Prelude.{map}
use Rattle.std.specs.Arc.{arc_value}
use Rattle.uc_run_entry.specs.Run.{Contents}
use Rattle.uc_compact.specs.Inputs.{Stand}
use Rattle.uc_version_state.specs.Versions.{contents_of}
use Rattle.uc_version_compact.proofs.Standing.{part_stands}
use Rattle.uc_version_compact.proofs.asked.Asked.of.Goals as goal

pub invariant_of-result : goal.invariant_of-result
invariant_of-result c =
    let v = c.args.version.now in
    let s = c.args.stretch in
    let inputs = c.in_ok-inputs.ensures ∙ ap contents_of c.stretch_runs.ensures in
    let keeps = c.in_ok-keeps.ensures.items_if_clones_equal (λ x y e. e) ∙ c.keeps.ensures in
    subst (λ (ks : List ℕ). Stand (map arc_value c.in_ok-inputs.inputs.items) ks) (sym keeps)
    (subst (λ (rs : List Contents). Stand rs v.keeps) (sym inputs) (part_stands v c.recall.ensures s.first s.count c.requires.two c.requires.within))
