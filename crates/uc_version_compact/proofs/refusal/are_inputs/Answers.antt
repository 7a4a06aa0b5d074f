use Rattle.std.proofs.Common.{refl, sym, ap, ◌∙◌}
use Rattle.std.proofs.lemmas.Bool.{false≢true}
use Rattle.std.specs.Arc.{arc_value}
use Rattle.uc_version_state.specs.Versions.{PlacedRun}
use Rattle.uc_version_compact.proofs.Inputs.{not_inputs, inputs_on}
use Rattle.uc_version_compact.proofs.refusal.are_inputs.Goals as goal

pub returns-then-not-same : goal.returns-then-not-same
returns-then-not-same g c =
    let place = c.loop-place.place in (
      (λ wrong. absurd (false≢true wrong)),
      (λ same. absurd (not_inputs arc_value c.inputs-inputs.result.now c.args.runs.now place c.index-inputs-place.result c.index-runs-place.result c.loop-place-test.true c.if-inputs-runs.false
          (λ here. false≢true (c.if-not-same.ensures.1 (c.deref.ensures ∙ ap arc_value c.index-inputs-place.is ∙ here ∙ ap (λ (p : PlacedRun). p.run) (sym c.index-runs-place.is) ∙ sym c.run.ensures ∙ sym c.deref-in-loop-place.ensures)))
          (c.inputs-inputs.ensures ∙ same))),
    )

pub loop-place-preserved : goal.loop-place-preserved
loop-place-preserved g c =
    inputs_on arc_value c.inputs-inputs.result.now c.args.runs.now c.loop-place.place c.index-inputs-place.result c.index-runs-place.result c.loop-place-test.true c.if-inputs-runs.false c.loop-place.invariant
    (sym (ap arc_value c.index-inputs-place.is) ∙ sym c.deref.ensures ∙ c.if-not-same.ensures.0 refl ∙ c.deref-in-loop-place.ensures ∙ c.run.ensures ∙ ap (λ (p : PlacedRun). p.run) c.index-runs-place.is)
