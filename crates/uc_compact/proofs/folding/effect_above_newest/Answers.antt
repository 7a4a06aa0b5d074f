use Rattle.std.proofs.Common.{[], ◌∷◌, refl, sym, ◌∙◌, ap}
use Rattle.std.specs.Prelude.{None}
use Rattle.uc_oper.specs.declared.effect.Effect.TheVariants.{Set}
use Rattle.std.specs.Option.{option_to_list}
use Rattle.uc_run_entry.specs.Lookup.{points_effect, above_newest}
use Rattle.std.proofs.lemmas.Result.{IfOk-weaker}
use Rattle.uc_compact.proofs.InTurn.{above_some}
use Rattle.uc_compact.proofs.folding.effect_above_newest.Goals as goal

pub returns-in-Some : goal.returns-in-Some
returns-in-Some g c =
    let m = g.O.Operator.meaning in
    let points = c.args.points.now in
    IfOk-weaker c.points_effect-in-Some.result _ _
    (λ e is.
    is
    ∙ ap (points_effect m (Set None)) c.points_above.ensures.newer
    ∙ above_some m points (c.in-Some.newest ∷ []) c.in-Some.newest refl
    ∙ ap (λ o. above_newest m points (option_to_list o)) (sym c.in-Some.is)) c.points_effect-in-Some.ensures
