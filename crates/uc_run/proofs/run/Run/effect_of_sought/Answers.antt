use Rattle.std.proofs.Common.{◌≡◌, List, ℕ, refl, sym, ap, ◌∙◌, subst}
use Rattle.std.specs.Prelude.{IfOk, filter}
use Rattle.uc_oper.specs.declared.effect.Effect.{Effect}
use Rattle.uc_model.specs.Meaning.{effect_on}
use Rattle.uc_run_entry.specs.Lookup.{is_visible}
use Rattle.uc_run_entry.specs.Run.{Contents}
use Rattle.uc_run_entry.specs.PlainList.{plain_list}
use Rattle.uc_run.specs.HeldRuns.{contents}
use Rattle.uc_run.proofs.FoundThere.{does}
use Rattle.uc_run.proofs.run.Run.effect_of_sought.Goals as goal

pub returns : goal.returns
returns g c =
    let m = g.O.Operator.meaning in
    let key = c.key.result.now in
    let at = c.args.at in
    let points = c.points_from-points.result in
    let fragments = c.as_slice.result.now in
    let visible : filter (is_visible key at) points ≡ filter (is_visible key at) c.self.inside.points =
    subst (λ (k : List ℕ). filter (is_visible k at) points ≡ filter (is_visible k at) c.self.inside.points) (sym c.key.ensures) (c.points_from-points.ensures.visible at) in
    let same =
    does m c.plain_list_does_what_is_found.ensures key at (contents c.self.inside) c.self.inside.points (filter (is_visible key at) points) fragments fragments c.self.invariant.is_run refl visible
    c.as_slice.ensures refl in
    let all = same ∙ ap (λ (run : Contents). effect_on m (plain_list run) key at) c.self.view_is ∙ ap (λ (k : List ℕ). effect_on m (plain_list c.args.self.now) k at) c.key.ensures in
    subst (λ (e : Effect). IfOk c.effect_found.result (λ effect. effect ≡ e)) all c.effect_found.ensures
