use Rattle.std.proofs.Common.{rules, ◌≡◌, take, drop, ◌/◌, length}
use Rattle.std.proofs.lemmas.Result.{IfOk-weaker}
use Rattle.uc_oper.specs.declared.effect.Effect.TheVariants.{Keep}
use Rattle.uc_run_entry.specs.Lookup as lookup
use Rattle.uc_compact.proofs.InTurn.{halves_do}
use Rattle.uc_compact.proofs.folder.folded_by_halves.Goals as goal

pub returns : goal.returns
returns g c =
    let m = g.O.Operator.meaning in
    let met = g.met.O.Operator g.world.𝓛 g.world.𝓜 g.world.𝓡 ((λ s x. x), (λ x. x), (λ x. x), λ x. x) in
    let points = c.args.points.now in
    let middle = length points / 2 in
    let old : c.in_ok-older.field-0 ≡ lookup.points_effect m c.args.before ((drop middle points)) = search rules in
    let new : c.in_ok-newer.field-0 ≡ lookup.points_effect m Keep ((take middle points)) = search rules in
    IfOk-weaker c.then.result _ _ (λ both made. halves_do m met.lawful c.args.before c.in_ok-older.field-0 c.in_ok-newer.field-0 both middle points old new made) c.then.ensures
