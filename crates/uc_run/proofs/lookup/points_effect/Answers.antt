use Rattle.std.proofs.Common.{rules, ◌≡◌, ◌-◌, ◌≤◌, List, take, drop, ap, ◌∙◌, arith}
use Rattle.uc_run_entry.specs.declared.entry.Entry.{Entry}
use Rattle.uc_run_entry.specs.Lookup.{points_effect}
use Rattle.uc_run.proofs.LookupEffects.{drop_few}
use Rattle.uc_run.proofs.lookup.points_effect.Goals as goal

pub loop-end-preserved : goal.loop-end-preserved
loop-end-preserved g c =
    let m = g.O.Operator.meaning in
    let points = c.args.points.now in
    let end = c.loop-end.end in
    let begin = c.saturating_sub-begin.result in
    let order : begin ≤ end = search rules in
    let made : c.in_ok-effect.effect ≡ points_effect m c.loop-end.effect (take (end - begin) (drop begin points)) =
    c.in_ok-effect.ensures ∙ ap (λ (es : List Entry). points_effect m c.loop-end.effect es) c.slice.ensures in
    record {
      within = omega (arith, order, c.loop-end.invariant.within);
      left = drop_few m c.loop-end.effect c.in_ok-effect.effect points begin end _ order c.loop-end.invariant.within made c.loop-end.invariant.left;
    }
