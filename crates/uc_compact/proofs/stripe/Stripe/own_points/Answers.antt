use Rattle.std.proofs.Common.{filter, ltb, leb, sym, ap, ◌∙◌, subst}
use Rattle.uc_run_entry.specs.declared.entry.Entry.{Entry}
use Rattle.uc_compact.specs.Choice.{PointsFall}
use Rattle.uc_compact.proofs.NumbersFall.{points_filter, filter_both}
use Rattle.uc_compact.proofs.stripe.Stripe.own_points.Goals as goal

pub points_above-requires : goal.points_above-requires
points_above-requires c = subst PointsFall (sym (c.split_at.ensures.front ∙ c.points_above-count.ensures.newer)) (points_filter (λ p. ltb c.self.inside.above p.seq) c.args.points.now c.requires)

pub returns-clause-own : goal.returns-clause-own
returns-clause-own c =
    let s = c.self.inside in
    let newer = c.split_at.ensures.front ∙ c.points_above-count.ensures.newer in
    rw (sym c.self.view_is) (c.split_at-2.ensures.back
    ∙ c.points_above.ensures.older
    ∙ ap (filter (λ (p : Entry). leb p.seq s.upto)) newer
    ∙ filter_both (λ (p : Entry). ltb s.above p.seq) (λ p. leb p.seq s.upto) c.args.points.now)
