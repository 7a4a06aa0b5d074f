use Rattle.std.proofs.Common.{rules, refl, ◌≡◌, Some, None, List, [], filter, sym, ap, ◌∙◌}
use Rattle.uc_oper.specs.declared.effect.Effect.TheVariants.{Set}
use Rattle.uc_run_entry.specs.declared.entry.Entry.{Entry}
use Rattle.uc_run_entry.specs.declared.entry.What.TheVariants.{Put, Delete}
use Rattle.uc_run_entry.specs.Lookup.{points_effect}
use Rattle.uc_run.specs.Places.{is_on}
use Rattle.uc_run.proofs.Lasting.{none_first}
use Rattle.uc_run.proofs.PutFirst.{first_sets}
use Rattle.uc_run.proofs.Walking.{none_ahead}
use Rattle.uc_run.proofs.lookup.effect_above.Goals as goal

pub returns-in_default : goal.returns-in_default
returns-in_default g c =
    let none : c.args.points.now ≡ [] = none_ahead c.args.points.now (sym c.first.ensures ∙ c.in_default.is) in
    c.own.ensures ∙ ap (λ (es : List Entry). points_effect g.O.Operator.meaning c.args.before (filter (is_on c.args.key.now c.args.above) es)) (sym none)

pub returns-then-not-is_on : goal.returns-then-not-is_on
returns-then-not-is_on g c =
    let test = is_on c.args.key.now c.args.above in
    c.own-then-not-is_on.ensures
    ∙ ap (points_effect g.O.Operator.meaning c.args.before)
    (sym (none_first test c.args.points.now c.requires c.in-Some.newest (sym c.first.ensures ∙ c.in-Some.is) (sym c.is_on.ensures ∙ c.if-not-is_on.true)))

pub returns-in-Put : goal.returns-in-Put
returns-in-Put g c =
    let m = g.O.Operator.meaning in
    let value = c.in-Put.value.now in
    let newest : Entry = c.in-Some.newest in
    let puts : newest.what ≡ Put value = search rules in
    c.put.ensures
    ∙ sym (first_sets m c.args.before (is_on c.args.key.now c.args.above) c.args.points.now newest (Put value) (Set (Some value))
    (sym c.first.ensures ∙ c.in-Some.is) (sym c.is_on.ensures ∙ c.if-not-is_on.false) puts (λ older. refl))

pub returns-in-Delete : goal.returns-in-Delete
returns-in-Delete g c =
    let m = g.O.Operator.meaning in
    let newest : Entry = c.in-Some.newest in
    let deletes : newest.what ≡ Delete = search rules in
    c.own-in-Delete.ensures
    ∙ sym (first_sets m c.args.before (is_on c.args.key.now c.args.above) c.args.points.now newest Delete (Set None)
    (sym c.first.ensures ∙ c.in-Some.is) (sym c.is_on.ensures ∙ c.if-not-is_on.false) deletes (λ older. refl))
