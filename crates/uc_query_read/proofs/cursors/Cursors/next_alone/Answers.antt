use Rattle.std.proofs.Common.{Some, refl, sym, ap, ◌∙◌}
use Rattle.uc_compact.specs.Inputs.{writes_of}
use Rattle.uc_model.specs.Meaning.{value_of}
use Rattle.uc_query_read.specs.Walks.{Walk}
use Rattle.uc_query_read.proofs.Standing.{Looks, stand_before, stand_behind, same_runs, comes}
use Rattle.uc_query_read.proofs.cursors.Cursors.next_alone.Goals as goal

pub invariant_of-self-2 : goal.invariant_of-self-2
invariant_of-self-2 g c =
    let k = c.self.inside in
    let key = c.in-Some.key.now in
    let looks : Looks c.args.self.now k.walkers.cursors k.low.now k.strict k.high.now (Some key) = record { is = c.self.view_is; there = c.self.invariant; least = c.in-Some.ensures.next } in
    let stand = stand_before c.args.self.now k.walkers.cursors k.low.now k.strict k.high.now (Some key) looks key refl in
    stand_behind c.args.self.now k.walkers.cursors k.low.now k.strict k.high.now (Some key) looks key refl _ (c.in-Some.ensures.passes stand)

pub returns-clause-comes : goal.returns-clause-comes
returns-clause-comes g c =
    let k = c.self.inside in
    let key = c.in-Some.key.now in
    let looks : Looks c.args.self.now k.walkers.cursors k.low.now k.strict k.high.now (Some key) = record { is = c.self.view_is; there = c.self.invariant; least = c.in-Some.ensures.next } in
    let stand = stand_before c.args.self.now k.walkers.cursors k.low.now k.strict k.high.now (Some key) looks key refl in
    comes c.args.self.now k.walkers.cursors k.low.now k.strict k.high.now (Some key) looks key refl _ (c.in-Some.ensures.passes stand) c.in-Some.ensures.below

pub returns-clause-value : goal.returns-clause-value
returns-clause-value g c =
    let k = c.self.inside in
    let key = c.in-Some.key.now in
    let looks : Looks c.args.self.now k.walkers.cursors k.low.now k.strict k.high.now (Some key) = record { is = c.self.view_is; there = c.self.invariant; least = c.in-Some.ensures.next } in
    let stand = stand_before c.args.self.now k.walkers.cursors k.low.now k.strict k.high.now (Some key) looks key refl in
    sym (ap (λ (w : Walk). value_of g.O.Operator.meaning (writes_of w.runs) key c.args.at) c.self.view_is) ∙ c.in-Some.ensures.value stand

pub returns-clause-runs : goal.returns-clause-runs
returns-clause-runs g c =
    let k = c.self.inside in
    let key = c.in-Some.key.now in
    let looks : Looks c.args.self.now k.walkers.cursors k.low.now k.strict k.high.now (Some key) = record { is = c.self.view_is; there = c.self.invariant; least = c.in-Some.ensures.next } in
    let stand = stand_before c.args.self.now k.walkers.cursors k.low.now k.strict k.high.now (Some key) looks key refl in
    same_runs c.args.self.now k.walkers.cursors k.low.now k.strict k.high.now (Some key) looks key refl _ (c.in-Some.ensures.passes stand)
