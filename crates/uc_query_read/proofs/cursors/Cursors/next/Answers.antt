use Rattle.std.proofs.Common.{sym, ap, ◌∙◌}
use Rattle.std.specs.Prelude.{option_map}
use Rattle.uc_query_read.proofs.Standing.{Looks, ends, too_far, stand_before, stand_behind, same_runs, comes}
use Rattle.uc_query_read.proofs.cursors.Cursors.next.Goals as goal

pub returns-in_default-clause-comes : goal.returns-in_default-clause-comes
returns-in_default-clause-comes g c =
    let k = c.self.inside in
    let found = option_map (λ least. least.key.now) c.least.result in
    let looks : Looks c.args.self.now k.walkers.cursors k.low.now k.strict k.high.now found = record { is = c.self.view_is; there = c.self.invariant; least = c.least.ensures.next } in
    let none = ends c.args.self.now k.walkers.cursors k.low.now k.strict k.high.now found looks (ap (option_map (λ least. least.key.now)) c.in_default.is) in
    (none, none)

pub returns-then-not-is_below-clause-comes : goal.returns-then-not-is_below-clause-comes
returns-then-not-is_below-clause-comes g c =
    let k = c.self.inside in
    let found = option_map (λ least. least.key.now) c.least.result in
    let looks : Looks c.args.self.now k.walkers.cursors k.low.now k.strict k.high.now found = record { is = c.self.view_is; there = c.self.invariant; least = c.least.ensures.next } in
    let none = too_far c.args.self.now k.walkers.cursors k.low.now k.strict k.high.now found looks c.in-Some.least.key.now (ap (option_map (λ least. least.key.now)) c.in-Some.is) (sym c.is_below.ensures ∙ c.if-not-is_below.true) in
    (none, none)

pub take-requires-clause-stand : goal.take-requires-clause-stand
take-requires-clause-stand g c =
    let k = c.self.inside in
    let found = option_map (λ least. least.key.now) c.least.result in
    let looks : Looks c.args.self.now k.walkers.cursors k.low.now k.strict k.high.now found = record { is = c.self.view_is; there = c.self.invariant; least = c.least.ensures.next } in
    stand_before c.args.self.now k.walkers.cursors k.low.now k.strict k.high.now found looks c.in-Some.least.key.now (ap (option_map (λ least. least.key.now)) c.in-Some.is)

pub invariant_of-self-2 : goal.invariant_of-self-2
invariant_of-self-2 g c =
    let k = c.self.inside in
    let found = option_map (λ least. least.key.now) c.least.result in
    let looks : Looks c.args.self.now k.walkers.cursors k.low.now k.strict k.high.now found = record { is = c.self.view_is; there = c.self.invariant; least = c.least.ensures.next } in
    stand_behind c.args.self.now k.walkers.cursors k.low.now k.strict k.high.now found looks c.in-Some.least.key.now (ap (option_map (λ least. least.key.now)) c.in-Some.is) _ c.in_ok-value.ensures.passes

pub returns-clause-comes : goal.returns-clause-comes
returns-clause-comes g c =
    let k = c.self.inside in
    let found = option_map (λ least. least.key.now) c.least.result in
    let looks : Looks c.args.self.now k.walkers.cursors k.low.now k.strict k.high.now found = record { is = c.self.view_is; there = c.self.invariant; least = c.least.ensures.next } in
    comes c.args.self.now k.walkers.cursors k.low.now k.strict k.high.now found looks c.in-Some.least.key.now (ap (option_map (λ least. least.key.now)) c.in-Some.is) _ c.in_ok-value.ensures.passes (sym c.is_below.ensures ∙ c.if-not-is_below.false)

pub returns-clause-runs : goal.returns-clause-runs
returns-clause-runs g c =
    let k = c.self.inside in
    let found = option_map (λ least. least.key.now) c.least.result in
    let looks : Looks c.args.self.now k.walkers.cursors k.low.now k.strict k.high.now found = record { is = c.self.view_is; there = c.self.invariant; least = c.least.ensures.next } in
    same_runs c.args.self.now k.walkers.cursors k.low.now k.strict k.high.now found looks c.in-Some.least.key.now (ap (option_map (λ least. least.key.now)) c.in-Some.is) _ c.in_ok-value.ensures.passes
