use Rattle.std.proofs.Common.{◌≡◌, true, subst}
use Rattle.std.specs.List.{AllByRecursion}
use Rattle.uc_query_read.specs.Walks.{walk_at, runs_of, StandsAt}
use Rattle.uc_query_read.proofs.Skipping.{stand_at, skips}
use Rattle.uc_query_read.proofs.cursors.Cursors.skip_dead.Goals as goal

pub dead_up_to-requires : goal.dead_up_to-requires
dead_up_to-requires g c =
    let k = c.self.inside in
    subst (λ b. AllByRecursion (StandsAt k.low.now b) k.walkers.cursors) c.if-not-self.false c.self.invariant

pub invariant_of-self : goal.invariant_of-self
invariant_of-self g c =
    let k = c.self.inside in
    let strict = c.if-not-self.false in
    let is : walk_at k.low.now true k.high.now (runs_of k.walkers.cursors) ≡ c.args.self.now = subst (λ b. walk_at k.low.now b k.high.now (runs_of k.walkers.cursors) ≡ c.args.self.now) strict c.self.view_is in
    let there : AllByRecursion (StandsAt k.low.now true) k.walkers.cursors = subst (λ b. AllByRecursion (StandsAt k.low.now b) k.walkers.cursors) strict c.self.invariant in
    stand_at g.O.Operator.meaning c.args.at c.args.self.now k.walkers.cursors k.low.now c.in-Some.bound.now k.high.now is there c.in-Some.ensures _ c.seek.ensures

pub returns : goal.returns
returns g c =
    let k = c.self.inside in
    let strict = c.if-not-self.false in
    let is : walk_at k.low.now true k.high.now (runs_of k.walkers.cursors) ≡ c.args.self.now = subst (λ b. walk_at k.low.now b k.high.now (runs_of k.walkers.cursors) ≡ c.args.self.now) strict c.self.view_is in
    let there : AllByRecursion (StandsAt k.low.now true) k.walkers.cursors = subst (λ b. AllByRecursion (StandsAt k.low.now b) k.walkers.cursors) strict c.self.invariant in
    skips g.O.Operator.meaning c.args.at c.args.self.now k.walkers.cursors k.low.now c.in-Some.bound.now k.high.now is there c.in-Some.ensures _ c.seek.ensures
