use Rattle.std.proofs.Common.{sym, ◌∙◌}
use Rattle.std.proofs.lemmas.Bool.{false≢true}
use Rattle.uc_live.specs.Judging.{value_before, value_now}
use Rattle.uc_live.proofs.Judged.{changed_next, unchanged_more}
use Rattle.uc_live.proofs.live_store.LiveStore.first_changed.Goals as goal

pub returns-then-not-branch : goal.returns-then-not-branch
returns-then-not-branch g c =
    changed_next (value_before g.P.Operator.meaning c.args.view.now) (value_now g.O.Operator.meaning c.args.self.now) c.args.reads.now c.loop-place.place c.index-reads-place.result c.loop-place-test.true c.loop-place.invariant c.index-reads-place.is
    (λ unchanged. false≢true (sym c.if-not-branch.true ∙ c.in_ok-is_unchanged.ensures.1 unchanged))

pub loop-place-preserved : goal.loop-place-preserved
loop-place-preserved g c =
    unchanged_more (value_before g.P.Operator.meaning c.args.view.now) (value_now g.O.Operator.meaning c.args.self.now) c.args.reads.now c.loop-place.place c.index-reads-place.result c.loop-place-test.true c.loop-place.invariant c.index-reads-place.is
    (c.in_ok-is_unchanged.ensures.0 c.if-not-branch.false)
