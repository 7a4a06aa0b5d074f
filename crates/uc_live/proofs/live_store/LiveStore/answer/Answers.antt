use Rattle.std.proofs.Common.{◌≡◌, IfOk, subst}
use Rattle.uc_query_read.specs.Answers.{answer_of}
use Rattle.uc_query_read.specs.declared.answer.Answer.{Answer}
use Rattle.uc_version_state.specs.Versions.{Stored, writes_in}
use Rattle.uc_memtable.proofs.RisingParts.{rising_front}
use Rattle.uc_live.specs.Lives as lives
use Rattle.uc_live.specs.Lives.{Live}
use Rattle.uc_live.proofs.Behind.{answer_behind}
use Rattle.uc_live.proofs.live_store.LiveStore.answer.Goals as goal

pub returns : goal.returns
returns g c =
    let m = g.O.Operator.meaning in
    let r = c.answer_one.result in
    let query = c.args.query.now in
    let v = c.self.inside.owned.version in
    let active = c.self.inside.active in
    let from_runs = subst (λ (u : Stored). IfOk r (λ answer. answer ≡ answer_of m (writes_in u) u.keeps query)) c.version.ensures c.answer_one.ensures in
    let same = answer_behind m v active.shown query c.recall.ensures.version.keeps_below (rising_front v.last active.shown active.waiting c.self.invariant.rising) c.equal_values_give_equal_answers.ensures c.later_writes_change_nothing.ensures.value in
    subst (λ (l : Live). IfOk r (λ answer. answer ≡ answer_of m (lives.writes_of l) l.version.keeps query)) c.self.view_is
    (subst (λ (expected : Answer). IfOk r (λ answer. answer ≡ expected)) same from_runs)
