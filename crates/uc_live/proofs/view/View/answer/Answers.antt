use Rattle.std.proofs.Common.{◌≡◌, ◌++◌, IfOk, subst, sym}
use Rattle.uc_batch.specs.Rising.{IsRising}
use Rattle.uc_query_read.specs.Answers.{answer_of}
use Rattle.uc_query_read.specs.declared.answer.Answer.{Answer}
use Rattle.uc_version_state.specs.Versions.{writes_in}
use Rattle.uc_live.specs.declared.view.ViewParts.{ViewParts}
use Rattle.uc_live.specs.Views as views
use Rattle.uc_live.specs.Views.{Seen}
use Rattle.uc_live.proofs.Behind.{answer_behind}
use Rattle.uc_live.proofs.view.View.answer.Goals as goal

pub returns : goal.returns
returns g c =
    let m = g.O.Operator.meaning in
    let r = c.answer_one.result in
    let query = c.args.query.now in
    let parts = c.deref.result.now in
    let v = parts.version in
    let shown = parts.gathered.shown in
    let rising : IsRising v.last shown = subst (λ (p : ViewParts). IsRising p.version.last p.gathered.shown) (sym c.deref.ensures) c.self.invariant.rising in
    let same = answer_behind m v shown query c.recall.ensures.keeps_below rising c.equal_values_give_equal_answers.ensures c.later_writes_change_nothing.ensures.value in
    let answered = subst (λ (expected : Answer). IfOk r (λ answer. answer ≡ expected)) same c.answer_one.ensures in
    subst (λ (s : Seen). IfOk r (λ answer. answer ≡ answer_of m (views.writes_of s) s.version.keeps query)) c.self.view_is
    (subst (λ (p : ViewParts). IfOk r (λ answer. answer ≡ answer_of m (writes_in p.version ++ p.gathered.shown) p.version.keeps query)) c.deref.ensures answered)
