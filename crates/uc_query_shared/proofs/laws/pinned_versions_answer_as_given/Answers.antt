use Rattle.std.proofs.Common.{◌≡◌, List, fold, ap, sym, ◌∙◌}
use Rattle.uc_query_read.specs.Answers.{answer_of}
use Rattle.uc_query_read.specs.declared.query.Query.{Query}
use Rattle.uc_query_shared.specs.Given.{longer}
use Rattle.uc_version_state.specs.Versions.{Stored, writes_in}
use Rattle.uc_version_state.specs.Histories.{History, IsLegal, MayFollow, after, version_after, writes_given}
use Rattle.uc_version_state.specs.declared.event.Event.{Event}
use Rattle.uc_query_shared.proofs.laws.pinned_versions_answer_as_given.Goals as goal

pub returns : goal.returns
returns g c =
    let m = g.O.Operator.meaning in
    let goes_behind = c.fronts_go_behind_histories.ensures in
    let given : (h : History) (base : Stored) (events : List Event) (query : Query) → IsLegal m h → version_after h ≡ base → MayFollow m base events →
    answer_of m (writes_in (fold after base events)) (fold after base events).keeps query ≡ answer_of m (writes_given (longer h events)) (version_after (longer h events)).keeps query =
    λ h base events query legal is may.
    ap (λ (v : Stored). answer_of m (writes_in v) v.keeps query) (sym (goes_behind.after h base events is))
    ∙ c.histories_keep_answers.ensures (longer h events) query (goes_behind.legal h base events legal is may) in
    record {
      given = given;
      stay = λ h base events query legal is may stays.
          given h base events query legal is may
          ∙ c.later_events_leave_answers_alone.ensures.stay h events query (goes_behind.legal h base events legal is may) stays;
    }
