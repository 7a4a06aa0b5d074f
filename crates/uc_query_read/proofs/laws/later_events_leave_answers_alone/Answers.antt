use Rattle.std.proofs.Common.{◌≡◌, List, ◌++◌, ap, ◌∙◌}
use Rattle.uc_query_read.specs.declared.query.Query.{Query}
use Rattle.uc_query_read.specs.Query.{at_of}
use Rattle.uc_query_read.specs.Answers.{answer_of}
use Rattle.uc_version_state.specs.declared.event.Event.{Event}
use Rattle.uc_version_state.specs.Histories.{History, IsLegal, version_after, writes_given}
use Rattle.uc_query_read.proofs.AnswerLaws.{kept_alike}
use Rattle.uc_query_read.proofs.Later.{keeps_behind, value_behind}
use Rattle.uc_query_read.proofs.laws.later_events_leave_answers_alone.Goals as goal

pub returns : goal.returns
returns g c =
    let m = g.O.Operator.meaning in
    let alike : (h : History) (events : List Event) (query : Query) → IsLegal m (record h { events = h.events ++ events }) →
    answer_of m (writes_given (record h { events = h.events ++ events })) (version_after h).keeps query ≡ answer_of m (writes_given h) (version_after h).keeps query =
    λ h events query legal.
    let begun = c.beginnings_are_legal.ensures h events legal in
    let says = c.histories_say_writes_and_keeps.ensures in
    c.equal_values_give_equal_answers.ensures (writes_given (record h { events = h.events ++ events })) (writes_given h) (version_after h).keeps query
    (λ there key reads. value_behind m h events key (at_of query) (says.rising (record h { events = h.events ++ events }) legal) (says.last h begun) (c.histories_keep_what_is_read.ensures.version h begun).keeps_below there c.later_writes_change_nothing.ensures.value) in
    record {
      kept = λ h events query legal before now.
          let later = record h { events = h.events ++ events } in
          kept_alike m (writes_given later) (version_after later).keeps (version_after h).keeps query now before ∙ alike h events query legal;
      stay = λ h events query legal stays.
          let later = record h { events = h.events ++ events } in
          ap (λ keeps. answer_of m (writes_given later) keeps query) (keeps_behind h events stays) ∙ alike h events query legal;
    }
