use Rattle.uc_version_state.specs.Histories.{known}
use Rattle.uc_query.specs.Names.{State}
use Rattle.uc_query.specs.Running.{unnamed}
use Rattle.uc_query.proofs.Released.{ok_released, err_released, none_held, new_version, new_answers}
use Rattle.uc_query.proofs.calls.run_calls.Goals as goal

pub returns-clause-ok : goal.returns-clause-ok
returns-clause-ok g c =
    let left : State = record { owner = c.replies_to-replies.new.owned; names = c.replies_to-replies.new.claims } in
    ok_released g.O.Operator.meaning c.args.owned.now c.release.new.owned c.new-claims.result c.args.calls.now left c.new-claims.ensures c.release.ensures
    (λ v. v.items) c.replies_to-replies.result c.replies_to-replies.ensures.ok

pub returns-clause-err : goal.returns-clause-err
returns-clause-err g c =
    let left : State = record { owner = c.replies_to-replies.new.owned; names = c.replies_to-replies.new.claims } in
    err_released g.O.Operator.meaning c.args.owned.now c.release.new.owned c.new-claims.result c.args.calls.now left c.new-claims.ensures c.release.ensures
    (λ v. v.items) c.replies_to-replies.result c.replies_to-replies.ensures.err

pub returns-clause-answered : goal.returns-clause-answered
returns-clause-answered g c = λ h legal version.
    let o = c.args.owned.now in
    let calls = c.args.calls.now in
    let left : State = record { owner = c.replies_to-replies.new.owned; names = c.replies_to-replies.new.claims } in
    new_answers g.O.Operator.meaning o c.release.new.owned c.new-claims.result calls left c.new-claims.ensures c.release.ensures
    (λ v. v.items) (known h) (λ rising. c.asks_are_answered_from_plain_writes.ensures h (unnamed o) calls rising legal c.recall.ensures (none_held o) version)
    c.replies_to-replies.result c.replies_to-replies.ensures.ok

pub returns-clause-goes_on : goal.returns-clause-goes_on
returns-clause-goes_on g c = λ h legal version.
    let o = c.args.owned.now in
    let left : State = record { owner = c.replies_to-replies.new.owned; names = c.replies_to-replies.new.claims } in
    new_version g.O.Operator.meaning o c.release.new.owned c.new-claims.result c.args.calls.now left c.new-claims.ensures c.release.ensures
    (λ v. v.items) h (λ cs rising. c.calls_extend_histories.ensures h (unnamed o) cs rising legal c.recall.ensures (none_held o) version)
    c.replies_to-replies.result c.replies_to-replies.ensures.ok c.replies_to-replies.ensures.err
