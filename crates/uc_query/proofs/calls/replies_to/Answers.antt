use Rattle.std.proofs.Common.{◌≡◌, ◌+◌, List, ◌∷◌, [], ◌++◌, take, subst, rules}
use Rattle.std.specs.Prelude.{Ok}
use Rattle.uc_query.specs.declared.call.Call.{Call}
use Rattle.uc_query.specs.declared.reply.Reply.{Reply}
use Rattle.uc_query.specs.Names.{State, named}
use Rattle.uc_query.specs.Turns.{FailsWith, Rises, turn_of}
use Rattle.uc_query.specs.Stepping.{RunsTo, Halts}
use Rattle.uc_query.proofs.Along.{step_on, step_halts, same_state}
use Rattle.uc_query.proofs.calls.replies_to.Goals as goal

pub returns-in-Err-clause-err : goal.returns-in-Err-clause-err
returns-in-Err-clause-err g c =
    let m = g.O.Operator.meaning in
    let calls = c.args.calls.now in
    let i = c.loop-call.call-index in
    let x = c.call-item.result in
    let error = c.in-Err.error in
    let s : State = named c.args.owned.now c.args.claims.now in
    let now : State = named c.loop-call.owned c.loop-call.claims in
    let why = subst (λ (y : Call). FailsWith (turn_of m now y) error) c.call-item.is c.in-Err.ensures.err in
    let halts = step_halts m s calls i x c.loop-call-test.true c.loop-call.replies.items now error c.loop-call.invariant.so_far why in
    same_state (Halts m s calls error) c.loop-call.owned c.call.new.owned c.loop-call.claims c.call.new.self c.in-Err.ensures.unchanged.0 c.in-Err.ensures.unchanged.1 halts

pub returns-then-is_err-clause-err : goal.returns-then-is_err-clause-err
returns-then-is_err-clause-err g c =
    let m = g.O.Operator.meaning in
    let calls = c.args.calls.now in
    let i = c.loop-call.call-index in
    let x = c.call-item.result in
    let error = c.failure_without_memory.result in
    let s : State = named c.args.owned.now c.args.claims.now in
    let now : State = named c.loop-call.owned c.loop-call.claims in
    let why = subst (λ (y : Call). FailsWith (turn_of m now y) error) c.call-item.is (c.failure_without_memory.ensures m now) in
    step_halts m s calls i x c.loop-call-test.true c.loop-call.replies.items now error c.loop-call.invariant.so_far why

pub loop-call-preserved : goal.loop-call-preserved
loop-call-preserved g c =
    let m = g.O.Operator.meaning in
    let calls = c.args.calls.now in
    let i = c.loop-call.call-index in
    let x = c.call-item.result in
    let reply = c.in-Ok.reply in
    let s : State = named c.args.owned.now c.args.claims.now in
    let now : State = named c.loop-call.owned c.loop-call.claims in
    let next : State = named c.call.new.owned c.call.new.self in
    let room = c.loop-call-test.true in
    let turn = subst (λ (y : Call). turn_of m now y ≡ Ok (record { reply = reply; state = next })) c.call-item.is c.in-Ok.ensures.ok in
    let rises = subst (λ (y : Call). Rises y) c.call-item.is c.recall.ensures in
    let more = step_on m s calls i x room c.loop-call.replies.items now next reply c.loop-call.invariant.so_far rises turn in
    let pushed : c.loop-call.replies.items ++ reply ∷ [] ≡ c.push_reserved.new.self.items = search rules in
    record {
      held = c.call.ensures.held;
      so_far = subst (λ (rs : List Reply). RunsTo m s (take (i + 1) calls) rs next) pushed more;
    }
