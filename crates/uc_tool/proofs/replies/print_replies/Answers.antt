use Rattle.std.proofs.Common.{rules, ◌≡◌, ◌+◌, [], ◌∷◌, length, sym, ap, ◌∙◌, subst}
use Rattle.std.proofs.lemmas.Result.{err_from_is_err_and}
use Rattle.uc_script.specs.Calls.{calls_in}
use Rattle.uc_script.specs.Fed.{fed_ops}
use Rattle.uc_query.specs.Names.{State}
use Rattle.uc_query.specs.Running.{unnamed}
use Rattle.uc_tool.specs.Play.{FitLogs, replies_of}
use Rattle.uc_tool.proofs.Calls.{first_reply, names_later}
use Rattle.uc_tool_io.proofs.Printing.{no_memory, all_printed, goes_next, stops_next}
use Rattle.uc_tool.proofs.replies.print_replies.Goals as goal

pub returns-in_err-call : goal.returns-in_err-call
returns-in_err-call g c =
    let m = g.O.Operator.meaning in
    let contents = g.W.Write.contents in
    let l = c.loop-ahead in
    let here : State = record { owner = l.owned; names = l.claims } in
    let p = err_from_is_err_and c.from_residual.result c.from_residual.ensures.1 in
    rw (p.1, p.2) (no_memory (replies_of m (unnamed c.args.owned.now) c.args.last c.args.first (calls_in c.args.lines.now)) (replies_of m here c.args.last l.next l.ahead) (contents c.args.writer.now) (contents l.writer) l.invariant.goes)

pub returns-in_err-reply : goal.returns-in_err-reply
returns-in_err-reply g c =
    let m = g.O.Operator.meaning in
    let contents = g.W.Write.contents in
    let l = c.loop-ahead in
    let here : State = record { owner = l.owned; names = l.claims } in
    let p = err_from_is_err_and c.from_residual-in_err-reply.result c.from_residual-in_err-reply.ensures.1 in
    rw (p.1, p.2) (no_memory (replies_of m (unnamed c.args.owned.now) c.args.last c.args.first (calls_in c.args.lines.now)) (replies_of m here c.args.last l.next l.ahead) (contents c.args.writer.now) (contents l.writer) l.invariant.goes)

pub returns-in_err-write_bytes : goal.returns-in_err-write_bytes
returns-in_err-write_bytes g c =
    let m = g.O.Operator.meaning in
    let contents = g.W.Write.contents in
    let l = c.loop-ahead in
    let last = c.args.last in
    let here : State = record { owner = l.owned; names = l.claims } in
    let after : State = record { owner = c.reply_to.new.owned; names = c.reply_to.new.claims } in
    let calls = c.next_call.new.self in
    let count = length (fed_ops c.in-Some.call) in
    let first : l.ahead ≡ c.in-Some.call ∷ calls = search rules in
    let reply = c.in_ok-reply.reply.items in
    let pending = ap (λ ahead. replies_of m here last l.next ahead) first ∙ first_reply m here after last l.next c.in-Some.call calls reply c.in_ok-reply.ensures.turn in
    let front = rw c.deref.ensures.value at c.in_err-write_bytes.ensures.err in
    let p = err_from_is_err_and c.from_residual-in_err-write_bytes.result c.from_residual-in_err-write_bytes.ensures.1 in
    rw (p.1, p.2, c.in_err-write_bytes.ensures.device) (stops_next (replies_of m (unnamed c.args.owned.now) last c.args.first (calls_in c.args.lines.now)) (replies_of m here last l.next l.ahead) (contents c.args.writer.now) (contents l.writer) l.invariant.goes reply (replies_of m after last (l.next + count) calls) pending (contents c.write_bytes.new.writer) front)

pub loop-ahead-preserved : goal.loop-ahead-preserved
loop-ahead-preserved g c =
    let m = g.O.Operator.meaning in
    let contents = g.W.Write.contents in
    let l = c.loop-ahead in
    let last = c.args.last in
    let here : State = record { owner = l.owned; names = l.claims } in
    let after : State = record { owner = c.reply_to.new.owned; names = c.reply_to.new.claims } in
    let calls = c.next_call.new.self in
    let count = c.fed_count-count.result in
    let first : l.ahead ≡ c.in-Some.call ∷ calls = search rules in
    let reply = c.in_ok-reply.reply.items in
    let pending = ap (λ ahead. replies_of m here last l.next ahead) first ∙ first_reply m here after last l.next c.in-Some.call calls reply c.in_ok-reply.ensures.turn
    ∙ ap (λ n. reply ∷ replies_of m after last (l.next + n) calls) (sym c.fed_count-count.ensures) in
    let sent = rw c.deref.ensures.value at c.in_ok-write_bytes.ensures.ok in
    record {
      fits = subst (λ n. FitLogs (l.next + n) calls) (sym c.fed_count-count.ensures) (rw first at l.invariant.fits).1;
      names = names_later c.in-Some.call calls (rw first at l.invariant.names);
      held = c.in_ok-reply.ensures.held;
      goes = goes_next (replies_of m (unnamed c.args.owned.now) last c.args.first (calls_in c.args.lines.now)) (replies_of m here last l.next l.ahead) (contents c.args.writer.now) (contents l.writer) l.invariant.goes reply (replies_of m after last (l.next + count) calls) pending (contents c.write_bytes.new.writer) sent;
    }

pub returns : goal.returns
returns g c =
    let m = g.O.Operator.meaning in
    let contents = g.W.Write.contents in
    let l = c.loop-ahead in
    let last = c.args.last in
    let here : State = record { owner = l.owned; names = l.claims } in
    let none : l.ahead ≡ [] = search rules in
    all_printed (replies_of m (unnamed c.args.owned.now) last c.args.first (calls_in c.args.lines.now)) (replies_of m here last l.next l.ahead) (contents c.args.writer.now) (contents l.writer) l.invariant.goes (ap (λ ahead. replies_of m here last l.next ahead) none)
