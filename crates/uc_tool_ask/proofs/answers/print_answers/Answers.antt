use Rattle.std.proofs.Common.{◌≡◌, ℕ, Bool, true, List, [], ◌∷◌, length, refl, ap, sym, ◌∙◌, subst, arith}
use Rattle.std.specs.Bool.{◌==◌}
use Rattle.std.proofs.lemmas.Bool.Decides.{nat_tests}
use Rattle.std.proofs.lemmas.Result.{err_from_is_err_and}
use Rattle.uc_script.specs.Head.{queries_in}
use Rattle.uc_script.specs.declared.query.Query.{Query}
use Rattle.uc_version_state.specs.Histories.{version_after, writes_given}
use Rattle.uc_tool_ask.specs.Ask.{reply_to}
use Rattle.uc_tool_ask.specs.Given.{replies_given}
use Rattle.uc_tool_io.specs.Writing.{AppendsFront}
use Rattle.std.specs.Io.KnownBytes.{Appends}
use Rattle.uc_tool_io.proofs.Printing.{GoesOn, begins, no_memory, all_printed}
use Rattle.uc_tool_ask.proofs.Batches.{replies_parts, batch_sent, batch_stopped}
use Rattle.uc_tool_ask.proofs.answers.print_answers.Goals as goal

-- a list of no element
empty_of : (xs : List Query) (n : ℕ) (b : Bool) → n ≡ length xs → b ≡ (n == 0) → b ≡ true → xs ≡ []
empty_of [] n b is e t = refl
empty_of (x ∷ xs) n b is e t =
    let none : n ≡ 0 = grind (arith, nat_tests, e, t) in
    absurd (omega (arith, none, is))

pub asked-init : goal.asked-init
asked-init g c =
    let old = g.W.Write.contents c.args.writer.now in
    record {
      enough = rw c.replace-readers.ensures.value c.requires.readers;
      some = c.args.plan.is_plan.some_worker;
      goes = λ h legal leads. let all = replies_given g.O.Operator.meaning h c.args.last (queries_in c.args.head.now) in
          subst (λ (qs : List Query). GoesOn all (replies_given g.O.Operator.meaning h c.args.last qs) old old) (sym c.new-ahead.ensures) (begins all old);
    }

pub returns-in_err-asked-clause-printed : goal.returns-in_err-asked-clause-printed
returns-in_err-asked-clause-printed g c h legal leads =
    let contents = g.W.Write.contents in
    let replies = replies_given g.O.Operator.meaning h c.args.last in
    let p = err_from_is_err_and c.from_residual.result c.from_residual.ensures.1 in
    rw (p.1, p.2) (no_memory (replies (queries_in c.args.head.now)) (replies c.asked.ahead) (contents c.args.writer.now) (contents c.asked.writer) (c.asked.invariant.goes h legal leads))

pub returns-then-is_empty-clause-printed : goal.returns-then-is_empty-clause-printed
returns-then-is_empty-clause-printed g c h legal leads =
    let contents = g.W.Write.contents in
    let replies = replies_given g.O.Operator.meaning h c.args.last in
    let none : c.in_ok-asked.asked.items ≡ [] = empty_of c.in_ok-asked.asked.items _ c.is_empty.result (omega (arith, c.in_ok-asked.asked.ok.0)) c.is_empty.ensures c.if-is_empty.true in
    let nothing : replies c.asked.ahead ≡ [] = ap replies (c.in_ok-asked.ensures.some none) in
    all_printed (replies (queries_in c.args.head.now)) (replies c.asked.ahead) (contents c.args.writer.now) (contents c.asked.writer) (c.asked.invariant.goes h legal leads) nothing

pub returns-in_err-back-clause-printed : goal.returns-in_err-back-clause-printed
returns-in_err-back-clause-printed g c h legal leads =
    let contents = g.W.Write.contents in
    let replies = replies_given g.O.Operator.meaning h c.args.last in
    let p = err_from_is_err_and c.from_residual-in_err-back.result c.from_residual-in_err-back.ensures.1 in
    rw (p.1, p.2) (no_memory (replies (queries_in c.args.head.now)) (replies c.asked.ahead) (contents c.args.writer.now) (contents c.asked.writer) (c.asked.invariant.goes h legal leads))

pub returns-in_err-write_bytes-clause-printed : goal.returns-in_err-write_bytes-clause-printed
returns-in_err-write_bytes-clause-printed g c h legal leads =
    let m = g.O.Operator.meaning in
    let contents = g.W.Write.contents in
    let replies = replies_given m h c.args.last in
    let old = contents c.args.writer.now in
    let here = contents c.asked.writer in
    let after = contents c.write_bytes.new.writer in
    let first = replies c.in_ok-asked.asked.items in
    let next = replies_parts (reply_to m (writes_given h) (version_after h).keeps c.args.last) c.in_ok-asked.asked.items c.next_batch.new.ahead c.asked.ahead c.in_ok-asked.ensures.parts in
    let lines = c.deref.ensures.value ∙ c.in_ok-back.ensures.lines h legal leads in
    let front = subst (λ (text : List ℕ). AppendsFront here after text) lines c.in_err-write_bytes.ensures.err in
    let p = err_from_is_err_and c.from_residual-in_err-write_bytes.result c.from_residual-in_err-write_bytes.ensures.1 in
    rw (p.1, p.2, c.in_err-write_bytes.ensures.device) (batch_stopped (replies (queries_in c.args.head.now)) (replies c.asked.ahead) first (replies c.next_batch.new.ahead) old here (c.asked.invariant.goes h legal leads) next after front)

pub asked-preserved : goal.asked-preserved
asked-preserved g c =
    let m = g.O.Operator.meaning in
    let contents = g.W.Write.contents in
    let old = contents c.args.writer.now in
    let here = contents c.asked.writer in
    let after = contents c.write_bytes.new.writer in
    record {
      enough = rw c.in_ok-back.ensures.readers c.asked.invariant.enough;
      some = c.next_size-size.ensures;
      goes = λ h legal leads.
          let replies = replies_given m h c.args.last in
          let next = replies_parts (reply_to m (writes_given h) (version_after h).keeps c.args.last) c.in_ok-asked.asked.items c.next_batch.new.ahead c.asked.ahead c.in_ok-asked.ensures.parts in
          let lines = c.deref.ensures.value ∙ c.in_ok-back.ensures.lines h legal leads in
          let sent = subst (λ (text : List ℕ). Appends here after text) lines c.in_ok-write_bytes.ensures.ok in
          batch_sent (replies (queries_in c.args.head.now)) (replies c.asked.ahead) (replies c.in_ok-asked.asked.items) (replies c.next_batch.new.ahead) old here (c.asked.invariant.goes h legal leads) next after sent;
    }
