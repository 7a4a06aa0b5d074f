use Rattle.std.proofs.Common.{◌≡◌, ℕ, List, [], ◌∷◌, ◌++◌, Result, Ok, sym, ◌∙◌, ap}
use Rattle.std.proofs.lemmas.List.{append-nil}
use Rattle.uc_query.specs.Names.{State}
use Rattle.uc_query.specs.Turns.{Turn, replied}
use Rattle.uc_query.specs.declared.reply.Reply.TheVariants.{Answers}
use Rattle.uc_query_read.specs.Answers.{answer_of}
use Rattle.uc_query_read.specs.declared.answer.Answer.{Answer}
use Rattle.uc_query_workers.specs.declared.ask_error.AskError.{AskError}
use Rattle.uc_version_state.specs.Versions.{Stored, writes_in}
use Rattle.uc_tool_opening.specs.AnswerLines.{answer_lines}
use Rattle.uc_tool.proofs.replies.answer_to.Goals as goal

pub returns : goal.returns
returns g c names =
    let s : State = record { owner = c.args.owned.now; names = names } in
    let answer = c.in_ok-answer.answer in
    let from = λ (v : Stored). answer_of g.O.Operator.meaning (writes_in v) v.keeps c.args.query.now in
    let answer_is : answer ≡ from s.owner.version = ◌∙◌ {A = Answer} c.in_ok-answer.ensures (ap from c.version.ensures) in
    let Turned : Type 0 = Result Turn AskError in
    let turn : Answer → Turned = λ (a : Answer). Ok (replied s (Answers (a ∷ []))) in
    record {
      reply = Answers (answer ∷ []);
      turn = sym (ap turn answer_is);
      lines_are = c.in_ok-push_answer_lines.ensures ∙ ap (λ (text : List ℕ). text ++ answer_lines answer) c.new-lines.ensures.items ∙ sym (append-nil (answer_lines answer));
    }
