-- The output for a script's calls, by its writes alone.
use Rattle.std.specs.Prelude.{◌≡◌, ◌+◌, ⊤, List, ◌∷◌, codes}
use Rattle.std.specs.List.{AllZip}
use Rattle.uc_oper.specs.Operation.{Operation}
use Rattle.uc_script.specs.declared.call.Call.{Call}
use Rattle.uc_script.specs.declared.call.Call.TheVariants.{Read, Claim, Install, Abandon, Compact, Pick, Report, Feed, Keep, Release}
use Rattle.uc_version_state.specs.Openings.{Opening, opened}
use Rattle.uc_version_state.specs.Histories.{known_at_first}
use Rattle.uc_query.specs.Answered.{AreAnswered, IsFedOrFull}
use Rattle.uc_query.specs.declared.reply.Reply.{Reply}
use Rattle.uc_tool_io.specs.Output.{Output}
use Rattle.uc_tool_io.specs.Line.{numbered_line}
use Rattle.uc_tool_io.specs.declared.done.Done.TheVariants.{Fine}
use Rattle.uc_tool.specs.Play.{calls_of, lines_of}

-- the reply to a feed isn't that its writes come too late
abbrev pub IsNotBack : Call → Reply → Type 0
IsNotBack (Read asked) reply = ⊤
IsNotBack (Claim name first count) reply = ⊤
IsNotBack (Install name) reply = ⊤
IsNotBack (Abandon name) reply = ⊤
IsNotBack (Compact first count) reply = ⊤
IsNotBack Pick reply = ⊤
IsNotBack Report reply = ⊤
IsNotBack (Feed ops) reply = IsFedOrFull reply
IsNotBack Keep reply = ⊤
IsNotBack (Release at) reply = ⊤

-- The output is that a store opened so, and the lines of a reply to each of these calls. Each reply is one by what is known
-- then, which is no run and no compaction: a read is answered from the writes so far, those of the opening and those that were
-- fed, at the sequences that are kept then.
pub record AnswersReads (m : Operation) (o : Opening) (calls : List Call) (output : Output) : Type 0 where
  pub replies : List Reply
  pub prints : output ≡ record {
    replies = numbered_line (codes "opened ") (opened o).last ∷ lines_of (opened o).last (calls_of (opened o).last ((opened o).last + 1) calls) replies;
    done = Fine;
  }
  pub answered : AreAnswered m (known_at_first o) (calls_of (opened o).last ((opened o).last + 1) calls) replies
  pub none_back : AllZip IsNotBack calls replies
