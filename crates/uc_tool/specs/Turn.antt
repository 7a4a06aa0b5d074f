-- The result of one call to a store, as lines.
use Rattle.std.specs.Prelude.{◌≡◌, ℕ, List, Ok}
use Rattle.uc_oper.specs.Operation.{Operation}
use Rattle.uc_query.specs.Names.{State}
use Rattle.uc_query.specs.Turns.{turn_of}
use Rattle.uc_query.specs.declared.call.Call.{Call}
use Rattle.uc_query.specs.declared.reply.Reply.{Reply}
use Rattle.uc_tool.specs.Play.{asked_alone}
use Rattle.uc_tool.specs.declared.replies.Asked.{Asked}
use Rattle.uc_tool.specs.declared.replies.Asked.TheVariants.{Answer, Work}
use Rattle.uc_tool_opening.specs.ReplyLines.{reply_lines}

-- the lines are those of the reply to the call, and the store is left as the call leaves it
pub record Turns (m : Operation) (old : State) (call : Call) (lines : List ℕ) (new : State) : Type 0 where
  pub reply : Reply
  pub turn : turn_of m old call ≡ Ok (record { reply = reply; state = new })
  pub lines_are : lines ≡ reply_lines new.owner.version.last reply

-- the call to a store that asks this: a query is asked alone
abbrev pub store_call : Asked → Call
store_call (Answer query) = asked_alone query
store_call (Work call) = call
