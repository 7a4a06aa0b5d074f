-- The results of a list of calls from any state on.
use Rattle.std.specs.Prelude.{◌≡◌, List, ◌∷◌, ◌++◌, None}
use Rattle.std.specs.List.{AllByRecursion}
use Rattle.uc_oper.specs.Operation.{Operation}
use Rattle.uc_query_workers.specs.declared.ask_error.AskError.{AskError}
use Rattle.uc_query.specs.declared.call.Call.{Call}
use Rattle.uc_query.specs.declared.reply.Reply.{Reply}
use Rattle.uc_query.specs.Names.{State}
use Rattle.uc_query.specs.Turns.{FailsWith, Rises, turn_of}
use Rattle.uc_query.specs.Running.{run_of}

-- all calls had a reply, and this is then; what they fed rises
pub record RunsTo (m : Operation) (s : State) (calls : List Call) (replies : List Reply) (new : State) : Type 0 where
  pub no_error : (run_of m s calls).error ≡ None
  pub replied : replies ≡ (run_of m s calls).replies
  pub left : new ≡ (run_of m s calls).state
  pub rising : AllByRecursion Rises calls

-- some calls had a reply, the next one failed, and this is then; what they fed rises
pub record Halts (m : Operation) (s : State) (calls : List Call) (error : AskError) (new : State) : Type 0 where
  pub made : List Call
  pub failed : Call
  pub others : List Call
  pub in_order : calls ≡ made ++ failed ∷ others
  pub no_error : (run_of m s made).error ≡ None
  pub why : FailsWith (turn_of m (run_of m s made).state failed) error
  pub left : new ≡ (run_of m s made).state
  pub rising : AllByRecursion Rises made
