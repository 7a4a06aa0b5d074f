-- The results of a list of calls.
use Rattle.std.specs.Prelude.{◌≡◌, List, [], ◌∷◌, ◌++◌, Option, Some, None, Result, Ok, Err, replicate}
use Rattle.uc_oper.specs.Operation.{Operation}
use Rattle.uc_version.specs.declared.held_stretch.TheConstants.{MOST_CLAIMS}
use Rattle.uc_version.specs.Owners.{Owner}
use Rattle.uc_query_workers.specs.declared.ask_error.AskError.{AskError}
use Rattle.uc_query.specs.declared.call.Call.{Call}
use Rattle.uc_query.specs.declared.reply.Reply.{Reply}
use Rattle.uc_query.specs.Names.{State, named, released}
use Rattle.uc_query.specs.Turns.{Turn, FailsWith, turn_of}

-- the replies, what is then, and the error that ended it, if one did
pub record Ran : Type 0 where
  pub replies : List Reply
  pub state : State
  pub error : Option AskError

-- a reply, and the results of the calls after it
abbrev pub behind : Reply → Ran → Ran
behind reply ran = record ran { replies = reply ∷ ran.replies }

-- a call's turn, and then the others from the state that it leaves; an error ends it
abbrev pub unless_error : State → Result Turn AskError → (State → Ran) → Ran
unless_error s (Err error) others = record { replies = []; state = s; error = Some error }
unless_error s (Ok turn) others = behind turn.reply (others turn.state)

-- the calls in turn
abbrev pub run_of : Operation → State → List Call → Ran
run_of m s [] = record { replies = []; state = s; error = None }
run_of m s (call ∷ calls) = unless_error s (turn_of m s call) (λ next. run_of m next calls)

-- a store where no name stands for a claim
abbrev pub unnamed : Owner → State
unnamed o = named o (replicate MOST_CLAIMS None)

-- all calls had a reply, and the claims that were still under names were given back
pub record RunsAll (m : Operation) (old : Owner) (calls : List Call) (replies : List Reply) (new : Owner) : Type 0 where
  pub no_error : (run_of m (unnamed old) calls).error ≡ None
  pub replied : replies ≡ (run_of m (unnamed old) calls).replies
  pub left : new ≡ released (run_of m (unnamed old) calls).state

-- Some calls were made, and the next one failed: as its turn says, or because allocation failed in its turn. The results of the
-- calls before it stay, it changes nothing, and the claims that were still under names were given back.
pub record Stops (m : Operation) (old : Owner) (calls : List Call) (error : AskError) (new : Owner) : Type 0 where
  pub made : List Call
  pub failed : Call
  pub others : List Call
  pub in_order : calls ≡ made ++ failed ∷ others
  pub no_error : (run_of m (unnamed old) made).error ≡ None
  pub why : FailsWith (turn_of m (run_of m (unnamed old) made).state failed) error
  pub left : new ≡ released (run_of m (unnamed old) made).state
