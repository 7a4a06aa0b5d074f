-- The replies to a script's calls, one after the other.
use Rattle.std.proofs.Common.{◌≡◌, ℕ, suc, ◌+◌, List, ◌∷◌, All, length, Result, ap, sym, ◌∙◌, arith}
use Rattle.uc_oper.specs.Operation.{Operation}
use Rattle.uc_script.specs.Fed.{fed_ops}
use Rattle.uc_script.specs.Names.{NameIsGood}
use Rattle.uc_script.specs.declared.call.Call.{Call}
use Rattle.uc_query_workers.specs.declared.ask_error.AskError.{AskError}
use Rattle.uc_query.specs.Names.{State}
use Rattle.uc_query.specs.Running.{run_of, unless_error}
use Rattle.uc_query.specs.Turns.{Turn}
use Rattle.uc_tool_opening.specs.ReplyLines.{reply_lines}
use Rattle.uc_tool.specs.Play.{call_of, calls_of, last_then, lines_of, replies_of}
use Rattle.uc_tool.specs.Turn.{Turns}
use Rattle.uc_tool.proofs.Lasts.{last_moves}

-- the first reply, and then the others
pub first_reply : (m : Operation) (s after : State) (last next : ℕ) (call : Call) (calls : List Call) (lines : List ℕ) → Turns m s (call_of last next call) lines after
    → replies_of m s last next (call ∷ calls) ≡ lines ∷ replies_of m after last (next + length (fed_ops call)) calls
first_reply m s after last next call calls lines t =
    let asked = call_of last next call in
    let others = calls_of last (next + length (fed_ops call)) calls in
    let then = after.owner.version.last in
    let moves : then ≡ last_then s.owner.version.last asked t.reply = last_moves m s asked (record { reply = t.reply; state = after }) t.turn in
    ap (λ (r : Result Turn AskError). lines_of s.owner.version.last (asked ∷ others) (unless_error s r (λ state. run_of m state others)).replies) t.turn
    ∙ ap (λ n. reply_lines n t.reply ∷ lines_of n others (run_of m after others).replies) (sym moves)
    ∙ ap (λ (line : List ℕ). line ∷ replies_of m after last (next + length (fed_ops call)) calls) (sym t.lines_are)

-- ---- names that the store has

pub names_later : (call : Call) (calls : List Call) → All NameIsGood (call ∷ calls) → All NameIsGood calls
names_later call calls good k d within = good (suc k) d (omega (arith, within))
