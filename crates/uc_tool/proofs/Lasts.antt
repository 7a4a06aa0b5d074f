-- The last sequence after a call is known from the call and its reply.
use Rattle.std.proofs.Common.{◌≡◌, ℕ, Bool, true, false, cond, List, refl, sym, subst}
use Rattle.std.specs.Prelude.{⊤, Option, Some, None, Result, Ok, Err}
use Rattle.uc_oper.specs.Operation.{Operation}
use Rattle.uc_batch.specs.WriteLog.{WriteLog}
use Rattle.uc_version_state.specs.declared.stretch.Stretch.{Stretch}
use Rattle.uc_version_state.specs.declared.feed_error.FeedError.{FeedError}
use Rattle.uc_version_state.specs.Feeds.{feed_refusal}
use Rattle.uc_version_compact.specs.declared.claim_error.ClaimError.{ClaimError}
use Rattle.uc_version.specs.Claiming.{Claim, claim_refusal}
use Rattle.uc_query_read.specs.declared.query.Query.{Query}
use Rattle.uc_query_read.specs.Answers.{is_protected}
use Rattle.uc_query_workers.specs.declared.ask_error.AskError.{AskError}
use Rattle.uc_query_workers.specs.Asking.{ask_refusal}
use Rattle.uc_query.specs.Names.{State, claim_named}
use Rattle.uc_query.specs.Turns.{Turn, has_id, claim_turn, claimed_unless, install_turn, abandon_turn, compact_turn, ask_turn, feed_turn, release_turn, turn_of}
use Rattle.uc_query.specs.declared.call.Call.{Call}
use Rattle.uc_query.specs.declared.call.Call.TheVariants as call
use Rattle.uc_query.specs.declared.reply.Reply.{Reply}
use Rattle.uc_tool.specs.Play.{last_then}

module _ (m : Operation) (s : State) where
  -- a turn leaves the last sequence that its call and its reply say
  abbrev Leaves : Call → Turn → Type 0
  Leaves c turn = turn.state.owner.version.last ≡ last_then s.owner.version.last c turn.reply

  abbrev LeavesIfOk : Call → Result Turn AskError → Type 0
  LeavesIfOk c (Ok turn) = Leaves c turn
  LeavesIfOk c (Err error) = ⊤

  claims : (name : ℕ) (stretch : Stretch) (found : Option Claim) → Leaves (call.Claim name stretch) (claim_turn s name stretch found)
  claims name stretch (Some held) = refl
  claims name stretch None = unless (claim_refusal s.owner stretch)
    where
      unless : (refusal : Option ClaimError) → Leaves (call.Claim name stretch) (claimed_unless s name stretch refusal)
      unless (Some error) = refl
      unless None = refl

  if_id : (c : Call) (one other : Turn) → Leaves c one → Leaves c other → (b : Bool) → Leaves c (cond b one other)
  if_id c one other this that true = this
  if_id c one other this that false = that

  installs : (name : ℕ) (found : Option Claim) → Leaves (call.Install name) (install_turn m s name found)
  installs name None = refl
  installs name (Some held) = if_id (call.Install name) _ _ refl refl (has_id s.owner.version)

  abandons : (name : ℕ) (found : Option Claim) → Leaves (call.Abandon name) (abandon_turn s name found)
  abandons name None = refl
  abandons name (Some held) = refl

  compacts : (stretch : Stretch) (refusal : Option ClaimError) → Leaves (call.Compact stretch) (compact_turn m s stretch refusal)
  compacts stretch (Some error) = refl
  compacts stretch None = if_id (call.Compact stretch) _ _ refl refl (has_id s.owner.version)

  asks : (c : Call) → ((reply : Reply) → last_then s.owner.version.last c reply ≡ s.owner.version.last) → (queries : List Query) (refusal : Option AskError) → LeavesIfOk c (ask_turn m s queries refusal)
  asks c same queries (Some error) = tt
  asks c same queries None = sym (same _)

  feeds : (writes : WriteLog) (refusal : Option FeedError) → Leaves (call.Feed writes) (feed_turn s writes.list refusal)
  feeds writes (Some error) = refl
  feeds writes None = refl

  releases : (seq : ℕ) (b : Bool) → Leaves (call.Release seq) (release_turn s seq b)
  releases seq true = refl
  releases seq false = refl

  leaves : (c : Call) → LeavesIfOk c (turn_of m s c)
  leaves (call.Claim name stretch) = claims name stretch (claim_named s name)
  leaves (call.Install name) = installs name (claim_named s name)
  leaves (call.Abandon name) = abandons name (claim_named s name)
  leaves (call.Compact stretch) = compacts stretch (claim_refusal s.owner stretch)
  leaves call.Pick = refl
  leaves call.Report = refl
  leaves (call.Ask queries workers piece) = asks (call.Ask queries workers piece) (λ reply. refl) queries (ask_refusal workers piece)
  leaves (call.Feed writes) = feeds writes (feed_refusal s.owner.version writes.list)
  leaves call.Keep = refl
  leaves (call.Release seq) = releases seq (is_protected s.owner.version.keeps seq)

  pub last_moves : (c : Call) (turn : Turn) → turn_of m s c ≡ Ok turn → Leaves c turn
  last_moves c turn is = subst (LeavesIfOk c) is (leaves c)
