-- The result of a call: its reply, and the store and the names after it.
use Rattle.std.specs.Prelude.{◌≡◌, ◌⊎◌, IsOk, ℕ, ◌-◌, ◌^◌, ◌<◌, Bool, true, false, ⊤, List, length, Option, Some, None, Result, Ok, Err, nat_lt, if◌then◌else◌}
use Rattle.uc_oper.specs.Operation.{Operation}
use Rattle.uc_bytes.specs.declared.write.Write.{Write}
use Rattle.uc_batch.specs.Rising.{IsRising}
use Rattle.uc_query_read.specs.declared.query.Query.{Query}
use Rattle.uc_query_read.specs.Answers.{is_protected}
use Rattle.uc_version_state.specs.declared.stretch.Stretch.{Stretch}
use Rattle.uc_version_state.specs.Picks.{picked}
use Rattle.uc_version_state.specs.Versions.{Stored}
use Rattle.uc_version_state.specs.Feeds.{memtables_in, feed_refusal}
use Rattle.uc_version_state.specs.declared.feed_error.FeedError.{FeedError}
use Rattle.uc_version.specs.declared.held_stretch.TheConstants.{MOST_CLAIMS}
use Rattle.uc_version_compact.specs.declared.claim_error.ClaimError.{ClaimError}
use Rattle.uc_version_compact.specs.declared.install_error.InstallError.TheVariants.{IdsSpent}
use Rattle.uc_version.specs.Owners.{Owner, is_busy}
use Rattle.uc_version.specs.Picking.{candidates_of}
use Rattle.uc_version.specs.Claiming.{Claim, claim_refusal, claim_of, with_claim, without_claim}
use Rattle.uc_version.specs.Installing.{stretch_of, compaction_of, after_install}
use Rattle.uc_version.specs.AtOnce.{after_compaction}
use Rattle.uc_version.specs.Feeding.{after_feed, after_keep, after_release}
use Rattle.uc_query.specs.Reports.{report_of}
use Rattle.uc_query_workers.specs.declared.ask_error.AskError.{AskError}
use Rattle.uc_query_workers.specs.declared.ask_error.AskError.TheVariants.{Memory}
use Rattle.uc_query_workers.specs.Asking.{ask_refusal, answers_of}
use Rattle.uc_query.specs.declared.call.Call.{Call}
use Rattle.uc_query.specs.declared.call.Call.TheVariants as call
use Rattle.uc_query.specs.declared.reply.Reply.{Reply}
use Rattle.uc_query.specs.declared.reply.Reply.TheVariants.{Claimed, Refused, Installed, NotInstalled, Abandoned, NoClaim, NameHeld, Compacted, Picked, Reported, Answers, Fed, NotFed, Kept, Released, NotReleased}
use Rattle.uc_query.specs.Names.{State, claim_named, with_name}

-- a call's name is one of those that there are
abbrev pub HasName : Call → Type 0
HasName (call.Claim name stretch) = name < MOST_CLAIMS
HasName (call.Install name) = name < MOST_CLAIMS
HasName (call.Abandon name) = name < MOST_CLAIMS
HasName (call.Compact stretch) = ⊤
HasName call.Pick = ⊤
HasName call.Report = ⊤
HasName (call.Ask queries workers piece) = ⊤
HasName (call.Feed writes) = ⊤
HasName call.Keep = ⊤
HasName (call.Release seq) = ⊤

-- what a call feeds rises, as the writes of every `Writes` do
abbrev pub Rises : Call → Type 0
Rises (call.Claim name stretch) = ⊤
Rises (call.Install name) = ⊤
Rises (call.Abandon name) = ⊤
Rises (call.Compact stretch) = ⊤
Rises call.Pick = ⊤
Rises call.Report = ⊤
Rises (call.Ask queries workers piece) = ⊤
Rises (call.Feed writes) = IsRising 0 writes.list
Rises call.Keep = ⊤
Rises (call.Release seq) = ⊤

-- a reply, and what is then
pub record Turn : Type 0 where
  pub reply : Reply
  pub state : State

-- a reply, where this is then
abbrev pub replied : State → Reply → Turn
replied s reply = record { reply = reply; state = s }

-- an id is left for one run more
abbrev pub has_id : Stored → Bool
has_id v = nat_lt v.next_id (2 ^ 64 - 1)

-- the owner once the stretch of a claim was compacted, under the present keeps, and installed
abbrev pub compacted : Operation → Owner → Claim → Owner
compacted m o c = after_install m o c (compaction_of o.version (stretch_of o c))

-- the owner with a claim of the stretch
abbrev pub claimed : Owner → Stretch → Owner
claimed o stretch = with_claim o (claim_of o stretch) stretch

-- ---- a claim under a name: a name that is held is rejected before the stretch is checked

abbrev pub claimed_unless : State → ℕ → Stretch → Option ClaimError → Turn
claimed_unless s name stretch (Some error) = replied s (Refused error)
claimed_unless s name stretch None =
    record { reply = Claimed name; state = with_name s (claimed s.owner stretch) name (Some (claim_of s.owner stretch)) }

abbrev pub claim_turn : State → ℕ → Stretch → Option Claim → Turn
claim_turn s name stretch (Some held) = replied s (NameHeld name)
claim_turn s name stretch None = claimed_unless s name stretch (claim_refusal s.owner stretch)

-- ---- what stands under a name, compacted and installed

abbrev pub install_turn : Operation → State → ℕ → Option Claim → Turn
install_turn m s name None = replied s (NoClaim name)
install_turn m s name (Some c) =
    if has_id s.owner.version then record { reply = Installed s.owner.version.next_id; state = with_name s (compacted m s.owner c) name None }
    else replied s (NotInstalled IdsSpent)

-- ---- what stands under a name, given back

abbrev pub abandon_turn : State → ℕ → Option Claim → Turn
abandon_turn s name None = replied s (NoClaim name)
abandon_turn s name (Some c) = record { reply = Abandoned name; state = with_name s (without_claim s.owner c) name None }

-- ---- a stretch claimed, compacted and installed at once

abbrev pub compact_turn : Operation → State → Stretch → Option ClaimError → Turn
compact_turn m s stretch (Some error) = replied s (Refused error)
compact_turn m s stretch None =
    if has_id s.owner.version then
    record { reply = Compacted s.owner.version.next_id; state = record s { owner = after_compaction m s.owner stretch } }
    else replied s (NotInstalled IdsSpent)

-- ---- queries

abbrev pub ask_turn : Operation → State → List Query → Option AskError → Result Turn AskError
ask_turn m s queries (Some error) = Err error
ask_turn m s queries None = Ok (replied s (Answers (answers_of m s.owner.version queries)))

-- ---- writes that are fed

abbrev pub feed_turn : State → List Write → Option FeedError → Turn
feed_turn s ws (Some error) = replied s (NotFed error)
feed_turn s ws None =
    record { reply = Fed (length (memtables_in s.owner.version ws)); state = record s { owner = after_feed ws s.owner } }

-- ---- snapshots

abbrev pub keep_turn : State → Turn
keep_turn s = record { reply = Kept s.owner.version.last; state = record s { owner = after_keep s.owner } }

abbrev pub release_turn : State → ℕ → Bool → Turn
release_turn s seq false = replied s (NotReleased seq)
release_turn s seq true = record { reply = Released seq; state = record s { owner = after_release seq s.owner } }

-- what a call does; an error where its queries can't be asked so
abbrev pub turn_of : Operation → State → Call → Result Turn AskError
turn_of m s (call.Claim name stretch) = Ok (claim_turn s name stretch (claim_named s name))
turn_of m s (call.Install name) = Ok (install_turn m s name (claim_named s name))
turn_of m s (call.Abandon name) = Ok (abandon_turn s name (claim_named s name))
turn_of m s (call.Compact stretch) = Ok (compact_turn m s stretch (claim_refusal s.owner stretch))
turn_of m s call.Pick = Ok (replied s (Picked (picked s.owner.options (candidates_of s.owner.version (is_busy s.owner)))))
turn_of m s call.Report = Ok (replied s (Reported (report_of s.owner.version)))
turn_of m s (call.Ask queries workers piece) = ask_turn m s queries (ask_refusal workers piece)
turn_of m s (call.Feed writes) = Ok (feed_turn s writes.list (feed_refusal s.owner.version writes.list))
turn_of m s call.Keep = Ok (keep_turn s)
turn_of m s (call.Release seq) = Ok (release_turn s seq (is_protected s.owner.version.keeps seq))

-- The error of a failed call: the one of its turn, or a failed allocation if it has a turn.
abbrev pub FailsWith : Result Turn AskError → AskError → Type 0
FailsWith turn error = (turn ≡ Err error) ⊎ ((error ≡ Memory) × IsOk turn)
