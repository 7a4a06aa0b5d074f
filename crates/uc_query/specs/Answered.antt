-- Answers from plain writes, and versions along a history.
use Rattle.std.specs.Prelude.{◌≡◌, ◌⊎◌, ℕ, Bool, true, false, ⊤, List, [], ◌∷◌, ◌++◌, map, if◌then◌else◌}
use Rattle.uc_oper.specs.Operation.{Operation}
use Rattle.uc_batch.specs.Rising.{last_of}
use Rattle.uc_query_read.specs.Answers.{is_protected, answer_of}
use Rattle.uc_version_state.specs.Versions.{Stored}
use Rattle.uc_version_state.specs.Feeds.{begin_above}
use Rattle.uc_version_state.specs.declared.feed_error.FeedError.TheVariants.{Back, TooManyRuns, IdsSpent}
use Rattle.uc_version_state.specs.declared.event.Event.{Event}
use Rattle.uc_version_state.specs.declared.event.Event.TheVariants as event
use Rattle.uc_version_state.specs.Histories.{History, IsLegal, version_after, Known, known_after}
use Rattle.uc_query.specs.declared.call.Call.{Call}
use Rattle.uc_query.specs.declared.call.Call.TheVariants as call
use Rattle.uc_query.specs.declared.reply.Reply.{Reply}
use Rattle.uc_query.specs.declared.reply.Reply.TheVariants.{Answers, Fed, NotFed, Kept, Released, NotReleased}

-- what is known after a call with this reply: more writes if they were fed, and other keeps after one came or went
abbrev pub known_then : Known → Call → Reply → Known
known_then k (call.Feed writes) (Fed count) = known_after k (event.Flushed writes.list)
known_then k call.Keep (Kept last) = known_after k event.Kept
known_then k (call.Release seq) (Released kept) = known_after k (event.Released seq)
known_then k _ _ = k

-- writes are fed, or the store has no slot or no id left for a run
abbrev pub IsFedOrFull : Reply → Type 0
IsFedOrFull reply = ((count : ℕ) × (reply ≡ Fed count)) ⊎ (reply ≡ NotFed TooManyRuns) ⊎ (reply ≡ NotFed IdsSpent)

-- the reply to writes after a last sequence number, which are rejected exactly if the first of them isn't above it
abbrev pub IsFeedAnswered : ℕ → Bool → Reply → Type 0
IsFeedAnswered last false reply = reply ≡ NotFed (Back last)
IsFeedAnswered last true reply = IsFedOrFull reply

-- A reply by what is known, which is no run and no compaction. Queries are answered from the writes so far, at the sequences
-- that are kept.
abbrev pub IsAnswered : Operation → Known → Call → Reply → Type 0
IsAnswered m k (call.Claim name stretch) reply = ⊤
IsAnswered m k (call.Install name) reply = ⊤
IsAnswered m k (call.Abandon name) reply = ⊤
IsAnswered m k (call.Compact stretch) reply = ⊤
IsAnswered m k call.Pick reply = ⊤
IsAnswered m k call.Report reply = ⊤
IsAnswered m k (call.Ask queries workers piece) reply = reply ≡ Answers (map (answer_of m k.writes k.keeps) queries)
IsAnswered m k (call.Feed writes) reply =
    IsFeedAnswered (last_of 0 k.writes) (begin_above (last_of 0 k.writes) writes.list) reply
IsAnswered m k call.Keep reply = reply ≡ Kept (last_of 0 k.writes)
IsAnswered m k (call.Release seq) reply = reply ≡ (if is_protected k.keeps seq then Released seq else NotReleased seq)

-- each reply is one by what is known then; what is fed, kept and released counts for the calls after it
abbrev pub AreAnswered : Operation → Known → List Call → List Reply → Type 0
AreAnswered m k [] [] = ⊤
AreAnswered m k (c ∷ cs) (reply ∷ replies) = IsAnswered m k c reply × AreAnswered m (known_then k c reply) cs replies
AreAnswered m k [] (reply ∷ replies) = ⊥
AreAnswered m k (c ∷ cs) [] = ⊥

-- the version is the one after a legal history that begins with this one
abbrev pub LeadsTo : Operation → History → Stored → Type 0
LeadsTo m h version =
    (events : List Event) × IsLegal m (record h { events = h.events ++ events })
    × (version ≡ version_after (record h { events = h.events ++ events }))
