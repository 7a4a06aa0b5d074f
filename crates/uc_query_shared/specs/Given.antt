-- The answers to a batch from the plain writes that a store was given.
use Rattle.std.specs.Prelude.{◌≡◌, Bool, true, List, ◌++◌, map}
use mathlib.Core.List.{IsPrefix}
use Rattle.uc_oper.specs.Operation.{Operation}
use Rattle.uc_query_read.specs.declared.query.Query.{Query}
use Rattle.uc_query_read.specs.declared.answer.Answer.{Answer}
use Rattle.uc_query_read.specs.Answers.{answer_of}
use Rattle.uc_version_state.specs.Versions.{Stored}
use Rattle.uc_version_state.specs.declared.event.Event.{Event}
use Rattle.uc_version_state.specs.Histories.{History, IsLegal, version_after, writes_given}

-- the answers to queries, in their order: what the writes of a history give, at the sequences that it keeps
abbrev pub answers_given : Operation → History → List Query → List Answer
answers_given m h queries = map (answer_of m (writes_given h) (version_after h).keeps) queries

-- it holds of every legal history that leads to a version
abbrev pub ForEachHistory : Operation → Stored → (History → Type 0) → Type 0
ForEachHistory m base holds = (h : History) → IsLegal m h → version_after h ≡ base → holds h

-- a history followed by more events
abbrev pub longer : History → List Event → History
longer h events = record h { events = h.events ++ events }

-- An answer between two points in time of a reader: the writes and the keeps after some events give it, in every history of a store
-- that begins with this version. The events begin with all that the reader had seen, and it has seen them; they don't depend on the
-- history before the opening.
pub record IsAnswerBetween (m : Operation) (base : Stored) (query : Query) (answer : Answer) (old new : List Event) : Type 0 where
  pub events : List Event
  pub behind : IsPrefix old events
  pub seen : IsPrefix events new
  pub given : ForEachHistory m base (λ h. answer ≡ answer_of m (writes_given (longer h events)) (version_after (longer h events)).keeps query)

-- An answer that a store may give between two points in time of a reader. If the keeps of the store stay, it is also the answer
-- that the writes give with which the store was opened.
pub record MayBeGiven (m : Operation) (stay : Bool) (base : Stored) (query : Query) (answer : Answer) (old new : List Event) : Type 0 where
  pub between : IsAnswerBetween m base query answer old new
  pub stays : stay ≡ true → ForEachHistory m base (λ h. answer ≡ answer_of m (writes_given h) (version_after h).keeps query)
