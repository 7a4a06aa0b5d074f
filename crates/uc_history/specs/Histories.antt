-- The calls of threads to one database, in the order of what happens, and the writes that each read sees.
use Rattle.std.specs.Prelude.{◌≡◌, ◌≤◌, ◌==◌, ℕ, List, [], ◌∷◌, ◌++◌, Option, Some, None, length, max, take, if◌then◌else◌}
use Rattle.uc_bytes.specs.declared.write.Write.{Write}
use Rattle.uc_oper.specs.Operation.{Operation}
use Rattle.uc_query_read.specs.Answers.{reading}
use Rattle.uc_query_read.specs.declared.answer.Answer.{Answer}
use Rattle.uc_query_read.specs.declared.query.Query.{Query}

-- An event. Each read call has a number.
pub data Event : Type 0 where
  -- the store takes the writes of a group
  Commits : List Write → Event
  -- readers are shown all writes that the store has
  Shows : Event
  -- the calls return that brought the first writes, as many as given
  Acknowledges : ℕ → Event
  -- a read call begins
  Begins : ℕ → Event
  -- it takes what readers are shown
  Takes : ℕ → Event
  -- it returns the answer to a query
  Answers : ℕ → Query → Answer → Event

-- The writes that the store has taken, and how many of the first ones readers are shown, are acknowledged, and were seen by a read that
-- has returned; and how many each read call has taken.
pub record State : Type 0 where
  pub log : List Write
  pub shown : ℕ
  pub acknowledged : ℕ
  pub seen : ℕ
  pub views : ℕ → Option ℕ

-- nothing happened yet
abbrev pub start : State
start = record { log = []; shown = 0; acknowledged = 0; seen = 0; views = λ _. None }

abbrev pub with_view : ℕ → Option ℕ → (ℕ → Option ℕ) → ℕ → Option ℕ
with_view call view views other = if other == call then view else views other

abbrev pub count_of : Option ℕ → ℕ
count_of None = 0
count_of (Some n) = n

-- the state after an event
abbrev pub happens : Event → State → State
happens (Commits writes) s = record s { log = s.log ++ writes }
happens Shows s = record s { shown = length s.log }
happens (Acknowledges n) s = record s { acknowledged = max s.acknowledged n }
happens (Begins call) s = record s { views = with_view call None s.views }
happens (Takes call) s = record s { views = with_view call (Some s.shown) s.views }
happens (Answers call query answer) s = record s { seen = max s.seen (count_of (s.views call)) }

-- the state after some events
abbrev pub run : List Event → State → State
run [] s = s
run (e ∷ es) s = run es (happens e s)

-- The answer of a call that has taken this many writes: what they answer.
abbrev pub IsRead : Operation → List Write → Option ℕ → Query → Answer → Type 0
IsRead m log None query answer = ⊥
IsRead m log (Some n) query answer = answer ≡ reading m (take n log) query

-- The database's duty: a write is acknowledged when it is shown, and a read answers what it has taken.
abbrev pub MayHappen : Operation → State → Event → Type 0
MayHappen m s (Acknowledges n) = n ≤ s.shown
MayHappen m s (Answers call query answer) = IsRead m s.log (s.views call) query answer
MayHappen m s e = Unit {0}

-- each event may happen in its turn
abbrev pub MayFollow : Operation → State → List Event → Type 0
MayFollow m s [] = Unit {0}
MayFollow m s (e ∷ es) = MayHappen m s e × MayFollow m (happens e s) es

-- A read call that began before `during` and answers after it sees the first writes, as many as were shown at a moment in between; and at
-- least those that were acknowledged before it began, and those that a read has seen which returned before.
pub record SeesMoment (m : Operation) (before during : List Event) (call : ℕ) (query : Query) (answer : Answer) : Type 0 where
  pub until : List Event
  pub since : List Event
  pub split : during ≡ until ++ since
  pub count : ℕ
  pub shown : count ≡ (run (before ++ Begins call ∷ until) start).shown
  pub answers : answer ≡ reading m (take count (run (before ++ Begins call ∷ during) start).log) query
  pub acknowledged : (run before start).acknowledged ≤ count
  pub seen : (run before start).seen ≤ count
