-- Answers between two points in time of a reader.
use Rattle.std.proofs.Common.{◌≡◌, true, Bool, inl, inr, List, [], ◌∷◌, fold, map, ap, ◌∙◌, subst}
use Rattle.std.specs.List.{AllZip}
use mathlib.Core.List.{IsPrefix}
use Rattle.uc_oper.specs.Operation.{Operation}
use Rattle.uc_query_read.specs.Answers.{answer_of}
use Rattle.uc_query_read.specs.declared.answer.Answer.{Answer}
use Rattle.uc_query_read.specs.declared.query.Query.{Query}
use Rattle.uc_query_workers.specs.Asking.{answers_of}
use Rattle.uc_query_workers.specs.Given.{SomeZip, GivenBySome}
use Rattle.uc_query_shared.specs.Given.{ForEachHistory, longer, IsAnswerBetween, MayBeGiven}
use Rattle.uc_share.specs.Fronts.{Moment}
use Rattle.uc_share.proofs.Prefixes.{prefix_self}
use Rattle.uc_version_state.specs.Versions.{Stored, writes_in}
use Rattle.uc_version_state.specs.Histories.{KeepsStay, History, IsLegal, MayFollow, after, version_after, writes_given}
use Rattle.uc_version_state.specs.declared.event.Event.{Event}

-- ---- lists

-- each has what it is mapped to
each_mapped : {A B : Type 0} (R : A → B → Type 0) (f : A → B) (xs : List A) → ((x : A) → R x (f x)) → AllZip R xs (map f xs)
each_mapped R f [] each = tt
each_mapped R f (x ∷ xs) each = (each x, each_mapped R f xs each)

all_weaker : {A B : Type 0} (R Q : A → B → Type 0) (xs : List A) (ys : List B) → ((x : A) (y : B) → R x y → Q x y) → AllZip R xs ys → AllZip Q xs ys
all_weaker R Q [] [] weaker all = tt
all_weaker R Q [] (y ∷ ys) weaker all = absurd all
all_weaker R Q (x ∷ xs) [] weaker all = absurd all
all_weaker R Q (x ∷ xs) (y ∷ ys) weaker all = (weaker x y all.0, all_weaker R Q xs ys weaker all.1)

some_weaker : {A B : Type 0} (R Q : A → B → Type 0) (xs : List A) (ys : List B) → ((x : A) (y : B) → R x y → Q x y) → SomeZip R xs ys → SomeZip Q xs ys
some_weaker R Q [] ys weaker some = absurd some
some_weaker R Q (x ∷ xs) [] weaker some = absurd some
some_weaker R Q (x ∷ xs) (y ∷ ys) weaker (inl here) = inl (weaker x y here)
some_weaker R Q (x ∷ xs) (y ∷ ys) weaker (inr behind) = inr (some_weaker R Q xs ys weaker behind)

-- what follows at each place follows
some_gives : {A B : Type 0} (R : A → B → Type 0) (Q : Type 0) (xs : List A) (ys : List B) → ((x : A) (y : B) → R x y → Q) → SomeZip R xs ys → Q
some_gives R Q [] ys gives some = absurd some
some_gives R Q (x ∷ xs) [] gives some = absurd some
some_gives R Q (x ∷ xs) (y ∷ ys) gives (inl here) = gives x y here
some_gives R Q (x ∷ xs) (y ∷ ys) gives (inr behind) = some_gives R Q xs ys gives behind

-- ---- answers

module _ (m : Operation) (stay : Bool) (base : Stored) where
  -- the laws that a pinned version's answer obeys
  abbrev AsGiven : Type 0
  AsGiven = (h : History) (base : Stored) (events : List Event) (query : Query) → IsLegal m h → version_after h ≡ base → MayFollow m base events
      → answer_of m (writes_in (fold after base events)) (fold after base events).keeps query ≡ answer_of m (writes_given (longer h events)) (version_after (longer h events)).keeps query

  abbrev AsOpened : Type 0
  AsOpened = (h : History) (base : Stored) (events : List Event) (query : Query) → IsLegal m h → version_after h ≡ base → MayFollow m base events → KeepsStay events
      → answer_of m (writes_in (fold after base events)) (fold after base events).keeps query ≡ answer_of m (writes_given h) (version_after h).keeps query

  module _ (as_given : AsGiven) (as_opened : AsOpened) (old new : List Event) (grows : IsPrefix old new) (legal : MayFollow m base new) where
    -- the answer of a version to which all leads that a reader has seen
    given_now : (v : Stored) (query : Query) → v ≡ fold after base new → (stay ≡ true → KeepsStay new) → MayBeGiven m stay base query (answer_of m (writes_in v) v.keeps query) old new
    given_now v query v_is keeps =
        let same = ap (λ (w : Stored). answer_of m (writes_in w) w.keeps query) v_is in
        record {
          between = record { events = new; behind = grows; seen = prefix_self new; given = λ h opens is. same ∙ as_given h base new query opens is legal };
          stays = λ stays h opens is. same ∙ as_opened h base new query opens is legal (keeps stays);
        }

    -- the answers of the version that it pinned, of what was shown then
    pub all_pinned : (pin shown : Moment) (v : Stored) (queries : List Query) → pin ≡ shown → shown.version ≡ fold after base new → shown.events ≡ new → v ≡ pin.version → (stay ≡ true → KeepsStay pin.events)
        → AllZip (λ query answer. MayBeGiven m stay base query answer old new) queries (answers_of m v queries)
    all_pinned pin shown v queries pinned version events is keeps =
        each_mapped (λ query answer. MayBeGiven m stay base query answer old new) (answer_of m (writes_in v) v.keeps) queries
        (λ query. given_now v query (is ∙ ap (λ (p : Moment). p.version) pinned ∙ version) (λ stays. subst KeepsStay (ap (λ (p : Moment). p.events) pinned ∙ events) (keeps stays)))

  module _ (old new : List (List Event)) where
    abbrev pub Given : Query → Answer → Type 0
    Given query answer = GivenBySome (λ before after query answer. MayBeGiven m stay base query answer before after) old new query answer

    -- each answer is one between two points in time of some reader
    pub all_between : (queries : List Query) (answers : List Answer) → AllZip Given queries answers → AllZip (λ query answer. SomeZip (IsAnswerBetween m base query answer) old new) queries answers
    all_between queries answers all =
        all_weaker Given (λ query answer. SomeZip (IsAnswerBetween m base query answer) old new) queries answers
        (λ query answer some. some_weaker (MayBeGiven m stay base query answer) (IsAnswerBetween m base query answer) old new (λ before after given. given.between) some) all

    -- if the keeps stay, it is what the writes give with which the store was opened
    pub stays_given : (query : Query) (answer : Answer) → stay ≡ true → Given query answer → ForEachHistory m base (λ h. answer ≡ answer_of m (writes_given h) (version_after h).keeps query)
    stays_given query answer stays some =
        some_gives (MayBeGiven m stay base query answer) (ForEachHistory m base (λ h. answer ≡ answer_of m (writes_given h) (version_after h).keeps query)) old new (λ before after given. given.stays stays) some
