-- The pieces that workers drew.
use Rattle.std.specs.Prelude.{◌≡◌, ◌⊎◌, ℕ, ⊤, ◌<◌, ◌≤◌, List, [], ◌∷◌, ◌++◌}
use Rattle.std.specs.List.{AllByRecursion, AllZip, flat_map, sum_by}
use Rattle.uc_query_read.specs.declared.answer.Answer.{Answer}
use Rattle.uc_query_read.specs.declared.query.Query.{Query}
use Rattle.uc_query_workers.specs.Draws.{times}
use Rattle.uc_query_workers.specs.Given.{SomeZip}
use Rattle.uc_query_workers.specs.Pieces.{Batch, piece_of}
use Rattle.uc_query_workers.specs.declared.drawn.Drawn.{Drawn}

-- each number is below those after it
abbrev pub Rises : List ℕ → Type 0
Rises [] = ⊤
Rises (x ∷ xs) = AllByRecursion (λ y. x < y) xs × Rises xs

-- the answers to the queries of the pieces with these numbers, piece by piece
abbrev pub AnswerNumbers : (Query → Answer → Type 0) → Batch → List ℕ → List Answer → Type 0
AnswerNumbers gives batch numbers answers = AllZip gives (flat_map (piece_of batch) numbers) answers

-- what a worker drew, or what is left of it: the answers are those to the pieces with the numbers
abbrev pub IsDrawn : (Query → Answer → Type 0) → Batch → Drawn → Type 0
IsDrawn gives batch drawn = AnswerNumbers gives batch drawn.numbers.items drawn.answers.items

-- what a seat's list has, a worker drew: these pieces, in rising order, and then the end; and these are the answers to them
pub record HasDrawn (gives : Query → Answer → Type 0) (batch : Batch) (pieces : ℕ) (seen numbers : List ℕ) (answers : List Answer) : Type 0 where
  pub end : ℕ
  pub past_all : pieces ≤ end
  pub seen_are : seen ≡ numbers ++ end ∷ []
  pub rising : Rises numbers
  pub answered : AnswerNumbers gives batch numbers answers

-- how often a number stands in what is left of what workers drew
abbrev pub times_in : ℕ → List Drawn → ℕ
times_in number draws = sum_by (λ (d : Drawn). times number d.numbers.items) draws

-- each worker drew rising numbers
abbrev pub AllRise : List Drawn → Type 0
AllRise draws = AllByRecursion (λ (d : Drawn). Rises d.numbers.items) draws

-- the pieces in a seat's list are those that workers drew, and they have the answers to them
pub record HaveDrawn (gives : Query → Answer → Type 0) (batch : Batch) (pieces : ℕ) (seen : List ℕ) (draws : List Drawn) : Type 0 where
  pub rising : AllRise draws
  pub counted : (number : ℕ) → number < pieces → times_in number draws ≡ times number seen
  pub answered : AllByRecursion (IsDrawn gives batch) draws

-- what is left are the pieces from one on, each once, with the answers to them
pub record AreLeft (gives : Query → Answer → Type 0) (batch : Batch) (first pieces : ℕ) (draws : List Drawn) : Type 0 where
  pub rising : AllRise draws
  pub once : (number : ℕ) → first ≤ number → number < pieces → times_in number draws ≡ 1
  pub none : (number : ℕ) → number < first → times_in number draws ≡ 0
  pub answered : AllByRecursion (IsDrawn gives batch) draws

-- an answer that stands with its query in what a worker drew, or in what is left of it
abbrev pub StandsWith : Batch → Drawn → Query → Answer → Type 0
StandsWith batch drawn query answer =
    SomeZip (λ q a. (q ≡ query) × (a ≡ answer)) (flat_map (piece_of batch) drawn.numbers.items) drawn.answers.items

-- an answer that stands with its query in what one of some workers drew
abbrev pub StandsIn : Batch → List Drawn → Query → Answer → Type 0
StandsIn batch [] query answer = ⊥
StandsIn batch (drawn ∷ draws) query answer = StandsWith batch drawn query answer ⊎ StandsIn batch draws query answer
