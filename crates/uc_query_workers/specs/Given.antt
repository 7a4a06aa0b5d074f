-- Answers that are given to queries, one to each.
use Rattle.std.specs.Prelude.{◌≡◌, ◌⊎◌, List, [], ◌∷◌, ◌++◌}
use Rattle.std.specs.List.{AllZip}
use Rattle.uc_query_read.specs.declared.query.Query.{Query}
use Rattle.uc_query_read.specs.declared.answer.Answer.{Answer}

-- one answer for each query is appended, each such as may be given to it
pub record Appended (gives : Query → Answer → Type 0) (queries : List Query) (before after : List Answer) : Type 0 where
  pub given : List Answer
  pub are : after ≡ before ++ given
  pub each : AllZip gives queries given

-- P holds of the items of two lists at some place, which both have
abbrev pub SomeZip : {A B : Type 0} → (A → B → Type 0) → List A → List B → Type 0
SomeZip P [] ys = ⊥
SomeZip P (x ∷ xs) [] = ⊥
SomeZip P (x ∷ xs) (y ∷ ys) = P x y ⊎ SomeZip P xs ys

-- an answer that may be given to a query from one of some places, which went from what it was to what it is
abbrev pub GivenBySome : {P : Type 0} → (P → P → Query → Answer → Type 0) → List P → List P → Query → Answer → Type 0
GivenBySome gives before after query answer = SomeZip (λ x y. gives x y query answer) before after
