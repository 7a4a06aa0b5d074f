-- The numbers that workers took, and the ones that are left.
use Rattle.std.proofs.Common.{◌≡◌, ◌≢◌, ℕ, ◌+◌, ◌<◌, List, [], ◌∷◌, ◌++◌, length, get_or, set, take, drop, sym, inl, inr, subst, ap, ◌∙◌, arith}
use Rattle.std.specs.Prelude.{Some, slice_get, Result, Ok, Err, IfOk}
use Rattle.std.specs.List.{AllByRecursion, AllZip, flat_map}
use Rattle.std.proofs.ByRecursion.{All-set, All-get_or}
use Rattle.uc_query_workers.specs.Draws.{times}
use Rattle.uc_query_workers.specs.declared.drawn.Drawn.{Drawn}
use Rattle.uc_query_read.specs.declared.answer.Answer.{Answer}
use Rattle.uc_query_read.specs.declared.query.Query.{Query}
use Rattle.uc_query_workers.specs.Given.{Appended}
use Rattle.uc_query_workers.specs.Pieces.{Batch, piece_of}
use Rattle.uc_query_workers.specs.Drawing.{Rises, AnswerNumbers, IsDrawn, HasDrawn, HaveDrawn, AreLeft, StandsWith, StandsIn}
use Rattle.uc_query_workers.proofs.Left.{none_first, next_once, next_none, lone, one_worker_more}
use Rattle.uc_query_workers.proofs.Pieced.{first_taken, others_left}
use Rattle.uc_query_workers.proofs.Zips.{all_weaker, at_together, all_together}

abbrev numbers_of : Drawn → List ℕ
numbers_of d = d.numbers.items

-- what follows from two facts of a value, if there is one
pub if_both : {A E : Type 0} (r : Result A E) (P Q R : A → Type 0) → ((x : A) → P x → Q x → R x) → IfOk r P → IfOk r Q → IfOk r R
if_both (Ok x) P Q R follows one other = follows x one other
if_both (Err e) P Q R follows one other = tt

all_and : {A : Type 0} (P : A → Type 0) (xs : List A) (x : A) → AllByRecursion P xs → P x → AllByRecursion P (xs ++ x ∷ [])
all_and P [] x all one = (one, tt)
all_and P (y ∷ ys) x all one = (all.0, all_and P ys x all.1 one)

-- ---- what may be given in another way too

drawn_weaker : (gives others : Query → Answer → Type 0) → ((query : Query) (answer : Answer) → gives query answer → others query answer) → (batch : Batch) (draws : List Drawn) → AllByRecursion (IsDrawn gives batch) draws → AllByRecursion (IsDrawn others batch) draws
drawn_weaker gives others weaker batch [] all = tt
drawn_weaker gives others weaker batch (d ∷ draws) all =
    (all_weaker gives others weaker (flat_map (piece_of batch) (numbers_of d)) d.answers.items all.0, drawn_weaker gives others weaker batch draws all.1)

pub has_weaker : (gives others : Query → Answer → Type 0) → ((query : Query) (answer : Answer) → gives query answer → others query answer) → (batch : Batch) (pieces : ℕ) (seen numbers : List ℕ) (answers : List Answer) → HasDrawn gives batch pieces seen numbers answers → HasDrawn others batch pieces seen numbers answers
has_weaker gives others weaker batch pieces seen numbers answers one = record {
  end = one.end;
  past_all = one.past_all;
  seen_are = one.seen_are;
  rising = one.rising;
  answered = all_weaker gives others weaker (flat_map (piece_of batch) numbers) answers one.answered;
}

pub have_weaker : (gives others : Query → Answer → Type 0) → ((query : Query) (answer : Answer) → gives query answer → others query answer) → (batch : Batch) (pieces : ℕ) (seen : List ℕ) (draws : List Drawn) → HaveDrawn gives batch pieces seen draws → HaveDrawn others batch pieces seen draws
have_weaker gives others weaker batch pieces seen draws have = record {
  rising = have.rising;
  counted = have.counted;
  answered = drawn_weaker gives others weaker batch draws have.answered;
}

-- ---- where an answer stands with its query

-- what may be given to each may be given where they stand
pub as_given : (gives : Query → Answer → Type 0) (batch : Batch) (draws : List Drawn) → AllByRecursion (IsDrawn gives batch) draws → (query : Query) (answer : Answer) → StandsIn batch draws query answer → gives query answer
as_given gives batch [] all query answer stands = absurd stands
as_given gives batch (d ∷ draws) all query answer (inl here) = at_together gives (flat_map (piece_of batch) (numbers_of d)) d.answers.items query answer all.0 here
as_given gives batch (d ∷ draws) all query answer (inr behind) = as_given gives batch draws all.1 query answer behind

all_stand : (gives : Query → Answer → Type 0) (batch : Batch) (draws : List Drawn) → AllByRecursion (IsDrawn gives batch) draws → AllByRecursion (IsDrawn (StandsIn batch draws) batch) draws
all_stand gives batch [] all = tt
all_stand gives batch (d ∷ draws) all = (
  all_weaker (StandsWith batch d) (StandsIn batch (d ∷ draws)) (λ query answer here. inl here) (flat_map (piece_of batch) (numbers_of d)) d.answers.items (all_together gives (flat_map (piece_of batch) (numbers_of d)) d.answers.items all.0),
  drawn_weaker (StandsIn batch draws) (StandsIn batch (d ∷ draws)) (λ query answer behind. inr behind) batch draws (all_stand gives batch draws all.1),
)

pub have_stand : (gives : Query → Answer → Type 0) (batch : Batch) (pieces : ℕ) (seen : List ℕ) (draws : List Drawn) → HaveDrawn gives batch pieces seen draws → HaveDrawn (StandsIn batch draws) batch pieces seen draws
have_stand gives batch pieces seen draws have = record {
  rising = have.rising;
  counted = have.counted;
  answered = all_stand gives batch draws have.answered;
}

-- what one worker drew
module _ (gives : Query → Answer → Type 0) (batch : Batch) (pieces : ℕ) (seen numbers : List ℕ) (answers : List Answer) (d : Drawn) (one : HasDrawn gives batch pieces seen numbers answers) (numbers_are : numbers_of d ≡ numbers) (answers_are : d.answers.items ≡ answers) where
  rises : Rises (numbers_of d)
  rises = subst Rises (sym numbers_are) one.rising

  seen_is : seen ≡ numbers_of d ++ one.end ∷ []
  seen_is = one.seen_are ∙ ap (λ xs. xs ++ one.end ∷ []) (sym numbers_are)

  drawn : IsDrawn gives batch d
  drawn = subst (λ xs. AnswerNumbers gives batch xs d.answers.items) (sym numbers_are) (subst (AnswerNumbers gives batch numbers) (sym answers_are) one.answered)

  pub one_worker : (all : List ℕ) (draws : List Drawn) → all ≡ seen → draws ≡ d ∷ [] → HaveDrawn gives batch pieces all draws
  one_worker all draws all_is draws_are = subst (λ ds. HaveDrawn gives batch pieces all ds) (sym draws_are) (record {
    rising = (rises, tt);
    counted = λ k less. lone numbers_of k pieces one.end d less one.past_all ∙ ap (times k) (sym (all_is ∙ seen_is));
    answered = (drawn, tt);
  })

  -- it comes after the numbers of other workers
  pub another_worker : (others joined : List ℕ) (draws more : List Drawn) → HaveDrawn gives batch pieces others draws → joined ≡ others ++ seen → more ≡ draws ++ d ∷ [] → HaveDrawn gives batch pieces joined more
  another_worker others joined draws more have joined_is more_is = subst (λ ds. HaveDrawn gives batch pieces joined ds) (sym more_is) (record {
    rising = all_and (λ (x : Drawn). Rises (numbers_of x)) draws d have.rising rises;
    counted = λ k less. one_worker_more numbers_of k pieces one.end others draws d less one.past_all (have.counted k less) ∙ ap (λ xs. times k (others ++ xs)) (sym seen_is) ∙ ap (times k) (sym joined_is);
    answered = all_and (IsDrawn gives batch) draws d have.answered drawn;
  })

-- where a seat has each piece once, all are left
pub all_left : (gives : Query → Answer → Type 0) (batch : Batch) (pieces : ℕ) (seen : List ℕ) (draws : List Drawn) → HaveDrawn gives batch pieces seen draws → ((k : ℕ) → k < pieces → times k seen ≡ 1) → AreLeft gives batch 0 pieces draws
all_left gives batch pieces seen draws are once = record {
  rising = are.rising;
  once = λ k from less. are.counted k less ∙ once k less;
  none = λ k less. absurd (omega (arith, less));
  answered = are.answered;
}

-- the first piece that is left stands first in what one of them drew
pub one_is_first : (gives : Query → Answer → Type 0) (batch : Batch) (number pieces : ℕ) (draws : List Drawn) → AreLeft gives batch number pieces draws → number < pieces → AllByRecursion (λ (d : Drawn). slice_get (numbers_of d) 0 ≢ Some number) draws → ⊥
one_is_first gives batch number pieces draws left less other =
    absurd (omega (
      arith,
      left.once number (omega arith) less,
      none_first numbers_of number draws left.rising other left.none,
    ))

rises_rest : (xs : List ℕ) → Rises xs → Rises (drop 1 xs)
rises_rest [] rising = tt
rises_rest (x ∷ xs) rising = rising.1

first_of_rising : (xs : List ℕ) (n : ℕ) → slice_get xs 0 ≡ Some n → xs ≡ n ∷ drop 1 xs
first_of_rising [] n first = absurd (cc first)
first_of_rising (x ∷ xs) n first = let same : x ≡ n = cc first in ap (λ y. y ∷ xs) same

-- what is left once it was taken
module _ (gives : Query → Answer → Type 0) (batch : Batch) (number pieces count place : ℕ) (draws : List Drawn) (taken after : Drawn) (left : AreLeft gives batch number pieces draws) (less : place < length draws) (there : taken ≡ get_or draws place taken) (first : slice_get (numbers_of taken) 0 ≡ Some number) (count_is : count ≡ length (piece_of batch number)) where
  begins : AllZip gives (piece_of batch number ++ flat_map (piece_of batch) (drop 1 (numbers_of taken))) taken.answers.items
  begins = subst (λ xs. AnswerNumbers gives batch xs taken.answers.items) (first_of_rising (numbers_of taken) number first) (subst (IsDrawn gives batch) (sym there) (All-get_or (IsDrawn gives batch) draws place taken less left.answered))

  pub one_answered : (before all : List Answer) → all ≡ before ++ take count taken.answers.items → Appended gives (piece_of batch number) before all
  one_answered before all all_is = first_taken gives (piece_of batch number) (flat_map (piece_of batch) (drop 1 (numbers_of taken))) taken.answers.items before all count begins count_is all_is

  pub one_taken : number < pieces → numbers_of after ≡ drop 1 (numbers_of taken) → after.answers.items ≡ drop count taken.answers.items → AreLeft gives batch (number + 1) pieces (set draws place after)
  one_taken within rest answers_rest =
      let is_first : slice_get (numbers_of (get_or draws place taken)) 0 ≡ Some number = subst (λ (d : Drawn). slice_get (numbers_of d) 0 ≡ Some number) there first in
      let others : numbers_of after ≡ drop 1 (numbers_of (get_or draws place taken)) = rest ∙ ap (λ (d : Drawn). drop 1 (numbers_of d)) there in
      let stay : IsDrawn gives batch after = subst (λ xs. AnswerNumbers gives batch xs after.answers.items) (sym rest) (others_left gives (piece_of batch number) (flat_map (piece_of batch) (drop 1 (numbers_of taken))) taken.answers.items after.answers.items count begins count_is answers_rest) in
      record {
        rising = All-set (λ (d : Drawn). Rises (numbers_of d)) draws place after (subst Rises (sym others) (rises_rest (numbers_of (get_or draws place taken)) (All-get_or (λ (d : Drawn). Rises (numbers_of d)) draws place taken less left.rising))) left.rising;
        once = next_once numbers_of number place pieces draws after taken less is_first others left.once;
        none = next_none numbers_of number place pieces draws after taken less is_first others within left.once left.none;
        answered = All-set (IsDrawn gives batch) draws place after stay left.answered;
      }
