-- A seat that draws one piece after the other.
use Rattle.std.proofs.Common.{◌≡◌, ℕ, ◌-◌, ◌<◌, ◌≤◌, List, [], ◌∷◌, ◌++◌, sym, subst, ap, ◌∙◌}
use Rattle.std.specs.List.{AllByRecursion, flat_map}
use Rattle.uc_query_read.specs.declared.answer.Answer.{Answer}
use Rattle.uc_query_read.specs.declared.query.Query.{Query}
use Rattle.uc_query_workers.specs.Draws.{Drawing, past}
use Rattle.uc_query_workers.specs.Drawing.{Rises, AnswerNumbers, HasDrawn}
use Rattle.uc_query_workers.specs.Given.{Appended}
use Rattle.uc_query_workers.specs.Pieces.{Batch, piece_of}
use Rattle.uc_query_workers.proofs.Left.{above, nearer, rises_push}
use Rattle.uc_query_workers.proofs.Pieced.{numbers_more}
use Rattle.uc_query_workers.proofs.Zips.{all_weaker}

-- it drew these pieces so far, and nothing else
pub record DrawsOn (gives : Query → Answer → Type 0) (batch : Batch) (pieces : ℕ) (before seat : Drawing) (numbers : List ℕ) (answers : List Answer) : Type 0 where
  pub seat_is : seat ≡ record before { numbers = numbers }
  pub rising : Rises numbers
  pub none_past : past pieces numbers ≡ 0
  pub answered : AnswerNumbers gives batch numbers answers

-- it may be given in another way too
pub draws_weaker : (gives others : Query → Answer → Type 0) → ((query : Query) (answer : Answer) → gives query answer → others query answer) → (batch : Batch) (pieces : ℕ) (before seat : Drawing) (numbers : List ℕ) (answers : List Answer) → DrawsOn gives batch pieces before seat numbers answers → DrawsOn others batch pieces before seat numbers answers
draws_weaker gives others weaker batch pieces before seat numbers answers so_far = record {
  seat_is = so_far.seat_is;
  rising = so_far.rising;
  none_past = so_far.none_past;
  answered = all_weaker gives others weaker (flat_map (piece_of batch) numbers) answers so_far.answered;
}

-- a piece more
module _ (gives : Query → Answer → Type 0) (batch : Batch) (pieces n : ℕ) (before seat new : Drawing) (numbers more : List ℕ) (answers : List Answer) (so_far : DrawsOn gives batch pieces before seat numbers answers) (more_is : more ≡ numbers ++ n ∷ []) (below : AllByRecursion (λ x. x < n) seat.numbers) where
  all_below : AllByRecursion (λ x. x < n) numbers
  all_below = subst (λ xs. AllByRecursion (λ x. x < n) xs) (ap (λ (s : Drawing). s.numbers) so_far.seat_is) below

  pub draws_on : (longer : List Answer) → new ≡ record seat { numbers = seat.numbers ++ n ∷ [] } → past pieces new.numbers ≡ past pieces seat.numbers → Appended gives (piece_of batch n) answers longer → DrawsOn gives batch pieces before new more longer
  draws_on longer new_is goes_on answered =
      let listed : seat.numbers ++ n ∷ [] ≡ more = ap (λ (s : Drawing). s.numbers ++ n ∷ []) so_far.seat_is ∙ sym more_is in
      let drawn : new.numbers ≡ more = ap (λ (s : Drawing). s.numbers) new_is ∙ listed in
      record {
        seat_is = new_is ∙ ap (λ xs. record seat { numbers = xs }) listed ∙ ap (λ (s : Drawing). record s { numbers = more }) so_far.seat_is;
        rising = subst Rises (sym more_is) (rises_push numbers n so_far.rising all_below);
        none_past = ap (past pieces) (sym drawn) ∙ goes_on ∙ ap (λ (s : Drawing). past pieces s.numbers) so_far.seat_is ∙ so_far.none_past;
        answered = numbers_more gives (piece_of batch) numbers more n answers longer more_is so_far.answered answered;
      }

  pub draws_nearer : n < pieces → pieces - above more < pieces - above numbers
  draws_nearer within = nearer pieces n numbers more more_is within all_below

-- the end
pub ends : (gives : Query → Answer → Type 0) (batch : Batch) (pieces end : ℕ) (before seat new : Drawing) (numbers : List ℕ) (answers : List Answer) → DrawsOn gives batch pieces before seat numbers answers → pieces ≤ end → new ≡ record seat { numbers = seat.numbers ++ end ∷ [] } → HasDrawn gives batch pieces new.numbers numbers answers
ends gives batch pieces end before seat new numbers answers so_far past_all new_is = record {
  end = end;
  past_all = past_all;
  seen_are = ap (λ (s : Drawing). s.numbers) new_is ∙ ap (λ (s : Drawing). s.numbers ++ end ∷ []) so_far.seat_is;
  rising = so_far.rising;
  answered = so_far.answered;
}
