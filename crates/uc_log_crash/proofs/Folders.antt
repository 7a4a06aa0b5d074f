-- The records in a torn log are ones that a crash may leave.
use Rattle.std.proofs.Common.{◌≡◌, ℕ, zero, suc, Bool, true, false, List, [], ◌∷◌, ◌++◌, length, take, refl, sym, ap, ◌∙◌, append_assoc, arith}
use Rattle.std.specs.Prelude.{Some}
use Rattle.std.proofs.lemmas.Bool.{false≢true}
use Rattle.std.proofs.lemmas.List.{append-nil, take_all, take_at}
use Rattle.uc_folder.specs.Device.{Batch, Record, Whole, Torn, File, Keep, first_whole, are_whole, left_of, content, crashed_name}
use Rattle.uc_logrec.specs.Log.{payloads_of}
use Rattle.uc_logrec.specs.Position.{ahead_in}
use Rattle.uc_logrec.specs.Walk.{BeginsWith}
use Rattle.uc_log_crash.specs.Folders.{AreBytesOf}

-- whether a place is one of the first `n`
abbrev first_n : ℕ → ℕ → Bool
first_n zero k = false
first_n (suc n) zero = true
first_n (suc n) (suc k) = first_n n k

-- ---- records that are whole

front_whole : (rs qs : List Record) → are_whole (rs ++ qs) ≡ true → are_whole rs ≡ true
front_whole [] qs e = refl
front_whole (Whole b mark ∷ rs) qs e = front_whole rs qs e
front_whole (Torn ∷ rs) qs e = absurd (false≢true e)

back_whole : (rs qs : List Record) → are_whole (rs ++ qs) ≡ true → are_whole qs ≡ true
back_whole [] qs e = e
back_whole (Whole b mark ∷ rs) qs e = back_whole rs qs e
back_whole (Torn ∷ rs) qs e = absurd (false≢true e)

batches-append : (rs qs : List Record) → are_whole rs ≡ true → first_whole (rs ++ qs) ≡ first_whole rs ++ first_whole qs
batches-append [] qs e = refl
batches-append (Whole b mark ∷ rs) qs e = ap (λ (bs : List Batch). b ∷ bs) (batches-append rs qs e)
batches-append (Torn ∷ rs) qs e = absurd (false≢true e)

first_left : (rs : List Record) (n : ℕ) → are_whole rs ≡ true → first_whole (left_of (first_n n) rs) ≡ take n (first_whole rs)
first_left [] zero e = refl
first_left [] (suc n) e = refl
first_left (Whole b mark ∷ rs) zero e = refl
first_left (Whole b mark ∷ rs) (suc n) e = ap (λ (bs : List Batch). b ∷ bs) (first_left rs n e)
first_left (Torn ∷ rs) n e = absurd (false≢true e)

-- ---- lists

same_back : {X : Type 0} (xs ys zs : List X) → xs ++ ys ≡ xs ++ zs → ys ≡ zs
same_back [] ys zs e = e
same_back (x ∷ xs) ys zs e = same_back xs ys zs (cc)

-- ---- the crash that leaves what is read

module _ (f : File) (written : List ℕ) (synced : ℕ) (are : AreBytesOf f written synced) (found : List (List ℕ)) (end : ℕ) (begins : BeginsWith written (first_whole f.kept ++ found) end) where
  abbrev keep : Keep
  keep = record { which = 0; count = length (f.waiting ++ f.lost); whole = first_n (length found) }

  kept_whole : are_whole f.kept ≡ true
  kept_whole = front_whole f.kept (f.waiting ++ f.lost) are.whole

  waiting_whole : are_whole (f.waiting ++ f.lost) ≡ true
  waiting_whole = back_whole f.kept (f.waiting ++ f.lost) are.whole

  module _ (rest : List (List ℕ)) (is : payloads_of written ≡ (first_whole f.kept ++ found) ++ rest) where
    waiting_are : found ++ rest ≡ first_whole (f.waiting ++ f.lost)
    waiting_are =
        same_back (first_whole f.kept) (found ++ rest) (first_whole (f.waiting ++ f.lost))
        (sym (append_assoc (first_whole f.kept) found rest) ∙ sym is ∙ are.batches ∙ batches-append f.kept (f.waiting ++ f.lost) kept_whole)

    found_first : take (length found) (first_whole (f.waiting ++ f.lost)) ≡ found
    found_first = ap (take (length found)) (sym waiting_are) ∙ take_at found rest (length found) refl

    left : first_whole (left_of (first_n (length found)) (take (length (f.waiting ++ f.lost)) (f.waiting ++ f.lost))) ≡ found
    left =
        ap (λ (rs : List Record). first_whole (left_of (first_n (length found)) rs)) (take_all (length (f.waiting ++ f.lost)) (f.waiting ++ f.lost) (omega arith))
        ∙ first_left (f.waiting ++ f.lost) (length found) waiting_whole
        ∙ found_first

    leaves : content (crashed_name keep (Some f)) ≡ first_whole f.kept ++ found
    leaves =
        ap first_whole (append-nil (f.kept ++ left_of (first_n (length found)) (take (length (f.waiting ++ f.lost)) (f.waiting ++ f.lost))))
        ∙ batches-append f.kept (left_of (first_n (length found)) (take (length (f.waiting ++ f.lost)) (f.waiting ++ f.lost))) kept_whole
        ∙ ap (λ (bs : List Batch). first_whole f.kept ++ bs) left

  is_left : (chosen : Keep) × (content (crashed_name chosen (Some f)) ≡ first_whole f.kept ++ found)
  is_left = (keep, leaves (ahead_in written end).payloads begins.payloads_are)

pub is_a_crash : (f : File) (written : List ℕ) (synced : ℕ) (found : List (List ℕ)) (end : ℕ) → AreBytesOf f written synced → BeginsWith written (first_whole f.kept ++ found) end → (keep : Keep) × (content (crashed_name keep (Some f)) ≡ first_whole f.kept ++ found)
is_a_crash f written synced found end are begins = is_left f written synced are found end begins
