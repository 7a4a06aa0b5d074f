-- Different lists of entries have different encodings.
use Rattle.std.proofs.Common.{◌≡◌, ℕ, zero, suc, ◌^◌, ◌<◌, List, [], ◌∷◌, ◌++◌, length, drop, refl, sym, ap, ◌∙◌, append_assoc, length-append, arith}
use Rattle.std.specs.List.{AllByRecursion}
use Rattle.uc_run_entry.specs.declared.entry.Entry.{Entry}
use Rattle.uc_run_points.specs.Numbers.{number_text, number_from}
use Rattle.uc_run_points.specs.Spelling.{entry_text, entries_text, entry_from, Fits}
use Rattle.uc_run_points.specs.Faults.{Begins, IsFaultAt}
use Rattle.uc_run_points.proofs.NumbersAgain.{number_again}
use Rattle.uc_run_points.proofs.EntriesAgain.{entry_again}
use Rattle.uc_run_points.proofs.Grown.{entry_some}

pub numbers_apart : (n m : ℕ) (xs ys : List ℕ) → n < 2 ^ 64 → m < 2 ^ 64 → number_text n ++ xs ≡ number_text m ++ ys → (n ≡ m) × (xs ≡ ys)
numbers_apart n m xs ys fits also e =
    let both : (n, xs) ≡ (m, ys) = sym (number_again n xs fits) ∙ (ap number_from e ∙ number_again m ys also) in
    (ap (λ (q : ℕ × List ℕ). q.0) both, ap (λ (q : ℕ × List ℕ). q.1) both)

pub entries_apart : (e f : Entry) (xs ys : List ℕ) → Fits e → Fits f → entry_text e ++ xs ≡ entry_text f ++ ys → (e ≡ f) × (xs ≡ ys)
entries_apart e f xs ys fits also eq =
    let both : (e, xs) ≡ (f, ys) = sym (entry_again e xs fits) ∙ (ap entry_from eq ∙ entry_again f ys also) in
    (ap (λ (q : Entry × List ℕ). q.0) both, ap (λ (q : Entry × List ℕ). q.1) both)

-- the encoding of an entry isn't empty
pub some_bytes : (e : Entry) (xs : List ℕ) → [] ≡ entry_text e ++ xs → ⊥
some_bytes e xs eq =
    let l : 0 ≡ length (entry_text e ++ xs) = ap (λ (bs : List ℕ). length bs) eq in
    absurd (omega (arith, l, length-append (entry_text e) xs, entry_some e))

pub entries_alike : (es fs : List Entry) → AllByRecursion Fits es → AllByRecursion Fits fs → entries_text es ≡ entries_text fs → es ≡ fs
entries_alike [] [] fits also eq = refl
entries_alike [] (f ∷ fs) fits also eq = absurd (some_bytes f (entries_text fs) eq)
entries_alike (e ∷ es) [] fits also eq = absurd (some_bytes e (entries_text es) (sym eq))
entries_alike (e ∷ es) (f ∷ fs) fits also eq =
    let two = entries_apart e f (entries_text es) (entries_text fs) fits.0 also.0 eq in
    let rest : es ≡ fs = entries_alike es fs fits.1 also.1 two.1 in
    ap (λ (x : Entry). x ∷ es) two.0 ∙ ap (λ (xs : List Entry). f ∷ xs) rest

-- the encoding of some entries, and then bytes that begin with no entry, isn't the encoding of any entries
none_so : (before es : List Entry) (rest : List ℕ) → AllByRecursion Fits before → AllByRecursion Fits es → (rest ≡ [] → ⊥) → ((after : List ℕ) → Begins rest after → ⊥) → entries_text before ++ rest ≡ entries_text es → ⊥
none_so [] [] rest fits also some none eq = some eq
none_so [] (e ∷ es) rest fits also some none eq = none (entries_text es) (record { entry = e; fits = also.0; spelled = eq })
none_so (b ∷ bs) [] rest fits also some none eq = some_bytes b (entries_text bs ++ rest) (sym eq ∙ append_assoc (entry_text b) (entries_text bs) rest)
none_so (b ∷ bs) (e ∷ es) rest fits also some none eq =
    let two = entries_apart b e (entries_text bs ++ rest) (entries_text es) fits.0 also.0 (sym (append_assoc (entry_text b) (entries_text bs) rest) ∙ eq) in
    none_so bs es rest fits.1 also.1 some none two.1

no_rest : (bytes : List ℕ) (offset : ℕ) → offset < length bytes → drop offset bytes ≡ [] → ⊥
no_rest [] offset lt e = absurd (omega (arith, lt))
no_rest (b ∷ bs) zero lt e = absurd cc
no_rest (b ∷ bs) (suc n) lt e = no_rest bs n (omega (arith, lt)) e

pub no_spelling : (bytes : List ℕ) (offset : ℕ) (es : List Entry) → IsFaultAt bytes offset → AllByRecursion Fits es → bytes ≡ entries_text es → ⊥
no_spelling bytes offset es at also eq =
    none_so at.before es (drop offset bytes) at.fits also (no_rest bytes offset at.there) at.none (sym at.spelled ∙ eq)
