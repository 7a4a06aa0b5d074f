-- Lists of records: what is read of them, and what a crash leaves.
use Rattle.std.proofs.Common.{◌≡◌, ℕ, zero, suc, Bool, true, false, cond, List, [], ◌∷◌, ◌++◌, length, take, drop, refl, ap, subst, ◌<◌, eq-eqb, ◌∙◌, arith}
use Rattle.std.proofs.lemmas.List.{take-append-drop}
use Rattle.std.proofs.lemmas.Bool.{ne_eqb}
use Rattle.uc_folder.specs.Device.{read_by_sequence, Batch, Record, Whole, Torn, first_whole, whole_part, are_whole, left_of, rows_of}
use Rattle.uc_folder.specs.Worlds.{IsPrefixOf}
use Rattle.uc_folder.proofs.Lists.{prefix_trans}

pub first_append : (rs ss : List Record) → are_whole rs ≡ true → first_whole (rs ++ ss) ≡ first_whole rs ++ first_whole ss
first_append [] ss e = refl
first_append (Whole b mark ∷ rs) ss e = ap (λ l. b ∷ l) (first_append rs ss e)
first_append (Torn ∷ rs) ss e = absurd (cc)

prefix_cons : (b : Batch) (xs ys : List Batch) → IsPrefixOf xs ys → IsPrefixOf (b ∷ xs) (b ∷ ys)
prefix_cons b xs ys p = (p.0, ap (λ l. b ∷ l) p.1)

-- where more is read of the rest, more is read of all
pub first_under : (rs ss ts : List Record) → IsPrefixOf (first_whole ss) (first_whole ts) → IsPrefixOf (first_whole (rs ++ ss)) (first_whole (rs ++ ts))
first_under [] ss ts p = p
first_under (Whole b mark ∷ rs) ss ts p = prefix_cons b (first_whole (rs ++ ss)) (first_whole (rs ++ ts)) (first_under rs ss ts p)
first_under (Torn ∷ rs) ss ts p = ([], refl)

pub first_prefix : (rs ss : List Record) → IsPrefixOf (first_whole rs) (first_whole (rs ++ ss))
first_prefix [] ss = (first_whole ss, refl)
first_prefix (Whole b mark ∷ rs) ss = prefix_cons b (first_whole rs) (first_whole (rs ++ ss)) (first_prefix rs ss)
first_prefix (Torn ∷ rs) ss = ([], refl)

pub first_left : (whole : ℕ → Bool) (rs : List Record) → IsPrefixOf (first_whole (left_of whole rs)) (first_whole rs)
first_left whole [] = ([], refl)
first_left whole (Torn ∷ rs) = by_test (whole 0)
  where
    by_test : (b : Bool) → IsPrefixOf (first_whole (cond b Torn Torn ∷ left_of (λ k. whole (suc k)) rs)) []
    by_test true = ([], refl)
    by_test false = ([], refl)
first_left whole (Whole b mark ∷ rs) = by_test (first_left (λ k. whole (suc k)) rs) (whole 0)
  where
    by_test : IsPrefixOf (first_whole (left_of (λ k. whole (suc k)) rs)) (first_whole rs) → (t : Bool) → IsPrefixOf (first_whole (cond t (Whole b mark) Torn ∷ left_of (λ k. whole (suc k)) rs)) (b ∷ first_whole rs)
    by_test p true = prefix_cons b (first_whole (left_of (λ k. whole (suc k)) rs)) (first_whole rs) p
    by_test p false = (b ∷ first_whole rs, refl)

pub first_take : (n : ℕ) (rs : List Record) → first_whole (take n rs) ≡ take n (first_whole rs)
first_take zero rs = refl
first_take (suc n) [] = refl
first_take (suc n) (Whole b mark ∷ rs) = ap (λ l. b ∷ l) (first_take n rs)
first_take (suc n) (Torn ∷ rs) = refl

pub whole_take : (n : ℕ) (rs : List Record) → are_whole rs ≡ true → are_whole (take n rs) ≡ true
whole_take zero rs e = refl
whole_take (suc n) [] e = refl
whole_take (suc n) (Whole b mark ∷ rs) e = whole_take n rs e
whole_take (suc n) (Torn ∷ rs) e = absurd (cc)

pub whole_append : (rs ss : List Record) → are_whole rs ≡ true → are_whole ss ≡ true → are_whole (rs ++ ss) ≡ true
whole_append [] ss e f = f
whole_append (Whole b mark ∷ rs) ss e f = whole_append rs ss e f
whole_append (Torn ∷ rs) ss e f = absurd (cc)

pub whole_front : (rs ss : List Record) → are_whole (rs ++ ss) ≡ true → are_whole rs ≡ true
whole_front [] ss e = refl
whole_front (Whole b mark ∷ rs) ss e = whole_front rs ss e
whole_front (Torn ∷ rs) ss e = absurd (cc)

pub whole_length : (rs : List Record) → are_whole rs ≡ true → length (first_whole rs) ≡ length rs
whole_length [] e = refl
whole_length (Whole b mark ∷ rs) e = ap suc (whole_length rs e)
whole_length (Torn ∷ rs) e = absurd (cc)

pub part_first : (rs : List Record) → first_whole (whole_part rs) ≡ first_whole rs
part_first [] = refl
part_first (Whole b mark ∷ rs) = ap (λ l. b ∷ l) (part_first rs)
part_first (Torn ∷ rs) = refl

pub part_whole : (rs : List Record) → are_whole (whole_part rs) ≡ true
part_whole [] = refl
part_whole (Whole b mark ∷ rs) = part_whole rs
part_whole (Torn ∷ rs) = refl

pub rows_first : (bs : List Batch) → first_whole (rows_of bs) ≡ bs
rows_first [] = refl
rows_first (b ∷ bs) = ap (λ l. b ∷ l) (rows_first bs)

pub rows_whole : (bs : List Batch) → are_whole (rows_of bs) ≡ true
rows_whole [] = refl
rows_whole (b ∷ bs) = rows_whole bs

pub take_none : {A : Type 0} (n : ℕ) → take {A = A} n [] ≡ []
take_none zero = refl
take_none (suc n) = refl

-- of what waits, a crash leaves no more to be read
pub left_prefix : (rs ss : List Record) (whole : ℕ → Bool) (n : ℕ) → IsPrefixOf (first_whole (rs ++ left_of whole (take n ss))) (first_whole (rs ++ ss))
left_prefix rs ss whole n =
    first_under rs (left_of whole (take n ss)) ss
    (prefix_trans (first_whole (left_of whole (take n ss))) (first_whole (take n ss)) (first_whole ss) (first_left whole (take n ss))
    (subst (λ l. IsPrefixOf (first_whole (take n ss)) (first_whole l)) (take-append-drop n ss) (first_prefix (take n ss) (drop n ss))))

-- ---- sequences

none_after : (next place : ℕ) (rs : List Record) → next < place → read_by_sequence next place rs ≡ []
none_after next place [] lt = refl
none_after next place (Torn ∷ rs) lt = none_after next (suc place) rs (omega (arith, lt))
none_after next place (Whole b mark ∷ rs) lt =
    ap (λ t. cond t (b ∷ read_by_sequence (suc next) (suc place) rs) (read_by_sequence next (suc place) rs)) (ne_eqb place next (omega (arith, lt)))
    ∙ none_after next (suc place) rs (omega (arith, lt))

pub sequence_reads : (place : ℕ) (rs : List Record) → read_by_sequence place place rs ≡ first_whole rs
sequence_reads place [] = refl
sequence_reads place (Torn ∷ rs) = none_after place (suc place) rs (omega arith)
sequence_reads place (Whole b mark ∷ rs) =
    ap (λ t. cond t (b ∷ read_by_sequence (suc place) (suc place) rs) (read_by_sequence place (suc place) rs)) (eq-eqb place place refl)
    ∙ ap (λ l. b ∷ l) (sequence_reads (suc place) rs)
