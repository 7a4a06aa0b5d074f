-- Rows that are put by one batch, one by one.
use Rattle.std.proofs.Common.{◌≡◌, ℕ, ◌+◌, ◌<◌, ◌≤◌, List, [], ◌∷◌, ◌++◌, length, get_or, take, drop, min, Some, None, ⊎_elim, sym, ap, subst, ◌∙◌, arith}
use Rattle.std.specs.List.{slice_get}
use Rattle.std.proofs.lemmas.Option.{slice_get_cases, slice_get_within, get_or_from_slice_get}
use Rattle.std.proofs.lemmas.List.{get_or-take, get_or-drop, length-take, length-drop, map-append, take_all, take_more}
use Rattle.uc_bytes.specs.declared.op.Op.{Op}
use Rattle.uc_batch.specs.Spelling.{FitsOp}
use Rattle.uc_rows.proofs.Fitted.{taken_more, place_below}
use Rattle.uc_checkpoint.specs.Checkpoints.{put_of, puts_of}
use Rattle.uc_checkpoint.specs.HeldCheckpoints.{RefusesRows, Splits}
use Rattle.uc_checkpoint.specs.declared.checkpoint_error.CheckpointError.{CheckpointError}
use Rattle.uc_checkpoint.specs.declared.checkpoint_error.CheckpointError.TheVariants.{TooLong, SequencesSpent, Memory}

abbrev pub Row : Type 0
Row = List ℕ × List ℕ

-- one more is put
pub put_more : (rows rest : List Row) (row : Row) (n : ℕ) (ops : List Op) → drop n rows ≡ row ∷ rest → ops ≡ puts_of (take n rows) → ops ++ put_of row ∷ [] ≡ puts_of (take (n + 1) rows)
put_more rows rest row n ops next is =
    ap (λ (os : List Op). os ++ put_of row ∷ []) is
    ∙ sym (map-append put_of (take n rows) (row ∷ []))
    ∙ ap puts_of (sym (taken_more rows rest row n next))

-- all are put
pub put_all : (rows : List Row) (n count : ℕ) (ops : List Op) → drop n rows ≡ [] → n ≤ count → ops ≡ puts_of (take n rows) → ops ≡ puts_of (take count rows)
put_all rows n count ops none within is =
    let left = length-drop n rows in
    let no_more : length (drop n rows) ≡ 0 = ap (λ (rs : List Row). length rs) none in
    is ∙ ap puts_of (take_all n rows (omega (arith, left, no_more)) ∙ sym (take_all count rows (omega (arith, left, no_more, within))))

-- a row that is rejected is one of the first
pub refused_there : (rows rest : List Row) (row : Row) (n count : ℕ) (error : CheckpointError) → drop n rows ≡ row ∷ rest → n < count → RefusesRows (row ∷ []) error → RefusesRows (take count rows) error
refused_there rows rest row n count Memory next below refused = tt
refused_there rows rest row n count SequencesSpent next below refused = refused
refused_there rows rest row n count TooLong next below refused =
    let there = place_below rows rest row n next in
    let cut = length-take count rows in
    let place : refused.0 ≡ 0 = omega (arith, refused.2) in
    let same : row ≡ refused.1 = sym (ap (λ (k : ℕ). get_or (row ∷ []) k refused.1) place) ∙ refused.3 in
    let first : get_or (drop n rows) 0 row ≡ row = ap (λ (rs : List Row). get_or rs 0 row) next in
    let plain : n + 0 ≡ n = omega arith in
    let at : get_or rows n row ≡ row = sym (get_or-drop n rows 0 row ∙ ap (λ (k : ℕ). get_or rows k row) plain) ∙ first in
    (n, row, omega (arith, cut, there, below), get_or-take count rows n row below ∙ at, subst (λ (r : Row). FitsOp (put_of r) → ⊥) (sym same) refused.4)

-- ---- rows that are split after the first few

none_behind : (rows : List Row) (n : ℕ) → slice_get rows n ≡ None → length rows ≤ n
none_behind rows n none = ⊎_elim (λ there. absurd (let both : Some there.0 ≡ None = sym there.2 ∙ none in cc)) (λ past. past.0) (slice_get_cases rows n).1

-- no row comes after them
pub splits_none : (rows : List Row) (most n : ℕ) → n ≡ min (length rows) most → slice_get rows n ≡ None → Splits most rows (take n rows) None
splits_none rows most n is none =
    let past = none_behind rows n none in
    let cut = length-take n rows in
    (sym (take_all n rows past), omega (arith, cut, is))

-- this row does
pub splits_before : (rows : List Row) (most n : ℕ) (row : Row) → n ≡ min (length rows) most → length rows ≤ most + 1 → slice_get rows n ≡ Some row → Splits most rows (take n rows) (Some row.0)
splits_before rows most n row is few some =
    let within : n < length rows = slice_get_within rows n row some in
    let read : get_or rows n row ≡ row = get_or_from_slice_get rows n row row some in
    let cut = length-take n rows in
    let whole : rows ≡ take n rows ++ row ∷ [] =
    sym (take_all (n + 1) rows (omega (arith, within, is, few)))
    ∙ take_more rows n row within
    ∙ ap (λ (r : Row). take n rows ++ r ∷ []) read in
    (row.1, whole, omega (arith, cut, is, within))
