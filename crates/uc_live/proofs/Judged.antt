-- The first read that is changed, and what an unchanged one says of the writes that a store has taken.
use Rattle.std.proofs.Common.{◌≡◌, ℕ, zero, suc, ◌+◌, ◌<◌, ◌≤◌, Bool, true, false, ◌&&◌, List, [], ◌∷◌, ◌++◌, length, get_or, take, Option, Some, None, refl, sym, ap, ◌∙◌, subst, arith}
use Rattle.std.proofs.lemmas.Bool.{false≢true}
use lib.Pointwise.{pointwise, pointwise_decides, bytes_decides}
use Rattle.uc_bytes.specs.Bytes.{same_bytes}
use Rattle.std.specs.List.{AllByRecursion}
use Rattle.uc_bytes.specs.declared.write.Write.{Write}
use Rattle.uc_batch.specs.Rising.{IsRising, last_of}
use Rattle.uc_batch.proofs.Rises.{rising-append}
use Rattle.uc_serial.specs.ReadSets.{IsFirstChanged, IsUnchanged}
use Rattle.uc_serial.specs.declared.read.Read.{Read}

-- ---- rows

both : (a b : Bool) → (a && b) ≡ true → (a ≡ true) × (b ≡ true)
both true true e = (refl, refl)
both true false e = absurd (false≢true e)
both false b e = absurd (false≢true e)

row_decides : (x y : List ℕ × List ℕ) → ((same_bytes x.0 y.0 && same_bytes x.1 y.1) ≡ true → x ≡ y) × (x ≡ y → (same_bytes x.0 y.0 && same_bytes x.1 y.1) ≡ true)
row_decides x y = (
  λ h.
      let parts = both (same_bytes x.0 y.0) (same_bytes x.1 y.1) h in
      let key : x.0 ≡ y.0 = (bytes_decides x.0 y.0).0 parts.0 in
      let value : x.1 ≡ y.1 = (bytes_decides x.1 y.1).0 parts.1 in
      λ i. (key i, value i),
  λ e.
      let key : same_bytes x.0 y.0 ≡ true = (bytes_decides x.0 y.0).1 (ap (λ (r : List ℕ × List ℕ). r.0) e) in
      let value : same_bytes x.1 y.1 ≡ true = (bytes_decides x.1 y.1).1 (ap (λ (r : List ℕ × List ℕ). r.1) e) in
      λ i. key i && value i,
)

-- the comparison of rows tells whether they are equal
pub rows_decide : (xs ys : List (List ℕ × List ℕ)) → (pointwise (λ row other. same_bytes row.0 other.0 && same_bytes row.1 other.1) xs ys ≡ true → xs ≡ ys) × (xs ≡ ys → pointwise (λ row other. same_bytes row.0 other.0 && same_bytes row.1 other.1) xs ys ≡ true)
rows_decide = pointwise_decides row_decides

-- ---- reads

module _ (before now : List ℕ → Option (List ℕ)) where
  after_more : (reads : List Read) (i : ℕ) (read : Read) → i < length reads → IsFirstChanged before now (take i reads) None → read ≡ get_or reads i read → IsUnchanged before now read → IsFirstChanged before now (take (suc i) reads) None
  after_more [] i read lt h e u = absurd (omega (arith, lt))
  after_more (r ∷ rs) zero read lt h e u = (subst (IsUnchanged before now) e u, tt)
  after_more (r ∷ rs) (suc i) read lt h e u = (h.0, after_more rs i read (omega (arith, lt)) h.1 e u)

  -- one more is unchanged
  pub unchanged_more : (reads : List Read) (i : ℕ) (read : Read) → i < length reads → IsFirstChanged before now (take i reads) None → read ≡ get_or reads i read → IsUnchanged before now read → IsFirstChanged before now (take (i + 1) reads) None
  unchanged_more reads i read lt h e u =
      let next : suc i ≡ i + 1 = omega arith in
      subst (λ (n : ℕ). IsFirstChanged before now (take n reads) None) next (after_more reads i read lt h e u)

  -- the next one is changed
  pub changed_next : (reads : List Read) (i : ℕ) (read : Read) → i < length reads → IsFirstChanged before now (take i reads) None → read ≡ get_or reads i read → ¬ IsUnchanged before now read → IsFirstChanged before now reads (Some i)
  changed_next [] i read lt h e c = absurd (omega (arith, lt))
  changed_next (r ∷ rs) zero read lt h e c = λ u. c (subst (IsUnchanged before now) (sym e) u)
  changed_next (r ∷ rs) (suc i) read lt h e c = (h.0, changed_next rs i read (omega (arith, lt)) h.1 e c)

  -- all are unchanged
  pub unchanged_all : (reads : List Read) (i : ℕ) → length reads ≤ i → IsFirstChanged before now (take i reads) None → IsFirstChanged before now reads None
  unchanged_all [] i le h = tt
  unchanged_all (r ∷ rs) zero le h = absurd (omega (arith, le))
  unchanged_all (r ∷ rs) (suc i) le h = (h.0, unchanged_all rs i (omega (arith, le)) h.1)

-- unchanged, as other functions give the values
pub unchanged_as : (before now before' now' : List ℕ → Option (List ℕ)) (reads : List Read) → ((key : List ℕ) → before key ≡ before' key) → ((key : List ℕ) → now key ≡ now' key) → IsFirstChanged before now reads None → IsFirstChanged before' now' reads None
unchanged_as before now before' now' [] b n h = tt
unchanged_as before now before' now' (r ∷ rs) b n h = (λ key covers. sym (n key) ∙ h.0 key covers ∙ b key, unchanged_as before now before' now' rs b n h.1)

-- ---- writes that come later

rises_past : (last : ℕ) (ws vs : List Write) → IsRising last (ws ++ vs) → IsRising (last_of last ws) vs
rises_past last [] vs h = h
rises_past last (w ∷ ws) vs h = rises_past w.seq ws vs h.2

all_past : (last at : ℕ) (ws : List Write) → IsRising last ws → at ≤ last → AllByRecursion (λ w. at < w.seq) ws
all_past last at [] rise le = tt
all_past last at (w ∷ ws) rise le = (omega (arith, rise.0), all_past w.seq at ws rise.2 (omega (arith, rise.0)))

-- writes that were taken later are above the last one before
pub later_above : (before since given gathered : List Write) (last : ℕ) → given ++ gathered ≡ before ++ since → IsRising 0 given → last_of 0 given ≡ last → IsRising last gathered → AllByRecursion (λ w. last_of 0 before < w.seq) since
later_above before since given gathered last is rises end rising =
    let all : IsRising 0 (given ++ gathered) = rising-append 0 given gathered rises (subst (λ n. IsRising n gathered) (sym end) rising) in
    all_past (last_of 0 before) (last_of 0 before) since (rises_past 0 before since (subst (IsRising 0) is all)) (omega arith)
