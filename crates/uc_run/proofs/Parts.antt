-- The points and the range deletions among writes whose sequences rise.
use Rattle.std.proofs.Common.{◌≡◌, ◌==◌, ℕ, ◌<◌, ◌≤◌, ◌^◌, false, List, [], ◌∷◌, arith}
use Rattle.std.specs.Prelude.{◌≢◌}
use Rattle.std.specs.List.{AllByRecursion, IsDistinct, cons_option}
use Rattle.std.proofs.lemmas.Bool.Decides.{nat_tests}
use Rattle.uc_bytes.specs.declared.op.Op.{Op}
use Rattle.uc_bytes.specs.declared.op.Op.TheVariants.{Put, Delete, Merge, DeleteRange}
use Rattle.uc_bytes.specs.declared.write.Write.{Write}
use Rattle.uc_batch.specs.Rising.{IsRising, last_of}
use Rattle.uc_run_entry.specs.declared.entry.Entry.{Entry}
use Rattle.uc_run_entry.proofs.BySeq.{Rises, all_map}
use Rattle.uc_run_entry.specs.Cutting.{RangeOf}
use Rattle.uc_run.specs.Points.{HaveOwnSeqs}
use Rattle.uc_run.specs.Flush.{point_of, range_of, points_in, ranges_in, first_of}

-- ---- what holds of all sequences holds of those of the parts

module _ (P : ℕ → Type 0) where
  point_too : (seq : ℕ) (o : Op) (ps : List Entry) → P seq → AllByRecursion (λ (p : Entry). P p.seq) ps → AllByRecursion (λ (p : Entry). P p.seq) (cons_option (point_of seq o) ps)
  point_too seq (Put key value) ps here h = (here, h)
  point_too seq (Delete key) ps here h = (here, h)
  point_too seq (Merge key operand) ps here h = (here, h)
  point_too seq (DeleteRange begin end) ps here h = h

  pub all_points : (ws : List Write) → AllByRecursion (λ (w : Write). P w.seq) ws → AllByRecursion (λ (p : Entry). P p.seq) (points_in ws)
  all_points [] h = tt
  all_points (w ∷ ws) h = point_too w.seq w.op (points_in ws) h.0 (all_points ws h.1)

  range_too : (seq : ℕ) (o : Op) (rs : List RangeOf) → P seq → AllByRecursion (λ (r : RangeOf). P r.seq) rs → AllByRecursion (λ (r : RangeOf). P r.seq) (cons_option (range_of seq o) rs)
  range_too seq (Put key value) rs here h = h
  range_too seq (Delete key) rs here h = h
  range_too seq (Merge key operand) rs here h = h
  range_too seq (DeleteRange begin end) rs here h = (here, h)

  pub all_ranges : (ws : List Write) → AllByRecursion (λ (w : Write). P w.seq) ws → AllByRecursion (λ (r : RangeOf). P r.seq) (ranges_in ws)
  all_ranges [] h = tt
  all_ranges (w ∷ ws) h = range_too w.seq w.op (ranges_in ws) h.0 (all_ranges ws h.1)

-- ---- the sequences

pub above_last : (last : ℕ) (ws : List Write) → IsRising last ws → AllByRecursion (λ (w : Write). last < w.seq) ws
above_last last [] h = tt
above_last last (w ∷ ws) h =
    let lt : last < w.seq = h.0 in
    (lt, all_map (λ (v : Write). w.seq < v.seq) (λ (v : Write). last < v.seq) (λ v more. omega (arith, lt, more)) ws (above_last w.seq ws h.2))

pub last_is_greatest : (last : ℕ) (ws : List Write) → IsRising last ws → last ≤ last_of last ws
last_is_greatest last [] h = omega arith
last_is_greatest last (w ∷ ws) h = let le : w.seq ≤ last_of w.seq ws = last_is_greatest w.seq ws h.2 in omega (arith, h.0, le)

pub up_to_last : (last : ℕ) (ws : List Write) → IsRising last ws → AllByRecursion (λ (w : Write). w.seq ≤ last_of last ws) ws
up_to_last last [] h = tt
up_to_last last (w ∷ ws) h = (last_is_greatest w.seq ws h.2, up_to_last w.seq ws h.2)

pub last_below : (last : ℕ) (ws : List Write) → last < 2 ^ 56 → IsRising last ws → last_of last ws < 2 ^ 56
last_below last [] below h = below
last_below last (w ∷ ws) below h = last_below w.seq ws h.1 h.2

pub all_below : (last : ℕ) (ws : List Write) → IsRising last ws → AllByRecursion (λ (w : Write). w.seq < 2 ^ 56) ws
all_below last [] h = tt
all_below last (w ∷ ws) h = (h.1, all_below w.seq ws h.2)

pub from_first : (last : ℕ) (ws : List Write) → IsRising last ws → AllByRecursion (λ (w : Write). first_of ws ≤ w.seq) ws
from_first last [] h = tt
from_first last (w ∷ ws) h = (omega arith, all_map (λ (v : Write). w.seq < v.seq) (λ (v : Write). w.seq ≤ v.seq) (λ v lt. omega (arith, lt)) ws (above_last w.seq ws h.2))

pub rises : (last : ℕ) (ws : List Write) → IsRising last ws → Rises ws
rises last [] h = tt
rises last (w ∷ ws) h = (above_last w.seq ws h.2, rises w.seq ws h.2)

-- ---- no two parts have one sequence

other_seq : (a b : ℕ) → a < b → (a == b) ≡ false
other_seq a b lt = grind (arith, nat_tests)

own_none : HaveOwnSeqs []
unfolding IsDistinct
own_none = tt

own_cons : (p : Entry) (ps : List Entry) → AllByRecursion (λ (q : Entry). p.seq < q.seq) ps → HaveOwnSeqs ps → HaveOwnSeqs (p ∷ ps)
unfolding IsDistinct
own_cons p ps h own = (all_map (λ (q : Entry). p.seq < q.seq) (λ (q : Entry). (p.seq == q.seq) ≡ false) (λ q lt. other_seq p.seq q.seq lt) ps h, own)

own_first : (seq : ℕ) (o : Op) (ps : List Entry) → AllByRecursion (λ (p : Entry). seq < p.seq) ps → HaveOwnSeqs ps → HaveOwnSeqs (cons_option (point_of seq o) ps)
own_first seq (DeleteRange begin end) ps h own = own
own_first seq (Put key value) ps h own = own_cons _ ps h own
own_first seq (Delete key) ps h own = own_cons _ ps h own
own_first seq (Merge key operand) ps h own = own_cons _ ps h own

pub have_own_seqs : (last : ℕ) (ws : List Write) → IsRising last ws → HaveOwnSeqs (points_in ws)
have_own_seqs last [] h = own_none
have_own_seqs last (w ∷ ws) h = own_first w.seq w.op (points_in ws) (all_points (λ n. w.seq < n) ws (above_last w.seq ws h.2)) (have_own_seqs w.seq ws h.2)

-- the sequences of ranges are others than a point's
abbrev pub IsApartFrom : List RangeOf → Entry → Type 0
IsApartFrom rs p = AllByRecursion (λ (r : RangeOf). r.seq ≢ p.seq) rs

apart_too : (seq : ℕ) (o : Op) (p : Entry) (rs : List RangeOf) → seq < p.seq → IsApartFrom rs p → IsApartFrom (cons_option (range_of seq o) rs) p
apart_too seq (Put key value) p rs lt h = h
apart_too seq (Delete key) p rs lt h = h
apart_too seq (Merge key operand) p rs lt h = h
apart_too seq (DeleteRange begin end) p rs lt h = ((λ same. omega (arith, lt, same)), h)

each_apart : (seq : ℕ) (o : Op) (ps : List Entry) (rs : List RangeOf) → AllByRecursion (λ (p : Entry). seq < p.seq) ps → AllByRecursion (IsApartFrom rs) ps → AllByRecursion (IsApartFrom (cons_option (range_of seq o) rs)) ps
each_apart seq o [] rs above h = tt
each_apart seq o (p ∷ ps) rs above h = (apart_too seq o p rs above.0 h.0, each_apart seq o ps rs above.1 h.1)

point_apart : (seq : ℕ) (o : Op) (ps : List Entry) (rs : List RangeOf) → AllByRecursion (λ (r : RangeOf). seq < r.seq) rs → AllByRecursion (IsApartFrom (cons_option (range_of seq o) rs)) ps → AllByRecursion (IsApartFrom (cons_option (range_of seq o) rs)) (cons_option (point_of seq o) ps)
point_apart seq (Put key value) ps rs above h = (all_map (λ (r : RangeOf). seq < r.seq) (λ (r : RangeOf). r.seq ≢ seq) (λ r lt same. omega (arith, lt, same)) rs above, h)
point_apart seq (Delete key) ps rs above h = (all_map (λ (r : RangeOf). seq < r.seq) (λ (r : RangeOf). r.seq ≢ seq) (λ r lt same. omega (arith, lt, same)) rs above, h)
point_apart seq (Merge key operand) ps rs above h = (all_map (λ (r : RangeOf). seq < r.seq) (λ (r : RangeOf). r.seq ≢ seq) (λ r lt same. omega (arith, lt, same)) rs above, h)
point_apart seq (DeleteRange begin end) ps rs above h = h

pub are_apart : (last : ℕ) (ws : List Write) → IsRising last ws → AllByRecursion (IsApartFrom (ranges_in ws)) (points_in ws)
are_apart last [] h = tt
are_apart last (w ∷ ws) h =
    let above : AllByRecursion (λ (v : Write). w.seq < v.seq) ws = above_last w.seq ws h.2 in
    point_apart w.seq w.op (points_in ws) (ranges_in ws) (all_ranges (λ n. w.seq < n) ws above)
    (each_apart w.seq w.op (points_in ws) (ranges_in ws) (all_points (λ n. w.seq < n) ws above) (are_apart w.seq ws h.2))
