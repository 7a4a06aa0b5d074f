-- Rising writes are flushed to a run.
use Rattle.std.proofs.Common.{ℕ, ◌<◌, ◌≤◌, ◌^◌, List, [], ◌∷◌, Contains, length, map, fold, filter, refl, arith}
use Rattle.std.specs.Prelude.{◌≢◌, nat_lt}
use Rattle.std.specs.List.{AllByRecursion}
use Rattle.std.specs.Ordering.{nat_cmp, flip_args}
use Rattle.std.specs.BTreeSet.{insert_key}
use Rattle.std.proofs.lemmas.Cmp.{nat_cmp_total, back_total}
use Rattle.std.proofs.lemmas.List.Elements.{All-contains, All-from_recursion}
use Rattle.uc_bytes.specs.declared.write.Write.{Write}
use Rattle.uc_batch.specs.Rising.{IsRising, last_of}
use Rattle.uc_run_entry.specs.declared.entry.Entry.{Entry}
use Rattle.uc_run_entry.specs.Fragment.{Fragment}
use Rattle.uc_run_entry.specs.Order.{IsFalling, AreInOrder}
use Rattle.uc_run_entry.specs.Run.{IsWithin, IsWhole, IsApart, IsRun}
use Rattle.uc_run_entry.proofs.BySeq.{all_map}
use Rattle.uc_run_entry.proofs.Points.{all-filtered}
use Rattle.uc_run_entry.specs.Cutting.{RangeOf, Piece, spans, cut_points, pieces, falling, fragment_over, fragments_of}
use Rattle.uc_run_entry.proofs.Sets.{all-insert_key}
use Rattle.uc_run.specs.Flush.{points_in, ranges_in, by_key, first_of}
use Rattle.uc_run.proofs.ByKey.{all-by_key, sorted-by_key}
use Rattle.uc_run.proofs.Parts.{all_points, all_ranges, last_is_greatest, up_to_last, last_below, all_below, from_first, have_own_seqs, IsApartFrom, are_apart}

-- ---- what holds of the sequences of ranges holds of those of their fragments

module _ (P : ℕ → Type 0) where
  all-fold : (ns acc : List ℕ) → AllByRecursion P ns → AllByRecursion P acc → AllByRecursion P (fold (insert_key (flip_args nat_cmp)) acc ns)
  all-fold [] acc h k = k
  all-fold (n ∷ ns) acc h k = all-fold ns (insert_key (flip_args nat_cmp) acc n) h.1 (all-insert_key (flip_args nat_cmp) (back_total nat_cmp_total) P n acc h.0 k)

  pub all-falling : (ns : List ℕ) → AllByRecursion P ns → AllByRecursion P (falling ns)
  all-falling ns h = all-fold ns [] h tt

  pub all_seqs : (rs : List RangeOf) → AllByRecursion (λ (r : RangeOf). P r.seq) rs → AllByRecursion P (map (λ (r : RangeOf). r.seq) rs)
  all_seqs [] h = tt
  all_seqs (r ∷ rs) h = (h.0, all_seqs rs h.1)

  over_pieces : (rs : List RangeOf) (ps : List Piece) → AllByRecursion (λ (r : RangeOf). P r.seq) rs → AllByRecursion (λ (f : Fragment). AllByRecursion P f.seqs) (map (fragment_over rs) ps)
  over_pieces rs [] h = tt
  over_pieces rs (p ∷ ps) h =
      (all-falling (map (λ (r : RangeOf). r.seq) (filter (spans p) rs)) (all_seqs (filter (spans p) rs) (all-filtered (λ (r : RangeOf). P r.seq) (spans p) rs h)), over_pieces rs ps h)

  pub all_fragments : (rs : List RangeOf) → AllByRecursion (λ (r : RangeOf). P r.seq) rs → AllByRecursion (λ (f : Fragment). AllByRecursion P f.seqs) (fragments_of rs)
  all_fragments rs h =
      all-filtered (λ (f : Fragment). AllByRecursion P f.seqs) (λ (f : Fragment). nat_lt 0 (length f.seqs)) (map (fragment_over rs) (pieces (cut_points rs))) (over_pieces rs (pieces (cut_points rs)) h)

-- ---- the parts of a run

both : {X : Type 0} (P Q : X → Type 0) (xs : List X) → AllByRecursion P xs → AllByRecursion Q xs → AllByRecursion (λ x. P x × Q x) xs
both P Q [] h k = tt
both P Q (x ∷ xs) h k = ((h.0, k.0), both P Q xs h.1 k.1)

whole : (low high : ℕ) (fs : List Fragment) → AllByRecursion (λ f. f.seqs ≢ []) fs → AllByRecursion (λ f. IsFalling f.seqs) fs → AllByRecursion (λ (f : Fragment). AllByRecursion (IsWithin low high) f.seqs) fs → AllByRecursion (IsWhole low high) fs
whole low high [] some falls within = tt
whole low high (f ∷ fs) some falls within = ((some.0, falls.0, within.0), whole low high fs some.1 falls.1 within.1)

-- a point's sequence is in no fragment
lacks : (p : Entry) (seqs : List ℕ) → AllByRecursion (λ n. n ≢ p.seq) seqs → ¬ Contains seqs p.seq
lacks p seqs h there = All-contains (λ n. n ≢ p.seq) seqs p.seq (All-from_recursion (λ n. n ≢ p.seq) seqs h) there refl

apart_from : (p : Entry) (fs : List Fragment) → AllByRecursion (λ (f : Fragment). AllByRecursion (λ n. n ≢ p.seq) f.seqs) fs → IsApart fs p
apart_from p [] h = tt
apart_from p (f ∷ fs) h = ((λ _. lacks p f.seqs h.0), apart_from p fs h.1)

within_all : (last : ℕ) (ws : List Write) → IsRising last ws → AllByRecursion (λ (w : Write). IsWithin (first_of ws) (last_of last ws) w.seq) ws
within_all last ws rising = both (λ (w : Write). first_of ws ≤ w.seq) (λ (w : Write). w.seq ≤ last_of last ws) ws (from_first last ws rising) (up_to_last last ws rising)

-- each sequence is one that a write may have
pub points_below : (ws : List Write) → IsRising 0 ws → AllByRecursion (λ (p : Entry). p.seq < 2 ^ 56) (by_key (points_in ws))
points_below ws rising = all-by_key (λ (p : Entry). p.seq < 2 ^ 56) (points_in ws) (all_points (λ n. n < 2 ^ 56) ws (all_below 0 ws rising))

positive : (ws : List Write) → IsRising 0 ws → ws ≢ [] → 1 ≤ first_of ws
positive [] rising some = absurd (some refl)
positive (w ∷ ws) rising some = omega (arith, rising.0)

first_to_last : (ws : List Write) → IsRising 0 ws → first_of ws ≤ last_of 0 ws
first_to_last [] rising = omega arith
first_to_last (w ∷ ws) rising = last_is_greatest w.seq ws rising.2

pub is_run : ((rs : List RangeOf) → AreInOrder (fragments_of rs)) → ((rs : List RangeOf) → AllByRecursion (λ f. f.seqs ≢ []) (fragments_of rs)) → ((rs : List RangeOf) → AllByRecursion (λ f. IsFalling f.seqs) (fragments_of rs)) → (ws : List Write) → IsRising 0 ws → ws ≢ [] → IsRun (first_of ws) (last_of 0 ws) (by_key (points_in ws)) (fragments_of (ranges_in ws))
is_run order some falls ws rising not_empty =
    let low = first_of ws in
    let high = last_of 0 ws in
    let within = within_all 0 ws rising in
    record {
      from_one = positive ws rising not_empty;
      range = first_to_last ws rising;
      below = last_below 0 ws (omega arith) rising;
      points_sorted = sorted-by_key (points_in ws) (have_own_seqs 0 ws rising);
      fragments_sorted = order (ranges_in ws);
      whole = whole low high (fragments_of (ranges_in ws)) (some (ranges_in ws)) (falls (ranges_in ws)) (all_fragments (IsWithin low high) (ranges_in ws) (all_ranges (IsWithin low high) ws within));
      points_within = all-by_key (λ (p : Entry). IsWithin low high p.seq) (points_in ws) (all_points (IsWithin low high) ws within);
      apart =
          all-by_key (IsApart (fragments_of (ranges_in ws))) (points_in ws)
          (all_map (IsApartFrom (ranges_in ws)) (IsApart (fragments_of (ranges_in ws))) (λ p apart. apart_from p (fragments_of (ranges_in ws)) (all_fragments (λ n. n ≢ p.seq) (ranges_in ws) apart)) (points_in ws) (are_apart 0 ws rising));
    }
