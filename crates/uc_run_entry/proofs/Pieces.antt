-- The pieces between neighbouring cut points, and the fragments over them.
use Rattle.std.proofs.Common.{◌≡◌, ◌≢◌, ℕ, Bool, true, false, cond, ltb, List, [], ◌∷◌, length, map, filter, refl, ap}
use Rattle.std.specs.List.{AllByRecursion, flat_map}
use Rattle.std.specs.List.Sorted.{IsStrictlySortedBy}
use Rattle.std.specs.declared.cmp.Ordering.TheVariants.{Less}
use Rattle.std.specs.Ordering.{nat_cmp, flip_args, is_lt, is_le}
use Rattle.std.proofs.lemmas.Cmp.{nat_list_cmp_total, nat_cmp_total, back_total, tied_itself}
use Rattle.uc_bytes.specs.Bytes.{bytes_cmp}
use Rattle.uc_run_entry.specs.Fragment.{Fragment}
use Rattle.uc_run_entry.specs.Order.{IsFalling, AreInOrder}
use Rattle.uc_run_entry.specs.Cutting.{RangeOf, Piece, has_keys, spans, cut_points, pieces, falling, fragment_over, fragments_of}
use Rattle.uc_run_entry.proofs.Sets.{sorted_set}

-- each piece has keys, and ends at or before the begin of those after it
abbrev ArePieces : List Piece → Type 0
ArePieces [] = Unit {0}
ArePieces (p ∷ ps) = (is_lt (bytes_cmp p.0 p.1) ≡ true) × AllByRecursion (λ q. is_le (bytes_cmp p.1 q.0) ≡ true) ps × ArePieces ps

abbrev Cuts : List (List ℕ) → Type 0
Cuts cuts = IsStrictlySortedBy bytes_cmp cuts

-- the pieces after a cut begin there or later
later_pieces : (end : List ℕ) (cuts : List (List ℕ)) → Cuts (end ∷ cuts) → (from : List ℕ) → is_le (bytes_cmp from end) ≡ true → AllByRecursion (λ c. is_le (bytes_cmp from c) ≡ true) cuts → AllByRecursion (λ q. is_le (bytes_cmp from q.0) ≡ true) (pieces (end ∷ cuts))
unfolding IsStrictlySortedBy
later_pieces end [] sorted from le all = tt
later_pieces end (next ∷ cuts) sorted from le all = (le, later_pieces next cuts sorted.1 from all.0 all.1)

le_itself : (x : List ℕ) → is_le (bytes_cmp x x) ≡ true
le_itself x = ap is_le (tied_itself nat_list_cmp_total x)

all_le : (x : List ℕ) (cuts : List (List ℕ)) → AllByRecursion (λ c. bytes_cmp x c ≡ Less) cuts → AllByRecursion (λ c. is_le (bytes_cmp x c) ≡ true) cuts
all_le x [] h = tt
all_le x (c ∷ cs) h = (ap is_le h.0, all_le x cs h.1)

are_pieces : (cuts : List (List ℕ)) → Cuts cuts → ArePieces (pieces cuts)
unfolding IsStrictlySortedBy
are_pieces [] sorted = tt
are_pieces (begin ∷ []) sorted = tt
are_pieces (begin ∷ end ∷ cuts) sorted = (ap is_lt sorted.0.0, later_pieces end cuts sorted.1 end (le_itself end) (all_le end cuts sorted.1.0), are_pieces (end ∷ cuts) sorted.1)

module _ (ranges : List RangeOf) where
  abbrev over : List Piece → List Fragment
  over ps = map (fragment_over ranges) ps

  abbrev has_seqs : Fragment → Bool
  has_seqs f = ltb 0 (length f.seqs)

  later_fragments : (end : List ℕ) (ps : List Piece) → AllByRecursion (λ q. is_le (bytes_cmp end q.0) ≡ true) ps → AllByRecursion (λ (f : Fragment). is_le (bytes_cmp end f.begin) ≡ true) (over ps)
  later_fragments end [] h = tt
  later_fragments end (p ∷ ps) h = (h.0, later_fragments end ps h.1)

  all_kept : (P : Fragment → Type 0) (f : Fragment) (kept : List Fragment) (b : Bool) → P f → AllByRecursion P kept → AllByRecursion P (cond b (f ∷ kept) kept)
  all_kept P f kept true p h = (p, h)
  all_kept P f kept false p h = h

  all-filter : (P : Fragment → Type 0) (fs : List Fragment) → AllByRecursion P fs → AllByRecursion P (filter has_seqs fs)
  all-filter P [] h = tt
  all-filter P (f ∷ fs) h = all_kept P f (filter has_seqs fs) (has_seqs f) h.0 (all-filter P fs h.1)

  order_over : (ps : List Piece) → ArePieces ps → AreInOrder (over ps)
  order_over [] h = tt
  order_over (p ∷ ps) h = (h.0, later_fragments p.1 ps h.1, order_over ps h.2)

  -- fragments over pieces stand in order, whichever ranges fill them
  pub over_in_order : (cut : List RangeOf) → AreInOrder (over (pieces (cut_points cut)))
  over_in_order cut = order_over (pieces (cut_points cut)) (are_pieces (cut_points cut) (sorted_set bytes_cmp nat_list_cmp_total (flat_map (λ r. r.begin ∷ r.end ∷ []) (filter has_keys cut))))

  order_kept : (f : Fragment) (kept : List Fragment) (b : Bool) → is_lt (bytes_cmp f.begin f.end) ≡ true → AllByRecursion (λ g. is_le (bytes_cmp f.end g.begin) ≡ true) kept → AreInOrder kept → AreInOrder (cond b (f ∷ kept) kept)
  order_kept f kept true lt le h = (lt, le, h)
  order_kept f kept false lt le h = h

  order_filtered : (ps : List Piece) → ArePieces ps → AreInOrder (filter has_seqs (over ps))
  order_filtered [] h = tt
  order_filtered (p ∷ ps) h =
      order_kept (fragment_over ranges p) (filter has_seqs (over ps)) (has_seqs (fragment_over ranges p)) h.0
      (all-filter (λ g. is_le (bytes_cmp p.1 g.begin) ≡ true) (over ps) (later_fragments p.1 ps h.1)) (order_filtered ps h.2)

  pub in_order : AreInOrder (fragments_of ranges)
  in_order = order_filtered (pieces (cut_points ranges)) (are_pieces (cut_points ranges) (sorted_set bytes_cmp nat_list_cmp_total (flat_map (λ r. r.begin ∷ r.end ∷ []) (filter has_keys ranges))))

  falls : (seqs : List ℕ) → IsFalling (falling seqs)
  falls seqs = sorted_set (flip_args nat_cmp) (back_total nat_cmp_total) seqs

  all_fall : (ps : List Piece) → AllByRecursion (λ (f : Fragment). IsFalling f.seqs) (over ps)
  all_fall [] = tt
  all_fall (p ∷ ps) = (falls (map (λ r. r.seq) (filter (spans p) ranges)), all_fall ps)

  pub seqs_fall : AllByRecursion (λ f. IsFalling f.seqs) (fragments_of ranges)
  seqs_fall = all-filter (λ f. IsFalling f.seqs) (over (pieces (cut_points ranges))) (all_fall (pieces (cut_points ranges)))

  some_kept : (f : Fragment) (kept : List Fragment) (b : Bool) → has_seqs f ≡ b → AllByRecursion (λ g. g.seqs ≢ []) kept → AllByRecursion (λ g. g.seqs ≢ []) (cond b (f ∷ kept) kept)
  some_kept f kept true e h = (some f.seqs e, h)
    where
      some : (seqs : List ℕ) → ltb 0 (length seqs) ≡ true → seqs ≢ []
      some [] e = absurd cc
      some (n ∷ ns) e = λ none. absurd cc
  some_kept f kept false e h = h

  some_filtered : (fs : List Fragment) → AllByRecursion (λ g. g.seqs ≢ []) (filter has_seqs fs)
  some_filtered [] = tt
  some_filtered (f ∷ fs) = some_kept f (filter has_seqs fs) (has_seqs f) refl (some_filtered fs)

  pub some_seqs : AllByRecursion (λ f. f.seqs ≢ []) (fragments_of ranges)
  some_seqs = some_filtered (over (pieces (cut_points ranges)))
