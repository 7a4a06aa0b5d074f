-- The pieces between the ends of fragments are those between the ends of their range deletions.
use Rattle.std.proofs.Common.{◌≡◌, ◌≢◌, ℕ, ◌<◌, ◌≤◌, Bool, true, false, cond, ltb, List, [], ◌∷◌, ◌++◌, length, map, fold, filter, ◌⊎◌, inl, inr, refl, sym, ap, ◌∙◌, subst, arith}
use Rattle.std.specs.Prelude.{◌&&◌}
use Rattle.std.specs.List.{AllByRecursion, flat_map}
use Rattle.std.specs.List.Sorted.{IsStrictlySortedBy}
use Rattle.std.specs.declared.cmp.Ordering.TheVariants.{Less}
use Rattle.std.specs.Ordering.{is_lt, is_le}
use Rattle.std.specs.BTreeSet.{insert_key}
use Rattle.std.proofs.lemmas.Bool.{false≢true}
use Rattle.std.proofs.lemmas.Cmp.{nat_list_cmp_total}
use Rattle.std.proofs.lemmas.Map.Lookups.{exact_bytes}
use Rattle.uc_bytes.specs.Bytes.{bytes_cmp}
use Rattle.uc_run_entry.specs.Fragment.{Fragment}
use Rattle.uc_run_entry.specs.Order.{IsFalling, AreInOrder}
use Rattle.uc_run_entry.specs.Run.{Contents, IsRun, IsWithin, IsWhole, covers}
use Rattle.uc_run_entry.specs.Cutting.{RangeOf, Piece, has_keys, spans, cut_points, pieces, falling, fragment_over, fragments_of}
use Rattle.uc_run_entry.proofs.Over.{lt_of, lt_le}
use Rattle.uc_run_entry.proofs.SeqsOver.{same_bool}
use Rattle.uc_run_entry.proofs.Sets.{sorted_set, all_back}
use Rattle.uc_run_entry.proofs.SameSets.{same_set}
use Rattle.uc_compact.specs.Inputs.{AreRuns, ranges_over, ranges_of}
use Rattle.uc_compact.specs.Pieces.{lists_over, fragments_in, piece_over, pieces_over}
use Rattle.uc_compact.proofs.Keys.{le_itself, no_less_itself}
use Rattle.uc_compact.proofs.NestedLists.{all-append}

abbrev Cuts : Type 0
Cuts = List (List ℕ)

abbrev ends_of : Fragment → Cuts
ends_of f = f.begin ∷ f.end ∷ []

abbrev ends_in : List RangeOf → Cuts
ends_in rs = flat_map (λ r. r.begin ∷ r.end ∷ []) (filter has_keys rs)

abbrev range : Fragment → ℕ → RangeOf
range f seq = record { begin = f.begin; end = f.end; seq = seq }

abbrev keys_of : Fragment → Bool
keys_of f = is_lt (bytes_cmp f.begin f.end)

-- a fragment has keys and sequences, from 1 on
pub record IsFilled (f : Fragment) : Type 0 where
  pub keys : keys_of f ≡ true
  pub some : f.seqs ≢ []
  pub falls : IsFalling f.seqs
  pub from_one : AllByRecursion (λ n. 0 < n) f.seqs

-- ---- the cut points

module _ (P : List ℕ → Type 0) where
  ends_put : (f : Fragment) (seq : ℕ) (rest : List RangeOf) (b : Bool) → P f.begin → P f.end → AllByRecursion P (ends_in rest) → AllByRecursion P (flat_map (λ r. r.begin ∷ r.end ∷ []) (cond b (range f seq ∷ filter has_keys rest) (filter has_keys rest)))
  ends_put f seq rest true p q h = (p, (q, h))
  ends_put f seq rest false p q h = h

  all_ranges : (f : Fragment) (seqs : List ℕ) (rest : List RangeOf) → P f.begin → P f.end → AllByRecursion P (ends_in rest) → AllByRecursion P (ends_in (map (range f) seqs ++ rest))
  all_ranges f [] rest p q h = h
  all_ranges f (seq ∷ seqs) rest p q h = ends_put f seq (map (range f) seqs ++ rest) (keys_of f) p q (all_ranges f seqs rest p q h)

  to_ranges : (fs : List Fragment) → AllByRecursion P (flat_map ends_of fs) → AllByRecursion P (ends_in (flat_map ranges_over fs))
  to_ranges [] h = tt
  to_ranges (f ∷ fs) h = all_ranges f f.seqs (flat_map ranges_over fs) h.0 h.1.0 (to_ranges fs h.1.1)

  ends_taken : (f : Fragment) (seq : ℕ) (rest : List RangeOf) (b : Bool) → keys_of f ≡ b → b ≡ true → AllByRecursion P (flat_map (λ r. r.begin ∷ r.end ∷ []) (cond b (range f seq ∷ filter has_keys rest) (filter has_keys rest))) → P f.begin × P f.end × AllByRecursion P (ends_in rest)
  ends_taken f seq rest true e keys h = (h.0, h.1.0, h.1.1)
  ends_taken f seq rest false e keys h = absurd (false≢true keys)

  behind_ranges : (f : Fragment) (seqs : List ℕ) (rest : List RangeOf) → keys_of f ≡ true → AllByRecursion P (ends_in (map (range f) seqs ++ rest)) → AllByRecursion P (ends_in rest)
  behind_ranges f [] rest keys h = h
  behind_ranges f (seq ∷ seqs) rest keys h = behind_ranges f seqs rest keys (ends_taken f seq (map (range f) seqs ++ rest) (keys_of f) refl keys h).2

  from_range : (f : Fragment) (seqs : List ℕ) (rest : List RangeOf) → keys_of f ≡ true → seqs ≢ [] → AllByRecursion P (ends_in (map (range f) seqs ++ rest)) → P f.begin × P f.end
  from_range f [] rest keys some h = absurd (some refl)
  from_range f (seq ∷ seqs) rest keys some h =
      let all : P f.begin × P f.end × AllByRecursion P (ends_in (map (range f) seqs ++ rest)) = ends_taken f seq (map (range f) seqs ++ rest) (keys_of f) refl keys h in
      (all.0, all.1)

  from_ranges : (fs : List Fragment) → AllByRecursion IsFilled fs → AllByRecursion P (ends_in (flat_map ranges_over fs)) → AllByRecursion P (flat_map ends_of fs)
  from_ranges [] filled h = tt
  from_ranges (f ∷ fs) filled h =
      let here : P f.begin × P f.end = from_range f f.seqs (flat_map ranges_over fs) filled.0.keys filled.0.some h in
      (here.0, (here.1, from_ranges fs filled.1 (behind_ranges f f.seqs (flat_map ranges_over fs) filled.0.keys h)))

abbrev inserted : Cuts → Cuts
inserted cuts = fold (insert_key bytes_cmp) [] cuts

same_cuts : (fs : List Fragment) → AllByRecursion IsFilled fs → inserted (flat_map ends_of fs) ≡ cut_points (flat_map ranges_over fs)
same_cuts fs filled =
    same_set bytes_cmp nat_list_cmp_total exact_bytes (flat_map ends_of fs) (ends_in (flat_map ranges_over fs))
    (λ P h. to_ranges P fs h) (λ P h. from_ranges P fs filled h)

-- ---- no cut lies within a piece

-- it is at or before the begin of a piece, or at or after its end
abbrev Apart : Piece → List ℕ → Type 0
Apart p x = (is_le (bytes_cmp x p.0) ≡ true) ⊎ (is_le (bytes_cmp p.1 x) ≡ true)

-- a piece has keys, and all cuts are apart from it
record IsBetween (cuts : Cuts) (p : Piece) : Type 0 where
  keys : bytes_cmp p.0 p.1 ≡ Less
  apart : AllByRecursion (Apart p) cuts

all_behind : (p : Piece) (cuts : Cuts) → AllByRecursion (λ x. bytes_cmp p.1 x ≡ Less) cuts → AllByRecursion (Apart p) cuts
all_behind p [] h = tt
all_behind p (x ∷ cuts) h = (inr (ap is_le h.0), all_behind p cuts h.1)

begin_behind : (c d : List ℕ) (cuts : Cuts) → AllByRecursion (λ x. bytes_cmp c x ≡ Less) (d ∷ cuts) → AllByRecursion (λ (p : Piece). bytes_cmp c p.0 ≡ Less) (pieces (d ∷ cuts))
begin_behind c d [] h = tt
begin_behind c d (e ∷ cuts) h = (h.0, begin_behind c e cuts h.1)

one_more : (c : List ℕ) (cuts : Cuts) (ps : List Piece) → AllByRecursion (λ (p : Piece). bytes_cmp c p.0 ≡ Less) ps → AllByRecursion (IsBetween cuts) ps → AllByRecursion (IsBetween (c ∷ cuts)) ps
one_more c cuts [] h k = tt
one_more c cuts (p ∷ ps) h k = (record { keys = k.0.keys; apart = (inl (ap is_le h.0), k.0.apart) }, one_more c cuts ps h.1 k.1)

all_between : (cuts : Cuts) → IsStrictlySortedBy bytes_cmp cuts → AllByRecursion (IsBetween cuts) (pieces cuts)
unfolding IsStrictlySortedBy
all_between [] sorted = tt
all_between (c ∷ []) sorted = tt
all_between (c ∷ d ∷ cuts) sorted = (
  record { keys = sorted.0.0; apart = (inl (le_itself c), (inr (le_itself d), all_behind (c, d) cuts sorted.1.0)) },
  one_more c (d ∷ cuts) (pieces (d ∷ cuts)) (begin_behind c d cuts sorted.0) (all_between (d ∷ cuts) sorted.1),
)

-- ---- so a range deletion is over a piece where its fragment covers the first key

abbrev over_piece : Piece → Fragment → Bool
over_piece p f = is_le (bytes_cmp f.begin p.0) && is_le (bytes_cmp p.1 f.end)

end_by : (p : Piece) (end : List ℕ) → bytes_cmp p.0 p.1 ≡ Less → Apart p end → is_le (bytes_cmp p.1 end) ≡ is_lt (bytes_cmp p.0 end)
end_by p end keys (inr at) =
    same_bool (is_le (bytes_cmp p.1 end)) (is_lt (bytes_cmp p.0 end))
    (λ le. ap is_lt (lt_le p.0 p.0 p.1 end keys (bytes_cmp p.1 end) refl le))
    (λ lt. at)
end_by p end keys (inl at) =
    same_bool (is_le (bytes_cmp p.1 end)) (is_lt (bytes_cmp p.0 end))
    (λ le. ap is_lt (lt_le p.0 p.0 p.1 end keys (bytes_cmp p.1 end) refl le))
    (λ lt. absurd (no_less_itself p.0 (lt_le p.0 p.0 end p.0 (lt_of p.0 p.0 end lt) (bytes_cmp end p.0) refl at)))

same_over : (p : Piece) (f : Fragment) → bytes_cmp p.0 p.1 ≡ Less → Apart p f.end → over_piece p f ≡ covers f p.0
same_over p f keys apart = ap (λ b. is_le (bytes_cmp f.begin p.0) && b) (end_by p f.end keys apart)

module _ (p : Piece) where
  abbrev seqs_over : List RangeOf → List ℕ
  seqs_over rs = map (λ (r : RangeOf). r.seq) (filter (spans p) rs)

  abbrev lists : List Fragment → List (List ℕ)
  lists fs = lists_over p.0 fs

  seqs_taken : (f : Fragment) (seqs : List ℕ) (rest : List RangeOf) (b : Bool) → over_piece p f ≡ b → seqs_over (map (range f) seqs ++ rest) ≡ cond b (seqs ++ seqs_over rest) (seqs_over rest)
  seqs_taken f [] rest true e = refl
  seqs_taken f [] rest false e = refl
  seqs_taken f (seq ∷ seqs) rest true e =
      ap (λ b. map (λ (r : RangeOf). r.seq) (cond b (range f seq ∷ filter (spans p) (map (range f) seqs ++ rest)) (filter (spans p) (map (range f) seqs ++ rest)))) e
      ∙ ap (λ (ns : List ℕ). seq ∷ ns) (seqs_taken f seqs rest true e)
  seqs_taken f (seq ∷ seqs) rest false e =
      ap (λ b. map (λ (r : RangeOf). r.seq) (cond b (range f seq ∷ filter (spans p) (map (range f) seqs ++ rest)) (filter (spans p) (map (range f) seqs ++ rest)))) e
      ∙ seqs_taken f seqs rest false e

  lists_put : (f : Fragment) (fs : List Fragment) (b : Bool) → cond b (f.seqs ++ flat_map (λ (ns : List ℕ). ns) (lists fs)) (flat_map (λ (ns : List ℕ). ns) (lists fs)) ≡ flat_map (λ (ns : List ℕ). ns) (map (λ (g : Fragment). g.seqs) (cond b (f ∷ filter (λ g. covers g p.0) fs) (filter (λ g. covers g p.0) fs)))
  lists_put f fs true = refl
  lists_put f fs false = refl

  same_lists : (fs : List Fragment) → bytes_cmp p.0 p.1 ≡ Less → AllByRecursion (λ (f : Fragment). Apart p f.end) fs → seqs_over (flat_map ranges_over fs) ≡ flat_map (λ (ns : List ℕ). ns) (lists fs)
  same_lists [] keys h = refl
  same_lists (f ∷ fs) keys h =
      seqs_taken f f.seqs (flat_map ranges_over fs) (over_piece p f) refl
      ∙ ap (λ (ns : List ℕ). cond (over_piece p f) (f.seqs ++ ns) ns) (same_lists fs keys h.1)
      ∙ ap (λ b. cond b (f.seqs ++ flat_map (λ (ns : List ℕ). ns) (lists fs)) (flat_map (λ (ns : List ℕ). ns) (lists fs))) (same_over p f keys h.0)
      ∙ lists_put f fs (covers f p.0)

all_ends : (P : List ℕ → Type 0) (fs : List Fragment) → AllByRecursion P (flat_map ends_of fs) → AllByRecursion (λ (f : Fragment). P f.end) fs
all_ends P [] h = tt
all_ends P (f ∷ fs) h = (h.1.0, all_ends P fs h.1.1)

module _ (runs : List Contents) where
  abbrev fs : List Fragment
  fs = fragments_in runs

  abbrev cuts : Cuts
  cuts = inserted (flat_map ends_of (fragments_in runs))

  same_piece : (p : Piece) → IsBetween cuts p → fragment_over (ranges_of runs) p ≡ piece_over runs p
  same_piece p h =
      ap (λ (ns : List ℕ). record { begin = p.0; end = p.1; seqs = falling ns })
      (same_lists p (fragments_in runs) h.keys (all_ends (Apart p) (fragments_in runs) (all_back bytes_cmp exact_bytes (Apart p) (flat_map ends_of (fragments_in runs)) h.apart)))

  same_pieces : (ps : List Piece) → AllByRecursion (IsBetween cuts) ps → map (fragment_over (ranges_of runs)) ps ≡ map (piece_over runs) ps
  same_pieces [] h = refl
  same_pieces (p ∷ ps) h =
      ap (λ (f : Fragment). f ∷ map (fragment_over (ranges_of runs)) ps) (same_piece p h.0)
      ∙ ap (λ (gs : List Fragment). piece_over runs p ∷ gs) (same_pieces ps h.1)

  -- the pieces over the cut points are the fragments of all range deletions
  pieces_are : AllByRecursion IsFilled (fragments_in runs) → pieces_over runs (inserted (flat_map ends_of (fragments_in runs))) ≡ fragments_of (ranges_of runs)
  pieces_are filled =
      ap (λ (gs : List Fragment). filter (λ (f : Fragment). ltb 0 (length f.seqs)) gs) (sym (same_pieces (pieces cuts) (all_between cuts (sorted_set bytes_cmp nat_list_cmp_total (flat_map ends_of (fragments_in runs))))))
      ∙ ap (λ (cs : Cuts). filter (λ (f : Fragment). ltb 0 (length f.seqs)) (map (fragment_over (ranges_of runs)) (pieces cs))) (same_cuts (fragments_in runs) filled)

-- ---- the fragments of runs

within_from_one : (low high : ℕ) → 1 ≤ low → (ns : List ℕ) → AllByRecursion (IsWithin low high) ns → AllByRecursion (λ n. 0 < n) ns
within_from_one low high one [] h = tt
within_from_one low high one (n ∷ ns) h = (let le : low ≤ n = h.0.0 in omega (arith, one, le), within_from_one low high one ns h.1)

filled_in : (low high : ℕ) → 1 ≤ low → (fs : List Fragment) → AreInOrder fs → AllByRecursion (IsWhole low high) fs → AllByRecursion IsFilled fs
filled_in low high one [] order whole = tt
filled_in low high one (f ∷ fs) order whole = (
  record { keys = order.0; some = whole.0.0; falls = whole.0.1; from_one = within_from_one low high one f.seqs whole.0.2 },
  filled_in low high one fs order.2 whole.1,
)

pub run_filled : (r : Contents) → IsRun r.low r.high r.points r.fragments → AllByRecursion IsFilled r.fragments
run_filled r is = filled_in r.low r.high is.from_one r.fragments is.fragments_sorted is.whole

all_filled : (runs : List Contents) → AreRuns runs → AllByRecursion IsFilled (fragments_in runs)
all_filled [] h = tt
all_filled (r ∷ runs) h = all-append IsFilled r.fragments (fragments_in runs) (run_filled r h.0) (all_filled runs h.1)

-- the pieces over the runs that have fragments
pub pieces_of_fronts : (runs fronts : List Contents) → AreRuns runs → fragments_in fronts ≡ fragments_in runs → pieces_over fronts (fold (insert_key bytes_cmp) [] (flat_map (λ f. f.begin ∷ f.end ∷ []) (fragments_in fronts))) ≡ fragments_of (ranges_of runs)
pieces_of_fronts runs fronts are same =
    pieces_are fronts (subst (AllByRecursion IsFilled) (sym same) (all_filled runs are))
    ∙ ap (λ (fs : List Fragment). fragments_of (flat_map ranges_over fs)) same
