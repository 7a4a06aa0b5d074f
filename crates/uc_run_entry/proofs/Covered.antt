-- The fragments that pieces with lists become.
use Rattle.std.proofs.Common.{◌≡◌, ℕ, zero, suc, ◌+◌, ◌-◌, ◌<◌, ◌≤◌, Bool, true, false, cond, ltb, eqb, arith, List, [], ◌∷◌, ◌++◌, length, get_or, take, map, filter, Option, Some, None, refl, sym, ap, ◌∙◌}
use Rattle.std.specs.Prelude.{MatchOption, ⊤, option_map}
use Rattle.std.specs.Iterator.{AlwaysYields}
use Rattle.std.proofs.lemmas.Iterator.{YieldsList}
use Rattle.std.specs.List.{AllByRecursion, count_by}
use Rattle.std.proofs.lemmas.Bool.Decides.{nat_tests}
use Rattle.std.proofs.lemmas.List.{append-nil, map-append, take_more}
use Rattle.std.proofs.lemmas.List.Elements.{filter-append}
use Rattle.std.proofs.lemmas.List.Sums.{count_by-le-length}
use Rattle.std.specs.Ordering.{is_le}
use Rattle.uc_bytes.specs.Bytes.{bytes_cmp}
use Rattle.uc_run_entry.specs.Fragment.{Fragment}
use Rattle.uc_run_entry.specs.Cutting.{RangeOf, Piece}
use Rattle.uc_run_entry.specs.Shared.{AreOfSame}
use Rattle.uc_run_entry.specs.Spanning.{span_of, has_pieces, spans_of, with_seqs, covered, some_of}
use Rattle.uc_run_entry.specs.Cutting.{pieces}
use Rattle.uc_run_entry.proofs.Spanned.{length-pieces, piece_at}
use Rattle.uc_run_entry.specs.declared.span.Span.{Span}
use Rattle.uc_run_entry.specs.Spans.{IsWithin}

-- ---- the spans of some ranges, one range after the other

pub spans_more : (cuts : List (List ℕ)) (ranges : List RangeOf) (i : ℕ) (d : RangeOf) → i < length ranges →
    spans_of cuts (take (i + 1) ranges) ≡ spans_of cuts (take i ranges) ++ cond (has_pieces (span_of cuts (get_or ranges i d))) (span_of cuts (get_or ranges i d) ∷ []) []
spans_more cuts ranges i d l =
    ap (spans_of cuts) (take_more ranges i d l)
    ∙ ap (filter has_pieces) (map-append (span_of cuts) (take i ranges) (get_or ranges i d ∷ []))
    ∙ filter-append has_pieces (map (span_of cuts) (take i ranges)) (span_of cuts (get_or ranges i d) ∷ [])

module _ (cuts : List (List ℕ)) (ranges : List RangeOf) (i : ℕ) (r : RangeOf) (l : i < length ranges) (is : r ≡ get_or ranges i r) (old : List Span) (so_far : old ≡ spans_of cuts (take i ranges)) (s : Span) (made : s ≡ span_of cuts r) where
  more_by : (b : Bool) → has_pieces s ≡ b → old ++ cond b (s ∷ []) [] ≡ spans_of cuts (take (i + 1) ranges)
  more_by b e =
      (λ j. so_far j ++ cond (sym e j) (s ∷ []) [])
      ∙ ap (λ t. spans_of cuts (take i ranges) ++ cond (has_pieces t) (t ∷ []) []) (made ∙ ap (span_of cuts) is)
      ∙ sym (spans_more cuts ranges i r l)

  -- that of a range that lies over pieces is pushed
  pub span_pushed : (new : List Span) → new ≡ old ++ s ∷ [] → has_pieces s ≡ true → new ≡ spans_of cuts (take (i + 1) ranges)
  span_pushed new pushed e = pushed ∙ more_by true e

  -- and that of another isn't
  pub span_left : has_pieces s ≡ false → old ≡ spans_of cuts (take (i + 1) ranges)
  span_left e = sym (append-nil old) ∙ more_by false e

within_by : (count : ℕ) (s : Span) (ss : List Span) (b : Bool) → has_pieces s ≡ b → s.end ≤ count → AllByRecursion (IsWithin count) ss → AllByRecursion (IsWithin count) (cond b (s ∷ ss) ss)
within_by count s ss true e le h = ((grind (arith, nat_tests), le), h)
within_by count s ss false e le h = h

-- they lie among the pieces
pub all_within : (cuts : List (List ℕ)) (ranges : List RangeOf) → AllByRecursion (IsWithin (length cuts - 1)) (spans_of cuts ranges)
all_within cuts [] = tt
all_within cuts (r ∷ rs) =
    let few : count_by (λ cut. is_le (bytes_cmp cut r.end)) cuts ≤ length cuts = count_by-le-length (λ cut. is_le (bytes_cmp cut r.end)) cuts in
    within_by (length cuts - 1) (span_of cuts r) (spans_of cuts rs) (has_pieces (span_of cuts r)) refl (omega (arith, few)) (all_within cuts rs)

-- ---- pieces with lists

pub length-with_seqs : (ps : List Piece) (lists : List (List ℕ)) → length lists ≡ length ps → length (with_seqs ps lists) ≡ length ps
length-with_seqs [] lists e = refl
length-with_seqs (p ∷ ps) [] e = absurd (omega (arith, e))
length-with_seqs (p ∷ ps) (seqs ∷ lists) e = ap suc (length-with_seqs ps lists (omega (arith, e)))

abbrev pub joined : Piece → List ℕ → Fragment
joined p seqs = record { begin = p.0; end = p.1; seqs = seqs }

pub with_seqs_at : (ps : List Piece) (lists : List (List ℕ)) (i : ℕ) (d : Fragment) (p : Piece) → length lists ≡ length ps → i < length ps → get_or (with_seqs ps lists) i d ≡ joined (get_or ps i p) (get_or lists i [])
with_seqs_at [] lists i d p e l = absurd (omega (arith, l))
with_seqs_at (q ∷ ps) [] i d p e l = absurd (omega (arith, e))
with_seqs_at (q ∷ ps) (seqs ∷ lists) zero d p e l = refl
with_seqs_at (q ∷ ps) (seqs ∷ lists) (suc i) d p e l = with_seqs_at ps lists i d p (omega (arith, e)) (omega (arith, l))

abbrev has_seqs : Fragment → Bool
has_seqs f = ltb 0 (length f.seqs)

-- one more of them
pub covered_more : (fs : List Fragment) (i : ℕ) (d : Fragment) → i < length fs → covered (take (i + 1) fs) ≡ covered (take i fs) ++ cond (has_seqs (get_or fs i d)) (get_or fs i d ∷ []) []
covered_more fs i d l = ap covered (take_more fs i d l) ∙ filter-append has_seqs (take i fs) (get_or fs i d ∷ [])

-- the piece with a number becomes a fragment where its list has sequences
module _ (cuts : List (List ℕ)) (lists : List (List ℕ)) (long : length lists ≡ length cuts - 1) (i : ℕ) (l : i < length lists) (old : List Fragment) where
  abbrev all : List Fragment
  all = with_seqs (pieces cuts) lists

  pieces_long : length lists ≡ length (pieces cuts)
  pieces_long = long ∙ sym (length-pieces cuts)

  abbrev there : Fragment
  there = record { begin = get_or cuts i []; end = get_or cuts (i + 1) []; seqs = get_or lists i [] }

  all_at : get_or all i there ≡ there
  all_at =
      with_seqs_at (pieces cuts) lists i there ([], []) pieces_long (omega (arith, l, pieces_long))
      ∙ ap (λ p. joined p (get_or lists i [])) (piece_at cuts i [] (omega (arith, l, long)))

  more_at : covered (take (i + 1) all) ≡ covered (take i all) ++ cond (ltb 0 (length (get_or lists i []))) (there ∷ []) []
  more_at =
      covered_more all i there (let e : length all ≡ length (pieces cuts) = length-with_seqs (pieces cuts) lists pieces_long in omega (arith, e, l, pieces_long))
      ∙ ap (λ (f : Fragment). covered (take i all) ++ cond (has_seqs f) (f ∷ []) []) all_at

  pub piece_pushed : old ≡ covered (take i all) → (new : List Fragment) → new ≡ old ++ there ∷ [] → eqb (length (get_or lists i [])) 0 ≡ false → new ≡ covered (take (i + 1) all)
  piece_pushed so_far new pushed some =
      let e : ltb 0 (length (get_or lists i [])) ≡ true = grind (arith, nat_tests) in
      pushed ∙ (λ j. so_far j ++ cond (sym e j) (there ∷ []) []) ∙ sym more_at

  pub piece_left : old ≡ covered (take i all) → eqb (length (get_or lists i [])) 0 ≡ true → old ≡ covered (take (i + 1) all)
  piece_left so_far none =
      let e : ltb 0 (length (get_or lists i [])) ≡ false = grind (arith, nat_tests) in
      so_far ∙ sym (append-nil (covered (take i all))) ∙ (λ j. covered (take i all) ++ cond (sym e j) (there ∷ []) []) ∙ sym more_at

pub length-all : (cuts : List (List ℕ)) (lists : List (List ℕ)) → length lists ≡ length cuts - 1 → length (with_seqs (pieces cuts) lists) ≡ length lists
length-all cuts lists long =
    let same : length lists ≡ length (pieces cuts) = long ∙ sym (length-pieces cuts) in
    length-with_seqs (pieces cuts) lists same ∙ sym same

seqs_by : (p : Piece) (seqs : List ℕ) (fs : List Fragment) (lists : List (List ℕ)) (b : Bool) → map (λ f. f.seqs) fs ≡ lists → map (λ f. f.seqs) (cond b (joined p seqs ∷ fs) fs) ≡ cond b (seqs ∷ lists) lists
seqs_by p seqs fs lists true e = ap (λ (ns : List (List ℕ)). seqs ∷ ns) e
seqs_by p seqs fs lists false e = e

-- their sequences
pub seqs_of_covered : (ps : List Piece) (lists : List (List ℕ)) → length lists ≡ length ps → map (λ f. f.seqs) (covered (with_seqs ps lists)) ≡ some_of lists
seqs_of_covered [] [] e = refl
seqs_of_covered [] (seqs ∷ lists) e = absurd (omega (arith, e))
seqs_of_covered (p ∷ ps) [] e = absurd (omega (arith, e))
seqs_of_covered (p ∷ ps) (seqs ∷ lists) e = seqs_by p seqs (covered (with_seqs ps lists)) (some_of lists) (ltb 0 (length seqs)) (seqs_of_covered ps lists (omega (arith, e)))

-- ---- fragments with equal ends and equal sequences

abbrev ends_of : Fragment → List ℕ × List ℕ
ends_of f = (f.begin, f.end)

pub same_fragments : (fs gs : List Fragment) → map ends_of fs ≡ map ends_of gs → map (λ f. f.seqs) fs ≡ map (λ f. f.seqs) gs → fs ≡ gs
same_fragments [] [] e h = refl
same_fragments [] (g ∷ gs) e h = absurd cc
same_fragments (f ∷ fs) [] e h = absurd cc
same_fragments (f ∷ fs) (g ∷ gs) e h =
    let ends : ends_of f ≡ ends_of g = cc in
    let seqs : f.seqs ≡ g.seqs = cc in
    let ends_rest : map ends_of fs ≡ map ends_of gs = cc in
    let seqs_rest : map (λ f. f.seqs) fs ≡ map (λ f. f.seqs) gs = cc in
    (λ j. record { begin = (ends j).0; end = (ends j).1; seqs = seqs j } ∷ same_fragments fs gs ends_rest seqs_rest j)

-- those of two that share spans with the same lists
module _ {A : Type 0} (value : A → List (List ℕ)) where
  pub same_seqs : (fs gs : List Fragment) (spans others : Option A) →
      MatchOption spans ⊤ (λ s. map (λ f. f.seqs) fs ≡ some_of (value s)) → MatchOption others ⊤ (λ s. map (λ f. f.seqs) gs ≡ some_of (value s)) →
      AreOfSame (option_map value spans) (option_map value others) → map (λ f. f.seqs) fs ≡ map (λ f. f.seqs) gs
  same_seqs fs gs (Some s) (Some t) e h same = e ∙ ap some_of same ∙ sym h
  same_seqs fs gs (Some s) None e h same = absurd same
  same_seqs fs gs None others e h same = absurd same

-- ---- elements that are seen as others

module _ {S A B C : Type 0} (steps : S → Option A → S → Type 0) (v : A → B) (f : B → C) where
  all_shown : (s : S) (xs : List B) → AlwaysYields steps v s xs → AlwaysYields steps (λ a. f (v a)) s (map f xs)
  all_shown s [] e = e
  all_shown s (x ∷ xs) e = (e.0, (λ p j h. let a = e.1 p j h in (ap f a.0, all_shown j xs a.1)))

pub shown_as : {S A B C : Type 0} {steps : S → Option A → S → Type 0} {v : A → B} (f : B → C) {s : S} {xs : List B} → YieldsList steps v s xs → YieldsList steps (λ a. f (v a)) s (map f xs)
shown_as {S} {A} {B} {C} {steps} {v} f {s} {xs} e = record { runs = all_shown steps v f s xs e.runs }
