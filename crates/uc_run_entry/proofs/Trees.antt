-- The contents of the nodes of the tree over fragments.
use Rattle.std.proofs.Common.{◌≡◌, ℕ, zero, suc, ◌+◌, ◌-◌, ◌*◌, ◌^◌, ◌<◌, ◌≤◌, min, Bool, true, false, cond, ltb, arith, List, [], ◌∷◌, ◌++◌, append_assoc, length, get_or, drop, map, filter, Option, refl, sym, ap, ◌∙◌, subst, length-append}
use Rattle.std.specs.Prelude.{not}
use Rattle.std.specs.List.{AllByRecursion, sum_by}
use Rattle.std.proofs.lemmas.Bool.Decides.{nat_tests}
use Rattle.std.proofs.lemmas.List.{get_or-drop, drop-drop, drop_at, length-map, append-nil}
use Rattle.std.proofs.lemmas.List.Sums.{sum_by-cons}
use Rattle.uc_run_entry.specs.declared.span.Span.{Span}
use Rattle.uc_run_entry.specs.declared.node.Node.{Node}
use Rattle.uc_run_entry.specs.Spans.{stands_in, seqs_in}
use Rattle.uc_run_entry.specs.Newest.{Descends, newest_at_or_below, newer, newest_of_all}
use Rattle.uc_run_entry.specs.Tree.{middle, is_leaf, spans_all, meets, held, left_over, nodes, root, half, nodes_over, held_over}
use Rattle.uc_run_entry.proofs.Greatest.{SpansDescend, seq_of, seqs_descend, descend-filter, newest_in_parts, count_in_parts, newer_none, newer_assoc}
use Rattle.uc_run_entry.proofs.Filters.{filter-swap, filter-implied, same_filter}

-- the spans that the halves of a node have
abbrev first_half : ℕ → ℕ → List Span → List Span
first_half low high spans = filter (meets low (middle low high)) (left_over low high spans)

abbrev second_half : ℕ → ℕ → List Span → List Span
second_half low high spans = filter (meets (middle low high) high) (left_over low high spans)

below_from : (x y : ℕ) → ltb x y ≡ true → x < y
below_from x y e = grind (arith, nat_tests)

not_below_from : (x y : ℕ) → ltb x y ≡ false → y ≤ x
not_below_from x y e = grind (arith, nat_tests)

same_bool : (a b : Bool) → (a ≡ true → b ≡ true) → (b ≡ true → a ≡ true) → a ≡ b
same_bool true b to back = sym (to refl)
same_bool false true to back = back refl
same_bool false false to back = refl

leaf_from : (low high : ℕ) → is_leaf low high ≡ true → high - low ≤ 1
leaf_from low high e = grind (arith, nat_tests)

fork_from : (low high : ℕ) → is_leaf low high ≡ false → 1 < high - low
fork_from low high e = grind (arith, nat_tests)

-- where the halves of a node lie
pub record AreHalves (low middle high : ℕ) : Type 0 where
  pub some : low < middle
  pub more : middle < high

pub halves : (low high : ℕ) → 1 < high - low → AreHalves low (middle low high) high
halves low high l = record { some = omega arith; more = omega arith }

-- ---- how many nodes there are

length_by : (depth low high : ℕ) (spans : List Span) (b : Bool) → is_leaf low high ≡ b → low < high → high - low ≤ suc depth →
    ((low high : ℕ) (spans : List Span) → low < high → high - low ≤ depth → length (nodes depth low high spans) + 1 ≡ 2 * (high - low)) →
    length (held low high spans ∷ cond b [] (nodes depth low (middle low high) (first_half low high spans) ++ nodes depth (middle low high) high (second_half low high spans))) + 1 ≡ 2 * (high - low)
length_by depth low high spans true e l le rest =
    let one : high - low ≤ 1 = leaf_from low high e in
    omega arith
length_by depth low high spans false e l le rest =
    let h : AreHalves low (middle low high) high = halves low high (fork_from low high e) in
    let left : length (nodes depth low (middle low high) (first_half low high spans)) + 1 ≡ 2 * (middle low high - low) = rest low (middle low high) (first_half low high spans) h.some (omega (arith, h.more, le)) in
    let right : length (nodes depth (middle low high) high (second_half low high spans)) + 1 ≡ 2 * (high - middle low high) = rest (middle low high) high (second_half low high spans) h.more (omega (arith, h.some, le)) in
    let both : length (nodes depth low (middle low high) (first_half low high spans) ++ nodes depth (middle low high) high (second_half low high spans)) ≡ length (nodes depth low (middle low high) (first_half low high spans)) + length (nodes depth (middle low high) high (second_half low high spans)) = length-append (nodes depth low (middle low high) (first_half low high spans)) (nodes depth (middle low high) high (second_half low high spans)) in
    omega (arith, left, right, both, h.some, h.more)

pub length-nodes : (depth low high : ℕ) (spans : List Span) → low < high → high - low ≤ depth → length (nodes depth low high spans) + 1 ≡ 2 * (high - low)
length-nodes zero low high spans l le = absurd (omega (arith, l, le))
length-nodes (suc depth) low high spans l le = length_by depth low high spans (is_leaf low high) refl l le (length-nodes depth)

-- ---- each node's sequences fall

all-append : {X : Type 0} (P : X → Type 0) (xs ys : List X) → AllByRecursion P xs → AllByRecursion P ys → AllByRecursion P (xs ++ ys)
all-append P [] ys h k = k
all-append P (x ∷ xs) ys h k = (h.0, all-append P xs ys h.1 k)

descend_by : (depth low high : ℕ) (spans : List Span) (b : Bool) → SpansDescend spans →
    ((low high : ℕ) (spans : List Span) → SpansDescend spans → AllByRecursion Descends (nodes depth low high spans)) →
    AllByRecursion Descends (held low high spans ∷ cond b [] (nodes depth low (middle low high) (first_half low high spans) ++ nodes depth (middle low high) high (second_half low high spans)))
descend_by depth low high spans true h rest = (seqs_descend (filter (spans_all low high) spans) (descend-filter (spans_all low high) spans h), tt)
descend_by depth low high spans false h rest =
    let passed : SpansDescend (left_over low high spans) = descend-filter (λ s. not (spans_all low high s)) spans h in (
      seqs_descend (filter (spans_all low high) spans) (descend-filter (spans_all low high) spans h),
      all-append Descends (nodes depth low (middle low high) (first_half low high spans)) (nodes depth (middle low high) high (second_half low high spans))
          (rest low (middle low high) (first_half low high spans) (descend-filter (meets low (middle low high)) (left_over low high spans) passed))
          (rest (middle low high) high (second_half low high spans) (descend-filter (meets (middle low high) high) (left_over low high spans) passed)),
    )

pub nodes_descend : (depth low high : ℕ) (spans : List Span) → SpansDescend spans → AllByRecursion Descends (nodes depth low high spans)
nodes_descend zero low high spans h = tt
nodes_descend (suc depth) low high spans h = descend_by depth low high spans (is_leaf low high) h (nodes_descend depth)

-- ---- what the nodes over a fragment hold, from a node down

abbrev on_the_way : ℕ → ℕ → ℕ → ℕ → List Span → List (List ℕ)
on_the_way zero low high f spans = []
on_the_way (suc depth) low high f spans =
    held low high spans
    ∷ cond (is_leaf low high) []
    (cond (ltb f (middle low high)) (on_the_way depth low (middle low high) f (first_half low high spans))
    (on_the_way depth (middle low high) high f (second_half low high spans)))

at_place : {X : Type 0} (lists : List X) (n : ℕ) (x : X) (xs : List X) (d : X) → drop n lists ≡ x ∷ xs → (get_or lists n d ≡ x) × (drop (n + 1) lists ≡ xs)
at_place lists n x xs d e =
    let none : n + 0 ≡ n = omega arith in (
      sym (ap (λ k. get_or lists k d) none) ∙ sym (get_or-drop n lists 0 d) ∙ ap (λ (ys : List _). get_or ys 0 d) e,
      sym (drop-drop 1 n lists) ∙ ap (λ (ys : List _). drop 1 ys) e,
    )

abbrev list_at : List (List ℕ) → ℕ → List ℕ
list_at lists number = get_or lists number []

module _ (f : ℕ) (lists : List (List ℕ)) where
  abbrev Way : ℕ → Type 0
  Way depth = (number low high : ℕ) (rest : List (List ℕ)) (spans : List Span) → low < high → high - low ≤ depth → drop number lists ≡ nodes depth low high spans ++ rest → map (list_at lists) (nodes_over depth f (record { number = number; low = low; high = high })) ≡ on_the_way depth low high f spans

  way_down : (depth number low high : ℕ) (rest : List (List ℕ)) (spans : List Span) (b : Bool) → ltb f (middle low high) ≡ b → 1 < high - low → high - low ≤ suc depth → Way depth →
      drop (number + 1) lists ≡ (nodes depth low (middle low high) (first_half low high spans) ++ nodes depth (middle low high) high (second_half low high spans)) ++ rest →
      map (list_at lists) (nodes_over depth f (cond b (record { number = number + 1; low = low; high = middle low high }) (record { number = number + 2 * (middle low high - low); low = middle low high; high = high })))
      ≡ cond b (on_the_way depth low (middle low high) f (first_half low high spans)) (on_the_way depth (middle low high) high f (second_half low high spans))
  way_down depth number low high rest spans true e l le way there =
      let h : AreHalves low (middle low high) high = halves low high l in
      way (number + 1) low (middle low high) (nodes depth (middle low high) high (second_half low high spans) ++ rest) (first_half low high spans) h.some (omega (arith, h.more, le))
      (there ∙ append_assoc (nodes depth low (middle low high) (first_half low high spans)) (nodes depth (middle low high) high (second_half low high spans)) rest)
  way_down depth number low high rest spans false e l le way there =
      let h : AreHalves low (middle low high) high = halves low high l in
      let firsts : List (List ℕ) = nodes depth low (middle low high) (first_half low high spans) in
      let seconds : List (List ℕ) = nodes depth (middle low high) high (second_half low high spans) in
      let many : length firsts + 1 ≡ 2 * (middle low high - low) = length-nodes depth low (middle low high) (first_half low high spans) h.some (omega (arith, h.more, le)) in
      let place : (number + 1) + length firsts ≡ number + 2 * (middle low high - low) = omega (arith, many) in
      way (number + 2 * (middle low high - low)) (middle low high) high rest (second_half low high spans) h.more (omega (arith, h.some, le))
      (sym (ap (λ k. drop k lists) place)
      ∙ sym (drop-drop (length firsts) (number + 1) lists)
      ∙ ap (λ (ys : List (List ℕ)). drop (length firsts) ys) (there ∙ append_assoc firsts seconds rest)
      ∙ drop_at firsts (seconds ++ rest) (length firsts) refl)

  way_by : (depth number low high : ℕ) (rest : List (List ℕ)) (spans : List Span) (b : Bool) → is_leaf low high ≡ b → low < high → high - low ≤ suc depth → Way depth →
      drop number lists ≡ (held low high spans ∷ cond b [] (nodes depth low (middle low high) (first_half low high spans) ++ nodes depth (middle low high) high (second_half low high spans))) ++ rest →
      list_at lists number ∷ map (list_at lists) (cond b [] (nodes_over depth f (half f (record { number = number; low = low; high = high }))))
      ≡ held low high spans ∷ cond b [] (cond (ltb f (middle low high)) (on_the_way depth low (middle low high) f (first_half low high spans)) (on_the_way depth (middle low high) high f (second_half low high spans)))
  way_by depth number low high rest spans true e l le way there = ap (λ (xs : List ℕ). xs ∷ []) (at_place lists number (held low high spans) rest [] there).0
  way_by depth number low high rest spans false e l le way there =
      let here : (get_or lists number [] ≡ held low high spans) × (drop (number + 1) lists ≡ (nodes depth low (middle low high) (first_half low high spans) ++ nodes depth (middle low high) high (second_half low high spans)) ++ rest) = at_place lists number (held low high spans) ((nodes depth low (middle low high) (first_half low high spans) ++ nodes depth (middle low high) high (second_half low high spans)) ++ rest) [] there in
      ap (λ (xs : List ℕ). xs ∷ map (list_at lists) (nodes_over depth f (half f (record { number = number; low = low; high = high })))) here.0
      ∙ ap (λ (xss : List (List ℕ)). held low high spans ∷ xss) (way_down depth number low high rest spans (ltb f (middle low high)) refl (fork_from low high e) le way here.1)

  way : (depth : ℕ) → Way depth
  way zero number low high rest spans l le there = absurd (omega (arith, l, le))
  way (suc depth) number low high rest spans l le there = way_by depth number low high rest spans (is_leaf low high) refl l le (way depth) there

pub held_on_the_way : (f fragments : ℕ) (spans : List Span) → 0 < fragments → held_over fragments f (nodes fragments 0 fragments spans) ≡ on_the_way fragments 0 fragments f spans
held_on_the_way f fragments spans l = way f (nodes fragments 0 fragments spans) fragments 0 0 fragments [] spans l (omega arith) (sym (append-nil (nodes fragments 0 fragments spans)))

-- ---- the spans that stand in a fragment are those that a node over it holds and those that it passes on

all_stand : (f low high : ℕ) (s : Span) → low ≤ f → f < high → spans_all low high s ≡ true → stands_in f s ≡ true
all_stand f low high s l m e = grind (arith, nat_tests)

stand_meet : (f low high : ℕ) (s : Span) → low ≤ f → f < high → stands_in f s ≡ true → meets low high s ≡ true
stand_meet f low high s l m e = grind (arith, nat_tests)

leaf_stands : (f low high : ℕ) (s : Span) → low ≤ f → f < high → high - low ≤ 1 → spans_all low high s ≡ stands_in f s
leaf_stands f low high s l m one =
    let e : low ≡ f = omega (arith, l, m, one) in
    let g : high ≡ suc f = omega (arith, l, m, one) in
    same_bool (spans_all low high s) (stands_in f s) (all_stand f low high s l m) (λ t. grind (arith, nat_tests))

module _ (f low high : ℕ) (l : low ≤ f) (m : f < high) (spans : List Span) where
  held_of_standing : filter (spans_all low high) (filter (stands_in f) spans) ≡ filter (spans_all low high) spans
  held_of_standing = filter-implied (spans_all low high) (stands_in f) (λ s e. all_stand f low high s l m e) spans

  passed_of_standing : (from to : ℕ) → from ≤ f → f < to → filter (λ s. not (spans_all low high s)) (filter (stands_in f) spans) ≡ filter (stands_in f) (filter (meets from to) (left_over low high spans))
  passed_of_standing from to g h =
      filter-swap (λ s. not (spans_all low high s)) (stands_in f) spans
      ∙ sym (filter-implied (stands_in f) (meets from to) (λ s e. stand_meet f from to s g h e) (left_over low high spans))

  module _ (at : ℕ) (falls : SpansDescend spans) where
    newest_here : (from to : ℕ) → from ≤ f → f < to → newest_at_or_below at (seqs_in f spans) ≡ newer (newest_at_or_below at (held low high spans)) (newest_at_or_below at (seqs_in f (filter (meets from to) (left_over low high spans))))
    newest_here from to g h =
        newest_in_parts at (spans_all low high) (filter (stands_in f) spans) (descend-filter (stands_in f) spans falls)
        ∙ ap (λ (ss : List Span). newer (newest_at_or_below at (map seq_of ss)) (newest_at_or_below at (map seq_of (filter (λ s. not (spans_all low high s)) (filter (stands_in f) spans))))) held_of_standing
        ∙ ap (λ (ss : List Span). newer (newest_at_or_below at (held low high spans)) (newest_at_or_below at (map seq_of ss))) (passed_of_standing from to g h)

  count_here : (from to : ℕ) → from ≤ f → f < to → length (seqs_in f spans) ≡ length (held low high spans) + length (seqs_in f (filter (meets from to) (left_over low high spans)))
  count_here from to g h =
      length-map (filter (stands_in f) spans) seq_of
      ∙ count_in_parts (spans_all low high) (filter (stands_in f) spans)
      ∙ ap (λ (ss : List Span). length ss + length (filter (λ s. not (spans_all low high s)) (filter (stands_in f) spans))) held_of_standing
      ∙ ap (λ (ss : List Span). length (filter (spans_all low high) spans) + length ss) (passed_of_standing from to g h)
      ∙ ap (λ k. k + length (filter (stands_in f) (filter (meets from to) (left_over low high spans)))) (sym (length-map (filter (spans_all low high) spans) seq_of))
      ∙ ap (λ k. length (held low high spans) + k) (sym (length-map (filter (stands_in f) (filter (meets from to) (left_over low high spans))) seq_of))

  leaf_held : high - low ≤ 1 → held low high spans ≡ seqs_in f spans
  leaf_held one = ap (λ (ss : List Span). map seq_of ss) (same_filter (spans_all low high) (stands_in f) (λ s. leaf_stands f low high s l m one) spans)

-- ---- so the newest on the way is the newest of the fragment, and what the nodes hold is as many as it has

module _ (f at : ℕ) where
  abbrev IsNewest : ℕ → Type 0
  IsNewest depth = (low high : ℕ) (spans : List Span) → low ≤ f → f < high → high - low ≤ depth → SpansDescend spans → newest_of_all at (on_the_way depth low high f spans) ≡ newest_at_or_below at (seqs_in f spans)

  newest_down : (depth low high : ℕ) (spans : List Span) (b : Bool) → ltb f (middle low high) ≡ b → low ≤ f → f < high → 1 < high - low → high - low ≤ suc depth → SpansDescend spans → IsNewest depth →
      newer (newest_at_or_below at (held low high spans)) (newest_of_all at (cond b (on_the_way depth low (middle low high) f (first_half low high spans)) (on_the_way depth (middle low high) high f (second_half low high spans))))
      ≡ newest_at_or_below at (seqs_in f spans)
  newest_down depth low high spans true e l m fork le falls rest =
      let h : AreHalves low (middle low high) high = halves low high fork in
      let lt : f < middle low high = below_from f (middle low high) e in
      ap (newer (newest_at_or_below at (held low high spans)))
      (rest low (middle low high) (first_half low high spans) l lt (omega (arith, h.more, le)) (descend-filter (meets low (middle low high)) (left_over low high spans) (descend-filter (λ s. not (spans_all low high s)) spans falls)))
      ∙ sym (newest_here f low high l m spans at falls low (middle low high) l lt)
  newest_down depth low high spans false e l m fork le falls rest =
      let h : AreHalves low (middle low high) high = halves low high fork in
      let ge : middle low high ≤ f = not_below_from f (middle low high) e in
      ap (newer (newest_at_or_below at (held low high spans)))
      (rest (middle low high) high (second_half low high spans) ge m (omega (arith, h.some, le)) (descend-filter (meets (middle low high) high) (left_over low high spans) (descend-filter (λ s. not (spans_all low high s)) spans falls)))
      ∙ sym (newest_here f low high l m spans at falls (middle low high) high ge m)

  newest_by : (depth low high : ℕ) (spans : List Span) (b : Bool) → is_leaf low high ≡ b → low ≤ f → f < high → high - low ≤ suc depth → SpansDescend spans → IsNewest depth →
      newest_of_all at (held low high spans ∷ cond b [] (cond (ltb f (middle low high)) (on_the_way depth low (middle low high) f (first_half low high spans)) (on_the_way depth (middle low high) high f (second_half low high spans))))
      ≡ newest_at_or_below at (seqs_in f spans)
  newest_by depth low high spans true e l m le falls rest =
      newer_none (newest_at_or_below at (held low high spans))
      ∙ ap (λ (seqs : List ℕ). newest_at_or_below at seqs) (leaf_held f low high l m spans (leaf_from low high e))
  newest_by depth low high spans false e l m le falls rest = newest_down depth low high spans (ltb f (middle low high)) refl l m (fork_from low high e) le falls rest

  pub newest_on_the_way : (depth : ℕ) → IsNewest depth
  newest_on_the_way zero low high spans l m le falls = absurd (omega (arith, l, m, le))
  newest_on_the_way (suc depth) low high spans l m le falls = newest_by depth low high spans (is_leaf low high) refl l m le falls (newest_on_the_way depth)

pub newest_held : (f at fragments : ℕ) (spans : List Span) → f < fragments → SpansDescend spans → newest_of_all at (held_over fragments f (nodes fragments 0 fragments spans)) ≡ newest_at_or_below at (seqs_in f spans)
newest_held f at fragments spans l falls =
    ap (λ (xss : List (List ℕ)). newest_of_all at xss) (held_on_the_way f fragments spans (omega (arith, l)))
    ∙ newest_on_the_way f at fragments 0 fragments spans (omega arith) l (omega arith) falls

held_again : (a b c most sum : ℕ) → sum ≡ min (a + b) most → min (sum + c) most ≡ min (a + (b + c)) most
held_again a b c most sum e = omega (arith, e)

-- ---- and what they hold together is as many as it has

abbrev pub many_in : List (List ℕ) → ℕ
many_in lists = sum_by (λ (seqs : List ℕ). length seqs) lists

module _ (f : ℕ) where
  abbrev IsCount : ℕ → Type 0
  IsCount depth = (low high : ℕ) (spans : List Span) → low ≤ f → f < high → high - low ≤ depth → many_in (on_the_way depth low high f spans) ≡ length (seqs_in f spans)

  count_down : (depth low high : ℕ) (spans : List Span) (b : Bool) → ltb f (middle low high) ≡ b → low ≤ f → f < high → 1 < high - low → high - low ≤ suc depth → IsCount depth →
      length (held low high spans) + many_in (cond b (on_the_way depth low (middle low high) f (first_half low high spans)) (on_the_way depth (middle low high) high f (second_half low high spans)))
      ≡ length (seqs_in f spans)
  count_down depth low high spans true e l m fork le rest =
      let h : AreHalves low (middle low high) high = halves low high fork in
      let lt : f < middle low high = below_from f (middle low high) e in
      ap (λ k. length (held low high spans) + k) (rest low (middle low high) (first_half low high spans) l lt (omega (arith, h.more, le)))
      ∙ sym (count_here f low high l m spans low (middle low high) l lt)
  count_down depth low high spans false e l m fork le rest =
      let h : AreHalves low (middle low high) high = halves low high fork in
      let ge : middle low high ≤ f = not_below_from f (middle low high) e in
      ap (λ k. length (held low high spans) + k) (rest (middle low high) high (second_half low high spans) ge m (omega (arith, h.some, le)))
      ∙ sym (count_here f low high l m spans (middle low high) high ge m)

  count_by : (depth low high : ℕ) (spans : List Span) (b : Bool) → is_leaf low high ≡ b → low ≤ f → f < high → high - low ≤ suc depth → IsCount depth →
      many_in (held low high spans ∷ cond b [] (cond (ltb f (middle low high)) (on_the_way depth low (middle low high) f (first_half low high spans)) (on_the_way depth (middle low high) high f (second_half low high spans))))
      ≡ length (seqs_in f spans)
  count_by depth low high spans true e l m le rest =
      let one : many_in (held low high spans ∷ []) ≡ length (held low high spans) + many_in [] = sum_by-cons (λ (seqs : List ℕ). length seqs) (held low high spans) [] in
      let none : length (held low high spans) + many_in [] ≡ length (held low high spans) = omega arith in
      one ∙ none ∙ ap (λ (seqs : List ℕ). length seqs) (leaf_held f low high l m spans (leaf_from low high e))
  count_by depth low high spans false e l m le rest =
      sum_by-cons (λ (seqs : List ℕ). length seqs) (held low high spans) (cond (ltb f (middle low high)) (on_the_way depth low (middle low high) f (first_half low high spans)) (on_the_way depth (middle low high) high f (second_half low high spans)))
      ∙ count_down depth low high spans (ltb f (middle low high)) refl l m (fork_from low high e) le rest

  count_on_the_way : (depth : ℕ) → IsCount depth
  count_on_the_way zero low high spans l m le = absurd (omega (arith, l, m, le))
  count_on_the_way (suc depth) low high spans l m le = count_by depth low high spans (is_leaf low high) refl l m le (count_on_the_way depth)

pub count_held : (f fragments : ℕ) (spans : List Span) → f < fragments → many_in (held_over fragments f (nodes fragments 0 fragments spans)) ≡ length (seqs_in f spans)
count_held f fragments spans l =
    ap (λ (xss : List (List ℕ)). many_in xss) (held_on_the_way f fragments spans (omega (arith, l)))
    ∙ count_on_the_way f fragments 0 fragments spans (omega arith) l (omega arith)

-- ---- a walk down from the root

-- the numbers of the nodes over a fragment below a node
abbrev below : ℕ → ℕ → Node → List ℕ
below depth f n = cond (is_leaf n.low n.high) [] (nodes_over depth f (half f n))

-- where a walk stands: on a node over the fragment, with what is known of the lists of those below it
pub record Walks (f fragments : ℕ) (lists : List (List ℕ)) (n : Node) (Knows : List (List ℕ) → Type 0) : Type 0 where
  pub depth : ℕ
  pub from : n.low ≤ f
  pub to : f < n.high
  pub room : n.number + 2 * (n.high - n.low) ≤ 2 * fragments
  pub enough : n.high - n.low ≤ suc depth
  pub knows : Knows (map (list_at lists) (below depth f n))

walk_root : (f fragments : ℕ) (lists : List (List ℕ)) (Knows : List (List ℕ) → Type 0) → f < fragments → ((rest : List (List ℕ)) → held_over fragments f lists ≡ list_at lists 0 ∷ rest → Knows rest) → Walks f fragments lists (root fragments) Knows
walk_root f zero lists Knows l first = absurd (omega (arith, l))
walk_root f (suc depth) lists Knows l first = record {
  depth = depth;
  from = omega arith;
  to = l;
  room = omega arith;
  enough = omega arith;
  knows = first (map (list_at lists) (below depth f (root (suc depth)))) refl;
}

pub walk_starts : (f fragments : ℕ) (lists : List (List ℕ)) (n : Node) (Knows : List (List ℕ) → Type 0) → f < fragments → n ≡ root fragments → ((rest : List (List ℕ)) → held_over fragments f lists ≡ list_at lists n.number ∷ rest → Knows rest) → Walks f fragments lists n Knows
walk_starts f fragments lists n Knows l e first =
    subst (λ (m : Node). Walks f fragments lists m Knows) (sym e)
    (walk_root f fragments lists Knows l (λ rest h. first rest (h ∙ ap (λ (m : Node). list_at lists m.number ∷ rest) (sym e))))

-- the half of a node lies within it
pub record IsHalf (f : ℕ) (n h : Node) : Type 0 where
  pub from : h.low ≤ f
  pub to : f < h.high
  pub less : h.high - h.low < n.high - n.low
  pub number : n.number < h.number
  pub room : h.number + 2 * (h.high - h.low) ≤ n.number + 2 * (n.high - n.low)

half_by : (f : ℕ) (n : Node) (b : Bool) → ltb f (middle n.low n.high) ≡ b → 1 < n.high - n.low → n.low ≤ f → f < n.high →
    IsHalf f n (cond b (record { number = n.number + 1; low = n.low; high = middle n.low n.high }) (record { number = n.number + 2 * (middle n.low n.high - n.low); low = middle n.low n.high; high = n.high }))
half_by f n true e l from to =
    let h : AreHalves n.low (middle n.low n.high) n.high = halves n.low n.high l in
    record {
      from = from;
      to = below_from f (middle n.low n.high) e;
      less = omega (arith, h.some, h.more);
      number = omega arith;
      room = omega (arith, h.some, h.more);
    }
half_by f n false e l from to =
    let h : AreHalves n.low (middle n.low n.high) n.high = halves n.low n.high l in
    record {
      from = not_below_from f (middle n.low n.high) e;
      to = to;
      less = omega (arith, h.some, h.more);
      number = omega (arith, h.some);
      room = omega (arith, h.some, h.more);
    }

pub half_within : (f : ℕ) (n : Node) → 1 < n.high - n.low → n.low ≤ f → f < n.high → IsHalf f n (half f n)
half_within f n l from to = half_by f n (ltb f (middle n.low n.high)) refl l from to

walk_half : (f fragments : ℕ) (lists : List (List ℕ)) (n : Node) (Knows Next : List (List ℕ) → Type 0) (depth : ℕ) → is_leaf n.low n.high ≡ false → n.low ≤ f → f < n.high → n.number + 2 * (n.high - n.low) ≤ 2 * fragments → n.high - n.low ≤ suc depth →
    Knows (map (list_at lists) (below depth f n)) → ((rest : List (List ℕ)) → Knows (list_at lists (half f n).number ∷ rest) → Next rest) →
    Walks f fragments lists (half f n) Next
walk_half f fragments lists n Knows Next zero e from to room enough knows step =
    let fork : 1 < n.high - n.low = fork_from n.low n.high e in
    absurd (omega (arith, fork, enough))
walk_half f fragments lists n Knows Next (suc depth) e from to room enough knows step =
    let h : IsHalf f n (half f n) = half_within f n (fork_from n.low n.high e) from to in
    record {
      depth = depth;
      from = h.from;
      to = h.to;
      room = omega (arith, h.room, room);
      enough = omega (arith, h.less, enough);
      knows = step (map (list_at lists) (below depth f (half f n))) (subst (λ b. Knows (map (list_at lists) (cond b [] (nodes_over (suc depth) f (half f n))))) e knows);
    }

pub walk_goes_on : (f fragments : ℕ) (lists : List (List ℕ)) (n next : Node) (Knows Next : List (List ℕ) → Type 0) → Walks f fragments lists n Knows → is_leaf n.low n.high ≡ false → next ≡ half f n → ((rest : List (List ℕ)) → Knows (list_at lists next.number ∷ rest) → Next rest) → Walks f fragments lists next Next
walk_goes_on f fragments lists n next Knows Next w e h step =
    subst (λ (m : Node). Walks f fragments lists m Next) (sym h)
    (walk_half f fragments lists n Knows Next w.depth e w.from w.to w.room w.enough w.knows (λ rest k. step rest (subst (λ (m : Node). Knows (list_at lists m.number ∷ rest)) (sym h) k)))

pub walk_ends : (f fragments : ℕ) (lists : List (List ℕ)) (n : Node) (Knows : List (List ℕ) → Type 0) → Walks f fragments lists n Knows → is_leaf n.low n.high ≡ true → Knows []
walk_ends f fragments lists n Knows w e = subst (λ b. Knows (map (list_at lists) (cond b [] (nodes_over w.depth f (half f n))))) e w.knows

-- ---- a walk that looks for the newest, and one that counts

small_sum : (count : ℕ) → count < 2 ^ 64 → count ≡ min (count + many_in []) (2 ^ 64 - 1)
small_sum count l = omega (arith, l)

module _ (f at fragments : ℕ) (lists : List (List ℕ)) where
  -- the newest so far and the newest of the lists to come are the newest of all
  abbrev pub HasNewest : Option ℕ → List (List ℕ) → Type 0
  HasNewest best rest = newer best (newest_of_all at rest) ≡ newest_of_all at (held_over fragments f lists)

  pub newest_starts : (n : Node) (best : Option ℕ) → f < fragments → n ≡ root fragments → best ≡ newest_at_or_below at (list_at lists n.number) → Walks f fragments lists n (HasNewest best)
  newest_starts n best l e g =
      walk_starts f fragments lists n (HasNewest best) l e
      (λ rest h. ap (λ (b : Option ℕ). newer b (newest_of_all at rest)) g ∙ sym (ap (λ (xss : List (List ℕ)). newest_of_all at xss) h))

  pub newest_goes_on : (n next : Node) (best later : Option ℕ) → Walks f fragments lists n (HasNewest best) → is_leaf n.low n.high ≡ false → next ≡ half f n → later ≡ newer best (newest_at_or_below at (list_at lists next.number)) → Walks f fragments lists next (HasNewest later)
  newest_goes_on n next best later w e h g =
      walk_goes_on f fragments lists n next (HasNewest best) (HasNewest later) w e h
      (λ rest k. ap (λ (b : Option ℕ). newer b (newest_of_all at rest)) g ∙ newer_assoc best (newest_at_or_below at (list_at lists next.number)) (newest_of_all at rest) ∙ k)

  pub newest_ends : (n : Node) (best : Option ℕ) → Walks f fragments lists n (HasNewest best) → is_leaf n.low n.high ≡ true → best ≡ newest_of_all at (held_over fragments f lists)
  newest_ends n best w e = sym (newer_none best) ∙ walk_ends f fragments lists n (HasNewest best) w e

module _ (f fragments : ℕ) (lists : List (List ℕ)) where
  -- the count so far and that of the lists to come are the count of all, held at the greatest number
  abbrev pub HasCount : ℕ → List (List ℕ) → Type 0
  HasCount count rest = (count < 2 ^ 64) × (min (count + many_in rest) (2 ^ 64 - 1) ≡ min (many_in (held_over fragments f lists)) (2 ^ 64 - 1))

  pub count_starts : (n : Node) (count : ℕ) → f < fragments → n ≡ root fragments → count < 2 ^ 64 → count ≡ length (list_at lists n.number) → Walks f fragments lists n (HasCount count)
  count_starts n count l e small g =
      walk_starts f fragments lists n (HasCount count) l e
      (λ rest h.
      let sum : many_in (list_at lists n.number ∷ rest) ≡ length (list_at lists n.number) + many_in rest = sum_by-cons (λ (seqs : List ℕ). length seqs) (list_at lists n.number) rest in
      let all : many_in (held_over fragments f lists) ≡ many_in (list_at lists n.number ∷ rest) = ap (λ (xss : List (List ℕ)). many_in xss) h in
      (small, ap (λ k. min k (2 ^ 64 - 1)) (ap (λ k. k + many_in rest) g ∙ sym sum ∙ sym all)))

  pub count_goes_on : (n next : Node) (count later : ℕ) → Walks f fragments lists n (HasCount count) → is_leaf n.low n.high ≡ false → next ≡ half f n → later ≡ min (count + length (list_at lists next.number)) (2 ^ 64 - 1) → Walks f fragments lists next (HasCount later)
  count_goes_on n next count later w e h g =
      walk_goes_on f fragments lists n next (HasCount count) (HasCount later) w e h
      (λ rest k.
      let sum : many_in (list_at lists next.number ∷ rest) ≡ length (list_at lists next.number) + many_in rest = sum_by-cons (λ (seqs : List ℕ). length seqs) (list_at lists next.number) rest in
      let held : min (later + many_in rest) (2 ^ 64 - 1) ≡ min (count + (length (list_at lists next.number) + many_in rest)) (2 ^ 64 - 1) = held_again count (length (list_at lists next.number)) (many_in rest) (2 ^ 64 - 1) later g in
      (omega (arith, g), held ∙ ap (λ m. min (count + m) (2 ^ 64 - 1)) (sym sum) ∙ k.1))

  pub count_ends : (n : Node) (count : ℕ) → Walks f fragments lists n (HasCount count) → is_leaf n.low n.high ≡ true → count ≡ min (many_in (held_over fragments f lists)) (2 ^ 64 - 1)
  count_ends n count w e =
      let ended : HasCount count [] = walk_ends f fragments lists n (HasCount count) w e in
      small_sum count (ended.0) ∙ ended.1

-- ---- what is pushed, node by node

pub pushed_leaf : (depth low high : ℕ) (spans : List Span) → low < high → high - low ≤ depth → high - low ≤ 1 → nodes depth low high spans ≡ held low high spans ∷ []
pushed_leaf zero low high spans l le one = absurd (omega (arith, l, le))
pushed_leaf (suc depth) low high spans l le one =
    let e : is_leaf low high ≡ true = grind (arith, nat_tests) in
    ap (λ b. held low high spans ∷ cond b [] (nodes depth low (middle low high) (first_half low high spans) ++ nodes depth (middle low high) high (second_half low high spans))) e

pushed_fork : (depth low high : ℕ) (spans : List Span) → 1 < high - low → nodes (suc depth) low high spans ≡ held low high spans ∷ (nodes depth low (middle low high) (first_half low high spans) ++ nodes depth (middle low high) high (second_half low high spans))
pushed_fork depth low high spans l =
    let e : is_leaf low high ≡ false = grind (arith, nat_tests) in
    ap (λ b. held low high spans ∷ cond b [] (nodes depth low (middle low high) (first_half low high spans) ++ nodes depth (middle low high) high (second_half low high spans))) e

-- the lists after those of a node, of its first half and of its second half
pub all_pushed : (low high : ℕ) (spans firsts seconds : List Span) (old here left right : List (List ℕ)) → 1 < high - low →
    firsts ≡ first_half low high spans → seconds ≡ second_half low high spans →
    here ≡ old ++ held low high spans ∷ [] →
    ((depth : ℕ) → middle low high - low ≤ depth → left ≡ here ++ nodes depth low (middle low high) firsts) →
    ((depth : ℕ) → high - middle low high ≤ depth → right ≡ left ++ nodes depth (middle low high) high seconds) →
    (depth : ℕ) → high - low ≤ depth → right ≡ old ++ nodes depth low high spans
all_pushed low high spans firsts seconds old here left right l e g put put_left put_right zero le = absurd (omega (arith, l, le))
all_pushed low high spans firsts seconds old here left right l e g put put_left put_right (suc depth) le =
    let h : AreHalves low (middle low high) high = halves low high l in
    let first : List (List ℕ) = nodes depth low (middle low high) (first_half low high spans) in
    let second : List (List ℕ) = nodes depth (middle low high) high (second_half low high spans) in
    put_right depth (omega (arith, h.some, h.more, le))
    ∙ ap (λ (ss : List Span). left ++ nodes depth (middle low high) high ss) g
    ∙ ap (λ (xs : List (List ℕ)). xs ++ second) (put_left depth (omega (arith, h.some, h.more, le)))
    ∙ ap (λ (ss : List Span). (here ++ nodes depth low (middle low high) ss) ++ second) e
    ∙ ap (λ (xs : List (List ℕ)). (xs ++ first) ++ second) put
    ∙ append_assoc (old ++ held low high spans ∷ []) first second
    ∙ append_assoc old (held low high spans ∷ []) (first ++ second)
    ∙ sym (ap (λ (xs : List (List ℕ)). old ++ xs) (pushed_fork depth low high spans l))

-- the same, where the middle is one that was computed
pub all_pushed_at : (low high mid : ℕ) (spans firsts seconds : List Span) (old here left right : List (List ℕ)) → mid ≡ middle low high → 1 < high - low →
    firsts ≡ first_half low high spans → seconds ≡ second_half low high spans →
    here ≡ old ++ held low high spans ∷ [] →
    ((depth : ℕ) → mid - low ≤ depth → left ≡ here ++ nodes depth low mid firsts) →
    ((depth : ℕ) → high - mid ≤ depth → right ≡ left ++ nodes depth mid high seconds) →
    (depth : ℕ) → high - low ≤ depth → right ≡ old ++ nodes depth low high spans
all_pushed_at low high mid spans firsts seconds old here left right same l e g put put_left put_right =
    all_pushed low high spans firsts seconds old here left right l e g put
    (subst (λ m. (depth : ℕ) → m - low ≤ depth → left ≡ here ++ nodes depth low m firsts) same put_left)
    (subst (λ m. (depth : ℕ) → high - m ≤ depth → right ≡ left ++ nodes depth m high seconds) same put_right)

-- ---- the nodes of spans over fragments, as a list of them that is there

pub fragment_below : (count f : ℕ) (lists : List (List ℕ)) → f < length lists → length lists ≡ count → f < count
fragment_below count f lists l e = omega (arith, l, e)

pub all_nodes : (count : ℕ) (spans : List Span) (lists : List (List ℕ)) → 0 < count → lists ≡ nodes count 0 count spans → length lists + 1 ≡ 2 * count
all_nodes count spans lists l e =
    let n : length (nodes count 0 count spans) + 1 ≡ 2 * (count - 0) = length-nodes count 0 count spans l (omega arith) in
    let g : length lists ≡ length (nodes count 0 count spans) = ap (λ (xss : List (List ℕ)). length xss) e in
    omega (arith, n, g)
