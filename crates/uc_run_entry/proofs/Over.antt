-- The sequences over a key: those of the fragments that cover it, and those of the ranges that do.
use Rattle.std.proofs.Common.{◌≡◌, ℕ, Bool, true, false, cond, List, [], ◌∷◌, filter, ◌⊎◌, inl, inr, refl, sym, ap, ◌∙◌}
use Rattle.std.specs.Prelude.{◌&&◌}
use Rattle.std.specs.List.{AllByRecursion}
use Rattle.std.specs.List.Sorted.{IsStrictlySortedBy}
use Rattle.std.specs.declared.cmp.Ordering.{Ordering}
use Rattle.std.specs.declared.cmp.Ordering.TheVariants.{Less, Equal, Greater}
use Rattle.std.specs.Ordering.{is_lt, is_le, ordering_reverse}
use Rattle.std.proofs.lemmas.Bool.{false≢true}
use Rattle.std.proofs.lemmas.Cmp.{nat_list_cmp_total, tied_itself}
use Rattle.std.specs.BTreeMap.Comparable.{le_lt_trans}
use Rattle.std.proofs.lemmas.Map.Lookups.{exact_bytes}
use Rattle.uc_bytes.specs.Bytes.{bytes_cmp}
use Rattle.uc_run_entry.specs.Cutting.{Piece, pieces}

module _ (key : List ℕ) where
  -- the key stands in a piece
  abbrev pub is_in : Piece → Bool
  is_in p = is_le (bytes_cmp p.0 key) && is_lt (bytes_cmp key p.1)

  -- a cut is at or before the key, or after it
  abbrev pub IsAtOrBefore : List ℕ → Type 0
  IsAtOrBefore c = is_le (bytes_cmp c key) ≡ true

  abbrev pub IsBehind : List ℕ → Type 0
  IsBehind c = is_lt (bytes_cmp key c) ≡ true

  -- The piece that a key stands in: no cut lies between its ends.
  pub record Around (cuts : List (List ℕ)) (p : Piece) : Type 0 where
    pub only : filter is_in (pieces cuts) ≡ p ∷ []
    pub before : AllByRecursion (λ c. IsAtOrBefore c → is_le (bytes_cmp c p.0) ≡ true) cuts
    pub behind : AllByRecursion (λ c. IsBehind c → is_le (bytes_cmp p.1 c) ≡ true) cuts

  abbrev Sorted : List (List ℕ) → Type 0
  Sorted cuts = IsStrictlySortedBy bytes_cmp cuts

  -- ---- the order of byte strings

  pub lt_of : (x y : List ℕ) → is_lt (bytes_cmp x y) ≡ true → bytes_cmp x y ≡ Less
  lt_of x y e = by (bytes_cmp x y) e
    where
      by : (o : Ordering) → is_lt o ≡ true → o ≡ Less
      by Less e = refl
      by Equal e = absurd (false≢true e)
      by Greater e = absurd (false≢true e)

  no_less_itself : (x : List ℕ) → bytes_cmp x x ≡ Less → ⊥
  no_less_itself x e = let t = tied_itself nat_list_cmp_total x in cc

  pub le_lt : (x y z : List ℕ) → is_le (bytes_cmp x y) ≡ true → bytes_cmp y z ≡ Less → bytes_cmp x z ≡ Less
  le_lt x y z le lt = le_lt_trans nat_list_cmp_total x y z le lt

  pub lt_le : (x y z : List ℕ) → bytes_cmp x y ≡ Less → (o : Ordering) → bytes_cmp y z ≡ o → is_le o ≡ true → bytes_cmp x z ≡ Less
  lt_le x y z lt Less e le = nat_list_cmp_total.trans x y z lt e
  lt_le x y z lt Equal e le = sym (ap (λ (w : List ℕ). bytes_cmp x w) (exact_bytes y z e)) ∙ lt
  lt_le x y z lt Greater e le = absurd (false≢true le)

  -- a cut isn't on both sides of the key
  pub one_side : (c : List ℕ) → IsAtOrBefore c → IsBehind c → ⊥
  one_side c at behind = no_less_itself key (lt_le key c key (lt_of key c behind) (bytes_cmp c key) refl at)

  -- and it is on one
  data_side : (c : List ℕ) (o : Ordering) → bytes_cmp c key ≡ o → IsAtOrBefore c ⊎ IsBehind c
  data_side c Less e = inl (ap is_le e)
  data_side c Equal e = inl (ap is_le e)
  data_side c Greater e = inr (ap is_lt (nat_list_cmp_total.antisymm key c ∙ ap ordering_reverse e))

  side : (c : List ℕ) → IsAtOrBefore c ⊎ IsBehind c
  side c = data_side c (bytes_cmp c key) refl

  behind_all : (c : List ℕ) (cs : List (List ℕ)) → IsBehind c → AllByRecursion (λ d. bytes_cmp c d ≡ Less) cs → AllByRecursion IsBehind cs
  behind_all c [] b h = tt
  behind_all c (d ∷ ds) b h = (ap is_lt (nat_list_cmp_total.trans key c d (lt_of key c b) h.0), behind_all c ds b h.1)

  -- ---- pieces

  -- the key is in no piece that begins after it
  not_in_behind : (p : Piece) → IsBehind p.0 → is_in p ≡ false
  not_in_behind p behind = no (is_le (bytes_cmp p.0 key)) refl
    where
      no : (b : Bool) → is_le (bytes_cmp p.0 key) ≡ b → (b && is_lt (bytes_cmp key p.1)) ≡ false
      no true e = absurd (one_side p.0 e behind)
      no false e = refl

  -- nor in one that ends at or before it
  not_in_before : (p : Piece) → IsAtOrBefore p.1 → is_in p ≡ false
  not_in_before p at = no (is_le (bytes_cmp p.0 key)) (is_lt (bytes_cmp key p.1)) refl
    where
      no : (a b : Bool) → is_lt (bytes_cmp key p.1) ≡ b → (a && b) ≡ false
      no a true e = absurd (one_side p.1 at e)
      no true false e = refl
      no false false e = refl

  in_none_behind : (cuts : List (List ℕ)) → AllByRecursion IsBehind cuts → filter is_in (pieces cuts) ≡ []
  in_none_behind [] h = refl
  in_none_behind (c ∷ []) h = refl
  in_none_behind (c ∷ d ∷ cs) h = ap (λ b. cond b ((c, d) ∷ filter is_in (pieces (d ∷ cs))) (filter is_in (pieces (d ∷ cs)))) (not_in_behind (c, d) h.0) ∙ in_none_behind (d ∷ cs) h.1

  -- the key is in no piece: all cuts are on one side of it
  pub record Outside (cuts : List (List ℕ)) : Type 0 where
    pub none : filter is_in (pieces cuts) ≡ []
    pub sides : AllByRecursion IsBehind cuts ⊎ AllByRecursion IsAtOrBefore cuts

  le_itself : (c : List ℕ) → is_le (bytes_cmp c c) ≡ true
  le_itself c = ap is_le (tied_itself nat_list_cmp_total c)

  le_of : (x y : List ℕ) → bytes_cmp x y ≡ Less → is_le (bytes_cmp x y) ≡ true
  le_of x y e = ap is_le e

  absurd_before : (p : List ℕ) (cs : List (List ℕ)) → AllByRecursion IsBehind cs → AllByRecursion (λ c. IsAtOrBefore c → is_le (bytes_cmp c p) ≡ true) cs
  absurd_before p [] h = tt
  absurd_before p (c ∷ cs) h = ((λ at. absurd (one_side c at h.0)), absurd_before p cs h.1)

  behind_from : (d : List ℕ) (cs : List (List ℕ)) → AllByRecursion (λ c. bytes_cmp d c ≡ Less) cs → AllByRecursion (λ c. IsBehind c → is_le (bytes_cmp d c) ≡ true) cs
  behind_from d [] h = tt
  behind_from d (c ∷ cs) h = ((λ _. le_of d c h.0), behind_from d cs h.1)

  -- between c, at or before the key, and d, after it
  between : (c d : List ℕ) (cs : List (List ℕ)) → Sorted (c ∷ d ∷ cs) → IsAtOrBefore c → IsBehind d → Around (c ∷ d ∷ cs) (c, d)
  unfolding IsStrictlySortedBy
  between c d cs sorted at behind =
      let all : AllByRecursion IsBehind (d ∷ cs) = (behind, behind_all d cs behind sorted.1.0) in
      record {
        only = in_first (is_le (bytes_cmp c key)) (is_lt (bytes_cmp key d)) at behind (in_none_behind (d ∷ cs) all);
        before = ((λ _. le_itself c), absurd_before c (d ∷ cs) all);
        behind = ((λ b. absurd (one_side c at b)), ((λ _. le_itself d), behind_from d cs sorted.1.0));
      }
    where
      in_first : (a b : Bool) → a ≡ true → b ≡ true → filter is_in (pieces (d ∷ cs)) ≡ [] → cond (a && b) ((c, d) ∷ filter is_in (pieces (d ∷ cs))) (filter is_in (pieces (d ∷ cs))) ≡ (c, d) ∷ []
      in_first true true e f none = ap (λ (ps : List Piece). (c, d) ∷ ps) none
      in_first true false e f none = absurd (false≢true f)
      in_first false b e f none = absurd (false≢true e)

  -- one more cut in front, of which the next is at or before the key too
  in_front : (c d : List ℕ) (cs : List (List ℕ)) (p : Piece) → Sorted (c ∷ d ∷ cs) → IsAtOrBefore d → Around (d ∷ cs) p → Around (c ∷ d ∷ cs) p
  unfolding IsStrictlySortedBy
  in_front c d cs p sorted at around = record {
    only = ap (λ b. cond b ((c, d) ∷ filter is_in (pieces (d ∷ cs))) (filter is_in (pieces (d ∷ cs)))) (not_in_before (c, d) at) ∙ around.only;
    before = ((λ _. le_of c p.0 (lt_le c d p.0 sorted.0.0 (bytes_cmp d p.0) refl (around.before.0 at))), around.before);
    behind = ((λ b. absurd (one_side d at (ap is_lt (nat_list_cmp_total.trans key c d (lt_of key c b) sorted.0.0)))), around.behind);
  }

  -- where the key stands
  pub stands : (cuts : List (List ℕ)) → Sorted cuts → ((p : Piece) × Around cuts p) ⊎ Outside cuts
  unfolding IsStrictlySortedBy
  stands [] sorted = inr (record { none = refl; sides = inl tt })
  stands (c ∷ []) sorted = one (side c)
    where
      one : IsAtOrBefore c ⊎ IsBehind c → ((p : Piece) × Around (c ∷ []) p) ⊎ Outside (c ∷ [])
      one (inl at) = inr (record { none = refl; sides = inr (at, tt) })
      one (inr b) = inr (record { none = refl; sides = inl (b, tt) })
  stands (c ∷ d ∷ cs) sorted = by (side c) (side d) (stands (d ∷ cs) sorted.1)
    where
      by : IsAtOrBefore c ⊎ IsBehind c → IsAtOrBefore d ⊎ IsBehind d → ((p : Piece) × Around (d ∷ cs) p) ⊎ Outside (d ∷ cs) → ((p : Piece) × Around (c ∷ d ∷ cs) p) ⊎ Outside (c ∷ d ∷ cs)
      by (inr b) e rest = inr (let all : AllByRecursion IsBehind (c ∷ d ∷ cs) = (b, behind_all c (d ∷ cs) b (sorted.0)) in record { none = in_none_behind (c ∷ d ∷ cs) all; sides = inl all })
      by (inl at) (inr b) rest = inl ((c, d), between c d cs sorted at b)
      by (inl at) (inl e) (inl around) = inl (around.0, in_front c d cs around.0 sorted e around.1)
      by (inl at) (inl e) (inr outside) = inr (record { none = ap (λ b. cond b ((c, d) ∷ filter is_in (pieces (d ∷ cs))) (filter is_in (pieces (d ∷ cs)))) (not_in_before (c, d) e) ∙ outside.none; sides = both outside.sides })
        where
          both : AllByRecursion IsBehind (d ∷ cs) ⊎ AllByRecursion IsAtOrBefore (d ∷ cs) → AllByRecursion IsBehind (c ∷ d ∷ cs) ⊎ AllByRecursion IsAtOrBefore (c ∷ d ∷ cs)
          both (inl b) = absurd (one_side d e b.0)
          both (inr a) = inr (at, a)
