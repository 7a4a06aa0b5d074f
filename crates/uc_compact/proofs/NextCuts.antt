-- The cut points, one after the other: each is the least above the one before it.
use Rattle.std.proofs.Common.{◌≡◌, ℕ, zero, suc, ◌+◌, ◌<◌, ◌≤◌, Bool, true, false, cond, ltb, List, [], ◌∷◌, ◌++◌, length, get_or, map, fold, filter, ◌⊎◌, inl, inr, refl, sym, ap, ◌∙◌, subst, arith}
use Rattle.std.specs.Prelude.{◌&&◌, not, Option, Some, None, MatchOption}
use Rattle.std.specs.List.{AllByRecursion, AllWithin, HoldsAt, flat_map}
use Rattle.std.specs.List.Sorted.{IsStrictlySortedBy}
use Rattle.std.specs.declared.cmp.Ordering.{Ordering}
use Rattle.std.specs.declared.cmp.Ordering.TheVariants.{Less, Equal, Greater}
use Rattle.std.specs.Ordering.{is_lt, is_le, ordering_reverse}
use Rattle.std.specs.BTreeSet.{insert_key}
use Rattle.std.proofs.lemmas.Bool.{false≢true}
use Rattle.std.proofs.lemmas.Bool.Decides.{nat_tests}
use Rattle.std.proofs.lemmas.Cmp.{nat_list_cmp_total, tied_itself}
use Rattle.std.proofs.lemmas.Grind.{flat_map-append}
use Rattle.std.proofs.lemmas.Map.Lookups.{exact_bytes}
use Rattle.uc_bytes.specs.Bytes.{bytes_cmp}
use Rattle.uc_run_entry.specs.Fragment.{Fragment}
use Rattle.uc_run_entry.specs.Cutting.{Piece, pieces}
use Rattle.uc_run_entry.specs.Order.{AreInOrder}
use Rattle.uc_run_entry.specs.Run.{Contents, covers}
use Rattle.uc_run_entry.proofs.Sets.{all_back, sorted_set}
use Rattle.uc_run_entry.proofs.SameSets.{all_inserted}
use Rattle.uc_compact.specs.Fronts.{EndBy, EndAbove, IsFirstAbove}
use Rattle.uc_compact.specs.Output.{seqs_kept}
use Rattle.uc_compact.specs.Pieces.{lists_over, fragments_in}
use Rattle.uc_compact.specs.Stripes.{Keeping}
use Rattle.uc_compact.specs.NextCut.{lesser, least_above, ends_of, ends_in}
use Rattle.uc_compact.proofs.Gathered.{more_fragments}
use Rattle.uc_compact.proofs.KeptPieces.{kept_of, kept_of_none, none_kept, piece_more}
use Rattle.uc_compact.proofs.Keys.{le_itself, lt_of, le_of_not, le_trans, le_of_lt, lt_le, no_less_itself}
use Rattle.uc_compact.proofs.NestedLists.{all-append, all-map, none-passed}
use denote.Ref.{Bor}

abbrev Keys : Type 0
Keys = List (List ℕ)

abbrev pub is_above : List ℕ → List ℕ → Bool
is_above key x = is_lt (bytes_cmp key x)

-- ---- the lesser of two keys

not_le : (x y : List ℕ) → is_le (bytes_cmp x y) ≡ false → is_le (bytes_cmp y x) ≡ true
not_le x y e = ap is_le (nat_list_cmp_total.antisymm y x) ∙ by (bytes_cmp x y) e
  where
    by : (o : Ordering) → is_le o ≡ false → is_le (ordering_reverse o) ≡ true
    by Less f = absurd (false≢true (sym f))
    by Equal f = absurd (false≢true (sym f))
    by Greater f = refl

-- neither is above the other: they are equal
same_key : (x y : List ℕ) → is_le (bytes_cmp x y) ≡ true → is_le (bytes_cmp y x) ≡ true → x ≡ y
same_key x y to back = by (bytes_cmp x y) refl to
  where
    by : (o : Ordering) → bytes_cmp x y ≡ o → is_le o ≡ true → x ≡ y
    by Less e f = absurd (no_less_itself x (lt_le x y x e back))
    by Equal e f = exact_bytes x y e
    by Greater e f = absurd (false≢true f)

assoc_by : (x y z : List ℕ) (a b c : Bool) → is_le (bytes_cmp x y) ≡ a → is_le (bytes_cmp y z) ≡ b → is_le (bytes_cmp x z) ≡ c →
    lesser (cond a (Some x) (Some y)) (Some z) ≡ lesser (Some x) (cond b (Some y) (Some z))
assoc_by x y z true true c e f g = ap (λ t. cond t (Some x) (Some z)) (le_trans x y z e f) ∙ ap (λ t. cond t (Some x) (Some y)) (sym e)
assoc_by x y z true false c e f g = refl
assoc_by x y z false true c e f g = ap (λ t. cond t (Some y) (Some z)) f ∙ ap (λ t. cond t (Some x) (Some y)) (sym e)
assoc_by x y z false false true e f g = absurd (false≢true (sym e ∙ le_trans x z y g (not_le y z f)))
assoc_by x y z false false false e f g = ap (λ t. cond t (Some y) (Some z)) f ∙ ap (λ t. cond t (Some x) (Some z)) (sym g)

pub lesser_assoc : (a b c : Option (List ℕ)) → lesser (lesser a b) c ≡ lesser a (lesser b c)
lesser_assoc None b c = refl
lesser_assoc (Some x) None c = refl
lesser_assoc (Some x) (Some y) None = none (is_le (bytes_cmp x y))
  where
    none : (b : Bool) → lesser (cond b (Some x) (Some y)) None ≡ cond b (Some x) (Some y)
    none true = refl
    none false = refl
lesser_assoc (Some x) (Some y) (Some z) = assoc_by x y z (is_le (bytes_cmp x y)) (is_le (bytes_cmp y z)) (is_le (bytes_cmp x z)) refl refl refl

lesser_first : (x : List ℕ) (o : Option (List ℕ)) → ((y : List ℕ) → o ≡ Some y → is_le (bytes_cmp x y) ≡ true) → lesser (Some x) o ≡ Some x
lesser_first x None h = refl
lesser_first x (Some y) h = ap (λ b. cond b (Some x) (Some y)) (h y refl)

-- ---- the least above a key

module _ (key : List ℕ) where
  abbrev least : Keys → Option (List ℕ)
  least xs = least_above key xs

  put_first : (x : List ℕ) (a b : Option (List ℕ)) (t : Bool) → cond t (lesser (Some x) (lesser a b)) (lesser a b) ≡ lesser (cond t (lesser (Some x) a) a) b
  put_first x a b true = sym (lesser_assoc (Some x) a b)
  put_first x a b false = refl

  pub least-append : (xs ys : Keys) → least_above key (xs ++ ys) ≡ lesser (least_above key xs) (least_above key ys)
  least-append [] ys = refl
  least-append (x ∷ xs) ys =
      ap (λ (o : Option (List ℕ)). cond (is_above key x) (lesser (Some x) o) o) (least-append xs ys)
      ∙ put_first x (least xs) (least ys) (is_above key x)

  -- it is one of those above
  found_by : (P : List ℕ → Type 0) (x e : List ℕ) (o : Option (List ℕ)) (c : Bool) → P x → (o ≡ Some e → P e) → (y : List ℕ) → o ≡ Some y → cond c (Some x) (Some y) ≡ Some e → P e
  found_by P x e o true p rest y is found = let same : x ≡ e = cc in subst P same p
  found_by P x e o false p rest y is found = rest (is ∙ found)

  found_lesser : (P : List ℕ → Type 0) (x e : List ℕ) (o : Option (List ℕ)) → P x → (o ≡ Some e → P e) → lesser (Some x) o ≡ Some e → P e
  found_lesser P x e None p rest found = let same : x ≡ e = cc in subst P same p
  found_lesser P x e (Some y) p rest found = found_by P x e (Some y) (is_le (bytes_cmp x y)) p rest y refl found

  found_first : (P : List ℕ → Type 0) (x e : List ℕ) (o : Option (List ℕ)) (b : Bool) → is_above key x ≡ b → (is_above key x ≡ true → P x) → (o ≡ Some e → P e) → cond b (lesser (Some x) o) o ≡ Some e → P e
  found_first P x e o true t p rest found = found_lesser P x e o (p t) rest found
  found_first P x e o false t p rest found = rest found

  pub least_found : (P : List ℕ → Type 0) (xs : Keys) (e : List ℕ) → least_above key xs ≡ Some e → AllByRecursion (λ x. is_above key x ≡ true → P x) xs → P e
  least_found P [] e found h = absurd cc
  least_found P (x ∷ xs) e found h = found_first P x e (least xs) (is_above key x) refl h.0 (λ is. least_found P xs e is h.1) found

  -- and the others above aren't below it; if there is none, there are no others
  abbrev IsFrom : Option (List ℕ) → List ℕ → Type 0
  IsFrom None x = ⊥
  IsFrom (Some e) x = is_le (bytes_cmp e x) ≡ true

  from_first : (x : List ℕ) (o : Option (List ℕ)) → IsFrom (lesser (Some x) o) x
  from_first x None = le_itself x
  from_first x (Some y) = by (is_le (bytes_cmp x y)) refl
    where
      by : (b : Bool) → is_le (bytes_cmp x y) ≡ b → IsFrom (cond b (Some x) (Some y)) x
      by true e = le_itself x
      by false e = not_le x y e

  from_rest : (x : List ℕ) (o : Option (List ℕ)) (z : List ℕ) → IsFrom o z → IsFrom (lesser (Some x) o) z
  from_rest x None z h = absurd h
  from_rest x (Some y) z h = by (is_le (bytes_cmp x y)) refl
    where
      by : (b : Bool) → is_le (bytes_cmp x y) ≡ b → IsFrom (cond b (Some x) (Some y)) z
      by true e = le_trans x y z e h
      by false e = h

  all_from_by : (x : List ℕ) (xs : Keys) (o : Option (List ℕ)) (b : Bool) → is_above key x ≡ b → AllByRecursion (λ z. is_above key z ≡ true → IsFrom o z) xs → AllByRecursion (λ z. is_above key z ≡ true → IsFrom (cond b (lesser (Some x) o) o) z) (x ∷ xs)
  all_from_by x xs o true e h = (
    (λ t. from_first x o),
    all-map (λ z. is_above key z ≡ true → IsFrom o z) (λ z. is_above key z ≡ true → IsFrom (lesser (Some x) o) z) (λ z f t. from_rest x o z (f t)) xs h,
  )
  all_from_by x xs o false e h = ((λ t. absurd (false≢true (sym e ∙ t))), h)

  all_from : (xs : Keys) → AllByRecursion (λ z. is_above key z ≡ true → IsFrom (least_above key xs) z) xs
  all_from [] = tt
  all_from (x ∷ xs) = all_from_by x xs (least xs) (is_above key x) refl (all_from xs)

-- ---- the cut points above a key

abbrev pub above : List ℕ → Keys → Keys
above key cuts = filter (λ x. is_above key x) cuts

abbrev inserted : Keys → Keys
inserted xs = fold (insert_key bytes_cmp) [] xs

-- all of runs
abbrev pub cuts_in : List Contents → Keys
cuts_in runs = fold (insert_key bytes_cmp) [] (ends_in runs)

all_passed : {X : Type 0} (test : X → Bool) (xs : List X) → AllByRecursion (λ x. test x ≡ true) xs → filter test xs ≡ xs
all_passed test [] h = refl
all_passed {X} test (x ∷ xs) h = ap (λ b. cond b (x ∷ filter test xs) (filter test xs)) h.0 ∙ ap (λ (ys : List X). x ∷ ys) (all_passed test xs h.1)

-- the cuts after a cut are above it, and above all that it is above of
behind_are_above : (c : List ℕ) (cuts : Keys) → AllByRecursion (λ x. bytes_cmp c x ≡ Less) cuts → above c cuts ≡ cuts
behind_are_above c cuts h = all_passed (λ x. is_above c x) cuts (all-map (λ x. bytes_cmp c x ≡ Less) (λ x. is_above c x ≡ true) (λ x e. ap is_lt e) cuts h)

lt_trans : (x y z : List ℕ) → bytes_cmp x y ≡ Less → bytes_cmp y z ≡ Less → bytes_cmp x z ≡ Less
lt_trans x y z e f = nat_list_cmp_total.trans x y z e f

not_above_above : (c key e : List ℕ) → is_above key c ≡ false → is_above key e ≡ true → (b : Bool) → is_above e c ≡ b → is_above e c ≡ false
not_above_above c key e low high true t = absurd (false≢true (sym low ∙ ap is_lt (lt_trans key e c (lt_of key e high) (lt_of e c t))))
not_above_above c key e low high false t = t

module _ (key e : List ℕ) (high : is_above key e ≡ true) where
  next_here : (c : List ℕ) (cuts : Keys) → is_above key c ≡ true → AllByRecursion (λ x. bytes_cmp c x ≡ Less) cuts → c ≡ e → above key (c ∷ cuts) ≡ e ∷ above e (c ∷ cuts)
  next_here c cuts t less same =
      let first : above key (c ∷ cuts) ≡ c ∷ cuts = all_passed (λ x. is_above key x) (c ∷ cuts) (t, all-map (λ x. bytes_cmp c x ≡ Less) (λ x. is_above key x ≡ true) (λ x f. ap is_lt (lt_trans key c x (lt_of key c t) f)) cuts less) in
      let rest : above c (c ∷ cuts) ≡ cuts = ap (λ b. cond b (c ∷ above c cuts) (above c cuts)) (ap is_lt (tied_itself nat_list_cmp_total c)) ∙ behind_are_above c cuts less in
      first ∙ ap (λ (xs : Keys). c ∷ xs) (sym rest) ∙ ap (λ (x : List ℕ). x ∷ above x (c ∷ cuts)) same

  next_by : (c : List ℕ) (cuts : Keys) (b : Bool) → is_above key c ≡ b → AllByRecursion (λ x. bytes_cmp c x ≡ Less) cuts →
      (is_above key c ≡ true → is_le (bytes_cmp e c) ≡ true) → ((P : List ℕ → Type 0) → AllByRecursion (λ x. is_above key x ≡ true → P x) (c ∷ cuts) → P e) →
      (((P : List ℕ → Type 0) → AllByRecursion (λ x. is_above key x ≡ true → P x) cuts → P e) → above key cuts ≡ e ∷ above e cuts) →
      above key (c ∷ cuts) ≡ e ∷ above e (c ∷ cuts)
  next_by c cuts true t less from among rest =
      let le : is_le (bytes_cmp c e) ≡ true = among (λ x. is_le (bytes_cmp c x) ≡ true) ((λ _. le_itself c), all-map (λ x. bytes_cmp c x ≡ Less) (λ x. is_above key x ≡ true → is_le (bytes_cmp c x) ≡ true) (λ x f _. ap is_le f) cuts less) in
      next_here c cuts t less (same_key c e le (from t))
  next_by c cuts false t less from among rest =
      ap (λ b. cond b (c ∷ above key cuts) (above key cuts)) t
      ∙ rest (λ P h. among P ((λ f. absurd (false≢true (sym t ∙ f))), h))
      ∙ ap (λ (xs : Keys). e ∷ xs) (ap (λ b. cond b (c ∷ above e cuts) (above e cuts)) (sym (not_above_above c key e t high (is_above e c) refl)))

  next_among : (cuts : Keys) → IsStrictlySortedBy bytes_cmp cuts → AllByRecursion (λ x. is_above key x ≡ true → is_le (bytes_cmp e x) ≡ true) cuts →
      ((P : List ℕ → Type 0) → AllByRecursion (λ x. is_above key x ≡ true → P x) cuts → P e) → above key cuts ≡ e ∷ above e cuts
  unfolding IsStrictlySortedBy
  next_among [] sorted from among = absurd (among (λ _. ⊥) tt)
  next_among (c ∷ cuts) sorted from among = next_by c cuts (is_above key c) refl sorted.0 from.0 among (λ fewer. next_among cuts sorted.1 from.1 fewer)

module _ (key : List ℕ) (ends : Keys) where
  -- the next cut
  pub next_cut_is : (e : List ℕ) → least_above key ends ≡ Some e → above key (fold (insert_key bytes_cmp) [] ends) ≡ e ∷ above e (fold (insert_key bytes_cmp) [] ends)
  next_cut_is e found =
      let high : is_above key e ≡ true = least_found key (λ x. is_above key x ≡ true) ends e found (same_all ends) in
      let from : AllByRecursion (λ x. is_above key x ≡ true → is_le (bytes_cmp e x) ≡ true) ends = subst (λ (o : Option (List ℕ)). AllByRecursion (λ x. is_above key x ≡ true → IsFrom key o x) ends) found (all_from key ends) in
      next_among key e high (inserted ends) (sorted_set bytes_cmp nat_list_cmp_total ends)
      (all_inserted bytes_cmp nat_list_cmp_total exact_bytes (λ x. is_above key x ≡ true → is_le (bytes_cmp e x) ≡ true) ends from)
      (λ P h. least_found key P ends e found (all_back bytes_cmp exact_bytes (λ x. is_above key x ≡ true → P x) ends h))
    where
      same_all : (xs : Keys) → AllByRecursion (λ x. is_above key x ≡ true → is_above key x ≡ true) xs
      same_all [] = tt
      same_all (x ∷ xs) = ((λ t. t), same_all xs)

  -- and none
  pub no_cut_is : least_above key ends ≡ None → above key (fold (insert_key bytes_cmp) [] ends) ≡ []
  no_cut_is none =
      let from : AllByRecursion (λ x. is_above key x ≡ true → ⊥) ends = subst (λ (o : Option (List ℕ)). AllByRecursion (λ x. is_above key x ≡ true → IsFrom key o x) ends) none (all_from key ends) in
      none-passed (λ x. is_above key x) (inserted ends) (all_inserted bytes_cmp nat_list_cmp_total exact_bytes (λ x. is_above key x ≡ false) ends (all-map (λ x. is_above key x ≡ true → ⊥) (λ x. is_above key x ≡ false) (λ x f. no x (is_above key x) refl f) ends from))
    where
      no : (x : List ℕ) (b : Bool) → is_above key x ≡ b → (is_above key x ≡ true → ⊥) → is_above key x ≡ false
      no x true e f = absurd (f e)
      no x false e f = e

-- ---- the least end above a key, of fragments in order

-- at or before means not after
behind_by : (x y : List ℕ) → is_lt (bytes_cmp y x) ≡ not (is_le (bytes_cmp x y))
behind_by x y = ap is_lt (nat_list_cmp_total.antisymm y x) ∙ by (bytes_cmp x y)
  where
    by : (o : Ordering) → is_lt (ordering_reverse o) ≡ not (is_le o)
    by Less = refl
    by Equal = refl
    by Greater = refl

module _ (key : List ℕ) where
  abbrev next_of : Fragment → List ℕ
  next_of f = cond (is_le (bytes_cmp f.begin key)) f.end f.begin

  ends_behind : (f : Fragment) (fs : List Fragment) → AllByRecursion (λ g. is_le (bytes_cmp f.end g.begin) ≡ true) fs → AreInOrder fs → AllByRecursion (λ x. is_le (bytes_cmp f.end x) ≡ true) (ends_of fs)
  ends_behind f [] le order = tt
  ends_behind f (g ∷ gs) le order = (le.0, (le_trans f.end g.begin g.end le.0 (le_of_lt g.begin g.end (lt_of g.begin g.end order.0)), ends_behind f gs le.1 order.2))

  end_first : (f : Fragment) (fs : List Fragment) → AreInOrder (f ∷ fs) → is_le (bytes_cmp f.end key) ≡ false → least_above key (f.end ∷ ends_of fs) ≡ Some f.end
  end_first f fs order high =
      ap (λ b. cond b (lesser (Some f.end) (least_above key (ends_of fs))) (least_above key (ends_of fs))) (behind_by f.end key ∙ ap not high)
      ∙ lesser_first f.end (least_above key (ends_of fs))
      (λ y is. least_found key (λ x. is_le (bytes_cmp f.end x) ≡ true) (ends_of fs) y is (all-map (λ x. is_le (bytes_cmp f.end x) ≡ true) (λ x. is_above key x ≡ true → is_le (bytes_cmp f.end x) ≡ true) (λ x h _. h) (ends_of fs) (ends_behind f fs order.1 order.2)))

  first_by : (f : Fragment) (rest : Option (List ℕ)) (b : Bool) → rest ≡ Some f.end → is_lt (bytes_cmp f.begin f.end) ≡ true → cond (not b) (lesser (Some f.begin) rest) rest ≡ Some (cond b f.end f.begin)
  first_by f rest true is lt = is
  first_by f rest false is lt = ap (lesser (Some f.begin)) is ∙ ap (λ c. cond c (Some f.begin) (Some f.end)) (le_of_lt f.begin f.end (lt_of f.begin f.end lt))

  -- of a fragment that ends above the key: its end if it begins by the key, else its begin
  next_at : (f : Fragment) (fs : List Fragment) → AreInOrder (f ∷ fs) → is_le (bytes_cmp f.end key) ≡ false → least_above key (ends_of (f ∷ fs)) ≡ Some (next_of f)
  next_at f fs order high =
      ap (λ b. cond b (lesser (Some f.begin) (least_above key (f.end ∷ ends_of fs))) (least_above key (f.end ∷ ends_of fs))) (behind_by f.begin key)
      ∙ first_by f (least_above key (f.end ∷ ends_of fs)) (is_le (bytes_cmp f.begin key)) (end_first f fs order high) order.0

  -- of one that doesn't, nothing
  passed : (f : Fragment) (fs : List Fragment) → AreInOrder (f ∷ fs) → is_le (bytes_cmp f.end key) ≡ true → least_above key (ends_of (f ∷ fs)) ≡ least_above key (ends_of fs)
  passed f fs order low =
      let begins : is_le (bytes_cmp f.begin key) ≡ true = le_trans f.begin f.end key (le_of_lt f.begin f.end (lt_of f.begin f.end order.0)) low in
      ap (λ b. cond b (lesser (Some f.begin) (least_above key (f.end ∷ ends_of fs))) (least_above key (f.end ∷ ends_of fs))) (behind_by f.begin key ∙ ap not begins)
      ∙ ap (λ b. cond b (lesser (Some f.end) (least_above key (ends_of fs))) (least_above key (ends_of fs))) (behind_by f.end key ∙ ap not low)

  next_at_place : (fs : List Fragment) (place : ℕ) → AreInOrder fs → EndBy key fs place → EndAbove key fs place → (d : Fragment) → place < length fs → least_above key (ends_of fs) ≡ Some (next_of (get_or fs place d))
  next_at_place [] place order low high d lt = absurd (omega (arith, lt))
  next_at_place (f ∷ fs) zero order low high d lt = next_at f fs order (high 0 d (omega arith) (omega arith))
  next_at_place (f ∷ fs) (suc place) order low high d lt =
      passed f fs order (low 0 d (omega arith) (omega arith))
      ∙ next_at_place fs place order.2 (λ k e l r. low (suc k) e (omega arith) (omega arith)) (λ k e l r. high (suc k) e (omega arith) (omega arith)) d (omega arith)

  none_at : (fs : List Fragment) → AreInOrder fs → EndBy key fs (length fs) → least_above key (ends_of fs) ≡ None
  none_at [] order low = refl
  none_at (f ∷ fs) order low =
      passed f fs order (low 0 f (omega arith) (omega arith))
      ∙ none_at fs order.2 (λ k e l r. low (suc k) e (omega arith) (omega arith))

  pub next_there : (fs : List Fragment) (place : ℕ) → AreInOrder fs → IsFirstAbove key fs place →
      (r : Option (Bor Fragment)) → MatchOption r (length fs ≤ place) (λ x. (place < length fs) × HoldsAt (λ y. x.now ≡ y) fs place) →
      MatchOption r (least_above key (ends_of fs) ≡ None) (λ x. least_above key (ends_of fs) ≡ Some (cond (is_le (bytes_cmp x.now.begin key)) x.now.end x.now.begin))
  next_there fs place order first None past = let within : place ≤ length fs = first.bound in none_at fs order (λ k e l r. first.before k e l (omega (arith, r, past, within)))
  next_there fs place order first (Some x) here =
      let same : x.now ≡ get_or fs place x.now = here.1 x.now in
      subst (λ (f : Fragment). least_above key (ends_of fs) ≡ Some (next_of f)) (sym same) (next_at_place fs place order first.before first.behind x.now here.0)

  -- of one run more
  pub least_more : (runs : List Contents) (r : Contents) (a b : Option (List ℕ)) → a ≡ least_above key (ends_in runs) → b ≡ least_above key (ends_of r.fragments) → lesser a b ≡ least_above key (ends_in (runs ++ r ∷ []))
  least_more runs r a b e f =
      (λ j. lesser (e j) (f j))
      ∙ sym (least-append key (ends_in runs) (ends_of r.fragments))
      ∙ ap (least_above key) (sym (ap ends_of (more_fragments runs r) ∙ flat_map-append (λ (g : Fragment). g.begin ∷ g.end ∷ []) (fragments_in runs) r.fragments))

-- ---- before the first cut no fragment covers a key

not_by : (f : Fragment) → is_above [] f.begin ≡ true → covers f [] ≡ false
not_by f e =
    let none : is_le (bytes_cmp f.begin []) ≡ false = by (is_le (bytes_cmp f.begin [])) (sym (behind_by f.begin []) ∙ e) in
    ap (λ b. b && is_lt (bytes_cmp [] f.end)) none
  where
    by : (b : Bool) → not b ≡ true → b ≡ false
    by true e = absurd (false≢true e)
    by false e = refl

starts_above : (fs : List Fragment) → AllByRecursion (λ x. is_above [] x ≡ true) (ends_of fs) → AllByRecursion (λ f. covers f [] ≡ false) fs
starts_above [] h = tt
starts_above (f ∷ fs) h = (not_by f h.0, starts_above fs h.1.1)

module _ (k : Keeping) (runs : List Contents) where
  none_at_first : (end : List ℕ) → lists_over [] (fragments_in runs) ≡ [] → [] ≡ kept_of k runs (([], end) ∷ [])
  none_at_first end none = none_kept k runs [] end [] (record { are = sym none; each = tt }) [] (seqs_kept k []) refl refl (ap length (kept_of_none k [] refl))

  first_by_cuts : (cuts : Keys) → IsStrictlySortedBy bytes_cmp cuts → (AllByRecursion (λ x. is_above [] x ≡ true) cuts → lists_over [] (fragments_in runs) ≡ []) → kept_of k runs (pieces ([] ∷ above [] cuts)) ≡ kept_of k runs (pieces cuts)
  unfolding IsStrictlySortedBy
  first_by_cuts [] sorted none = refl
  first_by_cuts ([] ∷ cuts) sorted none = ap (λ (cs : Keys). kept_of k runs (pieces ([] ∷ cs))) (behind_are_above [] cuts sorted.0)
  first_by_cuts ((y ∷ ys) ∷ cuts) sorted none =
      let all : AllByRecursion (λ x. is_above [] x ≡ true) ((y ∷ ys) ∷ cuts) = (refl, all-map (λ x. bytes_cmp (y ∷ ys) x ≡ Less) (λ x. is_above [] x ≡ true) (λ x e. ap is_lt (lt_trans [] (y ∷ ys) x refl e)) cuts sorted.0) in
      ap (λ (cs : Keys). kept_of k runs (pieces ([] ∷ cs))) (all_passed (λ x. is_above [] x) ((y ∷ ys) ∷ cuts) all)
      ∙ sym (piece_more k runs [] (kept_of k runs (([], y ∷ ys) ∷ pieces ((y ∷ ys) ∷ cuts))) ([], y ∷ ys) (pieces ((y ∷ ys) ∷ cuts)) refl [] (none_at_first (y ∷ ys) (none all)))

  -- so a walk may begin at the least key of all
  pub first_piece : kept_of k runs (pieces ([] ∷ above [] (cuts_in runs))) ≡ kept_of k runs (pieces (cuts_in runs))
  first_piece =
      first_by_cuts (inserted (ends_in runs)) (sorted_set bytes_cmp nat_list_cmp_total (ends_in runs))
      (λ all. ap (map (λ (f : Fragment). f.seqs)) (none-passed (λ f. covers f []) (fragments_in runs) (starts_above (fragments_in runs) (all_back bytes_cmp exact_bytes (λ x. is_above [] x ≡ true) (ends_in runs) all))))
