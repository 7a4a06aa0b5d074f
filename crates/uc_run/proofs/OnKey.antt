-- The points of a key at or below a sequence, from where no point is newer.
use Rattle.std.proofs.Common.{◌≡◌, ℕ, zero, suc, ◌+◌, ◌<◌, ◌≤◌, Bool, true, false, cond, ltb, leb, List, [], ◌∷◌, length, get_or, drop, filter, Option, Some, None, refl, sym, ap, ◌∙◌, subst, arith}
use Rattle.std.specs.Prelude.{◌&&◌, nat_lt, count_by}
use Rattle.std.specs.List.{slice_get}
use Rattle.std.specs.List.Sorted.{IsStrictlySortedBy, IsPartitionPoint, IsPartitionedBy}
use Rattle.std.specs.Cmp.Lexicographic.{same_text}
use Rattle.std.specs.declared.cmp.Ordering.{Ordering}
use Rattle.std.specs.declared.cmp.Ordering.TheVariants.{Less, Equal, Greater}
use Rattle.std.specs.Ordering.{nat_cmp, ordering_then, is_lt, is_le}
use Rattle.std.proofs.lemmas.Bool.{false≢true}
use Rattle.std.proofs.lemmas.Bool.Decides.{nat_tests}
use Rattle.std.proofs.lemmas.Cmp.{nat_list_cmp_total, tied_itself}
use Rattle.std.proofs.lemmas.List.{get_or-drop, length-drop}
use Rattle.std.proofs.lemmas.List.Sums.{count_by-le-length, length-filter}
use Rattle.uc_bytes.specs.Bytes.{bytes_cmp, same_bytes}
use Rattle.uc_oper.specs.Operation.{Operation}
use Rattle.uc_run_entry.specs.declared.entry.Entry.{Entry}
use Rattle.uc_run_entry.specs.Lookup.{is_visible, points_effect, above_newest}
use Rattle.uc_run_entry.specs.Order.{entry_cmp}
use Rattle.uc_run_entry.specs.Seek.{is_passed, seek_place}
use Rattle.uc_run_entry.proofs.Partitions.{partitioned}
use Rattle.uc_run.specs.Found.{before_points}
use Rattle.uc_run.specs.Places.{is_newer, is_on}
use Rattle.uc_run.proofs.LookupEffects.{above_none, above_some}
use Rattle.uc_run.proofs.Passing.{count_point, seek_point}
use Rattle.uc_run.proofs.Order.{newer_before, before_newer, newer_hidden, here_visible, passed_before, same_key}

-- ---- filters

module _ {X : Type 0} where
  -- those of a front of which none passes may be left out
  pub front_hidden : (test : X → Bool) (xs : List X) (k : ℕ) → ((j : ℕ) (d : X) → j < k → test (get_or xs j d) ≡ false) → filter test xs ≡ filter test (drop k xs)
  front_hidden test [] zero h = refl
  front_hidden test [] (suc k) h = refl
  front_hidden test (x ∷ xs) zero h = refl
  front_hidden test (x ∷ xs) (suc k) h =
      ap (λ b. cond b (x ∷ filter test xs) (filter test xs)) (h 0 x (omega arith))
      ∙ front_hidden test xs k (λ j d l. h (suc j) d (omega (arith, l)))

  pub same_passing : (s t : X → Bool) (xs : List X) → ((j : ℕ) (d : X) → j < length xs → s (get_or xs j d) ≡ t (get_or xs j d)) → filter s xs ≡ filter t xs
  same_passing s t [] h = refl
  same_passing s t (x ∷ xs) h =
      ap (λ b. cond b (x ∷ filter s xs) (filter s xs)) (h 0 x (omega arith))
      ∙ ap (λ (ys : List X). cond (t x) (x ∷ ys) ys) (same_passing s t xs (λ j d l. h (suc j) d (omega (arith, l))))

  twice : (s t : X → Bool) (x : X) (xs ys : List X) (b c : Bool) → s x ≡ c → filter s xs ≡ ys → filter s (cond b (x ∷ xs) xs) ≡ cond (c && b) (x ∷ ys) ys
  twice s t x xs ys false true e h = h
  twice s t x xs ys false false e h = h
  twice s t x xs ys true true e h = ap (λ c. cond c (x ∷ filter s xs) (filter s xs)) e ∙ ap (λ (zs : List X). x ∷ zs) h
  twice s t x xs ys true false e h = ap (λ c. cond c (x ∷ filter s xs) (filter s xs)) e ∙ h

  -- those that pass two tests
  pub filter_twice : (s t : X → Bool) (xs : List X) → filter s (filter t xs) ≡ filter (λ x. s x && t x) xs
  filter_twice s t [] = refl
  filter_twice s t (x ∷ xs) = twice s t x (filter t xs) (filter (λ y. s y && t y) xs) (t x) (s x) refl (filter_twice s t xs)

-- ---- one point

passed_same : (x key : List ℕ) → same_bytes x key ≡ true → bytes_cmp x key ≡ Equal
passed_same x key e = subst (λ (z : List ℕ). bytes_cmp x z ≡ Equal) (same_text x key (sym e)) (tied_itself nat_list_cmp_total x)

right_false : (b : Bool) → (b && false) ≡ false
right_false true = refl
right_false false = refl

right_true : (b c : Bool) → (b && c) ≡ true → c ≡ true
right_true true c e = e
right_true false c e = absurd (false≢true e)

pub left_true : (b c : Bool) → (b && c) ≡ true → b ≡ true
left_true true c e = refl
left_true false c e = absurd (false≢true e)

lower : (a b : ℕ) → ltb a b ≡ true → is_lt (nat_cmp a b) ≡ true
lower a b e = let l : a < b = grind (arith, nat_tests) in grind (arith, nat_tests)

is_lower : (a b : ℕ) → is_lt (nat_cmp a b) ≡ true → ltb a b ≡ true
is_lower a b e = grind (arith, nat_tests)

module _ (key : List ℕ) (at : ℕ) (p : Entry) (newer : is_newer key at p ≡ false) where
  seen_by : (b : Bool) → same_bytes p.key key ≡ b → is_visible key at p ≡ b
  seen_by true e = here_visible key at p newer (ap is_le (passed_same p.key key e))
  seen_by false e = ap (λ b. leb p.seq at && b) e ∙ right_false (leb p.seq at)

  -- a point that isn't newer is seen if it is of the key
  pub seen_there : is_visible key at p ≡ same_bytes p.key key
  seen_there = seen_by (same_bytes p.key key) refl

  pub same_passed : is_passed key true p.key ≡ true → same_bytes p.key key ≡ true
  same_passed passed = sym seen_there ∙ here_visible key at p newer passed

  on_by : (bound : ℕ) (o : Ordering) → bytes_cmp p.key key ≡ o → is_lt (ordering_then o (nat_cmp at p.seq)) ≡ false → is_lt (ordering_then o (nat_cmp bound p.seq)) ≡ true → (ltb bound p.seq && same_bytes p.key key) ≡ true
  on_by bound Less e older above = absurd (false≢true (sym older))
  on_by bound Equal e older above = ap (λ b. b && same_bytes p.key key) (is_lower bound p.seq above) ∙ same_key p.key key e
  on_by bound Greater e older above = absurd (false≢true above)

  -- and is above a sequence if it comes before the key's points at that
  pub on_there : (bound : ℕ) → is_newer key bound p ≡ true → is_on key (Some bound) p ≡ true
  on_there bound above = on_by bound (bytes_cmp p.key key) refl newer above

pub passed_on : (key : List ℕ) (p : Entry) → is_on key None p ≡ true → is_passed key true p.key ≡ true
passed_on key p on = ap is_le (passed_same p.key key on)

newer_on : (key : List ℕ) (bound : ℕ) (p : Entry) → is_on key (Some bound) p ≡ true → is_newer key bound p ≡ true
newer_on key bound p on =
    ap (λ o. is_lt (ordering_then o (nat_cmp bound p.seq))) (passed_same p.key key (right_true (ltb bound p.seq) (same_bytes p.key key) on))
    ∙ lower bound p.seq (left_true (ltb bound p.seq) (same_bytes p.key key) on)

-- ---- all points

-- where those that are newer end
module _ (key : List ℕ) (at : ℕ) (points : List Entry) where
  abbrev pub first_place : ℕ
  first_place = count_by (is_newer key at) points

  pub found_first : first_place ≤ length points
  found_first = count_by-le-length (is_newer key at) points

  pub newer_point : IsStrictlySortedBy entry_cmp points → IsPartitionPoint (λ p. is_newer key at p ≡ true) (λ p. is_newer key at p ≡ false) points first_place
  newer_point sorted =
      subst (IsPartitionPoint (λ p. is_newer key at p ≡ true) (λ p. is_newer key at p ≡ false) points) (length-filter (is_newer key at) points)
      (count_point (is_newer key at) points (partitioned (is_newer key at) entry_cmp (newer_before key at) points sorted))

module _ (key : List ℕ) (at : ℕ) (points : List Entry) (k : ℕ) (le : k ≤ length points) (point : IsPartitionPoint (λ p. is_newer key at p ≡ true) (λ p. is_newer key at p ≡ false) points k) where
  abbrev rest : List Entry
  rest = drop k points

  not_newer : (j : ℕ) (d : Entry) → j < length rest → is_newer key at (get_or rest j d) ≡ false
  not_newer j d l =
      let long = length-drop k points in
      ap (is_newer key at) (get_or-drop k points j d) ∙ point.1 (k + j) d (omega arith) (omega (arith, l, long))

  pub visible_there : filter (is_visible key at) points ≡ filter (λ p. same_bytes p.key key) rest
  visible_there =
      front_hidden (is_visible key at) points k (λ j d l. newer_hidden key at (get_or points j d) (point.0 j d (omega arith) l))
      ∙ same_passing (is_visible key at) (λ p. same_bytes p.key key) rest (λ j d l. seen_there key at (get_or rest j d) (not_newer j d l))

  -- what is found above the newest range deletion
  pub found_above : (m : Operation) (seqs : List ℕ) (newest : Option ℕ) → newest ≡ slice_get seqs 0 → points_effect m (before_points newest) (filter (is_on key newest) rest) ≡ above_newest m (filter (is_visible key at) points) seqs
  found_above m seqs None e = ap (λ (ps : List Entry). points_effect m (before_points None) ps) (sym visible_there) ∙ above_none m (filter (is_visible key at) points) seqs (sym e)
  found_above m seqs (Some newest) e =
      ap (λ (ps : List Entry). points_effect m (before_points (Some newest)) ps)
      (sym (filter_twice (λ (p : Entry). nat_lt newest p.seq) (λ (p : Entry). same_bytes p.key key) rest) ∙ ap (λ (ps : List Entry). filter (λ p. nat_lt newest p.seq) ps) (sym visible_there))
      ∙ above_some m (filter (is_visible key at) points) seqs newest (sym e)

  module _ (sorted : IsStrictlySortedBy entry_cmp points) where
    before_passes : (test : Entry → Bool) → ((p q : Entry) → entry_cmp p q ≡ Less → test q ≡ true → test p ≡ true) → (i j : ℕ) (d : Entry) → i ≤ j → j < length rest → test (get_or rest j d) ≡ true → test (get_or rest i d) ≡ true
    before_passes test down i j d order l e =
        let long = length-drop k points in
        ap test (get_or-drop k points i d)
        ∙ partitioned test entry_cmp down points sorted (k + i) (k + j) d (omega (arith, order)) (omega (arith, l, long)) (sym (ap test (get_or-drop k points j d)) ∙ e)

    -- the key's points above a sequence come first
    pub on_first : (newest : Option ℕ) → IsPartitionedBy (is_on key newest) rest
    on_first None i j d order l e =
        same_passed key at (get_or rest i d) (not_newer i d (omega (arith, order, l)))
        (before_passes (λ p. is_passed key true p.key) (passed_before key true) i j d order l (passed_on key (get_or rest j d) e))
    on_first (Some newest) i j d order l e =
        on_there key at (get_or rest i d) (not_newer i d (omega (arith, order, l))) newest
        (before_passes (is_newer key newest) (newer_before key newest) i j d order l (newer_on key newest (get_or rest j d) e))

-- ---- from the first of the key's points on

pub none_before : (key : List ℕ) (at : ℕ) (points : List Entry) → IsStrictlySortedBy entry_cmp points → filter (is_visible key at) points ≡ filter (is_visible key at) (drop (seek_place points key false) points)
none_before key at points sorted =
    let place = seek_place points key false in
    let point = seek_point points key false sorted place refl in
    front_hidden (is_visible key at) points place
    (λ j d l. newer_hidden key at (get_or points j d) (before_newer key at (get_or points j d) (point.0 j d (omega arith) l)))
