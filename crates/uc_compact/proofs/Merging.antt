-- The least key's points come first, and what is left are the other groups.
use Rattle.std.proofs.Common.{◌≡◌, ℕ, Bool, true, false, cond, List, [], ◌∷◌, ◌++◌, map, filter, take, drop, refl, sym, ap, ◌∙◌, subst}
use Rattle.std.specs.Prelude.{not, Option, Some, None}
use Rattle.std.specs.List.{AllByRecursion, flat_map}
use Rattle.std.specs.List.Sorted.{IsStrictlySortedBy}
use Rattle.std.specs.declared.cmp.Ordering.TheVariants.{Less}
use Rattle.std.specs.Ordering.{is_le}
use Rattle.std.specs.Cmp.Lexicographic.{bytes_decides}
use Rattle.std.proofs.lemmas.Bool.{false≢true}
use Rattle.std.proofs.lemmas.Cmp.{nat_list_cmp_total}
use Rattle.std.proofs.lemmas.Map.Lookups.{exact_bytes}
use Rattle.uc_bytes.specs.Bytes.{bytes_cmp, same_bytes}
use Rattle.uc_run_entry.specs.declared.entry.Entry.{Entry}
use Rattle.uc_run_entry.proofs.Sets.{all_back, sorted_set}
use Rattle.uc_run_entry.proofs.SameSets.{same_sorted, all_inserted}
use Rattle.uc_compact.specs.Groups.{Group, keys_of, group_of, groups_of}
use Rattle.uc_compact.specs.Heads.{first_named, IsFrom, IsOther, IsLeast}
use Rattle.uc_compact.proofs.Lists.{all-append, all-back, all-mapped, all-unmapped}
use Rattle.uc_compact.proofs.Keys.{no_less_itself}
use Rattle.uc_compact.proofs.Taking.{Sorted, is_other, all_taken, all_left_is, still_sorted, keys_from, above_others}

abbrev pub joined : List (List Entry) → List Entry
joined lists = flat_map (λ (ps : List Entry). ps) lists

all_joined : (key : List ℕ) (lists : List (List Entry)) → AllByRecursion Sorted lists → AllByRecursion (IsFrom key) lists → AllByRecursion (λ (p : Entry). is_le (bytes_cmp key p.key) ≡ true) (joined lists)
all_joined key [] sorted from = tt
all_joined key (ps ∷ lists) sorted from = all-append (λ (p : Entry). is_le (bytes_cmp key p.key) ≡ true) ps (joined lists) (keys_from key ps sorted.0 from.0) (all_joined key lists sorted.1 from.1)

-- what holds of all keys holds of the least
module _ (key : List ℕ) (P : List ℕ → Type 0) where
  differs : (p : Entry) → same_bytes p.key key ≡ false → p.key ≡ key → ⊥
  differs p e same = false≢true (sym e ∙ (bytes_decides p.key key).1 same)

  first_by : (p : Entry) (b : Bool) → same_bytes p.key key ≡ b → P p.key → ((p.key ≡ key → ⊥) → P key) → P key
  first_by p true e here rest = subst P ((bytes_decides p.key key).0 e) here
  first_by p false e here rest = rest (differs p e)

  holds_of_least : (lists : List (List Entry)) → (AllByRecursion (IsOther key) lists → ⊥) → AllByRecursion (λ (p : Entry). P p.key) (joined lists) → P key
  holds_of_least [] some h = absurd (some tt)
  holds_of_least ([] ∷ lists) some h = holds_of_least lists (λ others. some (tt, others)) h
  holds_of_least ((p ∷ ps) ∷ lists) some h = first_by p (same_bytes p.key key) refl h.0 (λ differs. holds_of_least lists (λ others. some (differs, others)) (all-back (λ (q : Entry). P q.key) ps (joined lists) h.1))

  others_hold : (ps : List Entry) → AllByRecursion (λ (p : Entry). P p.key) ps → AllByRecursion (λ (p : Entry). P p.key) (filter (is_other key) ps)
  others_hold [] h = tt
  others_hold (p ∷ ps) h = put (not (same_bytes p.key key)) (others_hold ps h.1)
    where
      put : (b : Bool) → AllByRecursion (λ (q : Entry). P q.key) (filter (is_other key) ps) → AllByRecursion (λ (q : Entry). P q.key) (cond b (p ∷ filter (is_other key) ps) (filter (is_other key) ps))
      put true rest = (h.0, rest)
      put false rest = rest

  all_hold : P key → (ps : List Entry) → AllByRecursion (λ (p : Entry). P p.key) (filter (is_other key) ps) → AllByRecursion (λ (p : Entry). P p.key) ps
  all_hold here [] h = tt
  all_hold here (p ∷ ps) h = put (same_bytes p.key key) refl h (all_hold here ps)
    where
      put : (b : Bool) → same_bytes p.key key ≡ b → AllByRecursion (λ (q : Entry). P q.key) (cond (not b) (p ∷ filter (is_other key) ps) (filter (is_other key) ps)) → (AllByRecursion (λ (q : Entry). P q.key) (filter (is_other key) ps) → AllByRecursion (λ (q : Entry). P q.key) ps) → AllByRecursion (λ (q : Entry). P q.key) (p ∷ ps)
      put true e k rest = (subst P (sym ((bytes_decides p.key key).0 e)) here, rest k)
      put false e k rest = (k.0, rest k.1)

-- a test that only others pass
module _ (key : List ℕ) where
  other_key : (p : Entry) (k : List ℕ) → bytes_cmp key k ≡ Less → (b : Bool) → same_bytes p.key k ≡ b → b ≡ true → same_bytes p.key key ≡ false
  other_key p k less b e t = by (same_bytes p.key key) refl
    where
      by : (c : Bool) → same_bytes p.key key ≡ c → same_bytes p.key key ≡ false
      by false f = f
      by true f = absurd (no_less_itself key (subst (λ (x : List ℕ). bytes_cmp key x ≡ Less) (sym ((bytes_decides p.key k).0 (e ∙ t)) ∙ (bytes_decides p.key key).0 f) less))

  same_points : (k : List ℕ) → bytes_cmp key k ≡ Less → (ps : List Entry) → filter (λ (p : Entry). same_bytes p.key k) ps ≡ filter (λ (p : Entry). same_bytes p.key k) (filter (is_other key) ps)
  same_points k less [] = refl
  same_points k less (p ∷ ps) = put (same_bytes p.key k) (same_bytes p.key key) refl refl (same_points k less ps)
    where
      put : (a b : Bool) → same_bytes p.key k ≡ a → same_bytes p.key key ≡ b → filter (λ (q : Entry). same_bytes q.key k) ps ≡ filter (λ (q : Entry). same_bytes q.key k) (filter (is_other key) ps) → cond a (p ∷ filter (λ (q : Entry). same_bytes q.key k) ps) (filter (λ (q : Entry). same_bytes q.key k) ps) ≡ filter (λ (q : Entry). same_bytes q.key k) (cond (not b) (p ∷ filter (is_other key) ps) (filter (is_other key) ps))
      put true true e f rest = absurd (false≢true (sym (other_key p k less (same_bytes p.key k) refl e) ∙ f))
      put true false e f rest = ap (λ (qs : List Entry). p ∷ qs) rest ∙ sym (ap (λ c. cond c (p ∷ filter (λ (q : Entry). same_bytes q.key k) (filter (is_other key) ps)) (filter (λ (q : Entry). same_bytes q.key k) (filter (is_other key) ps))) e)
      put false true e f rest = rest
      put false false e f rest = rest ∙ sym (ap (λ c. cond c (p ∷ filter (λ (q : Entry). same_bytes q.key k) (filter (is_other key) ps)) (filter (λ (q : Entry). same_bytes q.key k) (filter (is_other key) ps))) e)

  same_groups : (ps : List Entry) (ks : List (List ℕ)) → AllByRecursion (λ k. bytes_cmp key k ≡ Less) ks → map (group_of ps) ks ≡ map (group_of (filter (is_other key) ps)) ks
  same_groups ps [] h = refl
  same_groups ps (k ∷ ks) h = ap (λ (qs : List Entry). (record { key = k; points = qs }) ∷ map (group_of ps) ks) (same_points k h.0 ps) ∙ ap (λ (gs : List Group). group_of (filter (is_other key) ps) k ∷ gs) (same_groups ps ks h.1)

module _ (lists : List (List Entry)) (sorted : AllByRecursion Sorted lists) where
  pub none_comes : AllByRecursion (λ (ps : List Entry). ps ≡ []) lists → groups_of (joined lists) ≡ []
  none_comes h = ap groups_of (empty lists h)
    where
      empty : (ls : List (List Entry)) → AllByRecursion (λ (ps : List Entry). ps ≡ []) ls → joined ls ≡ []
      empty [] k = refl
      empty (ps ∷ ls) k = ap (λ (qs : List Entry). qs ++ joined ls) k.0 ∙ empty ls k.1

  module _ (key : List ℕ) (from : AllByRecursion (IsFrom key) lists) (some : AllByRecursion (IsOther key) lists → ⊥) where
    abbrev others : List Entry
    others = filter (is_other key) (joined lists)

    abbrev named_keys : List Entry → List (List ℕ)
    named_keys ps = map (λ (p : Entry). p.key) ps

    others_above : AllByRecursion (λ k. bytes_cmp key k ≡ Less) (keys_of others)
    others_above = all_inserted bytes_cmp nat_list_cmp_total exact_bytes (λ k. bytes_cmp key k ≡ Less) (named_keys others) (all-mapped (λ (p : Entry). p.key) (λ k. bytes_cmp key k ≡ Less) others (above_others key (joined lists) (all_joined key lists sorted from)))

    more_sorted : IsStrictlySortedBy bytes_cmp (key ∷ keys_of others)
    unfolding IsStrictlySortedBy
    more_sorted = (others_above, sorted_set bytes_cmp nat_list_cmp_total (named_keys others))

    keys_are : keys_of (joined lists) ≡ key ∷ keys_of others
    keys_are =
        same_sorted bytes_cmp nat_list_cmp_total exact_bytes (keys_of (joined lists)) (key ∷ keys_of others) (sorted_set bytes_cmp nat_list_cmp_total (named_keys (joined lists))) more_sorted
        (λ P h. let all : AllByRecursion (λ (p : Entry). P p.key) (joined lists) = all-unmapped (λ (p : Entry). p.key) P (joined lists) (all_back bytes_cmp exact_bytes P (named_keys (joined lists)) h) in
        (holds_of_least key P lists some all, all_inserted bytes_cmp nat_list_cmp_total exact_bytes P (named_keys others) (all-mapped (λ (p : Entry). p.key) P others (others_hold key P (joined lists) all))))
        (λ P h. all_inserted bytes_cmp nat_list_cmp_total exact_bytes P (named_keys (joined lists)) (all-mapped (λ (p : Entry). p.key) P (joined lists) (all_hold key P h.0 (joined lists) (all-unmapped (λ (p : Entry). p.key) P others (all_back bytes_cmp exact_bytes P (named_keys others) h.1)))))

    pub some_comes : groups_of (joined lists) ≡ (record { key = key; points = flat_map (λ ps. take (first_named key ps) ps) lists }) ∷ groups_of (joined (map (λ ps. drop (first_named key ps) ps) lists))
    some_comes =
        ap (map (group_of (joined lists))) keys_are
        ∙ ap (λ (ps : List Entry). (record { key = key; points = ps }) ∷ map (group_of (joined lists)) (keys_of others)) (sym (all_taken key lists sorted from))
        ∙ ap (λ (gs : List Group). (record { key = key; points = flat_map (λ ps. take (first_named key ps) ps) lists }) ∷ gs) (same_groups key (joined lists) (keys_of others) others_above
        ∙ ap groups_of (sym (all_left_is key lists sorted from)))

    pub left_sorted : AllByRecursion Sorted (map (λ ps. drop (first_named key ps) ps) lists)
    left_sorted = still_sorted key lists sorted from

pub joined-map : {X : Type 0} (f : X → List Entry) (xs : List X) (lists : List (List Entry)) → lists ≡ map f xs → joined lists ≡ flat_map f xs
joined-map f xs lists e = ap joined e ∙ over f xs
  where
    over : {X : Type 0} (f : X → List Entry) (xs : List X) → joined (map f xs) ≡ flat_map f xs
    over f [] = refl
    over f (x ∷ xs) = ap (λ (ps : List Entry). f x ++ ps) (over f xs)

-- ---- a step of the merge, by what its parts say

pub ends : (old : List Group) (cursors : List (List Entry)) (o : Option (List ℕ)) → AllByRecursion Sorted cursors → old ≡ groups_of (joined cursors) → IsLeast cursors o → o ≡ None → old ≡ []
ends old cursors o sorted is least none = is ∙ none_comes cursors sorted (subst (IsLeast cursors) none least)

module _ (old : List Group) (cursors lent left : List (List Entry)) (o : Option (List ℕ)) (key : List ℕ) (before points : List Entry) (sorted : AllByRecursion Sorted cursors) (is : old ≡ groups_of (joined cursors)) (lends : lent ≡ cursors) (least : IsLeast cursors o) (some : o ≡ Some key) where
  least_here : IsLeast cursors (Some key)
  least_here = subst (IsLeast cursors) some least

  pub steps : before ≡ [] → points ≡ before ++ flat_map (λ ps. take (first_named key ps) ps) lent → left ≡ map (λ ps. drop (first_named key ps) ps) lent → old ≡ (record { key = key; points = points }) ∷ groups_of (joined left)
  steps empty taken rest =
      is ∙ some_comes cursors sorted key least_here.0 least_here.1
      ∙ ap (λ (ps : List Entry). (record { key = key; points = ps }) ∷ groups_of (joined (map (λ qs. drop (first_named key qs) qs) cursors))) (sym (taken ∙ ap (λ (ps : List Entry). ps ++ flat_map (λ qs. take (first_named key qs) qs) lent) empty ∙ ap (flat_map (λ qs. take (first_named key qs) qs)) lends))
      ∙ ap (λ (ls : List (List Entry)). (record { key = key; points = points }) ∷ groups_of (joined ls)) (sym (rest ∙ ap (map (λ qs. drop (first_named key qs) qs)) lends))

  pub stays_sorted : left ≡ map (λ ps. drop (first_named key ps) ps) lent → AllByRecursion Sorted left
  stays_sorted rest = subst (AllByRecursion Sorted) (sym (rest ∙ ap (map (λ qs. drop (first_named key qs) qs)) lends)) (left_sorted cursors sorted key least_here.0 least_here.1)
