-- The keys ahead of a walk against their order: the greatest comes first, and the others are ahead after it.
use Rattle.std.proofs.Common.{◌≡◌, ℕ, ◌+◌, ◌<◌, Bool, true, false, cond, List, [], ◌∷◌, ◌++◌, length, get_or, take, map, filter, Option, Some, None, Contains, ⊎_elim, refl, sym, ap, ◌∙◌, subst}
use Rattle.std.specs.Prelude.{not, ◌&&◌, reverse}
use Rattle.std.specs.List.{AllByRecursion}
use Rattle.std.specs.List.Sorted.{IsStrictlySortedBy}
use Rattle.std.specs.declared.cmp.Ordering.{Ordering}
use Rattle.std.specs.declared.cmp.Ordering.TheVariants.{Less, Equal, Greater}
use Rattle.std.specs.Ordering.{is_lt, is_le}
use Rattle.std.proofs.lemmas.Bool.{false≢true}
use Rattle.std.proofs.lemmas.Cmp.{nat_list_cmp_total, tied_itself}
use Rattle.std.proofs.lemmas.List.{reverse-append, take_more}
use Rattle.std.proofs.lemmas.List.Elements.{All-contains, All-contains_itself, All-from_recursion, recursion_from_All}
use Rattle.std.proofs.lemmas.Map.Lookups.{exact_bytes}
use Rattle.uc_bytes.specs.Bytes.{bytes_cmp}
use Rattle.uc_model.proofs.Members.{contains_cases, contains_nothing}
use Rattle.uc_run_entry.specs.declared.entry.Entry.{Entry}
use Rattle.uc_run_entry.specs.Run.{Contents}
use Rattle.uc_run_entry.specs.Seek.{is_passed}
use Rattle.uc_run.specs.BackCursors.{is_before, IsGreatestKey, IsPreviousKey}
use Rattle.uc_run.proofs.Order.{key_passed}
use Rattle.uc_compact.proofs.Keys.{no_less_itself, lt_of, le_of_not, le_trans, le_of_lt}
use Rattle.uc_compact.proofs.NestedLists.{all-append, all-map, all-mapped, none-passed}
use Rattle.uc_compact.specs.Groups.{keys_of}
use Rattle.uc_compact.specs.Inputs.{points_of}
use Rattle.uc_query_read.specs.Ahead.{is_ahead, keys_ahead}
use Rattle.uc_query_read.specs.Answers.{is_below}
use Rattle.uc_query_read.specs.Back.{greater_of}
use Rattle.uc_query_read.proofs.LeastKeys.{in_front, behind, points-more}
use Rattle.uc_query_read.proofs.Walking.{keys_sorted, all_keys, each_key, and_none}

abbrev keys : List Entry → List (List ℕ)
keys points = map (λ p. p.key) points

-- ---- the greatest of the keys of several runs

module _ (high : Option (List ℕ)) where
  abbrev IsUpTo : List ℕ → Entry → Type 0
  IsUpTo key p = is_before high p.key ≡ true → is_le (bytes_cmp p.key key) ≡ true

  none_up_to : (key : List ℕ) (ps : List Entry) → AllByRecursion (λ p. is_before high p.key ≡ false) ps → AllByRecursion (IsUpTo key) ps
  none_up_to key ps h =
      all-map (λ (p : Entry). is_before high p.key ≡ false) (IsUpTo key) (λ p out below. absurd (false≢true (sym out ∙ below))) ps h

  higher : (key other : List ℕ) (ps : List Entry) → is_le (bytes_cmp key other) ≡ true → AllByRecursion (IsUpTo key) ps → AllByRecursion (IsUpTo other) ps
  higher key other ps le h = all-map (IsUpTo key) (IsUpTo other) (λ p up below. le_trans p.key key other (up below) le) ps h

  greatest_by : (ps qs : List Entry) (key other : List ℕ) (b : Bool) → is_lt (bytes_cmp key other) ≡ b → IsGreatestKey ps high key → IsGreatestKey qs high other → IsPreviousKey (ps ++ qs) high (cond b (Some other) (Some key))
  greatest_by ps qs key other true e h k = record {
    of_a_point = behind [] false ps qs other k.of_a_point;
    below = k.below;
    greatest = all-append (IsUpTo other) ps qs (higher key other ps (le_of_lt key other (lt_of key other e)) h.greatest) k.greatest;
  }
  greatest_by ps qs key other false e h k = record {
    of_a_point = in_front [] false ps qs key h.of_a_point;
    below = h.below;
    greatest = all-append (IsUpTo key) ps qs h.greatest (higher other key qs (le_of_not key other e) k.greatest);
  }

  greatest_of_both : (ps qs : List Entry) (one other : Option (List ℕ)) → IsPreviousKey ps high one → IsPreviousKey qs high other → IsPreviousKey (ps ++ qs) high (greater_of one other)
  greatest_of_both ps qs None None h k = all-append (λ (p : Entry). is_before high p.key ≡ false) ps qs h k
  greatest_of_both ps qs None (Some other) h k = record {
    of_a_point = behind [] false ps qs other k.of_a_point;
    below = k.below;
    greatest = all-append (IsUpTo other) ps qs (none_up_to other ps h) k.greatest;
  }
  greatest_of_both ps qs (Some key) None h k = record {
    of_a_point = in_front [] false ps qs key h.of_a_point;
    below = h.below;
    greatest = all-append (IsUpTo key) ps qs h.greatest (none_up_to key qs k);
  }
  greatest_of_both ps qs (Some key) (Some other) h k = greatest_by ps qs key other (is_lt (bytes_cmp key other)) refl h k

  module _ {X : Type 0} (run_of : X → Contents) where
    abbrev points_in : List X → List Entry
    points_in runs = points_of (map run_of runs)

    -- one run more
    pub greatest_step : (runs : List X) (i : ℕ) (r : X) (greatest own next : Option (List ℕ)) → i < length runs → r ≡ get_or runs i r → IsPreviousKey (points_in (take i runs)) high greatest → IsPreviousKey (run_of r).points high own → next ≡ greater_of greatest own →
        IsPreviousKey (points_in (take (i + 1) runs)) high next
    greatest_step runs i r greatest own next lt is h k made =
        let more : points_in (take (i + 1) runs) ≡ points_in (take i runs) ++ (run_of r).points =
        ap points_in (take_more runs i r lt ∙ ap (λ (x : X). take i runs ++ x ∷ []) (sym is))
        ∙ points-more [] false run_of (take i runs) r in
        subst (λ (ps : List Entry). IsPreviousKey ps high next) (sym more)
        (subst (IsPreviousKey (points_in (take i runs) ++ (run_of r).points) high) (sym made) (greatest_of_both (points_in (take i runs)) (run_of r).points greatest own h k))

-- ---- the greatest key of some that rise

below_alike : (high : Option (List ℕ)) (x : List ℕ) → is_before high x ≡ is_below x high
below_alike None x = refl
below_alike (Some high) x = refl

below_lower : (high : Option (List ℕ)) (x key : List ℕ) → bytes_cmp x key ≡ Less → is_below key high ≡ true → is_below x high ≡ true
below_lower None x key less below = refl
below_lower (Some high) x key less below = key_passed high x key false less below

by_test : {X : Type 0} (x y : X) (xs ys : List X) (b : Bool) → xs ≡ ys ++ y ∷ [] → cond b (x ∷ xs) xs ≡ cond b (x ∷ ys) ys ++ y ∷ []
by_test x y xs ys true e = ap (λ (zs : List _). x ∷ zs) e
by_test x y xs ys false e = e

above_not_below : (key x : List ℕ) → bytes_cmp key x ≡ Less → is_lt (bytes_cmp x key) ≡ false
above_not_below key x less = by (bytes_cmp x key) refl
  where
    by : (o : Ordering) → bytes_cmp x key ≡ o → is_lt o ≡ false
    by Less e = absurd (no_less_itself key (nat_list_cmp_total.trans key x key less e))
    by Equal e = refl
    by Greater e = refl

above_not_le : (key x : List ℕ) → bytes_cmp key x ≡ Less → is_le (bytes_cmp x key) ≡ true → ⊥
above_not_le key x less le = by (bytes_cmp x key) refl le
  where
    by : (o : Ordering) → bytes_cmp x key ≡ o → is_le o ≡ true → ⊥
    by Less e f = no_less_itself key (nat_list_cmp_total.trans key x key less e)
    by Equal e f = no_less_itself key (subst (λ (y : List ℕ). bytes_cmp key y ≡ Less) (exact_bytes x key e) less)
    by Greater e f = absurd (false≢true f)

module _ (low : List ℕ) (high : Option (List ℕ)) (key : List ℕ) (fresh : is_passed low false key ≡ false) (below : is_below key high ≡ true) where
  abbrev ahead : List ℕ → Bool
  ahead x = is_ahead low false high x

  abbrev before : List ℕ → Bool
  before x = is_ahead low false (Some key) x

  abbrev UpTo : List ℕ → Type 0
  UpTo x = is_below x high ≡ true → is_le (bytes_cmp x key) ≡ true

  out_by : (x : List ℕ) (b : Bool) → is_below x high ≡ b → bytes_cmp key x ≡ Less → UpTo x → b ≡ false
  out_by x true e less up = absurd (above_not_le key x less (up e))
  out_by x false e less up = refl

  not_ahead : (x : List ℕ) → bytes_cmp key x ≡ Less → UpTo x → ahead x ≡ false
  not_ahead x less up = and_none (not (is_passed low false x)) (is_below x high) (out_by x (is_below x high) refl less up)

  not_before : (x : List ℕ) → bytes_cmp key x ≡ Less → before x ≡ false
  not_before x less = and_none (not (is_passed low false x)) (is_lt (bytes_cmp x key)) (above_not_below key x less)

  none_ahead : (ks : List (List ℕ)) → AllByRecursion (λ x. bytes_cmp key x ≡ Less) ks → AllByRecursion UpTo ks → AllByRecursion (λ x. ahead x ≡ false) ks
  none_ahead [] less up = tt
  none_ahead (k ∷ ks) less up = (not_ahead k less.0 up.0, none_ahead ks less.1 up.1)

  none_before : (ks : List (List ℕ)) → AllByRecursion (λ x. bytes_cmp key x ≡ Less) ks → AllByRecursion (λ x. before x ≡ false) ks
  none_before [] less = tt
  none_before (k ∷ ks) less = (not_before k less.0, none_before ks less.1)

  it_is_ahead : ahead key ≡ true
  it_is_ahead = ap (λ b. not b && is_below key high) fresh ∙ below

  it_is_not_before : before key ≡ false
  it_is_not_before = and_none (not (is_passed low false key)) (is_lt (bytes_cmp key key)) (ap is_lt (tied_itself nat_list_cmp_total key))

  here : (ks : List (List ℕ)) → AllByRecursion (λ x. bytes_cmp key x ≡ Less) ks → AllByRecursion UpTo ks → filter ahead (key ∷ ks) ≡ filter before (key ∷ ks) ++ key ∷ []
  here ks less up =
      ap (λ b. cond b (key ∷ filter ahead ks) (filter ahead ks)) it_is_ahead
      ∙ ap (λ (xs : List (List ℕ)). key ∷ xs) (none-passed ahead ks (none_ahead ks less up))
      ∙ ap (λ (xs : List (List ℕ)). xs ++ key ∷ []) (sym (none-passed before ks (none_before ks less)))
      ∙ ap (λ b. cond b (key ∷ filter before ks) (filter before ks) ++ key ∷ []) (sym it_is_not_before)

  lower : (k : List ℕ) (ks : List (List ℕ)) → bytes_cmp k key ≡ Less → filter ahead ks ≡ filter before ks ++ key ∷ [] → filter ahead (k ∷ ks) ≡ filter before (k ∷ ks) ++ key ∷ []
  lower k ks less rest =
      ap (λ b. cond (not (is_passed low false k) && b) (k ∷ filter ahead ks) (filter ahead ks)) (below_lower high k key less below ∙ sym (ap is_lt less))
      ∙ by_test k key (filter ahead ks) (filter before ks) (before k) rest

  last_comes : (ks : List (List ℕ)) → IsStrictlySortedBy bytes_cmp ks → AllByRecursion UpTo ks → Contains ks key → filter ahead ks ≡ filter before ks ++ key ∷ []
  unfolding IsStrictlySortedBy
  last_comes [] s up c = absurd (contains_nothing key c)
  last_comes (k ∷ ks) s up c = by (bytes_cmp k key) refl (last_comes ks s.1 up.1)
    where
      is_later : bytes_cmp k key ≡ Less → Contains ks key
      is_later less =
          ⊎_elim
          (λ same. absurd (no_less_itself key (subst (λ (x : List ℕ). bytes_cmp x key ≡ Less) same less)))
          (λ later. later)
          (contains_cases k key ks c)

      by : (o : Ordering) → bytes_cmp k key ≡ o → (Contains ks key → filter ahead ks ≡ filter before ks ++ key ∷ []) → filter ahead (k ∷ ks) ≡ filter before (k ∷ ks) ++ key ∷ []
      by Less e rest = lower k ks e (rest (is_later e))
      by Equal e rest =
          let same = exact_bytes k key e in
          subst (λ (x : List ℕ). filter ahead (x ∷ ks) ≡ filter before (x ∷ ks) ++ key ∷ []) (sym same)
          (here ks (subst (λ (x : List ℕ). AllByRecursion (λ y. bytes_cmp x y ≡ Less) ks) same s.0) up.1)
      by Greater e rest =
          ⊎_elim
          (λ same. absurd (let tied = tied_itself nat_list_cmp_total key in let more = subst (λ (x : List ℕ). bytes_cmp x key ≡ Greater) same e in cc))
          (λ later. absurd (let less = All-contains (λ x. bytes_cmp k x ≡ Less) ks key (All-from_recursion (λ x. bytes_cmp k x ≡ Less) ks s.0) later in cc))
          (contains_cases k key ks c)

-- ---- the keys of points

module _ (points : List Entry) (low : List ℕ) (high : Option (List ℕ)) where
  abbrev within : List ℕ → Bool
  within x = is_ahead low false high x

  none_by : AllByRecursion (λ (p : Entry). within p.key ≡ false) points → keys_ahead points low false high ≡ []
  none_by h =
      none-passed within (keys_of points)
      (all_keys (λ x. within x ≡ false) points (all-mapped (λ (p : Entry). p.key) (λ x. within x ≡ false) points h))

  pub no_key : AllByRecursion (λ p. is_before high p.key ≡ false) points → keys_ahead points low false high ≡ []
  no_key h =
      none_by (all-map (λ (p : Entry). is_before high p.key ≡ false) (λ (p : Entry). within p.key ≡ false)
      (λ p out. and_none (not (is_passed low false p.key)) (is_below p.key high) (sym (below_alike high p.key) ∙ out)) points h)

  module _ (key : List ℕ) (greatest : IsGreatestKey points high key) where
    passed_too : (x : List ℕ) → is_passed low false key ≡ true → is_le (bytes_cmp x key) ≡ true → is_passed low false x ≡ true
    passed_too x passed le = by (bytes_cmp x key) refl le
      where
        by : (o : Ordering) → bytes_cmp x key ≡ o → is_le o ≡ true → is_passed low false x ≡ true
        by Less e f = key_passed low x key false e passed
        by Equal e f = subst (λ (y : List ℕ). is_passed low false y ≡ true) (sym (exact_bytes x key e)) passed
        by Greater e f = absurd (false≢true f)

    low_by : (x : List ℕ) (b : Bool) → is_before high x ≡ b → is_passed low false key ≡ true → (is_before high x ≡ true → is_le (bytes_cmp x key) ≡ true) → within x ≡ false
    low_by x true e passed up = ap (λ b. not b && is_below x high) (passed_too x passed (up e))
    low_by x false e passed up = and_none (not (is_passed low false x)) (is_below x high) (sym (below_alike high x) ∙ e)

    pub too_low : is_passed low false key ≡ true → keys_ahead points low false high ≡ []
    too_low passed =
        none_by (all-map (λ (p : Entry). is_before high p.key ≡ true → is_le (bytes_cmp p.key key) ≡ true) (λ (p : Entry). within p.key ≡ false)
        (λ p up. low_by p.key (is_before high p.key) refl passed up) points greatest.greatest)

    is_a_key : Contains (keys_of points) key
    is_a_key =
        let ks = keys_of points in
        let own = each_key (Contains ks) points (recursion_from_All (Contains ks) ks (All-contains_itself ks)) in
        All-contains (Contains ks) (keys points) key (All-from_recursion (Contains ks) (keys points) own) greatest.of_a_point

    up_to : AllByRecursion (λ x. is_below x high ≡ true → is_le (bytes_cmp x key) ≡ true) (keys_of points)
    up_to =
        all_keys (λ x. is_below x high ≡ true → is_le (bytes_cmp x key) ≡ true) points
        (all-mapped (λ (p : Entry). p.key) (λ x. is_below x high ≡ true → is_le (bytes_cmp x key) ≡ true) points
        (all-map (λ (p : Entry). is_before high p.key ≡ true → is_le (bytes_cmp p.key key) ≡ true) (λ (p : Entry). is_below p.key high ≡ true → is_le (bytes_cmp p.key key) ≡ true)
        (λ p up under. up (below_alike high p.key ∙ under)) points greatest.greatest))

    pub comes_last : is_passed low false key ≡ false → reverse (keys_ahead points low false high) ≡ key ∷ reverse (keys_ahead points low false (Some key))
    comes_last fresh =
        ap reverse (last_comes low high key fresh (sym (below_alike high key) ∙ greatest.below) (keys_of points) (keys_sorted points) up_to is_a_key)
        ∙ reverse-append (keys_ahead points low false (Some key)) (key ∷ [])
