-- Keys that a newer run's range deletion hides have no value.
use Rattle.std.proofs.Common.{◌≡◌, ℕ, zero, suc, ◌+◌, ◌<◌, Bool, true, false, cond, List, [], ◌∷◌, ◌++◌, length, get_or, take, filter, Option, Some, None, ◌⊎◌, inl, inr, ⊎_elim, refl, sym, ap, ◌∙◌, subst, arith}
use Rattle.std.specs.Prelude.{◌&&◌, ◌||◌, nat_le, option_map, IfSome}
use Rattle.std.specs.List.{AllByRecursion, flat_map, find, list_any}
use Rattle.std.specs.declared.cmp.Ordering.TheVariants.{Less}
use Rattle.std.specs.Ordering.{is_lt, is_le}
use Rattle.std.specs.Cmp.Lexicographic.{same_text}
use Rattle.std.specs.BTreeMap.Comparable.{le_lt_trans}
use Rattle.std.proofs.lemmas.Bool.{false≢true}
use Rattle.std.proofs.lemmas.Cmp.{nat_list_cmp_total}
use Rattle.std.proofs.lemmas.List.{take_more}
use Rattle.uc_bytes.specs.Bytes.{bytes_cmp, same_bytes}
use Rattle.uc_oper.specs.Operation.{Operation}
use Rattle.uc_oper.specs.Composition.{applied, composed}
use Rattle.uc_oper.specs.declared.effect.Effect.{Effect}
use Rattle.uc_oper.specs.declared.effect.Effect.TheVariants.{Keep, Set}
use Rattle.uc_bytes.specs.declared.write.Write.{Write}
use Rattle.uc_model.specs.Meaning.{effect_on, value_of}
use Rattle.uc_run_entry.specs.declared.entry.Entry.{Entry}
use Rattle.uc_run_entry.specs.Fragment.{Fragment}
use Rattle.uc_run_entry.specs.Run.{Contents, IsRun, covers}
use Rattle.uc_run_entry.specs.Seek.{is_passed}
use Rattle.uc_run_entry.specs.PlainList.{plain_list}
use Rattle.uc_run_entry.specs.Lookup.{is_visible, above_newest, effect_found}
use Rattle.uc_run.specs.Cursors.{Standing}
use Rattle.uc_run.specs.Hiding.{hides}
use Rattle.uc_run.specs.NextKey.{IsNextKey}
use Rattle.uc_run.specs.Heads.{lesser_of}
use Rattle.uc_compact.proofs.Keys.{no_less_itself, lt_of, le_of_not, lt_le}
use Rattle.uc_compact.proofs.Lists.{all-append, all-front, all-back}
use Rattle.uc_compact.specs.Inputs.{writes_of, points_of}
use Rattle.uc_compact.proofs.NestedLists.{all-map, none-passed}
use Rattle.uc_query_read.specs.Walks.{runs_of, IsOfRun}
use Rattle.uc_query_read.specs.Dead.{IsHidden, AreDead}
use Rattle.uc_query_read.proofs.Walking.{and_left, and_right, and_none, above}
use denote.Ref.{Bor}

-- one element more of which it holds
pub all_more : {X : Type 0} (P : X → Type 0) (xs : List X) (i : ℕ) (x : X) → i < length xs → x ≡ get_or xs i x → AllByRecursion P (take i xs) → P x → AllByRecursion P (take (i + 1) xs)
all_more P xs i x lt is h p =
    subst (AllByRecursion P) (sym (take_more xs i x lt ∙ ap (λ (y : _). take i xs ++ y ∷ []) (sym is))) (all-append P (take i xs) (x ∷ []) h (p, tt))

-- ---- what a run without points of a key does to it

module _ (m : Operation) (at : ℕ) where
  abbrev seen : List ℕ → List ℕ
  seen seqs = filter (λ seq. nat_le seq at) seqs

  nothing_or_cleared : (seqs : List ℕ) → (above_newest m [] seqs ≡ Keep) ⊎ (above_newest m [] seqs ≡ Set None)
  nothing_or_cleared [] = inl refl
  nothing_or_cleared (seq ∷ seqs) = inr refl

  cleared_by : (seq : ℕ) (seqs : List ℕ) (b : Bool) → nat_le seq at ≡ b → (b || list_any (λ s. nat_le s at) seqs) ≡ true → (list_any (λ s. nat_le s at) seqs ≡ true → above_newest m [] (seen seqs) ≡ Set None) → above_newest m [] (cond b (seq ∷ seen seqs) (seen seqs)) ≡ Set None
  cleared_by seq seqs true e some rest = refl
  cleared_by seq seqs false e some rest = rest some

  -- one that is seen clears the key
  cleared : (seqs : List ℕ) → list_any (λ s. nat_le s at) seqs ≡ true → above_newest m [] (seen seqs) ≡ Set None
  cleared [] some = absurd (false≢true some)
  cleared (seq ∷ seqs) some = cleared_by seq seqs (nat_le seq at) refl some (cleared seqs)

  module _ (x : List ℕ) where
    abbrev pub IsOther : Entry → Type 0
    IsOther p = same_bytes p.key x ≡ false

    no_points : (ps : List Entry) → AllByRecursion IsOther ps → filter (is_visible x at) ps ≡ []
    no_points ps h =
        none-passed (is_visible x at) ps (all-map IsOther (λ (p : Entry). is_visible x at p ≡ false) (λ p other. and_none (nat_le p.seq at) (same_bytes p.key x) other) ps h)

    abbrev over : List Fragment → List ℕ
    over fs = flat_map (λ f. f.seqs) (filter (λ f. covers f x) fs)

    found_without : (run : Contents) → AllByRecursion IsOther run.points → effect_found m run x at ≡ above_newest m [] (seen (over run.fragments))
    found_without run h = ap (λ (ps : List Entry). above_newest m ps (seen (over run.fragments))) (no_points run.points h)

-- ---- a fragment that hides a key hides those after it that it covers

pub any_later : (test : ℕ → Bool) (xs ys : List ℕ) → list_any test ys ≡ true → list_any test (xs ++ ys) ≡ true
any_later test [] ys h = h
any_later test (x ∷ xs) ys h = by (test x) (any_later test xs ys h)
  where
    by : (b : Bool) → list_any test (xs ++ ys) ≡ true → (b || list_any test (xs ++ ys)) ≡ true
    by true rest = refl
    by false rest = rest

pub any_first : (test : ℕ → Bool) (xs ys : List ℕ) → list_any test xs ≡ true → list_any test (xs ++ ys) ≡ true
any_first test [] ys h = absurd (false≢true h)
any_first test (x ∷ xs) ys h = by (test x) h (any_first test xs ys)
  where
    by : (b : Bool) → (b || list_any test xs) ≡ true → (list_any test xs ≡ true → list_any test (xs ++ ys) ≡ true) → (b || list_any test (xs ++ ys)) ≡ true
    by true some rest = refl
    by false some rest = rest some

pub both : (a b : Bool) → a ≡ true → b ≡ true → (a && b) ≡ true
both true b e f = f
both false b e f = absurd (false≢true e)

module _ (key x end : List ℕ) (at : ℕ) (behind : bytes_cmp key x ≡ Less) (before : bytes_cmp x end ≡ Less) where
  abbrev test : ℕ → Bool
  test seq = nat_le seq at

  abbrev seqs_over : List Fragment → List ℕ
  seqs_over fs = flat_map (λ f. f.seqs) (filter (λ f. covers f x) fs)

  -- it covers them
  covers_too : (f : Fragment) → covers f key ≡ true → f.end ≡ end → covers f x ≡ true
  covers_too f e same =
      both (is_le (bytes_cmp f.begin x)) (is_lt (bytes_cmp x f.end))
      (ap is_le (le_lt_trans nat_list_cmp_total f.begin key x (and_left (is_le (bytes_cmp f.begin key)) (is_lt (bytes_cmp key f.end)) e) behind))
      (ap (λ (k : List ℕ). is_lt (bytes_cmp x k)) same ∙ ap is_lt before)

  here : (f : Fragment) (fs : List Fragment) → hides at key f ≡ true → f.end ≡ end → list_any test (seqs_over (f ∷ fs)) ≡ true
  here f fs e same =
      ap (λ b. list_any test (flat_map (λ (g : Fragment). g.seqs) (cond b (f ∷ filter (λ g. covers g x) fs) (filter (λ g. covers g x) fs))))
      (covers_too f (and_left (covers f key) (list_any test f.seqs) e) same)
      ∙ any_first test f.seqs (seqs_over fs) (and_right (covers f key) (list_any test f.seqs) e)

  later : (f : Fragment) (fs : List Fragment) (b : Bool) → list_any test (seqs_over fs) ≡ true → list_any test (flat_map (λ g. g.seqs) (cond b (f ∷ filter (λ g. covers g x) fs) (filter (λ g. covers g x) fs))) ≡ true
  later f fs true h = any_later test f.seqs (seqs_over fs) h
  later f fs false h = h

  seen_by : (f : Fragment) (fs : List Fragment) (b : Bool) → hides at key f ≡ b → option_map (λ g. g.end) (cond b (Some f) (find (hides at key) fs)) ≡ Some end → (option_map (λ g. g.end) (find (hides at key) fs) ≡ Some end → list_any test (seqs_over fs) ≡ true) → list_any test (seqs_over (f ∷ fs)) ≡ true
  seen_by f fs true e found rest = here f fs e (cc)
  seen_by f fs false e found rest = later f fs (covers f x) (rest found)

  pub seen_over : (fs : List Fragment) → option_map (λ g. g.end) (find (hides at key) fs) ≡ Some end → list_any test (seqs_over fs) ≡ true
  seen_over [] found = absurd (cc)
  seen_over (f ∷ fs) found = seen_by f fs (hides at key f) refl found (seen_over fs)

-- a range deletion of a run that is seen covers a key
abbrev pub IsSeenOver : List ℕ → ℕ → Contents → Type 0
IsSeenOver x at run = list_any (λ seq. nat_le seq at) (flat_map (λ f. f.seqs) (filter (λ f. covers f x) run.fragments)) ≡ true

-- ---- runs without points of a key, of which the last hides it

module _ (m : Operation) (at : ℕ)
    (law : (run : Contents) (key : List ℕ) (at : ℕ) → IsRun run.low run.high run.points run.fragments → effect_on m (plain_list run) key at ≡ effect_found m run key at)
    (parts : (older newer : List Write) (key : List ℕ) (at : ℕ) → effect_on m (older ++ newer) key at ≡ composed m (effect_on m older key at) (effect_on m newer key at))
    (x : List ℕ) where
  abbrev effect : List Standing → Effect
  effect cs = effect_on m (writes_of (runs_of cs)) x at

  abbrev own : Standing → Effect
  own c = effect_on m (plain_list c.run) x at

  own_without : (c : Standing) → IsOfRun c → AllByRecursion (IsOther m at x) c.run.points → own c ≡ above_newest m [] (seen m at (over m at x c.run.fragments))
  own_without c is h = law c.run x at is ∙ found_without m at x c.run h

  cleared_here : (c : Standing) (cs : List Standing) → IsOfRun c → AllByRecursion (IsOther m at x) c.run.points → IsSeenOver x at c.run → effect (c ∷ cs) ≡ Set None
  cleared_here c cs is h seen =
      parts (writes_of (runs_of cs)) (plain_list c.run) x at
      ∙ ap (composed m (effect cs)) (own_without c is h ∙ cleared m at (over m at x c.run.fragments) seen)

  cleared_below : (c : Standing) (cs : List Standing) → IsOfRun c → AllByRecursion (IsOther m at x) c.run.points → effect cs ≡ Set None → effect (c ∷ cs) ≡ Set None
  cleared_below c cs is h rest =
      parts (writes_of (runs_of cs)) (plain_list c.run) x at
      ∙ ap (λ (e : Effect). composed m e (own c)) rest
      ∙ ap (composed m (Set None)) (own_without c is h)
      ∙ ⊎_elim (λ keeps. ap (composed m (Set None)) keeps) (λ clears. ap (composed m (Set None)) clears) (nothing_or_cleared m at (seen m at (over m at x c.run.fragments)))

  pub all_cleared : (cs : List Standing) (i : ℕ) → i < length cs → ((d : Standing) → IsSeenOver x at (get_or cs i d).run) → AllByRecursion IsOfRun (take (suc i) cs) → AllByRecursion (IsOther m at x) (points_of (runs_of (take (suc i) cs))) → effect cs ≡ Set None
  all_cleared [] i lt found are other = absurd (omega (arith, lt))
  all_cleared (c ∷ cs) zero lt found are other = cleared_here c cs are.0 (all-front (IsOther m at x) c.run.points [] other) (found c)
  all_cleared (c ∷ cs) (suc i) lt found are other =
      cleared_below c cs are.0 (all-front (IsOther m at x) c.run.points (points_of (runs_of (take (suc i) cs))) other)
      (all_cleared cs i (omega (arith, lt)) (λ d. found d) are.1 (all-back (IsOther m at x) c.run.points (points_of (runs_of (take (suc i) cs))) other))

-- ---- up to the end and the next key of these runs none of their points stands

pub differs : (k y : List ℕ) → bytes_cmp k y ≡ Less → same_bytes k y ≡ false
differs k y less = by (same_bytes k y) refl
  where
    by : (b : Bool) → same_bytes k y ≡ b → b ≡ false
    by true e = absurd (no_less_itself k (subst (λ (z : List ℕ). bytes_cmp k z ≡ Less) (sym (same_text k y (sym e))) less))
    by false e = refl

pub differs_back : (k y : List ℕ) → bytes_cmp y k ≡ Less → same_bytes k y ≡ false
differs_back k y less = by (same_bytes k y) refl
  where
    by : (b : Bool) → same_bytes k y ≡ b → b ≡ false
    by true e = absurd (no_less_itself y (subst (λ (z : List ℕ). bytes_cmp y z ≡ Less) (same_text k y (sym e)) less))
    by false e = refl

-- what is below the lesser of two keys is below both
below_both : (x end k bound : List ℕ) (b : Bool) → is_lt (bytes_cmp k end) ≡ b → Some bound ≡ cond b (Some k) (Some end) → bytes_cmp x bound ≡ Less → (bytes_cmp x end ≡ Less) × (bytes_cmp x k ≡ Less)
below_both x end k bound true e is less =
    let same : bound ≡ k = cc in
    let low = subst (λ (y : List ℕ). bytes_cmp x y ≡ Less) same less in
    (nat_list_cmp_total.trans x k end low (lt_of k end e), low)
below_both x end k bound false e is less =
    let same : bound ≡ end = cc in
    let low = subst (λ (y : List ℕ). bytes_cmp x y ≡ Less) same less in
    (low, lt_le x end k low (le_of_not k end e))

below_end : (x end bound : List ℕ) (next : Option (List ℕ)) → Some bound ≡ lesser_of (Some end) next → bytes_cmp x bound ≡ Less → bytes_cmp x end ≡ Less
below_end x end bound None is less = let same : bound ≡ end = cc in subst (λ (y : List ℕ). bytes_cmp x y ≡ Less) same less
below_end x end bound (Some k) is less = (below_both x end k bound (is_lt (bytes_cmp k end)) refl is less).0

-- and what is above a key that is below both is above it
above_by : (key end k bound : List ℕ) (b : Bool) → Some bound ≡ cond b (Some k) (Some end) → bytes_cmp key end ≡ Less → bytes_cmp key k ≡ Less → bytes_cmp key bound ≡ Less
above_by key end k bound true is less low = let same : k ≡ bound = cc in subst (λ (y : List ℕ). bytes_cmp key y ≡ Less) same low
above_by key end k bound false is less low = let same : end ≡ bound = cc in subst (λ (y : List ℕ). bytes_cmp key y ≡ Less) same less

module _ (key : List ℕ) (points : List Entry) where
  above_it : (end bound : List ℕ) (next : Option (List ℕ)) → Some bound ≡ lesser_of (Some end) next → IsNextKey points key true next → bytes_cmp key end ≡ Less → bytes_cmp key bound ≡ Less
  above_it end bound None is least less = let same : end ≡ bound = cc in subst (λ (y : List ℕ). bytes_cmp key y ≡ Less) same less
  above_it end bound (Some k) is least less = above_by key end k bound (is_lt (bytes_cmp k end)) is less (above k key least.not_passed)

  module _ (m : Operation) (at : ℕ) (x : List ℕ) (behind : bytes_cmp key x ≡ Less) where
    lower_differs : (k : List ℕ) → is_le (bytes_cmp k key) ≡ true → same_bytes k x ≡ false
    lower_differs k le = differs k x (le_lt_trans nat_list_cmp_total k key x le behind)

    differs_by : (k y : List ℕ) (b : Bool) → is_passed key true y ≡ b → bytes_cmp x k ≡ Less → (is_passed key true y ≡ false → is_le (bytes_cmp k y) ≡ true) → same_bytes y x ≡ false
    differs_by k y true e less from = lower_differs y e
    differs_by k y false e less from = differs_back y x (lt_le x k y less (from e))

    others : (end bound : List ℕ) (next : Option (List ℕ)) → Some bound ≡ lesser_of (Some end) next → IsNextKey points key true next → bytes_cmp x bound ≡ Less → AllByRecursion (IsOther m at x) points
    others end bound None is least less =
        all-map (λ (p : Entry). is_passed key true p.key ≡ true) (IsOther m at x) (λ p passed. lower_differs p.key passed) points least
    others end bound (Some k) is least less =
        all-map (λ (p : Entry). is_passed key true p.key ≡ false → is_le (bytes_cmp k p.key) ≡ true) (IsOther m at x)
        (λ p from. differs_by k p.key (is_passed key true p.key) refl (below_both x end k bound (is_lt (bytes_cmp k end)) refl is less).1 from) points least.least

-- ---- so these keys are dead

module _ (key end : List ℕ) (at : ℕ) where
  end_by : (f : Fragment) (fs : List Fragment) (b : Bool) → hides at key f ≡ b → option_map (λ g. g.end) (cond b (Some f) (find (hides at key) fs)) ≡ Some end → (option_map (λ g. g.end) (find (hides at key) fs) ≡ Some end → bytes_cmp key end ≡ Less) → bytes_cmp key end ≡ Less
  end_by f fs true e found rest =
      let same : f.end ≡ end = cc in
      lt_of key end
      (sym (ap (λ (k : List ℕ). is_lt (bytes_cmp key k)) same)
      ∙ and_right (is_le (bytes_cmp f.begin key)) (is_lt (bytes_cmp key f.end)) (and_left (covers f key) (list_any (λ seq. nat_le seq at) f.seqs) e))
  end_by f fs false e found rest = rest found

  -- a fragment over a key ends above it
  end_above : (fs : List Fragment) → option_map (λ g. g.end) (find (hides at key) fs) ≡ Some end → bytes_cmp key end ≡ Less
  end_above [] found = absurd (cc)
  end_above (f ∷ fs) found = end_by f fs (hides at key f) refl found (end_above fs)

pub all_taken : {X : Type 0} (P : X → Type 0) (n : ℕ) (xs : List X) → AllByRecursion P xs → AllByRecursion P (take n xs)
all_taken P zero xs h = tt
all_taken P (suc n) [] h = tt
all_taken P (suc n) (x ∷ xs) h = (h.0, all_taken P n xs h.1)

module _ (m : Operation)
    (law : (run : Contents) (key : List ℕ) (at : ℕ) → IsRun run.low run.high run.points run.fragments → effect_on m (plain_list run) key at ≡ effect_found m run key at)
    (parts : (older newer : List Write) (key : List ℕ) (at : ℕ) → effect_on m (older ++ newer) key at ≡ composed m (effect_on m older key at) (effect_on m newer key at))
    (gives : (writes : List Write) (key : List ℕ) (at : ℕ) → applied m (effect_on m writes key at) None ≡ value_of m writes key at)
    (cursors : List Standing) (key : List ℕ) (at place : ℕ) (end : List ℕ) (hidden : IsHidden cursors key at place end)
    (next : Option (List ℕ)) (least : IsNextKey (points_of (runs_of (take (place + 1) cursors))) key true next) where
  one : place + 1 ≡ suc place
  one = omega arith

  abbrev any : Standing
  any = record { run = record { low = 0; high = 0; points = []; fragments = [] }; place = 0 }

  value_by : (bound x : List ℕ) → Some bound ≡ lesser_of (Some end) next → bytes_cmp key x ≡ Less → bytes_cmp x bound ≡ Less → value_of m (writes_of (runs_of cursors)) x at ≡ None
  value_by bound x is behind less =
      let other = others key (points_of (runs_of (take (place + 1) cursors))) m at x behind end bound next is least less in
      sym (gives (writes_of (runs_of cursors)) x at)
      ∙ ap (λ (e : Effect). applied m e None)
      (all_cleared m at law parts x cursors place hidden.within (λ d. seen_over key x end at behind (below_end x end bound next is less) (get_or cursors place d).run.fragments (hidden.hides d))
      (subst (λ n. AllByRecursion IsOfRun (take n cursors)) one hidden.are_runs)
      (subst (λ n. AllByRecursion (IsOther m at x) (points_of (runs_of (take n cursors)))) one other))

  are_dead : (bound : List ℕ) → Some bound ≡ lesser_of (Some end) next → AreDead m (writes_of (runs_of cursors)) at key bound
  are_dead bound is = record {
    above = above_it key (points_of (runs_of (take (place + 1) cursors))) end bound next is least (end_above key end at (get_or cursors place any).run.fragments (hidden.hides any));
    dead = λ x behind less. value_by bound x is behind less;
  }

  pub found_dead : (found : Option (Bor (List ℕ))) → option_map (λ k. k.now) found ≡ lesser_of (Some end) next → IfSome found (λ bound. AreDead m (writes_of (runs_of cursors)) at key bound.now)
  found_dead None e = tt
  found_dead (Some bound) e = are_dead bound.now e
