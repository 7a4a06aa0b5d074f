-- Keeps that come and go leave a version.
use Rattle.std.proofs.Common.{◌≡◌, ◌⊎◌, inl, inr, ⊎_elim, ℕ, ◌<◌, ◌≤◌, Bool, true, false, cond, eqb, ltb, not, ◌||◌, List, [], ◌∷◌, ◌++◌, Contains, refl, sym, ◌∙◌, subst, arith}
use Rattle.std.specs.Prelude.{Result, Ok, Err, OnOk, OnErr}
use Rattle.std.specs.List.{AllByRecursion, list_any, filter}
use Rattle.std.specs.List.Sorted.{IsStrictlySortedBy}
use Rattle.std.specs.Ordering.{nat_cmp}
use Rattle.std.specs.declared.cmp.Ordering.TheVariants.{Less}
use Rattle.std.proofs.lemmas.Bool.Decides.{nat_tests}
use Rattle.std.proofs.lemmas.List.Elements.{Contains-push_cases}
use Rattle.uc_claims.specs.Claims.{times}
use Rattle.uc_claims.proofs.Times.{list_any-times, times-from_Contains, Contains-from_times, times-filter}
use Rattle.uc_compact.proofs.NestedLists.{all-append, all-filter}
use Rattle.uc_compact.proofs.OutputRun.{sorted-append}
use Rattle.uc_version_state.specs.Versions.{Stored, IsVersion}
use Rattle.uc_version_state.specs.Snapshots.{with_keep, without_keep, kept, released}

-- ---- one more

some_above : (n : ℕ) → ltb 0 n ≡ true → 0 < n
some_above n e = grind (arith, nat_tests)

is_less : (a b : ℕ) → a < b → nat_cmp a b ≡ Less
is_less a b lt = grind (arith, nat_tests)

-- keeps that aren't the last sequence are below it
next_below : (last k : ℕ) (ks : List ℕ) (b : Bool) → eqb k last ≡ b → k ≤ last → (list_any (λ keep. eqb keep last) ks ≡ false → AllByRecursion (λ keep. AllByRecursion (λ next. nat_cmp keep next ≡ Less) (last ∷ [])) ks) →
    (b || list_any (λ keep. eqb keep last) ks) ≡ false → AllByRecursion (λ keep. AllByRecursion (λ next. nat_cmp keep next ≡ Less) (last ∷ [])) (k ∷ ks)
next_below last k ks true e le rest none = absurd cc
next_below last k ks false e le rest none = ((is_less k last (grind (arith, nat_tests)), tt), rest none)

below_last : (last : ℕ) (keeps : List ℕ) → AllByRecursion (λ keep. keep ≤ last) keeps → list_any (λ keep. eqb keep last) keeps ≡ false → AllByRecursion (λ keep. AllByRecursion (λ next. nat_cmp keep next ≡ Less) (last ∷ [])) keeps
below_last last [] below other = tt
below_last last (k ∷ ks) below other = next_below last k ks (eqb k last) refl below.0 (λ none. below_last last ks below.1 none) other

alone_sorted : (last : ℕ) → IsStrictlySortedBy nat_cmp (last ∷ [])
unfolding IsStrictlySortedBy
alone_sorted last = (tt, tt)

keeps_on : (P : List ℕ → Type 0) (last : ℕ) (keeps : List ℕ) → P keeps → (list_any (λ keep. eqb keep last) keeps ≡ false → P (keeps ++ last ∷ [])) → P (with_keep last keeps)
keeps_on P last keeps there more = by_test (list_any (λ keep. eqb keep last) keeps) refl
  where
    by_test : (b : Bool) → list_any (λ keep. eqb keep last) keeps ≡ b → P (cond b keeps (keeps ++ last ∷ []))
    by_test true e = there
    by_test false e = more e

pub kept_is_version : (v : Stored) → IsVersion v → IsVersion (kept v)
kept_is_version v is = record {
  runs = is.runs;
  newest_first = is.newest_first;
  below = is.below;
  keeps_rise = keeps_on (IsStrictlySortedBy nat_cmp) v.last v.keeps is.keeps_rise
      (λ other. sorted-append nat_cmp v.keeps (v.last ∷ []) is.keeps_rise (alone_sorted v.last) (below_last v.last v.keeps is.keeps_below other));
  keeps_below = keeps_on (AllByRecursion (λ keep. keep ≤ v.last)) v.last v.keeps is.keeps_below
      (λ other. all-append (λ keep. keep ≤ v.last) v.keeps (v.last ∷ []) is.keeps_below (omega arith, tt));
  last_below = is.last_below;
  slots_apart = is.slots_apart;
  slots_below = is.slots_below;
  ids_apart = is.ids_apart;
  ids_given = is.ids_given;
  id_below = is.id_below;
  limit_some = is.limit_some;
}

-- one that isn't among them is appended
pub is_new : (seq : ℕ) (keeps : List ℕ) → (Contains keeps seq → ⊥) → keeps ++ seq ∷ [] ≡ with_keep seq keeps
is_new seq keeps none = by_test (list_any (λ keep. eqb keep seq) keeps) refl
  where
    by_test : (b : Bool) → list_any (λ keep. eqb keep seq) keeps ≡ b → keeps ++ seq ∷ [] ≡ cond b keeps (keeps ++ seq ∷ [])
    by_test true e = absurd (none (Contains-from_times seq keeps (some_above (times seq keeps) (sym (list_any-times seq keeps) ∙ e))))
    by_test false e = refl

pub is_old : (seq : ℕ) (keeps : List ℕ) → Contains keeps seq → keeps ≡ with_keep seq keeps
is_old seq keeps there = by_test (list_any (λ keep. eqb keep seq) keeps) refl
  where
    by_test : (b : Bool) → list_any (λ keep. eqb keep seq) keeps ≡ b → keeps ≡ cond b keeps (keeps ++ seq ∷ [])
    by_test true e = refl
    by_test false e = absurd (let some = times-from_Contains seq keeps there in let none = sym (list_any-times seq keeps) ∙ e in grind (arith, nat_tests))

-- whether it could be kept or not
pub either_is_version : {T E : Type 0} (v : Stored) (r : Result T E) (keeps : List ℕ) → IsVersion v → OnOk r (keeps ≡ with_keep v.last v.keeps) → OnErr r (keeps ≡ v.keeps) → IsVersion (record v { keeps = keeps })
either_is_version v (Ok done) keeps is ok err = subst (λ (ks : List ℕ). IsVersion (record v { keeps = ks })) (sym ok) (kept_is_version v is)
either_is_version v (Err error) keeps is ok err = subst (λ (ks : List ℕ). IsVersion (record v { keeps = ks })) (sym err) is

-- a keep was one before, or is the one that came
pub among_kept : (seq : ℕ) (keeps : List ℕ) (at : ℕ) → Contains (with_keep seq keeps) at → Contains keeps at ⊎ (at ≡ seq)
among_kept seq keeps at =
    keeps_on (λ (ks : List ℕ). Contains ks at → Contains keeps at ⊎ (at ≡ seq)) seq keeps (λ has. inl has)
    (λ other has. ⊎_elim (λ (c : Contains keeps at). inl c) (λ (e : seq ≡ at). inr (sym e)) (Contains-push_cases keeps seq at has))

-- ---- one less

sorted_next : (x : ℕ) (xs : List ℕ) (b : Bool) → AllByRecursion (λ y. nat_cmp x y ≡ Less) xs → IsStrictlySortedBy nat_cmp xs → IsStrictlySortedBy nat_cmp (cond b (x ∷ xs) xs)
unfolding IsStrictlySortedBy
sorted_next x xs true above h = (above, h)
sorted_next x xs false above h = h

sorted-filter : (p : ℕ → Bool) (xs : List ℕ) → IsStrictlySortedBy nat_cmp xs → IsStrictlySortedBy nat_cmp (filter p xs)
unfolding IsStrictlySortedBy
sorted-filter p [] h = tt
sorted-filter p (x ∷ xs) h = sorted_next x (filter p xs) (p x) (all-filter (λ y. nat_cmp x y ≡ Less) p xs h.0) (sorted-filter p xs h.1)

pub released_is_version : (seq : ℕ) (v : Stored) → IsVersion v → IsVersion (released seq v)
released_is_version seq v is = record {
  runs = is.runs;
  newest_first = is.newest_first;
  below = is.below;
  keeps_rise = sorted-filter (λ keep. not (eqb keep seq)) v.keeps is.keeps_rise;
  keeps_below = all-filter (λ keep. keep ≤ v.last) (λ keep. not (eqb keep seq)) v.keeps is.keeps_below;
  last_below = is.last_below;
  slots_apart = is.slots_apart;
  slots_below = is.slots_below;
  ids_apart = is.ids_apart;
  ids_given = is.ids_given;
  id_below = is.id_below;
  limit_some = is.limit_some;
}

-- what is kept still was kept before
pub among_released : (seq : ℕ) (keeps : List ℕ) (at : ℕ) → Contains (without_keep seq keeps) at → Contains keeps at
among_released seq keeps at has = Contains-from_times at keeps (by_test (not (eqb at seq)) (times-filter (λ keep. not (eqb keep seq)) at keeps) (times-from_Contains at (without_keep seq keeps) has))
  where
    by_test : (b : Bool) → times at (without_keep seq keeps) ≡ cond b (times at keeps) 0 → 0 < times at (without_keep seq keeps) → 0 < times at keeps
    by_test true e some = omega (arith, e, some)
    by_test false e some = absurd (omega (arith, e, some))
