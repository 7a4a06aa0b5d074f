-- The point at the place of a seek has the least key that isn't passed over.
use Rattle.std.proofs.Common.{◌≡◌, ℕ, suc, Bool, true, false, cond, List, [], ◌∷◌, length, filter, Option, Some, None, ⊎_elim, refl, sym, ap, ◌∙◌, subst, arith}
use Rattle.std.specs.Prelude.{option_map}
use Rattle.std.specs.List.{AllByRecursion, slice_get}
use Rattle.std.specs.List.Sorted.{IsStrictlySortedBy}
use Rattle.std.specs.declared.cmp.Ordering.TheVariants.{Less}
use Rattle.std.specs.Ordering.{is_le}
use Rattle.std.proofs.lemmas.Bool.{false≢true}
use Rattle.std.proofs.lemmas.Cmp.{nat_list_cmp_total, tied_itself}
use Rattle.std.proofs.lemmas.List.Sums.{length-filter}
use Rattle.uc_bytes.specs.Bytes.{bytes_cmp}
use Rattle.uc_run_entry.specs.declared.entry.Entry.{Entry}
use Rattle.uc_run_entry.specs.Order.{entry_cmp}
use Rattle.uc_run_entry.specs.Seek.{is_passed, seek_place}
use Rattle.uc_run.specs.NextKey.{IsLeastKey, IsNextKey}
use Rattle.uc_run.proofs.Order.{key_before, passed_before}

module _ (low : List ℕ) (strict : Bool) where
  abbrev test : Entry → Bool
  test p = is_passed low strict p.key

  abbrev IsAtOrAbove : Entry → Entry → Type 0
  IsAtOrAbove p q = is_passed low strict q.key ≡ false → is_le (bytes_cmp p.key q.key) ≡ true

  key_le : (p q : Entry) → entry_cmp p q ≡ Less → is_le (bytes_cmp p.key q.key) ≡ true
  key_le p q less =
      ⊎_elim
      (λ below. ap is_le below)
      (λ same. subst (λ (key : List ℕ). is_le (bytes_cmp p.key key) ≡ true) same (ap is_le (tied_itself nat_list_cmp_total p.key)))
      (key_before p q less)

  all_above : (p : Entry) (qs : List Entry) → AllByRecursion (λ q. entry_cmp p q ≡ Less) qs → AllByRecursion (IsAtOrAbove p) qs
  all_above p [] h = tt
  all_above p (q ∷ qs) h = ((λ asked. key_le p q h.0), all_above p qs h.1)

  -- after a point that isn't passed over none is
  none_passed : (p : Entry) (qs : List Entry) → test p ≡ false → AllByRecursion (λ q. entry_cmp p q ≡ Less) qs → length (filter test qs) ≡ 0
  none_passed p [] e h = refl
  none_passed p (q ∷ qs) e h = by (test q) refl (none_passed p qs e h.1)
    where
      by : (b : Bool) → test q ≡ b → length (filter test qs) ≡ 0 → length (cond b (q ∷ filter test qs) (filter test qs)) ≡ 0
      by true passed rest = absurd (false≢true (sym e ∙ passed_before low strict p q h.0 passed))
      by false ahead rest = rest

  later : (p : Entry) (ps : List Entry) (found : Option (List ℕ)) → test p ≡ true → IsNextKey ps low strict found → IsNextKey (p ∷ ps) low strict found
  later p ps None e next = (e, next)
  later p ps (Some key) e next = record {
    of_a_point = (suc next.of_a_point.0, omega (arith, next.of_a_point.1), next.of_a_point.2);
    not_passed = next.not_passed;
    least = ((λ ahead. absurd (false≢true (sym ahead ∙ e))), next.least);
  }

  here : (p : Entry) (ps : List Entry) → test p ≡ false → AllByRecursion (λ q. entry_cmp p q ≡ Less) ps → IsLeastKey (p ∷ ps) low strict p.key
  here p ps e h = record {
    of_a_point = (0, omega arith, refl);
    not_passed = e;
    least = ((λ ahead. ap is_le (tied_itself nat_list_cmp_total p.key)), all_above p ps h);
  }

  abbrev key_at : List Entry → ℕ → Option (List ℕ)
  key_at ps n = option_map (λ p. p.key) (slice_get ps n)

  by_filter : (ps : List Entry) → IsStrictlySortedBy entry_cmp ps → IsNextKey ps low strict (key_at ps (length (filter test ps)))
  unfolding IsStrictlySortedBy
  by_filter [] h = tt
  by_filter (p ∷ ps) h = by (test p) refl (by_filter ps h.1)
    where
      by : (b : Bool) → test p ≡ b → IsNextKey ps low strict (key_at ps (length (filter test ps))) → IsNextKey (p ∷ ps) low strict (key_at (p ∷ ps) (length (cond b (p ∷ filter test ps) (filter test ps))))
      by true e next = later p ps (key_at ps (length (filter test ps))) e next
      by false e next = subst (λ n. IsNextKey (p ∷ ps) low strict (key_at (p ∷ ps) n)) (sym (none_passed p ps e h.0)) (here p ps e h.0)

  pub next_key : (ps : List Entry) → IsStrictlySortedBy entry_cmp ps → IsNextKey ps low strict (key_at ps (seek_place ps low strict))
  next_key ps h = subst (λ n. IsNextKey ps low strict (key_at ps n)) (length-filter test ps) (by_filter ps h)

  -- what was found at that place is the next key
  pub found_is_next : (ps : List Entry) (place : ℕ) (found : Option (List ℕ)) → IsStrictlySortedBy entry_cmp ps → place ≡ seek_place ps low strict → found ≡ option_map (λ p. p.key) (slice_get ps place) → IsNextKey ps low strict found
  found_is_next ps place found h at e = subst (IsNextKey ps low strict) (sym (e ∙ ap (key_at ps) at)) (next_key ps h)
