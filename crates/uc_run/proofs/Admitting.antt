-- A key that isn't admitted has no points.
use Rattle.std.proofs.Common.{◌≡◌, ℕ, ◌+◌, ◌<◌, Bool, true, false, cond, List, [], ◌∷◌, length, get_or, take, ◌++◌, filter, refl, sym, ap, ◌∙◌, subst}
use Rattle.std.specs.Prelude.{nat_le, ◌&&◌}
use Rattle.std.specs.Cmp.Lexicographic.{same_text}
use Rattle.std.proofs.lemmas.List.Elements.{All-append, All-head, All-tail, All-weaker, All-more}
use Rattle.uc_bytes.specs.Bytes.{same_bytes}
use Rattle.uc_run_entry.specs.declared.entry.Entry.{Entry}
use Rattle.uc_run_entry.specs.Lookup.{is_visible}
use Rattle.uc_run.specs.Filters.{HasBits, HasProbes, probes_of, Admits, AdmitsAll}
use Rattle.uc_run.specs.KeyHash.{key_hash}

module _ (words key : List ℕ) (at : ℕ) (denied : ¬ Admits words key) where
  other : (p : Entry) (seen same : Bool) → same_bytes p.key key ≡ same → Admits words p.key → (seen && same) ≡ false
  other p false same e has = refl
  other p true false e has = refl
  other p true true e has = absurd (denied (subst (Admits words) (same_text p.key key (sym e)) has))

  pub none_visible : (points : List Entry) → AdmitsAll words points → filter (is_visible key at) points ≡ []
  none_visible [] all = refl
  none_visible (p ∷ ps) all =
      ap (λ b. cond b (p ∷ filter (is_visible key at) ps) (filter (is_visible key at) ps)) (other p (nat_le p.seq at) (same_bytes p.key key) refl (All-head (λ (q : Entry). Admits words q.key) p ps all))
      ∙ none_visible ps (All-tail (λ (q : Entry). Admits words q.key) p ps all)

-- one more key is admitted, and those before stay so
pub admitted_more : (words more : List ℕ) (points : List Entry) (n : ℕ) (p : Entry) → n < length points → p ≡ get_or points n p → ((key : List ℕ) → Admits words key → Admits more key) → Admits more p.key → AdmitsAll words (take n points) → AdmitsAll more (take (n + 1) points)
admitted_more words more points n p l is kept new all =
    All-more (λ (q : Entry). Admits more q.key) points n p l (All-weaker (λ (q : Entry). Admits words q.key) (λ (q : Entry). Admits more q.key) (λ q has. kept q.key has) (take n points) all) (subst (λ (q : Entry). Admits more q.key) is new)

-- words that have the bits of others admit what those do
admitted_by : (words new : List ℕ) → length new ≡ length words → ((place bits : ℕ) → HasBits words place bits → HasBits new place bits) → (key : List ℕ) → Admits words key → Admits new key
admitted_by words new long kept key has =
    subst (λ (n : ℕ). HasProbes new (probes_of (key_hash key) n)) (sym long) (record {
      first = kept _ _ has.first;
      second = kept _ _ has.second;
    })

-- the words of two pieces of points, made one
pub both_admitted : (words more new : List ℕ) (front back : List Entry) → length new ≡ length words → length new ≡ length more → ((place bits : ℕ) → HasBits words place bits → HasBits new place bits) → ((place bits : ℕ) → HasBits more place bits → HasBits new place bits) → AdmitsAll words front → AdmitsAll more back → AdmitsAll new (front ++ back)
both_admitted words more new front back long as_long kept added all rest =
    let P = λ (p : Entry). Admits new p.key in
    All-append P front back
    (All-weaker (λ (p : Entry). Admits words p.key) P (λ p has. admitted_by words new long kept p.key has) front all)
    (All-weaker (λ (p : Entry). Admits more p.key) P (λ p has. admitted_by more new as_long added p.key has) back rest)
