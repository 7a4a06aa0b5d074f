-- A run whose next key is another has no point of a key.
use Rattle.std.proofs.Common.{◌≡◌, ◌≢◌, ℕ, Bool, true, false, cond, List, [], ◌∷◌, filter, Option, Some, None, refl, sym, ap, ◌∙◌, subst}
use Rattle.std.specs.Prelude.{◌&&◌, nat_le}
use Rattle.std.specs.List.{AllByRecursion, flat_map}
use Rattle.std.specs.Cmp.Lexicographic.{bytes_decides}
use Rattle.std.specs.Ordering.{is_lt, is_le}
use Rattle.std.specs.declared.cmp.Ordering.{Ordering}
use Rattle.std.specs.declared.cmp.Ordering.TheVariants.{Less, Equal, Greater}
use Rattle.std.proofs.lemmas.Bool.{false≢true}
use Rattle.std.proofs.lemmas.Cmp.{nat_list_cmp_total, tied_itself}
use Rattle.std.proofs.lemmas.Map.Lookups.{exact_bytes}
use Rattle.uc_bytes.specs.Bytes.{bytes_cmp, same_bytes}
use Rattle.uc_oper.specs.Operation.{Operation}
use Rattle.uc_oper.specs.declared.effect.Effect.TheVariants.{Keep}
use Rattle.uc_model.specs.Meaning.{effect_on}
use Rattle.uc_run_entry.specs.declared.entry.Entry.{Entry}
use Rattle.uc_run_entry.specs.Fragment.{Fragment}
use Rattle.uc_run_entry.specs.Run.{Contents, IsRun, covers}
use Rattle.uc_run_entry.specs.PlainList.{plain_list}
use Rattle.uc_run_entry.specs.Seek.{is_passed}
use Rattle.uc_run_entry.specs.Lookup.{is_visible, above_newest, effect_found}
use Rattle.uc_run.specs.NextKey.{IsNextKey}

module _ (key : List ℕ) where
  -- a key below it is another
  below_is_other : (x : List ℕ) → is_lt (bytes_cmp x key) ≡ true → x ≢ key
  below_is_other x below same =
      let tied = tied_itself nat_list_cmp_total key in
      false≢true (sym (ap is_lt (subst (λ (y : List ℕ). bytes_cmp y key ≡ Equal) (sym same) tied)) ∙ below)

  -- a key above it is another
  least_is_other : (next x : List ℕ) → next ≢ key → is_lt (bytes_cmp next key) ≡ false → is_le (bytes_cmp next x) ≡ true → x ≢ key
  least_is_other next x other from le same = by (bytes_cmp next key) refl from (subst (λ (y : List ℕ). is_le (bytes_cmp next y) ≡ true) same le)
    where
      by : (o : Ordering) → bytes_cmp next key ≡ o → is_lt o ≡ false → is_le (bytes_cmp next key) ≡ true → ⊥
      by Less e not_less at_most = false≢true (sym not_less)
      by Equal e not_less at_most = other (exact_bytes next key e)
      by Greater e not_less at_most = false≢true (sym (ap is_le e) ∙ at_most)

  unlike : (x : List ℕ) (b : Bool) → same_bytes x key ≡ b → x ≢ key → b ≡ false
  unlike x true e other = absurd (other ((bytes_decides x key).0 e))
  unlike x false e other = refl

  abbrev IsOther : Entry → Type 0
  IsOther p = same_bytes p.key key ≡ false

  other_by : (next : List ℕ) (p : Entry) (b : Bool) → is_passed key false p.key ≡ b → next ≢ key → is_passed key false next ≡ false → (b ≡ false → is_le (bytes_cmp next p.key) ≡ true) → IsOther p
  other_by next p true e other from least = unlike p.key (same_bytes p.key key) refl (below_is_other p.key e)
  other_by next p false e other from least = unlike p.key (same_bytes p.key key) refl (least_is_other next p.key other from (least refl))

  all_passed : (points : List Entry) → AllByRecursion (λ p. is_passed key false p.key ≡ true) points → AllByRecursion IsOther points
  all_passed [] h = tt
  all_passed (p ∷ ps) h = (unlike p.key (same_bytes p.key key) refl (below_is_other p.key h.0), all_passed ps h.1)

  all_from : (next : List ℕ) → next ≢ key → is_passed key false next ≡ false → (points : List Entry) → AllByRecursion (λ p. is_passed key false p.key ≡ false → is_le (bytes_cmp next p.key) ≡ true) points → AllByRecursion IsOther points
  all_from next other from [] h = tt
  all_from next other from (p ∷ ps) h = (
    other_by next p (is_passed key false p.key) refl other from h.0,
    all_from next other from ps h.1,
  )

  pub others : (points : List Entry) (next : Option (List ℕ)) → IsNextKey points key false next → next ≢ Some key → AllByRecursion IsOther points
  others points None h other = all_passed points h
  others points (Some next) h other = all_from next (λ same. other (ap (λ (k : List ℕ). Some k) same)) h.not_passed points h.least

  module _ (at : ℕ) where
    hidden_by : (p : Entry) (b : Bool) (ps : List Entry) → IsOther p → ps ≡ [] → cond (b && same_bytes p.key key) (p ∷ ps) ps ≡ []
    hidden_by p true ps other none = ap (λ (b : Bool). cond b (p ∷ ps) ps) other ∙ none
    hidden_by p false ps other none = none

    none_visible : (points : List Entry) → AllByRecursion IsOther points → filter (is_visible key at) points ≡ []
    none_visible [] h = refl
    none_visible (p ∷ ps) h = hidden_by p (nat_le p.seq at) (filter (is_visible key at) ps) h.0 (none_visible ps h.1)

    pub kept : (m : Operation) (law : (run : Contents) (key : List ℕ) (at : ℕ) → IsRun run.low run.high run.points run.fragments → effect_on m (plain_list run) key at ≡ effect_found m run key at) (run : Contents) (next : Option (List ℕ)) → IsRun run.low run.high run.points run.fragments → IsNextKey run.points key false next → next ≢ Some key → run.fragments ≡ [] →
        effect_on m (plain_list run) key at ≡ Keep
    kept m law run next is h other none =
        law run key at is
        ∙ ap (λ (ps : List Entry). above_newest m ps (filter (λ seq. nat_le seq at) (flat_map (λ f. f.seqs) (filter (λ f. covers f key) run.fragments)))) (none_visible run.points (others run.points next h other))
        ∙ ap (λ (fs : List Fragment). above_newest m [] (filter (λ seq. nat_le seq at) (flat_map (λ f. f.seqs) (filter (λ f. covers f key) fs)))) none
