-- A put above all range deletions of its stripe, as the newest point there, stands for the stripe as it is.
use Rattle.std.proofs.Common.{◌≡◌, ℕ, ◌<◌, Bool, true, false, cond, ltb, List, [], ◌∷◌, filter, Some, None, refl, sym, ap, ◌∙◌, arith}
use Rattle.std.specs.List.{AllByRecursion, slice_get}
use Rattle.std.specs.List.Sorted.{IsStrictlySortedBy}
use Rattle.std.specs.declared.cmp.Ordering.TheVariants.{Less}
use Rattle.std.specs.Ordering.{nat_cmp}
use Rattle.std.proofs.lemmas.Bool.Decides.{nat_tests}
use Rattle.uc_oper.specs.Operation.{Operation}
use Rattle.uc_oper.specs.Composition.{composed}
use Rattle.uc_oper.specs.declared.effect.Effect.{Effect}
use Rattle.uc_oper.specs.declared.effect.Effect.TheVariants.{Keep, Set}
use Rattle.uc_run_entry.specs.declared.entry.Entry.{Entry}
use Rattle.uc_run_entry.specs.declared.entry.What.{What}
use Rattle.uc_run_entry.specs.declared.entry.What.TheVariants.{Put}
use Rattle.uc_run_entry.specs.Order.{IsFalling}
use Rattle.uc_run_entry.specs.Lookup.{what_effect, points_effect, above_newest}
use Rattle.uc_compact.specs.Output.{what_kept}
use Rattle.uc_compact.proofs.NestedLists.{all-map}
use Rattle.uc_compact.proofs.Onward.{less_number}

pub is_less : (a b : ℕ) → a < b → ltb a b ≡ true
is_less a b lt = grind (arith, nat_tests)

pub less_of : (a b : ℕ) → ltb a b ≡ true → a < b
less_of a b e = grind (arith, nat_tests)

-- sequences that fall are all below one that the first is below
pub below_first : (seq n : ℕ) (ns : List ℕ) → IsFalling ns → slice_get ns 0 ≡ Some n → n < seq → AllByRecursion (λ k. k < seq) ns
unfolding IsStrictlySortedBy
below_first seq n [] fall first lt = tt
below_first seq n (m ∷ ns) fall first lt =
    let same : n ≡ m = cc in
    (omega (arith, same, lt), all-map (λ k. nat_cmp k m ≡ Less) (λ k. k < seq) (λ k e. let less : k < m = less_number k m e in omega (arith, same, lt, less)) ns fall.0)

pub first_below : (seq n : ℕ) (ns : List ℕ) → slice_get ns 0 ≡ Some n → AllByRecursion (λ k. k < seq) ns → n < seq
first_below seq n [] first below = absurd cc
first_below seq n (m ∷ ns) first below = let same : n ≡ m = cc in let less : m < seq = below.0 in omega (arith, same, less)

pub none_below : (seq : ℕ) (ns : List ℕ) → slice_get ns 0 ≡ None → AllByRecursion (λ k. k < seq) ns
none_below seq [] gone = tt
none_below seq (m ∷ ns) gone = absurd cc

module _ (m : Operation) (p : Entry) (value : List ℕ) (says : p.what ≡ Put value) where
  sets_value : (before : Effect) (ps : List Entry) → points_effect m before (p ∷ ps) ≡ Set (Some value)
  sets_value before ps = ap (λ (w : What). composed m (points_effect m before ps) (what_effect w)) says

  value_above : (ps : List Entry) (ns : List ℕ) → AllByRecursion (λ n. n < p.seq) ns → above_newest m (p ∷ ps) ns ≡ Set (Some value)
  value_above ps [] below = sets_value Keep ps
  value_above ps (n ∷ ns) below =
      let rest : List Entry = filter (λ q. ltb n q.seq) ps in
      ap (λ b. points_effect m (Set None) (cond b (p ∷ rest) rest)) (is_less n p.seq below.0) ∙ sets_value (Set None) rest

  put_of : (bottom cleared : Bool) → what_kept m bottom (Set (Some value)) cleared ≡ Some (Put value)
  put_of true cleared = refl
  put_of false cleared = refl

  pub put_stays : (bottom cleared : Bool) (ps : List Entry) (ns : List ℕ) → slice_get ps 0 ≡ Some p → AllByRecursion (λ n. n < p.seq) ns → what_kept m bottom (above_newest m ps ns) cleared ≡ Some p.what
  put_stays bottom cleared [] ns first below = absurd cc
  put_stays bottom cleared (q ∷ ps) ns first below =
      let same : p ≡ q = cc in
      ap (λ (x : Entry). what_kept m bottom (above_newest m (x ∷ ps) ns) cleared) (sym same)
      ∙ ap (λ (effect : Effect). what_kept m bottom effect cleared) (value_above ps ns below)
      ∙ put_of bottom cleared
      ∙ ap Some (sym says)
