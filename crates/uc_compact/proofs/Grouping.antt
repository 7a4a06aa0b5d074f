-- The groups of several runs' points.
use Rattle.std.proofs.Common.{◌≡◌, ℕ, List, [], ◌∷◌, ◌++◌, map, refl, sym, ap, ◌∙◌, subst}
use Rattle.std.specs.List.{AllByRecursion, flat_map}
use Rattle.std.specs.List.Sorted.{IsStrictlySortedBy}
use Rattle.uc_oper.specs.Operation.{Operation}
use Rattle.uc_run_entry.specs.declared.entry.Entry.{Entry}
use Rattle.uc_run_entry.specs.Fragment.{Fragment}
use Rattle.uc_run_entry.specs.Order.{entry_cmp}
use Rattle.uc_run_entry.specs.Run.{Contents}
use Rattle.uc_compact.specs.Groups.{Group, keys_of, group_of, groups_of}
use Rattle.uc_compact.specs.Stripes.{Keeping}
use Rattle.uc_compact.specs.Inputs.{AreRuns, points_of}
use Rattle.uc_compact.specs.Choice.{AreOfOneKey, points_for, points_named, seqs_over}
use Rattle.uc_compact.specs.Parts.{points_of_each}
use Rattle.uc_compact.specs.Kept.{AreOfOneKeyEach}
use Rattle.uc_compact.specs.Lasting.{lasting_group}
use Rattle.uc_compact.proofs.LastingPoints.{lasting_groups, lasting_have}
use Rattle.uc_compact.proofs.Parted.{Rise}
use Rattle.uc_compact.proofs.Pushing.{of_groups, HasOneKey}

-- lists that are seen as the points of runs
joined-map : {X : Type 0} (f : X → List Entry) (xs : List X) → flat_map f xs ≡ flat_map (λ (ps : List Entry). ps) (map f xs)
joined-map f [] = refl
joined-map f (x ∷ xs) = ap (λ (ps : List Entry). f x ++ ps) (joined-map f xs)

joined-each : (runs : List Contents) → flat_map (λ (ps : List Entry). ps) (points_of_each runs) ≡ points_of runs
joined-each [] = refl
joined-each (r ∷ rs) = ap (λ (ps : List Entry). r.points ++ ps) (joined-each rs)

pub joined : {X : Type 0} (f : X → List Entry) (xs : List X) (runs : List Contents) → map f xs ≡ points_of_each runs → flat_map f xs ≡ points_of runs
joined f xs runs e = joined-map f xs ∙ ap (flat_map (λ (ps : List Entry). ps)) e ∙ joined-each runs

sorted_each : (runs : List Contents) → AreRuns runs → AllByRecursion (IsStrictlySortedBy entry_cmp) (points_of_each runs)
sorted_each [] are = tt
sorted_each (r ∷ rs) are = (are.0.points_sorted, sorted_each rs are.1)

unmapped : {X : Type 0} (f : X → List Entry) (xs : List X) → AllByRecursion (IsStrictlySortedBy entry_cmp) (map f xs) → AllByRecursion (λ x. IsStrictlySortedBy entry_cmp (f x)) xs
unmapped f [] h = tt
unmapped f (x ∷ xs) h = (h.0, unmapped f xs h.1)

pub sorted_by : {X : Type 0} (f : X → List Entry) (xs lent : List X) (runs : List Contents) → AreRuns runs → map f xs ≡ points_of_each runs → lent ≡ xs → AllByRecursion (λ x. IsStrictlySortedBy entry_cmp (f x)) lent
sorted_by {X} f xs lent runs are e same = subst (λ (ys : List X). AllByRecursion (λ x. IsStrictlySortedBy entry_cmp (f x)) ys) (sym same) (unmapped f xs (subst (AllByRecursion (IsStrictlySortedBy entry_cmp)) (sym e) (sorted_each runs are)))

module _ (m : Operation) (keeping : Keeping) (cut : List Fragment) (points : List Entry) where
  each_in : ((key : List ℕ) → AreOfOneKey (points_named key points) (seqs_over key cut)) → (ks : List (List ℕ)) → AllByRecursion (HasOneKey m keeping cut) (map (group_of points) ks)
  each_in h [] = tt
  each_in h (k ∷ ks) = (h k, each_in h ks)

  pub each_group : ((key : List ℕ) → AreOfOneKey (points_named key points) (seqs_over key cut)) → AllByRecursion (HasOneKey m keeping cut) (groups_of points)
  each_group h = each_in h (keys_of points)

  by_key : (ks : List (List ℕ)) → of_groups m keeping cut (map (group_of points) ks) ≡ flat_map (λ key. points_for m keeping key (points_named key points) (seqs_over key cut)) ks
  by_key [] = refl
  by_key (k ∷ ks) = ap (λ (ps : List Entry). points_for m keeping k (points_named k points) (seqs_over k cut) ++ ps) (by_key ks)

  pub groups_by_key : of_groups m keeping cut (groups_of points) ≡ flat_map (λ key. points_for m keeping key (points_named key points) (seqs_over key cut)) (keys_of points)
  groups_by_key = by_key (keys_of points)

  -- by what the groups are equal to: those of their points that last do the same
  module _ (rise : Rise keeping.keeps) (groups : List Group) (keeps : List ℕ) (same : keeps ≡ keeping.keeps) (are : groups ≡ map (lasting_group keeps) (groups_of points)) (each : (key : List ℕ) → AreOfOneKey (points_named key points) (seqs_over key cut)) where
    lasting_are : groups ≡ map (lasting_group keeping.keeps) (groups_of points)
    lasting_are = are ∙ ap (λ (ks : List ℕ). map (lasting_group ks) (groups_of points)) same

    pub each_by : AllByRecursion (HasOneKey m keeping cut) groups
    each_by = subst (AllByRecursion (HasOneKey m keeping cut)) (sym lasting_are) (lasting_have m keeping rise cut (groups_of points) (each_group each))

    pub kept_by : (before after : List Entry) → before ≡ [] → after ≡ before ++ of_groups m keeping cut groups → after ≡ flat_map (λ key. points_for m keeping key (points_named key points) (seqs_over key cut)) (keys_of points)
    kept_by before after empty made =
        made
        ∙ ap (λ (ps : List Entry). ps ++ of_groups m keeping cut groups) empty
        ∙ ap (of_groups m keeping cut) lasting_are
        ∙ lasting_groups m keeping rise cut (groups_of points) (each_group each)
        ∙ groups_by_key

-- the borrowed runs have the points of the inputs
pub lent_points : {X : Type 0} (f : X → List Entry) (xs lent : List X) (runs : List Contents) → map f xs ≡ points_of_each runs → lent ≡ xs → flat_map f lent ≡ points_of runs
lent_points f xs lent runs e same = ap (flat_map f) same ∙ joined f xs runs e

pub each_in_runs : {X : Type 0} (f : X → List Entry) (xs lent : List X) (runs : List Contents) (cut : List Fragment) → map f xs ≡ points_of_each runs → lent ≡ xs → AreOfOneKeyEach cut (points_of runs) → AreOfOneKeyEach cut (flat_map f lent)
each_in_runs f xs lent runs cut e same each = subst (AreOfOneKeyEach cut) (sym (lent_points f xs lent runs e same)) each
