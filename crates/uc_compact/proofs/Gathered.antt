-- The lists of sequences over a key, run by run.
use Rattle.std.proofs.Common.{◌≡◌, ℕ, ◌<◌, true, List, [], ◌∷◌, ◌++◌, map, filter, sym, ap, ◌∙◌, subst, arith}
use Rattle.std.specs.List.{AllByRecursion, flat_map}
use Rattle.std.specs.Ordering.{nat_cmp, flip_args}
use Rattle.std.specs.declared.cmp.Ordering.TheVariants.{Equal}
use Rattle.std.proofs.lemmas.Bool.Decides.{nat_tests}
use Rattle.std.proofs.lemmas.Cmp.{nat_cmp_total, back_total}
use Rattle.std.proofs.lemmas.List.{append-nil, map-append}
use Rattle.std.proofs.lemmas.List.Elements.{filter-append}
use Rattle.std.proofs.lemmas.List.Folds.{flat_map-map}
use Rattle.std.proofs.lemmas.Grind.{flat_map-append}
use Rattle.uc_run_entry.specs.Fragment.{Fragment}
use Rattle.uc_run_entry.specs.Cutting.{falling, fragments_of}
use Rattle.uc_run_entry.specs.Run.{Contents, covers}
use Rattle.uc_run_entry.proofs.SameSets.{all_inserted}
use Rattle.uc_run_entry.proofs.SeqsOver.{seqs_over_key}
use Rattle.uc_compact.specs.Choice.{seqs_over}
use Rattle.uc_compact.specs.Inputs.{ranges_over, ranges_of}
use Rattle.uc_compact.specs.Together.{together}
use Rattle.uc_compact.specs.Pieces.{lists_over, fragments_in, IsList, AreOver}
use Rattle.uc_compact.proofs.Cutting.{IsFilled}
use Rattle.uc_compact.proofs.Kept.{ranges_seqs}
use Rattle.uc_compact.proofs.NestedLists.{all-append, all-filter, all-flat_map, all-map, all-passed}

pub map_push : {X Y : Type 0} (f : X → Y) (xs : List X) (x : X) → map f (xs ++ x ∷ []) ≡ map f xs ++ f x ∷ []
map_push f xs x = map-append f xs (x ∷ [])

pub more_fragments : (runs : List Contents) (r : Contents) → fragments_in (runs ++ r ∷ []) ≡ fragments_in runs ++ r.fragments
more_fragments runs r = flat_map-append (λ (s : Contents). s.fragments) runs (r ∷ []) ∙ ap (λ (fs : List Fragment). fragments_in runs ++ fs) (append-nil r.fragments)

module _ (key : List ℕ) (runs : List Contents) (r : Contents) (lists : List (List ℕ)) (over : AreOver key runs lists) where
  more_lists : lists_over key (fragments_in (runs ++ r ∷ [])) ≡ lists ++ lists_over key r.fragments
  more_lists =
      ap (lists_over key) (more_fragments runs r)
      ∙ ap (λ (fs : List Fragment). map (λ (f : Fragment). f.seqs) fs) (filter-append (λ f. covers f key) (fragments_in runs) r.fragments)
      ∙ map-append (λ (f : Fragment). f.seqs) (filter (λ f. covers f key) (fragments_in runs)) (filter (λ f. covers f key) r.fragments)
      ∙ ap (λ (ls : List (List ℕ)). ls ++ lists_over key r.fragments) (sym over.are)

  -- a run with a fragment over the key
  pub one_over : (f : Fragment) → filter (λ g. covers g key) r.fragments ≡ f ∷ [] → AllByRecursion IsFilled r.fragments → AreOver key (runs ++ r ∷ []) (lists ++ f.seqs ∷ [])
  one_over f one filled =
      let here : AllByRecursion IsFilled (f ∷ []) = subst (AllByRecursion IsFilled) one (all-filter IsFilled (λ g. covers g key) r.fragments filled) in
      record {
        are = sym (more_lists ∙ ap (λ (fs : List Fragment). lists ++ map (λ (g : Fragment). g.seqs) fs) one);
        each = all-append IsList lists (f.seqs ∷ []) over.each (record { falls = here.0.falls; from_one = here.0.from_one }, tt);
      }

  -- and one without
  pub none_more : filter (λ g. covers g key) r.fragments ≡ [] → AreOver key (runs ++ r ∷ []) lists
  none_more none = record {
    are = sym (more_lists ∙ ap (λ (fs : List Fragment). lists ++ map (λ (g : Fragment). g.seqs) fs) none ∙ append-nil lists);
    each = over.each;
  }

-- as they are borrowed
pub lent_over : {X : Type 0} (f : X → List ℕ) (key : List ℕ) (runs : List Contents) (items lent : List X) → lent ≡ items → AreOver key runs (map f items) → AreOver key runs (map f lent)
lent_over {X} f key runs items lent e over = subst (λ (xs : List X). AreOver key runs (map f xs)) (sym e) over

-- ---- the lists together

same_number : (k x : ℕ) → flip_args nat_cmp k x ≡ Equal → k ≡ x
same_number k x e = grind (arith, nat_tests)

module _ (key : List ℕ) (runs : List Contents) (lists : List (List ℕ)) (over : AreOver key runs lists) where
  pub together_from_one : AllByRecursion (λ n. 0 < n) (together lists)
  together_from_one =
      all_inserted (flip_args nat_cmp) (back_total nat_cmp_total) same_number (λ n. 0 < n) (flat_map (λ (seqs : List ℕ). seqs) lists)
      (all-flat_map (λ (seqs : List ℕ). seqs) (λ n. 0 < n) lists (all-map IsList (λ seqs. AllByRecursion (λ n. 0 < n) seqs) (λ seqs h. h.from_one) lists over.each))

  -- they are the sequences of the range deletions over the key
  pub together_are : together lists ≡ seqs_over key (fragments_of (ranges_of runs))
  together_are =
      ap together over.are
      ∙ ap falling (flat_map-map (λ (seqs : List ℕ). seqs) (λ (f : Fragment). f.seqs) (filter (λ f. covers f key) (fragments_in runs)))
      ∙ ap falling (sym (ranges_seqs key (λ _. true) (fragments_in runs) ∙ all-passed (flat_map (λ (f : Fragment). f.seqs) (filter (λ f. covers f key) (fragments_in runs)))))
      ∙ sym (seqs_over_key key (ranges_of runs))

-- what is known of the runs' range deletions is known of those of the runs that have fragments
pub same_ranges : (fronts runs : List Contents) → fragments_in fronts ≡ fragments_in runs → ranges_of fronts ≡ ranges_of runs
same_ranges fronts runs same = ap (flat_map ranges_over) same
