-- Points that are judged one by one.
use Rattle.std.proofs.Common.{◌≡◌, ℕ, ◌+◌, Option, Some, None, List, [], ◌∷◌, drop, refl, sym, ap, subst, ◌∙◌}
use Rattle.std.specs.List.{AllByRecursion, slice_get}
use Rattle.std.specs.List.Sorted.{IsStrictlySortedBy}
use Rattle.std.specs.declared.cmp.Ordering.TheVariants.{Less}
use Rattle.std.proofs.lemmas.List.{drop-drop}
use Rattle.uc_run_entry.specs.declared.entry.Entry.{Entry}
use Rattle.uc_run_entry.specs.Fragment.{Fragment}
use Rattle.uc_run_entry.specs.Order.{entry_cmp, IsFalling}
use Rattle.uc_run_entry.specs.Run.{IsWithin, IsWhole, IsApart, IsRun}
use Rattle.uc_run_entry.proofs.Sorted.{entry_total}
use Rattle.uc_run_file.specs.Judging.{IsGood, AreGood, IsRange}

pub none_there : (ps : List Entry) → slice_get ps 0 ≡ None → ps ≡ []
none_there [] e = refl
none_there (p ∷ ps) e = absurd cc

pub one_there : (ps : List Entry) (p : Entry) → slice_get ps 0 ≡ Some p → ps ≡ p ∷ drop 1 ps
one_there [] p e = absurd cc
one_there (q ∷ ps) p e = let same : q ≡ p = cc in ap (λ (x : Entry). x ∷ ps) same

module _ (low high : ℕ) (fragments : List Fragment) where
  pub record AreJudged (points : List Entry) (before : Option Entry) (ahead : List Entry) (count : ℕ) : Type 0 where
    pub ahead_is : ahead ≡ drop count points
    pub to : AreGood low high fragments before ahead → AreGood low high fragments None points
    pub from : AreGood low high fragments None points → AreGood low high fragments before ahead

  pub none_judged : (points : List Entry) → AreJudged points None points 0
  none_judged points = record { ahead_is = refl; to = λ g. g; from = λ g. g }

  pub one_judged : (points : List Entry) (before : Option Entry) (ahead rest : List Entry) (count : ℕ) (p : Entry) → AreJudged points before ahead count → slice_get ahead 0 ≡ Some p → rest ≡ drop 1 ahead → IsGood low high fragments before p → AreJudged points (Some p) rest (count + 1)
  one_judged points before ahead rest count p is first r good =
      let here : ahead ≡ p ∷ rest = one_there ahead p first ∙ ap (λ (xs : List Entry). p ∷ xs) (sym r) in
      record {
        ahead_is = r ∙ ap (drop 1) is.ahead_is ∙ drop-drop 1 count points;
        to = λ g. is.to (subst (AreGood low high fragments before) (sym here) (good, g));
        from = λ g. (subst (AreGood low high fragments before) here (is.from g)).1;
      }

  pub all_good : (points : List Entry) (before : Option Entry) (ahead : List Entry) (count : ℕ) → AreJudged points before ahead count → ahead ≡ [] → AreGood low high fragments None points
  all_good points before ahead count is none = is.to (subst (AreGood low high fragments before) (sym none) tt)

  pub one_bad : (points : List Entry) (before : Option Entry) (ahead : List Entry) (count : ℕ) (p : Entry) → AreJudged points before ahead count → slice_get ahead 0 ≡ Some p → (IsGood low high fragments before p → ⊥) → AreGood low high fragments None points → ⊥
  one_bad points before ahead count p is first bad all = bad (subst (AreGood low high fragments before) (one_there ahead p first) (is.from all)).0

  -- ---- good points make a run

  all_after : (q : Entry) (ps : List Entry) → AreGood low high fragments (Some q) ps → AllByRecursion (λ p. entry_cmp q p ≡ Less) ps
  all_after q [] good = tt
  all_after q (p ∷ ps) good = (good.0.after, further q p ps good.0.after (all_after p ps good.1))
    where
      further : (q p : Entry) (ps : List Entry) → entry_cmp q p ≡ Less → AllByRecursion (λ r. entry_cmp p r ≡ Less) ps → AllByRecursion (λ r. entry_cmp q r ≡ Less) ps
      further q p [] lt all = tt
      further q p (r ∷ rs) lt all = (entry_total.trans q p r lt all.0, further q p rs lt all.1)

  pub sorted : (before : Option Entry) (ps : List Entry) → AreGood low high fragments before ps → IsStrictlySortedBy entry_cmp ps
  unfolding IsStrictlySortedBy
  sorted before [] good = tt
  sorted before (p ∷ ps) good = (all_after p ps good.1, sorted (Some p) ps good.1)

  pub within : (before : Option Entry) (ps : List Entry) → AreGood low high fragments before ps → AllByRecursion (λ p. IsWithin low high p.seq) ps
  within before [] good = tt
  within before (p ∷ ps) good = (good.0.within, within (Some p) ps good.1)

  pub apart : (before : Option Entry) (ps : List Entry) → AreGood low high fragments before ps → AllByRecursion (IsApart fragments) ps
  apart before [] good = tt
  apart before (p ∷ ps) good = (good.0.apart, apart (Some p) ps good.1)

  after_all : (q : Entry) (ps : List Entry) → AllByRecursion (λ p. entry_cmp q p ≡ Less) ps → IsStrictlySortedBy entry_cmp ps → AllByRecursion (λ p. IsWithin low high p.seq) ps → AllByRecursion (IsApart fragments) ps → AreGood low high fragments (Some q) ps
  unfolding IsStrictlySortedBy
  after_all q [] after sort in_range alone = tt
  after_all q (p ∷ ps) after sort in_range alone = (record { after = after.0; within = in_range.0; apart = alone.0 }, after_all p ps sort.0 sort.1 in_range.1 alone.1)

  pub good : (ps : List Entry) → IsStrictlySortedBy entry_cmp ps → AllByRecursion (λ p. IsWithin low high p.seq) ps → AllByRecursion (IsApart fragments) ps → AreGood low high fragments None ps
  unfolding IsStrictlySortedBy
  good [] sort in_range alone = tt
  good (p ∷ ps) sort in_range alone = (record { after = tt; within = in_range.0; apart = alone.0 }, after_all p ps sort.0 sort.1 in_range.1 alone.1)

  all_fall : (fs : List Fragment) → AllByRecursion (IsWhole low high) fs → AllByRecursion (λ f. IsFalling f.seqs) fs
  all_fall [] all = tt
  all_fall (f ∷ fs) all = (all.0.1, all_fall fs all.1)

  pub falling : IsRun low high [] fragments → AllByRecursion (λ f. IsFalling f.seqs) fragments
  falling is = all_fall fragments is.whole

  pub makes_run : (ps : List Entry) → IsRun low high [] fragments → AreGood low high fragments None ps → IsRun low high ps fragments
  makes_run ps is all = record {
    from_one = is.from_one;
    range = is.range;
    below = is.below;
    points_sorted = sorted None ps all;
    fragments_sorted = is.fragments_sorted;
    whole = is.whole;
    points_within = within None ps all;
    apart = apart None ps all;
  }

  pub without_points : (ps : List Entry) → IsRun low high ps fragments → IsRun low high [] fragments
  unfolding IsStrictlySortedBy
  without_points ps is = record {
    from_one = is.from_one;
    range = is.range;
    below = is.below;
    points_sorted = tt;
    fragments_sorted = is.fragments_sorted;
    whole = is.whole;
    points_within = tt;
    apart = tt;
  }

  pub in_range : (ps : List Entry) → IsRun low high ps fragments → IsRange low high
  in_range ps is = record { from_one = is.from_one; range = is.range; below = is.below }

  pub all_good_of : (ps : List Entry) → IsRun low high ps fragments → AreGood low high fragments None ps
  all_good_of ps is = good ps is.points_sorted is.points_within is.apart
