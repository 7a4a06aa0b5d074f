-- The newer runs do nothing to a key at which no cursor of theirs is, if they have no range deletions.
use Rattle.std.proofs.Common.{◌≡◌, ◌≢◌, ℕ, zero, suc, ◌<◌, ◌≤◌, Bool, true, false, cond, List, [], ◌∷◌, ◌++◌, map, length, get_or, set, take, Option, Some, None, refl, sym, ap, ◌∙◌, subst, arith}
use Rattle.std.specs.Prelude.{nat_lt}
use Rattle.std.specs.List.{AllByRecursion, AllWithin}
use Rattle.uc_oper.specs.Composition.{composed}
use Rattle.uc_oper.specs.Operation.{Operation}
use Rattle.uc_oper.specs.declared.effect.Effect.{Effect}
use Rattle.uc_oper.specs.declared.effect.Effect.TheVariants.{Keep}
use Rattle.uc_bytes.specs.declared.write.Write.{Write}
use Rattle.uc_model.specs.Meaning.{effect_on}
use Rattle.uc_run_entry.specs.PlainList.{plain_list}
use Rattle.uc_run_entry.specs.Run.{Contents, IsRun}
use Rattle.uc_run.specs.Cursors.{Standing, has_ranges}
use Rattle.uc_run.specs.Heads.{next_key, lesser_of, IsLeast}
use Rattle.uc_compact.specs.Inputs.{writes_of}
use Rattle.uc_query_read.specs.Answers.{is_below}
use Rattle.uc_query_read.specs.Walks.{runs_of, StandsAt, IsOfRun}
use Rattle.uc_query_read.proofs.Beside.{KeptLaw, NextKeysLaw, next_is, none_there}
use Rattle.uc_query_read.proofs.Oldest.{before_all, none_left}

module _ (m : Operation) (parts : (older newer : List Write) (key : List ℕ) (at : ℕ) → effect_on m (older ++ newer) key at ≡ composed m (effect_on m older key at) (effect_on m newer key at)) (kept : KeptLaw m) (law : NextKeysLaw) (key : List ℕ) (at : ℕ) where
  one_keeps : (c : Standing) → StandsAt key false c → IsOfRun c → next_key c ≢ Some key → has_ranges c ≡ false → effect_on m (plain_list c.run) key at ≡ Keep
  one_keeps c stands is other none = kept c.run key (next_key c) at is (next_is law key false c is stands) other (none_there c.run.fragments none)

  pub all_keep : (cs : List Standing) → AllByRecursion (StandsAt key false) cs → AllByRecursion IsOfRun cs → AllByRecursion (λ c. next_key c ≢ Some key) cs → AllByRecursion (λ b. b ≡ false) (map has_ranges cs) → effect_on m (writes_of (runs_of cs)) key at ≡ Keep
  all_keep [] stand of_runs others none = refl
  all_keep (c ∷ cs) stand of_runs others none =
      parts (writes_of (runs_of cs)) (plain_list c.run) key at
      ∙ ap (λ (e : Effect). composed m (effect_on m (writes_of (runs_of cs)) key at) e) (one_keeps c stand.0 of_runs.0 others.0 none.0)
      ∙ all_keep cs stand.1 of_runs.1 others.1 none.1

-- the first cursors, of which none is at a key
pub taken_others : (key : List ℕ) (cs : List Standing) (n : ℕ) → AllWithin (λ k. k ≢ Some key) (map next_key cs) 0 n → n ≤ length cs → AllByRecursion (λ c. next_key c ≢ Some key) (take n cs)
taken_others key cs zero others within = tt
taken_others key [] (suc n) others within = tt
taken_others key (c ∷ cs) (suc n) others within = (
  others 0 None (omega arith) (omega arith),
  taken_others key cs n (λ i d low l. others (suc i) d (omega arith) (omega (arith, l))) (omega (arith, within)),
)

-- ---- the oldest run alone

-- a key below the least of some is none of them
pub below_least : (key : List ℕ) (keys : List (Option (List ℕ))) (least : Option (List ℕ)) → IsLeast keys least → is_below key least ≡ true → AllByRecursion (λ k. k ≢ Some key) keys
below_least key keys None is below = none_left key keys is
below_least key keys (Some other) is below = before_all key other keys below is.0

-- and the lesser of both
pub lesser_below : (key : List ℕ) (least : Option (List ℕ)) → is_below key least ≡ true → Some key ≡ lesser_of least (Some key)
lesser_below key None below = refl
lesser_below key (Some other) below = sym (ap (λ b. cond b (Some key) (Some other)) below)

-- a cursor put in another's place in the same run
pub runs_set : (cs : List Standing) (i : ℕ) (d c : Standing) → i < length cs → c.run ≡ (get_or cs i d).run → runs_of (set cs i c) ≡ runs_of cs
runs_set [] i d c lt e = absurd (omega (arith, lt))
runs_set (x ∷ xs) zero d c lt e = ap (λ (r : Contents). r ∷ runs_of xs) e
runs_set (x ∷ xs) (suc i) d c lt e = ap (λ (rs : List Contents). x.run ∷ rs) (runs_set xs i d c (omega (arith, lt)) e)

-- what an element is doesn't depend on what stands for a missing one
pub same_element : (cs : List Standing) (i : ℕ) (c d : Standing) → i < length cs → get_or cs i c ≡ get_or cs i d
same_element [] i c d lt = absurd (omega (arith, lt))
same_element (x ∷ xs) zero c d lt = refl
same_element (x ∷ xs) (suc i) c d lt = same_element xs i c d (omega (arith, lt))

-- what is known of the runs alone
abbrev AreRuns : List Contents → Type 0
AreRuns rs = AllByRecursion (λ (r : Contents). IsRun r.low r.high r.points r.fragments) rs

abbrev ranges_in : List Contents → List Bool
ranges_in rs = map (λ (r : Contents). nat_lt 0 (length r.fragments)) rs

are_runs : (cs : List Standing) → AllByRecursion IsOfRun cs → AreRuns (runs_of cs)
are_runs [] h = tt
are_runs (c ∷ cs) h = (h.0, are_runs cs h.1)

of_runs_back : (cs : List Standing) → AreRuns (runs_of cs) → AllByRecursion IsOfRun cs
of_runs_back [] h = tt
of_runs_back (c ∷ cs) h = (h.0, of_runs_back cs h.1)

pub same_of_runs : (cs ds : List Standing) → runs_of ds ≡ runs_of cs → AllByRecursion IsOfRun cs → AllByRecursion IsOfRun ds
same_of_runs cs ds e h = of_runs_back ds (subst AreRuns (sym e) (are_runs cs h))

ranges_are : (cs : List Standing) → map has_ranges cs ≡ ranges_in (runs_of cs)
ranges_are [] = refl
ranges_are (c ∷ cs) = ap (λ (bs : List Bool). has_ranges c ∷ bs) (ranges_are cs)

pub same_ranges : (cs ds : List Standing) → runs_of ds ≡ runs_of cs → map has_ranges ds ≡ map has_ranges cs
same_ranges cs ds e = ranges_are ds ∙ ap ranges_in e ∙ sym (ranges_are cs)

pub without_each : (cs : List Standing) → AllByRecursion (λ b. b ≡ false) (map has_ranges cs) → AllByRecursion (λ c. has_ranges c ≡ false) cs
without_each [] h = tt
without_each (c ∷ cs) h = (h.0, without_each cs h.1)

pub without_all : (cs : List Standing) → AllByRecursion (λ c. has_ranges c ≡ false) cs → AllByRecursion (λ b. b ≡ false) (map has_ranges cs)
without_all [] h = tt
without_all (c ∷ cs) h = (h.0, without_all cs h.1)

pub plain_moved : (f : Standing → Standing) → ((c : Standing) → has_ranges (f c) ≡ has_ranges c) → (cs : List Standing) → AllByRecursion (λ c. has_ranges c ≡ false) cs → AllByRecursion (λ c. has_ranges c ≡ false) (map f cs)
plain_moved f same [] h = tt
plain_moved f same (c ∷ cs) h = (same c ∙ h.0, plain_moved f same cs h.1)

pub plain_alike : (cs ds : List Standing) → runs_of ds ≡ runs_of cs → AllByRecursion (λ c. has_ranges c ≡ false) cs → AllByRecursion (λ c. has_ranges c ≡ false) ds
plain_alike cs ds e h = without_each ds (subst (AllByRecursion (λ b. b ≡ false)) (sym (same_ranges cs ds e)) (without_all cs h))
