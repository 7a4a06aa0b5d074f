-- Facts that follow from a refusal; without a refusal the store may open.
use Rattle.std.proofs.Common.{◌≡◌, ℕ, suc, ◌≤◌, Bool, true, false, cond, ◌&&◌, List, [], ◌∷◌, length, Option, Some, None, refl, sym, ap, ◌∙◌, arith}
use Rattle.std.specs.Prelude.{nat_lt}
use Rattle.std.specs.List.{AllByRecursion}
use Rattle.std.proofs.lemmas.Bool.{leb-true, leb-false, le-leb, lt-leb}
use Rattle.uc_batch.specs.Rising.{IsRising, last_of}
use Rattle.uc_claims.specs.declared.table.TheConstants.{MOST_SLOTS}
use Rattle.uc_version_state.specs.Options.{are_good}
use Rattle.uc_version_state.specs.Flushes.{memtables}
use Rattle.uc_version_state.specs.Openings.{Opening, MayOpen}
use Rattle.uc_version_open.specs.declared.open_error.OpenError.TheVariants.{BadOption, SnapshotAhead, TooManyRuns}
use Rattle.uc_version_open.specs.Refusal.{first_ahead, are_few, first_refusal, opening_refusal}
use Rattle.uc_version_open.specs.Progress.{Flushing, Progress, flushing_of, progress_of}
use Rattle.uc_version_open.proofs.Ended.{held_is}

-- no error: all checks pass
nothing_wrong : (good : Bool) (ahead : Option ℕ) (few : Bool) → first_refusal good ahead few ≡ None → (good ≡ true) × (ahead ≡ None) × (few ≡ true)
nothing_wrong false ahead few e = absurd cc
nothing_wrong true (Some keep) few e = absurd cc
nothing_wrong true None false e = absurd cc
nothing_wrong true None true e = (refl, refl, refl)

module _ (last : ℕ) where
  next_below : (k : ℕ) (ks : List ℕ) (b : Bool) → nat_lt last k ≡ b → cond b (Some k) (first_ahead last ks) ≡ None → (first_ahead last ks ≡ None → AllByRecursion (λ keep. keep ≤ last) ks) → AllByRecursion (λ keep. keep ≤ last) (k ∷ ks)
  next_below k ks true ahead none rest = absurd cc
  next_below k ks false ahead none rest = ((let lt = leb-false (suc last) k ahead in omega (arith, lt)), rest none)

  all_below : (ks : List ℕ) → first_ahead last ks ≡ None → AllByRecursion (λ keep. keep ≤ last) ks
  all_below [] none = tt
  all_below (k ∷ ks) none = next_below k ks (nat_lt last k) refl none (all_below ks)

  none_ahead : (ks : List ℕ) → AllByRecursion (λ keep. keep ≤ last) ks → first_ahead last ks ≡ None
  none_ahead [] below = refl
  none_ahead (k ∷ ks) below =
      ap (λ b. cond b (Some k) (first_ahead last ks)) (lt-leb (suc last) k (let le : k ≤ last = below.0 in omega (arith, le)))
      ∙ none_ahead ks below.1

pub may_open : (o : Opening) → IsRising 0 o.writes → opening_refusal o ≡ None → MayOpen o
may_open o rises e =
    let fine = nothing_wrong (are_good o.options) (first_ahead (last_of 0 o.writes) o.keeps) (are_few (length (memtables o.options.memtable o.writes))) e in
    record {
      rising = rises;
      options_good = fine.0;
      keeps_below = all_below (last_of 0 o.writes) o.keeps fine.1;
      few = leb-true (length (memtables o.options.memtable o.writes)) MOST_SLOTS fine.2;
    }

pub not_refused : (o : Opening) → MayOpen o → opening_refusal o ≡ None
not_refused o may i =
    first_refusal (may.options_good i) (none_ahead (last_of 0 o.writes) o.keeps may.keeps_below i) (le-leb (length (memtables o.options.memtable o.writes)) MOST_SLOTS may.few i)

module _ (o : Opening) (p : Progress) (e : p ≡ progress_of o.options o.writes) where
  good_of : (b : Bool) → are_good p.options ≡ b → are_good o.options ≡ b
  good_of b good = sym (ap (λ (q : Progress). are_good q.options) e) ∙ good

  ahead_of : (found : Option ℕ) → first_ahead p.last o.keeps ≡ found → first_ahead (last_of 0 o.writes) o.keeps ≡ found
  ahead_of found is = sym (ap (λ (q : Progress). first_ahead q.last o.keeps) e) ∙ is

  abbrev few : Bool
  few = are_few (length (memtables o.options.memtable o.writes))

  pub option_refused : are_good p.options ≡ false → opening_refusal o ≡ Some BadOption
  option_refused bad i = first_refusal (good_of false bad i) (first_ahead (last_of 0 o.writes) o.keeps) few

  pub ahead_refused : (keep : ℕ) → are_good p.options ≡ true → first_ahead p.last o.keeps ≡ Some keep → opening_refusal o ≡ Some (SnapshotAhead keep)
  ahead_refused keep good is i = first_refusal (good_of true good i) (ahead_of (Some keep) is i) few

  few_false : (f : Flushing) (b : Bool) → cond b (Some f) None ≡ None → b ≡ false
  few_false f true none = absurd cc
  few_false f false none = refl

  pub many_refused : are_good p.options ≡ true → first_ahead p.last o.keeps ≡ None → p.held ≡ None → opening_refusal o ≡ Some TooManyRuns
  many_refused good is none i = first_refusal (good_of true good i) (ahead_of None is i) (many i)
    where
      many : few ≡ false
      many =
          sym (ap (λ b. b && few) (good_of true good))
          ∙ few_false (flushing_of (memtables o.options.memtable o.writes)) (are_good o.options && few) (sym (ap (λ (q : Progress). q.held) e) ∙ none)

  pub none_refused : (f : Flushing) → are_good p.options ≡ true → first_ahead p.last o.keeps ≡ None → p.held ≡ Some f → opening_refusal o ≡ None
  none_refused f good is held i = first_refusal (good_of true good i) (ahead_of None is i) (enough i)
    where
      enough : few ≡ true
      enough = sym (ap (λ b. b && few) (good_of true good)) ∙ (held_is o p f e held).0
