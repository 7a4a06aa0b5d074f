-- The writes of frozen memtables, followed by those of the active one.
use Rattle.std.proofs.Common.{◌≡◌, ◌+◌, ◌^◌, ◌<◌, ◌≤◌, List, [], ◌∷◌, ◌++◌, length, max, append_assoc, length-append, Result, Ok, Err, refl, sym, ap, ◌∙◌, subst, arith}
use Rattle.std.specs.Prelude.{OnOk, OnErr, count_by}
use Rattle.std.proofs.lemmas.List.{append-nil}
use Rattle.std.proofs.lemmas.List.Sums.{count_by-le-length}
use Rattle.uc_bytes.specs.declared.write.Write.{Write}
use Rattle.uc_batch.specs.Rising.{IsRising, last_of}
use Rattle.uc_batch.proofs.Rises.{last_of-append}
use Rattle.uc_memtable.specs.Gathering.{Gathering}
use Rattle.uc_memtable.specs.Labels.{deletes_range}
use Rattle.uc_memtable.proofs.Gathered.{rising-more}
use Rattle.uc_memtable.proofs.RisingParts.{rising_front, rising_back, last_low, last_greater, rising_short}

pub front_none : (fs ws : List Write) → fs ++ ws ≡ [] → fs ≡ []
front_none [] ws e = refl
front_none (f ∷ fs) ws e = absurd cc

-- there are few of both
pub both_short : (fs ws : List Write) → IsRising 0 (fs ++ ws) → length fs + length ws < 2 ^ 56
both_short fs ws h =
    let short = rising_short 0 (fs ++ ws) (omega arith) h in
    let long = length-append fs ws in
    omega (arith, short, long)

pub ranges_short : (fs ws : List Write) → IsRising 0 (fs ++ ws) → count_by deletes_range fs + count_by deletes_range ws < 2 ^ 56
ranges_short fs ws h =
    let short = both_short fs ws h in
    let first = count_by-le-length deletes_range fs in
    let second = count_by-le-length deletes_range ws in
    omega (arith, short, first, second)

module _ (fs : List Write) (a : Gathering) (rising : IsRising 0 ((fs ++ a.shown) ++ a.waiting)) where
  pub shown_rising : IsRising 0 (fs ++ a.shown)
  shown_rising = rising_front 0 (fs ++ a.shown) a.waiting rising

  pub active_behind : IsRising (last_of 0 fs) a.shown
  active_behind = rising_back 0 fs a.shown shown_rising

  pub last_shown : max (last_of 0 fs) (last_of 0 a.shown) ≡ last_of 0 (fs ++ a.shown)
  last_shown = last_greater fs a.shown shown_rising

  pub last_all : max (last_of 0 fs) (last_of 0 (a.shown ++ a.waiting)) ≡ last_of 0 ((fs ++ a.shown) ++ a.waiting)
  last_all =
      let same : (fs ++ a.shown) ++ a.waiting ≡ fs ++ (a.shown ++ a.waiting) = append_assoc fs a.shown a.waiting in
      last_greater fs (a.shown ++ a.waiting) (subst (IsRising 0) same rising) ∙ ap (last_of 0) (sym same)

  -- a number after all is after those of the active one
  pub last_behind : last_of 0 (a.shown ++ a.waiting) ≤ last_of 0 ((fs ++ a.shown) ++ a.waiting)
  last_behind =
      let low = last_low (last_of 0 fs) (a.shown ++ a.waiting) in
      let same : last_of 0 ((fs ++ a.shown) ++ a.waiting) ≡ last_of (last_of 0 fs) (a.shown ++ a.waiting) = ap (last_of 0) (append_assoc fs a.shown a.waiting) ∙ last_of-append 0 fs (a.shown ++ a.waiting) in
      omega (arith, low, same)

  -- more waits, or nothing changed
  pub prepared_rising : {A E : Type 0} (r : Result A E) (new : Gathering) (w : Write) → OnOk r (new ≡ record { shown = a.shown; waiting = a.waiting ++ w ∷ [] }) → OnErr r (new ≡ a) →
      last_of 0 ((fs ++ a.shown) ++ a.waiting) < w.seq → w.seq < 2 ^ 56 → IsRising 0 ((fs ++ new.shown) ++ new.waiting)
  prepared_rising (Ok r) new w ok err above below =
      subst (λ (g : Gathering). IsRising 0 ((fs ++ g.shown) ++ g.waiting)) (sym ok)
      (subst (IsRising 0) (append_assoc (fs ++ a.shown) a.waiting (w ∷ [])) (rising-more 0 ((fs ++ a.shown) ++ a.waiting) w rising above below))
  prepared_rising (Err e) new w ok err above below = subst (λ (g : Gathering). IsRising 0 ((fs ++ g.shown) ++ g.waiting)) (sym err) rising

  -- nothing waits
  pub given_up_rising : (new : Gathering) → new ≡ record { shown = a.shown; waiting = [] } → IsRising 0 ((fs ++ new.shown) ++ new.waiting)
  given_up_rising new e = subst (λ (g : Gathering). IsRising 0 ((fs ++ g.shown) ++ g.waiting)) (sym e) (subst (IsRising 0) (sym (append-nil (fs ++ a.shown))) shown_rising)
