-- Runs that are written, synced or removed: the others stay as they are.
use Rattle.std.proofs.Common.{◌≡◌, ℕ, ◌<◌, ◌≤◌, Bool, true, false, cond, eqb, ◌||◌, ⊎_elim, List, [], ◌∷◌, ◌++◌, refl, sym, ap, ◌∙◌, subst}
use Rattle.std.specs.Prelude.{Option, Some, None}
use Rattle.std.specs.List.{AllByRecursion}
use Rattle.std.proofs.lemmas.List.{append-nil}
use Rattle.uc_folder.specs.Device.{Batch, File, Entry, Device, at, suspected, changed}
use Rattle.uc_run_folder.specs.Files.{Files}
use Rattle.uc_run_folder.proofs.Lists.{at_all, at_other, all_weaker}
use Rattle.uc_run_folder.proofs.Keeping.{Each, IsGone, IsSealed, IsDurable, AreDurable, AreSealed, Kept}
use Rattle.std.proofs.lemmas.Bool.{eqb-true, eqb-false, and_parts, or_cases}
use Rattle.uc_folder.specs.Device.{sealed}
use Rattle.uc_run_folder.specs.Files.{run_synced}
use Rattle.uc_run_folder.specs.Steps.{has_run, are_among}
use Rattle.uc_run_folder.proofs.Keeping.{EachIf, IsHere, IsListOf, gone_here}
use Rattle.uc_run_folder.proofs.Holding.{IsWritten}

-- ---- runs that move

-- each run that is on the device stays there, as it was written
abbrev pub Stay : (ℕ → Entry) → (ℕ → List Batch) → (ℕ → Entry) → (ℕ → List Batch) → Type 0
Stay runs rows runs' rows' = (r : ℕ) → IsDurable runs rows r → IsDurable runs' rows' r

list_stays : (runs runs' : ℕ → Entry) (rows rows' : ℕ → List Batch) → Stay runs rows runs' rows' → (o : Option (List ℕ)) → IsListOf runs rows o → IsListOf runs' rows' o
list_stays runs runs' rows rows' stay None is = tt
list_stays runs runs' rows rows' stay (Some rs) is = all_weaker (IsDurable runs rows) (IsDurable runs' rows') stay rs is

each_stays : (runs runs' : ℕ → Entry) (rows rows' : ℕ → List Batch) → Stay runs rows runs' rows' → (now : Option (List ℕ)) (before : List (Option (List ℕ))) → Each (IsListOf runs rows) now before → Each (IsListOf runs' rows') now before
each_stays runs runs' rows rows' stay now before is =
    (list_stays runs runs' rows rows' stay now is.0, all_weaker (IsListOf runs rows) (IsListOf runs' rows') (list_stays runs runs' rows rows' stay) before is.1)

module _ (base tried : ℕ) (fine : Bool) (d : Device) (f : Files) (next : ℕ) (named older : List ℕ) (rows : ℕ → List Batch) (kept : Kept base tried fine d f next named older rows) where
  pub runs_kept : (runs' : ℕ → Entry) (bound' : ℕ) (rows' : ℕ → List Batch) → Stay f.runs rows runs' rows' → ((r : ℕ) → next ≤ r → EachIf fine IsGone (runs' r).now (runs' r).before) →
      ((r : ℕ) → bound' < r → Each IsGone (runs' r).now (runs' r).before) → Kept base tried fine d (record f { runs = runs'; bound = bound' }) next named older rows'
  runs_kept runs' bound' rows' stay free bounded = record {
    firm = record {
      goes = kept.firm.goes;
      above = kept.firm.above;
      there = kept.firm.there;
      lists = λ k from. each_stays f.runs runs' rows rows' stay (f.lists k).now (f.lists k).before (kept.firm.lists k from);
      bounded = bounded;
    };
    newest = all_weaker (IsDurable f.runs rows) (IsDurable runs' rows') stay named kept.newest;
    before = all_weaker (IsDurable f.runs rows) (IsDurable runs' rows') stay older kept.before;
    only = kept.only;
    newer = kept.newer;
    free = free;
  }

-- ---- a run is written

sealed_here : (rows : List Batch) (o : Option File) → IsSealed rows o → IsHere o
sealed_here rows None is = absurd is
sealed_here rows (Some f) is = tt

-- a name that no file has isn't that of a run on the device
other : (runs : ℕ → Entry) (rows : ℕ → List Batch) (r i : ℕ) → IsGone (runs r).now → IsSealed (rows i) (runs i).now → i ≡ r → ⊥
other runs rows r i gone is e = gone_here (runs r).now gone (subst (λ k. IsHere (runs k).now) e (sealed_here (rows i) (runs i).now is))

pub written_stays : (runs : ℕ → Entry) (rows : ℕ → List Batch) (r : ℕ) (e : Entry) (new : List Batch) → IsGone (runs r).now → Stay runs rows (at r e runs) (at r new rows)
written_stays runs rows r e new gone i is =
    let ne = other runs rows r i gone is.sealed in
    record {
      sealed = subst (λ l. IsSealed l (at r e runs i).now) (sym (at_other r new rows i ne)) (subst (λ (x : Entry). IsSealed (rows i) x.now) (sym (at_other r e runs i ne)) is.sealed);
      named = subst (λ (x : Entry). x.before ≡ []) (sym (at_other r e runs i ne)) is.named;
    }

pub rows_stay : (runs : ℕ → Entry) (rows : ℕ → List Batch) (r : ℕ) (new : List Batch) → IsGone (runs r).now → Stay runs rows runs (at r new rows)
rows_stay runs rows r new gone i is =
    let ne = other runs rows r i gone is.sealed in
    record { sealed = subst (λ l. IsSealed l (runs i).now) (sym (at_other r new rows i ne)) is.sealed; named = is.named }

pub sealed_written : (runs : ℕ → Entry) (rows : ℕ → List Batch) (r : ℕ) (e : Entry) (new : List Batch) → IsGone (runs r).now → (rs : List ℕ) → AreSealed runs rows rs → AreSealed (at r e runs) (at r new rows) rs
sealed_written runs rows r e new gone [] all = tt
sealed_written runs rows r e new gone (i ∷ rs) all =
    let ne = other runs rows r i gone all.0 in (
      subst (λ l. IsSealed l (at r e runs i).now) (sym (at_other r new rows i ne)) (subst (λ (x : Entry). IsSealed (rows i) x.now) (sym (at_other r e runs i ne)) all.0),
      sealed_written runs rows r e new gone rs all.1,
    )

-- the names of other runs
pub others_gone : (runs : ℕ → Entry) (r : ℕ) (e : Entry) (i : ℕ) → (i ≡ r → ⊥) → Each IsGone (runs i).now (runs i).before → Each IsGone (at r e runs i).now (at r e runs i).before
others_gone runs r e i ne is = subst (λ (x : Entry). Each IsGone x.now x.before) (sym (at_other r e runs i ne)) is

pub others_if : (fine : Bool) (runs : ℕ → Entry) (r : ℕ) (e : Entry) (i : ℕ) → (i ≡ r → ⊥) → EachIf fine IsGone (runs i).now (runs i).before → EachIf fine IsGone (at r e runs i).now (at r e runs i).before
others_if fine runs r e i ne is = subst (λ (x : Entry). EachIf fine IsGone x.now x.before) (sym (at_other r e runs i ne)) is

-- ---- a run is synced

-- a change by which nothing on the device is changed
abbrev pub Keeps : (File → File) → Type 0
Keeps change = (rows : List Batch) (f : File) → IsSealed rows (Some f) → IsSealed rows (Some (change f))

pub suspected_keeps : Keeps suspected
suspected_keeps rows f is = is

pub synced_keeps : Keeps run_synced
synced_keeps rows f is = by_test f.suspect
  where
    by_test : (b : Bool) → IsSealed rows (Some (cond b f (sealed f)))
    by_test true = is
    by_test false = (ap (λ l. f.kept ++ l) is.1 ∙ (append-nil f.kept ∙ is.0), refl, is.2)

pub both_keep : Keeps (λ file. suspected (run_synced file))
both_keep rows f is = suspected_keeps rows (run_synced f) (synced_keeps rows f is)

sealed_changed : (change : File → File) → Keeps change → (rows : List Batch) (e : Entry) → IsSealed rows e.now → IsSealed rows (changed change e).now
sealed_changed change keeps rows e is = by_name e.now is
  where
    by_name : (o : Option File) → IsSealed rows o → IsSealed rows (changed change (record e { now = o })).now
    by_name None is = absurd is
    by_name (Some f) is = keeps rows f is

gone_changed : (change : File → File) (e : Entry) → IsGone e.now → IsGone (changed change e).now
gone_changed change e is = by_name e.now is
  where
    by_name : (o : Option File) → IsGone o → IsGone (changed change (record e { now = o })).now
    by_name None is = tt
    by_name (Some f) is = is

module _ (change : File → File) (keeps : Keeps change) (runs : ℕ → Entry) (r : ℕ) where
  abbrev pub with_change : ℕ → Entry
  with_change = at r (changed change (runs r)) runs

  pub changed_stays : (rows : ℕ → List Batch) → Stay runs rows with_change rows
  changed_stays rows i is =
      as_durable (at_all (λ (k : ℕ) (x : Entry). IsDurable runs rows k → (IsSealed (rows k) x.now × (x.before ≡ []))) r (changed change (runs r)) runs i
      (λ e one. (sealed_changed change keeps (rows i) (runs r) (subst (λ k. IsSealed (rows i) (runs k).now) e one.sealed), subst (λ k. (runs k).before ≡ []) e one.named))
      (λ ne one. (one.sealed, one.named)) is)
    where
      as_durable : (IsSealed (rows i) (with_change i).now × ((with_change i).before ≡ [])) → IsDurable with_change rows i
      as_durable both = record { sealed = both.0; named = both.1 }

  pub changed_seals : (rows : ℕ → List Batch) (rs : List ℕ) → AreSealed runs rows rs → AreSealed with_change rows rs
  changed_seals rows [] all = tt
  changed_seals rows (i ∷ rs) all = (
    at_all (λ (k : ℕ) (x : Entry). IsSealed (rows k) (runs k).now → IsSealed (rows k) x.now) r (changed change (runs r)) runs i
        (λ e one. sealed_changed change keeps (rows i) (runs r) (subst (λ k. IsSealed (rows i) (runs k).now) e one)) (λ ne one. one) all.0,
    changed_seals rows rs all.1,
  )

  pub changed_gone : (i : ℕ) → Each IsGone (runs i).now (runs i).before → Each IsGone (with_change i).now (with_change i).before
  changed_gone i is =
      at_all (λ (k : ℕ) (x : Entry). Each IsGone (runs k).now (runs k).before → Each IsGone x.now x.before) r (changed change (runs r)) runs i
      (λ e one. (gone_changed change (runs r) (subst (λ k. IsGone (runs k).now) e one.0), subst (λ k. AllByRecursion IsGone (runs k).before) e one.1)) (λ ne one. one) is

  pub changed_if : (fine : Bool) (i : ℕ) → EachIf fine IsGone (runs i).now (runs i).before → EachIf fine IsGone (with_change i).now (with_change i).before
  changed_if fine i is =
      at_all (λ (k : ℕ) (x : Entry). EachIf fine IsGone (runs k).now (runs k).before → EachIf fine IsGone x.now x.before) r (changed change (runs r)) runs i
      (λ e one. (gone_changed change (runs r) (subst (λ k. IsGone (runs k).now) e one.0), λ so. subst (λ k. AllByRecursion IsGone (runs k).before) e (one.1 so))) (λ ne one. one) is

-- what is written is on the device after the sync
pub written_synced : (rows : List Batch) (o : Option File) (before : List (Option File)) → IsWritten rows o → IsSealed rows (changed run_synced (record { now = o; before = before })).now
written_synced rows None before is = absurd is
written_synced rows (Some f) before is = by_test f.suspect is.3
  where
    by_test : (b : Bool) → b ≡ false → IsSealed rows (Some (cond b f (sealed f)))
    by_test true e = absurd (cc)
    by_test false e = (ap (λ l. l ++ f.waiting) is.0 ∙ is.1, refl, is.2)

-- ---- a run is removed

pub removed_durable : (runs : ℕ → Entry) (rows : ℕ → List Batch) (r : ℕ) (e : Entry) (rs : List ℕ) → has_run r rs ≡ false → AreDurable runs rows rs → AreDurable (at r e runs) rows rs
removed_durable runs rows r e [] out all = tt
removed_durable runs rows r e (i ∷ rs) out all = by_test (λ rest. removed_durable runs rows r e rs rest all.1) (eqb i r) refl out
  where
    by_test : (has_run r rs ≡ false → AreDurable (at r e runs) rows rs) → (b : Bool) → eqb i r ≡ b → (b || has_run r rs) ≡ false → AreDurable (at r e runs) rows (i ∷ rs)
    by_test others true here out = absurd (cc)
    by_test others false here out =
        let ne : i ≡ r → ⊥ = eqb-false i r here in (
          record {
            sealed = subst (λ (x : Entry). IsSealed (rows i) x.now) (sym (at_other r e runs i ne)) all.0.sealed;
            named = subst (λ (x : Entry). x.before ≡ []) (sym (at_other r e runs i ne)) all.0.named;
          },
          others out,
        )

-- ---- runs that are kept

pub among_durable : (runs : ℕ → Entry) (rows : ℕ → List Batch) (r : ℕ) (rs : List ℕ) → has_run r rs ≡ true → AreDurable runs rows rs → IsDurable runs rows r
among_durable runs rows r [] e all = absurd (cc)
among_durable runs rows r (i ∷ rs) e all =
    ⊎_elim
    (λ (here : eqb i r ≡ true). subst (IsDurable runs rows) (eqb-true i r here) all.0)
    (λ (there : has_run r rs ≡ true). among_durable runs rows r rs there all.1)
    (or_cases (eqb i r) (has_run r rs) e)

pub all_among : (runs : ℕ → Entry) (rows : ℕ → List Batch) (rs kept : List ℕ) → are_among kept rs ≡ true → AreDurable runs rows rs → AreSealed runs rows kept
all_among runs rows rs [] e all = tt
all_among runs rows rs (r ∷ kept) e all =
    let both = and_parts (has_run r rs) (are_among kept rs) e in
    ((among_durable runs rows r rs both.0 all).sealed, all_among runs rows rs kept both.1 all)
