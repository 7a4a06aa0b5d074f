-- The lists and run files between any two events.
use Rattle.std.proofs.Common.{◌≡◌, ℕ, zero, suc, ◌<◌, ◌≤◌, Bool, true, false, cond, eqb, ◌⊎◌, inl, inr, ⊎_elim, List, [], ◌∷◌, ◌++◌, get_or, take, refl, sym, ap, ◌∙◌, subst, arith}
use Rattle.std.specs.Prelude.{⊤, Option, Some, None}
use Rattle.std.specs.List.{AllByRecursion}
use Rattle.std.proofs.lemmas.Bool.{cases_lt}
use Rattle.std.proofs.lemmas.List.{append-nil}
use Rattle.uc_folder.specs.declared.phases.Writer.{Writer}
use Rattle.uc_folder.specs.declared.phases.Writer.TheVariants.{Making, Founding, Naming, Failed}
use Rattle.uc_folder.specs.declared.action.Action.{Action}
use Rattle.uc_folder.specs.declared.action.Action.TheVariants.{Nothing, CreateLog, Append, SyncLog, CutLog, SyncNames, SetAside, CopyLog, SyncCopy, NameCopy, WriteBase, SyncBase, NameBase, RemoveLog, RemoveBase}
use Rattle.uc_folder.specs.Device.{Batch, File, Entry, Device, Keep, first_number, crashed, crashed_name, crashed_entry, left_of, rows_of, is_there, newest_base, last_log, highest, at, named, stands_for}
use Rattle.uc_folder.specs.Worlds.{Outcome, Done, NotDone, PartDone, DoneUntold, device_after, names_read}
use Rattle.uc_run_folder.specs.Files.{Names, Files, runs_of, next_in, crashed_names, crashed_files, names_for, sync_files, files_after}
use Rattle.uc_run_folder.specs.RunWorlds.{list_read, files_read}
use Rattle.uc_run_folder.proofs.Lists.{highest_passes, highest_above, all_at, all_weaker}

-- ---- the files of a name

-- whatever a name may stand for
abbrev pub Each : {A : Type 0} → (Option A → Type 0) → Option A → List (Option A) → Type 0
Each P now before = P now × AllByRecursion P before

-- the same, of what it stood for before only if this is so
abbrev pub EachIf : {A : Type 0} → Bool → (Option A → Type 0) → Option A → List (Option A) → Type 0
EachIf b P now before = P now × (b ≡ true → AllByRecursion P before)

abbrev pub IsGone : {A : Type 0} → Option A → Type 0
IsGone None = ⊤
IsGone (Some x) = ⊥

abbrev pub IsHere : {A : Type 0} → Option A → Type 0
IsHere None = ⊥
IsHere (Some x) = ⊤

-- no list, or just these runs
abbrev pub IsOnly : List ℕ → Option (List ℕ) → Type 0
IsOnly named None = ⊤
IsOnly named (Some rs) = rs ≡ named

-- a run that is on the device
abbrev pub IsSealed : List Batch → Option File → Type 0
IsSealed rows None = ⊥
IsSealed rows (Some f) = (f.kept ≡ rows_of rows) × (f.waiting ≡ []) × (f.lost ≡ [])

-- and so is its name
pub record IsDurable (runs : ℕ → Entry) (rows : ℕ → List Batch) (r : ℕ) : Type 0 where
  pub sealed : IsSealed (rows r) (runs r).now
  pub named : (runs r).before ≡ []

abbrev pub AreDurable : (ℕ → Entry) → (ℕ → List Batch) → List ℕ → Type 0
AreDurable runs rows rs = AllByRecursion (IsDurable runs rows) rs

abbrev pub AreSealed : (ℕ → Entry) → (ℕ → List Batch) → List ℕ → Type 0
AreSealed runs rows rs = AllByRecursion (λ (r : ℕ). IsSealed (rows r) (runs r).now) rs

abbrev pub IsListOf : (ℕ → Entry) → (ℕ → List Batch) → Option (List ℕ) → Type 0
IsListOf runs rows None = ⊤
IsListOf runs rows (Some rs) = AreDurable runs rows rs

-- a list is there where a base is
abbrev pub Alike : Option File → Option (List ℕ) → Type 0
Alike None None = ⊤
Alike (Some f) (Some rs) = ⊤
Alike _ _ = ⊥

abbrev pub AreAlike : List (Option File) → List (Option (List ℕ)) → Type 0
AreAlike [] [] = ⊤
AreAlike (o ∷ os) (p ∷ ps) = Alike o p × AreAlike os ps
AreAlike _ _ = ⊥

abbrev pub Goes : Entry → Names → Type 0
Goes e l = Alike e.now l.now × AreAlike e.before l.before

-- ---- what holds

-- whether the names were synced since an opening
abbrev pub is_fine : Writer → Bool
is_fine Making = false
is_fine Founding = false
is_fine (Naming top sealed) = false
is_fine Failed = false
is_fine w = true

-- Of the lists that an opening may read, each names runs that are on the device.
pub record Firm (base : ℕ) (d : Device) (f : Files) (rows : ℕ → List Batch) : Type 0 where
  pub goes : (k : ℕ) → Goes (d.bases k) (f.lists k)
  pub above : (k : ℕ) → d.names < k → Each IsGone (f.lists k).now (f.lists k).before
  pub there : (base ≤ first_number) ⊎ Each IsHere (f.lists base).now (f.lists base).before
  pub lists : (k : ℕ) → base ≤ k → Each (IsListOf f.runs rows) (f.lists k).now (f.lists k).before
  pub bounded : (r : ℕ) → f.bound < r → Each IsGone (f.runs r).now (f.runs r).before

-- No list is newer than the one tried last, and no run has a number that was not given yet.
pub record Kept (base tried : ℕ) (fine : Bool) (d : Device) (f : Files) (next : ℕ) (named older : List ℕ) (rows : ℕ → List Batch) : Type 0 where
  pub firm : Firm base d f rows
  pub newest : AreDurable f.runs rows named
  pub before : AreDurable f.runs rows older
  pub only : EachIf fine (IsOnly named) (f.lists base).now (f.lists base).before
  pub newer : (k : ℕ) → tried < k → EachIf fine IsGone (f.lists k).now (f.lists k).before
  pub free : (r : ℕ) → next ≤ r → EachIf fine IsGone (f.runs r).now (f.runs r).before

-- ---- syncs of names

each_synced : {A : Type 0} (P : Option A → Type 0) (now : Option A) (before : List (Option A)) → Each P now before → Each P now []
each_synced P now before is = (is.0, tt)

pub durable_synced : (f : Files) (rows : ℕ → List Batch) (r : ℕ) → IsSealed (rows r) (f.runs r).now → IsDurable (sync_files f).runs rows r
durable_synced f rows r is = record { sealed = is; named = refl }

pub all_synced : (f : Files) (rows : ℕ → List Batch) (rs : List ℕ) → AreDurable f.runs rows rs → AreDurable (sync_files f).runs rows rs
all_synced f rows rs is = all_weaker (IsDurable f.runs rows) (IsDurable (sync_files f).runs rows) (λ r (one : IsDurable f.runs rows r). durable_synced f rows r one.sealed) rs is

pub all_sealed_synced : (f : Files) (rows : ℕ → List Batch) (rs : List ℕ) → AreSealed f.runs rows rs → AreDurable (sync_files f).runs rows rs
all_sealed_synced f rows rs is = all_weaker (λ (r : ℕ). IsSealed (rows r) (f.runs r).now) (IsDurable (sync_files f).runs rows) (durable_synced f rows) rs is

pub list_synced : (f : Files) (rows : ℕ → List Batch) (o : Option (List ℕ)) → IsListOf f.runs rows o → IsListOf (sync_files f).runs rows o
list_synced f rows None is = tt
list_synced f rows (Some rs) is = all_synced f rows rs is

there_synced : (base : ℕ) (f : Files) → (base ≤ first_number) ⊎ Each IsHere (f.lists base).now (f.lists base).before → (base ≤ first_number) ⊎ Each IsHere (f.lists base).now []
there_synced base f is = ⊎_elim (λ (le : base ≤ first_number). inl le) (λ (here : Each IsHere (f.lists base).now (f.lists base).before). inr (here.0, tt)) is

module _ (base tried : ℕ) (fine fine' : Bool) (d d' : Device) (f : Files) (next : ℕ) (named older : List ℕ) (rows : ℕ → List Batch) (kept : Kept base tried fine d f next named older rows) (le : d.names ≤ d'.names) where
  pub kept_synced : ((k : ℕ) → Goes (d'.bases k) ((sync_files f).lists k)) → Kept base tried fine' d' (sync_files f) next named older rows
  kept_synced goes = record {
    firm = record {
      goes = goes;
      above = λ k lt. ((kept.firm.above k (omega (arith, le, lt))).0, tt);
      there = there_synced base f kept.firm.there;
      lists = λ k from. (list_synced f rows (f.lists k).now (kept.firm.lists k from).0, tt);
      bounded = λ r lt. ((kept.firm.bounded r lt).0, tt);
    };
    newest = all_synced f rows named kept.newest;
    before = all_synced f rows older kept.before;
    only = (kept.only.0, λ e. tt);
    newer = λ k lt. ((kept.newer k lt).0, λ e. tt);
    free = λ r from. ((kept.free r from).0, λ e. tt);
  }

  pub kept_same : ((k : ℕ) → Goes (d'.bases k) (f.lists k)) → (fine' ≡ true → fine ≡ true) → Kept base tried fine' d' f next named older rows
  kept_same goes fines = record {
    firm = record {
      goes = goes;
      above = λ k lt. kept.firm.above k (omega (arith, le, lt));
      there = kept.firm.there;
      lists = kept.firm.lists;
      bounded = kept.firm.bounded;
    };
    newest = kept.newest;
    before = kept.before;
    only = (kept.only.0, λ e. kept.only.1 (fines e));
    newer = λ k lt. ((kept.newer k lt).0, λ e. (kept.newer k lt).1 (fines e));
    free = λ r from. ((kept.free r from).0, λ e. (kept.free r from).1 (fines e));
  }

-- ---- an operation of the folder goes on lists and bases alike

at_goes : (n : ℕ) (e : Entry) (l : Names) (es : ℕ → Entry) (ls : ℕ → Names) → Goes e l → ((k : ℕ) → Goes (es k) (ls k)) → (k : ℕ) → Goes (at n e es k) (at n l ls k)
at_goes n e l es ls here others k = by_test (eqb k n)
  where
    by_test : (b : Bool) → Goes (cond b e (es k)) (cond b l (ls k))
    by_test true = here
    by_test false = others k

pub goes_after : (o : Outcome) (batch : Batch) (parts : ℕ → List Batch) (d : Device) (draft : List ℕ) (f : Files) (a : Action) → ((k : ℕ) → Goes (d.bases k) (f.lists k)) → (k : ℕ) → Goes ((device_after o batch parts d a).bases k) ((files_after o draft a f).lists k)
goes_after Done batch parts d draft f Nothing goes k = goes k
goes_after Done batch parts d draft f (CreateLog i) goes k = goes k
goes_after Done batch parts d draft f (Append i mark) goes k = goes k
goes_after Done batch parts d draft f (SyncLog i n) goes k = goes k
goes_after Done batch parts d draft f (CutLog i n) goes k = goes k
goes_after Done batch parts d draft f SyncNames goes k = ((goes k).0, tt)
goes_after Done batch parts d draft f (SetAside i) goes k = goes k
goes_after Done batch parts d draft f (CopyLog i n) goes k = goes k
goes_after Done batch parts d draft f SyncCopy goes k = goes k
goes_after Done batch parts d draft f (NameCopy i) goes k = goes k
goes_after Done batch parts d draft f (WriteBase n past) goes k = goes k
goes_after Done batch parts d draft f SyncBase goes k = goes k
goes_after Done batch parts d draft f (NameBase n past) goes k = at_goes n (stands_for (Some d.partial) (d.bases n)) (names_for (Some f.partial) (f.lists n)) d.bases f.lists (tt, ((goes n).0, (goes n).1)) goes k
goes_after Done batch parts d draft f (RemoveLog i) goes k = goes k
goes_after Done batch parts d draft f (RemoveBase n) goes k = at_goes n (stands_for None (d.bases n)) (names_for None (f.lists n)) d.bases f.lists (tt, ((goes n).0, (goes n).1)) goes k
goes_after NotDone batch parts d draft f Nothing goes k = goes k
goes_after NotDone batch parts d draft f (CreateLog i) goes k = goes k
goes_after NotDone batch parts d draft f (Append i mark) goes k = goes k
goes_after NotDone batch parts d draft f (SyncLog i n) goes k = goes k
goes_after NotDone batch parts d draft f (CutLog i n) goes k = goes k
goes_after NotDone batch parts d draft f SyncNames goes k = goes k
goes_after NotDone batch parts d draft f (SetAside i) goes k = goes k
goes_after NotDone batch parts d draft f (CopyLog i n) goes k = goes k
goes_after NotDone batch parts d draft f SyncCopy goes k = goes k
goes_after NotDone batch parts d draft f (NameCopy i) goes k = goes k
goes_after NotDone batch parts d draft f (WriteBase n past) goes k = goes k
goes_after NotDone batch parts d draft f SyncBase goes k = goes k
goes_after NotDone batch parts d draft f (NameBase n past) goes k = goes k
goes_after NotDone batch parts d draft f (RemoveLog i) goes k = goes k
goes_after NotDone batch parts d draft f (RemoveBase n) goes k = goes k
goes_after PartDone batch parts d draft f Nothing goes k = goes k
goes_after PartDone batch parts d draft f (CreateLog i) goes k = goes k
goes_after PartDone batch parts d draft f (Append i mark) goes k = goes k
goes_after PartDone batch parts d draft f (SyncLog i n) goes k = goes k
goes_after PartDone batch parts d draft f (CutLog i n) goes k = goes k
goes_after PartDone batch parts d draft f SyncNames goes k = goes k
goes_after PartDone batch parts d draft f (SetAside i) goes k = goes k
goes_after PartDone batch parts d draft f (CopyLog i n) goes k = goes k
goes_after PartDone batch parts d draft f SyncCopy goes k = goes k
goes_after PartDone batch parts d draft f (NameCopy i) goes k = goes k
goes_after PartDone batch parts d draft f (WriteBase n past) goes k = goes k
goes_after PartDone batch parts d draft f SyncBase goes k = goes k
goes_after PartDone batch parts d draft f (NameBase n past) goes k = goes k
goes_after PartDone batch parts d draft f (RemoveLog i) goes k = goes k
goes_after PartDone batch parts d draft f (RemoveBase n) goes k = goes k
goes_after DoneUntold batch parts d draft f Nothing goes k = goes k
goes_after DoneUntold batch parts d draft f (CreateLog i) goes k = goes k
goes_after DoneUntold batch parts d draft f (Append i mark) goes k = goes k
goes_after DoneUntold batch parts d draft f (SyncLog i n) goes k = goes k
goes_after DoneUntold batch parts d draft f (CutLog i n) goes k = goes k
goes_after DoneUntold batch parts d draft f SyncNames goes k = ((goes k).0, tt)
goes_after DoneUntold batch parts d draft f (SetAside i) goes k = goes k
goes_after DoneUntold batch parts d draft f (CopyLog i n) goes k = goes k
goes_after DoneUntold batch parts d draft f SyncCopy goes k = goes k
goes_after DoneUntold batch parts d draft f (NameCopy i) goes k = goes k
goes_after DoneUntold batch parts d draft f (WriteBase n past) goes k = goes k
goes_after DoneUntold batch parts d draft f SyncBase goes k = goes k
goes_after DoneUntold batch parts d draft f (NameBase n past) goes k = at_goes n (stands_for (Some d.partial) (d.bases n)) (names_for (Some f.partial) (f.lists n)) d.bases f.lists (tt, ((goes n).0, (goes n).1)) goes k
goes_after DoneUntold batch parts d draft f (RemoveLog i) goes k = goes k
goes_after DoneUntold batch parts d draft f (RemoveBase n) goes k = at_goes n (stands_for None (d.bases n)) (names_for None (f.lists n)) d.bases f.lists (tt, ((goes n).0, (goes n).1)) goes k

-- ---- a crash

alike_at : (os : List (Option File)) (ps : List (Option (List ℕ))) (i : ℕ) (o : Option File) (p : Option (List ℕ)) → Alike o p → AreAlike os ps → Alike (get_or os i o) (get_or ps i p)
alike_at [] [] i o p here all = here
alike_at [] (q ∷ ps) i o p here all = absurd all
alike_at (n ∷ os) [] i o p here all = absurd all
alike_at (n ∷ os) (q ∷ ps) zero o p here all = all.0
alike_at (n ∷ os) (q ∷ ps) (suc i) o p here all = alike_at os ps i o p here all.1

alike_crashed : (keep : Keep) (o : Option File) (p : Option (List ℕ)) → Alike o p → Alike (crashed_name keep o) p
alike_crashed keep None None is = tt
alike_crashed keep None (Some rs) is = absurd is
alike_crashed keep (Some f) None is = absurd is
alike_crashed keep (Some f) (Some rs) is = tt

goes_crashed : (keep : Keep) (e : Entry) (l : Names) → Goes e l → Goes (crashed_entry keep e) (crashed_names keep l)
goes_crashed keep e l is =
    (alike_crashed keep (get_or (e.now ∷ e.before) keep.which e.now) (get_or (l.now ∷ l.before) keep.which l.now) (alike_at (e.now ∷ e.before) (l.now ∷ l.before) keep.which e.now l.now is.0 (is.0, is.1)), tt)

pub chosen : {A : Type 0} (P : Option A → Type 0) (keep : Keep) (now : Option A) (before : List (Option A)) → Each P now before → Each P (get_or (now ∷ before) keep.which now) []
chosen P keep now before is = (all_at P (now ∷ before) keep.which now is.0 (is.0, is.1), tt)

left_none : (whole : ℕ → Bool) (n : ℕ) → left_of whole (take n []) ≡ []
left_none whole zero = refl
left_none whole (suc n) = refl

sealed_crashed : (rows : List Batch) (keep : Keep) (o : Option File) → IsSealed rows o → IsSealed rows (crashed_name keep o)
sealed_crashed rows keep None is = is
sealed_crashed rows keep (Some f) is =
    let rest : f.waiting ++ f.lost ≡ [] = ap (λ l. l ++ f.lost) is.1 ∙ is.2 in
    let none : left_of keep.whole (take keep.count (f.waiting ++ f.lost)) ≡ [] = ap (λ l. left_of keep.whole (take keep.count l)) rest ∙ left_none keep.whole keep.count in
    (ap (λ l. f.kept ++ l) none ∙ (append-nil f.kept ∙ is.0), refl, refl)

pub gone_crashed : (keep : Keep) (o : Option File) → IsGone o → IsGone (crashed_name keep o)
gone_crashed keep None is = tt
gone_crashed keep (Some f) is = is

pub durable_crashed : (keeps : ℕ → Keep) (runs : ℕ → Entry) (rows : ℕ → List Batch) (r : ℕ) → IsDurable runs rows r → IsDurable (λ k. crashed_entry (keeps k) (runs k)) rows r
durable_crashed keeps runs rows r is = record {
  sealed = sealed_crashed (rows r) (keeps r) (get_or ((runs r).now ∷ (runs r).before) (keeps r).which (runs r).now)
      (all_at (IsSealed (rows r)) ((runs r).now ∷ (runs r).before) (keeps r).which (runs r).now is.sealed (is.sealed, subst (AllByRecursion (IsSealed (rows r))) (sym is.named) tt));
  named = refl;
}

list_crashed : (keeps : ℕ → Keep) (runs : ℕ → Entry) (rows : ℕ → List Batch) (o : Option (List ℕ)) → IsListOf runs rows o → IsListOf (λ k. crashed_entry (keeps k) (runs k)) rows o
list_crashed keeps runs rows None is = tt
list_crashed keeps runs rows (Some rs) is = all_weaker (IsDurable runs rows) (IsDurable (λ k. crashed_entry (keeps k) (runs k)) rows) (durable_crashed keeps runs rows) rs is

pub firm_crashed : (base : ℕ) (d : Device) (f : Files) (rows : ℕ → List Batch) (logs bases runs : ℕ → Keep) → Firm base d f rows → Firm base (crashed logs bases d) (crashed_files bases runs f) rows
firm_crashed base d f rows logs bases runs firm = record {
  goes = λ k. goes_crashed (bases k) (d.bases k) (f.lists k) (firm.goes k);
  above = λ k lt. chosen IsGone (bases k) (f.lists k).now (f.lists k).before (firm.above k lt);
  there = ⊎_elim (λ (le : base ≤ first_number). inl le) (λ (here : Each IsHere (f.lists base).now (f.lists base).before). inr (chosen IsHere (bases base) (f.lists base).now (f.lists base).before here)) firm.there;
  lists = λ k from. let one = chosen (IsListOf f.runs rows) (bases k) (f.lists k).now (f.lists k).before (firm.lists k from) in
      (list_crashed runs f.runs rows (get_or ((f.lists k).now ∷ (f.lists k).before) (bases k).which (f.lists k).now) one.0, tt);
  bounded = λ r lt. let one = chosen IsGone (runs r) (f.runs r).now (f.runs r).before (firm.bounded r lt) in
      (gone_crashed (runs r) (get_or ((f.runs r).now ∷ (f.runs r).before) (runs r).which (f.runs r).now) one.0, tt);
}

-- ---- the list that an opening reads

here_there : (o : Option File) (p : Option (List ℕ)) → Alike o p → IsHere p → is_there o ≡ true
here_there None None is here = absurd here
here_there None (Some rs) is here = absurd is
here_there (Some f) p is here = refl

there_here : (o : Option File) (p : Option (List ℕ)) → Alike o p → is_there o ≡ true → IsHere p
there_here None p is e = absurd (cc)
there_here (Some f) None is e = absurd is
there_here (Some f) (Some rs) is e = tt

pub gone_here : {A : Type 0} (o : Option A) → IsGone o → IsHere o → ⊥
gone_here None gone here = here
gone_here (Some x) gone here = gone

not_here : {A : Type 0} (o : Option A) → (IsHere o → ⊥) → IsGone o
not_here None is = tt
not_here (Some x) is = is tt

run_here : (o : Option File) → IsHere o → is_there o ≡ true
run_here None here = absurd here
run_here (Some f) here = refl

module _ (base : ℕ) (d : Device) (f : Files) (rows : ℕ → List Batch) (firm : Firm base d f rows) where
  pub newest_from : base ≤ newest_base d
  newest_from =
      ⊎_elim (λ (le : base ≤ first_number). omega (arith, le))
      (λ (here : Each IsHere (f.lists base).now (f.lists base).before).
      ⊎_elim
      (λ (lt : d.names < base). absurd (gone_here (f.lists base).now (firm.above base lt).0 here.0))
      (λ (le : base ≤ d.names). let above = highest_above (λ n. is_there (d.bases n).now) d.names base le (here_there (d.bases base).now (f.lists base).now (firm.goes base).0 here.0) in omega (arith, above))
      (cases_lt d.names base))
      firm.there

  pub read_durable : AreDurable f.runs rows (list_read d f)
  read_durable = by_name (f.lists (newest_base d)).now (firm.lists (newest_base d) newest_from).0
    where
      by_name : (o : Option (List ℕ)) → IsListOf f.runs rows o → AreDurable f.runs rows (runs_of o)
      by_name None is = tt
      by_name (Some rs) is = is

  newest_gone : (k : ℕ) → newest_base d < k → IsGone (f.lists k).now
  newest_gone k lt =
      ⊎_elim
      (λ (over : d.names < k). (firm.above k over).0)
      (λ (le : k ≤ d.names). not_here (f.lists k).now (λ here. let above = highest_above (λ n. is_there (d.bases n).now) d.names k le (here_there (d.bases k).now (f.lists k).now (firm.goes k).0 here) in omega (arith, above, lt)))
      (cases_lt d.names k)

  next_gone : (r : ℕ) → next_in f ≤ r → IsGone (f.runs r).now
  next_gone r from =
      ⊎_elim
      (λ (over : f.bound < r). (firm.bounded r over).0)
      (λ (le : r ≤ f.bound). not_here (f.runs r).now (λ here. let above = highest_above (λ n. is_there (f.runs n).now) f.bound r le (run_here (f.runs r).now here) in omega (arith, above, from)))
      (cases_lt f.bound r)

  only_read : (o : Option (List ℕ)) → IsOnly (runs_of o) o
  only_read None = tt
  only_read (Some rs) = refl

  newest_here : (newest_base d ≤ first_number) ⊎ IsHere (f.lists (newest_base d)).now
  newest_here =
      ⊎_elim
      (λ (le : newest_base d ≤ first_number). inl le)
      (λ (lt : first_number < newest_base d).
      let same : newest_base d ≡ highest (λ n. is_there (d.bases n).now) d.names = omega (arith, lt) in
      ⊎_elim
      (λ (e : highest (λ n. is_there (d.bases n).now) d.names ≡ 0). absurd (omega (arith, lt, e)))
      (λ (e : is_there (d.bases (highest (λ n. is_there (d.bases n).now) d.names)).now ≡ true).
      inr (there_here (d.bases (newest_base d)).now (f.lists (newest_base d)).now (firm.goes (newest_base d)).0 (subst (λ n. is_there (d.bases n).now ≡ true) (sym same) e)))
      (highest_passes (λ n. is_there (d.bases n).now) d.names))
      (⊎_elim (λ (lt : first_number < newest_base d). inr lt) (λ (le : newest_base d ≤ first_number). inl le) (cases_lt first_number (newest_base d)))

  -- The opening goes on with the newest list, and syncs the names, if there is a log.
  pub opened_kept : (o : Option File) (fine : Bool) → (first_number < last_log d → is_there o ≡ true) → (is_there o ≡ false → fine ≡ false) →
      Kept (newest_base d) (newest_base d) fine (names_read o d) (files_read o f) (next_in f) (list_read d f) [] rows
  opened_kept None fine there unfine = record {
    firm = record {
      goes = firm.goes;
      above = firm.above;
      there = inl (⊎_elim (λ (lt : first_number < newest_base d). absurd (let none = there (omega (arith, lt)) in cc)) (λ (le : newest_base d ≤ first_number). le) (cases_lt first_number (newest_base d)));
      lists = λ k from. let le = newest_from in firm.lists k (omega (arith, le, from));
      bounded = firm.bounded;
    };
    newest = read_durable;
    before = tt;
    only = (only_read (f.lists (newest_base d)).now, λ e. absurd (let no' = sym e ∙ unfine refl in cc));
    newer = λ k lt. (newest_gone k lt, λ e. absurd (let no' = sym e ∙ unfine refl in cc));
    free = λ r from. (next_gone r from, λ e. absurd (let no' = sym e ∙ unfine refl in cc));
  }
  opened_kept (Some log) fine there unfine = record {
    firm = record {
      goes = λ k. ((firm.goes k).0, tt);
      above = λ k lt. ((firm.above k lt).0, tt);
      there = ⊎_elim (λ (le : newest_base d ≤ first_number). inl le) (λ (here : IsHere (f.lists (newest_base d)).now). inr (here, tt)) newest_here;
      lists = λ k from. let le = newest_from in (list_synced f rows (f.lists k).now (firm.lists k (omega (arith, le, from))).0, tt);
      bounded = λ r lt. ((firm.bounded r lt).0, tt);
    };
    newest = all_synced f rows (list_read d f) read_durable;
    before = tt;
    only = (only_read (f.lists (newest_base d)).now, λ e. tt);
    newer = λ k lt. (newest_gone k lt, λ e. tt);
    free = λ r from. (next_gone r from, λ e. tt);
  }
