-- Runs that no list names: they alone are removed, and they alone are written.
use Rattle.std.proofs.Common.{◌≡◌, ℕ, ◌<◌, ◌≤◌, Bool, true, false, cond, eqb, ltb, ◌&&◌, ◌||◌, ⊎_elim, List, [], ◌∷◌, get_or, refl, sym, ap, ◌∙◌, subst, arith}
use Rattle.std.specs.Prelude.{Option, Some, None, not}
use Rattle.std.proofs.lemmas.Bool.{cases_lt}
use Rattle.uc_folder.specs.declared.machine.Machine.{Machine}
use Rattle.uc_folder.specs.declared.phases.Checkpointer.{Checkpointer}
use Rattle.uc_folder.specs.declared.phases.Checkpointer.TheVariants.{Idle, Writing, Sealing, Renaming, Fixing}
use Rattle.uc_folder.specs.Device.{Batch, File, Entry, Keep, crashed, crashed_entry, newest_base}
use Rattle.uc_run_folder.specs.declared.phases.Phase.{Phase}
use Rattle.uc_run_folder.specs.declared.phases.Phase.TheVariants.{Between, WritingRun, Listing}
use Rattle.uc_run_folder.specs.Files.{Files, runs_of, crashed_files, AreRead}
use Rattle.uc_run_folder.specs.RunWorlds.{RunWorld, list_read}
use Rattle.uc_run_folder.proofs.Lists.{all_weaker}
use Rattle.uc_run_folder.proofs.Keeping.{Each, IsGone, IsSealed, IsDurable, AreDurable, is_fine}
use Rattle.std.proofs.lemmas.Bool.{eqb-true, and_parts}
use Rattle.uc_run_folder.specs.Steps.{has_run, are_among, run_after}
use Rattle.uc_run_folder.proofs.Keeping.{IsOnly}
use Rattle.uc_run_folder.proofs.Holding.{IsListing, FitsPhase, IsCalm, Holds}
use Rattle.uc_run_folder.specs.Steps.{listing_in}
use Rattle.uc_folder.specs.Steps.{is_open}
use Rattle.uc_run_folder.specs.Steps.{may_write, may_remove, is_free, is_between, is_sought, is_none, fits, begun}
use Rattle.uc_run_folder.specs.RunWorlds.{machine_of}
use Rattle.uc_run_folder.proofs.Keeping.{firm_crashed, read_durable, newest_from}
use Rattle.uc_run_folder.specs.declared.run_action.RunAction.{RunAction}
use Rattle.uc_run_folder.specs.declared.run_action.RunAction.TheVariants.{Wait, WriteRun, RemoveRun}
use Rattle.uc_run_folder.specs.Steps as steps
use Rattle.uc_run_folder.specs.Steps.{next_removal, removes}
use Rattle.uc_run_folder.proofs.Keeping.{chosen, durable_crashed, gone_crashed}
use Rattle.uc_run_folder.proofs.Histories.{all_read, open_fine}

-- ---- removals

may : (b : Bool) (r : ℕ) → cond b (RemoveRun r) Wait ≡ RemoveRun r → b ≡ true
may true r e = refl
may false r e = absurd (cc)

not_true : (b : Bool) → not b ≡ true → b ≡ false
not_true true is = absurd (cc)
not_true false is = refl

module _ (w : RunWorld) (holds : Holds w) (r : ℕ) (e : next_removal (machine_of w) r w.named ≡ RemoveRun r) where
  abbrev m : Machine
  m = w.folder.machine

  may_be : may_remove (machine_of w) r w.named ≡ true
  may_be = may (may_remove (machine_of w) r w.named) r e

  five : (is_free (machine_of w) && w.is_read && eqb m.base m.tried && ltb r w.next ≡ true) × (not (has_run r w.named) ≡ true)
  five = and_parts (is_free (machine_of w) && w.is_read && eqb m.base m.tried && ltb r w.next) (not (has_run r w.named)) may_be

  out : has_run r w.named ≡ false
  out = not_true (has_run r w.named) five.1

  three : (is_free (machine_of w) && w.is_read ≡ true) × (eqb m.base m.tried ≡ true)
  three = and_parts (is_free (machine_of w) && w.is_read) (eqb m.base m.tried) (and_parts (is_free (machine_of w) && w.is_read && eqb m.base m.tried) (ltb r w.next) five.0).0

  fine : is_fine m.writer ≡ true
  fine = open_fine m.writer (and_parts (is_open m.writer) (is_between w.phase m.checkpointer) (and_parts (is_free (machine_of w)) w.is_read three.0).0).0

  only_out : (o : Option (List ℕ)) → IsOnly w.named o → has_run r (runs_of o) ≡ false
  only_out None is = refl
  only_out (Some rs) is = ap (has_run r) is ∙ out

  gone_out : (o : Option (List ℕ)) → IsGone o → has_run r (runs_of o) ≡ false
  gone_out None is = refl
  gone_out (Some rs) is = absurd is

  -- a list from the newest one on
  all_out : (k : ℕ) → m.base ≤ k → Each (λ (o : Option (List ℕ)). has_run r (runs_of o) ≡ false) (w.files.lists k).now (w.files.lists k).before
  all_out k from =
      let same = eqb-true m.base m.tried three.1 in
      ⊎_elim
      (λ (over : m.base < k).
      let gone = holds.kept.newer k (omega (arith, over, same)) in
      (gone_out (w.files.lists k).now gone.0, all_weaker IsGone (λ (o : Option (List ℕ)). has_run r (runs_of o) ≡ false) gone_out (w.files.lists k).before (gone.1 fine)))
      (λ (le : k ≤ m.base).
      let here : m.base ≡ k = omega (arith, from, le) in
      subst (λ i. Each (λ (o : Option (List ℕ)). has_run r (runs_of o) ≡ false) (w.files.lists i).now (w.files.lists i).before) here
      (only_out (w.files.lists m.base).now holds.kept.only.0, all_weaker (IsOnly w.named) (λ (o : Option (List ℕ)). has_run r (runs_of o) ≡ false) only_out (w.files.lists m.base).before (holds.kept.only.1 fine)))
      (cases_lt m.base k)

  pub crash_keeps : (logs bases runs : ℕ → Keep) → has_run r (list_read (crashed logs bases w.folder.device) (crashed_files bases runs w.files)) ≡ false
  crash_keeps logs bases runs =
      let d = crashed logs bases w.folder.device in
      let n = newest_base d in
      let from = newest_from m.base d (crashed_files bases runs w.files) w.rows (firm_crashed m.base w.folder.device w.files w.rows logs bases runs holds.kept.firm) in
      (chosen (λ (o : Option (List ℕ)). has_run r (runs_of o) ≡ false) (bases n) (w.files.lists n).now (w.files.lists n).before (all_out n from)).0

  pub end_keeps : has_run r (list_read w.folder.device w.files) ≡ false
  end_keeps = (all_out (newest_base w.folder.device) (newest_from m.base w.folder.device w.files w.rows holds.kept.firm)).0

-- ---- numbers of runs that are written

abbrev run_number : RunAction → ℕ
run_number (WriteRun r) = r
run_number a = 0

gone_none : (o : Option File) → IsGone o → o ≡ None
gone_none None is = refl
gone_none (Some f) is = absurd is

seal_gone : (rows : List Batch) (o : Option File) → IsSealed rows o → IsGone o → ⊥
seal_gone rows None is gone = is
seal_gone rows (Some f) is gone = gone

durable_out : (runs : ℕ → Entry) (rows : ℕ → List Batch) (r : ℕ) → IsGone (runs r).now → (rs : List ℕ) → AreDurable runs rows rs → has_run r rs ≡ false
durable_out runs rows r gone [] all = refl
durable_out runs rows r gone (i ∷ rs) all = by_test (durable_out runs rows r gone rs all.1) (eqb i r) refl
  where
    by_test : has_run r rs ≡ false → (b : Bool) → eqb i r ≡ b → (b || has_run r rs) ≡ false
    by_test others true e = absurd (seal_gone (rows i) (runs i).now all.0.sealed (subst (λ k. IsGone (runs k).now) (sym (eqb-true i r e)) gone))
    by_test others false e = others

is_free_run : (base : ℕ) (c : Checkpointer) (f : Files) (rows : ℕ → List Batch) (draft : List ℕ) (next : ℕ) (p : Phase) (r : ℕ) → FitsPhase base c f rows draft next p → steps.next_checkpoint p c ≡ WriteRun r → Each IsGone (f.runs r).now (f.runs r).before
is_free_run base c f rows draft next (WritingRun n past i last) r is e = subst (λ k. Each IsGone (f.runs k).now (f.runs k).before) (ap run_number e) (is.2 i (omega arith))
is_free_run base c f rows draft next p r is e = absurd (cc)

module _ (w : RunWorld) (holds : Holds w) (r : ℕ) where
  unused : steps.next_checkpoint w.phase w.folder.machine.checkpointer ≡ WriteRun r → Each IsGone (w.files.runs r).now (w.files.runs r).before
  unused e = is_free_run w.folder.machine.base w.folder.machine.checkpointer w.files w.rows w.draft w.next w.phase r holds.phase e

  pub written_now : steps.next_checkpoint w.phase w.folder.machine.checkpointer ≡ WriteRun r → (w.files.runs r).now ≡ None
  written_now e = gone_none (w.files.runs r).now (unused e).0

  gone_after : (keep : Keep) → Each IsGone (w.files.runs r).now (w.files.runs r).before → IsGone (crashed_entry keep (w.files.runs r)).now
  gone_after keep is = gone_crashed keep (get_or ((w.files.runs r).now ∷ (w.files.runs r).before) keep.which (w.files.runs r).now) (chosen IsGone keep (w.files.runs r).now (w.files.runs r).before is).0

  pub written_crashed : (keep : Keep) → steps.next_checkpoint w.phase w.folder.machine.checkpointer ≡ WriteRun r → (crashed_entry keep (w.files.runs r)).now ≡ None
  written_crashed keep e = gone_none (crashed_entry keep (w.files.runs r)).now (gone_after keep (unused e))

  pub written_unnamed : steps.next_checkpoint w.phase w.folder.machine.checkpointer ≡ WriteRun r → (logs bases runs : ℕ → Keep) → has_run r (list_read (crashed logs bases w.folder.device) (crashed_files bases runs w.files)) ≡ false
  written_unnamed e logs bases runs =
      let d = crashed logs bases w.folder.device in
      let f = crashed_files bases runs w.files in
      durable_out f.runs w.rows r (gone_after (runs r) (unused e)) (list_read d f)
      (read_durable w.folder.machine.base d f w.rows (firm_crashed w.folder.machine.base w.folder.device w.files w.rows logs bases runs holds.kept.firm))

-- ---- the list before the newest one

pub older_crashed : (w : RunWorld) → Holds w → (bases runs : ℕ → Keep) → AreRead w.rows (crashed_files bases runs w.files).runs w.older
older_crashed w holds bases runs =
    all_read (crashed_files bases runs w.files).runs w.rows w.older
    (all_weaker (IsDurable w.files.runs w.rows) (IsDurable (crashed_files bases runs w.files).runs w.rows) (durable_crashed runs w.files.runs w.rows) w.older holds.kept.before)

pub older_now : (w : RunWorld) → Holds w → AreRead w.rows w.files.runs w.older
older_now w holds = all_read w.files.runs w.rows w.older holds.kept.before

pub unread_removes : (w : RunWorld) (r : ℕ) → w.is_read ≡ false → removes (next_removal (machine_of w) r w.named) ≡ false
unread_removes w r e = by_test (may_remove (machine_of w) r w.named) refl
  where
    by_test : (b : Bool) → may_remove (machine_of w) r w.named ≡ b → removes (cond b (RemoveRun r) Wait) ≡ false
    by_test false is = refl
    by_test true is =
        let m = w.folder.machine in
        let five = and_parts (is_free (machine_of w) && w.is_read && eqb m.base m.tried && ltb r w.next) (not (has_run r w.named)) is in
        let four = and_parts (is_free (machine_of w) && w.is_read && eqb m.base m.tried) (ltb r w.next) five.0 in
        let three = and_parts (is_free (machine_of w) && w.is_read) (eqb m.base m.tried) four.0 in
        let read = (and_parts (is_free (machine_of w)) w.is_read three.0).1 in
        absurd (cc)

calm_by : (base : ℕ) (f : Files) (draft : List ℕ) (p : Phase) (c : Checkpointer) → IsCalm p c → (p ≡ Listing → IsListing base f draft c) → removes (steps.next_checkpoint p c) ≡ false
calm_by base f draft Between Idle calm is = refl
calm_by base f draft Between c calm is = absurd calm
calm_by base f draft Listing (Writing n past) calm is = refl
calm_by base f draft Listing (Sealing n past) calm is = refl
calm_by base f draft Listing (Renaming n past) calm is = refl
calm_by base f draft Listing (Fixing n past) calm is = refl
calm_by base f draft Listing c calm is = absurd (is refl)
calm_by base f draft p c calm is = refl

listing_of : (base : ℕ) (c : Checkpointer) (f : Files) (rows : ℕ → List Batch) (draft : List ℕ) (next : ℕ) (p : Phase) → FitsPhase base c f rows draft next p → p ≡ Listing → IsListing base f draft c
listing_of base c f rows draft next Listing is e = is.1
listing_of base c f rows draft next p is e = absurd (cc)

pub calm_removes : (w : RunWorld) → Holds w → w.is_read ≡ false → removes (steps.next_checkpoint w.phase w.folder.machine.checkpointer) ≡ false
calm_removes w holds e =
    calm_by w.folder.machine.base w.files w.draft w.phase w.folder.machine.checkpointer (holds.calm e)
    (listing_of w.folder.machine.base w.folder.machine.checkpointer w.files w.rows w.draft w.next w.phase holds.phase)
