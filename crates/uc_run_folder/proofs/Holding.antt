-- The machine and its files between any two events; and events of the folder beside its checkpointer.
use Rattle.std.proofs.Common.{◌≡◌, ℕ, suc, ◌+◌, ◌<◌, ◌≤◌, Bool, true, false, cond, ◌⊎◌, inl, inr, List, [], ◌∷◌, ◌++◌, refl, sym, ◌∙◌, subst, arith}
use Rattle.std.specs.Prelude.{⊤, Option, Some, None}
use Rattle.uc_folder.specs.declared.phases.Writer.{Writer}
use Rattle.uc_folder.specs.declared.phases.Writer.TheVariants.{Making, Founding, Naming, Settling, Ready, Appending, Syncing, Both, Spoiled, Failed}
use Rattle.uc_folder.specs.declared.phases.Checkpointer.{Checkpointer}
use Rattle.uc_folder.specs.declared.phases.Checkpointer.TheVariants.{Idle, Writing, Sealing, Renaming, Fixing, RemovingLog, RemovingBase}
use Rattle.uc_folder.specs.declared.action.Action.{Action}
use Rattle.uc_folder.specs.Device.{Batch, File, Entry, Device, rows_of}
use Rattle.uc_folder.specs.Worlds.{Outcome, Done, NotDone, PartDone, DoneUntold, device_after, names_read}
use Rattle.uc_run_folder.specs.declared.phases.Phase.{Phase}
use Rattle.uc_run_folder.specs.declared.phases.Phase.TheVariants.{Between, WritingRun, SyncingRun, NamingRuns, Listing, ReadingBack}
use Rattle.uc_run_folder.specs.Files.{Files, sync_files, files_after}
use Rattle.uc_run_folder.specs.RunWorlds.{RunWorld, numbers}
use Rattle.uc_run_folder.proofs.Inside.{IsInside}
use Rattle.uc_folder.specs.declared.phases.NextLog.{NextLog}
use Rattle.uc_folder.specs.declared.phases.NextLog.TheVariants.{Absent, Creating, Recording, Waiting}
use Rattle.uc_folder.specs.Steps.{next_write, next_make, next_sync, checkpointer_then, writer_after, writer_synced, submitting, syncing, switching}
use Rattle.uc_folder.specs.Worlds.{is_done, Event, Submit, AskSync, AskNext, AskSwitch, AskCheckpoint, Writes, Makes, Syncs, Checkpoints, Crash, Restart, Reread, SyncsNames}
use Rattle.uc_folder.specs.Worlds as inner
use Rattle.uc_run_folder.specs.RunWorlds.{folder_does, is_aside}
use Rattle.uc_run_folder.proofs.Inside.{WriterFits, names_grow, happens_inside}
use Rattle.uc_run_folder.proofs.Keeping.{Each, IsGone, AreDurable, AreSealed, Goes, is_fine, Kept, kept_synced, kept_same, goes_after, all_synced}

-- ---- phases

-- no list is made
abbrev pub IsRemoving : Checkpointer → Type 0
IsRemoving Idle = ⊤
IsRemoving (RemovingLog k) = ⊤
IsRemoving (RemovingBase k) = ⊤
IsRemoving c = ⊥

-- nothing is done in the folder, and a later list than the newest one is made
abbrev pub IsBegun : ℕ → Checkpointer → ℕ → Type 0
IsBegun base c n = (c ≡ Idle) × (base < n)

-- the runs of a list, of which the first ones are written: the next is one of a number
pub record IsDraft (runs : ℕ → Entry) (rows : ℕ → List Batch) (draft : List ℕ) (r last next : ℕ) : Type 0 where
  pub done : List ℕ
  pub rest : ℕ
  pub split : draft ≡ done ++ r ∷ numbers (suc r) rest
  pub until : r + rest ≡ last
  pub below : last < next
  pub sealed : AreSealed runs rows done

-- no run has one of these numbers
abbrev pub IsFree : (ℕ → Entry) → ℕ → Type 0
IsFree runs r = (i : ℕ) → r ≤ i → Each IsGone (runs i).now (runs i).before

-- a run's file that isn't synced yet
abbrev pub IsWritten : List Batch → Option File → Type 0
IsWritten rows None = ⊥
IsWritten rows (Some f) = (f.kept ≡ []) × (f.waiting ≡ rows_of rows) × (f.lost ≡ []) × (f.suspect ≡ false)

-- the folder makes the list
abbrev pub IsListing : ℕ → Files → List ℕ → Checkpointer → Type 0
IsListing base f draft (Writing n past) = base < n
IsListing base f draft (Sealing n past) = (base < n) × (f.partial ≡ draft)
IsListing base f draft (Renaming n past) = (base < n) × (f.partial ≡ draft)
IsListing base f draft (Fixing n past) = (base < n) × ((f.lists n).now ≡ Some draft)
IsListing base f draft c = ⊥

abbrev pub FitsPhase : ℕ → Checkpointer → Files → (ℕ → List Batch) → List ℕ → ℕ → Phase → Type 0
FitsPhase base c f rows draft next Between = IsRemoving c
FitsPhase base c f rows draft next (WritingRun n past r last) = IsBegun base c n × IsDraft f.runs rows draft r last next × IsFree f.runs r
FitsPhase base c f rows draft next (SyncingRun n past r last) = IsBegun base c n × IsDraft f.runs rows draft r last next × IsFree f.runs (suc r) × IsWritten (rows r) (f.runs r).now
FitsPhase base c f rows draft next (NamingRuns n past) = IsBegun base c n × AreSealed f.runs rows draft
FitsPhase base c f rows draft next Listing = AreDurable f.runs rows draft × IsListing base f draft c
FitsPhase base c f rows draft next ReadingBack = IsRemoving c

-- between two checkpoints nothing is removed
abbrev pub IsCalm : Phase → Checkpointer → Type 0
IsCalm Between Idle = ⊤
IsCalm Between c = ⊥
IsCalm p c = ⊤

pub record Holds (w : RunWorld) : Type 0 where
  pub inside : IsInside w.folder
  pub kept : Kept w.folder.machine.base w.folder.machine.tried (is_fine w.folder.machine.writer) w.folder.device w.files w.next w.named w.older w.rows
  pub phase : FitsPhase w.folder.machine.base w.folder.machine.checkpointer w.files w.rows w.draft w.next w.phase
  pub read : w.is_read ≡ true → w.older ≡ []
  pub calm : w.is_read ≡ false → IsCalm w.phase w.folder.machine.checkpointer

-- ---- syncs of names

listing_synced : (base : ℕ) (f : Files) (draft : List ℕ) (c : Checkpointer) → IsListing base f draft c → IsListing base (sync_files f) draft c
listing_synced base f draft (Writing n past) is = is
listing_synced base f draft (Sealing n past) is = is
listing_synced base f draft (Renaming n past) is = is
listing_synced base f draft (Fixing n past) is = is
listing_synced base f draft c is = is

pub phase_synced : (base : ℕ) (c : Checkpointer) (f : Files) (rows : ℕ → List Batch) (draft : List ℕ) (next : ℕ) (p : Phase) → FitsPhase base c f rows draft next p → FitsPhase base c (sync_files f) rows draft next p
phase_synced base c f rows draft next Between is = is
phase_synced base c f rows draft next (WritingRun n past r last) is =
    (is.0, record { done = is.1.done; rest = is.1.rest; split = is.1.split; until = is.1.until; below = is.1.below; sealed = is.1.sealed }, λ i from. ((is.2 i from).0, tt))
phase_synced base c f rows draft next (SyncingRun n past r last) is =
    (is.0, record { done = is.1.done; rest = is.1.rest; split = is.1.split; until = is.1.until; below = is.1.below; sealed = is.1.sealed }, (λ i from. ((is.2 i from).0, tt)), is.3)
phase_synced base c f rows draft next (NamingRuns n past) is = is
phase_synced base c f rows draft next Listing is = (all_synced f rows draft is.0, listing_synced base f draft c is.1)
phase_synced base c f rows draft next ReadingBack is = is

-- ---- events of the folder beside its checkpointer

-- an operation changes no list or run, but may sync the names; and after an opening one has done that
abbrev pub Moves : Files → Files → Bool → Bool → Type 0
Moves f f' fine fine' = ((f' ≡ f) × (fine' ≡ true → fine ≡ true)) ⊎ (f' ≡ sync_files f)

writes_moves : (w : Writer) (o : Outcome) (log count synced : ℕ) (draft : List ℕ) (f : Files) → Moves f (files_after o draft (next_write w log count synced) f) (is_fine w) (is_fine (writer_after w (is_done o) log))
writes_moves Making Done log count synced draft f = inl (refl, λ e. absurd (cc))
writes_moves Making NotDone log count synced draft f = inl (refl, λ e. absurd (cc))
writes_moves Making PartDone log count synced draft f = inl (refl, λ e. absurd (cc))
writes_moves Making DoneUntold log count synced draft f = inl (refl, λ e. absurd (cc))
writes_moves Founding Done log count synced draft f = inr refl
writes_moves Founding NotDone log count synced draft f = inl (refl, λ e. absurd (cc))
writes_moves Founding PartDone log count synced draft f = inl (refl, λ e. absurd (cc))
writes_moves Founding DoneUntold log count synced draft f = inr refl
writes_moves (Naming top sealed) Done log count synced draft f = inr refl
writes_moves (Naming top sealed) NotDone log count synced draft f = inl (refl, λ e. absurd (cc))
writes_moves (Naming top sealed) PartDone log count synced draft f = inl (refl, λ e. absurd (cc))
writes_moves (Naming top sealed) DoneUntold log count synced draft f = inr refl
writes_moves Settling Done log count synced draft f = inr refl
writes_moves Settling NotDone log count synced draft f = inl (refl, λ e. refl)
writes_moves Settling PartDone log count synced draft f = inl (refl, λ e. refl)
writes_moves Settling DoneUntold log count synced draft f = inr refl
writes_moves Failed Done log count synced draft f = inl (refl, λ e. e)
writes_moves Failed NotDone log count synced draft f = inl (refl, λ e. e)
writes_moves Failed PartDone log count synced draft f = inl (refl, λ e. e)
writes_moves Failed DoneUntold log count synced draft f = inl (refl, λ e. e)
writes_moves w Done log count synced draft f = inl (refl, λ e. refl)
writes_moves w NotDone log count synced draft f = inl (refl, λ e. refl)
writes_moves w PartDone log count synced draft f = inl (refl, λ e. refl)
writes_moves w DoneUntold log count synced draft f = inl (refl, λ e. refl)

makes_moves : (n : NextLog) (o : Outcome) (log : ℕ) (draft : List ℕ) (f : Files) (fine : Bool) → Moves f (files_after o draft (next_make n log) f) fine fine
makes_moves Creating Done log draft f fine = inl (refl, λ e. e)
makes_moves Recording Done log draft f fine = inr refl
makes_moves Recording DoneUntold log draft f fine = inr refl
makes_moves n Done log draft f fine = inl (refl, λ e. e)
makes_moves n NotDone log draft f fine = inl (refl, λ e. e)
makes_moves n PartDone log draft f fine = inl (refl, λ e. e)
makes_moves n DoneUntold log draft f fine = inl (refl, λ e. e)

syncs_moves : (w : Writer) (o : Outcome) (log : ℕ) (draft : List ℕ) (f : Files) → Moves f (files_after o draft (next_sync w log) f) (is_fine w) (is_fine (writer_synced w (is_done o)))
syncs_moves (Syncing n) Done log draft f = inl (refl, λ e. refl)
syncs_moves (Both n) Done log draft f = inl (refl, λ e. refl)
syncs_moves (Spoiled n) Done log draft f = inl (refl, λ e. refl)
syncs_moves (Syncing n) NotDone log draft f = inl (refl, λ e. refl)
syncs_moves (Both n) NotDone log draft f = inl (refl, λ e. refl)
syncs_moves (Spoiled n) NotDone log draft f = inl (refl, λ e. refl)
syncs_moves (Syncing n) PartDone log draft f = inl (refl, λ e. refl)
syncs_moves (Both n) PartDone log draft f = inl (refl, λ e. refl)
syncs_moves (Spoiled n) PartDone log draft f = inl (refl, λ e. refl)
syncs_moves (Syncing n) DoneUntold log draft f = inl (refl, λ e. refl)
syncs_moves (Both n) DoneUntold log draft f = inl (refl, λ e. refl)
syncs_moves (Spoiled n) DoneUntold log draft f = inl (refl, λ e. refl)
syncs_moves w Done log draft f = inl (refl, λ e. e)
syncs_moves w NotDone log draft f = inl (refl, λ e. e)
syncs_moves w PartDone log draft f = inl (refl, λ e. e)
syncs_moves w DoneUntold log draft f = inl (refl, λ e. e)

submit_fine : (w : Writer) → is_fine (submitting w) ≡ is_fine w
submit_fine Ready = refl
submit_fine (Syncing n) = refl
submit_fine w = refl

sync_fine : (w : Writer) (count : ℕ) → is_fine (syncing w count) ≡ is_fine w
sync_fine Ready count = refl
sync_fine Appending count = refl
sync_fine w count = refl

switch_fine : (w : Writer) (n : NextLog) → is_fine (switching w n) ≡ is_fine w
switch_fine Ready Absent = refl
switch_fine Ready Creating = refl
switch_fine Ready Recording = refl
switch_fine Ready Waiting = refl
switch_fine w n = refl

same_checkpointer : (names log : ℕ) (w : Writer) (is_done : Bool) (least base : ℕ) (c : Checkpointer) → WriterFits names log w → checkpointer_then w is_done least base c ≡ c
same_checkpointer names log (Naming top sealed) is_done least base c is = absurd is
same_checkpointer names log w is_done least base c is = refl

module _ (w : RunWorld) (holds : Holds w) where
  -- the folder goes on, and its checkpointer stays where it is
  on_to : (e : Event) → w.folder.device.names ≤ (inner.happens w.folder e).device.names → (inner.happens w.folder e).machine.base ≡ w.folder.machine.base → (inner.happens w.folder e).machine.tried ≡ w.folder.machine.tried →
      (inner.happens w.folder e).machine.checkpointer ≡ w.folder.machine.checkpointer → ((k : ℕ) → Goes ((inner.happens w.folder e).device.bases k) ((folder_does e w).files.lists k)) →
      Moves w.files (folder_does e w).files (is_fine w.folder.machine.writer) (is_fine (inner.happens w.folder e).machine.writer) → Holds (folder_does e w)
  on_to e le base_is tried_is check_is goes moves =
      let m = w.folder.machine in
      let v = inner.happens w.folder e in
      let both : Kept m.base m.tried (is_fine v.machine.writer) v.device (folder_does e w).files w.next w.named w.older w.rows × FitsPhase m.base m.checkpointer (folder_does e w).files w.rows w.draft w.next w.phase =
      by_moves v.device (is_fine v.machine.writer) (folder_does e w).files le goes moves in
      record {
        inside = happens_inside w.folder e holds.inside;
        kept = subst (λ t. Kept v.machine.base t (is_fine v.machine.writer) v.device (folder_does e w).files w.next w.named w.older w.rows) (sym tried_is)
            (subst (λ b. Kept b m.tried (is_fine v.machine.writer) v.device (folder_does e w).files w.next w.named w.older w.rows) (sym base_is) both.0);
        phase = subst (λ c. FitsPhase v.machine.base c (folder_does e w).files w.rows w.draft w.next w.phase) (sym check_is)
            (subst (λ b. FitsPhase b m.checkpointer (folder_does e w).files w.rows w.draft w.next w.phase) (sym base_is) both.1);
        read = holds.read;
        calm = λ e. subst (IsCalm w.phase) (sym check_is) (holds.calm e);
      }
    where
      by_moves : (d' : Device) (fine' : Bool) (f' : Files) → w.folder.device.names ≤ d'.names → ((k : ℕ) → Goes (d'.bases k) (f'.lists k)) → Moves w.files f' (is_fine w.folder.machine.writer) fine' →
          Kept w.folder.machine.base w.folder.machine.tried fine' d' f' w.next w.named w.older w.rows × FitsPhase w.folder.machine.base w.folder.machine.checkpointer f' w.rows w.draft w.next w.phase
      by_moves d' fine' f' le goes (inl same) =
          let same_goes : (k : ℕ) → Goes (d'.bases k) (w.files.lists k) = λ k. subst (λ (f : Files). Goes (d'.bases k) (f.lists k)) same.0 (goes k) in
          subst (λ (f : Files). Kept w.folder.machine.base w.folder.machine.tried fine' d' f w.next w.named w.older w.rows × FitsPhase w.folder.machine.base w.folder.machine.checkpointer f w.rows w.draft w.next w.phase) (sym same.0)
          (kept_same w.folder.machine.base w.folder.machine.tried (is_fine w.folder.machine.writer) fine' w.folder.device d' w.files w.next w.named w.older w.rows holds.kept le same_goes same.1, holds.phase)
      by_moves d' fine' f' le goes (inr synced) =
          let same_goes : (k : ℕ) → Goes (d'.bases k) ((sync_files w.files).lists k) = λ k. subst (λ (f : Files). Goes (d'.bases k) (f.lists k)) synced (goes k) in
          subst (λ (f : Files). Kept w.folder.machine.base w.folder.machine.tried fine' d' f w.next w.named w.older w.rows × FitsPhase w.folder.machine.base w.folder.machine.checkpointer f w.rows w.draft w.next w.phase) (sym synced) (
            kept_synced w.folder.machine.base w.folder.machine.tried (is_fine w.folder.machine.writer) fine' w.folder.device d' w.files w.next w.named w.older w.rows holds.kept le same_goes,
            phase_synced w.folder.machine.base w.folder.machine.checkpointer w.files w.rows w.draft w.next w.phase holds.phase,
          )

  after : (o : Outcome) (a : Action) (k : ℕ) → Goes ((device_after o w.folder.batch w.folder.parts w.folder.device a).bases k) ((files_after o w.draft a w.files).lists k)
  after o a = goes_after o w.folder.batch w.folder.parts w.folder.device w.draft w.files a holds.kept.firm.goes

  pub aside_holds : (e : Event) → Holds (cond (is_aside e) (folder_does e w) w)
  aside_holds (Submit b) = on_to (Submit b) (omega arith) refl refl refl holds.kept.firm.goes (inl (refl, λ e. sym (submit_fine w.folder.machine.writer) ∙ e))
  aside_holds AskSync = on_to AskSync (omega arith) refl refl refl holds.kept.firm.goes (inl (refl, λ e. sym (sync_fine w.folder.machine.writer w.folder.machine.count) ∙ e))
  aside_holds AskNext = on_to AskNext (omega arith) refl refl refl holds.kept.firm.goes (inl (refl, λ e. e))
  aside_holds AskSwitch = on_to AskSwitch (omega arith) refl refl refl holds.kept.firm.goes (inl (refl, λ e. sym (switch_fine w.folder.machine.writer w.folder.machine.next) ∙ e))
  aside_holds (AskCheckpoint n past) = holds
  aside_holds (Writes o) =
      let m = w.folder.machine in
      let a = next_write m.writer m.log m.count m.synced in
      on_to (Writes o) (names_grow o w.folder.batch w.folder.parts w.folder.device a) refl refl
      (same_checkpointer w.folder.device.names m.log m.writer (is_done o) m.least m.base m.checkpointer holds.inside.writer) (after o a) (writes_moves m.writer o m.log m.count m.synced w.draft w.files)
  aside_holds (Makes o) =
      let m = w.folder.machine in
      let a = next_make m.next m.log in
      on_to (Makes o) (names_grow o w.folder.batch w.folder.parts w.folder.device a) refl refl refl (after o a) (makes_moves m.next o m.log w.draft w.files (is_fine m.writer))
  aside_holds (Syncs o) =
      let m = w.folder.machine in
      let a = next_sync m.writer m.log in
      on_to (Syncs o) (names_grow o w.folder.batch w.folder.parts w.folder.device a) refl refl refl (after o a) (syncs_moves m.writer o m.log w.draft w.files)
  aside_holds (Checkpoints o) = holds
  aside_holds (Crash logs bases least top sealed keep) = holds
  aside_holds (Restart least top sealed keep) = holds
  aside_holds SyncsNames = on_to SyncsNames (omega arith) refl refl refl (λ k. ((holds.kept.firm.goes k).0, tt)) (inr refl)
  aside_holds (Reread left least top sealed keep) = holds
