-- The next log, from its request to the switch.
use Rattle.std.proofs.Common.{◌≡◌, ℕ, ◌+◌, ◌<◌, ◌≤◌, Bool, true, false, cond, ltb, ◌&&◌, ◌||◌, List, [], refl, sym, ap, ◌∙◌, subst, arith}
use Rattle.std.specs.Prelude.{⊤, Option, Some, None}
use Rattle.uc_folder.specs.declared.machine.Machine.{Machine}
use Rattle.uc_folder.specs.declared.listing.Found.{Found}
use Rattle.uc_folder.specs.declared.phases.Writer.{Writer}
use Rattle.uc_folder.specs.declared.phases.Writer.TheVariants.{Making, Naming, Clearing, SettingAside, Copying, SealingCopy, Replacing, Settling, Ready, Appending, Mending, Syncing, Both, Spoiled, Closing, Failed}
use Rattle.uc_folder.specs.declared.action.Action.{Action}
use Rattle.uc_folder.specs.declared.action.Action.TheVariants.{Nothing, Append, SyncLog, CutLog, SyncNames, WriteBase, SyncBase, NameBase, RemoveLog, RemoveBase}
use Rattle.uc_folder.specs.declared.phases.NextLog.{NextLog}
use Rattle.uc_folder.specs.declared.phases.NextLog.TheVariants.{Absent, Creating, Recording, Waiting}
use Rattle.uc_folder.specs.declared.phases.Checkpointer.{Checkpointer}
use Rattle.uc_folder.specs.declared.phases.Checkpointer.TheVariants.{Idle, RemovingLog}
use Rattle.uc_folder.specs.Device.{Batch, Whole, Torn, File, Entry, Device, last_log, crashed, empty_file, appended, synced, cut, half_cut, suspected, changed, change_log, stands_for, name_log, sync_names, upto}
use Rattle.uc_folder.specs.Steps.{next_write, opened, log_after, writer_after, next_after, next_make, made_after, writer_synced, next_checkpoint, submitting, syncing, switching, asking_next}
use Rattle.uc_folder.specs.Worlds.{World, Outcome, Done, NotDone, PartDone, DoneUntold, is_done, carried_out, device_after, is_settled, found, keeps_all, names_read, begun_by, count_read, opens, reread, Event, Submit, AskSync, AskNext, AskSwitch, AskCheckpoint, Writes, Makes, Syncs, Checkpoints, Crash, Restart, Reread, SyncsNames, happens}
use Rattle.uc_folder.proofs.Lists.{prefix_refl, at_here, at_other}
use Rattle.uc_folder.proofs.Sound.{Sound}
use Rattle.uc_folder.proofs.Holding.{IsNew, Keeps}
use Rattle.uc_folder.proofs.Changes.{later_sound, named_sound}
use Rattle.uc_folder.proofs.Writing.{world, checkpointer_stays}
use Rattle.uc_folder.proofs.Renewing.{empty_new}
use Rattle.uc_folder.proofs.Checkpointing.{Spares, writer_stays}

-- whether an opening is over
abbrev pub is_late : Writer → Bool
is_late Ready = true
is_late Appending = true
is_late Mending = true
is_late (Syncing n) = true
is_late (Both n) = true
is_late (Spoiled n) = true
is_late Closing = true
is_late Failed = true
is_late w = false

abbrev pub is_absent : NextLog → Bool
is_absent Absent = true
is_absent next = false

abbrev pub is_waiting : NextLog → Bool
is_waiting Waiting = true
is_waiting next = false

-- The next log may be asked for only after an opening. While the log is closed, it is there.
abbrev pub allows : Writer → NextLog → Bool
allows Closing next = is_waiting next
allows w next = is_late w || is_absent next

-- a log that is there, is empty, and whose name is on the device
pub record IsWaiting (d : Device) (n : ℕ) : Type 0 where
  pub new : IsNew (d.logs n).now
  pub alone : (d.logs n).before ≡ []
  pub named : n ≤ d.names

-- the state of the next log
abbrev pub IsMade : Device → ℕ → NextLog → Type 0
IsMade d n Recording = IsNew (d.logs n).now × (n ≤ d.names)
IsMade d n Waiting = IsWaiting d n
IsMade d n next = ⊤

abbrev pub IsNext : Device → ℕ → Writer → NextLog → Type 0
IsNext d log w next = (allows w next ≡ true) × IsMade d (log + 1) next

abbrev pub HasNext : World → Type 0
HasNext w = IsNext w.device w.machine.log w.machine.writer w.machine.next

pub waiting_next : (d : Device) (log : ℕ) (next : NextLog) → IsNext d log Closing next → IsWaiting d (log + 1)
waiting_next d log Waiting fits = fits.1
waiting_next d log Absent fits = absurd (let e = fits.0 in cc)
waiting_next d log Creating fits = absurd (let e = fits.0 in cc)
waiting_next d log Recording fits = absurd (let e = fits.0 in cc)

-- the same in another folder
made_stays : (d e : Device) (n : ℕ) (next : NextLog) → (e.logs n).now ≡ (d.logs n).now → ((d.logs n).before ≡ [] → (e.logs n).before ≡ []) → d.names ≤ e.names → IsMade d n next → IsMade e n next
made_stays d e n Absent same named top is = tt
made_stays d e n Creating same named top is = tt
made_stays d e n Recording same named top is = (subst IsNew (sym same) is.0, let le = is.1 in omega (arith, le, top))
made_stays d e n Waiting same named top is = record { new = subst IsNew (sym same) is.new; alone = named is.alone; named = let le = is.named in omega (arith, le, top) }

-- a change of another log
made_beside : (d : Device) (k n : ℕ) (change : File → File) (next : NextLog) → k < n → IsMade d n next → IsMade (change_log k change d) n next
made_beside d k n change next lt is =
    let same : (change_log k change d).logs n ≡ d.logs n = at_other k (changed change (d.logs k)) d.logs n (omega (arith, lt)) in
    made_stays d (change_log k change d) n next (ap (λ (e : Entry). e.now) same) (λ e. ap (λ (x : Entry). x.before) same ∙ e) (omega arith) is

-- ---- operations

-- the files of an operation that may run concurrently with a log of a number
abbrev IsBeside : Action → ℕ → Type 0
IsBeside Nothing n = ⊤
IsBeside (Append k mark) n = k < n
IsBeside (SyncLog k count) n = k < n
IsBeside (CutLog k count) n = k < n
IsBeside SyncNames n = ⊤
IsBeside (WriteBase k past) n = ⊤
IsBeside SyncBase n = ⊤
IsBeside (NameBase k past) n = ⊤
IsBeside (RemoveLog k) n = k < n
IsBeside (RemoveBase k) n = ⊤
IsBeside a n = ⊥

module _ (d : Device) (n : ℕ) (next : NextLog) (batch : Batch) (parts : ℕ → List Batch) where
  -- its log is as it was
  rests : (e : Device) → (e.logs n).now ≡ (d.logs n).now → (e.logs n).before ≡ (d.logs n).before → d.names ≤ e.names → IsMade d n next → IsMade e n next
  rests e same named top is = made_stays d e n next same (λ x. named ∙ x) top is

  removed : (k : ℕ) → k < n → IsMade d n next → IsMade (name_log k None d) n next
  removed k lt is =
      let same : (name_log k None d).logs n ≡ d.logs n = at_other k (stands_for None (d.logs k)) d.logs n (omega (arith, lt)) in
      rests (name_log k None d) (ap (λ (e : Entry). e.now) same) (ap (λ (e : Entry). e.before) same) (omega arith) is

  made_over : (o : Outcome) (a : Action) → IsBeside a n → IsMade d n next → IsMade (device_after o batch parts d a) n next
  made_over Done Nothing lt is = is
  made_over NotDone Nothing lt is = is
  made_over PartDone Nothing lt is = is
  made_over DoneUntold Nothing lt is = is
  made_over Done (Append k mark) lt is = made_beside d k n (appended (Whole batch mark)) next lt is
  made_over NotDone (Append k mark) lt is = is
  made_over PartDone (Append k mark) lt is = made_beside d k n (appended Torn) next lt is
  made_over DoneUntold (Append k mark) lt is = made_beside d k n (appended (Whole batch mark)) next lt is
  made_over Done (SyncLog k count) lt is = made_beside d k n (synced count) next lt is
  made_over NotDone (SyncLog k count) lt is = made_beside d k n suspected next lt is
  made_over PartDone (SyncLog k count) lt is = made_beside d k n suspected next lt is
  made_over DoneUntold (SyncLog k count) lt is = made_beside (change_log k (synced count) d) k n suspected next lt (made_beside d k n (synced count) next lt is)
  made_over Done (CutLog k count) lt is = made_beside d k n (cut count) next lt is
  made_over NotDone (CutLog k count) lt is = made_beside d k n suspected next lt is
  made_over PartDone (CutLog k count) lt is = made_beside d k n suspected next lt is
  made_over DoneUntold (CutLog k count) lt is = made_beside d k n (half_cut count) next lt is
  made_over Done SyncNames lt is = made_stays d (sync_names d) n next refl (λ e. refl) (omega arith) is
  made_over NotDone SyncNames lt is = is
  made_over PartDone SyncNames lt is = is
  made_over DoneUntold SyncNames lt is = made_stays d (sync_names d) n next refl (λ e. refl) (omega arith) is
  made_over Done (WriteBase k past) lt is = rests (carried_out batch parts d (WriteBase k past)) refl refl (omega arith) is
  made_over NotDone (WriteBase k past) lt is = is
  made_over PartDone (WriteBase k past) lt is = is
  made_over DoneUntold (WriteBase k past) lt is = rests (carried_out batch parts d (WriteBase k past)) refl refl (omega arith) is
  made_over Done SyncBase lt is = rests (carried_out batch parts d SyncBase) refl refl (omega arith) is
  made_over NotDone SyncBase lt is = is
  made_over PartDone SyncBase lt is = is
  made_over DoneUntold SyncBase lt is = rests (carried_out batch parts d SyncBase) refl refl (omega arith) is
  made_over Done (NameBase k past) lt is = rests (carried_out batch parts d (NameBase k past)) refl refl (omega arith) is
  made_over NotDone (NameBase k past) lt is = is
  made_over PartDone (NameBase k past) lt is = is
  made_over DoneUntold (NameBase k past) lt is = rests (carried_out batch parts d (NameBase k past)) refl refl (omega arith) is
  made_over Done (RemoveLog k) lt is = removed k lt is
  made_over NotDone (RemoveLog k) lt is = is
  made_over PartDone (RemoveLog k) lt is = is
  made_over DoneUntold (RemoveLog k) lt is = removed k lt is
  made_over Done (RemoveBase k) lt is = rests (carried_out batch parts d (RemoveBase k)) refl refl (omega arith) is
  made_over NotDone (RemoveBase k) lt is = is
  made_over PartDone (RemoveBase k) lt is = is
  made_over DoneUntold (RemoveBase k) lt is = rests (carried_out batch parts d (RemoveBase k)) refl refl (omega arith) is
  made_over o a lt is = absurd lt

-- ---- phases

absent_is : (next : NextLog) → is_absent next ≡ true → next ≡ Absent
absent_is Absent e = refl
absent_is Creating e = absurd (cc)
absent_is Recording e = absurd (cc)
absent_is Waiting e = absurd (cc)

cleared : (more sealed : Bool) (k top : ℕ) (next : NextLog) → is_absent next ≡ true → allows (cond more (Clearing k top sealed) (cond sealed Settling SettingAside)) next ≡ true
cleared true sealed k top next e = e
cleared false true k top next e = e
cleared false false k top next e = e

-- what the writer's phase allows stays allowed
allowed_written : (w : Writer) (is_done : Bool) (log : ℕ) (next : NextLog) → allows w next ≡ true → allows (writer_after w is_done log) (next_after w is_done next) ≡ true
allowed_written Making true log next e = e
allowed_written (Naming top sealed) true log next e = cleared (ltb log top) sealed (log + 1) top next e
allowed_written (Clearing k top sealed) true log next e = cleared (ltb k top) sealed (k + 1) top next e
allowed_written SettingAside true log next e = e
allowed_written Copying true log next e = e
allowed_written SealingCopy true log next e = e
allowed_written Replacing true log next e = e
allowed_written w true log next e = refl
allowed_written Making false log next e = refl
allowed_written w false log next e = refl

allowed_synced : (w : Writer) (is_done : Bool) (next : NextLog) → allows w next ≡ true → allows (writer_synced w is_done) next ≡ true
allowed_synced (Syncing n) true next e = refl
allowed_synced (Syncing n) false next e = refl
allowed_synced (Both n) true next e = refl
allowed_synced (Both n) false next e = refl
allowed_synced (Spoiled n) true next e = refl
allowed_synced (Spoiled n) false next e = refl
allowed_synced w true next e = e
allowed_synced w false next e = e

allowed_submitted : (w : Writer) (next : NextLog) → allows w next ≡ true → allows (submitting w) next ≡ true
allowed_submitted Ready next e = refl
allowed_submitted (Syncing n) next e = refl
allowed_submitted w next e = e

allowed_asked : (w : Writer) (count : ℕ) (next : NextLog) → allows w next ≡ true → allows (syncing w count) next ≡ true
allowed_asked Ready count next e = refl
allowed_asked Appending count next e = refl
allowed_asked w count next e = e

allowed_switched : (w : Writer) (next : NextLog) → allows w next ≡ true → allows (switching w next) next ≡ true
allowed_switched Ready Absent e = refl
allowed_switched Ready Creating e = refl
allowed_switched Ready Recording e = refl
allowed_switched Ready Waiting e = refl
allowed_switched w next e = e

-- only an open log is followed by another one
asked : (d : Device) (n : ℕ) (w : Writer) (next : NextLog) → allows w next ≡ true → IsMade d n next → (allows w (asking_next w next) ≡ true) × IsMade d n (asking_next w next)
asked d n Closing Absent e is = absurd (cc)
asked d n Ready Absent e is = (refl, tt)
asked d n w Absent e is = (refl, tt)
asked d n w Creating e is = (e, is)
asked d n w Recording e is = (e, is)
asked d n w Waiting e is = (e, is)

created : (w : Writer) → allows w Creating ≡ true → (allows w Recording ≡ true) × (allows w Absent ≡ true)
created Closing e = absurd (cc)
created w e = (e, refl)

recorded : (w : Writer) → allows w Recording ≡ true → (allows w Waiting ≡ true) × (allows w Absent ≡ true)
recorded Closing e = absurd (cc)
recorded w e = (e, refl)

opened_allows : (there : Bool) (top : ℕ) (sealed : Bool) → allows (cond there (Naming top sealed) Making) Absent ≡ true
opened_allows true top sealed = refl
opened_allows false top sealed = refl

-- a machine that has synced the names asks for no next log
named_next : (e : Device) (there : Bool) (top : ℕ) (sealed : Bool) (log : ℕ) → IsNext e (log_after (cond there (Naming top sealed) Making) true log) (writer_after (cond there (Naming top sealed) Making) true log) (next_after (cond there (Naming top sealed) Making) true Absent)
named_next e true top sealed log = (cleared (ltb log top) sealed (log + 1) top Absent refl, tt)
named_next e false top sealed log = (refl, tt)

begun_next : (e : Device) (o : Option File) (f : Found) (count : ℕ) (sealed : Bool) → IsNext e (begun_by o (opened f count sealed)).log (begun_by o (opened f count sealed)).writer (begun_by o (opened f count sealed)).next
begun_next e None f count sealed = (opened_allows f.is_there f.top sealed, tt)
begun_next e (Some g) f count sealed = named_next e f.is_there f.top sealed f.log

opens_next : (least top : ℕ) (sealed : Bool) (keep : Option ℕ) (w : World) → HasNext (opens least top sealed keep w)
opens_next least top sealed keep w =
    let d = w.device in
    let here = (d.logs (last_log d)).now in
    begun_next (names_read here d) here (found d least top) (count_read d keep) (sealed && (is_settled here && keeps_all keep))

-- ---- events

module _ (d : Device) (m : Machine) (c : Checkpointer) (parts : ℕ → List Batch) (batch : Batch) (acked : List Batch) where
  abbrev inside : Writer → World
  inside w = world d m w c parts batch acked

  abbrev n : ℕ
  n = m.log + 1

  below : m.log < n
  below = omega arith

  -- in an opening there is none
  absent : (e : Device) → is_absent m.next ≡ true → IsMade e n m.next
  absent e is = subst (IsMade e n) (sym (absent_is m.next is)) tt

  write_next : (w : Writer) (o : Outcome) → HasNext (inside w) → HasNext (happens (inside w) (Writes o))
  write_next Closing Done fits = (refl, tt)
  write_next Closing NotDone fits = (refl, made_over d n m.next batch parts NotDone (SyncLog m.log m.count) below fits.1)
  write_next Closing PartDone fits = (refl, made_over d n m.next batch parts PartDone (SyncLog m.log m.count) below fits.1)
  write_next Closing DoneUntold fits = (refl, made_over d n m.next batch parts DoneUntold (SyncLog m.log m.count) below fits.1)
  write_next Ready o fits = (allowed_written Ready (is_done o) m.log m.next fits.0, made_over d n m.next batch parts o Nothing tt fits.1)
  write_next Appending o fits = (allowed_written Appending (is_done o) m.log m.next fits.0, made_over d n m.next batch parts o (Append m.log m.synced) below fits.1)
  write_next Mending o fits = (allowed_written Mending (is_done o) m.log m.next fits.0, made_over d n m.next batch parts o (CutLog m.log m.count) below fits.1)
  write_next (Syncing k) o fits = (allowed_written (Syncing k) (is_done o) m.log m.next fits.0, made_over d n m.next batch parts o Nothing tt fits.1)
  write_next (Both k) o fits = (allowed_written (Both k) (is_done o) m.log m.next fits.0, made_over d n m.next batch parts o (Append m.log m.synced) below fits.1)
  write_next (Spoiled k) o fits = (allowed_written (Spoiled k) (is_done o) m.log m.next fits.0, made_over d n m.next batch parts o Nothing tt fits.1)
  write_next Failed o fits = (allowed_written Failed (is_done o) m.log m.next fits.0, made_over d n m.next batch parts o Nothing tt fits.1)
  write_next w o fits = (allowed_written w (is_done o) m.log m.next fits.0, absent (device_after o batch parts d (next_write w m.log m.count m.synced)) fits.0)

  sync_next : (w : Writer) (o : Outcome) → HasNext (inside w) → HasNext (happens (inside w) (Syncs o))
  sync_next (Syncing k) o fits = (allowed_synced (Syncing k) (is_done o) m.next fits.0, made_over d n m.next batch parts o (SyncLog m.log k) below fits.1)
  sync_next (Both k) o fits = (allowed_synced (Both k) (is_done o) m.next fits.0, made_over d n m.next batch parts o (SyncLog m.log k) below fits.1)
  sync_next (Spoiled k) o fits = (allowed_synced (Spoiled k) (is_done o) m.next fits.0, made_over d n m.next batch parts o (SyncLog m.log k) below fits.1)
  sync_next w o fits = (allowed_synced w (is_done o) m.next fits.0, made_over d n m.next batch parts o Nothing tt fits.1)

module _ (d : Device) (m : Machine) (w : Writer) (parts : ℕ → List Batch) (batch : Batch) (acked : List Batch) where
  -- all that the checkpointer removes is older
  beside : (c : Checkpointer) → Keeps (world d m w c parts batch acked) → IsBeside (next_checkpoint c) (m.log + 1)
  beside (RemovingLog k) keeps =
      let same = keeps.checkpointer.0 in
      let lt = keeps.checkpointer.1 in
      let reached = keeps.sound.reached in
      omega (arith, same, lt, reached)
  beside Idle keeps = tt
  beside c keeps = tt

  checkpoint_next : (c : Checkpointer) (o : Outcome) → Keeps (world d m w c parts batch acked) → HasNext (world d m w c parts batch acked) → HasNext (happens (world d m w c parts batch acked) (Checkpoints o))
  checkpoint_next c o keeps fits = (fits.0, made_over d (m.log + 1) m.next batch parts o (next_checkpoint c) (beside c keeps) fits.1)

module _ (d : Device) (m : Machine) (w : Writer) (c : Checkpointer) (parts : ℕ → List Batch) (batch : Batch) (acked : List Batch) where
  abbrev n' : ℕ
  n' = m.log + 1

  -- ---- the next log is made

  abbrev IsMakingNext : NextLog → Outcome → Type 0
  IsMakingNext next o = IsNext (device_after o batch parts d (next_make next m.log)) m.log w (made_after next (is_done o))

  make_next : (next : NextLog) (o : Outcome) → IsNext d m.log w next → IsMakingNext next o
  make_next Absent o fits = (fits.0, tt)
  make_next Creating Done fits = (
    (created w fits.0).0,
    (subst (λ (e : Entry). IsNew e.now) (sym (at_here n' (stands_for (Some empty_file) (d.logs n')) d.logs)) (empty_new (d.logs n')), omega arith),
  )
  make_next Creating NotDone fits = ((created w fits.0).1, tt)
  make_next Creating PartDone fits = ((created w fits.0).1, tt)
  make_next Creating DoneUntold fits = ((created w fits.0).1, tt)
  make_next Recording Done fits = ((recorded w fits.0).0, record { new = fits.1.0; alone = refl; named = fits.1.1 })
  make_next Recording NotDone fits = ((recorded w fits.0).1, tt)
  make_next Recording PartDone fits = ((recorded w fits.0).1, tt)
  make_next Recording DoneUntold fits = ((recorded w fits.0).1, tt)
  make_next Waiting o fits = (fits.0, made_over d n' Waiting batch parts o Nothing tt fits.1)

  -- nothing else changes
  goes_on : (e : Device) (next : NextLog) → Spares d e m.log m.base m.base → e.partial ≡ d.partial → ((k : ℕ) → (e.bases k).now ≡ (d.bases k).now) → (keeps : Keeps (world d m w c parts batch acked)) → Sound e m.log keeps.sure parts keeps.firm →
      Keeps (world e (record m { next = next }) w c parts batch acked)
  goes_on e next spares partial bases keeps sound = record {
    sure = keeps.sure;
    firm = keeps.firm;
    sound = sound;
    acked_is = keeps.acked_is;
    under = keeps.under;
    writer = writer_stays d e m.log m.count m.synced m.base m.base keeps.firm (upto parts m.log) (parts m.log) batch spares w keeps.writer;
    checkpointer = checkpointer_stays d e m.log m.log m.base keeps.sure parts parts keeps.firm keeps.firm c (omega arith) partial bases (λ k lt. refl) (prefix_refl (parts m.log)) (prefix_refl keeps.firm) keeps.checkpointer;
  }

  stays : (next : NextLog) → Keeps (world d m w c parts batch acked) → Keeps (world d (record m { next = next }) w c parts batch acked)
  stays next keeps = goes_on d next (record { same = refl; named = λ e. e; copy = refl; stands = λ s. s; below = λ l. l }) refl (λ k. refl) keeps keeps.sound

  creates : (next : NextLog) → Keeps (world d m w c parts batch acked) → Keeps (world (name_log n' (Some empty_file) d) (record m { next = next }) w c parts batch acked)
  creates next keeps =
      let e : Device = name_log n' (Some empty_file) d in
      let same : e.logs m.log ≡ d.logs m.log = at_other n' (stands_for (Some empty_file) (d.logs n')) d.logs m.log (omega arith) in
      goes_on e next (record { same = ap (λ (x : Entry). x.now) same; named = λ is. ap (λ (x : Entry). x.before) same ∙ is; copy = refl; stands = λ s. s; below = λ l. l }) refl (λ k. refl) keeps
      (later_sound d m.log keeps.sure parts keeps.firm keeps.sound n' (Some empty_file) (omega arith) refl)

  pub records : (next : NextLog) → Keeps (world d m w c parts batch acked) → Keeps (world (sync_names d) (record m { next = next }) w c parts batch acked)
  records next keeps =
      goes_on (sync_names d) next (record { same = refl; named = λ e. refl; copy = refl; stands = λ s. s; below = λ l. l }) refl (λ k. refl) keeps (named_sound d m.log keeps.sure parts keeps.firm keeps.sound)

  pub makes_keep : (next : NextLog) (o : Outcome) → Keeps (world d m w c parts batch acked) → Keeps (world (device_after o batch parts d (next_make next m.log)) (record m { next = made_after next (is_done o) }) w c parts batch acked)
  makes_keep Creating Done keeps = creates Recording keeps
  makes_keep Creating NotDone keeps = stays Absent keeps
  makes_keep Creating PartDone keeps = stays Absent keeps
  makes_keep Creating DoneUntold keeps = creates Absent keeps
  makes_keep Recording Done keeps = records Waiting keeps
  makes_keep Recording NotDone keeps = stays Absent keeps
  makes_keep Recording PartDone keeps = stays Absent keeps
  makes_keep Recording DoneUntold keeps = records Absent keeps
  makes_keep Absent Done keeps = stays Absent keeps
  makes_keep Absent NotDone keeps = stays Absent keeps
  makes_keep Absent PartDone keeps = stays Absent keeps
  makes_keep Absent DoneUntold keeps = stays Absent keeps
  makes_keep Waiting Done keeps = stays Waiting keeps
  makes_keep Waiting NotDone keeps = stays Waiting keeps
  makes_keep Waiting PartDone keeps = stays Waiting keeps
  makes_keep Waiting DoneUntold keeps = stays Waiting keeps

pub next_happens : (w : World) (e : Event) → Keeps w → HasNext w → HasNext (happens w e)
next_happens w (Submit b) keeps fits = (allowed_submitted w.machine.writer w.machine.next fits.0, fits.1)
next_happens w AskSync keeps fits = (allowed_asked w.machine.writer w.machine.count w.machine.next fits.0, fits.1)
next_happens w AskNext keeps fits = asked w.device (w.machine.log + 1) w.machine.writer w.machine.next fits.0 fits.1
next_happens w AskSwitch keeps fits = (allowed_switched w.machine.writer w.machine.next fits.0, fits.1)
next_happens w (AskCheckpoint k past) keeps fits = fits
next_happens w (Writes o) keeps fits = write_next w.device w.machine w.machine.checkpointer w.parts w.batch w.acked w.machine.writer o fits
next_happens w (Makes o) keeps fits = make_next w.device w.machine w.machine.writer w.machine.checkpointer w.parts w.batch w.acked w.machine.next o fits
next_happens w (Syncs o) keeps fits = sync_next w.device w.machine w.machine.checkpointer w.parts w.batch w.acked w.machine.writer o fits
next_happens w (Checkpoints o) keeps fits = checkpoint_next w.device w.machine w.machine.writer w.parts w.batch w.acked w.machine.checkpointer o keeps fits
next_happens w (Crash logs bases least top sealed keep) keeps fits = opens_next least top sealed keep (record w { device = crashed logs bases w.device })
next_happens w (Restart least top sealed keep) keeps fits = opens_next least top sealed keep w
next_happens w SyncsNames keeps fits = (fits.0, made_stays w.device (sync_names w.device) (w.machine.log + 1) w.machine.next refl (λ e. refl) (omega arith) fits.1)
next_happens w (Reread left least top sealed keep) keeps fits = opens_next least top sealed keep (record w { device = reread left w })
