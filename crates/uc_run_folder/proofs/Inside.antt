-- The folder's machine between any two events: the numbers of its logs and bases. No file is spoken of.
use Rattle.std.proofs.Common.{◌≡◌, ℕ, ◌+◌, ◌<◌, ◌≤◌, Bool, true, false, ltb, eqb, ◌&&◌, ⊎_elim, List, [], ◌∷◌, length, refl, arith, cond}
use Rattle.std.specs.Prelude.{⊤, Option, Some, None, min, nat_le}
use Rattle.std.proofs.lemmas.Bool.{ltb-true, leb-true, eqb-true, and_parts, or_cases}
use Rattle.uc_folder.specs.declared.machine.Machine.{Machine}
use Rattle.uc_folder.specs.declared.phases.Writer.{Writer}
use Rattle.uc_folder.specs.declared.phases.Writer.TheVariants.{Naming, Clearing, SettingAside, Settling, Ready, Appending, Mending, Syncing, Both, Spoiled, Closing, Failed}
use Rattle.uc_folder.specs.declared.phases.NextLog.{NextLog}
use Rattle.uc_folder.specs.declared.phases.NextLog.TheVariants.{Absent, Creating, Recording, Waiting}
use Rattle.uc_folder.specs.declared.phases.Checkpointer.{Checkpointer}
use Rattle.uc_folder.specs.declared.phases.Checkpointer.TheVariants.{Idle, Writing, Sealing, Renaming, Fixing, RemovingLog, RemovingBase}
use Rattle.uc_folder.specs.declared.action.Action.{Action}
use Rattle.uc_folder.specs.declared.action.Action.TheVariants.{Nothing, CreateLog, Append, SyncLog, CutLog, SyncNames, SetAside, CopyLog, SyncCopy, NameCopy, WriteBase, SyncBase, NameBase, RemoveLog, RemoveBase}
use Rattle.uc_folder.specs.Device.{Batch, Device, File, first_number, is_there, newest_base, last_log, crashed, is_used}
use Rattle.uc_folder.specs.Steps.{next_write, next_make, next_sync, next_checkpoint, told_write, told_make, told_sync, told_checkpoint, writer_after, count_after, synced_after, clearing_after, removing_from, removing_after, is_open, is_later, is_in_older, switching, asking_next, submitting, syncing, checkpointing, opened, made_after}
use Rattle.uc_folder.specs.Worlds.{World, Outcome, Done, NotDone, PartDone, DoneUntold, is_done, device_after, Event, Submit, AskSync, AskNext, AskSwitch, AskCheckpoint, Writes, Makes, Syncs, Checkpoints, Crash, Restart, Reread, SyncsNames, happens, run, start, names_read, begun_by, reread}
use Rattle.uc_run_folder.proofs.Lists.{highest_below}

-- a next log has its name
abbrev pub NextFits : ℕ → ℕ → NextLog → Type 0
NextFits names log Absent = ⊤
NextFits names log Creating = ⊤
NextFits names log Recording = log + 1 ≤ names
NextFits names log Waiting = log + 1 ≤ names

abbrev pub WriterFits : ℕ → ℕ → Writer → Type 0
WriterFits names log (Naming top sealed) = ⊥
WriterFits names log Closing = log + 1 ≤ names
WriterFits names log w = ⊤

-- a base of a number may be made
pub record Sought (names base tried n : ℕ) : Type 0 where
  pub from : base ≤ n
  pub late : tried ≤ n
  pub to : n ≤ names

abbrev pub CheckFits : ℕ → ℕ → ℕ → Checkpointer → Type 0
CheckFits names base tried Idle = ⊤
CheckFits names base tried (Writing n past) = Sought names base tried n
CheckFits names base tried (Sealing n past) = Sought names base tried n
CheckFits names base tried (Renaming n past) = Sought names base tried n
CheckFits names base tried (Fixing n past) = Sought names base tried n × (tried ≡ n)
CheckFits names base tried (RemovingLog k) = k < base
CheckFits names base tried (RemovingBase k) = k < base

pub record Inside (names : ℕ) (m : Machine) : Type 0 where
  pub first : first_number ≤ names
  pub log : m.log ≤ names
  pub next : NextFits names m.log m.next
  pub writer : WriterFits names m.log m.writer
  pub order : m.base ≤ m.tried
  pub check : CheckFits names m.base m.tried m.checkpointer

abbrev pub IsInside : World → Type 0
IsInside w = Inside w.device.names w.machine

-- ---- names grow

pub names_grow : (o : Outcome) (batch : Batch) (parts : ℕ → List Batch) (d : Device) (a : Action) → d.names ≤ (device_after o batch parts d a).names
names_grow Done batch parts d Nothing = omega arith
names_grow Done batch parts d (CreateLog k) = omega arith
names_grow Done batch parts d (Append k mark) = omega arith
names_grow Done batch parts d (SyncLog k n) = omega arith
names_grow Done batch parts d (CutLog k n) = omega arith
names_grow Done batch parts d SyncNames = omega arith
names_grow Done batch parts d (SetAside k) = omega arith
names_grow Done batch parts d (CopyLog k n) = omega arith
names_grow Done batch parts d SyncCopy = omega arith
names_grow Done batch parts d (NameCopy k) = omega arith
names_grow Done batch parts d (WriteBase n past) = omega arith
names_grow Done batch parts d SyncBase = omega arith
names_grow Done batch parts d (NameBase n past) = omega arith
names_grow Done batch parts d (RemoveLog k) = omega arith
names_grow Done batch parts d (RemoveBase k) = omega arith
names_grow NotDone batch parts d Nothing = omega arith
names_grow NotDone batch parts d (CreateLog k) = omega arith
names_grow NotDone batch parts d (Append k mark) = omega arith
names_grow NotDone batch parts d (SyncLog k n) = omega arith
names_grow NotDone batch parts d (CutLog k n) = omega arith
names_grow NotDone batch parts d SyncNames = omega arith
names_grow NotDone batch parts d (SetAside k) = omega arith
names_grow NotDone batch parts d (CopyLog k n) = omega arith
names_grow NotDone batch parts d SyncCopy = omega arith
names_grow NotDone batch parts d (NameCopy k) = omega arith
names_grow NotDone batch parts d (WriteBase n past) = omega arith
names_grow NotDone batch parts d SyncBase = omega arith
names_grow NotDone batch parts d (NameBase n past) = omega arith
names_grow NotDone batch parts d (RemoveLog k) = omega arith
names_grow NotDone batch parts d (RemoveBase k) = omega arith
names_grow PartDone batch parts d Nothing = omega arith
names_grow PartDone batch parts d (CreateLog k) = omega arith
names_grow PartDone batch parts d (Append k mark) = omega arith
names_grow PartDone batch parts d (SyncLog k n) = omega arith
names_grow PartDone batch parts d (CutLog k n) = omega arith
names_grow PartDone batch parts d SyncNames = omega arith
names_grow PartDone batch parts d (SetAside k) = omega arith
names_grow PartDone batch parts d (CopyLog k n) = omega arith
names_grow PartDone batch parts d SyncCopy = omega arith
names_grow PartDone batch parts d (NameCopy k) = omega arith
names_grow PartDone batch parts d (WriteBase n past) = omega arith
names_grow PartDone batch parts d SyncBase = omega arith
names_grow PartDone batch parts d (NameBase n past) = omega arith
names_grow PartDone batch parts d (RemoveLog k) = omega arith
names_grow PartDone batch parts d (RemoveBase k) = omega arith
names_grow DoneUntold batch parts d Nothing = omega arith
names_grow DoneUntold batch parts d (CreateLog k) = omega arith
names_grow DoneUntold batch parts d (Append k mark) = omega arith
names_grow DoneUntold batch parts d (SyncLog k n) = omega arith
names_grow DoneUntold batch parts d (CutLog k n) = omega arith
names_grow DoneUntold batch parts d SyncNames = omega arith
names_grow DoneUntold batch parts d (SetAside k) = omega arith
names_grow DoneUntold batch parts d (CopyLog k n) = omega arith
names_grow DoneUntold batch parts d SyncCopy = omega arith
names_grow DoneUntold batch parts d (NameCopy k) = omega arith
names_grow DoneUntold batch parts d (WriteBase n past) = omega arith
names_grow DoneUntold batch parts d SyncBase = omega arith
names_grow DoneUntold batch parts d (NameBase n past) = omega arith
names_grow DoneUntold batch parts d (RemoveLog k) = omega arith
names_grow DoneUntold batch parts d (RemoveBase k) = omega arith

next_grows : (names names' log : ℕ) → names ≤ names' → (n : NextLog) → NextFits names log n → NextFits names' log n
next_grows names names' log le Absent is = tt
next_grows names names' log le Creating is = tt
next_grows names names' log le Recording is = omega (arith, le, is)
next_grows names names' log le Waiting is = omega (arith, le, is)

writer_grows : (names names' log : ℕ) → names ≤ names' → (w : Writer) → WriterFits names log w → WriterFits names' log w
writer_grows names names' log le (Naming top sealed) is = absurd is
writer_grows names names' log le Closing is = omega (arith, le, is)
writer_grows names names' log le w is = tt

sought_grows : (names names' base tried n : ℕ) → names ≤ names' → Sought names base tried n → Sought names' base tried n
sought_grows names names' base tried n le is = let to = is.to in record { from = is.from; late = is.late; to = omega (arith, le, to) }

check_grows : (names names' base tried : ℕ) → names ≤ names' → (c : Checkpointer) → CheckFits names base tried c → CheckFits names' base tried c
check_grows names names' base tried le Idle is = tt
check_grows names names' base tried le (Writing n past) is = sought_grows names names' base tried n le is
check_grows names names' base tried le (Sealing n past) is = sought_grows names names' base tried n le is
check_grows names names' base tried le (Renaming n past) is = sought_grows names names' base tried n le is
check_grows names names' base tried le (Fixing n past) is = (sought_grows names names' base tried n le is.0, is.1)
check_grows names names' base tried le (RemovingLog k) is = is
check_grows names names' base tried le (RemovingBase k) is = is

-- ---- the writer

module _ (names names' : ℕ) (m : Machine) (le : names ≤ names') where
  moved : (c s : ℕ) (w v : Writer) → Inside names (record m { writer = w }) → WriterFits names' m.log v → Inside names' (record m { count = c; synced = s; writer = v })
  moved c s w v is fits = let first = is.first in let log = is.log in record {
    first = omega (arith, first, le);
    log = omega (arith, log, le);
    next = next_grows names names' m.log le m.next is.next;
    writer = fits;
    order = is.order;
    check = check_grows names names' m.base m.tried le m.checkpointer is.check;
  }

  with_next : (n v : NextLog) → Inside names (record m { next = n }) → NextFits names' m.log v → Inside names' (record m { next = v })
  with_next n v is fits = let first = is.first in let log = is.log in record {
    first = omega (arith, first, le);
    log = omega (arith, log, le);
    next = fits;
    writer = writer_grows names names' m.log le m.writer is.writer;
    order = is.order;
    check = check_grows names names' m.base m.tried le m.checkpointer is.check;
  }

  entered : Inside names (record m { writer = Closing }) → Inside names' (told_write (record m { writer = Closing }) true)
  entered is = let first = is.first in let next = is.writer in record {
    first = omega (arith, first, le);
    log = omega (arith, next, le);
    next = tt;
    writer = tt;
    order = is.order;
    check = check_grows names names' m.base m.tried le m.checkpointer is.check;
  }

  with_check : (base least tried past : ℕ) (c v : Checkpointer) → Inside names (record m { checkpointer = c }) → base ≤ tried → CheckFits names' base tried v → Inside names' (record m { base = base; least = least; tried = tried; past = past; checkpointer = v })
  with_check base least tried past c v is order fits = let first = is.first in let log = is.log in record {
    first = omega (arith, first, le);
    log = omega (arith, log, le);
    next = next_grows names names' m.log le m.next is.next;
    writer = writer_grows names names' m.log le m.writer is.writer;
    order = order;
    check = fits;
  }

pub clearing_fits : (names log k top : ℕ) (sealed : Bool) → WriterFits names log (clearing_after k top sealed)
clearing_fits names log k top sealed = by_test (ltb k top) sealed
  where
    by_test : (b s : Bool) → WriterFits names log (cond b (Clearing (k + 1) top sealed) (cond s Settling SettingAside))
    by_test true s = tt
    by_test false true = tt
    by_test false false = tt

module _ (d : Device) (m : Machine) (batch : Batch) (parts : ℕ → List Batch) where
  abbrev after : Outcome → Action → ℕ
  after o a = (device_after o batch parts d a).names

  writes_inside : (w : Writer) (o : Outcome) → Inside d.names (record m { writer = w }) → Inside (after o (next_write w m.log m.count m.synced)) (told_write (record m { writer = w }) (is_done o))
  writes_inside (Naming top sealed) o is = absurd is.writer
  writes_inside (Clearing k top sealed) Done is =
      moved d.names (after Done (next_write (Clearing k top sealed) m.log m.count m.synced)) m (names_grow Done batch parts d (next_write (Clearing k top sealed) m.log m.count m.synced))
      m.count m.synced (Clearing k top sealed) (clearing_after k top sealed) is (clearing_fits (after Done (next_write (Clearing k top sealed) m.log m.count m.synced)) m.log k top sealed)
  writes_inside Closing Done is = entered d.names (after Done (next_write Closing m.log m.count m.synced)) m (names_grow Done batch parts d (next_write Closing m.log m.count m.synced)) is
  writes_inside w Done is =
      moved d.names (after Done (next_write w m.log m.count m.synced)) m (names_grow Done batch parts d (next_write w m.log m.count m.synced))
      (count_after w true m.count) (synced_after w true m.count m.synced) w (writer_after w true m.log) is tt
  writes_inside w NotDone is =
      moved d.names (after NotDone (next_write w m.log m.count m.synced)) m (names_grow NotDone batch parts d (next_write w m.log m.count m.synced)) m.count m.synced w (writer_after w false m.log) is tt
  writes_inside w PartDone is =
      moved d.names (after PartDone (next_write w m.log m.count m.synced)) m (names_grow PartDone batch parts d (next_write w m.log m.count m.synced)) m.count m.synced w (writer_after w false m.log) is tt
  writes_inside w DoneUntold is =
      moved d.names (after DoneUntold (next_write w m.log m.count m.synced)) m (names_grow DoneUntold batch parts d (next_write w m.log m.count m.synced)) m.count m.synced w (writer_after w false m.log) is tt

  makes_inside : (n : NextLog) (o : Outcome) → Inside d.names (record m { next = n }) → Inside (after o (next_make n m.log)) (told_make (record m { next = n }) (is_done o))
  makes_inside Creating Done is = with_next d.names (after Done (next_make Creating m.log)) m (names_grow Done batch parts d (next_make Creating m.log)) Creating Recording is (omega arith)
  makes_inside Recording Done is = with_next d.names (after Done (next_make Recording m.log)) m (names_grow Done batch parts d (next_make Recording m.log)) Recording Waiting is is.next
  makes_inside Waiting o is = with_next d.names (after o (next_make Waiting m.log)) m (names_grow o batch parts d (next_make Waiting m.log)) Waiting Waiting is
      (next_grows d.names (after o (next_make Waiting m.log)) m.log (names_grow o batch parts d (next_make Waiting m.log)) Waiting is.next)
  makes_inside n Done is = with_next d.names (after Done (next_make n m.log)) m (names_grow Done batch parts d (next_make n m.log)) n (made_after n true) is tt
  makes_inside n NotDone is = with_next d.names (after NotDone (next_make n m.log)) m (names_grow NotDone batch parts d (next_make n m.log)) n (made_after n false) is tt
  makes_inside n PartDone is = with_next d.names (after PartDone (next_make n m.log)) m (names_grow PartDone batch parts d (next_make n m.log)) n (made_after n false) is tt
  makes_inside n DoneUntold is = with_next d.names (after DoneUntold (next_make n m.log)) m (names_grow DoneUntold batch parts d (next_make n m.log)) n (made_after n false) is tt

  syncs_inside : (w : Writer) (b : Bool) (o : Outcome) → Inside d.names (record m { writer = w }) → Inside (after o (next_sync w m.log)) (told_sync (record m { writer = w }) b)
  syncs_inside (Syncing n) true o is = moved d.names (after o (next_sync (Syncing n) m.log)) m (names_grow o batch parts d (next_sync (Syncing n) m.log)) m.count n (Syncing n) Ready is tt
  syncs_inside (Both n) true o is = moved d.names (after o (next_sync (Both n) m.log)) m (names_grow o batch parts d (next_sync (Both n) m.log)) m.count n (Both n) Appending is tt
  syncs_inside (Spoiled n) true o is = moved d.names (after o (next_sync (Spoiled n) m.log)) m (names_grow o batch parts d (next_sync (Spoiled n) m.log)) m.count n (Spoiled n) Mending is tt
  syncs_inside (Syncing n) false o is = moved d.names (after o (next_sync (Syncing n) m.log)) m (names_grow o batch parts d (next_sync (Syncing n) m.log)) m.count m.synced (Syncing n) Failed is tt
  syncs_inside (Both n) false o is = moved d.names (after o (next_sync (Both n) m.log)) m (names_grow o batch parts d (next_sync (Both n) m.log)) m.count m.synced (Both n) Failed is tt
  syncs_inside (Spoiled n) false o is = moved d.names (after o (next_sync (Spoiled n) m.log)) m (names_grow o batch parts d (next_sync (Spoiled n) m.log)) m.count m.synced (Spoiled n) Failed is tt
  syncs_inside w b o is = moved d.names (after o (next_sync w m.log)) m (names_grow o batch parts d (next_sync w m.log)) m.count m.synced w w is
      (writer_grows d.names (after o (next_sync w m.log)) m.log (names_grow o batch parts d (next_sync w m.log)) w is.writer)

-- ---- the checkpointer

pub removing_fits : (names base tried k : ℕ) → CheckFits names base tried (removing_from k base)
removing_fits names base tried k = by_test (ltb k base) refl
  where
    by_test : (b : Bool) → ltb k base ≡ b → CheckFits names base tried (cond b (RemovingLog k) Idle)
    by_test true e = ltb-true k base e
    by_test false e = tt

removed_fits : (names base tried k : ℕ) → CheckFits names base tried (removing_after k base)
removed_fits names base tried k = by_test (ltb k base)
  where
    by_test : (b : Bool) → CheckFits names base tried (cond b (removing_from (k + 1) base) Idle)
    by_test true = removing_fits names base tried (k + 1)
    by_test false = tt

module _ (d : Device) (m : Machine) (batch : Batch) (parts : ℕ → List Batch) where
  abbrev then : Outcome → Checkpointer → ℕ
  then o c = (device_after o batch parts d (next_checkpoint c)).names

  grows : (o : Outcome) (c : Checkpointer) → d.names ≤ then o c
  grows o c = names_grow o batch parts d (next_checkpoint c)

  on_to : (o : Outcome) (c : Checkpointer) (base least tried past : ℕ) (v : Checkpointer) → Inside d.names (record m { checkpointer = c }) → base ≤ tried → CheckFits (then o c) base tried v → Inside (then o c) (record m { base = base; least = least; tried = tried; past = past; checkpointer = v })
  on_to o c base least tried past v is order fits = with_check d.names (then o c) m (grows o c) base least tried past c v is order fits

  given_up : (c : Checkpointer) (o : Outcome) → Inside d.names (record m { checkpointer = c }) → Inside (then o c) (told_checkpoint (record m { checkpointer = c }) false)
  given_up (Renaming n past) o is = on_to o (Renaming n past) m.base m.least n past Idle is is.check.from tt
  given_up c o is = on_to o c m.base m.least m.tried m.past Idle is is.order tt

  checkpoints_inside : (c : Checkpointer) (o : Outcome) → Inside d.names (record m { checkpointer = c }) → Inside (then o c) (told_checkpoint (record m { checkpointer = c }) (is_done o))
  checkpoints_inside Idle Done is = on_to Done Idle m.base m.least m.tried m.past Idle is is.order tt
  checkpoints_inside (Writing n past) Done is = on_to Done (Writing n past) m.base m.least m.tried m.past (Sealing n past) is is.order (sought_grows d.names (then Done (Writing n past)) m.base m.tried n (grows Done (Writing n past)) is.check)
  checkpoints_inside (Sealing n past) Done is = on_to Done (Sealing n past) m.base m.least m.tried m.past (Renaming n past) is is.order (sought_grows d.names (then Done (Sealing n past)) m.base m.tried n (grows Done (Sealing n past)) is.check)
  checkpoints_inside (Renaming n past) Done is = let to = is.check.to in
      on_to Done (Renaming n past) m.base m.least n past (Fixing n past) is is.check.from (record { from = is.check.from; late = omega arith; to = omega (arith, to) }, refl)
  checkpoints_inside (Fixing n past) Done is = let same = is.check.1 in
      on_to Done (Fixing n past) n m.least m.tried m.past (removing_from m.least n) is (omega (arith, same)) (removing_fits (then Done (Fixing n past)) n m.tried m.least)
  checkpoints_inside (RemovingLog k) Done is = on_to Done (RemovingLog k) m.base m.least m.tried m.past (RemovingBase k) is is.order is.check
  checkpoints_inside (RemovingBase k) Done is = on_to Done (RemovingBase k) m.base (cond (ltb k m.base) (k + 1) m.least) m.tried m.past (removing_after k m.base) is is.order (removed_fits (then Done (RemovingBase k)) m.base m.tried k)
  checkpoints_inside c NotDone is = given_up c NotDone is
  checkpoints_inside c PartDone is = given_up c PartDone is
  checkpoints_inside c DoneUntold is = given_up c DoneUntold is

-- ---- requests

module _ (names : ℕ) (m : Machine) where
  stays : (w v : Writer) → Inside names (record m { writer = w }) → WriterFits names m.log v → Inside names (record m { writer = v })
  stays w v is fits = moved names names m (omega arith) m.count m.synced w v is fits

  submit_inside : (w : Writer) → Inside names (record m { writer = w }) → Inside names (record m { writer = submitting w })
  submit_inside Ready is = stays Ready Appending is tt
  submit_inside (Syncing n) is = stays (Syncing n) (Both n) is tt
  submit_inside w is = is

  sync_inside : (w : Writer) → Inside names (record m { writer = w }) → Inside names (record m { writer = syncing w m.count })
  sync_inside Ready is = stays Ready (Syncing m.count) is tt
  sync_inside Appending is = stays Appending (Both m.count) is tt
  sync_inside w is = is

  switched : (n : NextLog) → NextFits names m.log n → Inside names (record m { writer = Ready }) → Inside names (record m { writer = switching Ready n })
  switched Waiting fits is = stays Ready Closing is fits
  switched n fits is = is

  switch_inside : (w : Writer) → Inside names (record m { writer = w }) → Inside names (record m { writer = switching w m.next })
  switch_inside Ready is = switched m.next is.next is
  switch_inside w is = is

  next_inside : (w : Writer) (n : NextLog) → Inside names (record m { next = n }) → Inside names (record m { next = asking_next w n })
  next_inside w Absent is = by_test (is_open w)
    where
      by_test : (b : Bool) → Inside names (record m { next = cond b Creating Absent })
      by_test true = with_next names names m (omega arith) Absent Creating is tt
      by_test false = is
  next_inside w n is = is

  begun_inside : (w : Writer) (n past : ℕ) (b : Bool) → (is_open w && is_later m.tried m.past n past && nat_le m.base n && is_in_older m.log n past) ≡ b → Inside names (record m { checkpointer = Idle }) →
      Inside names (record m { checkpointer = checkpointing Idle b n past })
  begun_inside w n past true e is =
      let three = and_parts (is_open w && is_later m.tried m.past n past && nat_le m.base n) (is_in_older m.log n past) e in
      let two = and_parts (is_open w && is_later m.tried m.past n past) (nat_le m.base n) three.0 in
      let one = and_parts (is_open w) (is_later m.tried m.past n past) two.0 in
      let late : m.tried ≤ n =
      ⊎_elim (λ (lt : ltb m.tried n ≡ true). let l = ltb-true m.tried n lt in omega (arith, l))
      (λ (both : (eqb m.tried n && ltb m.past past) ≡ true). let l = eqb-true m.tried n (and_parts (eqb m.tried n) (ltb m.past past) both).0 in omega (arith, l))
      (or_cases (ltb m.tried n) (eqb m.tried n && ltb m.past past) one.1) in
      let to : n ≤ m.log =
      ⊎_elim (λ (lt : ltb n m.log ≡ true). let l = ltb-true n m.log lt in omega (arith, l))
      (λ (both : (eqb n m.log && eqb past 0) ≡ true). let l = eqb-true n m.log (and_parts (eqb n m.log) (eqb past 0) both).0 in omega (arith, l))
      (or_cases (ltb n m.log) (eqb n m.log && eqb past 0) three.1) in
      let log = is.log in
      with_check names names m (omega arith) m.base m.least m.tried m.past Idle (Writing n past) is is.order (record { from = leb-true m.base n two.1; late = late; to = omega (arith, to, log) })
  begun_inside w n past false e is = is

  ask_inside : (w : Writer) (n past : ℕ) (c : Checkpointer) → Inside names (record m { checkpointer = c }) →
      Inside names (record m { checkpointer = checkpointing c (is_open w && is_later m.tried m.past n past && nat_le m.base n && is_in_older m.log n past) n past })
  ask_inside w n past Idle is = begun_inside w n past (is_open w && is_later m.tried m.past n past && nat_le m.base n && is_in_older m.log n past) refl is
  ask_inside w n past c is = is

-- ---- openings

newest_below : (d : Device) → first_number ≤ d.names → newest_base d ≤ d.names
newest_below d first = let le = highest_below (λ n. is_there (d.bases n).now) d.names in omega (arith, first, le)

last_below : (d : Device) → first_number ≤ d.names → last_log d ≤ d.names
last_below d first =
    let le = highest_below (λ n. is_used (d.logs n).now) d.names in
    let base = newest_below d first in
    omega (arith, base, le)

opened_by : (d : Device) (n j least top past count : ℕ) (sealed : Bool) (o : Option File) → first_number ≤ d.names → j ≤ d.names →
    Inside (names_read o d).names (begun_by o (opened (record { base = n; past = past; least = least; log = j; is_there = is_there o; top = top }) count sealed))
opened_by d n j least top past count sealed None first to =
    record { first = first; log = to; next = tt; writer = tt; order = omega arith; check = tt }
opened_by d n j least top past count sealed (Some f) first to =
    record { first = first; log = to; next = tt; writer = clearing_fits d.names j j top sealed; order = omega arith; check = removing_fits d.names n n least }

-- ---- lists of events

pub happens_inside : (w : World) (e : Event) → IsInside w → IsInside (happens w e)
happens_inside w (Submit b) is = submit_inside w.device.names w.machine w.machine.writer is
happens_inside w AskSync is = sync_inside w.device.names w.machine w.machine.writer is
happens_inside w AskNext is = next_inside w.device.names w.machine w.machine.writer w.machine.next is
happens_inside w AskSwitch is = switch_inside w.device.names w.machine w.machine.writer is
happens_inside w (AskCheckpoint n past) is = ask_inside w.device.names w.machine w.machine.writer n (min past (length (w.parts n))) w.machine.checkpointer is
happens_inside w (Writes o) is = writes_inside w.device w.machine w.batch w.parts w.machine.writer o is
happens_inside w (Makes o) is = makes_inside w.device w.machine w.batch w.parts w.machine.next o is
happens_inside w (Syncs o) is = syncs_inside w.device w.machine w.batch w.parts w.machine.writer (is_done o) o is
happens_inside w (Checkpoints o) is = checkpoints_inside w.device w.machine w.batch w.parts w.machine.checkpointer o is
happens_inside w (Crash logs bases least top sealed keep) is =
    let d = crashed logs bases w.device in
    opened_by d (newest_base d) (last_log d) least top _ _ _ (d.logs (last_log d)).now is.first (last_below d is.first)
happens_inside w (Restart least top sealed keep) is =
    let d = w.device in
    opened_by d (newest_base d) (last_log d) least top _ _ _ (d.logs (last_log d)).now is.first (last_below d is.first)
happens_inside w SyncsNames is = is
happens_inside w (Reread left least top sealed keep) is =
    let d = reread left w in
    opened_by d (newest_base d) (last_log d) least top _ _ _ (d.logs (last_log d)).now is.first (last_below d is.first)

pub run_inside : (es : List Event) (w : World) → IsInside w → IsInside (run es w)
run_inside [] w is = is
run_inside (e ∷ es) w is = run_inside es (happens w e) (happens_inside w e is)

pub start_inside : IsInside start
start_inside = record { first = omega arith; log = omega arith; next = tt; writer = tt; order = omega arith; check = tt }
