-- Every list of events keeps what holds; and what openings find after it.
use Rattle.std.proofs.Common.{◌≡◌, ℕ, ◌≤◌, Bool, true, false, ◌&&◌, inl, List, [], ◌∷◌, ◌++◌, length, get_or, take, refl, sym, ap, ◌∙◌, subst, arith}
use Rattle.std.specs.Prelude.{Option, Some, None, Result, Ok}
use Rattle.std.proofs.lemmas.Bool.{and_parts}
use Rattle.std.proofs.lemmas.List.{take-append-le}
use Rattle.uc_folder.specs.declared.machine.Machine.{Machine}
use Rattle.uc_folder.specs.declared.phases.Writer.{Writer}
use Rattle.uc_folder.specs.declared.phases.Writer.TheVariants.{Making, Replacing, Settling, Appending, Syncing, Both, Spoiled, Closing}
use Rattle.uc_folder.specs.declared.phases.NextLog.{NextLog}
use Rattle.uc_folder.specs.declared.phases.NextLog.TheVariants.{Absent}
use Rattle.uc_folder.specs.declared.phases.Checkpointer.{Checkpointer}
use Rattle.uc_folder.specs.declared.phases.Checkpointer.TheVariants.{Idle}
use Rattle.uc_folder.specs.Device.{Batch, first_whole, content, is_cut, File, Entry, Device, Keep, crashed_file, changed, changed_name, first_number, upto, last_log, crashed, recovered}
use Rattle.uc_folder.specs.Steps.{next_write, next_make, next_sync, next_checkpoint, asking_next}
use Rattle.uc_folder.specs.declared.listing.Base.{Base}
use Rattle.uc_folder.specs.declared.listing.Listed.{Listed}
use Rattle.uc_folder.specs.declared.listing.Found.{Found}
use Rattle.uc_folder.specs.declared.listing.Missing.{Missing}
use Rattle.uc_folder.specs.Listing.{IsListing, IsFoundIn}
use Rattle.uc_folder.proofs.Names.{finds}
use Rattle.uc_folder.specs.Worlds.{found, World, IsPrefixOf, IsReadable, Outcome, Done, NotDone, PartDone, DoneUntold, Event, Submit, AskSync, AskNext, AskSwitch, AskCheckpoint, Writes, Makes, Syncs, Checkpoints, Crash, Restart, Reread, SyncsNames, reread, first_of, answered, acked_after, acked_then, is_settled, keeps_all, acked_of, names_read, parts_read, count_read, opens, happens, start, run, submitted, keeps_batches, all_keep}
use Rattle.uc_folder.proofs.Lists.{prefix_refl, prefix_trans, prefix_under, at_here}
use Rattle.uc_folder.proofs.Sound.{Sound, crash_sound, uncut_name}
use Rattle.uc_folder.proofs.Opening.{read, j_below, upto_own, upto_read, own_uncut, opened_uncut, sound_firm, opened_firm, opened_reads, opened_prefix, opened_answered, opened_readable}
use Rattle.uc_folder.proofs.Reopening.{begun_log, kept_is, kept_reads, all_reads, opened_keeps}
use Rattle.uc_folder.proofs.Holding.{IsOpen, IsMendable, FitsWriter, Keeps}
use Rattle.uc_folder.proofs.Changes.{reread_sound}
use Rattle.uc_folder.proofs.Writing.{world, with_next, answered_in, take_counted, take_more}
use Rattle.uc_folder.proofs.Adding.{marked_count}
use Rattle.uc_folder.proofs.Marks.{IsFine, AreMarked, marked_whole, marks_after, marks_synced, marks_crashed, marks_reread, same_file}
use Rattle.uc_folder.proofs.Next.{HasNext, records, makes_keep, next_happens}
use Rattle.uc_folder.proofs.Switching.{syncs_keep}
use Rattle.uc_folder.proofs.Checkpointing.{checkpoints_keep}
use Rattle.uc_folder.proofs.Running.{writes_keep, submit_keeps, sync_keeps, switch_keeps, checkpoint_keeps}

-- ---- events

pub crashed_sound : (w : World) (keeps : Keeps w) (logs bases : ℕ → Keep) → Sound (crashed logs bases w.device) w.machine.log keeps.sure w.parts keeps.firm
crashed_sound w keeps logs bases = crash_sound w.device w.machine.log keeps.sure w.parts keeps.firm keeps.sound logs bases

pub happens_keeps : (w : World) (e : Event) → HasNext w → Keeps w → Keeps (happens w e)
happens_keeps w (Submit b) fits keeps = submit_keeps w.device w.machine w.parts w.batch w.acked b w.machine.writer w.machine.checkpointer keeps
happens_keeps w AskSync fits keeps = sync_keeps w.device w.machine w.parts w.batch w.acked w.machine.writer w.machine.checkpointer keeps
happens_keeps w AskNext fits keeps = with_next w.device w.machine w.machine.checkpointer w.parts w.batch w.acked (asking_next w.machine.writer w.machine.next) w.machine.writer keeps
happens_keeps w AskSwitch fits keeps = switch_keeps w.device w.machine w.parts w.batch w.acked w.machine.writer w.machine.checkpointer keeps
happens_keeps w (AskCheckpoint n past) fits keeps = checkpoint_keeps w.device w.machine w.parts w.batch w.acked n past w.machine.writer w.machine.checkpointer keeps
happens_keeps w (Writes o) fits keeps = writes_keep w.device w.machine w.parts w.batch w.acked w.machine.checkpointer w.machine.writer o fits keeps
happens_keeps w (Makes o) fits keeps = makes_keep w.device w.machine w.machine.writer w.machine.checkpointer w.parts w.batch w.acked w.machine.next o keeps
happens_keeps w (Syncs o) fits keeps = syncs_keep w.device w.machine w.machine.checkpointer w.parts w.batch w.acked w.machine.writer o keeps
happens_keeps w (Checkpoints o) fits keeps = checkpoints_keep w.device w.machine w.machine.writer w.parts w.batch w.acked w.machine.checkpointer o keeps
happens_keeps w (Crash logs bases least top sealed keep) fits keeps = opened_keeps (crashed logs bases w.device) w.machine.log keeps.sure w.parts keeps.firm (crashed_sound w keeps logs bases) keep w.machine w.batch w.acked least top sealed keeps.acked_is
happens_keeps w (Restart least top sealed keep) fits keeps = opened_keeps w.device w.machine.log keeps.sure w.parts keeps.firm keeps.sound keep w.machine w.batch w.acked least top sealed keeps.acked_is
happens_keeps w SyncsNames fits keeps = records w.device w.machine w.machine.writer w.machine.checkpointer w.parts w.batch w.acked w.machine.next keeps
happens_keeps w (Reread left least top sealed keep) fits keeps =
    opened_keeps (reread left w) w.machine.log keeps.sure w.parts keeps.firm (reread_sound w.device w.machine.log keeps.sure w.parts keeps.firm keeps.sound left) keep w.machine w.batch w.acked least top sealed keeps.acked_is

pub run_keeps : (es : List Event) (w : World) → HasNext w → Keeps w → Keeps (run es w) × HasNext (run es w)
run_keeps [] w fits keeps = (keeps, fits)
run_keeps (e ∷ es) w fits keeps = run_keeps es (happens w e) (next_happens w e keeps fits) (happens_keeps w e fits keeps)

pub start_keeps : Keeps start
start_keeps = record {
  sure = first_number;
  firm = [];
  sound = record {
    bases = λ k. (tt, tt);
    newer = λ k le gone. tt;
    there = inl refl;
    first = omega arith;
    reached = omega arith;
    older = λ k le lt. absurd (omega (arith, le, lt));
    last = ([], refl);
    spare = tt;
    begun = λ lt. absurd (omega (arith, lt));
    cut = λ e. absurd (cc);
    later = λ k lt. (tt, tt);
    named = omega arith;
    stands = ([], refl);
    none = refl;
  };
  acked_is = ([], refl);
  under = omega arith;
  writer = (refl, refl, refl, refl, inl refl, omega arith);
  checkpointer = tt;
}

pub start_next : HasNext start
start_next = (refl, tt)

pub always_keeps : (es : List Event) → Keeps (run es start)
always_keeps es = (run_keeps es start start_next start_keeps).0

pub always_next : (es : List Event) → HasNext (run es start)
always_next es = (run_keeps es start start_next start_keeps).1

-- ---- acknowledged batches stay

all_counted : (firm before part acked : List Batch) (count : ℕ) → count ≡ length part → IsPrefixOf firm (before ++ part) → IsPrefixOf acked firm → IsPrefixOf acked (before ++ take count part)
all_counted firm before part acked count counted all has = subst (λ l. IsPrefixOf acked (before ++ l)) (sym (take_counted count part counted)) (prefix_trans acked firm (before ++ part) has all)

-- an operation that failed acknowledges nothing
none_written : (w : Writer) (all acked : List Batch) → IsPrefixOf acked (acked_after w false all acked)
none_written Settling all acked = prefix_refl acked
none_written w all acked = prefix_refl acked

none_synced : (w : Writer) (parts : ℕ → List Batch) (log : ℕ) (acked : List Batch) → IsPrefixOf acked (acked_then w false parts log acked)
none_synced Making parts log acked = prefix_refl acked
none_synced w parts log acked = prefix_refl acked

module _ (d : Device) (m : Machine) (c : Checkpointer) (parts : ℕ → List Batch) (batch : Batch) (acked : List Batch) where
  abbrev inside : Writer → World
  inside w = world d m w c parts batch acked

  acked_written : (w : Writer) (o : Outcome) → Keeps (inside w) → IsPrefixOf acked (happens (inside w) (Writes o)).acked
  acked_written Settling Done keeps = prefix_trans acked keeps.firm (first_of parts m.log m.count) keeps.acked_is keeps.writer.firmly
  acked_written Closing Done keeps = all_counted keeps.firm (upto parts m.log) (parts m.log) acked m.count keeps.writer.counted (sound_firm d m.log keeps.sure parts keeps.firm keeps.sound) keeps.acked_is
  acked_written w Done keeps = prefix_refl acked
  acked_written w NotDone keeps = none_written w (first_of parts m.log m.count) acked
  acked_written w PartDone keeps = none_written w (first_of parts m.log m.count) acked
  acked_written w DoneUntold keeps = none_written w (first_of parts m.log m.count) acked

  -- a sync acknowledges no less than was
  told_more : (firm own : List Batch) (n : ℕ) → IsOpen m.count m.synced firm (upto parts m.log) own (d.logs m.log) → m.synced ≤ n → IsPrefixOf acked firm → IsPrefixOf own (parts m.log) → IsPrefixOf acked (first_of parts m.log n)
  told_more firm own n is le has begins =
      prefix_trans acked (upto parts m.log ++ take m.synced own) (first_of parts m.log n) (prefix_trans acked firm (upto parts m.log ++ take m.synced own) has is.told)
      (prefix_under (upto parts m.log) (take m.synced own) (take n (parts m.log))
      (let few = marked_count m.count m.synced firm (upto parts m.log) own (d.logs m.log) is in
      let first : take m.synced (parts m.log) ≡ take m.synced own = ap (take m.synced) (sym begins.1) ∙ take-append-le m.synced own begins.0 few in
      subst (λ l. IsPrefixOf l (take n (parts m.log))) first (take_more m.synced n (parts m.log) le)))

  spoiled_more : (firm front : List Batch) (n : ℕ) → front ++ batch ∷ [] ≡ parts m.log → IsMendable m.count m.synced firm (upto parts m.log) front (d.logs m.log) → m.synced ≤ n → IsPrefixOf acked firm → IsPrefixOf acked (first_of parts m.log n)
  spoiled_more firm front n split is le has =
      prefix_trans acked (upto parts m.log ++ take m.synced front) (first_of parts m.log n) (prefix_trans acked firm (upto parts m.log ++ take m.synced front) has is.told)
      (prefix_under (upto parts m.log) (take m.synced front) (take n (parts m.log))
      (let few = is.few in
      let counted = is.counted in
      let first : take m.synced (parts m.log) ≡ take m.synced front = ap (take m.synced) (sym split) ∙ take-append-le m.synced front (batch ∷ []) (omega (arith, few, counted)) in
      subst (λ l. IsPrefixOf l (take n (parts m.log))) first (take_more m.synced n (parts m.log) le)))

  acked_synced : (w : Writer) (o : Outcome) → Keeps (inside w) → IsPrefixOf acked (happens (inside w) (Syncs o)).acked
  acked_synced (Syncing n) Done keeps = told_more keeps.firm (parts m.log) n keeps.writer.0 keeps.writer.1 keeps.acked_is (prefix_refl (parts m.log))
  acked_synced (Both n) Done keeps = told_more keeps.firm keeps.writer.0.0 n keeps.writer.0.2 keeps.writer.1 keeps.acked_is (batch ∷ [], keeps.writer.0.1)
  acked_synced (Spoiled n) Done keeps = spoiled_more keeps.firm keeps.writer.0.0 n keeps.writer.0.1 keeps.writer.0.2 keeps.writer.1 keeps.acked_is
  acked_synced w Done keeps = prefix_refl acked
  acked_synced w NotDone keeps = none_synced w parts m.log acked
  acked_synced w PartDone keeps = none_synced w parts m.log acked
  acked_synced w DoneUntold keeps = none_synced w parts m.log acked

-- what is acknowledged stays so, unless batches are given up
kept_acked : (keep : Option ℕ) (kept acked : List Batch) → keeps_all keep ≡ true → IsPrefixOf acked (acked_of keep kept acked)
kept_acked None kept acked e = prefix_refl acked
kept_acked (Some k) kept acked e = absurd (cc)

opens_acked : (least top : ℕ) (sealed : Bool) (keep : Option ℕ) (w : World) → keeps_all keep ≡ true → IsPrefixOf w.acked (opens least top sealed keep w).acked
opens_acked least top sealed keep w all = kept_acked keep (first_of (parts_read w.device w.parts) (last_log w.device) (count_read w.device keep)) w.acked all

pub happens_acked : (w : World) (e : Event) → keeps_batches e ≡ true → Keeps w → IsPrefixOf w.acked (happens w e).acked
happens_acked w (Writes o) all is = acked_written w.device w.machine w.machine.checkpointer w.parts w.batch w.acked w.machine.writer o is
happens_acked w (Syncs o) all is = acked_synced w.device w.machine w.machine.checkpointer w.parts w.batch w.acked w.machine.writer o is
happens_acked w (Crash logs bases least top sealed keep) all is = opens_acked least top sealed keep (record w { device = crashed logs bases w.device }) all
happens_acked w (Restart least top sealed keep) all is = opens_acked least top sealed keep w all
happens_acked w (Reread left least top sealed keep) all is = opens_acked least top sealed keep (record w { device = reread left w }) all
happens_acked w e all is = prefix_refl w.acked

pub run_acked : (es : List Event) (w : World) → all_keep es ≡ true → HasNext w → Keeps w → IsPrefixOf w.acked (run es w).acked
run_acked [] w all fits is = prefix_refl w.acked
run_acked (e ∷ es) w all fits is =
    let both = and_parts (keeps_batches e) (all_keep es) all in
    prefix_trans w.acked (happens w e).acked (run es (happens w e)).acked (happens_acked w e both.0 is) (run_acked es (happens w e) both.1 (next_happens w e is fits) (happens_keeps w e fits is))

pub run_more : (es fs : List Event) (w : World) → run (es ++ fs) w ≡ run fs (run es w)
run_more [] fs w = refl
run_more (e ∷ es) fs w = run_more es fs (happens w e)

-- ---- marks

fine_write : (d : Device) (m : Machine) (firm before part : List Batch) (batch : Batch) (w : Writer) → FitsWriter d m.log m.count m.synced m.base firm before part batch w → IsFine d (next_write w m.log m.count m.synced)
fine_write d m firm before part batch Appending fits = fine_append fits.2
  where
    fine_append : IsOpen m.count m.synced firm before fits.0 (d.logs m.log) → (f : File) → (d.logs m.log).now ≡ Some f → m.synced ≤ length (first_whole f.kept)
    fine_append is f e = same_file m.synced (d.logs m.log).now is.file f is.now e is.marked
fine_write d m firm before part batch (Both n) fits = fine_append fits.0.2
  where
    fine_append : IsOpen m.count m.synced firm before fits.0.0 (d.logs m.log) → (f : File) → (d.logs m.log).now ≡ Some f → m.synced ≤ length (first_whole f.kept)
    fine_append is f e = same_file m.synced (d.logs m.log).now is.file f is.now e is.marked
fine_write d m firm before part batch Replacing fits = (fits.1.waiting, fits.1.lost)
fine_write d m firm before part batch w fits = tt

fine_sync : (d : Device) (w : Writer) (log : ℕ) → IsFine d (next_sync w log)
fine_sync d Making log = tt
fine_sync d w log = tt

fine_make : (d : Device) (next : NextLog) (log : ℕ) → IsFine d (next_make next log)
fine_make d Absent log = tt
fine_make d next log = tt

fine_checkpoint : (d : Device) (c : Checkpointer) → IsFine d (next_checkpoint c)
fine_checkpoint d Idle = tt
fine_checkpoint d c = tt

names_marked : (o : Option File) (d : Device) → AreMarked d → AreMarked (names_read o d)
names_marked None d are = are
names_marked (Some f) d are = marks_synced d are

read_marked : (d : Device) → AreMarked d → AreMarked (names_read (d.logs (last_log d)).now d)
read_marked d are = names_marked (d.logs (last_log d)).now d are

pub happens_marked : (w : World) (e : Event) → Keeps w → AreMarked w.device → AreMarked (happens w e).device
happens_marked w (Writes o) keeps are =
    marks_after o w.batch w.parts w.device (next_write w.machine.writer w.machine.log w.machine.count w.machine.synced)
    (fine_write w.device w.machine keeps.firm (upto w.parts w.machine.log) (w.parts w.machine.log) w.batch w.machine.writer keeps.writer) are
happens_marked w (Makes o) keeps are = marks_after o w.batch w.parts w.device (next_make w.machine.next w.machine.log) (fine_make w.device w.machine.next w.machine.log) are
happens_marked w (Syncs o) keeps are = marks_after o w.batch w.parts w.device (next_sync w.machine.writer w.machine.log) (fine_sync w.device w.machine.writer w.machine.log) are
happens_marked w (Checkpoints o) keeps are = marks_after o w.batch w.parts w.device (next_checkpoint w.machine.checkpointer) (fine_checkpoint w.device w.machine.checkpointer) are
happens_marked w (Crash logs bases least top sealed keep) keeps are = read_marked (crashed logs bases w.device) (marks_crashed w.device logs bases are)
happens_marked w (Restart least top sealed keep) keeps are = read_marked w.device are
happens_marked w SyncsNames keeps are = marks_synced w.device are
happens_marked w (Reread left least top sealed keep) keeps are = read_marked (reread left w) (marks_reread w.machine.log left w.device are)
happens_marked w e keeps are = are

pub run_marked : (es : List Event) (w : World) → HasNext w → Keeps w → AreMarked w.device → AreMarked (run es w).device
run_marked [] w fits keeps are = are
run_marked (e ∷ es) w fits keeps are = run_marked es (happens w e) (next_happens w e keeps fits) (happens_keeps w e fits keeps) (happens_marked w e keeps are)

pub always_marked : (es : List Event) → AreMarked (run es start).device
always_marked es = run_marked es start start_next start_keeps (record { logs = λ k. (tt, tt); copy = refl; placed = λ k. (tt, tt); copy_placed = tt })

-- ---- openings

module _ (d : Device) (log sure : ℕ) (parts : ℕ → List Batch) (firm : List Batch) (sound : Sound d log sure parts firm) where
  pub finds_submitted : (m : Machine) (batch : Batch) (acked : List Batch) (least top : ℕ) (sealed : Bool) (keep : Option ℕ) → is_cut (d.logs (last_log d)).now ≡ false →
      submitted (opens least top sealed keep (record { device = d; machine = m; parts = parts; batch = batch; acked = acked })) ≡ recovered d
  finds_submitted m batch acked least top sealed keep whole =
      let here = (d.logs (last_log d)).now in
      let le = j_below d log sure parts firm sound in
      ap (λ i. upto (parts_read d parts) i ++ parts_read d parts i) (begun_log here (found d least top) (count_read d keep) (sealed && (is_settled here && keeps_all keep)))
      ∙ (ap (λ l. l ++ parts_read d parts (last_log d)) (upto_own d log sure parts firm sound (last_log d) le ∙ sym (upto_read d log sure parts firm sound (last_log d) le))
      ∙ (ap (λ l. upto (read d log sure parts firm sound) (last_log d) ++ l) (own_uncut d log sure parts firm sound (last_log d) whole) ∙ opened_reads d log sure parts firm sound))

  pub finds_kept : (m : Machine) (batch : Batch) (acked : List Batch) (least top : ℕ) (sealed : Bool) (keep : Option ℕ) → IsPrefixOf (answered (opens least top sealed keep (record { device = d; machine = m; parts = parts; batch = batch; acked = acked }))) (recovered d)
  finds_kept m batch acked least top sealed keep =
      subst (λ l. IsPrefixOf l (recovered d)) (sym (kept_is (record { device = d; machine = m; parts = parts; batch = batch; acked = acked }) least top sealed keep)) (kept_reads d log sure parts firm sound keep)

  pub finds_all : (m : Machine) (batch : Batch) (acked : List Batch) (least top : ℕ) (sealed : Bool) → answered (opens least top sealed None (record { device = d; machine = m; parts = parts; batch = batch; acked = acked })) ≡ recovered d
  finds_all m batch acked least top sealed = kept_is (record { device = d; machine = m; parts = parts; batch = batch; acked = acked }) least top sealed None ∙ all_reads d log sure parts firm sound None refl

  pub finds_prefix : IsPrefixOf (recovered d) (upto parts log ++ parts log)
  finds_prefix = subst (λ xs. IsPrefixOf xs (upto parts log ++ parts log)) (opened_reads d log sure parts firm sound) (opened_prefix d log sure parts firm sound)

  pub finds_firm : IsPrefixOf firm (recovered d)
  finds_firm = subst (IsPrefixOf firm) (opened_reads d log sure parts firm sound) (opened_firm d log sure parts firm sound)

  pub finds_answered : (xs : List Batch) → IsPrefixOf xs (content (d.logs log).now) → IsPrefixOf (upto parts log ++ xs) (recovered d)
  finds_answered xs has = subst (IsPrefixOf (upto parts log ++ xs)) (opened_reads d log sure parts firm sound) (opened_answered d log sure parts firm sound xs has)

  pub finds_readable : AreMarked d → IsReadable d
  finds_readable are = opened_readable d log sure parts firm sound (λ k. marked_whole (d.logs k).now (are.logs k).0)

uncut_changed : (keep : Keep) (o : Option File) → is_cut (changed_name (crashed_file keep) o) ≡ false
uncut_changed keep None = refl
uncut_changed keep (Some f) = refl

-- after each list of events, by the crash
module _ (es : List Event) (logs bases : ℕ → Keep) where
  abbrev w : World
  w = run es start

  held : Keeps w
  held = always_keeps es

  pub crash_reads : (least top : ℕ) (sealed : Bool) (keep : Option ℕ) → submitted (happens w (Crash logs bases least top sealed keep)) ≡ recovered (crashed logs bases w.device)
  crash_reads least top sealed keep =
      let d = crashed logs bases w.device in
      let e = w.device.logs (last_log d) in
      finds_submitted d w.machine.log held.sure w.parts held.firm (crashed_sound w held logs bases) w.machine w.batch w.acked least top sealed keep
      (uncut_name (logs (last_log d)) (get_or (e.now ∷ e.before) (logs (last_log d)).which e.now))

  pub crash_prefix : IsPrefixOf (recovered (crashed logs bases w.device)) (submitted w)
  crash_prefix = finds_prefix (crashed logs bases w.device) w.machine.log held.sure w.parts held.firm (crashed_sound w held logs bases)

  pub crash_kept : (least top : ℕ) (sealed : Bool) (keep : Option ℕ) → IsPrefixOf (answered (happens w (Crash logs bases least top sealed keep))) (recovered (crashed logs bases w.device))
  crash_kept least top sealed keep = finds_kept (crashed logs bases w.device) w.machine.log held.sure w.parts held.firm (crashed_sound w held logs bases) w.machine w.batch w.acked least top sealed keep

  pub crash_acked : IsPrefixOf w.acked (recovered (crashed logs bases w.device))
  crash_acked = prefix_trans w.acked held.firm (recovered (crashed logs bases w.device)) held.acked_is (finds_firm (crashed logs bases w.device) w.machine.log held.sure w.parts held.firm (crashed_sound w held logs bases))

  pub crash_older : IsPrefixOf (upto w.parts w.machine.log) (recovered (crashed logs bases w.device))
  crash_older =
      prefix_trans (upto w.parts w.machine.log) held.firm (recovered (crashed logs bases w.device)) held.sound.stands
      (finds_firm (crashed logs bases w.device) w.machine.log held.sure w.parts held.firm (crashed_sound w held logs bases))

  pub crash_readable : IsReadable (crashed logs bases w.device)
  crash_readable = finds_readable (crashed logs bases w.device) w.machine.log held.sure w.parts held.firm (crashed_sound w held logs bases) (marks_crashed w.device logs bases (always_marked es))

  pub crash_finds : (bs : List Base) (ls : List Listed) → IsListing (crashed logs bases w.device) bs ls → (r : Result Found Missing) → IsFoundIn bs ls r → (f : Found) × (r ≡ Ok f) × (f ≡ found (crashed logs bases w.device) f.least f.top)
  crash_finds bs ls is r is_found = finds (crashed logs bases w.device) w.machine.log held.sure w.parts held.firm (crashed_sound w held logs bases) crash_readable bs ls is r is_found

-- by the end of the process
module _ (es : List Event) where
  abbrev w' : World
  w' = run es start

  keeps' : Keeps w'
  keeps' = always_keeps es

  pub restart_submitted : (least top : ℕ) (sealed : Bool) (keep : Option ℕ) → is_cut (w'.device.logs (last_log w'.device)).now ≡ false → submitted (happens w' (Restart least top sealed keep)) ≡ recovered w'.device
  restart_submitted least top sealed keep whole =
      finds_submitted w'.device w'.machine.log keeps'.sure w'.parts keeps'.firm keeps'.sound w'.machine w'.batch w'.acked least top sealed keep whole

  pub restart_kept : (least top : ℕ) (sealed : Bool) (keep : Option ℕ) → IsPrefixOf (answered (happens w' (Restart least top sealed keep))) (recovered w'.device)
  restart_kept least top sealed keep = finds_kept w'.device w'.machine.log keeps'.sure w'.parts keeps'.firm keeps'.sound w'.machine w'.batch w'.acked least top sealed keep

  pub restart_all : (least top : ℕ) (sealed : Bool) → answered (happens w' (Restart least top sealed None)) ≡ recovered w'.device
  restart_all least top sealed = finds_all w'.device w'.machine.log keeps'.sure w'.parts keeps'.firm keeps'.sound w'.machine w'.batch w'.acked least top sealed

  pub restart_prefix : IsPrefixOf (recovered w'.device) (submitted w')
  restart_prefix = finds_prefix w'.device w'.machine.log keeps'.sure w'.parts keeps'.firm keeps'.sound

  pub restart_acked : IsPrefixOf w'.acked (recovered w'.device)
  restart_acked = prefix_trans w'.acked keeps'.firm (recovered w'.device) keeps'.acked_is (finds_firm w'.device w'.machine.log keeps'.sure w'.parts keeps'.firm keeps'.sound)

  pub restart_answered : IsPrefixOf (answered w') (recovered w'.device)
  restart_answered =
      finds_answered w'.device w'.machine.log keeps'.sure w'.parts keeps'.firm keeps'.sound (take w'.machine.count (w'.parts w'.machine.log))
      (answered_in w'.device w'.machine.log w'.machine.count w'.machine.synced w'.machine.base keeps'.firm (upto w'.parts w'.machine.log) (w'.parts w'.machine.log) w'.batch w'.machine.writer keeps'.writer)

  pub restart_readable : IsReadable w'.device
  restart_readable = finds_readable w'.device w'.machine.log keeps'.sure w'.parts keeps'.firm keeps'.sound (always_marked es)

  -- and where of the log only what is on the device is read
  reread_is : (keep : Keep) → Sound (reread keep w') w'.machine.log keeps'.sure w'.parts keeps'.firm
  reread_is keep = reread_sound w'.device w'.machine.log keeps'.sure w'.parts keeps'.firm keeps'.sound keep

  pub reread_reads : (left : Keep) (least top : ℕ) (sealed : Bool) (keep : Option ℕ) → submitted (happens w' (Reread left least top sealed keep)) ≡ recovered (reread left w')
  reread_reads left least top sealed keep =
      finds_submitted (reread left w') w'.machine.log keeps'.sure w'.parts keeps'.firm (reread_is left) w'.machine w'.batch w'.acked least top sealed keep
      (opened_uncut (reread left w') w'.machine.log keeps'.sure w'.parts keeps'.firm (reread_is left) (ap (λ (e : Entry). is_cut e.now) (at_here w'.machine.log (changed (crashed_file left) (w'.device.logs w'.machine.log)) w'.device.logs) ∙ uncut_changed left (w'.device.logs w'.machine.log).now))

  pub reread_prefix : (keep : Keep) → IsPrefixOf (recovered (reread keep w')) (submitted w')
  reread_prefix keep = finds_prefix (reread keep w') w'.machine.log keeps'.sure w'.parts keeps'.firm (reread_is keep)

  pub reread_acked : (keep : Keep) → IsPrefixOf w'.acked (recovered (reread keep w'))
  reread_acked keep = prefix_trans w'.acked keeps'.firm (recovered (reread keep w')) keeps'.acked_is (finds_firm (reread keep w') w'.machine.log keeps'.sure w'.parts keeps'.firm (reread_is keep))

  pub reread_readable : (keep : Keep) → IsReadable (reread keep w')
  reread_readable keep = finds_readable (reread keep w') w'.machine.log keeps'.sure w'.parts keeps'.firm (reread_is keep) (marks_reread w'.machine.log keep w'.device (always_marked es))

  pub restart_finds : (bs : List Base) (ls : List Listed) → IsListing w'.device bs ls → (r : Result Found Missing) → IsFoundIn bs ls r → (f : Found) × (r ≡ Ok f) × (f ≡ found w'.device f.least f.top)
  restart_finds bs ls is r is_found = finds w'.device w'.machine.log keeps'.sure w'.parts keeps'.firm keeps'.sound restart_readable bs ls is r is_found

  pub reread_finds : (keep : Keep) (bs : List Base) (ls : List Listed) → IsListing (reread keep w') bs ls → (r : Result Found Missing) → IsFoundIn bs ls r → (f : Found) × (r ≡ Ok f) × (f ≡ found (reread keep w') f.least f.top)
  reread_finds keep bs ls is r is_found = finds (reread keep w') w'.machine.log keeps'.sure w'.parts keeps'.firm (reread_is keep) (reread_readable keep) bs ls is r is_found
