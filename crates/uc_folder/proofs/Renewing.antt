-- The writer's steps while the folder is opened keep what holds.
use Rattle.std.proofs.Common.{◌≡◌, ℕ, ◌+◌, ◌<◌, Bool, true, false, cond, ltb, List, [], ◌++◌, length, take, drop, refl, sym, ap, ◌∙◌, subst, arith}
use Rattle.std.specs.Prelude.{Some, None, max}
use Rattle.std.specs.List.{AllByRecursion}
use Rattle.std.proofs.lemmas.List.{length-take-le, take-append-drop}
use Rattle.uc_folder.specs.declared.machine.Machine.{Machine}
use Rattle.uc_folder.specs.declared.phases.Writer.{Writer}
use Rattle.uc_folder.specs.declared.phases.Writer.TheVariants.{Making, Founding, Clearing, SettingAside, Copying, SealingCopy, Replacing, Settling, Ready, Failed}
use Rattle.uc_folder.specs.declared.phases.Checkpointer.{Checkpointer}
use Rattle.uc_folder.specs.Device.{Batch, first_whole, are_whole, records_of, File, Entry, Device, content, upto, at, whole_part, empty_file, copied, sealed, stands_for, name_log, sync_names, write_copy}
use Rattle.uc_folder.specs.Worlds.{World, IsPrefixOf, first_of, Outcome, Done, NotDone, PartDone, DoneUntold, Writes, happens}
use Rattle.uc_folder.proofs.Lists.{prefix_refl, prefix_trans, prefix_onto, prefix_take, upto_same, at_here, at_other}
use Rattle.uc_folder.proofs.Records.{part_first, part_whole, first_take, whole_take}
use Rattle.uc_folder.proofs.Sound.{IsWhole, IsThere, IsLast, spared, Sound}
use Rattle.uc_folder.proofs.Holding.{IsRead, IsNew, IsOpen, IsCopy, IsOpening, IsSettling, IfSealed, FitsWriter, Attempt, Keeps}
use Rattle.uc_folder.proofs.Opening.{whole_content, whole_last, whole_all}
use Rattle.uc_folder.proofs.Changes.{later_sound, submitted_sound, shrunk_sound, named_sound, aside_sound}
use Rattle.uc_folder.proofs.Writing.{world, inside, stepped, waits, fails, edited, read_file, none_lost, checkpointer_moves, answered_in, take_counted}
use Rattle.uc_folder.proofs.Mending.{attempt_shrinks}

pub empty_new : (e : Entry) → IsNew (stands_for (Some empty_file) e).now
empty_new e = record { file = empty_file; now = refl; kept = refl; waiting = refl; lost = refl; fresh = refl }

module _ (d : Device) (m : Machine) (c : Checkpointer) (parts : ℕ → List Batch) (batch : Batch) (acked : List Batch) where
  abbrev log : ℕ
  log = m.log

  abbrev part : List Batch
  part = parts m.log

  abbrev inside' : Writer → World
  inside' w = inside d m c parts batch acked w

  -- the same for another folder
  abbrev FitsAt : Device → List Batch → Writer → Type 0
  FitsAt e firm w = FitsWriter e log m.count m.synced m.base firm (upto parts log) part batch w

  -- ---- a new folder

  making : (v : Writer) (keeps : Keeps (inside' Making)) → FitsAt (name_log log (Some empty_file) d) keeps.firm v → Keeps (world (name_log log (Some empty_file) d) m v c parts batch acked)
  making v keeps fits =
      let gone : (d.logs log).now ≡ None = keeps.writer.0 in
      let has : IsPrefixOf keeps.firm (upto parts log) = subst (IsLast keeps.firm (upto parts log) part) gone keeps.sound.last in
      edited d m c parts batch acked m.count m.synced Making v (stands_for (Some empty_file) (d.logs log)) (max d.names log) keeps (omega arith)
      ((part, refl), prefix_onto keeps.firm (upto parts log) [] has)
      (subst (IsLast keeps.firm (upto parts log) part) (sym gone) has, subst (λ own. AllByRecursion (IsLast keeps.firm (upto parts log) own) (d.logs log).before) (ap (λ o. spared o part) gone ∙ sym keeps.writer.1) keeps.sound.spare)
      (λ lt. absurd (subst IsThere gone (keeps.sound.begun lt).0)) (none_lost empty_file refl) fits

  made : (keeps : Keeps (inside' Making)) → FitsAt (name_log log (Some empty_file) d) keeps.firm Founding
  made keeps =
      (subst (λ (e : Entry). IsNew e.now) (sym (at_here log (stands_for (Some empty_file) (d.logs log)) d.logs)) (empty_new (d.logs log)), keeps.writer.1, keeps.writer.2, keeps.writer.3)

  pub making_keeps : (o : Outcome) → Keeps (inside' Making) → Keeps (happens (inside' Making) (Writes o))
  making_keeps Done keeps = making Founding keeps (made keeps)
  making_keeps NotDone keeps = fails d m c parts batch acked Making keeps
  making_keeps PartDone keeps = fails d m c parts batch acked Making keeps
  making_keeps DoneUntold keeps =
      making Failed keeps (answered_in (name_log log (Some empty_file) d) log m.count m.synced m.base keeps.firm (upto parts log) part batch Founding (made keeps))

  names_kept : (w v : Writer) (keeps : Keeps (inside' w)) → FitsAt (sync_names d) keeps.firm v → Keeps (world (sync_names d) m v c parts batch acked)
  names_kept w v keeps fits = stepped d m c parts batch acked (sync_names d) m.count m.synced w v refl (λ k. refl) keeps (named_sound d log keeps.sure parts keeps.firm keeps.sound) fits

  -- an empty log may be appended to
  founded : (keeps : Keeps (inside' Founding)) → FitsAt (sync_names d) keeps.firm Ready
  founded keeps =
      let is = keeps.writer.0 in
      let empty : part ≡ [] = keeps.writer.1 in
      let none : is.file.kept ++ is.file.waiting ≡ [] = ap (λ l. l ++ is.file.waiting) is.kept ∙ is.waiting in
      let counted = keeps.writer.2 in
      let synced = keeps.writer.3 in
      let last : IsPrefixOf keeps.firm (upto parts log ++ first_whole is.file.kept) = (subst (IsLast keeps.firm (upto parts log) part) is.now keeps.sound.last).1 in
      record {
        file = is.file;
        now = is.now;
        named = refl;
        whole = ap are_whole none;
        all = ap first_whole none ∙ sym empty;
        fresh = is.fresh;
        lost = is.lost;
        counted = counted ∙ ap length (sym empty);
        marked = omega (arith, synced);
        told = subst (λ l. IsPrefixOf keeps.firm (upto parts log ++ l)) (ap first_whole is.kept ∙ ap (λ i. take i part) (sym synced)) last;
      }

  pub founding_keeps : (o : Outcome) → Keeps (inside' Founding) → Keeps (happens (inside' Founding) (Writes o))
  founding_keeps Done keeps = names_kept Founding Ready keeps (founded keeps)
  founding_keeps NotDone keeps = fails d m c parts batch acked Founding keeps
  founding_keeps PartDone keeps = fails d m c parts batch acked Founding keeps
  founding_keeps DoneUntold keeps = names_kept Founding Failed keeps (answered_in d log m.count m.synced m.base keeps.firm (upto parts log) part batch Founding keeps.writer)

  -- ---- later logs

  -- there may be logs to clear
  pub clears : (e : Device) (firm : List Batch) (b : Bool) (k top : ℕ) (sealed : Bool) → log < k → IsOpening m.count firm (upto parts log) part (e.logs log) → IfSealed sealed m.count part (e.logs log).now → FitsAt e firm (cond b (Clearing k top sealed) (cond sealed Settling SettingAside))
  clears e firm true k top sealed lt is alike = (is, lt, alike)
  clears e firm false k top true lt is alike = record {
    file = alike.0.file;
    now = alike.0.now;
    is = subst (λ xs. IsWhole xs alike.0.file) (sym (take_counted m.count part alike.1)) alike.0.is;
    fresh = alike.0.fresh;
    few = is.few;
    firmly = is.firmly;
  }
  clears e firm false k top false lt is alike = is

  -- a later log goes
  clearing : (k top : ℕ) (sealed : Bool) (v : Writer) (keeps : Keeps (inside' (Clearing k top sealed))) →
      (IsOpening m.count keeps.firm (upto parts log) part ((name_log k None d).logs log) → IfSealed sealed m.count part ((name_log k None d).logs log).now → FitsAt (name_log k None d) keeps.firm v) → Keeps (world (name_log k None d) m v c parts batch acked)
  clearing k top sealed v keeps fits =
      let lt = keeps.writer.1 in
      let same : (name_log k None d).logs log ≡ d.logs log = at_other k (stands_for None (d.logs k)) d.logs log (omega (arith, lt)) in
      stepped d m c parts batch acked (name_log k None d) m.count m.synced (Clearing k top sealed) v refl (λ i. refl) keeps (later_sound d log keeps.sure parts keeps.firm keeps.sound k None lt tt)
      (fits (subst (IsOpening m.count keeps.firm (upto parts log) part) (sym same) keeps.writer.0) (subst (λ (e : Entry). IfSealed sealed m.count part e.now) (sym same) keeps.writer.2))

  pub clearing_keeps : (k top : ℕ) (sealed : Bool) (o : Outcome) → Keeps (inside' (Clearing k top sealed)) → Keeps (happens (inside' (Clearing k top sealed)) (Writes o))
  clearing_keeps k top sealed Done keeps =
      let lt = keeps.writer.1 in
      clearing k top sealed (cond (ltb k top) (Clearing (k + 1) top sealed) (cond sealed Settling SettingAside)) keeps (clears (name_log k None d) keeps.firm (ltb k top) (k + 1) top sealed (omega (arith, lt)))
  clearing_keeps k top sealed NotDone keeps = fails d m c parts batch acked (Clearing k top sealed) keeps
  clearing_keeps k top sealed PartDone keeps = fails d m c parts batch acked (Clearing k top sealed) keeps
  clearing_keeps k top sealed DoneUntold keeps =
      clearing k top sealed Failed keeps (λ is alike. answered_in (name_log k None d) log m.count m.synced m.base keeps.firm (upto parts log) part batch SettingAside is)

  pub setting_keeps : (o : Outcome) → Keeps (inside' SettingAside) → Keeps (happens (inside' SettingAside) (Writes o))
  setting_keeps Done keeps = waits d m c parts batch acked SettingAside Copying keeps keeps.writer
  setting_keeps NotDone keeps = fails d m c parts batch acked SettingAside keeps
  setting_keeps PartDone keeps = fails d m c parts batch acked SettingAside keeps
  setting_keeps DoneUntold keeps = fails d m c parts batch acked SettingAside keeps

  -- ---- the copy

  copies : (w v : Writer) (f : File) (keeps : Keeps (inside' w)) → FitsAt (write_copy f d) keeps.firm v → Keeps (world (write_copy f d) m v c parts batch acked)
  copies w v f keeps fits = stepped d m c parts batch acked (write_copy f d) m.count m.synced w v refl (λ k. refl) keeps (aside_sound d log keeps.sure parts keeps.firm keeps.sound f d.partial) fits

  is_copy : IsRead m.count part (d.logs log).now → IsCopy (take m.count part) (copied m.count (d.logs log).now)
  is_copy is =
      let found = read_file m.count part (d.logs log).now is in
      let records = whole_part (records_of (d.logs log).now) in
      record {
        whole = whole_take m.count records (part_whole (records_of (d.logs log).now));
        all = first_take m.count records ∙ (ap (take m.count) (part_first (records_of (d.logs log).now) ∙ ap content found.1) ∙ found.2);
        fresh = refl;
        lost = refl;
      }

  pub copying_keeps : (o : Outcome) → Keeps (inside' Copying) → Keeps (happens (inside' Copying) (Writes o))
  copying_keeps Done keeps = copies Copying SealingCopy (copied m.count (d.logs log).now) keeps (keeps.writer, is_copy keeps.writer.read)
  copying_keeps NotDone keeps = fails d m c parts batch acked Copying keeps
  copying_keeps PartDone keeps = fails d m c parts batch acked Copying keeps
  copying_keeps DoneUntold keeps = copies Copying Failed (copied m.count (d.logs log).now) keeps (answered_in d log m.count m.synced m.base keeps.firm (upto parts log) part batch Copying keeps.writer)

  pub sealing_copy_keeps : (o : Outcome) → Keeps (inside' SealingCopy) → Keeps (happens (inside' SealingCopy) (Writes o))
  sealing_copy_keeps Done keeps =
      let is = keeps.writer.1 in copies SealingCopy Replacing (sealed d.copy) keeps (keeps.writer.0, record { kept = is.all; whole = is.whole; waiting = refl; lost = is.lost }, is.fresh)
  sealing_copy_keeps NotDone keeps = fails d m c parts batch acked SealingCopy keeps
  sealing_copy_keeps PartDone keeps = fails d m c parts batch acked SealingCopy keeps
  sealing_copy_keeps DoneUntold keeps = copies SealingCopy Failed (sealed d.copy) keeps (answered_in d log m.count m.synced m.base keeps.firm (upto parts log) part batch SealingCopy keeps.writer)

  -- the copy takes the place of the log
  replacing : (v : Writer) (keeps : Keeps (inside' Replacing)) → FitsAt (name_log log (Some d.copy) d) keeps.firm v → Keeps (world (name_log log (Some d.copy) d) m v c parts batch acked)
  replacing v keeps fits =
      let is : IsWhole (take m.count part) d.copy = keeps.writer.1 in
      edited d m c parts batch acked m.count m.synced Replacing v (stands_for (Some d.copy) (d.logs log)) (max d.names log) keeps (omega arith) (
        subst (λ l. IsPrefixOf l part) (sym (whole_last (take m.count part) d.copy is)) (prefix_take m.count part),
        subst (λ l. IsPrefixOf keeps.firm (upto parts log ++ l)) (sym is.kept) keeps.writer.0.firmly,
      ) (
        keeps.sound.last,
        subst (AllByRecursion (IsLast keeps.firm (upto parts log) part)) (sym keeps.writer.0.named) tt,
      )
      (λ lt. (tt, keeps.sound.begun lt)) (none_lost d.copy is.lost) fits

  replaced : (keeps : Keeps (inside' Replacing)) → FitsAt (name_log log (Some d.copy) d) keeps.firm Settling
  replaced keeps = record {
    file = d.copy;
    now = ap (λ (e : Entry). e.now) (at_here log (stands_for (Some d.copy) (d.logs log)) d.logs);
    is = keeps.writer.1;
    fresh = keeps.writer.2;
    few = keeps.writer.0.few;
    firmly = keeps.writer.0.firmly;
  }

  pub replacing_keeps : (o : Outcome) → Keeps (inside' Replacing) → Keeps (happens (inside' Replacing) (Writes o))
  replacing_keeps Done keeps = replacing Settling keeps (replaced keeps)
  replacing_keeps NotDone keeps = fails d m c parts batch acked Replacing keeps
  replacing_keeps PartDone keeps = fails d m c parts batch acked Replacing keeps
  replacing_keeps DoneUntold keeps =
      replacing Failed keeps (answered_in (name_log log (Some d.copy) d) log m.count m.synced m.base keeps.firm (upto parts log) part batch Settling (replaced keeps))

  -- all that is kept is on the device, and nothing else is there
  module _ (firm : List Batch) (is : IsSettling m.count firm (upto parts log) part (d.logs log).now) where
    abbrev kept : List Batch
    kept = take m.count part

    abbrev q : ℕ → List Batch
    q = at m.log kept parts

    q_is : q log ≡ kept
    q_is = at_here log kept parts

    q_other : (k : ℕ) → k < log → q k ≡ parts k
    q_other k lt = at_other log kept parts k (omega (arith, lt))

    q_before : upto q log ≡ upto parts log
    q_before = upto_same q parts log q_other

    abbrev more : List Batch
    more = first_of parts log m.count

    last : (less : List Batch) → IsPrefixOf less more → (own : List Batch) → kept ≡ own → IsLast less (upto parts log) own (d.logs log).now
    last less le own e =
        subst (IsLast less (upto parts log) own) (sym is.now) (
          subst (λ l. IsPrefixOf l own) (sym (whole_last kept is.file is.is)) (subst (IsPrefixOf kept) e (prefix_refl kept)),
          subst (λ l. IsPrefixOf less (upto parts log ++ l)) (sym is.is.kept) le,
        )

    settled_sound : (sure : ℕ) → Sound d log sure parts firm → Sound (sync_names d) log sure q more
    settled_sound sure sound =
        let less : Sound (sync_names d) log sure q firm =
        shrunk_sound (sync_names d) log sure parts firm (named_sound d log sure parts firm sound) q q_other (subst (λ l. IsPrefixOf firm (upto parts log ++ l)) (sym q_is) is.firmly)
        (last firm is.firmly (q log) (sym q_is)) tt in
        submitted_sound (sync_names d) log sure q firm less q more (λ k lt. refl) (prefix_refl (q log)) is.firmly
        (subst (λ before. IsLast more before (q log) (d.logs log).now) (sym q_before) (last more (prefix_refl more) (q log) (sym q_is))) tt

    settled_open : IsOpen m.count m.count more (upto q log) (q log) ((sync_names d).logs log)
    settled_open =
        let few = is.few in
        let size : length kept ≡ m.count = length-take-le m.count part few in
        let read = ap length is.is.kept in
        record {
          file = is.file;
          now = is.now;
          named = refl;
          whole = whole_all kept is.file is.is;
          all = whole_content kept is.file is.is ∙ sym q_is;
          fresh = is.fresh;
          lost = is.is.lost;
          counted = sym size ∙ ap length (sym q_is);
          marked = omega (arith, size, read);
          told = subst (λ l. IsPrefixOf more (l ++ take m.count (q log))) (sym q_before)
              (subst (λ l. IsPrefixOf more (upto parts log ++ l)) (sym (ap (take m.count) q_is ∙ take_counted m.count kept (sym size))) (prefix_refl more));
        }

    settled_moves : (n past : ℕ) → Attempt log m.base parts firm n past → Attempt log m.base q more n past × (first_of parts n past ≡ first_of q n past)
    settled_moves n past attempt =
        let both = attempt_shrinks log m.base parts q firm (drop m.count part) n past q_other (ap (λ l. l ++ drop m.count part) q_is ∙ take-append-drop m.count part) (subst (λ l. IsPrefixOf firm (upto parts log ++ l)) (sym q_is) is.firmly) attempt in
        (record { from = both.0.from; to = both.0.to; size = both.0.size; firmly = prefix_trans (first_of q n past) firm more both.0.firmly is.firmly }, both.1)

  pub settling_keeps : (o : Outcome) → Keeps (inside' Settling) → Keeps (happens (inside' Settling) (Writes o))
  settling_keeps Done keeps =
      let is = keeps.writer in
      let all = first_of parts log m.count in
      record {
        sure = keeps.sure;
        firm = all;
        sound = settled_sound keeps.firm is keeps.sure keeps.sound;
        acked_is = prefix_refl all;
        under = keeps.under;
        writer = settled_open keeps.firm is;
        checkpointer = checkpointer_moves d (sync_names d) log log m.base keeps.sure parts (q keeps.firm is) keeps.firm all c refl (λ k. refl) (settled_moves keeps.firm is) keeps.checkpointer;
      }
  settling_keeps NotDone keeps = fails d m c parts batch acked Settling keeps
  settling_keeps PartDone keeps = fails d m c parts batch acked Settling keeps
  settling_keeps DoneUntold keeps = names_kept Settling Failed keeps (answered_in d log m.count m.synced m.base keeps.firm (upto parts log) part batch Settling keeps.writer)
