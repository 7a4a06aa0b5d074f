-- Syncs of the log, and going on in the next one, keep what holds.
use Rattle.std.proofs.Common.{◌≡◌, ℕ, suc, ◌+◌, ◌≤◌, List, [], ◌∷◌, ◌++◌, length, take, refl, sym, ap, ◌∙◌, subst, arith}
use Rattle.std.specs.List.{AllByRecursion}
use Rattle.std.proofs.lemmas.List.{take-append-le, take_all, drop_all}
use Rattle.uc_folder.specs.declared.machine.Machine.{Machine}
use Rattle.uc_folder.specs.declared.phases.Writer.{Writer}
use Rattle.uc_folder.specs.declared.phases.Writer.TheVariants.{Ready, Appending, Syncing, Both, Spoiled, Closing, Failed}
use Rattle.uc_folder.specs.declared.phases.NextLog.TheVariants.{Absent}
use Rattle.uc_folder.specs.declared.phases.Checkpointer.{Checkpointer}
use Rattle.uc_folder.specs.Device.{Batch, first_whole, are_whole, File, Entry, Device, content, is_cut, upto, at, synced, suspected, changed, change_log}
use Rattle.uc_folder.specs.Worlds.{World, IsPrefixOf, first_of, Outcome, Done, NotDone, PartDone, DoneUntold, Writes, Syncs, happens}
use Rattle.uc_folder.proofs.Lists.{prefix_refl, prefix_trans, prefix_take, at_here, at_other}
use Rattle.uc_folder.proofs.Records.{whole_front, whole_length}
use Rattle.uc_folder.proofs.Sound.{Sound, IsWhole, IsThere, IsLog, IsLast}
use Rattle.uc_folder.proofs.Holding.{IsNew, IsOpen, IsAppended, Keeps}
use Rattle.uc_folder.proofs.Opening.{sound_firm, uncut}
use Rattle.uc_folder.proofs.Changes.{switched_sound}
use Rattle.uc_folder.proofs.Writing.{world, inside, moved, stepped, none_lost, with_next, with_file, filed, last_of, here, here_before, most, synced_file, synced_all, synced_first}
use Rattle.uc_folder.proofs.Adding.{marked_count, synced_now, synced_open, synced_sound, synced_firmly, synced_grows}
use Rattle.uc_folder.proofs.Mending.{spoiled_syncs}
use Rattle.uc_folder.proofs.Next.{IsNext, waiting_next}

module _ (d : Device) (m : Machine) (c : Checkpointer) (parts : ℕ → List Batch) (batch : Batch) (acked : List Batch) where
  abbrev log : ℕ
  log = m.log

  abbrev part : List Batch
  part = parts m.log

  abbrev before : List Batch
  before = upto parts m.log

  abbrev inside' : Writer → World
  inside' w = inside d m c parts batch acked w

  abbrev file' : (File → File) → Device
  file' change = with_file d m c parts batch acked change

  -- ---- a sync that failed

  -- nothing is different, but that the file is suspect
  suspects : (w : Writer) (own : List Batch) (count : ℕ) (keeps : Keeps (inside' w)) → IsOpen count m.synced keeps.firm before own (d.logs log) → IsPrefixOf (take m.count part) own → Keeps (world (file' suspected) m Failed c parts batch acked)
  suspects w own count keeps is le =
      filed d m c parts batch acked m.count m.synced w Failed suspected is.file is.now is.named keeps (last_of d m c parts batch acked w is.file is.now keeps) (none_lost (suspected is.file) is.lost)
      (subst (IsPrefixOf (take m.count part)) (sym (ap content (here d m c parts batch acked suspected is.file is.now) ∙ is.all)) le)

  -- it may be done all the same
  suspects_after : (w : Writer) (n : ℕ) (own : List Batch) (keeps : Keeps (inside' w)) → IsOpen m.count m.synced keeps.firm before own (d.logs log) → IsPrefixOf own part → IsPrefixOf (take m.count part) own → (n ≤ m.count) → (m.synced ≤ n) →
      Keeps (world (change_log log suspected (file' (synced n))) m Failed c parts batch acked)
  suspects_after w n own keeps is begins le to from =
      let is' = synced_open d m c parts batch acked n own keeps.firm is from to in
      let done : Keeps (world (file' (synced n)) m Failed c parts batch acked) =
      stepped d m c parts batch acked (file' (synced n)) m.count m.synced w Failed refl (λ k. refl) keeps (synced_sound d m c parts batch acked n own keeps.firm is keeps.sure keeps.sound begins)
      (subst (IsPrefixOf (take m.count part)) (sym (ap content is'.now ∙ is'.all)) le) in
      filed (file' (synced n)) m c parts batch acked m.count m.synced Failed Failed suspected is'.file is'.now is'.named done
      (last_of (file' (synced n)) m c parts batch acked Failed is'.file is'.now done) (none_lost (suspected is'.file) is.lost)
      (subst (IsPrefixOf (take m.count part)) (sym (ap content (here (file' (synced n)) m c parts batch acked suspected is'.file is'.now) ∙ is'.all)) le)

  -- the batches that were answered, where another one is under way
  front_counted : (firm : List Batch) (is : IsAppended m.count m.synced firm before part batch (d.logs log)) (n : ℕ) → n ≤ m.count → take n part ≡ take n is.0
  front_counted firm is n le = let counted = is.2.counted in ap (take n) (sym is.1) ∙ take-append-le n is.0 (batch ∷ []) (omega (arith, counted, le))

  front_answered : (firm : List Batch) (is : IsAppended m.count m.synced firm before part batch (d.logs log)) → IsPrefixOf (take m.count part) is.0
  front_answered firm is = subst (λ l. IsPrefixOf l is.0) (sym (front_counted firm is m.count (omega arith))) (prefix_take m.count is.0)

  -- ---- a sync during which batches are appended

  pub syncing_keeps : (n : ℕ) (o : Outcome) → Keeps (inside' (Syncing n)) → Keeps (happens (inside' (Syncing n)) (Syncs o))
  syncing_keeps n Done keeps =
      let is = keeps.writer.0 in
      let from = keeps.writer.1 in
      let more = first_of parts log n in
      moved d m c parts batch acked (file' (synced n)) log m.count n parts batch more more (Syncing n) Ready refl (λ k. refl) (omega arith) (λ k lt. refl) (prefix_refl part) keeps
      (synced_grows d m c parts batch acked n part keeps.firm is from)
      (synced_firmly d m c parts batch acked n part keeps.firm is keeps.sure keeps.sound (prefix_refl part) from (prefix_take n part))
      (prefix_refl more) (synced_open d m c parts batch acked n part keeps.firm is from keeps.writer.2)
  syncing_keeps n NotDone keeps = suspects (Syncing n) part m.count keeps keeps.writer.0 (prefix_take m.count part)
  syncing_keeps n PartDone keeps = suspects (Syncing n) part m.count keeps keeps.writer.0 (prefix_take m.count part)
  syncing_keeps n DoneUntold keeps = suspects_after (Syncing n) n part keeps keeps.writer.0 (prefix_refl part) (prefix_take m.count part) keeps.writer.2 keeps.writer.1

  pub both_syncs : (n : ℕ) (o : Outcome) → Keeps (inside' (Both n)) → Keeps (happens (inside' (Both n)) (Syncs o))
  both_syncs n Done keeps =
      let is = keeps.writer.0 in
      let own : List Batch = is.0 in
      let from = keeps.writer.1 in
      let more = first_of parts log n in
      let same : before ++ take n own ≡ more = ap (λ l. before ++ l) (sym (front_counted keeps.firm is n keeps.writer.2)) in
      let begins : IsPrefixOf own part = (batch ∷ [], is.1) in
      moved d m c parts batch acked (file' (synced n)) log m.count n parts batch more more (Both n) Appending refl (λ k. refl) (omega arith) (λ k lt. refl) (prefix_refl part) keeps
      (subst (IsPrefixOf keeps.firm) same (synced_grows d m c parts batch acked n own keeps.firm is.2 from))
      (subst (λ l. Sound (file' (synced n)) log keeps.sure parts l) same
      (synced_firmly d m c parts batch acked n own keeps.firm is.2 keeps.sure keeps.sound begins from (prefix_trans (take n own) own part (prefix_take n own) begins)))
      (prefix_refl more)
      (own, is.1, subst (λ l. IsOpen m.count n l before own ((file' (synced n)).logs log)) same (synced_open d m c parts batch acked n own keeps.firm is.2 from keeps.writer.2))
  both_syncs n NotDone keeps = suspects (Both n) keeps.writer.0.0 m.count keeps keeps.writer.0.2 (front_answered keeps.firm keeps.writer.0)
  both_syncs n PartDone keeps = suspects (Both n) keeps.writer.0.0 m.count keeps keeps.writer.0.2 (front_answered keeps.firm keeps.writer.0)
  both_syncs n DoneUntold keeps =
      let is = keeps.writer.0 in suspects_after (Both n) n is.0 keeps is.2 (batch ∷ [], is.1) (front_answered keeps.firm is) keeps.writer.2 keeps.writer.1

  pub syncs_keep : (w : Writer) (o : Outcome) → Keeps (inside' w) → Keeps (happens (inside' w) (Syncs o))
  syncs_keep (Syncing n) o keeps = syncing_keeps n o keeps
  syncs_keep (Both n) o keeps = both_syncs n o keeps
  syncs_keep (Spoiled n) o keeps = spoiled_syncs d m c parts batch acked n o keeps
  syncs_keep w Done keeps = keeps
  syncs_keep w NotDone keeps = keeps
  syncs_keep w PartDone keeps = keeps
  syncs_keep w DoneUntold keeps = keeps

  -- ---- the next log

  -- the whole log is on the device
  closed : (firm : List Batch) (is : IsOpen m.count m.synced firm before part (d.logs log)) → IsWhole part (synced_file m.count is.file is.fresh)
  closed firm is =
      let f = is.file in
      let g = synced_file m.count f is.fresh in
      let counted = is.counted in
      let size = whole_length (f.kept ++ f.waiting) is.whole in
      let all = ap length is.all in
      record {
        kept = synced_first m.count f is.fresh ∙ (ap (take (most m.count f is.fresh)) is.all ∙ take_all (most m.count f is.fresh) part (omega (arith, counted)));
        whole = whole_front g.kept g.waiting (ap are_whole (synced_all m.count f is.fresh) ∙ is.whole);
        waiting = drop_all (most m.count f is.fresh) (f.kept ++ f.waiting) (omega (arith, counted, size, all));
        lost = is.lost;
      }

  few_synced : (firm : List Batch) → IsOpen m.count m.synced firm before part (d.logs log) → m.synced ≤ m.count
  few_synced firm is = let le = marked_count m.count m.synced firm before part (d.logs log) is in let counted = is.counted in omega (arith, le, counted)

  -- all of the log is on the device, and acknowledged
  closes : (keeps : Keeps (inside' Closing)) → Keeps (world (file' (synced m.count)) (record m { count = m.count; synced = m.count }) Ready c parts batch (first_of parts log m.count))
  closes keeps =
      let is = keeps.writer in
      let from = few_synced keeps.firm is in
      let more = first_of parts log m.count in
      moved d m c parts batch acked (file' (synced m.count)) log m.count m.count parts batch more more Closing Ready refl (λ k. refl) (omega arith) (λ k lt. refl) (prefix_refl part) keeps
      (synced_grows d m c parts batch acked m.count part keeps.firm is from)
      (synced_firmly d m c parts batch acked m.count part keeps.firm is keeps.sure keeps.sound (prefix_refl part) from (prefix_take m.count part))
      (prefix_refl more) (synced_open d m c parts batch acked m.count part keeps.firm is from (omega arith))

  -- the next log, which is there and empty, becomes the current one
  enters : (keeps : Keeps (inside' Closing)) (next : ℕ) → next ≡ suc log → IsNew ((file' (synced m.count)).logs next).now → ((file' (synced m.count)).logs next).before ≡ [] → next ≤ d.names →
      Keeps (world (file' (synced m.count)) (record m { log = next; count = 0; synced = 0 }) Ready c (at next [] parts) batch (first_of parts log m.count))
  enters keeps next e new alone top =
      let e' : Device = file' (synced m.count) in
      let is = keeps.writer in
      let from = few_synced keeps.firm is in
      let all = first_of parts log m.count in
      let done = closes keeps in
      let now = synced_now d m c parts batch acked m.count part keeps.firm is in
      let q = at next [] parts in
      let more = before ++ part in
      let none : new.file.kept ++ new.file.waiting ≡ [] = ap (λ l. l ++ new.file.waiting) new.kept ∙ new.waiting in
      let empty : q next ≡ [] = at_here next [] parts in
      let grows = sound_firm e' log done.sure parts done.firm done.sound in
      let named : (e'.logs log).before ≡ [] = here_before d m c parts batch acked (synced m.count) ∙ is.named in
      let sound = switched_sound e' log done.sure parts done.firm done.sound next e (subst (IsLog part) (sym now) (closed keeps.firm is)) named
      (subst IsThere (sym new.now) tt, subst (AllByRecursion IsThere) (sym alone) tt) (ap is_cut new.now ∙ uncut new.file new.lost) top in
      let last = subst (IsLast more (upto q next) (q next)) new.now sound.last in
      moved e' (record m { count = m.count; synced = m.count }) c parts batch all e' next 0 0 q batch all more Ready Ready refl (λ k. refl) (omega (arith, e)) (λ k lt. at_other next [] parts k (omega (arith, e, lt)))
      (subst (IsPrefixOf part) (sym (at_other next [] parts log (omega (arith, e)))) (prefix_refl part)) done grows sound
      (prefix_trans all done.firm more done.acked_is grows)
      (record {
        file = new.file;
        now = new.now;
        named = alone;
        whole = ap are_whole none;
        all = ap first_whole none ∙ sym empty;
        fresh = new.fresh;
        lost = new.lost;
        counted = ap length (sym empty);
        marked = omega arith;
        told = subst (λ l. IsPrefixOf more (upto q next ++ l)) (ap first_whole new.kept) last.1;
      })

  pub closing_keeps : (o : Outcome) → IsNext d log Closing m.next → Keeps (inside' Closing) → Keeps (happens (inside' Closing) (Writes o))
  closing_keeps Done fits keeps =
      let is = waiting_next d log m.next fits in
      let next : ℕ = log + 1 in
      let e' : Device = file' (synced m.count) in
      let same : e'.logs next ≡ d.logs next = at_other log (changed (synced m.count) (d.logs log)) d.logs next (omega arith) in
      with_next e' (record m { log = next; count = 0; synced = 0 }) c (at next [] parts) batch (first_of parts log m.count) Absent Ready
      (enters keeps next (omega arith) (subst (λ (x : Entry). IsNew x.now) (sym same) is.new) (ap (λ (x : Entry). x.before) same ∙ is.alone) is.named)
  closing_keeps NotDone fits keeps = suspects Closing part m.count keeps keeps.writer (prefix_take m.count part)
  closing_keeps PartDone fits keeps = suspects Closing part m.count keeps keeps.writer (prefix_take m.count part)
  closing_keeps DoneUntold fits keeps = suspects_after Closing m.count part keeps keeps.writer (prefix_refl part) (prefix_take m.count part) (omega arith) (few_synced keeps.firm keeps.writer)
