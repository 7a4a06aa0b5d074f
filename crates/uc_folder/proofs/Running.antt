-- Whatever happens, one event after the other, keeps what holds.
use Rattle.std.proofs.Common.{◌≡◌, ℕ, suc, ◌<◌, ◌≤◌, Bool, true, false, eqb, ltb, ◌&&◌, ◌⊎◌, inl, inr, ⊎_elim, List, [], ◌∷◌, ◌++◌, length, take, refl, sym, subst, arith}
use Rattle.std.specs.Prelude.{min, nat_le}
use Rattle.std.proofs.lemmas.List.{append-nil}
use Rattle.std.proofs.lemmas.Bool.{ltb-true, leb-true, eqb-true, and_parts, or_cases}
use Rattle.std.specs.List.{AllByRecursion}
use Rattle.uc_folder.specs.declared.machine.Machine.{Machine}
use Rattle.uc_folder.specs.declared.phases.Writer.{Writer}
use Rattle.uc_folder.specs.declared.phases.Writer.TheVariants.{Making, Founding, Naming, Clearing, SettingAside, Copying, SealingCopy, Replacing, Settling, Ready, Appending, Mending, Syncing, Both, Closing}
use Rattle.uc_folder.specs.declared.phases.NextLog.{NextLog}
use Rattle.uc_folder.specs.declared.phases.NextLog.TheVariants.{Absent, Creating, Recording, Waiting}
use Rattle.uc_folder.specs.declared.phases.Checkpointer.{Checkpointer}
use Rattle.uc_folder.specs.declared.phases.Checkpointer.TheVariants.{Idle}
use Rattle.uc_folder.specs.Device.{Batch, Device, upto, at}
use Rattle.uc_folder.specs.Steps.{is_open, is_later, is_in_older, switching, checkpointing}
use Rattle.uc_folder.specs.Worlds.{World, IsPrefixOf, Outcome, Done, NotDone, PartDone, DoneUntold, Submit, AskSync, AskSwitch, AskCheckpoint, Writes, first_of, happens}
use Rattle.uc_folder.proofs.Lists.{prefix_refl, prefix_trans, prefix_under, prefix_take, upto_same, upto_more, at_here, at_other}
use Rattle.uc_folder.proofs.Sound.{IsLast, spared, last_weaker}
use Rattle.uc_folder.proofs.Holding.{IsOpen, FitsWriter, Keeps}
use Rattle.uc_folder.proofs.Changes.{submitted_sound}
use Rattle.uc_folder.proofs.Writing.{world, moved, waits}
use Rattle.uc_folder.proofs.Renewing.{making_keeps, founding_keeps, clearing_keeps, setting_keeps, copying_keeps, sealing_copy_keeps, replacing_keeps, settling_keeps}
use Rattle.uc_folder.proofs.Adding.{marked_count, appending_keeps, both_keeps}
use Rattle.uc_folder.proofs.Mending.{mending_keeps}
use Rattle.uc_folder.proofs.Next.{HasNext}
use Rattle.uc_folder.proofs.Switching.{closing_keeps}

module _ (d : Device) (m : Machine) (parts : ℕ → List Batch) (batch : Batch) (acked : List Batch) where
  abbrev log : ℕ
  log = m.log

  abbrev inside : Writer → Checkpointer → World
  inside w c = world d m w c parts batch acked

  -- ---- the writer

  pub writes_keep : (c : Checkpointer) (w : Writer) (o : Outcome) → HasNext (inside w c) → Keeps (inside w c) → Keeps (happens (inside w c) (Writes o))
  writes_keep c Making o fits keeps = making_keeps d m c parts batch acked o keeps
  writes_keep c Founding o fits keeps = founding_keeps d m c parts batch acked o keeps
  writes_keep c (Naming top sealed) o fits keeps = absurd keeps.writer
  writes_keep c (Clearing k top sealed) o fits keeps = clearing_keeps d m c parts batch acked k top sealed o keeps
  writes_keep c SettingAside o fits keeps = setting_keeps d m c parts batch acked o keeps
  writes_keep c Copying o fits keeps = copying_keeps d m c parts batch acked o keeps
  writes_keep c SealingCopy o fits keeps = sealing_copy_keeps d m c parts batch acked o keeps
  writes_keep c Replacing o fits keeps = replacing_keeps d m c parts batch acked o keeps
  writes_keep c Settling o fits keeps = settling_keeps d m c parts batch acked o keeps
  writes_keep c Appending o fits keeps = appending_keeps d m c parts batch acked o keeps
  writes_keep c Mending o fits keeps = mending_keeps d m c parts batch acked o keeps
  writes_keep c (Both n) o fits keeps = both_keeps d m c parts batch acked n o keeps
  writes_keep c Closing o fits keeps = closing_keeps d m c parts batch acked o fits keeps
  writes_keep c w Done fits keeps = keeps
  writes_keep c w NotDone fits keeps = keeps
  writes_keep c w PartDone fits keeps = keeps
  writes_keep c w DoneUntold fits keeps = keeps

  -- ---- requests

  -- a batch is submitted
  takes : (b : Batch) (w v : Writer) (c : Checkpointer) (keeps : Keeps (inside w c)) → (d.logs log).before ≡ [] → FitsWriter d log m.count m.synced m.base keeps.firm (upto (at log (parts log ++ b ∷ []) parts) log) (at log (parts log ++ b ∷ []) parts log) b v →
      Keeps (world d m v c (at log (parts log ++ b ∷ []) parts) b acked)
  takes b w v c keeps named fits =
      let q = at log (parts log ++ b ∷ []) parts in
      let same : q log ≡ parts log ++ b ∷ [] = at_here log (parts log ++ b ∷ []) parts in
      let before : (k : ℕ) → k < log → q k ≡ parts k = λ k lt. at_other log (parts log ++ b ∷ []) parts k (omega (arith, lt)) in
      let grows : IsPrefixOf (parts log) (q log) = subst (IsPrefixOf (parts log)) (sym same) (b ∷ [], refl) in
      moved d m c parts batch acked d log m.count m.synced q b acked keeps.firm w v refl (λ k. refl) (omega arith) before grows keeps (prefix_refl keeps.firm)
      (submitted_sound d log keeps.sure parts keeps.firm keeps.sound q keeps.firm before grows (prefix_refl keeps.firm)
      (subst (λ part. IsLast keeps.firm (upto parts log) part (d.logs log).now) (sym same) (last_weaker keeps.firm (upto parts log) (parts log) (parts log ++ b ∷ []) (b ∷ [], refl) (d.logs log).now keeps.sound.last))
      (subst (AllByRecursion (IsLast keeps.firm (upto parts log) (spared (d.logs log).now (q log)))) (sym named) tt))
      keeps.acked_is fits

  -- the same is known of the log where a batch was submitted
  open_before : (b : Batch) (firm : List Batch) → IsOpen m.count m.synced firm (upto parts log) (parts log) (d.logs log) → IsOpen m.count m.synced firm (upto (at log (parts log ++ b ∷ []) parts) log) (parts log) (d.logs log)
  open_before b firm is =
      subst (λ l. IsOpen m.count m.synced firm l (parts log) (d.logs log)) (sym (upto_same (at log (parts log ++ b ∷ []) parts) parts log (λ k lt. at_other log (parts log ++ b ∷ []) parts k (omega (arith, lt))))) is

  pub submit_keeps : (b : Batch) (w : Writer) (c : Checkpointer) → Keeps (inside w c) → Keeps (happens (inside w c) (Submit b))
  submit_keeps b Ready c keeps = takes b Ready Appending c keeps keeps.writer.named (parts log, sym (at_here log (parts log ++ b ∷ []) parts), open_before b keeps.firm keeps.writer)
  submit_keeps b (Syncing n) c keeps =
      takes b (Syncing n) (Both n) c keeps keeps.writer.0.named ((parts log, sym (at_here log (parts log ++ b ∷ []) parts), open_before b keeps.firm keeps.writer.0), keeps.writer.1, keeps.writer.2)
  submit_keeps b w c keeps = keeps

  few : (firm before part : List Batch) → IsOpen m.count m.synced firm before part (d.logs log) → m.synced ≤ m.count
  few firm before part is = let le = marked_count m.count m.synced firm before part (d.logs log) is in let counted = is.counted in omega (arith, le, counted)

  pub sync_keeps : (w : Writer) (c : Checkpointer) → Keeps (inside w c) → Keeps (happens (inside w c) AskSync)
  sync_keeps Ready c keeps = waits d m c parts batch acked Ready (Syncing m.count) keeps (keeps.writer, few keeps.firm (upto parts log) (parts log) keeps.writer, omega arith)
  sync_keeps Appending c keeps = waits d m c parts batch acked Appending (Both m.count) keeps (keeps.writer, few keeps.firm (upto parts log) keeps.writer.0 keeps.writer.2, omega arith)
  sync_keeps w c keeps = keeps

  switched : (next : NextLog) (c : Checkpointer) → Keeps (inside Ready c) → Keeps (inside (switching Ready next) c)
  switched Absent c keeps = keeps
  switched Creating c keeps = keeps
  switched Recording c keeps = keeps
  switched Waiting c keeps = waits d m c parts batch acked Ready Closing keeps keeps.writer

  pub switch_keeps : (w : Writer) (c : Checkpointer) → Keeps (inside w c) → Keeps (happens (inside w c) AskSwitch)
  switch_keeps Ready c keeps = switched m.next c keeps
  switch_keeps w c keeps = keeps

  -- of an older log all is firm, and of the present one nothing is taken
  firm_rows : (n past : ℕ) (firm : List Batch) → IsPrefixOf (upto parts log) firm → (n < log) ⊎ ((n ≡ log) × (past ≡ 0)) → IsPrefixOf (first_of parts n past) firm
  firm_rows n past firm stands (inl lt) =
      prefix_trans (first_of parts n past) (upto parts (suc n)) firm (prefix_under (upto parts n) (take past (parts n)) (parts n) (prefix_take past (parts n)))
      (prefix_trans (upto parts (suc n)) (upto parts log) firm (upto_more parts (suc n) log (omega (arith, lt))) stands)
  firm_rows n past firm stands (inr e) =
      subst (λ i. IsPrefixOf (upto parts n ++ take i (parts n)) firm) (sym e.1) (subst (λ l. IsPrefixOf l firm) (sym (append-nil (upto parts n))) (subst (λ i. IsPrefixOf (upto parts i) firm) (sym e.0) stands))

  begun_keeps : (w : Writer) (n past : ℕ) (b : Bool) → (is_open w && is_later m.tried m.past n past && nat_le m.base n && is_in_older log n past) ≡ b → past ≤ length (parts n) → Keeps (inside w Idle) → Keeps (inside w (checkpointing Idle b n past))
  begun_keeps w n past true e size keeps =
      let three = and_parts (is_open w && is_later m.tried m.past n past && nat_le m.base n) (is_in_older log n past) e in
      let two = and_parts (is_open w && is_later m.tried m.past n past) (nat_le m.base n) three.0 in
      let place : (n < log) ⊎ ((n ≡ log) × (past ≡ 0)) =
      ⊎_elim (λ (lt : ltb n log ≡ true). inl (ltb-true n log lt))
      (λ (is : (eqb n log && eqb past 0) ≡ true). let both = and_parts (eqb n log) (eqb past 0) is in inr (eqb-true n log both.0, eqb-true past 0 both.1))
      (or_cases (ltb n log) (eqb n log && eqb past 0) three.1) in
      let le : n ≤ log = ⊎_elim (λ (lt : n < log). omega (arith, lt)) (λ (is : (n ≡ log) × (past ≡ 0)). let same = is.0 in omega (arith, same)) place in
      record {
        sure = keeps.sure;
        firm = keeps.firm;
        sound = keeps.sound;
        acked_is = keeps.acked_is;
        under = keeps.under;
        writer = keeps.writer;
        checkpointer = record { from = leb-true m.base n two.1; to = le; size = size; firmly = firm_rows n past keeps.firm keeps.sound.stands place };
      }
  begun_keeps w n past false e size keeps = keeps

  pub checkpoint_keeps : (n past : ℕ) (w : Writer) (c : Checkpointer) → Keeps (inside w c) → Keeps (happens (inside w c) (AskCheckpoint n past))
  checkpoint_keeps n past w Idle keeps =
      let most = min past (length (parts n)) in
      begun_keeps w n most (is_open w && is_later m.tried m.past n most && nat_le m.base n && is_in_older log n most) refl (omega arith) keeps
  checkpoint_keeps n past w c keeps = keeps
