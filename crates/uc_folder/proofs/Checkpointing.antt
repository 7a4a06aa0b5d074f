-- The checkpointer's steps keep what holds.
use Rattle.std.proofs.Common.{◌≡◌, ℕ, ◌+◌, ◌<◌, ◌≤◌, Bool, true, false, cond, ltb, inl, inr, ⊎_elim, List, [], take, refl, sym, ap, ◌∙◌, subst, arith}
use Rattle.std.specs.Prelude.{Some, None}
use Rattle.std.proofs.lemmas.List.{length-take-le}
use Rattle.std.proofs.lemmas.Bool.{ltb-true}
use Rattle.uc_folder.specs.declared.machine.Machine.{Machine}
use Rattle.uc_folder.specs.declared.phases.Writer.{Writer}
use Rattle.uc_folder.specs.declared.phases.Writer.TheVariants.{Making, Founding, Naming, Clearing, SettingAside, Copying, SealingCopy, Replacing, Settling, Ready, Appending, Mending, Syncing, Both, Spoiled, Closing, Failed}
use Rattle.uc_folder.specs.declared.phases.Checkpointer.{Checkpointer}
use Rattle.uc_folder.specs.declared.phases.Checkpointer.TheVariants.{Idle, Writing, Sealing, Renaming, Fixing, RemovingLog, RemovingBase}
use Rattle.uc_folder.specs.Device.{Batch, File, Entry, Device, first_number, content, is_there, sealed, rows_of, stands_for, name_log, name_base, sync_names, write_partial, upto}
use Rattle.uc_folder.specs.Steps.{removing_from, removing_after}
use Rattle.uc_folder.specs.Worlds.{World, IsPrefixOf, first_of, Outcome, Done, NotDone, PartDone, DoneUntold, Checkpoints, happens}
use Rattle.uc_folder.proofs.Lists.{prefix_take, at_all, at_here, at_other}
use Rattle.uc_folder.proofs.Records.{rows_first, rows_whole}
use Rattle.uc_folder.proofs.Sound.{IsWhole, IsThere, Sound}
use Rattle.uc_folder.proofs.Holding.{Stands, IsRead, IsNew, IsOpen, IsOpening, IfSealed, IsAppended, IsSpoiled, FitsWriter, IsCopy, FitsCheckpointer, Keeps}
use Rattle.uc_folder.proofs.Opening.{there_true}
use Rattle.uc_folder.proofs.Changes.{named_sound, raised_sound, based_sound, aside_sound, log_removed_sound, base_removed_sound}
use Rattle.uc_folder.proofs.Writing.{world}

-- ---- the writer, while the checkpointer does something

open_stays : (count synced : ℕ) (firm before part : List Batch) (a b : Entry) → b.now ≡ a.now → (a.before ≡ [] → b.before ≡ []) → IsOpen count synced firm before part a → IsOpen count synced firm before part b
open_stays count synced firm before part a b same named is =
    record { file = is.file; now = same ∙ is.now; named = named is.named; whole = is.whole; all = is.all; fresh = is.fresh; lost = is.lost; counted = is.counted; marked = is.marked; told = is.told }

new_stays : (a b : Entry) → b.now ≡ a.now → IsNew a.now → IsNew b.now
new_stays a b same is = record { file = is.file; now = same ∙ is.now; kept = is.kept; waiting = is.waiting; lost = is.lost; fresh = is.fresh }

opening_stays : (count : ℕ) (firm before part : List Batch) (a b : Entry) → b.now ≡ a.now → (a.before ≡ [] → b.before ≡ []) → IsOpening count firm before part a → IsOpening count firm before part b
opening_stays count firm before part a b same named is = record { read = subst (IsRead count part) (sym same) is.read; named = named is.named; few = is.few; firmly = is.firmly }

-- nothing changes for it: names that are there stay
pub record Spares (d e : Device) (log base new : ℕ) : Type 0 where
  pub same : (e.logs log).now ≡ (d.logs log).now
  pub named : (d.logs log).before ≡ [] → (e.logs log).before ≡ []
  pub copy : e.copy ≡ d.copy
  pub stands : Stands d base → Stands e new
  pub below : base ≤ log → new ≤ log

module _ (d e : Device) (log count synced base new : ℕ) (firm before part : List Batch) (batch : Batch) (s : Spares d e log base new) where
  here : (e.logs log).now ≡ (d.logs log).now
  here = s.same

  opened : IsOpen count synced firm before part (d.logs log) → IsOpen count synced firm before part (e.logs log)
  opened = open_stays count synced firm before part (d.logs log) (e.logs log) here s.named

  opening : IsOpening count firm before part (d.logs log) → IsOpening count firm before part (e.logs log)
  opening = opening_stays count firm before part (d.logs log) (e.logs log) here s.named

  appended : IsAppended count synced firm before part batch (d.logs log) → IsAppended count synced firm before part batch (e.logs log)
  appended is = (is.0, is.1, open_stays count synced firm before is.0 (d.logs log) (e.logs log) here s.named is.2)

  spoiled : IsSpoiled count synced firm before part batch (d.logs log) → IsSpoiled count synced firm before part batch (e.logs log)
  spoiled fits =
      let is = fits.2 in (
        fits.0,
        fits.1,
        record {
          file = is.file;
          now = here ∙ is.now;
          named = s.named is.named;
          fresh = is.fresh;
          lost = is.lost;
          whole = is.whole;
          all = is.all;
          counted = is.counted;
          enough = is.enough;
          marked = is.marked;
          few = is.few;
          told = is.told;
        },
      )

  pub writer_stays : (w : Writer) → FitsWriter d log count synced base firm before part batch w → FitsWriter e log count synced new firm before part batch w
  writer_stays Making fits = (here ∙ fits.0, fits.1, fits.2, fits.3, s.stands fits.4, s.below fits.5)
  writer_stays Founding fits = (new_stays (d.logs log) (e.logs log) here fits.0, fits.1, fits.2, fits.3)
  writer_stays (Naming top sealed) fits = absurd fits
  writer_stays (Clearing k top sealed) fits = (opening fits.0, fits.1, subst (IfSealed sealed count part) (sym here) fits.2)
  writer_stays SettingAside fits = opening fits
  writer_stays Copying fits = opening fits
  writer_stays SealingCopy fits = (opening fits.0, subst (IsCopy (take count part)) (sym s.copy) fits.1)
  writer_stays Replacing fits = (opening fits.0, subst (IsWhole (take count part)) (sym s.copy) fits.1, ap (λ (f : File). f.suspect) s.copy ∙ fits.2)
  writer_stays Settling fits = record { file = fits.file; now = here ∙ fits.now; is = fits.is; fresh = fits.fresh; few = fits.few; firmly = fits.firmly }
  writer_stays Ready fits = opened fits
  writer_stays Appending fits = appended fits
  writer_stays Mending fits = spoiled fits
  writer_stays (Syncing n) fits = (opened fits.0, fits.1, fits.2)
  writer_stays (Both n) fits = (appended fits.0, fits.1, fits.2)
  writer_stays (Spoiled n) fits = (spoiled fits.0, fits.1, fits.2)
  writer_stays Closing fits = opened fits
  writer_stays Failed fits = subst (IsPrefixOf (take count part)) (sym (ap content here)) fits

-- ---- its steps

module _ (d : Device) (m : Machine) (w : Writer) (parts : ℕ → List Batch) (batch : Batch) (acked : List Batch) where
  abbrev log : ℕ
  log = m.log

  abbrev inside : Checkpointer → World
  inside c = world d m w c parts batch acked

  idles : (c : Checkpointer) → Keeps (inside c) → Keeps (inside Idle)
  idles c keeps = record { sure = keeps.sure; firm = keeps.firm; sound = keeps.sound; acked_is = keeps.acked_is; under = keeps.under; writer = keeps.writer; checkpointer = tt }

  -- a step to another folder
  steps : (e : Device) (new least tried past sure : ℕ) (c v : Checkpointer) → Spares d e log m.base new → (keeps : Keeps (inside c)) → Sound e log sure parts keeps.firm → sure ≤ new → FitsCheckpointer e log new sure parts keeps.firm v →
      Keeps (world e (record m { base = new; least = least; tried = tried; past = past }) w v parts batch acked)
  steps e new least tried past sure c v spares keeps sound under fits = record {
    sure = sure;
    firm = keeps.firm;
    sound = sound;
    acked_is = keeps.acked_is;
    under = under;
    writer = writer_stays d e log m.count m.synced m.base new keeps.firm (upto parts log) (parts log) batch spares w keeps.writer;
    checkpointer = fits;
  }

  partial_steps : (p : File) (c v : Checkpointer) → (keeps : Keeps (inside c)) → FitsCheckpointer (write_partial p d) log m.base keeps.sure parts keeps.firm v → Keeps (world (write_partial p d) m w v parts batch acked)
  partial_steps p c v keeps fits =
      steps (write_partial p d) m.base m.least m.tried m.past keeps.sure c v (record { same = refl; named = λ e. e; copy = refl; stands = λ s. s; below = λ le. le }) keeps
      (aside_sound d log keeps.sure parts keeps.firm keeps.sound d.copy p) keeps.under fits

  abbrev base_file : ℕ → ℕ → File
  base_file n past = record { kept = []; waiting = rows_of (first_of parts n past); lost = []; suspect = false; past = past }

  writing_keeps : (n past : ℕ) (o : Outcome) → Keeps (inside (Writing n past)) → Keeps (happens (inside (Writing n past)) (Checkpoints o))
  writing_keeps n past Done keeps =
      partial_steps (base_file n past) (Writing n past) (Sealing n past) keeps
      (keeps.checkpointer, record { whole = rows_whole (first_of parts n past); all = rows_first (first_of parts n past); fresh = refl; lost = refl }, refl)
  writing_keeps n past NotDone keeps = idles (Writing n past) keeps
  writing_keeps n past PartDone keeps = idles (Writing n past) keeps
  writing_keeps n past DoneUntold keeps = partial_steps (base_file n past) (Writing n past) Idle keeps tt

  sealing_keeps : (n past : ℕ) (o : Outcome) → Keeps (inside (Sealing n past)) → Keeps (happens (inside (Sealing n past)) (Checkpoints o))
  sealing_keeps n past Done keeps =
      let is = keeps.checkpointer in
      partial_steps (sealed d.partial) (Sealing n past) (Renaming n past) keeps (is.0, record { kept = is.1.all; whole = is.1.whole; waiting = refl; lost = is.1.lost }, is.2)
  sealing_keeps n past NotDone keeps = idles (Sealing n past) keeps
  sealing_keeps n past PartDone keeps = idles (Sealing n past) keeps
  sealing_keeps n past DoneUntold keeps = partial_steps (sealed d.partial) (Sealing n past) Idle keeps tt

  -- the base has its name, or may have it
  tries : (n past : ℕ) (c : Checkpointer) → (keeps : Keeps (inside c)) → Keeps (world d (record m { tried = n; past = past }) w Idle parts batch acked)
  tries n past c keeps = record { sure = keeps.sure; firm = keeps.firm; sound = keeps.sound; acked_is = keeps.acked_is; under = keeps.under; writer = keeps.writer; checkpointer = tt }

  renamed : (n past : ℕ) (v : Checkpointer) (keeps : Keeps (inside (Renaming n past))) → FitsCheckpointer (name_base n (Some d.partial) d) log m.base keeps.sure parts keeps.firm v → Keeps (world (name_base n (Some d.partial) d) (record m { tried = n; past = past }) w v parts batch acked)
  renamed n past v keeps fits =
      let is = keeps.checkpointer in
      let size = length-take-le past (parts n) is.0.size in
      steps (name_base n (Some d.partial) d) m.base m.least n past keeps.sure (Renaming n past) v
      (record {
        same = refl;
        named = λ e. e;
        copy = refl;
        stands = λ s. ⊎_elim (λ (e : m.base ≡ first_number). inl e) (λ (is : is_there (d.bases m.base).now ≡ true). inr (there m.base is)) s;
        below = λ le. le;
      })
      keeps
      (based_sound d log keeps.sure parts keeps.firm keeps.sound n is.0.to (record { front = take past (parts n); file = is.1; past = is.2 ∙ sym size; part = prefix_take past (parts n); firm = is.0.firmly }))
      keeps.under fits
    where
      there : (k : ℕ) → is_there (d.bases k).now ≡ true → is_there ((name_base n (Some d.partial) d).bases k).now ≡ true
      there k is = at_all (λ i (x : Entry). is_there x.now ≡ true) n (stands_for (Some d.partial) (d.bases n)) d.bases k (λ e. refl) (λ ne. is)

  renaming_keeps : (n past : ℕ) (o : Outcome) → Keeps (inside (Renaming n past)) → Keeps (happens (inside (Renaming n past)) (Checkpoints o))
  renaming_keeps n past Done keeps =
      renamed n past (Fixing n past) keeps (keeps.checkpointer.0, subst IsThere (sym (ap (λ (e : Entry). e.now) (at_here n (stands_for (Some d.partial) (d.bases n)) d.bases))) tt)
  renaming_keeps n past NotDone keeps = tries n past (Renaming n past) keeps
  renaming_keeps n past PartDone keeps = tries n past (Renaming n past) keeps
  renaming_keeps n past DoneUntold keeps = renamed n past Idle keeps tt

  names_spare : (new : ℕ) → (Stands d m.base → Stands d new) → (m.base ≤ log → new ≤ log) → Spares d (sync_names d) log m.base new
  names_spare new stands below = record { same = refl; named = λ e. refl; copy = refl; stands = stands; below = below }

  -- all that is removed is below the newest base
  removes : (e : Device) (least base sure : ℕ) (firm : List Batch) → sure ≡ base → FitsCheckpointer e log base sure parts firm (removing_from least base)
  removes e least base sure firm same = by_test (ltb least base) refl
    where
      by_test : (b : Bool) → ltb least base ≡ b → FitsCheckpointer e log base sure parts firm (cond b (RemovingLog least) Idle)
      by_test true lt = (same, ltb-true least base lt)
      by_test false lt = tt

  fixing_keeps : (n past : ℕ) (o : Outcome) → Keeps (inside (Fixing n past)) → Keeps (happens (inside (Fixing n past)) (Checkpoints o))
  fixing_keeps n past Done keeps =
      let is = keeps.checkpointer in
      let le = is.0.from in
      let under = keeps.under in
      let there : Stands d n = inr (there_true (d.bases n).now is.1) in
      steps (sync_names d) n m.least m.tried m.past n (Fixing n past) (removing_from m.least n) (names_spare n (λ s. there) (λ l. is.0.to)) keeps
      (raised_sound (sync_names d) log keeps.sure parts keeps.firm (named_sound d log keeps.sure parts keeps.firm keeps.sound) n (omega (arith, le, under)) is.0.to (inr (is.1, tt)))
      (omega arith) (removes (sync_names d) m.least n n keeps.firm refl)
  fixing_keeps n past NotDone keeps = idles (Fixing n past) keeps
  fixing_keeps n past PartDone keeps = idles (Fixing n past) keeps
  fixing_keeps n past DoneUntold keeps =
      steps (sync_names d) m.base m.least m.tried m.past keeps.sure (Fixing n past) Idle (names_spare m.base (λ s. s) (λ l. l)) keeps (named_sound d log keeps.sure parts keeps.firm keeps.sound) keeps.under tt

  -- ---- removals

  log_removed : (k : ℕ) (v : Checkpointer) (keeps : Keeps (inside (RemovingLog k))) → FitsCheckpointer (name_log k None d) log m.base keeps.sure parts keeps.firm v → Keeps (world (name_log k None d) m w v parts batch acked)
  log_removed k v keeps fits =
      let same : keeps.sure ≡ m.base = keeps.checkpointer.0 in
      let below = keeps.checkpointer.1 in
      let reached = keeps.sound.reached in
      let lt : k < keeps.sure = omega (arith, same, below) in
      steps (name_log k None d) m.base m.least m.tried m.past keeps.sure (RemovingLog k) v
      (record {
        same = ap (λ (e : Entry). e.now) (at_other k (stands_for None (d.logs k)) d.logs log (omega (arith, lt, reached)));
        named = λ e. ap (λ (e : Entry). e.before) (at_other k (stands_for None (d.logs k)) d.logs log (omega (arith, lt, reached))) ∙ e;
        copy = refl;
        stands = λ s. s;
        below = λ l. l;
      })
      keeps (log_removed_sound d log keeps.sure parts keeps.firm keeps.sound k lt) keeps.under fits

  removing_log_keeps : (k : ℕ) (o : Outcome) → Keeps (inside (RemovingLog k)) → Keeps (happens (inside (RemovingLog k)) (Checkpoints o))
  removing_log_keeps k Done keeps = log_removed k (RemovingBase k) keeps keeps.checkpointer
  removing_log_keeps k NotDone keeps = idles (RemovingLog k) keeps
  removing_log_keeps k PartDone keeps = idles (RemovingLog k) keeps
  removing_log_keeps k DoneUntold keeps = log_removed k Idle keeps tt

  base_removed : (k least : ℕ) (v : Checkpointer) (keeps : Keeps (inside (RemovingBase k))) → FitsCheckpointer (name_base k None d) log m.base keeps.sure parts keeps.firm v → Keeps (world (name_base k None d) (record m { least = least }) w v parts batch acked)
  base_removed k least v keeps fits =
      let same : keeps.sure ≡ m.base = keeps.checkpointer.0 in
      let below = keeps.checkpointer.1 in
      let lt : k < keeps.sure = omega (arith, same, below) in
      steps (name_base k None d) m.base least m.tried m.past keeps.sure (RemovingBase k) v
      (record {
        same = refl;
        named = λ e. e;
        copy = refl;
        stands = λ s. ⊎_elim (λ (e : m.base ≡ first_number). inl e)
            (λ (is : is_there (d.bases m.base).now ≡ true). inr (subst (λ (x : Entry). is_there x.now ≡ true) (sym (at_other k (stands_for None (d.bases k)) d.bases m.base (omega (arith, below)))) is)) s;
        below = λ l. l;
      })
      keeps (base_removed_sound d log keeps.sure parts keeps.firm keeps.sound k lt) keeps.under fits

  next_removed : (k sure : ℕ) (firm : List Batch) → sure ≡ m.base → FitsCheckpointer (name_base k None d) log m.base sure parts firm (removing_after k m.base)
  next_removed k sure firm same = by_test (ltb k m.base)
    where
      by_test : (b : Bool) → FitsCheckpointer (name_base k None d) log m.base sure parts firm (cond b (removing_from (k + 1) m.base) Idle)
      by_test true = removes (name_base k None d) (k + 1) m.base sure firm same
      by_test false = tt

  removing_base_keeps : (k : ℕ) (o : Outcome) → Keeps (inside (RemovingBase k)) → Keeps (happens (inside (RemovingBase k)) (Checkpoints o))
  removing_base_keeps k Done keeps = base_removed k (cond (ltb k m.base) (k + 1) m.least) (removing_after k m.base) keeps (next_removed k keeps.sure keeps.firm keeps.checkpointer.0)
  removing_base_keeps k NotDone keeps = idles (RemovingBase k) keeps
  removing_base_keeps k PartDone keeps = idles (RemovingBase k) keeps
  removing_base_keeps k DoneUntold keeps = base_removed k m.least Idle keeps tt

  idle_keeps : (o : Outcome) → Keeps (inside Idle) → Keeps (happens (inside Idle) (Checkpoints o))
  idle_keeps Done keeps = keeps
  idle_keeps NotDone keeps = keeps
  idle_keeps PartDone keeps = keeps
  idle_keeps DoneUntold keeps = keeps

  pub checkpoints_keep : (c : Checkpointer) (o : Outcome) → Keeps (inside c) → Keeps (happens (inside c) (Checkpoints o))
  checkpoints_keep Idle o keeps = idle_keeps o keeps
  checkpoints_keep (Writing n past) o keeps = writing_keeps n past o keeps
  checkpoints_keep (Sealing n past) o keeps = sealing_keeps n past o keeps
  checkpoints_keep (Renaming n past) o keeps = renaming_keeps n past o keeps
  checkpoints_keep (Fixing n past) o keeps = fixing_keeps n past o keeps
  checkpoints_keep (RemovingLog k) o keeps = removing_log_keeps k o keeps
  checkpoints_keep (RemovingBase k) o keeps = removing_base_keeps k o keeps
