-- Appends and syncs of the log keep what holds.
use Rattle.std.proofs.Common.{true, false, ◌≡◌, ℕ, ◌+◌, ◌≤◌, List, [], ◌∷◌, ◌++◌, append_assoc, length, take, refl, sym, ap, ◌∙◌, subst, arith}
use Rattle.std.specs.Prelude.{Option, Some}
use Rattle.std.specs.List.{AllByRecursion}
use Rattle.std.proofs.lemmas.List.{append-nil, take-append-le, length-append, length-take, take_at}
use Rattle.uc_folder.specs.declared.machine.Machine.{Machine}
use Rattle.uc_folder.specs.declared.phases.Writer.{Writer}
use Rattle.uc_folder.specs.declared.phases.Writer.TheVariants.{Ready, Appending, Mending, Syncing, Both, Spoiled}
use Rattle.uc_folder.specs.declared.phases.Checkpointer.{Checkpointer}
use Rattle.uc_folder.specs.Device.{Batch, Record, Whole, Torn, first_whole, are_whole, File, Entry, Device, is_cut, is_used, upto, appended, synced, changed, changed_name}
use Rattle.uc_folder.specs.Worlds.{World, IsPrefixOf, Outcome, Done, NotDone, PartDone, DoneUntold, Writes, happens}
use Rattle.uc_folder.proofs.Lists.{prefix_refl, prefix_trans, prefix_under}
use Rattle.uc_folder.proofs.Records.{first_append, first_prefix, whole_append, whole_length}
use Rattle.uc_folder.proofs.Sound.{Sound, IsThere, IsLast, spared}
use Rattle.uc_folder.proofs.Holding.{IsOpen, IsAppended, FitsWriter, Keeps, IsMendable}
use Rattle.uc_folder.proofs.Changes.{entry_sound, submitted_sound}
use Rattle.uc_folder.proofs.Writing.{world, inside, plain, none_lost, with_file, filed, last_of, here, here_before, take_more, most, synced_file, synced_is, synced_all, synced_first, synced_more, waits}

-- no more is on the device than the log has
pub marked_count : (count synced : ℕ) (firm before part : List Batch) (e : Entry) → IsOpen count synced firm before part e → synced ≤ length part
marked_count count synced firm before part e is =
    let p : IsPrefixOf (first_whole is.file.kept) part = subst (IsPrefixOf (first_whole is.file.kept)) is.all (first_prefix is.file.kept is.file.waiting) in
    let size = length-append (first_whole is.file.kept) p.0 in
    let all = ap length p.1 in
    let le = is.marked in
    omega (arith, size, all, le)

module _ (d : Device) (m : Machine) (c : Checkpointer) (parts : ℕ → List Batch) (batch : Batch) (acked : List Batch) where
  abbrev log : ℕ
  log = m.log

  abbrev part : List Batch
  part = parts m.log

  abbrev before : List Batch
  before = upto parts m.log

  abbrev inside' : Writer → World
  inside' w = inside d m c parts batch acked w

  abbrev file' : (File → File) → Device
  file' change = with_file d m c parts batch acked change

  -- ---- a batch

  abbrev IsAppended' : List Batch → Type 0
  IsAppended' firm = IsAppended m.count m.synced firm before part batch (d.logs log)

  abbrev record' : Record
  record' = Whole batch m.synced

  appended_all : (firm : List Batch) (is : IsAppended' firm) → first_whole (is.2.file.kept ++ (is.2.file.waiting ++ record' ∷ [])) ≡ part
  appended_all firm is =
      let f = is.2.file in
      ap first_whole (sym (append_assoc f.kept f.waiting (record' ∷ []))) ∙ (first_append (f.kept ++ f.waiting) (record' ∷ []) is.2.whole ∙ (ap (λ l. l ++ batch ∷ []) is.2.all ∙ is.1))

  appended_open : (firm : List Batch) → IsAppended' firm → IsOpen (m.count + 1) m.synced firm before part ((file' (appended record')).logs log)
  appended_open firm is =
      let f = is.2.file in
      let front = is.0 in
      let counted = is.2.counted in
      let size = length-append front (batch ∷ []) in
      let all = ap length is.1 in
      let few = marked_count m.count m.synced firm before front (d.logs log) is.2 in
      let first : take m.synced part ≡ take m.synced front = ap (take m.synced) (sym is.1) ∙ take-append-le m.synced front (batch ∷ []) few in
      record {
        file = appended record' f;
        now = here d m c parts batch acked (appended record') f is.2.now;
        named = here_before d m c parts batch acked (appended record') ∙ is.2.named;
        whole = ap are_whole (sym (append_assoc f.kept f.waiting (record' ∷ []))) ∙ whole_append (f.kept ++ f.waiting) (record' ∷ []) is.2.whole refl;
        all = appended_all firm is;
        fresh = is.2.fresh;
        lost = is.2.lost;
        counted = omega (arith, counted, size, all);
        marked = is.2.marked;
        told = subst (λ l. IsPrefixOf firm (before ++ l)) (sym first) is.2.told;
      }

  appends : (count : ℕ) (w v : Writer) (keeps : Keeps (inside' w)) → IsAppended' keeps.firm → FitsWriter (file' (appended record')) log count m.synced m.base keeps.firm before part batch v → Keeps (world (file' (appended record')) (record m { count = count; synced = m.synced }) v c parts batch acked)
  appends count w v keeps is fits =
      filed d m c parts batch acked count m.synced w v (appended record') is.2.file is.2.now is.2.named keeps
      (plain keeps.firm before part (appended record' is.2.file) is.2.lost (subst (λ l. IsPrefixOf l part) (sym (appended_all keeps.firm is)) (prefix_refl part)) (last_of d m c parts batch acked w is.2.file is.2.now keeps).1)
      (none_lost (appended record' is.2.file) is.2.lost) fits

  -- the rest that a failed append leaves may be cut off
  mendable : (firm : List Batch) (is : IsAppended' firm) (e : Entry) (g : File) (rest : List Record) → e.now ≡ Some g → e.before ≡ [] → g.suspect ≡ false → g.lost ≡ [] → g.kept ≡ is.2.file.kept → g.kept ++ g.waiting ≡ (is.2.file.kept ++ is.2.file.waiting) ++ rest →
      IsMendable m.count m.synced firm before is.0 e
  mendable firm is e g rest now named fresh lost kept all =
      let f = is.2.file in
      let whole = whole_length (f.kept ++ f.waiting) is.2.whole in
      let read = ap length is.2.all in
      let counted = is.2.counted in
      let size = length-append f.kept f.waiting in
      let same = ap length kept in
      let first : take m.count (g.kept ++ g.waiting) ≡ f.kept ++ f.waiting = ap (take m.count) all ∙ take_at (f.kept ++ f.waiting) rest m.count (omega (arith, whole, read, counted)) in
      let few = marked_count m.count m.synced firm before is.0 (d.logs log) is.2 in
      record {
        file = g;
        now = now;
        named = named;
        fresh = fresh;
        lost = lost;
        whole = ap are_whole first ∙ is.2.whole;
        all = ap first_whole first ∙ is.2.all;
        counted = counted;
        enough = omega (arith, same, size, whole, read, counted);
        marked = subst (λ l. m.synced ≤ length (first_whole l)) (sym kept) is.2.marked;
        few = omega (arith, few, counted);
        told = is.2.told;
      }

  torn_reads : (firm : List Batch) (is : IsAppended' firm) → first_whole (is.2.file.kept ++ (is.2.file.waiting ++ Torn ∷ [])) ≡ is.0
  torn_reads firm is =
      let f = is.2.file in
      ap first_whole (sym (append_assoc f.kept f.waiting (Torn ∷ []))) ∙ (first_append (f.kept ++ f.waiting) (Torn ∷ []) is.2.whole ∙ (append-nil (first_whole (f.kept ++ f.waiting)) ∙ is.2.all))

  -- the batch may be there, and isn't answered
  untold : (w v : Writer) (keeps : Keeps (inside' w)) (is : IsAppended' keeps.firm) → FitsWriter (file' (appended record')) log m.count m.synced m.base keeps.firm before part batch v → Keeps (world (file' (appended record')) m v c parts batch acked)
  untold w v keeps is fits = appends m.count w v keeps is fits

  untold_mends : (firm : List Batch) (is : IsAppended' firm) → FitsWriter (file' (appended record')) log m.count m.synced m.base firm before part batch Mending
  untold_mends firm is =
      let f = is.2.file in (
        is.0,
        is.1,
        mendable firm is ((file' (appended record')).logs log) (appended record' f) (record' ∷ []) (here d m c parts batch acked (appended record') f is.2.now) (here_before d m c parts batch acked (appended record') ∙ is.2.named) is.2.fresh is.2.lost refl
            (sym (append_assoc f.kept f.waiting (record' ∷ []))),
      )

  -- a part of it is there
  torn : (w v : Writer) (keeps : Keeps (inside' w)) (is : IsAppended' keeps.firm) → FitsWriter (file' (appended Torn)) log m.count m.synced m.base keeps.firm before part batch v → Keeps (world (file' (appended Torn)) m v c parts batch acked)
  torn w v keeps is fits =
      let f = is.2.file in
      filed d m c parts batch acked m.count m.synced w v (appended Torn) f is.2.now is.2.named keeps
      (plain keeps.firm before part (appended Torn f) is.2.lost (subst (λ l. IsPrefixOf l part) (sym (torn_reads keeps.firm is)) (batch ∷ [], is.1)) (last_of d m c parts batch acked w f is.2.now keeps).1)
      (none_lost (appended Torn f) is.2.lost) fits

  torn_mends : (firm : List Batch) (is : IsAppended' firm) → FitsWriter (file' (appended Torn)) log m.count m.synced m.base firm before part batch Mending
  torn_mends firm is =
      let f = is.2.file in (
        is.0,
        is.1,
        mendable firm is ((file' (appended Torn)).logs log) (appended Torn f) (Torn ∷ []) (here d m c parts batch acked (appended Torn) f is.2.now) (here_before d m c parts batch acked (appended Torn) ∙ is.2.named) is.2.fresh is.2.lost refl
            (sym (append_assoc f.kept f.waiting (Torn ∷ []))),
      )

  none_mends : (firm : List Batch) (is : IsAppended' firm) → FitsWriter d log m.count m.synced m.base firm before part batch Mending
  none_mends firm is = let f = is.2.file in (is.0, is.1, mendable firm is (d.logs log) f [] is.2.now is.2.named is.2.fresh is.2.lost refl (sym (append-nil (f.kept ++ f.waiting))))

  pub appending_keeps : (o : Outcome) → Keeps (inside' Appending) → Keeps (happens (inside' Appending) (Writes o))
  appending_keeps Done keeps = appends (m.count + 1) Appending Ready keeps keeps.writer (appended_open keeps.firm keeps.writer)
  appending_keeps NotDone keeps = waits d m c parts batch acked Appending Mending keeps (none_mends keeps.firm keeps.writer)
  appending_keeps PartDone keeps = torn Appending Mending keeps keeps.writer (torn_mends keeps.firm keeps.writer)
  appending_keeps DoneUntold keeps = untold Appending Mending keeps keeps.writer (untold_mends keeps.firm keeps.writer)

  pub both_keeps : (n : ℕ) (o : Outcome) → Keeps (inside' (Both n)) → Keeps (happens (inside' (Both n)) (Writes o))
  both_keeps n Done keeps = let le = keeps.writer.2 in appends (m.count + 1) (Both n) (Syncing n) keeps keeps.writer.0 (appended_open keeps.firm keeps.writer.0, keeps.writer.1, omega (arith, le))
  both_keeps n NotDone keeps = waits d m c parts batch acked (Both n) (Spoiled n) keeps (none_mends keeps.firm keeps.writer.0, keeps.writer.1, keeps.writer.2)
  both_keeps n PartDone keeps = torn (Both n) (Spoiled n) keeps keeps.writer.0 (torn_mends keeps.firm keeps.writer.0, keeps.writer.1, keeps.writer.2)
  both_keeps n DoneUntold keeps = untold (Both n) (Spoiled n) keeps keeps.writer.0 (untold_mends keeps.firm keeps.writer.0, keeps.writer.1, keeps.writer.2)

  -- ---- a sync

  module _ (n : ℕ) (own : List Batch) (firm : List Batch) (is : IsOpen m.count m.synced firm before own (d.logs log)) where
    abbrev f : File
    f = is.file

    abbrev g : File
    g = synced_file n f is.fresh

    pub synced_now : ((file' (synced n)).logs log).now ≡ Some g
    synced_now = here d m c parts batch acked (synced n) f is.now ∙ ap (λ x. Some x) (synced_is n f is.fresh)

    pub synced_reads : first_whole (g.kept ++ g.waiting) ≡ own
    synced_reads = ap first_whole (synced_all n f is.fresh) ∙ is.all

    pub synced_kept : first_whole g.kept ≡ take (most n f is.fresh) own
    synced_kept = synced_first n f is.fresh ∙ ap (take (most n f is.fresh)) is.all

    -- the first batches are on the device
    pub synced_enough : IsPrefixOf (take n own) (first_whole g.kept)
    synced_enough = subst (IsPrefixOf (take n own)) (sym synced_kept) (take_more n (most n f is.fresh) own (omega arith))

    abbrev pub synced_open : m.synced ≤ n → n ≤ m.count → IsOpen m.count n (before ++ take n own) before own ((file' (synced n)).logs log)
    synced_open from to =
        let counted = is.counted in
        let size = ap length synced_kept ∙ length-take (most n f is.fresh) own in
        record {
          file = g;
          now = synced_now;
          named = here_before d m c parts batch acked (synced n) ∙ is.named;
          whole = ap are_whole (synced_all n f is.fresh) ∙ is.whole;
          all = synced_reads;
          fresh = is.fresh;
          lost = is.lost;
          counted = counted;
          marked = omega (arith, counted, size, to);
          told = prefix_refl (before ++ take n own);
        }

    -- all that was firm is there, and all that was read
    synced_last : IsLast firm before part (d.logs log).now → IsPrefixOf own part → IsLast firm before part (Some (synced n f))
    synced_last last le =
        subst (λ x. IsLast firm before part (Some x)) (sym (synced_is n f is.fresh))
        (plain firm before part g is.lost (subst (λ l. IsPrefixOf l part) (sym synced_reads) le)
        (prefix_trans firm (before ++ first_whole f.kept) (before ++ first_whole g.kept) (subst (IsLast firm before part) is.now last).1
        (prefix_under before (first_whole f.kept) (first_whole g.kept) (synced_more n f is.fresh))))

    pub synced_sound : (sure : ℕ) → Sound d log sure parts firm → IsPrefixOf own part → Sound (file' (synced n)) log sure parts firm
    synced_sound sure sound le =
        entry_sound d log sure parts firm sound (changed (synced n) (d.logs log)) d.names sound.named
        (subst (IsLast firm before part) (sym (ap (changed_name (synced n)) is.now)) (synced_last sound.last le))
        (subst (AllByRecursion (IsLast firm before (spared (changed_name (synced n) (d.logs log).now) part))) (sym is.named) tt)
        (λ lt. (subst IsThere (sym (ap (changed_name (synced n)) is.now)) tt, (sound.begun lt).1))
        (subst (λ (o : Option File). is_cut o ≡ true → is_used o ≡ true) (sym (ap (changed_name (synced n)) is.now ∙ ap (λ x. Some x) (synced_is n f is.fresh))) (none_lost g is.lost))

    -- the first batches are firm now
    pub synced_firmly : (sure : ℕ) → Sound d log sure parts firm → IsPrefixOf own part → m.synced ≤ n → IsPrefixOf (take n own) part → Sound (file' (synced n)) log sure parts (before ++ take n own)
    synced_firmly sure sound le from in_part =
        submitted_sound (file' (synced n)) log sure parts firm (synced_sound sure sound le) parts (before ++ take n own) (λ k lt. refl) (prefix_refl part)
        (prefix_trans firm (before ++ take m.synced own) (before ++ take n own) is.told (prefix_under before (take m.synced own) (take n own) (take_more m.synced n own from)))
        (subst (IsLast (before ++ take n own) before part) (sym synced_now)
        (plain (before ++ take n own) before part g is.lost (subst (λ l. IsPrefixOf l part) (sym synced_reads) le) (prefix_under before (take n own) (first_whole g.kept) synced_enough)))
        (subst (AllByRecursion (IsLast (before ++ take n own) before (spared ((file' (synced n)).logs log).now part))) (sym (here_before d m c parts batch acked (synced n) ∙ is.named)) tt)

    pub synced_grows : m.synced ≤ n → IsPrefixOf firm (before ++ take n own)
    synced_grows from = prefix_trans firm (before ++ take m.synced own) (before ++ take n own) is.told (prefix_under before (take m.synced own) (take n own) (take_more m.synced n own from))
