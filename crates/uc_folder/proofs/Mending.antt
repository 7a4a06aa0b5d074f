-- Cutting off the rest of a failed append keeps the invariant, and so does a sync during which it failed.
use Rattle.std.proofs.Common.{◌≡◌, ℕ, ◌<◌, ◌≤◌, Bool, true, false, cond, not, eqb, ◌||◌, ⊎_elim, List, [], ◌∷◌, ◌++◌, length, take, drop, refl, sym, ap, ◌∙◌, subst, arith}
use Rattle.std.specs.Prelude.{Option, Some, max}
use Rattle.std.specs.List.{AllByRecursion}
use Rattle.std.proofs.lemmas.Bool.{cases_lt, eqb-false}
use Rattle.std.proofs.lemmas.List.{append-nil, take-append-le, length-append, length-take, length-take-le}
use Rattle.uc_folder.specs.declared.machine.Machine.{Machine}
use Rattle.uc_folder.specs.declared.phases.Writer.{Writer}
use Rattle.uc_folder.specs.declared.phases.Writer.TheVariants.{Mending, Spoiled, Failed}
use Rattle.uc_folder.specs.declared.phases.Checkpointer.{Checkpointer}
use Rattle.uc_folder.specs.Device.{Batch, Record, first_whole, are_whole, File, Device, content, is_cut, is_used, is_empty, half_cut, upto, at, cut, synced, suspected, changed, changed_name}
use Rattle.uc_folder.specs.Worlds.{World, IsPrefixOf, first_of, Outcome, Done, NotDone, PartDone, DoneUntold, Writes, Syncs, happens}
use Rattle.uc_folder.proofs.Lists.{prefix_refl, prefix_trans, prefix_under, prefix_take, prefix_cancel, upto_same, at_here, at_other}
use Rattle.uc_folder.proofs.Records.{first_take}
use Rattle.uc_folder.proofs.Sound.{Sound, IsThere, IsLast, spared}
use Rattle.uc_folder.proofs.Holding.{IsOpen, IsMendable, Attempt, Keeps}
use Rattle.uc_folder.proofs.Opening.{plain_last}
use Rattle.uc_folder.proofs.Changes.{entry_sound, submitted_sound, shrunk_sound}
use Rattle.uc_folder.proofs.Writing.{world, inside, plain, none_lost, taken_parts, all_parts, with_file, filed, moved, stepped, last_of, here, here_before, checkpointer_moves, answered_in, take_counted, take_more, take_twice, most, synced_file, synced_is, synced_all, synced_first, synced_more}

-- a base that is under way has nothing of what isn't firm
pub attempt_shrinks : (log base : ℕ) (p q : ℕ → List Batch) (firm rest : List Batch) (n past : ℕ) → ((k : ℕ) → k < log → q k ≡ p k) → q log ++ rest ≡ p log → IsPrefixOf firm (upto p log ++ q log) → Attempt log base p firm n past →
    Attempt log base q firm n past × (first_of p n past ≡ first_of q n past)
attempt_shrinks log base p q firm rest n past same split all is =
    let to = is.to in
    let before : upto p n ≡ upto q n = sym (upto_same q p n (λ k lt. same k (omega (arith, lt, to)))) in
    let here : (past ≤ length (q n)) × (take past (p n) ≡ take past (q n)) =
    ⊎_elim
    (λ (lt : n < log). (subst (λ l. past ≤ length l) (sym (same n lt)) is.size, ap (take past) (sym (same n lt))))
    (λ (ge : log ≤ n).
    let e : log ≡ n = omega (arith, to, ge) in
    subst (λ i. (past ≤ length (q i)) × (take past (p i) ≡ take past (q i))) e
    (let size : past ≤ length (p log) = subst (λ i. past ≤ length (p i)) (sym e) is.size in
    let firmly : IsPrefixOf (first_of p log past) firm = subst (λ i. IsPrefixOf (first_of p i past) firm) (sym e) is.firmly in
    let bit = prefix_cancel (upto p log) (take past (p log)) (q log) (prefix_trans (first_of p log past) firm (upto p log ++ q log) firmly all) in
    let most = length-take-le past (p log) size in
    let sum = length-append (take past (p log)) bit.0 in
    let whole = ap length bit.1 in
    let few : past ≤ length (q log) = omega (arith, most, sum, whole) in
    (few, ap (take past) (sym split) ∙ take-append-le past (q log) rest few)))
    (cases_lt n log) in
    let rows : first_of p n past ≡ first_of q n past = ap (λ l. l ++ take past (p n)) before ∙ ap (λ l. upto q n ++ l) here.1 in
    (record { from = is.from; to = to; size = here.0; firmly = subst (λ l. IsPrefixOf l firm) rows is.firmly }, rows)

module _ (d : Device) (m : Machine) (c : Checkpointer) (parts : ℕ → List Batch) (batch : Batch) (acked : List Batch) where
  abbrev log : ℕ
  log = m.log

  abbrev part : List Batch
  part = parts m.log

  abbrev before : List Batch
  before = upto parts m.log

  abbrev inside' : Writer → World
  inside' w = inside d m c parts batch acked w

  abbrev file' : (File → File) → Device
  file' change = with_file d m c parts batch acked change

  module _ (firm front : List Batch) (split : front ++ batch ∷ [] ≡ part) (is : IsMendable m.count m.synced firm before front (d.logs log)) where
    abbrev f : File
    f = is.file

    abbrev records : List Record
    records = f.kept ++ f.waiting

    abbrev g : File
    g = record { kept = take (most m.count f is.fresh) records; waiting = []; lost = []; suspect = f.suspect; past = f.past }

    cut_is : cut m.count f ≡ g
    cut_is = ap (λ (b : Bool). cond b f g) is.fresh

    kept_is : g.kept ≡ take m.count records
    kept_is = let le = is.enough in ap (λ i. take i records) (let e : most m.count f is.fresh ≡ m.count = omega (arith, le) in e)

    reads : first_whole g.kept ≡ front
    reads = ap first_whole kept_is ∙ is.all

    all_reads : first_whole (g.kept ++ []) ≡ front
    all_reads = ap first_whole (append-nil g.kept) ∙ reads

    first : take m.count part ≡ front
    first = let counted = is.counted in ap (take m.count) (sym split) ∙ (take-append-le m.count front (batch ∷ []) (omega (arith, counted)) ∙ take_counted m.count front counted)

    now_is : ((file' (cut m.count)).logs log).now ≡ Some g
    now_is = here d m c parts batch acked (cut m.count) f is.now ∙ ap (λ x. Some x) cut_is

    -- all that is firm is there
    firmly : IsPrefixOf firm (before ++ front)
    firmly = prefix_trans firm (before ++ take m.synced front) (before ++ front) is.told (prefix_under before (take m.synced front) front (prefix_take m.synced front))

    cut_last : (own : List Batch) → IsPrefixOf front own → IsLast firm before own (Some (cut m.count f))
    cut_last own le =
        subst (λ x. IsLast firm before own (Some x)) (sym cut_is)
        (plain firm before own g refl (subst (λ l. IsPrefixOf l own) (sym all_reads) le) (subst (λ l. IsPrefixOf firm (before ++ l)) (sym reads) firmly))

    -- a cut of which only the sync fails, by whether it leaves no record
    abbrev half : Bool → File
    half b =
        cond b (suspected g) (record f {
          waiting = drop (length f.kept) (take (max m.count (length f.kept)) records);
          lost = drop (max m.count (length f.kept)) records;
          suspect = true;
        })

    half_is : half_cut m.count f ≡ half (eqb m.count 0)
    half_is = ap (λ (t : Bool). cond (t || eqb m.count 0) (suspected (cut m.count f)) (half false)) is.fresh ∙ ap (λ x. cond (eqb m.count 0) (suspected x) (half false)) cut_is

    most_is : max m.count (length f.kept) ≡ m.count
    most_is = let le = is.enough in omega (arith, le)

    half_kept : f.kept ++ drop (length f.kept) (take (max m.count (length f.kept)) records) ≡ take m.count records
    half_kept = taken_parts (max m.count (length f.kept)) f.kept f.waiting (omega arith) ∙ ap (λ i. take i records) most_is

    half_all : f.kept ++ (drop (length f.kept) (take (max m.count (length f.kept)) records) ++ drop (max m.count (length f.kept)) records) ≡ records
    half_all = all_parts (max m.count (length f.kept)) f.kept f.waiting (omega arith)

    half_reads : content (Some (half_cut m.count f)) ≡ front
    half_reads = ap (λ x. content (Some x)) half_is ∙ by_test (eqb m.count 0)
      where
        by_test : (b : Bool) → content (Some (half b)) ≡ front
        by_test true = all_reads
        by_test false = ap first_whole half_kept ∙ is.all

    half_last : IsLast firm before part (Some f) → IsLast firm before part (Some (half_cut m.count f))
    half_last last = subst (λ x. IsLast firm before part (Some x)) (sym half_is) (by_test (eqb m.count 0))
      where
        by_test : (b : Bool) → IsLast firm before part (Some (half b))
        by_test true = subst (λ x. IsLast firm before part (Some x)) cut_is (cut_last part (batch ∷ [], split))
        by_test false = (subst (λ l. IsPrefixOf (first_whole l) part) (sym half_all) (subst (λ l. IsPrefixOf l part) (plain_last f is.lost) last.0), last.1)

    half_used : is_cut (Some (half_cut m.count f)) ≡ true → is_used (Some (half_cut m.count f)) ≡ true
    half_used = subst (λ x. is_cut (Some x) ≡ true → is_used (Some x) ≡ true) (sym half_is) (by_test (eqb m.count 0) refl)
      where
        used : (xs : List Batch) → (length xs ≡ 0 → ⊥) → not (is_empty xs) ≡ true
        used [] ne = absurd (ne refl)
        used (x ∷ xs) ne = refl

        by_test : (b : Bool) → eqb m.count 0 ≡ b → is_cut (Some (half b)) ≡ true → is_used (Some (half b)) ≡ true
        by_test true e = none_lost (suspected g) refl
        by_test false e = λ c.
            let size = ap length (ap first_whole half_kept ∙ is.all) in
            let counted = is.counted in
            let ne : m.count ≡ 0 → ⊥ = eqb-false m.count 0 e in
            used (first_whole (f.kept ++ drop (length f.kept) (take (max m.count (length f.kept)) records))) (λ z. ne (omega (arith, z, size, counted)))

    cut_sound : (sure : ℕ) → Sound d log sure parts firm → Sound (file' (cut m.count)) log sure parts firm
    cut_sound sure sound =
        entry_sound d log sure parts firm sound (changed (cut m.count) (d.logs log)) d.names sound.named
        (subst (IsLast firm before part) (sym (ap (changed_name (cut m.count)) is.now)) (cut_last part (batch ∷ [], split)))
        (subst (AllByRecursion (IsLast firm before (spared (changed_name (cut m.count) (d.logs log).now) part))) (sym is.named) tt)
        (λ lt. (subst IsThere (sym (ap (changed_name (cut m.count)) is.now)) tt, (sound.begun lt).1))
        (subst (λ (o : Option File). is_cut o ≡ true → is_used o ≡ true) (sym (ap (changed_name (cut m.count)) is.now ∙ ap (λ x. Some x) cut_is)) (none_lost g refl))

    cut_answered : IsPrefixOf (take m.count part) (content ((file' (cut m.count)).logs log).now)
    cut_answered = subst (λ l. IsPrefixOf l (content ((file' (cut m.count)).logs log).now)) (sym first) (subst (IsPrefixOf front) (sym (ap content now_is ∙ all_reads)) (prefix_refl front))

    -- the log may be appended to again
    abbrev q : ℕ → List Batch
    q = at m.log (take m.count (parts m.log)) parts

    q_is : q log ≡ front
    q_is = at_here log (take m.count part) parts ∙ first

    q_before : upto q log ≡ before
    q_before = upto_same q parts log (λ k lt. at_other log (take m.count part) parts k (omega (arith, lt)))

    mended : IsOpen m.count m.synced firm (upto q log) (q log) ((file' (cut m.count)).logs log)
    mended =
        let size = ap length reads in
        let few = is.few in
        let counted = is.counted in
        record {
          file = g;
          now = now_is;
          named = here_before d m c parts batch acked (cut m.count) ∙ is.named;
          whole = ap are_whole (append-nil g.kept ∙ kept_is) ∙ is.whole;
          all = all_reads ∙ sym q_is;
          fresh = is.fresh;
          lost = refl;
          counted = counted ∙ ap length (sym q_is);
          marked = omega (arith, few, counted, size);
          told = subst (λ l. IsPrefixOf firm (l ++ take m.synced (q log))) (sym q_before) (subst (λ l. IsPrefixOf firm (before ++ take m.synced l)) (sym q_is) is.told);
        }

    mended_sound : (sure : ℕ) → Sound d log sure parts firm → Sound (file' (cut m.count)) log sure q firm
    mended_sound sure sound =
        shrunk_sound (file' (cut m.count)) log sure parts firm (cut_sound sure sound) q (λ k lt. at_other log (take m.count part) parts k (omega (arith, lt)))
        (subst (λ l. IsPrefixOf firm (before ++ l)) (sym q_is) firmly)
        (subst (IsLast firm before (q log)) (sym (here d m c parts batch acked (cut m.count) f is.now)) (cut_last (q log) (subst (IsPrefixOf front) (sym q_is) (prefix_refl front))))
        (subst (AllByRecursion (IsLast firm before (spared ((file' (cut m.count)).logs log).now (q log)))) (sym (here_before d m c parts batch acked (cut m.count) ∙ is.named)) tt)

  suspects : (w : Writer) (keeps : Keeps (inside' w)) (front : List Batch) → IsMendable m.count m.synced keeps.firm before front (d.logs log) → Keeps (world (file' suspected) m Failed c parts batch acked)
  suspects w keeps front is =
      filed d m c parts batch acked m.count m.synced w Failed suspected is.file is.now is.named keeps (last_of d m c parts batch acked w is.file is.now keeps) (none_lost (suspected is.file) is.lost)
      (subst (IsPrefixOf (take m.count part)) (ap content is.now ∙ sym (ap content (here d m c parts batch acked suspected is.file is.now)))
      (answered_in d log m.count m.synced m.base keeps.firm before part batch w keeps.writer))

  pub mending_keeps : (o : Outcome) → Keeps (inside' Mending) → Keeps (happens (inside' Mending) (Writes o))
  mending_keeps Done keeps =
      let front : List Batch = keeps.writer.0 in
      let split = keeps.writer.1 in
      let is = keeps.writer.2 in
      let q' = q keeps.firm front split is in
      record {
        sure = keeps.sure;
        firm = keeps.firm;
        sound = mended_sound keeps.firm front split is keeps.sure keeps.sound;
        acked_is = keeps.acked_is;
        under = keeps.under;
        writer = mended keeps.firm front split is;
        checkpointer = checkpointer_moves d (file' (cut m.count)) log log m.base keeps.sure parts q' keeps.firm keeps.firm c refl (λ k. refl)
            (λ n past attempt. attempt_shrinks log m.base parts q' keeps.firm (batch ∷ []) n past (λ k lt. at_other log (take m.count part) parts k (omega (arith, lt)))
            (ap (λ l. l ++ batch ∷ []) (q_is keeps.firm front split is) ∙ split)
            (subst (λ l. IsPrefixOf keeps.firm (before ++ l)) (sym (q_is keeps.firm front split is)) (firmly keeps.firm front split is)) attempt)
            keeps.checkpointer;
      }
  mending_keeps NotDone keeps = suspects Mending keeps keeps.writer.0 keeps.writer.2
  mending_keeps PartDone keeps = suspects Mending keeps keeps.writer.0 keeps.writer.2
  mending_keeps DoneUntold keeps =
      let front : List Batch = keeps.writer.0 in
      let split = keeps.writer.1 in
      let is = keeps.writer.2 in
      let change = half_cut m.count in
      let half : File = change is.file in
      filed d m c parts batch acked m.count m.synced Mending Failed change is.file is.now is.named keeps
      (half_last keeps.firm front split is (last_of d m c parts batch acked Mending is.file is.now keeps)) (half_used keeps.firm front split is)
      (subst (λ l. IsPrefixOf l (content ((file' change).logs log).now)) (sym (first keeps.firm front split is))
      (subst (IsPrefixOf front) (sym (ap content (here d m c parts batch acked change is.file is.now) ∙ half_reads keeps.firm front split is)) (prefix_refl front)))

  -- ---- a sync during which the append has failed

  module _ (n : ℕ) (firm front : List Batch) (split : front ++ batch ∷ [] ≡ part) (is : IsMendable m.count m.synced firm before front (d.logs log)) (from : m.synced ≤ n) (to : n ≤ m.count) where
    abbrev synced' : File
    synced' = synced_file n is.file is.fresh

    synced_now : ((file' (synced n)).logs log).now ≡ Some synced'
    synced_now = here d m c parts batch acked (synced n) is.file is.now ∙ ap (λ x. Some x) (synced_is n is.file is.fresh)

    same_records : synced'.kept ++ synced'.waiting ≡ is.file.kept ++ is.file.waiting
    same_records = synced_all n is.file is.fresh

    first_same : take n part ≡ take n front
    first_same = let counted = is.counted in ap (take n) (sym split) ∙ take-append-le n front (batch ∷ []) (omega (arith, counted, to))

    -- the first batches are on the device
    synced_enough : IsPrefixOf (take n front) (first_whole synced'.kept)
    synced_enough =
        let records = is.file.kept ++ is.file.waiting in
        let read : take n front ≡ take n (first_whole records) = ap (take n) (sym is.all ∙ first_take m.count records) ∙ take_twice n m.count (first_whole records) to in
        subst (λ l. IsPrefixOf l (first_whole synced'.kept)) (sym read)
        (subst (IsPrefixOf (take n (first_whole records))) (sym (synced_first n is.file is.fresh)) (take_more n (most n is.file is.fresh) (first_whole records) (omega arith)))

    synced_mendable : IsMendable m.count n (before ++ take n front) before front ((file' (synced n)).logs log)
    synced_mendable =
        let counted = is.counted in
        let enough = is.enough in
        let kept = length-take (most n is.file is.fresh) (is.file.kept ++ is.file.waiting) in
        let first = length-take-le n front (omega (arith, counted, to)) in
        let size = length-append (take n front) synced_enough.0 in
        let all = ap length synced_enough.1 in
        record {
          file = synced';
          now = synced_now;
          named = here_before d m c parts batch acked (synced n) ∙ is.named;
          fresh = is.fresh;
          lost = is.lost;
          whole = ap (λ l. are_whole (take m.count l)) same_records ∙ is.whole;
          all = ap (λ l. first_whole (take m.count l)) same_records ∙ is.all;
          counted = counted;
          enough = omega (arith, enough, kept, to);
          marked = omega (arith, first, size, all);
          few = to;
          told = prefix_refl (before ++ take n front);
        }

    grows : IsPrefixOf firm (before ++ take n front)
    grows = prefix_trans firm (before ++ take m.synced front) (before ++ take n front) is.told (prefix_under before (take m.synced front) (take n front) (take_more m.synced n front from))

    reads_part : (sure : ℕ) → Sound d log sure parts firm → IsPrefixOf (first_whole (synced'.kept ++ synced'.waiting)) part
    reads_part sure sound =
        subst (λ l. IsPrefixOf (first_whole l) part) (sym same_records) (subst (λ l. IsPrefixOf l part) (plain_last is.file is.lost) (subst (IsLast firm before part) is.now sound.last).0)

    spoiled_sound : (sure : ℕ) → Sound d log sure parts firm → Sound (file' (synced n)) log sure parts firm
    spoiled_sound sure sound =
        let last : IsLast firm before part (Some (synced n is.file)) =
        subst (λ x. IsLast firm before part (Some x)) (sym (synced_is n is.file is.fresh)) (plain firm before part synced' is.lost
        (reads_part sure sound)
        (prefix_trans firm (before ++ first_whole is.file.kept) (before ++ first_whole synced'.kept) (subst (IsLast firm before part) is.now sound.last).1
        (prefix_under before (first_whole is.file.kept) (first_whole synced'.kept) (synced_more n is.file is.fresh)))) in
        entry_sound d log sure parts firm sound (changed (synced n) (d.logs log)) d.names sound.named
        (subst (IsLast firm before part) (sym (ap (changed_name (synced n)) is.now)) last)
        (subst (AllByRecursion (IsLast firm before (spared (changed_name (synced n) (d.logs log).now) part))) (sym is.named) tt)
        (λ lt. (subst IsThere (sym (ap (changed_name (synced n)) is.now)) tt, (sound.begun lt).1))
        (subst (λ (o : Option File). is_cut o ≡ true → is_used o ≡ true) (sym (ap (changed_name (synced n)) is.now ∙ ap (λ x. Some x) (synced_is n is.file is.fresh))) (none_lost synced' is.lost))

    spoiled_firmly : (sure : ℕ) → Sound d log sure parts firm → Sound (file' (synced n)) log sure parts (before ++ take n front)
    spoiled_firmly sure sound =
        submitted_sound (file' (synced n)) log sure parts firm (spoiled_sound sure sound) parts (before ++ take n front) (λ k lt. refl) (prefix_refl part) grows
        (subst (IsLast (before ++ take n front) before part) (sym synced_now) (plain (before ++ take n front) before part synced' is.lost (reads_part sure sound) (prefix_under before (take n front) (first_whole synced'.kept) synced_enough)))
        (subst (AllByRecursion (IsLast (before ++ take n front) before (spared ((file' (synced n)).logs log).now part))) (sym (here_before d m c parts batch acked (synced n) ∙ is.named)) tt)

    same_read : content (d.logs log).now ≡ content ((file' (synced n)).logs log).now
    same_read = ap content is.now ∙ (ap first_whole (sym same_records) ∙ sym (ap content synced_now))

  pub spoiled_syncs : (n : ℕ) (o : Outcome) → Keeps (inside' (Spoiled n)) → Keeps (happens (inside' (Spoiled n)) (Syncs o))
  spoiled_syncs n Done keeps =
      let front : List Batch = keeps.writer.0.0 in
      let split = keeps.writer.0.1 in
      let is = keeps.writer.0.2 in
      let from = keeps.writer.1 in
      let to = keeps.writer.2 in
      let more = first_of parts log n in
      let same : before ++ take n front ≡ more = ap (λ l. before ++ l) (sym (first_same n keeps.firm front split is from to)) in
      moved d m c parts batch acked (file' (synced n)) log m.count n parts batch more more (Spoiled n) Mending refl (λ k. refl) (omega arith) (λ k lt. refl) (prefix_refl part) keeps
      (subst (IsPrefixOf keeps.firm) same (grows n keeps.firm front split is from to))
      (subst (λ l. Sound (file' (synced n)) log keeps.sure parts l) same (spoiled_firmly n keeps.firm front split is from to keeps.sure keeps.sound))
      (prefix_refl more)
      (front, split, subst (λ l. IsMendable m.count n l before front ((file' (synced n)).logs log)) same (synced_mendable n keeps.firm front split is from to))
  spoiled_syncs n NotDone keeps = suspects (Spoiled n) keeps keeps.writer.0.0 keeps.writer.0.2
  spoiled_syncs n PartDone keeps = suspects (Spoiled n) keeps keeps.writer.0.0 keeps.writer.0.2
  spoiled_syncs n DoneUntold keeps =
      let front : List Batch = keeps.writer.0.0 in
      let split = keeps.writer.0.1 in
      let is = keeps.writer.0.2 in
      let from = keeps.writer.1 in
      let to = keeps.writer.2 in
      let now = synced_now n keeps.firm front split is from to in
      let answered' : IsPrefixOf (take m.count part) (content ((file' (synced n)).logs log).now) =
      subst (IsPrefixOf (take m.count part)) (same_read n keeps.firm front split is from to) (answered_in d log m.count m.synced m.base keeps.firm before part batch (Spoiled n) keeps.writer) in
      let done : Keeps (world (file' (synced n)) m Failed c parts batch acked) =
      stepped d m c parts batch acked (file' (synced n)) m.count m.synced (Spoiled n) Failed refl (λ k. refl) keeps (spoiled_sound n keeps.firm front split is from to keeps.sure keeps.sound) answered' in
      let g' = synced' n keeps.firm front split is from to in
      filed (file' (synced n)) m c parts batch acked m.count m.synced Failed Failed suspected g' now (here_before d m c parts batch acked (synced n) ∙ is.named) done
      (last_of (file' (synced n)) m c parts batch acked Failed g' now done) (none_lost (suspected g') is.lost)
      (subst (IsPrefixOf (take m.count part)) (ap content now ∙ sym (ap content (here (file' (synced n)) m c parts batch acked suspected g' now))) answered')
