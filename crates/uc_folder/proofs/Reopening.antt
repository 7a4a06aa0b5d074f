-- Opening a directory keeps the invariant, also where some of the last batches are given up.
use Rattle.std.proofs.Common.{◌≡◌, ℕ, suc, ◌+◌, ◌<◌, ◌≤◌, Bool, true, false, cond, ltb, ◌&&◌, ◌⊎◌, inl, inr, ⊎_elim, List, [], ◌++◌, length, take, refl, sym, ap, ◌∙◌, subst, arith}
use Rattle.std.specs.Prelude.{Option, Some, None}
use Rattle.std.proofs.lemmas.Bool.{cases_lt, ltb-true}
use Rattle.std.proofs.lemmas.List.{length-append, length-take-le, take-append-le}
use Rattle.uc_folder.specs.declared.machine.Machine.{Machine}
use Rattle.uc_folder.specs.declared.listing.Found.{Found}
use Rattle.uc_folder.specs.declared.phases.Writer.TheVariants.{Making, Naming}
use Rattle.uc_folder.specs.declared.phases.Checkpointer.TheVariants.{Idle, RemovingLog}
use Rattle.uc_folder.specs.Device.{Batch, File, Device, first_number, content, last_log, is_cut, is_there, past_of, upto, recovered, sync_names}
use Rattle.uc_folder.specs.Steps.{log_after, count_after, synced_after, opened}
use Rattle.uc_folder.specs.Worlds.{World, IsPrefixOf, first_of, answered, found, is_settled, kept_of, keeps_all, acked_of, names_read, begun_by, parts_read, count_read, opens}
use Rattle.uc_folder.proofs.Lists.{prefix_refl, prefix_trans, prefix_under, prefix_take, upto_more, length_prefix, prefix_taken, taken_within, take_short}
use Rattle.uc_folder.proofs.Sound.{IsWhole, IsBase, IsThere, Each, Sound}
use Rattle.uc_folder.proofs.Holding.{Stands, IsRead, IfSealed, FitsCheckpointer, Keeps}
use Rattle.uc_folder.proofs.Opening.{uncut, settled_file, n, j, read, own, own_uncut, read_own, upto_own, upto_read, base_read, j_below, n_j, n_there, sure_below, read_at, opened_sound, opened_firm, opened_reads}
use Rattle.uc_folder.proofs.Changes.{named_sound, raised_sound, lowered_sound}
use Rattle.uc_folder.proofs.Writing.{take_counted}
use Rattle.uc_folder.proofs.Renewing.{clears}

-- ---- the numbers of a machine that has synced the names

log_named : (there sealed : Bool) (top log : ℕ) → log_after (cond there (Naming top sealed) Making) true log ≡ log
log_named true sealed top log = refl
log_named false sealed top log = refl

pub begun_log : (o : Option File) (f : Found) (count : ℕ) (sealed : Bool) → (begun_by o (opened f count sealed)).log ≡ f.log
begun_log None f count sealed = refl
begun_log (Some g) f count sealed = log_named f.is_there sealed f.top f.log

count_named : (there sealed : Bool) (top count : ℕ) → count_after (cond there (Naming top sealed) Making) true count ≡ count
count_named true sealed top count = refl
count_named false sealed top count = refl

pub begun_count : (o : Option File) (f : Found) (count : ℕ) (sealed : Bool) → (begun_by o (opened f count sealed)).count ≡ count
begun_count None f count sealed = refl
begun_count (Some g) f count sealed = count_named f.is_there sealed f.top count

synced_named : (there sealed : Bool) (top count : ℕ) → synced_after (cond there (Naming top sealed) Making) true count 0 ≡ 0
synced_named true sealed top count = refl
synced_named false sealed top count = refl

pub begun_synced : (o : Option File) (f : Found) (count : ℕ) (sealed : Bool) → (begun_by o (opened f count sealed)).synced ≡ 0
begun_synced None f count sealed = refl
begun_synced (Some g) f count sealed = synced_named f.is_there sealed f.top count

-- ---- the batches that are kept

pub kept_is : (w : World) (least top : ℕ) (sealed : Bool) (keep : Option ℕ) → answered (opens least top sealed keep w) ≡ first_of (parts_read w.device w.parts) (last_log w.device) (count_read w.device keep)
kept_is w least top sealed keep =
    let d = w.device in
    let here = (d.logs (last_log d)).now in
    let f = found d least top in
    let quiet = sealed && (is_settled here && keeps_all keep) in
    ap (λ i. first_of (parts_read d w.parts) i (begun_by here (opened f (count_read d keep) quiet)).count) (begun_log here f (count_read d keep) quiet)
    ∙ ap (first_of (parts_read d w.parts) f.log) (begun_count here f (count_read d keep) quiet)

pub kept_most : (keep : Option ℕ) (past count : ℕ) → kept_of keep past count ≤ count
kept_most None past count = omega arith
kept_most (Some k) past count = omega arith

kept_past : (keep : Option ℕ) (past count : ℕ) → past ≤ count → past ≤ kept_of keep past count
kept_past None past count le = le
kept_past (Some k) past count le = omega (arith, le)

kept_all : (keep : Option ℕ) (past count : ℕ) → keeps_all keep ≡ true → kept_of keep past count ≡ count
kept_all None past count e = refl
kept_all (Some k) past count e = absurd (cc)

acked_kept : (keep : Option ℕ) (kept acked : List Batch) → IsPrefixOf (acked_of keep kept acked) acked
acked_kept None kept acked = prefix_refl acked
acked_kept (Some k) kept acked = prefix_take (length kept) acked

-- of the batches that are given up none stays acknowledged
acked_short : (keep : Option ℕ) (kept acked : List Batch) → (keeps_all keep ≡ true → length acked ≤ length kept) → length (acked_of keep kept acked) ≤ length kept
acked_short None kept acked all = all refl
acked_short (Some k) kept acked all = take_short (length kept) acked

if_sealed : (s t u : Bool) (count : ℕ) (part : List Batch) (f : File) (o : Option File) → o ≡ Some f → (t ≡ true → part ≡ content (Some f)) → is_settled (Some f) ≡ t → (t ≡ true → u ≡ true → count ≡ length part) → IfSealed (s && (t && u)) count part o
if_sealed false t u count part f o e same is all = tt
if_sealed true false u count part f o e same is all = tt
if_sealed true true false count part f o e same is all = tt
if_sealed true true true count part f o e same is all = let both = settled_file f is in (record { file = f; now = e; is = subst (λ xs. IsWhole xs f) (sym (same refl)) both.0; fresh = both.1 }, all refl refl)

stands_there : (d : Device) (base : ℕ) → Stands d base → (base ≡ first_number) ⊎ Each IsThere ((sync_names d).bases base)
stands_there d base (inl e) = inl e
stands_there d base (inr is) = inr (there (d.bases base).now is, tt)
  where
    there : (o : Option File) → is_there o ≡ true → IsThere o
    there None e = absurd (cc)
    there (Some f) e = tt

-- ---- the opening

module _ (d : Device) (log sure : ℕ) (parts : ℕ → List Batch) (firm : List Batch) (sound : Sound d log sure parts firm) (keep : Option ℕ) where
  abbrev j' : ℕ
  j' = j d log sure parts firm sound

  abbrev n' : ℕ
  n' = n d log sure parts firm sound

  abbrev q : ℕ → List Batch
  q = own d log sure parts firm sound

  abbrev seen : ℕ → List Batch
  seen = read d log sure parts firm sound

  abbrev count : ℕ
  count = count_read d keep

  abbrev kept : List Batch
  kept = first_of q j' count

  abbrev less : List Batch
  less = take (length kept) firm

  here : seen j' ≡ content (d.logs j').now
  here = read_at d log sure parts firm sound j' (n_j d log sure parts firm sound)

  seen_own : IsPrefixOf (content (d.logs j').now) (q j')
  seen_own = subst (λ l. IsPrefixOf l (q j')) here (read_own d log sure parts firm sound j' (j_below d log sure parts firm sound))

  same_before : upto q j' ≡ upto seen j'
  same_before = let le = j_below d log sure parts firm sound in upto_own d log sure parts firm sound j' le ∙ sym (upto_read d log sure parts firm sound j' le)

  most : count ≤ length (content (d.logs j').now)
  most = kept_most keep (past_of (d.bases j').now) (length (content (d.logs j').now))

  few : count ≤ length (q j')
  few = let le = most in let more = length_prefix (content (d.logs j').now) (q j') seen_own in omega (arith, le, more)

  kept_seen : take count (content (d.logs j').now) ≡ take count (q j')
  kept_seen = sym (take-append-le count (content (d.logs j').now) seen_own.0 most) ∙ ap (take count) seen_own.1

  size : length kept ≡ length (upto q j') + count
  size = length-append (upto q j') (take count (q j')) ∙ ap (λ i. length (upto q j') + i) (length-take-le count (q j') few)

  all_firm : IsPrefixOf firm (upto seen j' ++ seen j')
  all_firm = opened_firm d log sure parts firm sound

  acked_firm : (acked : List Batch) → IsPrefixOf acked firm → IsPrefixOf (acked_of keep kept acked) firm
  acked_firm acked has = prefix_trans (acked_of keep kept acked) acked firm (acked_kept keep kept acked) has

  -- all that is acknowledged yet is kept
  acked_less : (acked : List Batch) → IsPrefixOf acked firm → IsPrefixOf (acked_of keep kept acked) less
  acked_less acked has =
      prefix_taken (acked_of keep kept acked) firm (length kept) (acked_firm acked has)
      (acked_short keep kept acked
      (λ e.
      let a = length_prefix acked firm has in
      let b = length_prefix firm (upto seen j' ++ seen j') all_firm in
      let c = length-append (upto seen j') (seen j') in
      let before = ap length same_before in
      let same = kept_all keep (past_of (d.bases j').now) (length (content (d.logs j').now)) e in
      let whole = ap length here in
      let s = size in
      omega (arith, a, b, c, before, same, whole, s)))

  less_kept : IsPrefixOf less kept
  less_kept = taken_within firm kept (upto q j' ++ q j')
      (prefix_trans firm (upto seen j' ++ seen j') (upto q j' ++ q j') all_firm
      (subst (λ l. IsPrefixOf (upto seen j' ++ seen j') (l ++ q j')) (sym same_before) (prefix_under (upto seen j') (seen j') (q j') (read_own d log sure parts firm sound j' (j_below d log sure parts firm sound)))))
      (prefix_under (upto q j') (take count (q j')) (q j') (prefix_take count (q j')))

  base_few : (k : ℕ) (b : File) → (d.bases k).now ≡ Some b → (is : IsBase firm q j' k (Some b)) → IsBase firm seen j' k (Some b) → length (upto q k ++ is.1.front) ≤ length kept
  base_few k b e is isr =
      let front : List Batch = is.1.front in
      let s = size in
      let begins = length_prefix isr.1.front (seen k) isr.1.part in
      let past = is.1.past in
      let past' = isr.1.past in
      ⊎_elim
      (λ (lt : k < j').
      let a = length_prefix (upto q k ++ front) (upto q (suc k)) (prefix_under (upto q k) front (q k) is.1.part) in
      let c = length_prefix (upto q (suc k)) (upto q j') (upto_more q (suc k) j' (omega (arith, lt))) in
      omega (arith, a, c, s))
      (λ (ge : j' ≤ k).
      let le = is.0 in
      let same : k ≡ j' = omega (arith, ge, le) in
      let before : length (upto q k) ≡ length (upto q j') = ap (λ i. length (upto q i)) same in
      let has : past_of (d.bases j').now ≡ b.past = subst (λ i. past_of (d.bases i).now ≡ b.past) same (ap past_of e) in
      let whole : length (seen k) ≡ length (content (d.logs j').now) = ap (λ i. length (seen i)) same ∙ ap length here in
      let most = kept_past keep (past_of (d.bases j').now) (length (content (d.logs j').now)) (omega (arith, has, past', begins, whole)) in
      let sum = length-append (upto q k) front in
      omega (arith, s, before, has, past, most, sum))
      (cases_lt k j')

  base_less : (k : ℕ) (o : Option File) → (d.bases k).now ≡ o → IsBase firm q j' k o → IsBase less q j' k o
  base_less k None e is = tt
  base_less k (Some b) e is =
      (is.0, record { front = is.1.front; file = is.1.file; past = is.1.past; part = is.1.part; firm = prefix_taken (upto q k ++ is.1.front) firm (length kept) is.1.firm (base_few k b e is (base_read d log sure parts firm sound k is.0 (Some b) (subst (IsBase firm parts log k) e (sound.bases k).0))) })

  -- once the names are synced
  named_opened : Sound (sync_names d) j' n' q firm
  named_opened =
      raised_sound (sync_names d) j' sure q firm (opened_sound (sync_names d) log sure parts firm (named_sound d log sure parts firm sound) (λ e k. refl)) n'
      (sure_below d log sure parts firm sound) (n_j d log sure parts firm sound) (stands_there d n' (n_there d log sure parts firm sound))

  named_less : Sound (sync_names d) j' n' q less
  named_less =
      let s = size in
      lowered_sound (sync_names d) j' n' q firm named_opened less (prefix_take (length kept) firm)
      (prefix_taken (upto q j') firm (length kept) named_opened.stands (omega (arith, s)))
      (λ k. (base_less k (d.bases k).now refl (named_opened.bases k).0, tt))

  removes : (least : ℕ) (b : Bool) → ltb least n' ≡ b → FitsCheckpointer (sync_names d) j' n' n' q less (cond b (RemovingLog least) Idle)
  removes least true lt = (refl, ltb-true least n' lt)
  removes least false lt = tt

  module _ (batch : Batch) (acked : List Batch) (least top : ℕ) (sealed : Bool) where
    -- the machine, if this is the log that goes on
    abbrev machine_at : Option File → Machine
    machine_at o = opened (record { base = n'; past = past_of (d.bases n').now; least = least; log = j'; is_there = is_there o; top = top }) count (sealed && (is_settled o && keeps_all keep))

    abbrev world_at : Option File → World
    world_at o = record { device = names_read o d; machine = begun_by o (machine_at o); parts = parts_read d parts; batch = batch; acked = acked_of keep kept acked }

    reopened : (o : Option File) → (d.logs j').now ≡ o → IsPrefixOf acked firm → Keeps (world_at o)
    reopened None e has = record {
      sure = sure;
      firm = firm;
      sound = opened_sound d log sure parts firm sound (λ there k. absurd (let x : false ≡ true = sym (ap is_there e) ∙ there in cc));
      acked_is = acked_firm acked has;
      under = sure_below d log sure parts firm sound;
      writer =
          let le = kept_most keep (past_of (d.bases j').now) (length (content (d.logs j').now)) in
          let none : length (content (d.logs j').now) ≡ 0 = ap (λ o. length (content o)) e in
          (e, own_uncut d log sure parts firm sound j' (ap is_cut e) ∙ (here ∙ ap content e), omega (arith, le, none), refl, n_there d log sure parts firm sound, n_j d log sure parts firm sound);
      checkpointer = tt;
    }
    reopened (Some f) e has =
        let same : is_settled (Some f) ≡ true → q j' ≡ content (Some f) = λ t. own_uncut d log sure parts firm sound j' (ap is_cut e ∙ uncut f (settled_file f t).0.lost) ∙ (here ∙ ap content e) in
        record {
          sure = n';
          firm = less;
          sound = named_less;
          acked_is = acked_less acked has;
          under = omega arith;
          writer = clears (sync_names d) (machine_at (Some f)) Idle q batch acked (sync_names d) less (ltb j' top) (j' + 1) top (sealed && (is_settled (Some f) && keeps_all keep)) (omega arith)
              (record { read = subst (IsRead count (q j')) (sym e) (ap (λ o. take count (content o)) (sym e) ∙ kept_seen); named = refl; few = few; firmly = less_kept })
              (if_sealed sealed (is_settled (Some f)) (keeps_all keep) count (q j') f (d.logs j').now e same refl
              (λ t all. kept_all keep (past_of (d.bases j').now) (length (content (d.logs j').now)) all ∙ (ap (λ o. length (content o)) e ∙ sym (ap length (same t)))));
          checkpointer = removes least (ltb least n') refl;
        }

  pub opened_keeps : (machine : Machine) (batch : Batch) (acked : List Batch) (least top : ℕ) (sealed : Bool) → IsPrefixOf acked firm →
      Keeps (opens least top sealed keep (record { device = d; machine = machine; parts = parts; batch = batch; acked = acked }))
  opened_keeps machine batch acked least top sealed has = reopened batch acked least top sealed (d.logs j').now refl has

  -- what is kept is read: all of it, if nothing is given up
  pub kept_reads : IsPrefixOf kept (recovered d)
  kept_reads =
      subst (IsPrefixOf kept) (opened_reads d log sure parts firm sound)
      (subst (λ l. IsPrefixOf (l ++ take count (q j')) (upto seen j' ++ seen j')) (sym same_before)
      (prefix_under (upto seen j') (take count (q j')) (seen j') (subst (λ l. IsPrefixOf l (seen j')) kept_seen (subst (λ l. IsPrefixOf (take count (content (d.logs j').now)) l) (sym here) (prefix_take count (content (d.logs j').now))))))

  pub all_reads : keeps_all keep ≡ true → kept ≡ recovered d
  all_reads all =
      let whole : take count (q j') ≡ seen j' = sym kept_seen ∙ (take_counted count (content (d.logs j').now) (kept_all keep (past_of (d.bases j').now) (length (content (d.logs j').now)) all) ∙ sym here) in
      ap (λ l. l ++ take count (q j')) same_before ∙ (ap (λ l. upto seen j' ++ l) whole ∙ opened_reads d log sure parts firm sound)

  -- what the machine counts as synced stays acknowledged
  pub opened_says : (acked : List Batch) → IsPrefixOf (first_of q j' 0) acked → IsPrefixOf (first_of q j' 0) (acked_of keep kept acked)
  opened_says acked has = by_keep keep (let a = length-append (upto q j') [] in let s = size in omega (arith, a, s))
    where
      by_keep : (k : Option ℕ) → length (first_of q j' 0) ≤ length kept → IsPrefixOf (first_of q j' 0) (acked_of k kept acked)
      by_keep None le = has
      by_keep (Some k) le = prefix_taken (first_of q j' 0) acked (length kept) has le
