-- Every list of events keeps what holds; and what openings find after it.
use Rattle.std.proofs.Common.{◌≡◌, ℕ, zero, suc, ◌+◌, ◌-◌, ◌<◌, ◌≤◌, Bool, true, false, cond, eqb, ltb, ◌&&◌, ◌||◌, inl, ⊎_elim, List, [], ◌∷◌, ◌++◌, refl, sym, ap, ◌∙◌, subst, arith}
use Rattle.std.specs.Prelude.{Option, Some, None, not}
use Rattle.std.proofs.lemmas.Bool.{cases_lt}
use Rattle.std.proofs.lemmas.List.{append-nil}
use Rattle.uc_folder.specs.declared.machine.Machine.{Machine}
use Rattle.uc_folder.specs.declared.phases.Writer.{Writer}
use Rattle.uc_folder.specs.declared.phases.Writer.TheVariants.{Ready, Appending, Syncing, Both}
use Rattle.uc_folder.specs.declared.phases.Checkpointer.{Checkpointer}
use Rattle.uc_folder.specs.declared.phases.Checkpointer.TheVariants.{Idle, RemovingLog}
use Rattle.uc_folder.specs.Device.{Batch, File, Entry, Device, Keep, crashed, is_there, newest_base, last_log, at, stands_for}
use Rattle.uc_folder.specs.Worlds.{Outcome, Done, NotDone, PartDone, DoneUntold, device_after, names_read}
use Rattle.uc_run_folder.specs.declared.phases.Phase.{Phase}
use Rattle.uc_run_folder.specs.declared.phases.Phase.TheVariants.{Between, WritingRun, NamingRuns}
use Rattle.uc_run_folder.specs.Files.{Files, next_in, crashed_files, IsRunOf, AreRead}
use Rattle.uc_run_folder.specs.RunWorlds.{RunWorld, numbers, list_read, files_read}
use Rattle.uc_run_folder.proofs.Lists.{all_weaker}
use Rattle.uc_folder.specs.Worlds.{is_done, Event, Submit, AskSync, AskNext, AskSwitch, AskCheckpoint, Writes, Makes, Syncs, Checkpoints, Crash, Restart, Reread, SyncsNames}
use Rattle.uc_folder.specs.Worlds as inner
use Rattle.uc_run_folder.specs.RunWorlds.{folder_does, is_aside}
use Rattle.uc_run_folder.proofs.Inside.{happens_inside}
use Rattle.uc_run_folder.proofs.Keeping.{Each, IsGone, IsSealed, IsDurable, AreDurable, AreSealed, is_fine, Kept}
use Rattle.std.proofs.lemmas.Bool.{ltb-true, eqb-true, and_parts}
use Rattle.uc_folder.specs.Device.{sealed}
use Rattle.uc_run_folder.specs.Files.{remove_run, name_run}
use Rattle.uc_run_folder.specs.Steps.{has_run, are_among}
use Rattle.uc_run_folder.proofs.Keeping.{IsOnly, IsListOf, Firm}
use Rattle.uc_run_folder.proofs.Holding.{IsRemoving, IsBegun, IsFree, FitsPhase, IsCalm, Holds}
use Rattle.uc_folder.specs.Steps.{removing_from}
use Rattle.uc_run_folder.specs.RunWorlds.{Checkpointing, happens}
use Rattle.uc_run_folder.proofs.Runs.{others_gone, others_if}
use Rattle.uc_folder.specs.Steps.{opened, is_open, is_in_older}
use Rattle.uc_folder.specs.Worlds.{IsReadable, World, begun_by, found, count_read, is_settled, keeps_all, reread}
use Rattle.uc_run_folder.specs.Steps.{may_write, may_remove, is_free, is_between, is_sought, is_none, fits}
use Rattle.uc_run_folder.specs.RunWorlds.{RunEvent, Beside, AskList, Removes, Crashes, Ends, Rereads, asks, opens, run, start, machine_of, seen, all_seen}
use Rattle.uc_run_folder.proofs.Inside.{start_inside}
use Rattle.uc_run_folder.proofs.Keeping.{firm_crashed, opened_kept, read_durable}
use Rattle.uc_run_folder.proofs.Holding.{aside_holds}
use Rattle.uc_run_folder.proofs.Runs.{removed_durable, all_among}
use Rattle.uc_run_folder.proofs.Making.{checkpoint_holds}

-- ---- the folder alone

run_more : (xs ys : List Event) (w : World) → inner.run (xs ++ ys) w ≡ inner.run ys (inner.run xs w)
run_more [] ys w = refl
run_more (x ∷ xs) ys w = run_more xs ys (inner.happens w x)

pub sees : (w : RunWorld) (e : RunEvent) → (happens w e).folder ≡ inner.run (seen w e) w.folder
sees w (Beside e) = by_test (is_aside e)
  where
    by_test : (b : Bool) → (cond b (folder_does e w) w).folder ≡ inner.run (cond b (e ∷ []) []) w.folder
    by_test true = refl
    by_test false = refl
sees w (AskList n past kept count) = by_test (may_write (machine_of w) n past kept w.named count)
  where
    by_test : (b : Bool) → (asks b n past kept count w).folder ≡ w.folder
    by_test true = refl
    by_test false = refl
sees w (Checkpointing o rows) = refl
sees w (Removes o r) = by_test (may_remove (machine_of w) r w.named)
  where
    by_test : (b : Bool) → (cond b (record w { files = remove_run o r w.files }) w).folder ≡ w.folder
    by_test true = refl
    by_test false = refl
sees w (Crashes logs bases runs least top sealed keep) = refl
sees w (Ends least top sealed keep) = refl
sees w (Rereads left least top sealed keep) = refl

pub all_sees : (es : List RunEvent) (w : RunWorld) → (run es w).folder ≡ inner.run (all_seen es w) w.folder
all_sees [] w = refl
all_sees (e ∷ es) w =
    all_sees es (happens w e) ∙ (ap (λ (v : World). inner.run (all_seen es (happens w e)) v) (sees w e) ∙ sym (run_more (seen w e) (all_seen es (happens w e)) w.folder))

-- what the laws of the folder say of openings
pub record Below : Type 0 where
  pub crashed_is : (events : List Event) (logs bases : ℕ → Keep) → IsReadable (crashed logs bases (inner.run events inner.start).device)
  pub ended_is : (events : List Event) → IsReadable (inner.run events inner.start).device
  pub reread_is : (events : List Event) (keep : Keep) → IsReadable (reread keep (inner.run events inner.start))

abbrev pub IsReached : World → Type 0
IsReached w = (es : List Event) × (w ≡ inner.run es inner.start)

pub reached_on : (w : RunWorld) (e : RunEvent) → IsReached w.folder → IsReached (happens w e).folder
reached_on w e is = (is.0 ++ seen w e, sees w e ∙ (ap (λ (v : World). inner.run (seen w e) v) is.1 ∙ sym (run_more is.0 (seen w e) inner.start)))

-- ---- an opening

opened_facts : (o : Option File) (n past least j top count : ℕ) (sealed : Bool) →
    ((begun_by o (opened (record { base = n; past = past; least = least; log = j; is_there = is_there o; top = top }) count sealed)).base ≡ n) ×
    ((begun_by o (opened (record { base = n; past = past; least = least; log = j; is_there = is_there o; top = top }) count sealed)).tried ≡ n) ×
    IsRemoving (begun_by o (opened (record { base = n; past = past; least = least; log = j; is_there = is_there o; top = top }) count sealed)).checkpointer ×
    (is_there o ≡ false → is_fine (begun_by o (opened (record { base = n; past = past; least = least; log = j; is_there = is_there o; top = top }) count sealed)).writer ≡ false)
opened_facts None n past least j top count sealed = (refl, refl, tt, λ e. refl)
opened_facts (Some f) n past least j top count sealed = (refl, refl, removing_is least n, λ e. absurd (cc))
  where
    removing_is : (k base : ℕ) → IsRemoving (removing_from k base)
    removing_is k base = by_bool (ltb k base)
      where
        by_bool : (b : Bool) → IsRemoving (cond b (RemovingLog k) Idle)
        by_bool true = tt
        by_bool false = tt

opening_holds : (w : RunWorld) (e : Event) (d : Device) (f : Files) (least top count : ℕ) (sealed : Bool) → Holds w → Firm w.folder.machine.base d f w.rows → IsReadable d →
    (inner.happens w.folder e).machine ≡ begun_by (d.logs (last_log d)).now (opened (found d least top) count sealed) → (inner.happens w.folder e).device ≡ names_read (d.logs (last_log d)).now d →
    Holds (opens e d f w)
opening_holds w e d f least top count sealed holds firm readable machine_is device_is =
    let o = (d.logs (last_log d)).now in
    let n = newest_base d in
    let v = inner.happens w.folder e in
    let facts = opened_facts o n (found d least top).past least (last_log d) top count sealed in
    let base_is : v.machine.base ≡ n = ap (λ (m : Machine). m.base) machine_is ∙ facts.0 in
    let tried_is : v.machine.tried ≡ n = ap (λ (m : Machine). m.tried) machine_is ∙ facts.1 in
    let unfine : is_there o ≡ false → is_fine v.machine.writer ≡ false = λ gone. ap (λ (m : Machine). is_fine m.writer) machine_is ∙ facts.3 gone in
    let kept = opened_kept w.folder.machine.base d f w.rows firm o (is_fine v.machine.writer) readable.last unfine in
    record {
      inside = happens_inside w.folder e holds.inside;
      kept = subst (λ (x : Device). Kept v.machine.base v.machine.tried (is_fine v.machine.writer) x (files_read o f) (next_in f) (list_read d f) [] w.rows) (sym device_is)
          (subst (λ b. Kept b v.machine.tried (is_fine v.machine.writer) (names_read o d) (files_read o f) (next_in f) (list_read d f) [] w.rows) (sym base_is)
          (subst (λ t. Kept n t (is_fine v.machine.writer) (names_read o d) (files_read o f) (next_in f) (list_read d f) [] w.rows) (sym tried_is) kept));
      phase = subst (λ (m : Machine). IsRemoving m.checkpointer) (sym machine_is) facts.2;
      read = λ so. refl;
      calm = λ so. absurd (cc);
    }

firm_reread : (w : RunWorld) (left : Keep) → Holds w → Firm w.folder.machine.base (reread left w.folder) w.files w.rows
firm_reread w left holds =
    let firm = holds.kept.firm in
    record { goes = firm.goes; above = firm.above; there = firm.there; lists = firm.lists; bounded = firm.bounded }

-- ---- requests

pub between_parts : (p : Phase) (c : Checkpointer) → is_between p c ≡ true → (p ≡ Between) × (c ≡ Idle)
between_parts Between Idle e = (refl, refl)
between_parts p c e = absurd (cc)

pub open_fine : (w : Writer) → is_open w ≡ true → is_fine w ≡ true
open_fine Ready e = refl
open_fine Appending e = refl
open_fine (Syncing n) e = refl
open_fine (Both n) e = refl
open_fine w e = absurd (cc)

module _ (w : RunWorld) (holds : Holds w) where
  begun_fits : (n past : ℕ) (kept : List ℕ) (count : ℕ) (b : Bool) → eqb count 0 ≡ b → IsBegun w.folder.machine.base w.folder.machine.checkpointer n → AreSealed w.files.runs w.rows kept → IsFree w.files.runs w.next →
      FitsPhase w.folder.machine.base w.folder.machine.checkpointer w.files w.rows (kept ++ numbers w.next count) (w.next + count) (cond b (NamingRuns n past) (WritingRun n past w.next (w.next + (count - 1))))
  begun_fits n past kept count true e begun_is sealed_are free =
      (begun_is, subst (λ i. AreSealed w.files.runs w.rows (kept ++ numbers w.next i)) (sym (eqb-true count 0 e)) (subst (AreSealed w.files.runs w.rows) (sym (append-nil kept)) sealed_are))
  begun_fits n past kept zero false e begun_is sealed_are free = absurd (cc)
  begun_fits n past kept (suc k) false e begun_is sealed_are free =
      (begun_is, record { done = kept; rest = k; split = refl; until = omega arith; below = omega arith; sealed = sealed_are }, free)

  begun_calm : (n past count : ℕ) (b : Bool) → IsCalm (cond b (NamingRuns n past) (WritingRun n past w.next (w.next + (count - 1)))) w.folder.machine.checkpointer
  begun_calm n past count true = tt
  begun_calm n past count false = tt

  ask_holds : (n past : ℕ) (kept : List ℕ) (count : ℕ) (b : Bool) → may_write (machine_of w) n past kept w.named count ≡ b → Holds (asks b n past kept count w)
  ask_holds n past kept count false e = holds
  ask_holds n past kept count true e =
      let m = w.folder.machine in
      let both = and_parts (fits w.next count) (is_free (machine_of w) && is_sought m n past && (w.is_read || is_none kept) && are_among kept w.named) e in
      let four = and_parts (is_free (machine_of w) && is_sought m n past && (w.is_read || is_none kept)) (are_among kept w.named) both.1 in
      let three = and_parts (is_free (machine_of w) && is_sought m n past) (w.is_read || is_none kept) four.0 in
      let two = and_parts (is_free (machine_of w)) (is_sought m n past) three.0 in
      let free = and_parts (is_open m.writer) (is_between w.phase m.checkpointer) two.0 in
      let idle = (between_parts w.phase m.checkpointer free.1).1 in
      let late : m.tried < n = ltb-true m.tried n (and_parts (ltb m.tried n) (is_in_older m.log n past) two.1).0 in
      let order = holds.inside.order in
      let fine = open_fine m.writer free.0 in
      record {
        inside = holds.inside;
        kept = record {
          firm = holds.kept.firm;
          newest = holds.kept.newest;
          before = holds.kept.before;
          only = holds.kept.only;
          newer = holds.kept.newer;
          free = λ i from. holds.kept.free i (omega (arith, from));
        };
        phase = begun_fits n past kept count (eqb count 0) refl (idle, omega (arith, late, order)) (all_among w.files.runs w.rows w.named kept four.1 holds.kept.newest)
            (λ i from. ((holds.kept.free i from).0, (holds.kept.free i from).1 fine));
        read = holds.read;
        calm = λ so. begun_calm n past count (eqb count 0);
      }

  -- ---- removals

  only_durable : (runs' : ℕ → Entry) → AreDurable runs' w.rows w.named → (o : Option (List ℕ)) → IsOnly w.named o → IsListOf runs' w.rows o
  only_durable runs' all None is = tt
  only_durable runs' all (Some rs) is = subst (AreDurable runs' w.rows) (sym is) all

  gone_list : (runs' : ℕ → Entry) (o : Option (List ℕ)) → IsGone o → IsListOf runs' w.rows o
  gone_list runs' None is = tt
  gone_list runs' (Some rs) is = absurd is

  removed : (r : ℕ) → may_remove (machine_of w) r w.named ≡ true → Holds (record w { files = name_run r None w.files })
  removed r e =
      let m = w.folder.machine in
      let f = w.files in
      let x = stands_for None (f.runs r) in
      let five = and_parts (is_free (machine_of w) && w.is_read && eqb m.base m.tried && ltb r w.next) (not (has_run r w.named)) e in
      let four = and_parts (is_free (machine_of w) && w.is_read && eqb m.base m.tried) (ltb r w.next) five.0 in
      let three = and_parts (is_free (machine_of w) && w.is_read) (eqb m.base m.tried) four.0 in
      let two = and_parts (is_free (machine_of w)) w.is_read three.0 in
      let free = and_parts (is_open m.writer) (is_between w.phase m.checkpointer) two.0 in
      let parts = between_parts w.phase m.checkpointer free.1 in
      let fine = open_fine m.writer free.0 in
      let same : m.base ≡ m.tried = eqb-true m.base m.tried three.1 in
      let small : r < w.next = ltb-true r w.next four.1 in
      let newest = removed_durable f.runs w.rows r x w.named (not_true (has_run r w.named) five.1) holds.kept.newest in
      record {
        inside = holds.inside;
        kept = record {
          firm = record {
            goes = holds.kept.firm.goes;
            above = holds.kept.firm.above;
            there = holds.kept.firm.there;
            lists = λ k from.
                ⊎_elim
                (λ (over : m.base < k).
                let gone = holds.kept.newer k (omega (arith, over, same)) in
                (gone_list (at r x f.runs) (f.lists k).now gone.0, all_weaker IsGone (IsListOf (at r x f.runs) w.rows) (gone_list (at r x f.runs)) (f.lists k).before (gone.1 fine)))
                (λ (le : k ≤ m.base).
                let here : m.base ≡ k = omega (arith, from, le) in
                subst (λ i. Each (IsListOf (at r x f.runs) w.rows) (f.lists i).now (f.lists i).before) here (
                  only_durable (at r x f.runs) newest (f.lists m.base).now holds.kept.only.0,
                  all_weaker (IsOnly w.named) (IsListOf (at r x f.runs) w.rows) (only_durable (at r x f.runs) newest) (f.lists m.base).before (holds.kept.only.1 fine),
                ))
                (cases_lt m.base k);
            bounded = λ i lt. others_gone f.runs r x i (λ is. omega (arith, lt, is)) (holds.kept.firm.bounded i (omega (arith, lt)));
          };
          newest = newest;
          before = subst (AreDurable (at r x f.runs) w.rows) (sym (holds.read two.1)) tt;
          only = holds.kept.only;
          newer = holds.kept.newer;
          free = λ i from. others_if (is_fine m.writer) f.runs r x i (λ is. omega (arith, from, small, is)) (holds.kept.free i from);
        };
        phase = subst (λ (p : Phase). FitsPhase m.base m.checkpointer (name_run r None f) w.rows w.draft w.next p) (sym parts.0) (subst IsRemoving (sym parts.1) tt);
        read = holds.read;
        calm = holds.calm;
      }
    where
      not_true : (b : Bool) → not b ≡ true → b ≡ false
      not_true true is = absurd (cc)
      not_true false is = refl

  remove_holds : (o : Outcome) (r : ℕ) (b : Bool) → may_remove (machine_of w) r w.named ≡ b → Holds (cond b (record w { files = remove_run o r w.files }) w)
  remove_holds o r false e = holds
  remove_holds Done r true e = removed r e
  remove_holds NotDone r true e = holds
  remove_holds PartDone r true e = holds
  remove_holds DoneUntold r true e = removed r e

-- ---- lists of events

pub happens_holds : (below : Below) (w : RunWorld) (e : RunEvent) → IsReached w.folder → Holds w → Holds (happens w e)
happens_holds below w (Beside e) reached holds = aside_holds w holds e
happens_holds below w (AskList n past kept count) reached holds = ask_holds w holds n past kept count (may_write (machine_of w) n past kept w.named count) refl
happens_holds below w (Checkpointing o rows) reached holds = checkpoint_holds w w.phase o rows holds
happens_holds below w (Removes o r) reached holds = remove_holds w holds o r (may_remove (machine_of w) r w.named) refl
happens_holds below w (Crashes logs bases runs least top sealed keep) reached holds =
    let d = crashed logs bases w.folder.device in
    opening_holds w (Crash logs bases least top sealed keep) d (crashed_files bases runs w.files) least top (count_read d keep) (sealed && (is_settled (d.logs (last_log d)).now && keeps_all keep)) holds
    (firm_crashed w.folder.machine.base w.folder.device w.files w.rows logs bases runs holds.kept.firm) (subst (λ (v : World). IsReadable (crashed logs bases v.device)) (sym reached.1) (below.crashed_is reached.0 logs bases)) refl refl
happens_holds below w (Ends least top sealed keep) reached holds =
    let d = w.folder.device in
    opening_holds w (Restart least top sealed keep) d w.files least top (count_read d keep) (sealed && (is_settled (d.logs (last_log d)).now && keeps_all keep)) holds
    holds.kept.firm (subst (λ (v : World). IsReadable v.device) (sym reached.1) (below.ended_is reached.0)) refl refl
happens_holds below w (Rereads left least top sealed keep) reached holds =
    let d = reread left w.folder in
    opening_holds w (Reread left least top sealed keep) d w.files least top (count_read d keep) (sealed && (is_settled (d.logs (last_log d)).now && keeps_all keep)) holds
    (firm_reread w left holds) (subst (λ (v : World). IsReadable (reread left v)) (sym reached.1) (below.reread_is reached.0 left)) refl refl

pub run_holds : (below : Below) (es : List RunEvent) (w : RunWorld) → IsReached w.folder → Holds w → Holds (run es w) × IsReached (run es w).folder
run_holds below [] w reached holds = (holds, reached)
run_holds below (e ∷ es) w reached holds = run_holds below es (happens w e) (reached_on w e reached) (happens_holds below w e reached holds)

pub start_holds : Holds start
start_holds = record {
  inside = start_inside;
  kept = record {
    firm = record { goes = λ k. (tt, tt); above = λ k lt. (tt, tt); there = inl (omega arith); lists = λ k from. (tt, tt); bounded = λ r lt. (tt, tt) };
    newest = tt;
    before = tt;
    only = (tt, λ e. tt);
    newer = λ k lt. (tt, λ e. tt);
    free = λ r from. (tt, λ e. tt);
  };
  phase = tt;
  read = λ e. refl;
  calm = λ e. absurd (cc);
}

pub always : (below : Below) (es : List RunEvent) → Holds (run es start)
always below es = (run_holds below es start ([], refl) start_holds).0

-- ---- what an opening reads

run_read : (rows : List Batch) (o : Option File) → IsSealed rows o → IsRunOf rows o
run_read rows None is = is
run_read rows (Some f) is = ap (λ l. f.kept ++ l) is.1 ∙ (append-nil f.kept ∙ is.0)

pub all_read : (runs : ℕ → Entry) (rows : ℕ → List Batch) (rs : List ℕ) → AreDurable runs rows rs → AreRead rows runs rs
all_read runs rows rs all = all_weaker (IsDurable runs rows) (λ (r : ℕ). IsRunOf (rows r) (runs r).now) (λ r (is : IsDurable runs rows r). run_read (rows r) (runs r).now is.sealed) rs all

pub crash_reads : (w : RunWorld) (logs bases runs : ℕ → Keep) → Holds w → AreRead w.rows (crashed_files bases runs w.files).runs (list_read (crashed logs bases w.folder.device) (crashed_files bases runs w.files))
crash_reads w logs bases runs holds =
    let d = crashed logs bases w.folder.device in
    let f = crashed_files bases runs w.files in
    all_read f.runs w.rows (list_read d f) (read_durable w.folder.machine.base d f w.rows (firm_crashed w.folder.machine.base w.folder.device w.files w.rows logs bases runs holds.kept.firm))

pub end_reads : (w : RunWorld) → Holds w → AreRead w.rows w.files.runs (list_read w.folder.device w.files)
end_reads w holds = all_read w.files.runs w.rows (list_read w.folder.device w.files) (read_durable w.folder.machine.base w.folder.device w.files w.rows holds.kept.firm)

pub reread_reads : (w : RunWorld) (left : Keep) → Holds w → AreRead w.rows w.files.runs (list_read (reread left w.folder) w.files)
reread_reads w left holds = all_read w.files.runs w.rows (list_read (reread left w.folder) w.files) (read_durable w.folder.machine.base (reread left w.folder) w.files w.rows (firm_reread w left holds))
