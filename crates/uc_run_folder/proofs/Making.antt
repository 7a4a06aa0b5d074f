-- A checkpoint keeps what holds: runs are written and synced, and the folder makes their list.
use Rattle.std.proofs.Common.{◌≡◌, ℕ, zero, suc, ◌+◌, ◌<◌, ◌≤◌, Bool, true, false, cond, ltb, ◌⊎◌, inr, List, [], ◌∷◌, ◌++◌, append_assoc, refl, sym, ap, ◌∙◌, subst, arith}
use Rattle.std.specs.Prelude.{Some, None, max, min, length}
use Rattle.uc_folder.specs.declared.machine.Machine.{Machine}
use Rattle.uc_folder.specs.declared.phases.Checkpointer.{Checkpointer}
use Rattle.uc_folder.specs.declared.phases.Checkpointer.TheVariants.{Idle, Writing, Sealing, Renaming, Fixing, RemovingLog, RemovingBase}
use Rattle.uc_folder.specs.declared.action.Action.TheVariants.{WriteBase, NameBase, RemoveBase}
use Rattle.uc_folder.specs.Device.{Batch, File, Entry, Device, first_number, rows_of, Torn, sync_names, at, suspected, changed, stands_for}
use Rattle.uc_folder.specs.Worlds.{Outcome, Done, NotDone, PartDone, DoneUntold, device_after}
use Rattle.uc_run_folder.specs.declared.phases.Phase.{Phase}
use Rattle.uc_run_folder.specs.declared.phases.Phase.TheVariants.{Between, WritingRun, SyncingRun, NamingRuns, Listing, ReadingBack}
use Rattle.uc_run_folder.specs.Files.{Names, Files, names_for, sync_files, files_after}
use Rattle.uc_run_folder.specs.RunWorlds.{RunWorld, numbers}
use Rattle.uc_run_folder.proofs.Lists.{at_all, at_here, at_other}
use Rattle.uc_run_folder.proofs.Inside.{names_grow}
use Rattle.uc_run_folder.proofs.Keeping.{Each, IsGone, IsSealed, AreDurable, AreSealed, Goes, is_fine, Kept, kept_synced, kept_same, goes_after, all_synced, all_sealed_synced}
use Rattle.std.proofs.lemmas.Bool.{ltb-true, ltb-false}
use Rattle.uc_run_folder.specs.Files.{run_synced, new_file, change_run}
use Rattle.uc_run_folder.proofs.Lists.{all_append}
use Rattle.uc_run_folder.proofs.Keeping.{EachIf, IsHere, IsOnly, IsListOf}
use Rattle.uc_run_folder.proofs.Holding.{IsRemoving, IsWritten, FitsPhase, IsCalm, Holds}
use Rattle.uc_folder.specs.Steps.{next_checkpoint, checkpointing, may_begin, removing_from, removing_after}
use Rattle.uc_run_folder.specs.Steps.{listing_in}
use Rattle.uc_run_folder.specs.RunWorlds.{Checkpointing, seen_by, happens}
use Rattle.uc_run_folder.proofs.Inside.{run_inside}
use Rattle.uc_run_folder.proofs.Runs.{Keeps, runs_kept, written_stays, rows_stay, sealed_written, others_gone, others_if, suspected_keeps, synced_keeps, both_keep, with_change, changed_stays, changed_seals, changed_gone, changed_if, written_synced}

-- ---- a run is written

module _ (w : RunWorld) (n past r last : ℕ) (new : List Batch) (holds : Holds (record w { phase = WritingRun n past r last })) where
  abbrev f : Files
  f = w.files

  is_small : r < w.next
  is_small = let until = holds.phase.1.until in let below = holds.phase.1.below in omega (arith, until, below)

  gone : IsGone (f.runs r).now
  gone = (holds.phase.2 r (omega arith)).0

  idle : IsRemoving w.folder.machine.checkpointer
  idle = subst IsRemoving (sym holds.phase.0.0) tt

  named_kept : (e : Entry) → Kept w.folder.machine.base w.folder.machine.tried (is_fine w.folder.machine.writer) w.folder.device (record f { runs = at r e f.runs; bound = max f.bound r }) w.next w.named w.older (at r new w.rows)
  named_kept e =
      let small = is_small in
      runs_kept w.folder.machine.base w.folder.machine.tried (is_fine w.folder.machine.writer) w.folder.device f w.next w.named w.older w.rows holds.kept (at r e f.runs) (max f.bound r) (at r new w.rows)
      (written_stays f.runs w.rows r e new gone)
      (λ i from. others_if (is_fine w.folder.machine.writer) f.runs r e i (λ same. omega (arith, small, from, same)) (holds.kept.free i from))
      (λ i lt. others_gone f.runs r e i (λ same. omega (arith, lt, same)) (holds.kept.firm.bounded i (omega (arith, lt))))

  same_kept : Kept w.folder.machine.base w.folder.machine.tried (is_fine w.folder.machine.writer) w.folder.device f w.next w.named w.older (at r new w.rows)
  same_kept = runs_kept w.folder.machine.base w.folder.machine.tried (is_fine w.folder.machine.writer) w.folder.device f w.next w.named w.older w.rows holds.kept f.runs f.bound (at r new w.rows)
      (rows_stay f.runs w.rows r new gone) holds.kept.free holds.kept.firm.bounded

  abbrev file : Entry
  file = stands_for (Some (new_file (rows_of new))) (f.runs r)

  written : IsWritten (at r new w.rows r) (at r file f.runs r).now
  written = subst (λ l. IsWritten l (at r file f.runs r).now) (sym (at_here r new w.rows)) (subst (λ (x : Entry). IsWritten new x.now) (sym (at_here r file f.runs)) (refl, refl, refl, refl))

  pub writing_holds : (o : Outcome) → Holds (happens (record w { phase = WritingRun n past r last }) (Checkpointing o new))
  writing_holds Done = record {
    inside = holds.inside;
    kept = named_kept file;
    phase = (
      holds.phase.0,
      record {
        done = holds.phase.1.done;
        rest = holds.phase.1.rest;
        split = holds.phase.1.split;
        until = holds.phase.1.until;
        below = holds.phase.1.below;
        sealed = sealed_written f.runs w.rows r file new gone holds.phase.1.done holds.phase.1.sealed;
      },
      (λ i from. others_gone f.runs r file i (λ same. omega (arith, from, same)) (holds.phase.2 i (omega (arith, from)))),
      written,
    );
    read = holds.read;
    calm = λ e. tt;
  }
  writing_holds NotDone = record { inside = holds.inside; kept = same_kept; phase = idle; read = holds.read; calm = λ e. subst (IsCalm Between) (sym holds.phase.0.0) tt }
  writing_holds PartDone = record { inside = holds.inside; kept = named_kept (stands_for (Some (new_file (Torn ∷ []))) (f.runs r)); phase = idle; read = holds.read; calm = λ e. subst (IsCalm Between) (sym holds.phase.0.0) tt }
  writing_holds DoneUntold = record { inside = holds.inside; kept = named_kept file; phase = idle; read = holds.read; calm = λ e. subst (IsCalm Between) (sym holds.phase.0.0) tt }

-- ---- a run is synced

module _ (w : RunWorld) (n past r last : ℕ) (new : List Batch) (holds : Holds (record w { phase = SyncingRun n past r last })) where
  abbrev g : Files
  g = w.files

  idle' : IsRemoving w.folder.machine.checkpointer
  idle' = subst IsRemoving (sym holds.phase.0.0) tt

  changed_kept : (change : File → File) → Keeps change → Kept w.folder.machine.base w.folder.machine.tried (is_fine w.folder.machine.writer) w.folder.device (change_run r change g) w.next w.named w.older w.rows
  changed_kept change keeps =
      runs_kept w.folder.machine.base w.folder.machine.tried (is_fine w.folder.machine.writer) w.folder.device g w.next w.named w.older w.rows holds.kept (with_change change keeps g.runs r) g.bound w.rows
      (changed_stays change keeps g.runs r w.rows)
      (λ i from. changed_if change keeps g.runs r (is_fine w.folder.machine.writer) i (holds.kept.free i from))
      (λ i lt. changed_gone change keeps g.runs r i (holds.kept.firm.bounded i lt))

  abbrev synced_runs : ℕ → Entry
  synced_runs = with_change run_synced synced_keeps g.runs r

  -- all runs up to this one
  done_sealed : AreSealed synced_runs w.rows (holds.phase.1.done ++ r ∷ [])
  done_sealed =
      all_append (λ (i : ℕ). IsSealed (w.rows i) (synced_runs i).now) holds.phase.1.done (r ∷ []) (changed_seals run_synced synced_keeps g.runs r w.rows holds.phase.1.done holds.phase.1.sealed)
      (subst (λ (x : Entry). IsSealed (w.rows r) x.now) (sym (at_here r (changed run_synced (g.runs r)) g.runs)) (written_synced (w.rows r) (g.runs r).now (g.runs r).before holds.phase.3), tt)

  goes_on : (rest : ℕ) → w.draft ≡ holds.phase.1.done ++ r ∷ numbers (suc r) rest → r + rest ≡ last → (b : Bool) → ltb r last ≡ b →
      FitsPhase w.folder.machine.base w.folder.machine.checkpointer (change_run r run_synced g) w.rows w.draft w.next (cond b (WritingRun n past (r + 1) last) (NamingRuns n past))
  goes_on zero split until true e = absurd (let lt = ltb-true r last e in omega (arith, lt, until))
  goes_on (suc rest) split until true e =
      let one : suc r ≡ r + 1 = omega arith in (
        holds.phase.0,
        record {
          done = holds.phase.1.done ++ r ∷ [];
          rest = rest;
          split = split ∙ (sym (append_assoc holds.phase.1.done (r ∷ []) (suc r ∷ numbers (suc (suc r)) rest)) ∙ ap (λ i. (holds.phase.1.done ++ r ∷ []) ++ i ∷ numbers (suc i) rest) one);
          until = omega (arith, until);
          below = holds.phase.1.below;
          sealed = done_sealed;
        },
        λ i from. changed_gone run_synced synced_keeps g.runs r i (holds.phase.2 i (omega (arith, from))),
      )
  goes_on zero split until false e = (holds.phase.0, subst (AreSealed synced_runs w.rows) (sym split) done_sealed)
  goes_on (suc rest) split until false e = absurd (let le = ltb-false r last e in omega (arith, le, until))

  calm_after : (b : Bool) → IsCalm (cond b (WritingRun n past (r + 1) last) (NamingRuns n past)) w.folder.machine.checkpointer
  calm_after true = tt
  calm_after false = tt

  pub syncing_holds : (o : Outcome) → Holds (happens (record w { phase = SyncingRun n past r last }) (Checkpointing o new))
  syncing_holds Done = record {
    inside = holds.inside;
    kept = changed_kept run_synced synced_keeps;
    phase = goes_on holds.phase.1.rest holds.phase.1.split holds.phase.1.until (ltb r last) refl;
    read = holds.read;
    calm = λ e. calm_after (ltb r last);
  }
  syncing_holds NotDone = record { inside = holds.inside; kept = changed_kept suspected suspected_keeps; phase = idle'; read = holds.read; calm = λ e. subst (IsCalm Between) (sym holds.phase.0.0) tt }
  syncing_holds PartDone = record { inside = holds.inside; kept = changed_kept suspected suspected_keeps; phase = idle'; read = holds.read; calm = λ e. subst (IsCalm Between) (sym holds.phase.0.0) tt }
  syncing_holds DoneUntold = record { inside = holds.inside; kept = changed_kept (λ file. suspected (run_synced file)) both_keep; phase = idle'; read = holds.read; calm = λ e. subst (IsCalm Between) (sym holds.phase.0.0) tt }

-- ---- the folder's checkpointer

module _ (w : RunWorld) where
  -- the world in a phase
  abbrev pub here : Phase → Checkpointer → RunWorld
  here p c = record w { phase = p; folder = record w.folder { machine = record w.folder.machine { checkpointer = c } } }

  abbrev m : Machine
  m = w.folder.machine

  abbrev d : Device
  d = w.folder.device

  abbrev fine : Bool
  fine = is_fine w.folder.machine.writer

  -- what is kept, while the names of lists stay
  stays : (o : Outcome) (p : Phase) (c : Checkpointer) (tried : ℕ) → m.tried ≤ tried → Holds (here p c) → files_after o w.draft (next_checkpoint c) w.files ≡ w.files →
      Kept m.base tried fine (device_after o w.folder.batch w.folder.parts d (next_checkpoint c)) w.files w.next w.named w.older w.rows
  stays o p c tried le holds same =
      let goes : (k : ℕ) → Goes ((device_after o w.folder.batch w.folder.parts d (next_checkpoint c)).bases k) (w.files.lists k) =
      λ k. subst (λ (f : Files). Goes ((device_after o w.folder.batch w.folder.parts d (next_checkpoint c)).bases k) (f.lists k)) same (goes_after o w.folder.batch w.folder.parts d w.draft w.files (next_checkpoint c) holds.kept.firm.goes k) in
      let kept = kept_same m.base m.tried fine fine d (device_after o w.folder.batch w.folder.parts d (next_checkpoint c)) w.files w.next w.named w.older w.rows holds.kept (names_grow o w.folder.batch w.folder.parts d (next_checkpoint c)) goes (λ e. e) in
      record { firm = kept.firm; newest = kept.newest; before = kept.before; only = kept.only; newer = λ k lt. kept.newer k (omega (arith, le, lt)); free = kept.free }

  begun_listing : (n past most : ℕ) (b : Bool) → m.base < n → AreSealed w.files.runs w.rows w.draft → FitsPhase m.base (checkpointing Idle b n most) (sync_files w.files) w.rows w.draft w.next (listing_in (checkpointing Idle b n most))
  begun_listing n past most true lt is = (all_sealed_synced w.files w.rows w.draft is, lt)
  begun_listing n past most false lt is = tt

  synced_kept : (p : Phase) (c : Checkpointer) → Holds (here p c) → Kept m.base m.tried fine (sync_names d) (sync_files w.files) w.next w.named w.older w.rows
  synced_kept p c holds = kept_synced m.base m.tried fine fine d (sync_names d) w.files w.next w.named w.older w.rows holds.kept (omega arith) (λ k. ((holds.kept.firm.goes k).0, tt))

  begun_calm : (n most : ℕ) (b : Bool) → IsCalm (listing_in (checkpointing Idle b n most)) (checkpointing Idle b n most)
  begun_calm n most true = tt
  begun_calm n most false = tt

  pub naming_holds : (n past : ℕ) (c : Checkpointer) (o : Outcome) (new : List Batch) → Holds (here (NamingRuns n past) c) → Holds (happens (here (NamingRuns n past) c) (Checkpointing o new))
  naming_holds n past Idle Done new holds = record {
    inside = run_inside (seen_by (NamingRuns n past) Done) (here (NamingRuns n past) Idle).folder holds.inside;
    kept = synced_kept (NamingRuns n past) Idle holds;
    phase = begun_listing n past (min past (length (w.folder.parts n))) (may_begin (here (NamingRuns n past) Idle).folder.machine n (min past (length (w.folder.parts n)))) holds.phase.0.1 holds.phase.1;
    read = holds.read;
    calm = λ e. begun_calm n (min past (length (w.folder.parts n))) (may_begin (here (NamingRuns n past) Idle).folder.machine n (min past (length (w.folder.parts n))));
  }
  naming_holds n past Idle NotDone new holds = record { inside = holds.inside; kept = holds.kept; phase = tt; read = holds.read; calm = λ e. tt }
  naming_holds n past Idle PartDone new holds = record { inside = holds.inside; kept = holds.kept; phase = tt; read = holds.read; calm = λ e. tt }
  naming_holds n past Idle DoneUntold new holds = record {
    inside = run_inside (seen_by (NamingRuns n past) DoneUntold) (here (NamingRuns n past) Idle).folder holds.inside;
    kept = synced_kept (NamingRuns n past) Idle holds;
    phase = tt;
    read = holds.read;
    calm = λ e. tt;
  }
  naming_holds n past c o new holds = absurd (let e = holds.phase.0.0 in cc)

  -- ---- a list gets its name, or loses it

  list_named : (p : Phase) (n past : ℕ) (d' : Device) → Holds (here p (Renaming n past)) → m.base < n → AreDurable w.files.runs w.rows w.files.partial → d.names ≤ d'.names →
      ((k : ℕ) → Goes (d'.bases k) (at n (names_for (Some w.files.partial) (w.files.lists n)) w.files.lists k)) →
      Kept m.base n fine d' (record w.files { lists = at n (names_for (Some w.files.partial) (w.files.lists n)) w.files.lists }) w.next w.named w.older w.rows
  list_named p n past d' holds from durable le goes =
      let lists' = at n (names_for (Some w.files.partial) (w.files.lists n)) w.files.lists in
      let same : (k : ℕ) → (k ≡ n → ⊥) → w.files.lists k ≡ lists' k = λ k ne. sym (at_other n (names_for (Some w.files.partial) (w.files.lists n)) w.files.lists k ne) in
      let base_same : w.files.lists m.base ≡ lists' m.base = same m.base (λ e. omega (arith, from, e)) in
      let late = holds.inside.check.late in
      let to = holds.inside.check.to in
      record {
        firm = record {
          goes = goes;
          above = λ k lt. subst (λ (l : Names). Each IsGone l.now l.before) (same k (λ e. omega (arith, le, to, lt, e))) (holds.kept.firm.above k (omega (arith, le, lt)));
          there = subst (λ (l : Names). (m.base ≤ first_number) ⊎ Each IsHere l.now l.before) base_same holds.kept.firm.there;
          lists = λ k above.
              at_all (λ (i : ℕ) (l : Names). m.base ≤ i → Each (IsListOf w.files.runs w.rows) l.now l.before) n (names_for (Some w.files.partial) (w.files.lists n)) w.files.lists k
              (λ e le'. (durable, holds.kept.firm.lists n (omega (arith, from)))) (λ ne le'. holds.kept.firm.lists k le') above;
          bounded = holds.kept.firm.bounded;
        };
        newest = holds.kept.newest;
        before = holds.kept.before;
        only = subst (λ (l : Names). EachIf fine (IsOnly w.named) l.now l.before) base_same holds.kept.only;
        newer = λ k lt. subst (λ (l : Names). EachIf fine IsGone l.now l.before) (same k (λ e. omega (arith, lt, e))) (holds.kept.newer k (omega (arith, late, lt)));
        free = holds.kept.free;
      }

  list_removed : (p : Phase) (n : ℕ) (d' : Device) → Holds (here p (RemovingBase n)) → d.names ≤ d'.names →
      ((k : ℕ) → Goes (d'.bases k) (at n (names_for None (w.files.lists n)) w.files.lists k)) →
      Kept m.base m.tried fine d' (record w.files { lists = at n (names_for None (w.files.lists n)) w.files.lists }) w.next w.named w.older w.rows
  list_removed p n d' holds le goes =
      let lists' = at n (names_for None (w.files.lists n)) w.files.lists in
      let same : (k : ℕ) → (k ≡ n → ⊥) → w.files.lists k ≡ lists' k = λ k ne. sym (at_other n (names_for None (w.files.lists n)) w.files.lists k ne) in
      let below = holds.inside.check in
      let order = holds.inside.order in
      let base_same : w.files.lists m.base ≡ lists' m.base = same m.base (λ e. omega (arith, below, e)) in
      record {
        firm = record {
          goes = goes;
          above = λ k lt.
              at_all (λ (i : ℕ) (l : Names). d.names < i → Each IsGone l.now l.before) n (names_for None (w.files.lists n)) w.files.lists k
              (λ e lt'. (tt, (holds.kept.firm.above n (subst (λ i. d.names < i) e lt')))) (λ ne lt'. holds.kept.firm.above k lt') (omega (arith, le, lt));
          there = subst (λ (l : Names). (m.base ≤ first_number) ⊎ Each IsHere l.now l.before) base_same holds.kept.firm.there;
          lists = λ k above. subst (λ (l : Names). Each (IsListOf w.files.runs w.rows) l.now l.before) (same k (λ e. omega (arith, below, above, e))) (holds.kept.firm.lists k above);
          bounded = holds.kept.firm.bounded;
        };
        newest = holds.kept.newest;
        before = holds.kept.before;
        only = subst (λ (l : Names). EachIf fine (IsOnly w.named) l.now l.before) base_same holds.kept.only;
        newer = λ k lt. subst (λ (l : Names). EachIf fine IsGone l.now l.before) (same k (λ e. omega (arith, lt, order, below, e))) (holds.kept.newer k lt);
        free = holds.kept.free;
      }

  -- the list whose name is synced is the newest one
  list_fixed : (n past : ℕ) → Holds (here Listing (Fixing n past)) → Kept n m.tried fine (sync_names d) (sync_files w.files) w.next w.draft w.named w.rows
  list_fixed n past holds =
      let now = holds.phase.1.1 in
      let from = holds.phase.1.0 in
      let kept = synced_kept Listing (Fixing n past) holds in
      record {
        firm = record {
          goes = kept.firm.goes;
          above = kept.firm.above;
          there = inr (subst IsHere (sym now) tt, tt);
          lists = λ k le. kept.firm.lists k (omega (arith, from, le));
          bounded = kept.firm.bounded;
        };
        newest = all_synced w.files w.rows w.draft holds.phase.0;
        before = kept.newest;
        only = (subst (IsOnly w.draft) (sym now) refl, λ e. tt);
        newer = kept.newer;
        free = kept.free;
      }

  with_partial : (d' : Device) → Kept m.base m.tried fine d w.files w.next w.named w.older w.rows → ((k : ℕ) → Goes (d'.bases k) (w.files.lists k)) → d.names ≤ d'.names →
      Kept m.base m.tried fine d' (record w.files { partial = w.draft }) w.next w.named w.older w.rows
  with_partial d' kept goes le = record {
    firm = record { goes = goes; above = λ k lt. kept.firm.above k (omega (arith, le, lt)); there = kept.firm.there; lists = kept.firm.lists; bounded = kept.firm.bounded };
    newest = kept.newest;
    before = kept.before;
    only = kept.only;
    newer = kept.newer;
    free = kept.free;
  }

  -- a list that was read back makes older ones obsolete
  read_kept : (c : Checkpointer) → Holds (here ReadingBack c) → Kept m.base m.tried fine d w.files w.next w.named [] w.rows
  read_kept c holds = record { firm = holds.kept.firm; newest = holds.kept.newest; before = tt; only = holds.kept.only; newer = holds.kept.newer; free = holds.kept.free }

  removing : (k base : ℕ) → IsRemoving (removing_from k base)
  removing k base = by_test (ltb k base)
    where
      by_test : (b : Bool) → IsRemoving (cond b (RemovingLog k) Idle)
      by_test true = tt
      by_test false = tt

  removing_next : (k base : ℕ) → IsRemoving (removing_after k base)
  removing_next k base = by_test (ltb k base)
    where
      by_test : (b : Bool) → IsRemoving (cond b (removing_from (k + 1) base) Idle)
      by_test true = removing (k + 1) base
      by_test false = tt

  goes_with : (o : Outcome) (p : Phase) (c : Checkpointer) → Holds (here p c) → (k : ℕ) → Goes ((device_after o w.folder.batch w.folder.parts d (next_checkpoint c)).bases k) ((files_after o w.draft (next_checkpoint c) w.files).lists k)
  goes_with o p c holds = goes_after o w.folder.batch w.folder.parts d w.draft w.files (next_checkpoint c) holds.kept.firm.goes

  names_with : (o : Outcome) (c : Checkpointer) → d.names ≤ (device_after o w.folder.batch w.folder.parts d (next_checkpoint c)).names
  names_with o c = names_grow o w.folder.batch w.folder.parts d (next_checkpoint c)

  pub between_holds : (c : Checkpointer) (o : Outcome) (new : List Batch) → Holds (here Between c) → Holds (happens (here Between c) (Checkpointing o new))
  between_holds Idle Done new holds = record { inside = run_inside (seen_by Between Done) (here Between Idle).folder holds.inside; kept = stays Done Between Idle m.tried (omega arith) holds refl; phase = tt; read = holds.read; calm = λ e. tt }
  between_holds Idle NotDone new holds = record { inside = run_inside (seen_by Between NotDone) (here Between Idle).folder holds.inside; kept = stays NotDone Between Idle m.tried (omega arith) holds refl; phase = tt; read = holds.read; calm = λ e. tt }
  between_holds Idle PartDone new holds = record { inside = run_inside (seen_by Between PartDone) (here Between Idle).folder holds.inside; kept = stays PartDone Between Idle m.tried (omega arith) holds refl; phase = tt; read = holds.read; calm = λ e. tt }
  between_holds Idle DoneUntold new holds = record { inside = run_inside (seen_by Between DoneUntold) (here Between Idle).folder holds.inside; kept = stays DoneUntold Between Idle m.tried (omega arith) holds refl; phase = tt; read = holds.read; calm = λ e. tt }
  between_holds (RemovingLog k) Done new holds = record { inside = run_inside (seen_by Between Done) (here Between (RemovingLog k)).folder holds.inside; kept = stays Done Between (RemovingLog k) m.tried (omega arith) holds refl; phase = tt; read = holds.read; calm = λ e. absurd (holds.calm e) }
  between_holds (RemovingLog k) NotDone new holds = record { inside = run_inside (seen_by Between NotDone) (here Between (RemovingLog k)).folder holds.inside; kept = stays NotDone Between (RemovingLog k) m.tried (omega arith) holds refl; phase = tt; read = holds.read; calm = λ e. absurd (holds.calm e) }
  between_holds (RemovingLog k) PartDone new holds = record { inside = run_inside (seen_by Between PartDone) (here Between (RemovingLog k)).folder holds.inside; kept = stays PartDone Between (RemovingLog k) m.tried (omega arith) holds refl; phase = tt; read = holds.read; calm = λ e. absurd (holds.calm e) }
  between_holds (RemovingLog k) DoneUntold new holds = record { inside = run_inside (seen_by Between DoneUntold) (here Between (RemovingLog k)).folder holds.inside; kept = stays DoneUntold Between (RemovingLog k) m.tried (omega arith) holds refl; phase = tt; read = holds.read; calm = λ e. absurd (holds.calm e) }
  between_holds (RemovingBase k) Done new holds = record { inside = run_inside (seen_by Between Done) (here Between (RemovingBase k)).folder holds.inside; kept = list_removed Between k (device_after Done w.folder.batch w.folder.parts d (RemoveBase k)) holds (names_with Done (RemovingBase k)) (goes_with Done Between (RemovingBase k) holds); phase = removing_next k m.base; read = holds.read; calm = λ e. absurd (holds.calm e) }
  between_holds (RemovingBase k) NotDone new holds = record { inside = run_inside (seen_by Between NotDone) (here Between (RemovingBase k)).folder holds.inside; kept = stays NotDone Between (RemovingBase k) m.tried (omega arith) holds refl; phase = tt; read = holds.read; calm = λ e. absurd (holds.calm e) }
  between_holds (RemovingBase k) PartDone new holds = record { inside = run_inside (seen_by Between PartDone) (here Between (RemovingBase k)).folder holds.inside; kept = stays PartDone Between (RemovingBase k) m.tried (omega arith) holds refl; phase = tt; read = holds.read; calm = λ e. absurd (holds.calm e) }
  between_holds (RemovingBase k) DoneUntold new holds = record { inside = run_inside (seen_by Between DoneUntold) (here Between (RemovingBase k)).folder holds.inside; kept = list_removed Between k (device_after DoneUntold w.folder.batch w.folder.parts d (RemoveBase k)) holds (names_with DoneUntold (RemovingBase k)) (goes_with DoneUntold Between (RemovingBase k) holds); phase = tt; read = holds.read; calm = λ e. absurd (holds.calm e) }
  between_holds c o new holds = absurd holds.phase

  -- the list under the temporary name isn't read
  partial_kept : (o : Outcome) (n past : ℕ) → Holds (here Listing (Writing n past)) → Kept m.base m.tried fine (device_after o w.folder.batch w.folder.parts d (WriteBase n past)) (record w.files { partial = w.draft }) w.next w.named w.older w.rows
  partial_kept Done n past holds = with_partial (device_after Done w.folder.batch w.folder.parts d (WriteBase n past)) (holds.kept) (λ k. holds.kept.firm.goes k) (omega arith)
  partial_kept NotDone n past holds = with_partial (device_after NotDone w.folder.batch w.folder.parts d (WriteBase n past)) (holds.kept) (λ k. holds.kept.firm.goes k) (omega arith)
  partial_kept PartDone n past holds = with_partial (device_after PartDone w.folder.batch w.folder.parts d (WriteBase n past)) (holds.kept) (λ k. holds.kept.firm.goes k) (omega arith)
  partial_kept DoneUntold n past holds = with_partial (device_after DoneUntold w.folder.batch w.folder.parts d (WriteBase n past)) (holds.kept) (λ k. holds.kept.firm.goes k) (omega arith)

  pub listing_holds : (c : Checkpointer) (o : Outcome) (new : List Batch) → Holds (here Listing c) → Holds (happens (here Listing c) (Checkpointing o new))
  listing_holds (Writing n past) Done new holds = record { inside = run_inside (seen_by Listing Done) (here Listing (Writing n past)).folder holds.inside; kept = partial_kept Done n past holds; phase = (holds.phase.0, (holds.phase.1, refl)); read = holds.read; calm = λ e. tt }
  listing_holds (Writing n past) NotDone new holds = record { inside = run_inside (seen_by Listing NotDone) (here Listing (Writing n past)).folder holds.inside; kept = stays NotDone Listing (Writing n past) m.tried (omega arith) holds refl; phase = tt; read = holds.read; calm = λ e. tt }
  listing_holds (Writing n past) PartDone new holds = record { inside = run_inside (seen_by Listing PartDone) (here Listing (Writing n past)).folder holds.inside; kept = stays PartDone Listing (Writing n past) m.tried (omega arith) holds refl; phase = tt; read = holds.read; calm = λ e. tt }
  listing_holds (Writing n past) DoneUntold new holds = record { inside = run_inside (seen_by Listing DoneUntold) (here Listing (Writing n past)).folder holds.inside; kept = partial_kept DoneUntold n past holds; phase = tt; read = holds.read; calm = λ e. tt }
  listing_holds (Sealing n past) Done new holds = record { inside = run_inside (seen_by Listing Done) (here Listing (Sealing n past)).folder holds.inside; kept = stays Done Listing (Sealing n past) m.tried (omega arith) holds refl; phase = (holds.phase.0, holds.phase.1); read = holds.read; calm = λ e. tt }
  listing_holds (Sealing n past) NotDone new holds = record { inside = run_inside (seen_by Listing NotDone) (here Listing (Sealing n past)).folder holds.inside; kept = stays NotDone Listing (Sealing n past) m.tried (omega arith) holds refl; phase = tt; read = holds.read; calm = λ e. tt }
  listing_holds (Sealing n past) PartDone new holds = record { inside = run_inside (seen_by Listing PartDone) (here Listing (Sealing n past)).folder holds.inside; kept = stays PartDone Listing (Sealing n past) m.tried (omega arith) holds refl; phase = tt; read = holds.read; calm = λ e. tt }
  listing_holds (Sealing n past) DoneUntold new holds = record { inside = run_inside (seen_by Listing DoneUntold) (here Listing (Sealing n past)).folder holds.inside; kept = stays DoneUntold Listing (Sealing n past) m.tried (omega arith) holds refl; phase = tt; read = holds.read; calm = λ e. tt }
  listing_holds (Renaming n past) Done new holds = record { inside = run_inside (seen_by Listing Done) (here Listing (Renaming n past)).folder holds.inside; kept = list_named Listing n past (device_after Done w.folder.batch w.folder.parts d (NameBase n past)) holds holds.phase.1.0 (subst (AreDurable w.files.runs w.rows) (sym holds.phase.1.1) holds.phase.0) (names_with Done (Renaming n past)) (goes_with Done Listing (Renaming n past) holds); phase = (holds.phase.0, (holds.phase.1.0, ap (λ (l : Names). l.now) (at_here n (names_for (Some w.files.partial) (w.files.lists n)) w.files.lists) ∙ ap (λ l. Some l) holds.phase.1.1)); read = holds.read; calm = λ e. tt }
  listing_holds (Renaming n past) NotDone new holds = record { inside = run_inside (seen_by Listing NotDone) (here Listing (Renaming n past)).folder holds.inside; kept = stays NotDone Listing (Renaming n past) n holds.inside.check.late holds refl; phase = tt; read = holds.read; calm = λ e. tt }
  listing_holds (Renaming n past) PartDone new holds = record { inside = run_inside (seen_by Listing PartDone) (here Listing (Renaming n past)).folder holds.inside; kept = stays PartDone Listing (Renaming n past) n holds.inside.check.late holds refl; phase = tt; read = holds.read; calm = λ e. tt }
  listing_holds (Renaming n past) DoneUntold new holds = record { inside = run_inside (seen_by Listing DoneUntold) (here Listing (Renaming n past)).folder holds.inside; kept = list_named Listing n past (device_after DoneUntold w.folder.batch w.folder.parts d (NameBase n past)) holds holds.phase.1.0 (subst (AreDurable w.files.runs w.rows) (sym holds.phase.1.1) holds.phase.0) (names_with DoneUntold (Renaming n past)) (goes_with DoneUntold Listing (Renaming n past) holds); phase = tt; read = holds.read; calm = λ e. tt }
  listing_holds (Fixing n past) Done new holds = record { inside = run_inside (seen_by Listing Done) (here Listing (Fixing n past)).folder holds.inside; kept = list_fixed n past holds; phase = removing m.least n; read = (λ e. absurd (cc)); calm = λ e. tt }
  listing_holds (Fixing n past) NotDone new holds = record { inside = run_inside (seen_by Listing NotDone) (here Listing (Fixing n past)).folder holds.inside; kept = stays NotDone Listing (Fixing n past) m.tried (omega arith) holds refl; phase = tt; read = holds.read; calm = λ e. tt }
  listing_holds (Fixing n past) PartDone new holds = record { inside = run_inside (seen_by Listing PartDone) (here Listing (Fixing n past)).folder holds.inside; kept = stays PartDone Listing (Fixing n past) m.tried (omega arith) holds refl; phase = tt; read = holds.read; calm = λ e. tt }
  listing_holds (Fixing n past) DoneUntold new holds = record { inside = run_inside (seen_by Listing DoneUntold) (here Listing (Fixing n past)).folder holds.inside; kept = synced_kept Listing (Fixing n past) holds; phase = tt; read = holds.read; calm = λ e. tt }
  listing_holds c o new holds = absurd holds.phase.1

  pub reading_holds : (c : Checkpointer) (o : Outcome) (new : List Batch) → Holds (here ReadingBack c) → Holds (happens (here ReadingBack c) (Checkpointing o new))
  reading_holds Idle Done new holds = record { inside = holds.inside; kept = read_kept Idle holds; phase = tt; read = λ e. refl; calm = λ e. absurd (cc) }
  reading_holds Idle NotDone new holds = record { inside = run_inside (seen_by ReadingBack NotDone) (here ReadingBack Idle).folder holds.inside; kept = stays NotDone ReadingBack Idle m.tried (omega arith) holds refl; phase = tt; read = holds.read; calm = λ e. tt }
  reading_holds Idle PartDone new holds = record { inside = run_inside (seen_by ReadingBack PartDone) (here ReadingBack Idle).folder holds.inside; kept = stays NotDone ReadingBack Idle m.tried (omega arith) holds refl; phase = tt; read = holds.read; calm = λ e. tt }
  reading_holds Idle DoneUntold new holds = record { inside = run_inside (seen_by ReadingBack DoneUntold) (here ReadingBack Idle).folder holds.inside; kept = stays NotDone ReadingBack Idle m.tried (omega arith) holds refl; phase = tt; read = holds.read; calm = λ e. tt }
  reading_holds (RemovingLog k) Done new holds = record { inside = holds.inside; kept = read_kept (RemovingLog k) holds; phase = tt; read = λ e. refl; calm = λ e. absurd (cc) }
  reading_holds (RemovingLog k) NotDone new holds = record { inside = run_inside (seen_by ReadingBack NotDone) (here ReadingBack (RemovingLog k)).folder holds.inside; kept = stays NotDone ReadingBack (RemovingLog k) m.tried (omega arith) holds refl; phase = tt; read = holds.read; calm = λ e. tt }
  reading_holds (RemovingLog k) PartDone new holds = record { inside = run_inside (seen_by ReadingBack PartDone) (here ReadingBack (RemovingLog k)).folder holds.inside; kept = stays NotDone ReadingBack (RemovingLog k) m.tried (omega arith) holds refl; phase = tt; read = holds.read; calm = λ e. tt }
  reading_holds (RemovingLog k) DoneUntold new holds = record { inside = run_inside (seen_by ReadingBack DoneUntold) (here ReadingBack (RemovingLog k)).folder holds.inside; kept = stays NotDone ReadingBack (RemovingLog k) m.tried (omega arith) holds refl; phase = tt; read = holds.read; calm = λ e. tt }
  reading_holds (RemovingBase k) Done new holds = record { inside = holds.inside; kept = read_kept (RemovingBase k) holds; phase = tt; read = λ e. refl; calm = λ e. absurd (cc) }
  reading_holds (RemovingBase k) NotDone new holds = record { inside = run_inside (seen_by ReadingBack NotDone) (here ReadingBack (RemovingBase k)).folder holds.inside; kept = stays NotDone ReadingBack (RemovingBase k) m.tried (omega arith) holds refl; phase = tt; read = holds.read; calm = λ e. tt }
  reading_holds (RemovingBase k) PartDone new holds = record { inside = run_inside (seen_by ReadingBack PartDone) (here ReadingBack (RemovingBase k)).folder holds.inside; kept = stays NotDone ReadingBack (RemovingBase k) m.tried (omega arith) holds refl; phase = tt; read = holds.read; calm = λ e. tt }
  reading_holds (RemovingBase k) DoneUntold new holds = record { inside = run_inside (seen_by ReadingBack DoneUntold) (here ReadingBack (RemovingBase k)).folder holds.inside; kept = stays NotDone ReadingBack (RemovingBase k) m.tried (omega arith) holds refl; phase = tt; read = holds.read; calm = λ e. tt }
  reading_holds c o new holds = absurd holds.phase

pub checkpoint_holds : (w : RunWorld) (p : Phase) (o : Outcome) (new : List Batch) → Holds (record w { phase = p }) → Holds (happens (record w { phase = p }) (Checkpointing o new))
checkpoint_holds w Between o new holds = between_holds w w.folder.machine.checkpointer o new holds
checkpoint_holds w (WritingRun n past r last) o new holds = writing_holds w n past r last new holds o
checkpoint_holds w (SyncingRun n past r last) o new holds = syncing_holds w n past r last new holds o
checkpoint_holds w (NamingRuns n past) o new holds = naming_holds w n past w.folder.machine.checkpointer o new holds
checkpoint_holds w Listing o new holds = listing_holds w w.folder.machine.checkpointer o new holds
checkpoint_holds w ReadingBack o new holds = reading_holds w w.folder.machine.checkpointer o new holds
