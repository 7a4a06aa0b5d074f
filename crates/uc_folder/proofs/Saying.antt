-- All is acknowledged that the machine counts as synced, and a sync covers all that was appended before it.
use Rattle.std.proofs.Common.{◌≡◌, ℕ, suc, ◌+◌, ◌≤◌, Bool, true, ◌&&◌, List, [], ◌∷◌, ◌++◌, length, take, refl, sym, ap, ◌∙◌, subst, arith}
use Rattle.std.specs.Prelude.{Option}
use Rattle.std.proofs.lemmas.Bool.{and_parts}
use Rattle.std.proofs.lemmas.List.{append-nil, take-append-le}
use Rattle.uc_folder.specs.declared.machine.Machine.{Machine}
use Rattle.uc_folder.specs.declared.phases.Writer.{Writer}
use Rattle.uc_folder.specs.declared.phases.Writer.TheVariants.{Making, Settling, Ready, Syncing, Both, Spoiled, Closing, Failed, Mending}
use Rattle.uc_folder.specs.declared.phases.Checkpointer.{Checkpointer}
use Rattle.uc_folder.specs.Device.{Batch, Device, upto, at, last_log, crashed}
use Rattle.uc_folder.specs.Steps.{is_open, opened}
use Rattle.uc_folder.specs.Worlds.{World, IsPrefixOf, Outcome, Done, NotDone, PartDone, DoneUntold, Event, Submit, AskSync, AskNext, AskSwitch, AskCheckpoint, Writes, Makes, Syncs, Checkpoints, Crash, Restart, SyncsNames, Reread, reread, first_of, is_beside, are_beside, found, is_settled, keeps_all, begun_by, parts_read, count_read, opens, happens, run, start}
use Rattle.uc_folder.proofs.Lists.{take_grows, prefix_refl, prefix_trans, prefix_under, upto_same, upto_more, at_here, at_other}
use Rattle.uc_folder.proofs.Sound.{Sound}
use Rattle.uc_folder.proofs.Holding.{Keeps}
use Rattle.uc_folder.proofs.Opening.{j, own, j_below, upto_own}
use Rattle.uc_folder.proofs.Reopening.{begun_log, begun_synced, opened_says}
use Rattle.uc_folder.proofs.Changes.{reread_sound}
use Rattle.uc_folder.proofs.Writing.{world, take_counted, take_twice}
use Rattle.uc_folder.proofs.Adding.{marked_count}
use Rattle.uc_folder.proofs.Next.{HasNext, next_happens}
use Rattle.uc_folder.proofs.Histories.{crashed_sound, happens_keeps, start_next, start_keeps}

-- all that the machine counts as synced was acknowledged
abbrev pub Says : World → Type 0
Says w = IsPrefixOf (first_of w.parts w.machine.log w.machine.synced) w.acked

upto_at : (parts : ℕ → List Batch) (log : ℕ) (xs : List Batch) → upto (at log xs parts) log ≡ upto parts log
upto_at parts log xs = upto_same (at log xs parts) parts log (λ k lt. at_other log xs parts k (omega (arith, lt)))

module _ (d : Device) (m : Machine) (c : Checkpointer) (parts : ℕ → List Batch) (batch : Batch) (acked : List Batch) where
  abbrev inside : Writer → World
  inside w = world d m w c parts batch acked

  submitted_same : (b : Batch) → m.synced ≤ length (parts m.log) → first_of (at m.log (parts m.log ++ b ∷ []) parts) m.log m.synced ≡ first_of parts m.log m.synced
  submitted_same b few =
      let more = parts m.log ++ b ∷ [] in
      ap (λ l. l ++ take m.synced (at m.log more parts m.log)) (upto_at parts m.log more)
      ∙ (ap (λ l. upto parts m.log ++ take m.synced l) (at_here m.log more parts) ∙ ap (λ l. upto parts m.log ++ l) (take-append-le m.synced (parts m.log) (b ∷ []) few))

  says_submitted : (b : Batch) (w : Writer) → Keeps (inside w) → Says (inside w) → Says (happens (inside w) (Submit b))
  says_submitted b Ready keeps says =
      subst (λ l. IsPrefixOf l acked) (sym (submitted_same b (marked_count m.count m.synced keeps.firm (upto parts m.log) (parts m.log) (d.logs m.log) keeps.writer))) says
  says_submitted b (Syncing n) keeps says =
      subst (λ l. IsPrefixOf l acked) (sym (submitted_same b (marked_count m.count m.synced keeps.firm (upto parts m.log) (parts m.log) (d.logs m.log) keeps.writer.0))) says
  says_submitted b w keeps says = says

  -- the batch that is cut off wasn't acknowledged
  cut_off : Keeps (inside Mending) → Says (inside Mending) → Says (happens (inside Mending) (Writes Done))
  cut_off keeps says =
      let is = keeps.writer.2 in
      let front : List Batch = keeps.writer.0 in
      let few = is.few in
      let own = take m.count (parts m.log) in
      let same : first_of (at m.log own parts) m.log m.synced ≡ first_of parts m.log m.synced =
      ap (λ l. l ++ take m.synced (at m.log own parts m.log)) (upto_at parts m.log own)
      ∙ ap (λ l. upto parts m.log ++ l) (ap (take m.synced) (at_here m.log own parts) ∙ take_twice m.synced m.count (parts m.log) few) in
      subst (λ l. IsPrefixOf l acked) (sym same) says

  -- all that is kept is acknowledged
  renewed : Says (happens (inside Settling) (Writes Done))
  renewed =
      let kept = take m.count (parts m.log) in
      let same : first_of parts m.log m.count ≡ first_of (at m.log kept parts) m.log m.count =
      sym (ap (λ l. l ++ take m.count (at m.log kept parts m.log)) (upto_at parts m.log kept)
      ∙ ap (λ l. upto parts m.log ++ l) (ap (take m.count) (at_here m.log kept parts) ∙ take_twice m.count m.count (parts m.log) (omega arith))) in
      subst (λ l. IsPrefixOf l (first_of parts m.log m.count)) same (prefix_refl (first_of parts m.log m.count))

  -- all of the log before is acknowledged
  entered : Keeps (inside Closing) → Says (happens (inside Closing) (Writes Done))
  entered keeps =
      let next : ℕ = m.log + 1 in
      let q = at next [] parts in
      let all : first_of parts m.log m.count ≡ upto parts (suc m.log) = ap (λ l. upto parts m.log ++ l) (take_counted m.count (parts m.log) keeps.writer.counted) in
      let e : suc m.log ≡ next = omega arith in
      let here : upto parts (suc m.log) ≡ upto q next = subst (λ i. upto parts i ≡ upto q next) (sym e) (sym (upto_at parts next [])) in
      subst (λ l. IsPrefixOf l (first_of parts m.log m.count)) (all ∙ (here ∙ sym (append-nil (upto q next)))) (prefix_refl (first_of parts m.log m.count))

  says_written : (w : Writer) (o : Outcome) → Keeps (inside w) → Says (inside w) → Says (happens (inside w) (Writes o))
  says_written Settling Done keeps says = renewed
  says_written Closing Done keeps says = entered keeps
  says_written Mending Done keeps says = cut_off keeps says
  says_written Making NotDone keeps says = says
  says_written Making PartDone keeps says = says
  says_written Making DoneUntold keeps says = says
  says_written w Done keeps says = says
  says_written w NotDone keeps says = says
  says_written w PartDone keeps says = says
  says_written w DoneUntold keeps says = says

  says_synced : (w : Writer) (o : Outcome) → Says (inside w) → Says (happens (inside w) (Syncs o))
  says_synced (Syncing n) Done says = prefix_refl (first_of parts m.log n)
  says_synced (Both n) Done says = prefix_refl (first_of parts m.log n)
  says_synced (Spoiled n) Done says = prefix_refl (first_of parts m.log n)
  says_synced Making NotDone says = says
  says_synced Making PartDone says = says
  says_synced Making DoneUntold says = says
  says_synced w Done says = says
  says_synced w NotDone says = says
  says_synced w PartDone says = says
  says_synced w DoneUntold says = says

-- older logs are acknowledged
says_opened : (d : Device) (log sure synced : ℕ) (parts : ℕ → List Batch) (firm acked : List Batch) (sound : Sound d log sure parts firm) → IsPrefixOf (first_of parts log synced) acked → IsPrefixOf (first_of (own d log sure parts firm sound) (j d log sure parts firm sound) 0) acked
says_opened d log sure synced parts firm acked sound says =
    let i = j d log sure parts firm sound in
    let le = j_below d log sure parts firm sound in
    let same : upto parts i ≡ upto (own d log sure parts firm sound) i ++ [] = sym (upto_own d log sure parts firm sound i le) ∙ sym (append-nil (upto (own d log sure parts firm sound) i)) in
    subst (λ l. IsPrefixOf l acked) same
    (prefix_trans (upto parts i) (upto parts log) acked (upto_more parts i log le)
    (prefix_trans (upto parts log) (first_of parts log synced) acked (take synced (parts log), refl) says))

opens_says : (w : World) (sure : ℕ) (firm : List Batch) → Sound w.device w.machine.log sure w.parts firm → (least top : ℕ) (sealed : Bool) (keep : Option ℕ) → Says w → Says (opens least top sealed keep w)
opens_says w sure firm sound least top sealed keep says =
    let d = w.device in
    let here = (d.logs (last_log d)).now in
    let f = found d least top in
    let quiet = sealed && (is_settled here && keeps_all keep) in
    let count = count_read d keep in
    let has = opened_says d w.machine.log sure w.parts firm sound keep w.acked (says_opened d w.machine.log sure w.machine.synced w.parts firm w.acked sound says) in
    subst (λ n. IsPrefixOf (first_of (parts_read d w.parts) n (begun_by here (opened f count quiet)).synced) (opens least top sealed keep w).acked) (sym (begun_log here f count quiet))
    (subst (λ n. IsPrefixOf (first_of (parts_read d w.parts) f.log n) (opens least top sealed keep w).acked) (sym (begun_synced here f count quiet)) has)

says_happens : (w : World) (e : Event) → Keeps w → Says w → Says (happens w e)
says_happens w (Submit b) keeps says = says_submitted w.device w.machine w.machine.checkpointer w.parts w.batch w.acked b w.machine.writer keeps says
says_happens w (Writes o) keeps says = says_written w.device w.machine w.machine.checkpointer w.parts w.batch w.acked w.machine.writer o keeps says
says_happens w (Syncs o) keeps says = says_synced w.device w.machine w.machine.checkpointer w.parts w.batch w.acked w.machine.writer o says
says_happens w (Crash logs bases least top sealed keep) keeps says =
    opens_says (record w { device = crashed logs bases w.device }) keeps.sure keeps.firm (crashed_sound w keeps logs bases) least top sealed keep says
says_happens w (Restart least top sealed keep) keeps says = opens_says w keeps.sure keeps.firm keeps.sound least top sealed keep says
says_happens w (Reread left least top sealed keep) keeps says =
    opens_says (record w { device = reread left w }) keeps.sure keeps.firm (reread_sound w.device w.machine.log keeps.sure w.parts keeps.firm keeps.sound left) least top sealed keep says
says_happens w e keeps says = says

says_run : (es : List Event) (w : World) → HasNext w → Keeps w → Says w → Says (run es w)
says_run [] w fits keeps says = says
says_run (e ∷ es) w fits keeps says = says_run es (happens w e) (next_happens w e keeps fits) (happens_keeps w e fits keeps) (says_happens w e keeps says)

pub always_says : (es : List Event) → Says (run es start)
always_says es = says_run es start start_next start_keeps ([], refl)

-- ---- a sync, and concurrent events

-- a sync up to a number is under way, or an append has failed, or the log
abbrev pub IsUnderWay : ℕ → List Batch → (ℕ → List Batch) → ℕ → Writer → Type 0
IsUnderWay n xs parts log (Syncing k) = (k ≡ n) × IsPrefixOf xs (first_of parts log n)
IsUnderWay n xs parts log (Both k) = (k ≡ n) × IsPrefixOf xs (first_of parts log n)
IsUnderWay n xs parts log (Spoiled k) = Unit {0}
IsUnderWay n xs parts log Failed = Unit {0}
IsUnderWay n xs parts log w = ⊥

abbrev IsUnderWayIn : ℕ → List Batch → World → Type 0
IsUnderWayIn n xs w = IsUnderWay n xs w.parts w.machine.log w.machine.writer

module _ (n : ℕ) (xs : List Batch) (d : Device) (m : Machine) (c : Checkpointer) (parts : ℕ → List Batch) (batch : Batch) (acked : List Batch) where
  abbrev inside' : Writer → World
  inside' w = world d m w c parts batch acked

  way_submitted : (b : Batch) (w : Writer) → IsUnderWay n xs parts m.log w → IsUnderWayIn n xs (happens (inside' w) (Submit b))
  way_submitted b (Syncing k) is = (
    is.0,
    prefix_trans xs (first_of parts m.log n) (first_of (at m.log (parts m.log ++ b ∷ []) parts) m.log n) is.1
        (subst (λ l. IsPrefixOf (first_of parts m.log n) (l ++ take n (at m.log (parts m.log ++ b ∷ []) parts m.log))) (sym (upto_at parts m.log (parts m.log ++ b ∷ [])))
        (subst (λ l. IsPrefixOf (first_of parts m.log n) (upto parts m.log ++ take n l)) (sym (at_here m.log (parts m.log ++ b ∷ []) parts))
        (prefix_under (upto parts m.log) (take n (parts m.log)) (take n (parts m.log ++ b ∷ [])) (take_grows n (parts m.log) (b ∷ []))))),
  )
  way_submitted b (Both k) is = is
  way_submitted b (Spoiled k) is = is
  way_submitted b Failed is = is
  way_submitted b w is = absurd is

  way_asked : (w : Writer) → IsUnderWay n xs parts m.log w → IsUnderWayIn n xs (happens (inside' w) AskSync)
  way_asked (Syncing k) is = is
  way_asked (Both k) is = is
  way_asked (Spoiled k) is = is
  way_asked Failed is = is
  way_asked w is = absurd is

  way_switched : (w : Writer) → IsUnderWay n xs parts m.log w → IsUnderWayIn n xs (happens (inside' w) AskSwitch)
  way_switched (Syncing k) is = is
  way_switched (Both k) is = is
  way_switched (Spoiled k) is = is
  way_switched Failed is = is
  way_switched w is = absurd is

  way_written : (w : Writer) (o : Outcome) → IsUnderWay n xs parts m.log w → IsUnderWayIn n xs (happens (inside' w) (Writes o))
  way_written (Syncing k) Done is = is
  way_written (Syncing k) NotDone is = is
  way_written (Syncing k) PartDone is = is
  way_written (Syncing k) DoneUntold is = is
  way_written (Both k) Done is = is
  way_written (Both k) NotDone is = tt
  way_written (Both k) PartDone is = tt
  way_written (Both k) DoneUntold is = tt
  way_written (Spoiled k) Done is = is
  way_written (Spoiled k) NotDone is = is
  way_written (Spoiled k) PartDone is = is
  way_written (Spoiled k) DoneUntold is = is
  way_written Failed Done is = is
  way_written Failed NotDone is = is
  way_written Failed PartDone is = is
  way_written Failed DoneUntold is = is
  way_written w o is = absurd is

  -- if it succeeds, it acknowledges what was appended before it
  way_told : (w : Writer) → is_open w ≡ true → IsUnderWay n xs parts m.log w → IsPrefixOf xs (happens (inside' w) (Syncs Done)).acked
  way_told (Syncing k) e is = subst (λ i. IsPrefixOf xs (first_of parts m.log i)) (sym is.0) is.1
  way_told (Both k) e is = subst (λ i. IsPrefixOf xs (first_of parts m.log i)) (sym is.0) is.1
  way_told (Spoiled k) e is = absurd (cc)
  way_told Failed e is = absurd (cc)
  way_told w e is = absurd is

way_happens : (n : ℕ) (xs : List Batch) (w : World) (e : Event) → is_beside e ≡ true → IsUnderWayIn n xs w → IsUnderWayIn n xs (happens w e)
way_happens n xs w (Submit b) beside is = way_submitted n xs w.device w.machine w.machine.checkpointer w.parts w.batch w.acked b w.machine.writer is
way_happens n xs w AskSync beside is = way_asked n xs w.device w.machine w.machine.checkpointer w.parts w.batch w.acked w.machine.writer is
way_happens n xs w AskSwitch beside is = way_switched n xs w.device w.machine w.machine.checkpointer w.parts w.batch w.acked w.machine.writer is
way_happens n xs w AskNext beside is = is
way_happens n xs w (AskCheckpoint k past) beside is = is
way_happens n xs w (Writes o) beside is = way_written n xs w.device w.machine w.machine.checkpointer w.parts w.batch w.acked w.machine.writer o is
way_happens n xs w (Makes o) beside is = is
way_happens n xs w (Checkpoints o) beside is = is
way_happens n xs w (Syncs o) beside is = absurd (cc)
way_happens n xs w (Crash logs bases least top sealed keep) beside is = absurd (cc)
way_happens n xs w (Restart least top sealed keep) beside is = absurd (cc)
way_happens n xs w (Reread left least top sealed keep) beside is = absurd (cc)
way_happens n xs w SyncsNames beside is = absurd (cc)

way_run : (n : ℕ) (xs : List Batch) (es : List Event) (w : World) → are_beside es ≡ true → IsUnderWayIn n xs w → IsUnderWayIn n xs (run es w)
way_run n xs [] w beside is = is
way_run n xs (e ∷ es) w beside is = let both = and_parts (is_beside e) (are_beside es) beside in way_run n xs es (happens w e) both.1 (way_happens n xs w e both.0 is)

pub sync_covers : (n : ℕ) (xs : List Batch) (es : List Event) (w : World) → are_beside es ≡ true → is_open (run es w).machine.writer ≡ true → IsUnderWay n xs w.parts w.machine.log w.machine.writer → IsPrefixOf xs (happens (run es w) (Syncs Done)).acked
sync_covers n xs es w beside open' is =
    let v = run es w in
    way_told n xs v.device v.machine v.machine.checkpointer v.parts v.batch v.acked v.machine.writer open' (way_run n xs es w beside is)
