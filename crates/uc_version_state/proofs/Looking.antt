-- A compactor among others goes through its phases, while those of the others stay.
use Rattle.std.proofs.Common.{◌≡◌, ℕ, zero, suc, ◌+◌, ◌<◌, ◌≤◌, true, cond, eqb, eq-eqb, ne_eqb, ◌&&◌, List, [], ◌∷◌, length, get_or, set, take, drop, refl, sym, ap, ◌∙◌, subst, arith}
use Rattle.std.proofs.lemmas.List.{length-map, length-take-le, length-drop}
use Rattle.uc_oper.specs.Operation.{Operation, IsLawful}
use Rattle.uc_claims.specs.Claims.{times}
use Rattle.uc_claims.specs.Holding.{AreDistinct}
use Rattle.uc_claims.proofs.Times.{new_at, times-cons, one_same}
use Rattle.uc_version_state.specs.Versions.{PlacedRun, Stored, IsVersion, ids_of, slots_of}
use Rattle.uc_version_state.specs.Openings.{Opening, opened}
use Rattle.uc_version_state.specs.declared.event.Event.TheVariants.{Installed}
use Rattle.uc_version_state.proofs.Placing.{FlushesAreRuns}
use Rattle.uc_version_state.proofs.Found.{standing_is}
use Rattle.uc_version_state.specs.Installs.{Install, part_of, standing}
use Rattle.uc_version_state.specs.Histories.{History, version_after}
use Rattle.uc_version_state.specs.Machine.{Phase, Idle, Taking, Taken, Checked, Machine, Action, Pin, Take, Check, Publish, have_ids, still_stand, IsMadeFor, MayAct, giving, taking, after_action}
use Rattle.uc_version_state.specs.Courses.{Acts}
use Rattle.uc_version_state.proofs.Counted.{held_times, all_times}
use Rattle.uc_version_state.proofs.StepsKept.{Keeps}
use Rattle.uc_version_state.proofs.Leading.{state, with_event, Leads, one_step, keeps_there, leads_on, at_first}
use Rattle.uc_version_state.proofs.Stretches.{part_distinct}

-- all phases, by that of one compactor
pub record Around (c : ℕ) (at : Phase → List Phase) : Type 0 where
  pub there : (p : Phase) → c < length (at p)
  pub found : (p : Phase) → get_or (at p) c Idle ≡ p
  pub moves : (p q : Phase) → set (at p) c q ≡ at q

-- ---- step by step

times_at : (xs : List ℕ) (j : ℕ) → j < length xs → 0 < times (get_or xs j 0) xs
times_at [] j lt = absurd (omega (arith, lt))
times_at (x ∷ xs) zero lt = omega (arith, times-cons x x xs, one_same x x refl)
times_at (x ∷ xs) (suc j) lt = let later = times_at xs j (omega (arith, lt)) in omega (arith, times-cons (get_or xs j 0) x xs, later)

module _ (m : Operation) (c : ℕ) (at : Phase → List Phase) (around : Around c at) where
  acts : (h : History) (words : List ℕ) (p : Phase) (action : Action) (g : History) (ws : List ℕ) (q : Phase) → MayAct m (state h words (at p)) p action →
      after_action c (state h words (at p)) p action ≡ state g ws (set (at p) c q) → Leads m (state h words (at p)) g (at q)
  acts h words p action g ws q may is =
      one_step m (state h words (at p)) (Acts c action) g ws (at q)
      (around.there p, subst (λ (x : Phase). MayAct m (state h words (at p)) x action) (sym (around.found p)) may)
      (ap (λ (x : Phase). after_action c (state h words (at p)) x action) (around.found p) ∙ is ∙ ap (state g ws) (around.moves p q))

  pub publishes : (h : History) (words : List ℕ) (noted : List PlacedRun) (i : Install) → IsMadeFor m (version_after h) noted i →
      Leads m (state h words (at (Checked noted))) (with_event h (Installed i)) (at (giving (slots_of noted)))
  publishes h words noted i made = acts h words (Checked noted) (Publish i) (with_event h (Installed i)) words (giving (slots_of noted)) made refl

  module _ (is_run : FlushesAreRuns) (laws : IsLawful m) (h : History) (noted : List PlacedRun) (distinct : AreDistinct (slots_of noted))
      (beside : (k : ℕ) (p : Phase) → 0 < times k (slots_of noted) → all_times k (at p) ≡ held_times k p) where
    abbrev slot_at : ℕ → ℕ
    slot_at j = get_or (slots_of noted) j 0

    is_free : (words : List ℕ) (j : ℕ) → Keeps m (state h words (at (Taking noted j))) → j < length noted → eqb (get_or words (slot_at j) 0) 0 ≡ true
    is_free words j keeps lt =
        let within : j < length (slots_of noted) = let n = length-map noted (λ (p : PlacedRun). p.slot) in omega (arith, n, lt) in
        let counted = keeps.counted (slot_at j) in
        let own = beside (slot_at j) (Taking noted j) (times_at (slots_of noted) j within) in
        let none = new_at (slots_of noted) j distinct within in
        eq-eqb (get_or words (slot_at j) 0) 0 (omega (arith, counted, own, none))

    takes : (words : List ℕ) (j : ℕ) → Keeps m (state h words (at (Taking noted j))) → j < length noted → Leads m (state h words (at (Taking noted j))) h (at (taking noted (j + 1)))
    takes words j keeps lt =
        acts h words (Taking noted j) Take h (set words (slot_at j) 1) (taking noted (j + 1)) tt
        (ap (λ b. cond b (state h (set words (slot_at j) 1) (set (at (Taking noted j)) c (taking noted (j + 1)))) (state h words (set (at (Taking noted j)) c (giving (take j (slots_of noted))))))
        (is_free words j keeps lt))

    pub takes_all : (n j : ℕ) (words : List ℕ) → Keeps m (state h words (at (Taking noted j))) → j + suc n ≡ length noted → Leads m (state h words (at (Taking noted j))) h (at (Taken noted))
    takes_all zero j words keeps e =
        subst (λ (p : Phase). Leads m (state h words (at (Taking noted j))) h (at p))
        (ap (λ b. cond b (Taken noted) (Taking noted (j + 1))) (eq-eqb (j + 1) (length noted) (omega (arith, e))))
        (takes words j keeps (omega (arith, e)))
    takes_all (suc n) j words keeps e =
        let one : Leads m (state h words (at (Taking noted j))) h (at (Taking noted (j + 1))) =
        subst (λ (p : Phase). Leads m (state h words (at (Taking noted j))) h (at p))
        (ap (λ b. cond b (Taken noted) (Taking noted (j + 1))) (ne_eqb (j + 1) (length noted) (λ same. omega (arith, e, same))))
        (takes words j keeps (omega (arith, e))) in
        leads_on m (state h words (at (Taking noted j))) h (at (Taking noted (j + 1))) one h (at (Taken noted))
        (takes_all n (j + 1) one.words (keeps_there m (state h words (at (Taking noted j))) h (at (Taking noted (j + 1))) one is_run laws keeps) (omega (arith, e)))

-- ---- from the opening to a check

own_ids : (ps : List PlacedRun) → have_ids ps (ids_of ps) ≡ true
own_ids [] = refl
own_ids (p ∷ ps) = ap (λ b. b && have_ids ps (ids_of ps)) (eq-eqb p.id p.id refl) ∙ own_ids ps

stands_still : (v : Stored) (noted : List PlacedRun) → standing (ids_of noted) v.runs ≡ noted → still_stand noted v ≡ true
stands_still v noted same = ap (λ (ps : List PlacedRun). have_ids ps (ids_of noted)) same ∙ own_ids noted

pred_of : (n : ℕ) → 2 ≤ n → (k : ℕ) × (suc k ≡ n)
pred_of zero le = absurd (omega (arith, le))
pred_of (suc n) le = (n, refl)

module _ (is_run : FlushesAreRuns) (m : Operation) (laws : IsLawful m) (o : Opening) (opens : IsVersion (opened o)) (c : ℕ) (at : Phase → List Phase) (around : Around c at)
    (first count : ℕ) (two : 2 ≤ count) (within : first + count ≤ length (opened o).runs)
    (beside : (k : ℕ) (p : Phase) → 0 < times k (slots_of (part_of first count (opened o).runs)) → all_times k (at p) ≡ held_times k p) where
  abbrev noted : List PlacedRun
  noted = part_of first count (opened o).runs

  many : length noted ≡ count
  many = length-take-le count (drop first (opened o).runs) (let e = length-drop first (opened o).runs in omega (arith, e, within))

  stand : still_stand noted (opened o) ≡ true
  stand = stands_still (opened o) noted (standing_is (opened o) opens (ids_of noted) first count (omega (arith, two)) within refl)

  pins : (words : List ℕ) → Leads m (state (at_first o) words (at Idle)) (at_first o) (at (Taking noted 0))
  pins words =
      acts m c at around (at_first o) words Idle (Pin 0 first count) (at_first o) words (Taking noted 0)
      (record { shown = omega arith; two = two; within = within }) refl

  checks : (words : List ℕ) → Leads m (state (at_first o) words (at (Taken noted))) (at_first o) (at (Checked noted))
  checks words =
      acts m c at around (at_first o) words (Taken noted) Check (at_first o) words (Checked noted) tt
      (ap (λ b. state (at_first o) words (set (at (Taken noted)) c (cond b (Checked noted) (giving (slots_of noted))))) stand)

  pub looks : (words : List ℕ) → Keeps m (state (at_first o) words (at Idle)) → Leads m (state (at_first o) words (at Idle)) (at_first o) (at (Checked noted))
  looks words keeps = leads_on m from (at_first o) (at (Taken noted)) taken (at_first o) (at (Checked noted)) (checks taken.words)
    where
      from : Machine
      from = state (at_first o) words (at Idle)

      pinned : Leads m from (at_first o) (at (Taking noted 0))
      pinned = pins words

      taken : Leads m from (at_first o) (at (Taken noted))
      taken =
          leads_on m from (at_first o) (at (Taking noted 0)) pinned (at_first o) (at (Taken noted))
          (takes_all m c at around is_run laws (at_first o) noted (part_distinct (opened o) opens first count) beside (pred_of count two).0 0 pinned.words
          (keeps_there m from (at_first o) (at (Taking noted 0)) pinned is_run laws keeps) (let l = many in let e = (pred_of count two).1 in omega (arith, l, e)))
