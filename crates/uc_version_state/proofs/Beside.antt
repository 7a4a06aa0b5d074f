-- Two compactors look, others make something happen, and both install.
use Rattle.std.proofs.Common.{◌≡◌, ℕ, ◌+◌, ◌≤◌, List, [], ◌∷◌, ◌++◌, ◌⊎◌, ⊎_elim, length, refl, sym, ap, subst, append_assoc, arith}
use Rattle.std.specs.List.{AllByRecursion}
use Rattle.std.proofs.lemmas.List.Sums.{sum_by-cons}
use Rattle.uc_oper.specs.Operation.{Operation, IsLawful}
use Rattle.uc_claims.specs.Claims.{times}
use Rattle.uc_version_state.specs.Versions.{PlacedRun, Stored, IsVersion, ids_of, slots_of}
use Rattle.uc_version_state.specs.Refusals.{AreInPlace}
use Rattle.uc_version_state.specs.Openings.{Opening, opened}
use Rattle.uc_version_state.specs.declared.event.Event.{Event}
use Rattle.uc_version_state.specs.declared.event.Event.TheVariants.{Installed}
use Rattle.uc_version_state.specs.Installs.{Install, part_of, installed}
use Rattle.uc_version_state.specs.Histories.{History, IsLegal, version_after}
use Rattle.uc_version_state.specs.Machine.{Phase, Idle, Checked, Machine, IsMadeFor, giving}
use Rattle.uc_version_state.specs.Courses.{started, NeedsNoWord, LookThen}
use Rattle.uc_version_state.proofs.Placing.{FlushesAreRuns}
use Rattle.uc_version_state.proofs.Counted.{held_times, all_times}
use Rattle.uc_version_state.proofs.Growing.{after-append}
use Rattle.uc_version_state.proofs.Noted.{standing_noted}
use Rattle.uc_version_state.proofs.StepsKept.{Holds, Keeps, keeps_first}
use Rattle.uc_version_state.proofs.Leading.{state, with_event, Leads, keeps_there, leads_on, others_come, at_first, look_then}
use Rattle.uc_version_state.proofs.Looking.{Around, looks, publishes}
use Rattle.uc_version_state.proofs.Stretches.{parts_apart}

ahead : (q : Phase) → Around 0 (λ p. p ∷ q ∷ [])
ahead q = record { there = λ p. omega arith; found = λ p. refl; moves = λ p r. refl }

after : (q : Phase) → Around 1 (λ p. q ∷ p ∷ [])
after q = record { there = λ p. omega arith; found = λ p. refl; moves = λ p r. refl }

times_of_two : (k : ℕ) (p q : Phase) → all_times k (p ∷ q ∷ []) ≡ held_times k p + held_times k q
times_of_two k p q = let a = sum_by-cons (held_times k) p (q ∷ []) in let b = sum_by-cons (held_times k) q [] in omega (arith, a, b)

module _ (is_run : FlushesAreRuns) (m : Operation) (laws : IsLawful m) (o : Opening) (meanwhile : List Event) (legal : IsLegal m (record { opening = o; events = meanwhile })) (opens : IsVersion (opened o))
    (first count other more : ℕ) (two : 2 ≤ count) (within : first + count ≤ length (opened o).runs) (two_more : 2 ≤ more) (more_within : other + more ≤ length (opened o).runs)
    (apart : (first + count ≤ other) ⊎ (other + more ≤ first)) where
  abbrev noted : List PlacedRun
  noted = part_of first count (opened o).runs

  abbrev others : List PlacedRun
  others = part_of other more (opened o).runs

  abbrev between : History
  between = record { opening = o; events = meanwhile }

  no_slot_in_both : (k : ℕ) → times k (slots_of noted) + times k (slots_of others) ≤ 1
  no_slot_in_both k =
      ⊎_elim (λ (le : first + count ≤ other). parts_apart (opened o) opens first count other more k le)
      (λ (le : other + more ≤ first). let once = parts_apart (opened o) opens other more first count k le in omega (arith, once))
      apart

  one_looks : Leads m (started o 2) (at_first o) (Checked noted ∷ Idle ∷ [])
  one_looks =
      looks is_run m laws o opens 0 (λ p. p ∷ Idle ∷ []) (ahead Idle) first count two within (λ k p some. let e = times_of_two k p Idle in omega (arith, e)) (started o 2).words
      (keeps_first m o 2 (record { opens = legal.opens; follow = tt }) opens)

  both_look : Leads m (started o 2) (at_first o) (Checked noted ∷ Checked others ∷ [])
  both_look =
      leads_on m (started o 2) (at_first o) (Checked noted ∷ Idle ∷ []) one_looks (at_first o) (Checked noted ∷ Checked others ∷ [])
      (looks is_run m laws o opens 1 (λ p. Checked noted ∷ p ∷ []) (after (Checked noted)) other more two_more more_within
      (λ k p some. let e = times_of_two k (Checked noted) p in let once = no_slot_in_both k in omega (arith, e, once, some)) one_looks.words
      (keeps_there m (started o 2) (at_first o) (Checked noted ∷ Idle ∷ []) one_looks is_run laws
      (keeps_first m o 2 (record { opens = legal.opens; follow = tt }) opens)))

  module _ (free : AllByRecursion NeedsNoWord meanwhile) where
    abbrev from : Machine
    from = state (at_first o) both_look.words (Checked noted ∷ Checked others ∷ [])

    come : Leads m from between (Checked noted ∷ Checked others ∷ [])
    come = others_come m (at_first o) both_look.words (Checked noted ∷ Checked others ∷ []) meanwhile free legal.follow

    keeps_from : Keeps m from
    keeps_from =
        keeps_there m (started o 2) (at_first o) (Checked noted ∷ Checked others ∷ []) both_look is_run laws
        (keeps_first m o 2 (record { opens = legal.opens; follow = tt }) opens)

    keeps_come : Keeps m (state between come.words (Checked noted ∷ Checked others ∷ []))
    keeps_come = keeps_there m from between (Checked noted ∷ Checked others ∷ []) come is_run laws keeps_from

    -- runs that were found in place are there
    found_in_place : (v : Stored) (ps : List PlacedRun) → IsVersion v → Holds v (Checked ps) → AreInPlace v (ids_of ps)
    found_in_place v ps version holds = ap ids_of (standing_noted v ps version holds.0 holds.1)

    pub one_stays : AreInPlace (version_after between) (ids_of noted)
    one_stays = found_in_place (version_after between) noted keeps_come.version (keeps_come.each 0)

    module _ (i : Install) (made : IsMadeFor m (version_after between) noted i) where
      one_installs : Leads m from (with_event between (Installed i)) (giving (slots_of noted) ∷ Checked others ∷ [])
      one_installs =
          leads_on m from between (Checked noted ∷ Checked others ∷ []) come (with_event between (Installed i)) (giving (slots_of noted) ∷ Checked others ∷ [])
          (publishes m 0 (λ p. p ∷ Checked others ∷ []) (ahead (Checked others)) between come.words noted i made)

      keeps_one : Keeps m (state (with_event between (Installed i)) one_installs.words (giving (slots_of noted) ∷ Checked others ∷ []))
      keeps_one = keeps_there m from (with_event between (Installed i)) (giving (slots_of noted) ∷ Checked others ∷ []) one_installs is_run laws keeps_from

      pub other_stays : IsLegal m (with_event between (Installed i)) × AreInPlace (installed i (version_after between)) (ids_of others)
      other_stays = (
        keeps_one.legal,
        subst (λ (v : Stored). AreInPlace v (ids_of others)) (after-append (opened o) meanwhile (Installed i))
            (found_in_place (version_after (with_event between (Installed i))) others keeps_one.version (keeps_one.each 1)),
      )

      module _ (j : Install) (made_after : IsMadeFor m (installed i (version_after between)) others j) where
        both_install : Leads m from (record { opening = o; events = (meanwhile ++ Installed i ∷ []) ++ Installed j ∷ [] }) (giving (slots_of noted) ∷ giving (slots_of others) ∷ [])
        both_install =
            leads_on m from (with_event between (Installed i)) (giving (slots_of noted) ∷ Checked others ∷ []) one_installs
            (record { opening = o; events = (meanwhile ++ Installed i ∷ []) ++ Installed j ∷ [] }) (giving (slots_of noted) ∷ giving (slots_of others) ∷ [])
            (publishes m 1 (λ p. giving (slots_of noted) ∷ p ∷ []) (after (giving (slots_of noted))) (with_event between (Installed i)) one_installs.words others j
            (subst (λ (v : Stored). IsMadeFor m v others j) (sym (after-append (opened o) meanwhile (Installed i))) made_after))

        pub install_beside : LookThen m o (noted ∷ others ∷ []) (meanwhile ++ Installed i ∷ Installed j ∷ [])
        install_beside =
            look_then m o legal.opens (noted ∷ others ∷ []) (meanwhile ++ Installed i ∷ Installed j ∷ []) (giving (slots_of noted) ∷ giving (slots_of others) ∷ []) both_look
            (subst (λ (es : List Event). Leads m from (record { opening = o; events = es }) (giving (slots_of noted) ∷ giving (slots_of others) ∷ [])) (append_assoc meanwhile (Installed i ∷ []) (Installed j ∷ [])) both_install)
