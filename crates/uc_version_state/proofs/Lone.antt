-- A compactor alone looks and installs.
use Rattle.std.proofs.Common.{◌≡◌, ℕ, ◌+◌, ◌≤◌, [], ◌∷◌, length, refl, arith}
use Rattle.std.proofs.lemmas.List.Sums.{sum_by-cons}
use Rattle.uc_oper.specs.Operation.{Operation, IsLawful}
use Rattle.uc_version_state.specs.Versions.{IsVersion, slots_of}
use Rattle.uc_version_state.specs.Openings.{Opening, MayOpen, opened}
use Rattle.uc_version_state.specs.declared.event.Event.TheVariants.{Installed}
use Rattle.uc_version_state.specs.Installs.{Install, part_of}
use Rattle.uc_version_state.specs.Machine.{Phase, Checked, IsMadeFor, giving}
use Rattle.uc_version_state.specs.Courses.{started, LookThen}
use Rattle.uc_version_state.proofs.Placing.{FlushesAreRuns}
use Rattle.uc_version_state.proofs.Counted.{held_times, all_times}
use Rattle.uc_version_state.proofs.StepsKept.{keeps_first}
use Rattle.uc_version_state.proofs.Leading.{Leads, at_first, look_then}
use Rattle.uc_version_state.proofs.Looking.{Around, looks, publishes}

alone : Around 0 (λ p. p ∷ [])
alone = record { there = λ p. omega arith; found = λ p. refl; moves = λ p q. refl }

nobody_else : (k : ℕ) (p : Phase) → all_times k (p ∷ []) ≡ held_times k p
nobody_else k p = let e = sum_by-cons (held_times k) p [] in omega (arith, e)

module _ (is_run : FlushesAreRuns) (m : Operation) (laws : IsLawful m) (o : Opening) (may : MayOpen o) (opens : IsVersion (opened o))
    (first count : ℕ) (two : 2 ≤ count) (within : first + count ≤ length (opened o).runs) (i : Install) (made : IsMadeFor m (opened o) (part_of first count (opened o).runs) i) where
  looked : Leads m (started o 1) (at_first o) (Checked (part_of first count (opened o).runs) ∷ [])
  looked =
      looks is_run m laws o opens 0 (λ p. p ∷ []) alone first count two within (λ k p some. nobody_else k p) (started o 1).words
      (keeps_first m o 1 (record { opens = may; follow = tt }) opens)

  pub installs : LookThen m o (part_of first count (opened o).runs ∷ []) (Installed i ∷ [])
  installs =
      look_then m o may (part_of first count (opened o).runs ∷ []) (Installed i ∷ []) (giving (slots_of (part_of first count (opened o).runs)) ∷ []) looked
      (publishes m 0 (λ p. p ∷ []) alone (at_first o) looked.words (part_of first count (opened o).runs) i made)
