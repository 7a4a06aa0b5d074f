-- A part of a version's runs is no more than there are slots.
use Rattle.std.proofs.Common.{ℕ, ◌≤◌, length, drop, arith}
use Rattle.std.proofs.lemmas.List.{length-take, length-drop}
use Rattle.uc_version_state.specs.Versions.{Stored, IsVersion}
use Rattle.uc_version_state.specs.Installs.{part_of}
use Rattle.uc_version_state.proofs.Few.{few_runs}
use Rattle.uc_claims.specs.declared.table.TheConstants.{MOST_SLOTS}

pub few_part : (v : Stored) → IsVersion v → (first count : ℕ) → length (part_of first count v.runs) ≤ MOST_SLOTS
few_part v is_version first count =
    let all = few_runs v is_version in
    let taken = length-take count (drop first v.runs) in
    let dropped = length-drop first v.runs in
    omega (arith, all, taken, dropped)
