-- A version, as the picker sees it.
use Rattle.std.specs.Prelude.{ℕ, Bool, List, map}
use Rattle.uc_run_entry.specs.Size.{size_of}
use Rattle.uc_version_state.specs.declared.candidate.Candidate.{Candidate}
use Rattle.uc_version_state.specs.Versions.{PlacedRun, Stored}

-- a run as a candidate, which is claimed if its slot is
abbrev pub candidate_of : (ℕ → Bool) → PlacedRun → Candidate
candidate_of is_claimed p = record { size = size_of p.run; claimed = is_claimed p.slot }

abbrev pub candidates_of : Stored → (ℕ → Bool) → List Candidate
candidates_of v is_claimed = map (candidate_of is_claimed) v.runs
