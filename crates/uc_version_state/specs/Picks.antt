-- Which neighbouring runs are compacted next (RocksDB wiki, "Universal Compaction"). Runs come newest first.
use Rattle.std.specs.Prelude.{ℕ, suc, ◌+◌, ◌-◌, ◌*◌, min, Bool, not, ◌&&◌, ◌||◌, List, [], ◌∷◌, ◌++◌, Option, Some, None, if◌then◌else◌, length, take, drop, nat_lt, nat_le, nat_eq}
use Rattle.std.specs.List.{sum_by, list_all}
use Rattle.std.specs.Option.{option_or}
use Rattle.uc_version_state.specs.declared.options.Options.{Options}
use Rattle.uc_version_state.specs.declared.stretch.Stretch.{Stretch}
use Rattle.uc_version_state.specs.declared.candidate.Candidate.{Candidate}

-- the size of some runs together
abbrev pub total : List Candidate → ℕ
total runs = sum_by (λ r. r.size) runs

-- whether no run is claimed
abbrev pub are_unclaimed : List Candidate → Bool
are_unclaimed runs = list_all (λ r. not r.claimed) runs

-- all runs but the oldest
abbrev pub newer : List Candidate → List Candidate
newer runs = take (length runs - 1) runs

-- the oldest run alone
abbrev pub oldest : List Candidate → List Candidate
oldest runs = drop (length runs - 1) runs

-- whether the newer runs are above `max_size_amplification_percent` of the oldest one's size
abbrev pub is_amplified : Options → List Candidate → Bool
is_amplified o runs = nat_lt (o.percent * total (oldest runs)) (100 * total (newer runs))

-- Rule 1, space amplification: all runs, if there are two or more, none is claimed, and the newer ones are too large
-- for the oldest. It ignores the limits on the number of runs.
abbrev pub space_amplification : Options → List Candidate → Option Stretch
space_amplification o runs =
    if nat_le 2 (length runs) && are_unclaimed runs && is_amplified o runs
    then Some (record { first = 0; count = length runs }) else None

-- The first stretch that a rule picks. The rule says how many runs it picks from a place on, given the runs from there
-- on, or 0. `above` is how many runs come before them.
abbrev pub first_picked : (List Candidate → ℕ) → ℕ → List Candidate → Option Stretch
first_picked rule above [] = None
first_picked rule above (r ∷ runs) =
    if nat_lt 0 (rule (r ∷ runs)) then Some (record { first = above; count = rule (r ∷ runs) }) else first_picked rule (suc above) runs

-- whether a size isn't above a sum of sizes by more than `ratio` percent
abbrev pub is_within_ratio : ℕ → ℕ → ℕ → Bool
is_within_ratio ratio sum size = nat_le (100 * size) ((100 + ratio) * sum)

-- Whether a run is collected after `count` others of this sum: it isn't claimed, and either it is the first, or the limit isn't
-- reached and it is within the ratio of the sum.
abbrev pub is_collected : Options → ℕ → ℕ → Candidate → Bool
is_collected o count sum r = not r.claimed && (nat_eq count 0 || nat_lt count o.greatest && is_within_ratio o.ratio sum r.size)

-- how many runs are collected one after the other, after those before them
abbrev pub collected_behind : Options → List Candidate → List Candidate → ℕ
collected_behind o before [] = 0
collected_behind o before (r ∷ runs) =
    if is_collected o (length before) (total before) r then suc (collected_behind o (before ++ r ∷ []) runs) else 0

-- how many runs are collected from the first on; none if it is claimed
abbrev pub collected : Options → List Candidate → ℕ
collected o runs = collected_behind o [] runs

-- how many runs rule 2 picks from the first on: those that are collected, if they are enough
abbrev pub collected_enough : Options → List Candidate → ℕ
collected_enough o runs = if nat_le o.least (collected o runs) then collected o runs else 0

-- Rule 2, size ratio: the first place from which at least `min_merge_width` runs are collected, and these.
abbrev pub size_ratio : Options → List Candidate → Option Stretch
size_ratio o runs = first_picked (collected_enough o) 0 runs

-- how many unclaimed runs are at the head of some
abbrev pub unclaimed : List Candidate → ℕ
unclaimed [] = 0
unclaimed (r ∷ runs) = if r.claimed then 0 else suc (unclaimed runs)

-- how many runs rule 3 picks from the first on, at most `most`: it needs two unclaimed neighbours
abbrev pub unclaimed_at_most : ℕ → List Candidate → ℕ
unclaimed_at_most most runs = if nat_le 2 (unclaimed runs) then min (unclaimed runs) most else 0

-- Rule 3, number of runs: if there are more than the trigger, the first unclaimed neighbours. They are as many as bring
-- the number of runs down to the trigger, and at most `max_merge_width`. A claimed run or none comes before the first
-- place with two unclaimed neighbours, so these are the newest of a whole stretch of unclaimed runs.
abbrev pub number_of_runs : Options → List Candidate → Option Stretch
number_of_runs o runs =
    if nat_lt o.trigger (length runs) then first_picked (unclaimed_at_most (min (length runs - o.trigger + 1) o.greatest)) 0 runs else None

-- The stretch that is compacted next: none below the trigger, otherwise the pick of the first rule that picks any.
abbrev pub picked : Options → List Candidate → Option Stretch
picked o runs =
    if nat_lt (length runs) o.trigger then None
    else option_or (space_amplification o runs) (option_or (size_ratio o runs) (number_of_runs o runs))
