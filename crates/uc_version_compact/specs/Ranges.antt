-- Which stretches of runs are there to be claimed.
use Rattle.std.specs.Prelude.{ℕ, ◌-◌, ◌||◌, Option, Some, None, nat_lt, if◌then◌else◌}
use Rattle.uc_version_state.specs.declared.stretch.Stretch.{Stretch}
use Rattle.uc_version_compact.specs.declared.claim_error.ClaimError.{ClaimError}
use Rattle.uc_version_compact.specs.declared.claim_error.ClaimError.TheVariants.{OutOfRange, TooNarrow}

-- why a stretch among `n` runs can't be claimed, whoever has them: it isn't all there, or it has fewer than two runs
abbrev pub range_refusal : ℕ → Stretch → Option ClaimError
range_refusal n s =
    if nat_lt n s.first || nat_lt (n - s.first) s.count then Some OutOfRange
    else if nat_lt s.count 2 then Some TooNarrow else None
