-- The newest place that passes a test.
use Rattle.std.specs.Prelude.{ℕ, zero, suc, Bool, if◌then◌else◌}

-- The end of the newest place below `n` that passes, which is the place and 1; or 0 if none does.
abbrev pub newest_end : (ℕ → Bool) → ℕ → ℕ
newest_end test zero = 0
newest_end test (suc n) = if test n then suc n else newest_end test n
