-- Lists of writes whose sequences rise.
use Rattle.std.specs.Prelude.{ℕ, ◌^◌, ◌<◌, List, [], ◌∷◌}
use Rattle.uc_bytes.specs.declared.write.Write.{Write}

-- each sequence is above the one before it, the first above `last`, and below 2^56
abbrev pub IsRising : ℕ → List Write → Type 0
IsRising last [] = Unit {0}
IsRising last (w ∷ ws) = (last < w.seq) × (w.seq < 2 ^ 56) × IsRising w.seq ws

-- the last sequence, or `last` if there is no write
abbrev pub last_of : ℕ → List Write → ℕ
last_of last [] = last
last_of last (w ∷ ws) = last_of w.seq ws
