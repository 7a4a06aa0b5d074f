-- A bound on the number of writes: each has its own sequence number, below 2^56.
use Rattle.std.proofs.Common.{ℕ, ◌+◌, ◌^◌, ◌<◌, List, [], ◌∷◌, ◌++◌, length, length-append, arith}
use Rattle.uc_bytes.specs.declared.write.Write.{Write}
use Rattle.uc_batch.specs.Rising.{IsRising}

few_above : (last : ℕ) (ws : List Write) → last < 2 ^ 56 → IsRising last ws → last + length ws < 2 ^ 56
few_above last [] below rising = omega (arith, below)
few_above last (w ∷ ws) below rising = omega (arith, rising.0, few_above w.seq ws rising.1 rising.2)

-- those so far and a batch
pub few_with : (ws batch : List Write) → IsRising 0 (ws ++ batch) → length ws + length batch < 2 ^ 56
few_with ws batch rising = omega (arith, length-append ws batch, few_above 0 (ws ++ batch) (omega arith) rising)
