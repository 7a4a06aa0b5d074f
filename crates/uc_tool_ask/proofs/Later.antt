-- Writes without the last ones.
use Rattle.std.proofs.Common.{◌≡◌, ℕ, zero, suc, ◌-◌, List, [], ◌∷◌, length, take, Result, Ok, Err, arith}
use Rattle.std.specs.Prelude.{IfOk}
use Rattle.std.proofs.lemmas.List.{take_all}
use Rattle.uc_bytes.specs.declared.write.Write.{Write}
use Rattle.uc_batch.specs.Rising.{IsRising}
use Rattle.uc_tool_ask.specs.Ask.{without_last}

pub without_none : (writes : List Write) → without_last 0 writes ≡ writes
without_none writes = take_all (length writes - 0) writes (omega arith)

-- the first of rising writes rise
rising_first : (n last : ℕ) (writes : List Write) → IsRising last writes → IsRising last (take n writes)
rising_first zero last writes rising = tt
rising_first (suc n) last [] rising = tt
rising_first (suc n) last (w ∷ writes) rising = (rising.0, rising.1, rising_first n w.seq writes rising.2)

pub first_rise : {X E : Type 0} (n : ℕ) (writes : List Write) (r : Result X E) → IfOk r (λ _. IsRising 0 writes) → IfOk r (λ _. IsRising 0 (take n writes))
first_rise n writes (Ok x) rising = rising_first n 0 writes rising
first_rise n writes (Err e) none = tt
