-- Rising writes, in parts.
use Rattle.std.proofs.Common.{◌≡◌, ℕ, ◌+◌, ◌^◌, ◌<◌, ◌≤◌, List, [], ◌∷◌, ◌++◌, length, max, sym, ◌∙◌, arith}
use Rattle.uc_bytes.specs.declared.write.Write.{Write}
use Rattle.uc_batch.specs.Rising.{IsRising, last_of}
use Rattle.uc_batch.proofs.Rises.{last_of-append}

pub rising_front : (last : ℕ) (ws vs : List Write) → IsRising last (ws ++ vs) → IsRising last ws
rising_front last [] vs h = tt
rising_front last (w ∷ ws) vs h = (h.0, h.1, rising_front w.seq ws vs h.2)

pub rising_back : (last : ℕ) (ws vs : List Write) → IsRising last (ws ++ vs) → IsRising (last_of last ws) vs
rising_back last [] vs h = h
rising_back last (w ∷ ws) vs h = rising_back w.seq ws vs h.2

pub rising_lower : (a b : ℕ) (ws : List Write) → a ≤ b → IsRising b ws → IsRising a ws
rising_lower a b [] le h = tt
rising_lower a b (w ∷ ws) le h = let above : b < w.seq = h.0 in (omega (arith, le, above), h.1, h.2)

-- they rise from any lower sequence too
pub rising_alone : (last : ℕ) (ws vs : List Write) → IsRising last (ws ++ vs) → IsRising 0 vs
rising_alone last ws vs h = rising_lower 0 (last_of last ws) vs (omega arith) (rising_back last ws vs h)

pub last_low : (n : ℕ) (ws : List Write) → last_of 0 ws ≤ last_of n ws
last_low n [] = omega arith
last_low n (w ∷ ws) = omega arith

last_above : (n : ℕ) (ws : List Write) → IsRising n ws → n ≤ last_of n ws
last_above n [] h = omega arith
last_above n (w ∷ ws) h = let above : n < w.seq = h.0 in let more = last_above w.seq ws h.2 in omega (arith, above, more)

-- the last of both parts is the greater of their last ones
pub last_greater : (ws vs : List Write) → IsRising 0 (ws ++ vs) → max (last_of 0 ws) (last_of 0 vs) ≡ last_of 0 (ws ++ vs)
last_greater ws vs h = greater (last_of 0 ws) vs (rising_back 0 ws vs h) ∙ sym (last_of-append 0 ws vs)
  where
    greater : (n : ℕ) (vs : List Write) → IsRising n vs → max n (last_of 0 vs) ≡ last_of n vs
    greater n [] h = omega arith
    greater n (v ∷ vs) h = let le = last_above n (v ∷ vs) h in omega (arith, le)

-- there are fewer than sequences
pub rising_short : (n : ℕ) (ws : List Write) → n < 2 ^ 56 → IsRising n ws → n + length ws < 2 ^ 56
rising_short n [] lt h = omega (arith, lt)
rising_short n (w ∷ ws) lt h =
    let above : n < w.seq = h.0 in
    let below : w.seq < 2 ^ 56 = h.1 in
    let rest = rising_short w.seq ws below h.2 in
    omega (arith, above, rest)
