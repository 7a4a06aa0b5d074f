-- The first of some writes, and the last.
use Rattle.std.proofs.Common.{◌≡◌, ℕ, zero, suc, ◌+◌, ◌-◌, ◌<◌, ◌≤◌, List, [], ◌∷◌, Some, None, length, get_or, take, refl, ap, sym, ◌∙◌, arith}
use Rattle.std.specs.List.{slice_get}
use Rattle.std.proofs.lemmas.List.{length-take-le, take_all}
use Rattle.std.proofs.lemmas.Option.{slice_get_within, slice_get-get_or}
use Rattle.uc_bytes.specs.declared.write.Write.{Write}
use Rattle.uc_batch.specs.Rising.{IsRising, last_of}
use Rattle.uc_run.proofs.Inserted.{last_grown}
use Rattle.uc_run.proofs.WriteParts.{next_taken}

pub rising_first : (last : ℕ) (ws : List Write) (n : ℕ) → IsRising last ws → IsRising last (take n ws)
rising_first last [] zero rising = tt
rising_first last [] (suc n) rising = tt
rising_first last (w ∷ ws) zero rising = tt
rising_first last (w ∷ ws) (suc n) rising = (rising.0, rising.1, rising_first w.seq ws n rising.2)

pub first_some : (ws : List Write) (n : ℕ) → 0 < n → n ≤ length ws → take n ws ≡ [] → ⊥
first_some ws n some within none =
    let long : length (take n ws) ≡ n = length-take-le n ws within in
    let empty : length (take n ws) ≡ 0 = ap length none in
    omega arith

-- the sequence of the last write
pub last_there : (ws : List Write) (i : ℕ) (w : Write) → i ≡ length ws - 1 → slice_get ws i ≡ Some w → last_of 0 ws ≡ w.seq
last_there ws i w last is =
    let within : i < length ws = slice_get_within ws i w is in
    let all : take (i + 1) ws ≡ ws = take_all (i + 1) ws (omega arith) in
    ap (last_of 0) (sym all ∙ next_taken ws i w is) ∙ last_grown 0 (take i ws) w

pub none_last : (ws : List Write) (i : ℕ) → i ≡ length ws - 1 → slice_get ws i ≡ None → last_of 0 ws ≡ 0
none_last [] i last none = refl
none_last (w ∷ ws) i last none =
    let there : slice_get (w ∷ ws) i ≡ Some (get_or (w ∷ ws) i w) = slice_get-get_or (w ∷ ws) i w (omega arith) in
    cc
