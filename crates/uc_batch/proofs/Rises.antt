-- Rising sequences, one write at a time.
use Rattle.std.proofs.Common.{◌≡◌, ℕ, suc, ◌+◌, ◌-◌, ◌^◌, ◌<◌, ◌≤◌, List, [], ◌∷◌, ◌++◌, length, get_or, drop, Some, Ok, refl, ap, sym, ◌∙◌, subst, arith}
use Rattle.std.specs.Prelude.{slice_get}
use Rattle.std.proofs.lemmas.List.{drop_more}
use Rattle.uc_bytes.specs.declared.op.Op.{Op}
use Rattle.uc_bytes.specs.declared.write.Write.{Write}
use Rattle.uc_batch.specs.Batch.{numbered, batch_of}
use Rattle.uc_batch.specs.Rising.{IsRising, last_of}
use Rattle.uc_batch.proofs.Found.{batch_numbers}

at_place : (i : ℕ) (ws : List Write) (w : Write) → i < length ws → w ≡ get_or ws i w → drop i ws ≡ w ∷ drop (i + 1) ws
at_place i ws w lt e = drop_more ws i w lt ∙ ap (λ (x : Write). x ∷ drop (i + 1) ws) (sym e)

pub open_rising : (last i : ℕ) (ws : List Write) (w : Write) → i < length ws → w ≡ get_or ws i w → IsRising last (drop i ws) → (last < w.seq) × (w.seq < 2 ^ 56) × IsRising w.seq (drop (i + 1) ws)
open_rising last i ws w lt e h = subst (IsRising last) (at_place i ws w lt e) h

pub close_rising : (last i : ℕ) (ws : List Write) (w : Write) → i < length ws → w ≡ get_or ws i w → (last < w.seq) × (w.seq < 2 ^ 56) × IsRising w.seq (drop (i + 1) ws) → IsRising last (drop i ws)
close_rising last i ws w lt e h = subst (IsRising last) (sym (at_place i ws w lt e)) h

-- the last of the list
pub last_at : (last : ℕ) (ws : List Write) (w : Write) → Some w ≡ slice_get ws (length ws - 1) → w.seq ≡ last_of last ws
last_at last [] w e = absurd cc
last_at last (x ∷ []) w e = let same : w ≡ x = cc in ap (λ (v : Write). v.seq) same
last_at last (x ∷ y ∷ ws) w e =
    let place : length (x ∷ y ∷ ws) - 1 ≡ suc (length (y ∷ ws) - 1) = omega arith in
    last_at x.seq (y ∷ ws) w (subst (λ (k : ℕ). Some w ≡ slice_get (x ∷ y ∷ ws) k) place e)

pub rising-append : (last : ℕ) (ws vs : List Write) → IsRising last ws → IsRising (last_of last ws) vs → IsRising last (ws ++ vs)
rising-append last [] vs p q = q
rising-append last (w ∷ ws) vs p q = (p.0, p.1, rising-append w.seq ws vs p.2 q)

pub last_of-append : (last : ℕ) (ws vs : List Write) → last_of last (ws ++ vs) ≡ last_of (last_of last ws) vs
last_of-append last [] vs = refl
last_of-append last (w ∷ ws) vs = last_of-append w.seq ws vs

-- numbers that go up by one rise
pub rising-numbered : (last seq : ℕ) (ops : List Op) → last < seq → seq + length ops ≤ 2 ^ 56 → IsRising last (numbered seq ops)
rising-numbered last seq [] p q = tt
rising-numbered last seq (op ∷ ops) p q = (p, omega arith, rising-numbered seq (seq + 1) ops (omega arith) (omega arith))

of_count : (last seq : ℕ) (ops : List Op) → (0 < length ops → last < seq) → (0 < length ops → seq + length ops ≤ 2 ^ 56) → IsRising last (numbered seq ops)
of_count last seq [] above below = tt
of_count last seq (op ∷ ops) above below = rising-numbered last seq (op ∷ ops) (above (omega arith)) (below (omega arith))

-- the writes of a batch rise from the sequence that it comes after
pub rising-batch : (last : ℕ) (bytes : List ℕ) (ws : List Write) → batch_of last bytes ≡ Ok ws → IsRising last ws
rising-batch last bytes ws e =
    let b = batch_numbers last bytes ws e in
    rw b.3 (of_count last b.0 b.1 b.2.0 b.2.1)
