-- A write after others.
use Rattle.std.proofs.Common.{◌≡◌, ℕ, ◌+◌, ◌-◌, ◌^◌, ◌<◌, List, [], ◌∷◌, ◌++◌, min, refl, ap, sym, ◌∙◌, arith}
use Rattle.std.specs.List.{sum_by}
use Rattle.std.proofs.lemmas.List.Sums.{sum_by_push}
use Rattle.uc_bytes.specs.declared.write.Write.{Write}
use Rattle.uc_batch.specs.Rising.{IsRising, last_of}
use Rattle.uc_run.specs.Size.{write_size, memtable_size}

pub rising_grown : (last : ℕ) (ws : List Write) (w : Write) → IsRising last ws → last_of last ws < w.seq → w.seq < 2 ^ 56 → IsRising last (ws ++ w ∷ [])
rising_grown last [] w p above below = (above, below, tt)
rising_grown last (x ∷ ws) w p above below = (p.0, p.1, rising_grown x.seq ws w p.2 above below)

pub last_grown : (last : ℕ) (ws : List Write) (w : Write) → last_of last (ws ++ w ∷ []) ≡ w.seq
last_grown last [] w = refl
last_grown last (x ∷ ws) w = last_grown x.seq ws w

held_sum : (m a b : ℕ) → min (min a m + min b m) m ≡ min (a + b) m
held_sum m a b = omega arith

pub size_grown : (ws : List Write) (w : Write) → min (memtable_size ws + min (write_size w) (2 ^ 64 - 1)) (2 ^ 64 - 1) ≡ memtable_size (ws ++ w ∷ [])
size_grown ws w = held_sum (2 ^ 64 - 1) (sum_by write_size ws) (write_size w) ∙ ap (λ (n : ℕ). min n (2 ^ 64 - 1)) (sym (sum_by_push write_size ws w))
