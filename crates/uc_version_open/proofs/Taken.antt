-- The writes of a list up to a place.
use Rattle.std.proofs.Common.{◌≡◌, ℕ, zero, suc, ◌+◌, ◌<◌, List, [], ◌∷◌, ◌++◌, length, get_or, take, sym, ap, ◌∙◌, subst, arith}
use Rattle.std.specs.Prelude.{◌^◌}
use Rattle.std.proofs.lemmas.List.{take_more}
use Rattle.uc_bytes.specs.declared.write.Write.{Write}
use Rattle.uc_batch.specs.Rising.{IsRising, last_of}
use Rattle.uc_version_state.specs.declared.options.Options.{Options}
use Rattle.uc_version_open.specs.Progress.{progress_of}

rises_at : (last : ℕ) (ws : List Write) (i : ℕ) (d : Write) → i < length ws → IsRising last ws → (last_of last (take i ws) < (get_or ws i d).seq) × ((get_or ws i d).seq < 2 ^ 56)
rises_at last [] i d lt h = absurd (omega (arith, lt))
rises_at last (w ∷ ws) zero d lt h = (h.0, h.1)
rises_at last (w ∷ ws) (suc i) d lt h = rises_at w.seq ws i d (omega (arith, lt)) h.2

module _ (ws : List Write) (rises : IsRising 0 ws) (i : ℕ) (w : Write) (lt : i < length ws) (is : w ≡ get_or ws i w) where
  pub above_taken : last_of 0 (take i ws) < w.seq
  above_taken = subst (λ (v : Write). last_of 0 (take i ws) < v.seq) (sym is) (rises_at 0 ws i w lt rises).0

  pub below_limit : w.seq < 2 ^ 56
  below_limit = subst (λ (v : Write). v.seq < 2 ^ 56) (sym is) (rises_at 0 ws i w lt rises).1

  pub one_taken : (o : Options) (v : Write) → v ≡ w → progress_of o (take i ws ++ v ∷ []) ≡ progress_of o (take (i + 1) ws)
  one_taken o v e = ap (progress_of o) (ap (λ (u : Write). take i ws ++ u ∷ []) (e ∙ is) ∙ sym (take_more ws i w lt))
