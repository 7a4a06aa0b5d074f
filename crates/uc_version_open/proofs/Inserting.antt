-- Writes that are taken one after the other into a store that is being opened.
use Rattle.std.proofs.Common.{◌≡◌, ℕ, List, ◌∷◌, sym, subst}
use Rattle.uc_bytes.specs.declared.write.Write.{Write}
use Rattle.uc_batch.specs.Rising.{IsRising}

-- what is still to come rises from the write that was taken
pub rest_rises : (old last : ℕ) (w : Write) (ahead rest : List Write) → IsRising old ahead → ahead ≡ w ∷ rest → last ≡ w.seq → IsRising last rest
rest_rises old last w ahead rest rising first is = subst (λ n. IsRising n rest) (sym is) (subst (IsRising old) first rising).2
