-- Operations are numbered one after the other.
use Rattle.std.proofs.Common.{◌≡◌, ℕ, ◌+◌, List, [], ◌∷◌, ◌++◌, length, ap, ◌∙◌, arith}
use Rattle.uc_bytes.specs.declared.op.Op.{Op}
use Rattle.uc_bytes.specs.declared.write.Write.{Write}
use Rattle.uc_batch.specs.Batch.{numbered}

pub numbered_push : (seq : ℕ) (ops : List Op) (op : Op) → numbered seq (ops ++ op ∷ []) ≡ numbered seq ops ++ record { seq = seq + length ops; op = op } ∷ []
numbered_push seq [] op = ap (λ (n : ℕ). record { seq = n; op = op } ∷ []) (let e : seq ≡ seq + 0 = omega arith in e)
numbered_push seq (o ∷ ops) op =
    ap (λ (ws : List Write). record { seq = seq; op = o } ∷ ws)
    (numbered_push (seq + 1) ops op
    ∙ ap (λ (n : ℕ). numbered (seq + 1) ops ++ record { seq = n; op = op } ∷ []) (let e : seq + 1 + length ops ≡ seq + length (o ∷ ops) = omega arith in e))
