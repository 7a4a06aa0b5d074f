use Rattle.std.proofs.Common.{◌∷◌, ◌++◌, [], List, length-append, ap, sym, ◌∙◌, arith}
use Rattle.uc_bytes.specs.declared.write.Write.{Write}
use Rattle.uc_batch.specs.Batch.{numbered}
use Rattle.uc_store.proofs.Numbered.{numbered_push}
use Rattle.uc_store.proofs.batches.numbered.Goals as goal

pub loop-op-preserved : goal.loop-op-preserved
loop-op-preserved c =
    let l = c.loop-op in
    let op = c.in-Some.op in
    let e = length-append l.yielded (op ∷ []) in
    let next = l.invariant.next in
    record {
      so_far = c.in_ok-push.ensures.items
          ∙ ap (λ (ws : List Write). ws ++ record { seq = l.seq; op = op } ∷ []) l.invariant.so_far
          ∙ ap (λ n. numbered c.args.seq l.yielded ++ record { seq = n; op = op } ∷ []) next
          ∙ sym (numbered_push c.args.seq l.yielded op);
      next = omega (arith, e, next);
    }
