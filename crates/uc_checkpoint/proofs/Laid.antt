-- The puts of rows, numbered piece after piece.
use Rattle.std.proofs.Common.{◌≡◌, ℕ, ◌+◌, List, [], ◌∷◌, ◌++◌, length, Ok, sym, ap, subst, ◌∙◌, arith}
use Rattle.std.proofs.lemmas.List.{map-append, length-map}
use Rattle.std.proofs.Math.Seq.{take-length}
use Rattle.uc_bytes.specs.declared.op.Op.{Op}
use Rattle.uc_bytes.specs.declared.write.Write.{Write}
use Rattle.uc_logrec.specs.Log.{payload_text}
use Rattle.uc_logrec.specs.Walk.{cut_and_added}
use Rattle.uc_batch.specs.Batch.{batch_of, numbered}
use Rattle.uc_batch.specs.Gathering.{numbered_text}
use Rattle.uc_batch.specs.Rising.{last_of}
use Rattle.uc_batch.specs.Spelling.{batch_text}
use Rattle.uc_live.specs.Recording.{IsRecorded}
use Rattle.uc_checkpoint.specs.Checkpoints.{put_of, puts_of, writes_that_put}

-- operations numbered after others
pub numbered_behind : (seq : ℕ) (ops more : List Op) → numbered seq (ops ++ more) ≡ numbered seq ops ++ numbered (seq + length ops) more
numbered_behind seq [] more = ap (λ (n : ℕ). numbered n more) (omega arith)
numbered_behind seq (op ∷ ops) more =
    ap (λ (ws : List Write). record { seq = seq; op = op } ∷ ws)
    (numbered_behind (seq + 1) ops more
    ∙ ap (λ (n : ℕ). numbered (seq + 1) ops ++ numbered n more) (omega arith))

-- the last number of operations
pub last_numbered : (last : ℕ) (ops : List Op) → last_of last (numbered (last + 1) ops) ≡ last + length ops
last_numbered last [] = omega arith
last_numbered last (op ∷ ops) = last_numbered (last + 1) ops ∙ omega arith

-- of the puts of rows
pub last_put : (rows : List (List ℕ × List ℕ)) → last_of 0 (writes_that_put rows) ≡ length rows
last_put rows =
    let last = last_numbered 0 (puts_of rows) in
    let count : length (puts_of rows) ≡ length rows = length-map rows put_of in
    omega (arith, last, count)

-- the puts of rows after others
pub put_behind : (rows more : List (List ℕ × List ℕ)) → writes_that_put (rows ++ more) ≡ writes_that_put rows ++ numbered (length rows + 1) (puts_of more)
put_behind rows more =
    ap (numbered 1) (map-append put_of rows more)
    ∙ (numbered_behind 1 (puts_of rows) (puts_of more)
    ∙ ap (λ (n : ℕ). writes_that_put rows ++ numbered n (puts_of more)) (let e : length (puts_of rows) ≡ length rows = length-map rows put_of in omega (arith, e)))

-- a log with bytes after its end
pub added : (log bytes : List ℕ) → cut_and_added log (length log) bytes ≡ log ++ bytes
added log bytes = ap (λ (bs : List ℕ). bs ++ bytes) (take-length log)

-- The record of a batch without a sequence number is that of its operations, numbered after the last one.
abbrev pub recorded_behind : (last n len : ℕ) (ops : List Op) (bytes : List ℕ) → last ≡ n → batch_of n (numbered_text (n + 1) ops) ≡ Ok (numbered (n + 1) ops)
    → bytes ≡ payload_text len (numbered_text (n + 1) ops) → IsRecorded last len (batch_text 0 ops) bytes
recorded_behind last n len ops bytes e read text = record {
  read = record {
    writes = numbered (n + 1) ops;
    is = subst (λ (k : ℕ). batch_of k (numbered_text (k + 1) ops) ≡ Ok (numbered (n + 1) ops)) (sym e) read;
  };
  text = subst (λ (k : ℕ). bytes ≡ payload_text len (numbered_text (k + 1) ops)) (sym e) text;
}
