use Rattle.std.proofs.Common.{◌≡◌, ℕ, ◌+◌, ◌<◌, ◌^◌, List, [], ◌++◌, length, refl, sym, ap, subst, ◌∙◌, append_assoc, arith}
use Rattle.std.proofs.lemmas.List.{length-append, length-map}
use Rattle.uc_bytes.specs.declared.write.Write.{Write}
use Rattle.uc_logrec.specs.Log.{payload_text, text_from, ending_of}
use Rattle.uc_batch.specs.declared.ended.Ended.TheVariants.{Clean}
use Rattle.uc_batch.specs.Batch.{numbered}
use Rattle.uc_batch.specs.Gathering.{numbered_text}
use Rattle.uc_batch.specs.Log.{batches_of, kept, log_writes}
use Rattle.uc_batch.specs.Rising.{last_of}
use Rattle.uc_batch.specs.Spelling.{batch_text}
use Rattle.uc_live.specs.Recording.{HasBatches}
use Rattle.uc_checkpoint.specs.Checkpoints.{Progress, put_of, puts_of, writes_that_put}
use Rattle.uc_checkpoint.proofs.Laid.{last_put, put_behind, added, recorded_behind}
use Rattle.uc_checkpoint.proofs.laws.pieces_are_read_back.Goals as goal

pub returns-clause-begins : goal.returns-clause-begins
unfolding text_from
returns-clause-begins g c s = record {
  rows = [];
  of_view = refl;
  all = refl;
  counted = refl;
  batches = c.batches_are_walked.ensures.none [];
  read =
      let again = c.written_log_is_read.ensures [] in
      ap (λ (ps : List (List ℕ)). kept (batches_of 0 1 ps) (ending_of [])) again.same
      ∙ ap (λ (e : _). kept (batches_of 0 1 []) e) again.clean;
}

pub returns-clause-goes_on : goal.returns-clause-goes_on
returns-clause-goes_on g c s log bytes old new laid piece =
    let rows = laid.rows in
    let more = piece.rows in
    let ops = puts_of more in
    let n = length rows in
    let last : last_of 0 (writes_that_put rows) ≡ n = last_put rows in
    let count : length ops ≡ length more = length-map more put_of in
    let below : n + length ops < 2 ^ 56 = omega (arith, laid.counted, count, piece.below) in
    let text : bytes ≡ payload_text (length log) (numbered_text (n + 1) ops) =
    piece.text ∙ ap (λ (k : ℕ). payload_text (length log) (numbered_text (k + 1) ops)) laid.counted in
    let recorded = recorded_behind (last_of 0 (writes_that_put rows)) n (length log) ops bytes last (c.gathered_batch_is_read.ensures.read n ops piece.fit below) text in
    let recovered = c.recorded_batch_is_recovered.ensures log (length log) (last_of 0 (writes_that_put rows)) (writes_that_put rows) (batch_text 0 ops) bytes laid.batches (omega arith) recorded in
    let whole = sym (put_behind rows more) in
    let longer = subst (λ (bs : List ℕ). HasBatches bs (length log + length bytes) (writes_that_put rows ++ numbered (n + 1) ops)) (added log bytes) recovered.goes_on in
    let ends = subst (λ (k : ℕ). HasBatches (log ++ bytes) k (writes_that_put rows ++ numbered (n + 1) ops)) (sym (length-append log bytes)) longer in
    record {
      rows = rows ++ more;
      of_view = ap (λ (p : Progress). p.seen) piece.goes_on ∙ laid.of_view;
      all = laid.all ∙ (ap (λ (rs : List (List ℕ × List ℕ)). rows ++ rs) piece.next ∙ sym (append_assoc rows more _));
      counted = ap (λ (p : Progress). p.rows) piece.goes_on ∙ (ap (λ (k : ℕ). k + length more) laid.counted ∙ sym (length-append rows more));
      batches = subst (λ (ws : List Write). HasBatches (log ++ bytes) (length (log ++ bytes)) ws) whole ends;
      read = ap log_writes (sym (added log bytes)) ∙ (recovered.all ∙ ap (λ (ws : List Write). record { list = ws; ended = Clean }) whole);
    }
