-- A batch of a log that is written again.
use Rattle.std.proofs.Common.{◌≡◌, ℕ, suc, ◌+◌, List, [], ◌∷◌, length, drop, Ok, refl, ap, sym, ◌∙◌}
use Rattle.uc_bytes.specs.declared.op.Op.{Op}
use Rattle.uc_bytes.specs.declared.write.Write.{Write}
use Rattle.uc_logrec.specs.Log.{Reading}
use Rattle.uc_logrec.specs.Position.{ahead_in, LiesIn}
use Rattle.uc_batch.specs.declared.header.Header.{Header}
use Rattle.uc_batch.specs.Batch.{numbered, batch_of, ops_in, writes_in, last_numbered, AreCounted}
use Rattle.uc_batch.specs.Log.{after_batch, batches_of, kept}
use Rattle.uc_batch.specs.Position.{log_ahead, with_batch}
use Rattle.uc_batch.specs.Rising.{last_of}
use Rattle.uc_batch.proofs.Judged.{last_is}
use Rattle.uc_c.specs.declared.c_log_place.CLogPlace.{CLogPlace}
use Rattle.uc_c.specs.LogWalk.{ComesNext}

as_many : (seq : ℕ) (ops : List Op) → length (numbered seq ops) ≡ length ops
as_many seq [] = refl
as_many seq (op ∷ ops) = ap suc (as_many (seq + 1) ops)

module _ (payload : List ℕ) (header : Header) (counted : AreCounted header.count (length payload) (drop 12 payload)) where
  -- there are as many writes as the header counts
  pub count_is : length (writes_in header.sequence payload) ≡ header.count
  count_is = as_many header.sequence (ops_in (length payload) (drop 12 payload)) ∙ sym counted.counted

  -- the validated batch comes next
  pub comes_next : (log : List ℕ) (place : CLogPlace) (behind last : ℕ) → LiesIn payload log place.offset behind → batch_of place.last payload ≡ Ok (writes_in header.sequence payload)
      → last ≡ last_numbered place.last header.sequence header.count
      → ComesNext (writes_in header.sequence payload) log place (record { offset = behind; last = last; batches = place.batches + 1 })
  comes_next log place behind last lies read e =
      let writes : List Write = writes_in header.sequence payload in
      let rest : Reading = ahead_in log behind in
      let number = place.batches + 1 in
      let is : last ≡ last_of place.last writes = e ∙ last_is place.last header.sequence header.count (ops_in (length payload) (drop 12 payload)) counted.counted in
      record {
        payload = payload;
        lies = lies;
        read = read;
        last = is;
        batches = refl;
        first =
            ap (log_ahead place.last number) lies.comes
            ∙ ap (λ r. kept (after_batch (λ used. batches_of used (number + 1) rest.payloads) place.last number r) rest.ending) read
            ∙ ap (λ (n : ℕ). with_batch writes (log_ahead n (number + 1) rest)) (sym is);
      }
