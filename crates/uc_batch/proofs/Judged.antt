-- A validated batch, and the log after it.
use Rattle.std.proofs.Common.{◌≡◌, ℕ, ◌+◌, ◌-◌, false, eqb, List, [], ◌∷◌, ◌++◌, length, drop, Option, None, Ok, Err, refl, ap, sym, ◌∙◌, subst, arith}
use Rattle.std.proofs.Math.Seq.{drop-nil}
use Rattle.std.proofs.lemmas.Bool.{ne_eqb}
use Rattle.uc_bytes.specs.declared.op.Op.{Op}
use Rattle.uc_bytes.specs.declared.write.Write.{Write}
use Rattle.uc_logrec.specs.Log.{Reading}
use Rattle.uc_logrec.specs.Position.{Position, ComesFirst}
use Rattle.uc_batch.specs.declared.error.BatchError.{BatchError}
use Rattle.uc_batch.specs.declared.ended.Ended.{Ended}
use Rattle.uc_batch.specs.declared.ended.Ended.TheVariants as ends
use Rattle.uc_batch.specs.declared.header.Header.{Header}
use Rattle.uc_batch.specs.Records.{records_from}
use Rattle.uc_batch.specs.Batch.{numbered, batch_of, ops_in, writes_in, last_numbered, AreCounted}
use Rattle.uc_batch.specs.Log.{Batches, after_batch, batches_of, kept}
use Rattle.uc_batch.specs.Rising.{last_of}
use Rattle.uc_batch.specs.Position.{BatchPosition, log_ahead, nothing_ahead, with_batch, ahead_unless, BatchComesFirst, StaysAt, IsJudged}
use Rattle.uc_batch.proofs.Rises.{rising-batch}

nothing_counted : AreCounted 0 0 []
unfolding records_from
nothing_counted = record { fine = refl; counted = refl }

-- no batch at all
pub empty_judged : IsJudged (record { sequence = 0; count = 0 }) []
empty_judged = record { counted = rw (drop-nil {A = ℕ} 12) nothing_counted; room = λ h. absurd (omega arith) }

last_behind : (last seq : ℕ) (op : Op) (ops : List Op) → last_of last (numbered seq (op ∷ ops)) ≡ seq + length ops
last_behind last seq op [] = omega arith
last_behind last seq op (next ∷ ops) = last_behind seq (seq + 1) next ops ∙ omega arith

-- the last of numbered operations
pub last_is : (last seq count : ℕ) (ops : List Op) → count ≡ length ops → last_numbered last seq count ≡ last_of last (numbered seq ops)
last_is last seq count [] e = rw e refl
last_is last seq count (op ∷ ops) e =
    let some : eqb count 0 ≡ false = ne_eqb count 0 (λ none. absurd (omega arith)) in
    let one : seq + (count - 1) ≡ seq + length ops = omega arith in
    rw some (one ∙ sym (last_behind last seq op ops))

module _ (last : ℕ) (old new : Position) (bytes : List ℕ) (comes : ComesFirst bytes old new) where
  at_payload : log_ahead last (old.payloads_read + 1) old.ahead ≡ kept (after_batch (λ used. batches_of used (new.payloads_read + 1) new.ahead.payloads) last new.payloads_read (batch_of last bytes)) new.ahead.ending
  at_payload =
      ap (λ (r : Reading). kept (batches_of last (old.payloads_read + 1) r.payloads) r.ending) comes.0
      ∙ ap (λ (n : ℕ). kept (after_batch (λ used. batches_of used (n + 1) new.ahead.payloads) last n (batch_of last bytes)) new.ahead.ending) (sym comes.1)

  -- a batch that may follow
  pub batch_ahead : (batch : List Write) → batch_of last bytes ≡ Ok batch → log_ahead last (old.payloads_read + 1) old.ahead ≡ with_batch batch (log_ahead (last_of last batch) (new.payloads_read + 1) new.ahead)
  batch_ahead batch read =
      at_payload
      ∙ (ap (λ r. kept (after_batch (λ used. batches_of used (new.payloads_read + 1) new.ahead.payloads) last new.payloads_read r) new.ahead.ending) read
      ∙ same_ended batch (batches_of (last_of last batch) (new.payloads_read + 1) new.ahead.payloads))
    where
      same_ended : (batch : List Write) (others : Batches) → kept (record { writes = batch ++ others.writes; refused = others.refused }) new.ahead.ending ≡ with_batch batch (kept others new.ahead.ending)
      same_ended batch others = refl

  -- one that may not
  pub refused_ahead : (fault : BatchError) → batch_of last bytes ≡ Err fault → log_ahead last (old.payloads_read + 1) old.ahead ≡ nothing_ahead (ends.BatchFault new.payloads_read fault)
  refused_ahead fault read = at_payload ∙ ap (λ r. kept (after_batch (λ used. batches_of used (new.payloads_read + 1) new.ahead.payloads) last new.payloads_read r) new.ahead.ending) read

-- ---- positions

empty_writes : writes_in 0 [] ≡ []
unfolding records_from
empty_writes = ap (λ (bytes : List ℕ). numbered 0 (ops_in 0 bytes)) (drop-nil {A = ℕ} 12)

-- a position, by what the reader keeps
abbrev position_of : ℕ → List Write → Option Ended → Position → BatchPosition
position_of last batch ended log = record { last = last; batch = batch; ahead = ahead_unless ended (log_ahead last (log.payloads_read + 1) log.ahead); left = length log.ahead.payloads }

-- nothing is passed over
pub stays : (last : ℕ) (batch : List Write) (ended : Option Ended) (log other : Position) (now : BatchPosition) → position_of last batch ended log ≡ now → other ≡ log → StaysAt now (position_of last (writes_in 0 []) ended other)
stays last batch ended log other now is same =
    subst (λ (n : BatchPosition). StaysAt n (position_of last (writes_in 0 []) ended other)) is (record {
      ahead = ap (λ (p : Position). ahead_unless ended (log_ahead last (p.payloads_read + 1) p.ahead)) same;
      last = refl;
      none = empty_writes;
    })

comes_first : (last next : ℕ) (batch : List Write) (bytes : List ℕ) (count seq : ℕ) (old new : Position) → ComesFirst bytes old new → batch_of last bytes ≡ Ok (writes_in seq bytes) → AreCounted count (length bytes) (drop 12 bytes) → next ≡ last_numbered last seq count
    → BatchComesFirst (position_of last batch None old) (position_of next (writes_in seq bytes) None new)
comes_first last next batch bytes count seq old new comes read counted e =
    let behind : next ≡ last_of last (writes_in seq bytes) = e ∙ last_is last seq count (ops_in (length bytes) (drop 12 bytes)) counted.counted in
    record {
      first = batch_ahead last old new bytes comes (writes_in seq bytes) read ∙ ap (λ (n : ℕ). with_batch (writes_in seq bytes) (log_ahead n (new.payloads_read + 1) new.ahead)) (sym behind);
      rising = rising-batch last bytes (writes_in seq bytes) read;
      last = behind;
      fewer = omega (arith, ap (λ (r : Reading). length r.payloads) comes.0);
    }

-- a batch comes
pub advances : (last next : ℕ) (batch : List Write) (bytes : List ℕ) (header : Header) (ended : Option Ended) (old new : Position) (now : BatchPosition) → position_of last batch ended old ≡ now → ended ≡ None → ComesFirst bytes old new → batch_of last bytes ≡ Ok (writes_in header.sequence bytes) → IsJudged header bytes
    → next ≡ last_numbered last header.sequence header.count → BatchComesFirst now (position_of next (writes_in header.sequence bytes) ended new)
advances last next batch bytes header ended old new now is none comes read judged e =
    subst (λ (n : BatchPosition). BatchComesFirst n (position_of next (writes_in header.sequence bytes) ended new)) is
    (rw none (comes_first last next batch bytes header.count header.sequence old new comes read judged.counted e))
