-- Collected operations that a store takes as a batch.
use Rattle.std.proofs.Common.{◌≡◌, ◌+◌, ◌^◌, ◌<◌, ◌≤◌, ℕ, List, length, Ok, Err, ap, sym, ◌∙◌, subst, inl, inr}
use Rattle.std.specs.Prelude.{ℤ}
use Rattle.std.proofs.lemmas.Bool.{cases_lt}
use Rattle.uc_bytes.specs.declared.op.Op.{Op}
use Rattle.uc_bytes.specs.declared.write.Write.{Write}
use Rattle.uc_batch.specs.Batch.{batch_of, numbered}
use Rattle.uc_batch.specs.Gathering.{numbered_text}
use Rattle.uc_batch.specs.Spelling.{batch_text}
use Rattle.uc_batch.specs.declared.error.BatchError.{BatchError}
use Rattle.uc_live.specs.Going.{GoesOn}
use Rattle.uc_live.specs.LiveFlushes.{HadRoom}
use Rattle.uc_live.specs.Lives.{last}
use Rattle.uc_live.specs.Writing.{IsBatchPrepared, IsBatchWritten, Prepares, next_batch}
use Rattle.uc_live.specs.declared.write_error.WriteError.{WriteError}
use Rattle.uc_live.specs.declared.write_error.WriteError.TheVariants.{Faulty, SequencesSpent, TooLong, NoRoom}
use Rattle.uc_engine.specs.Engines.{Engined, meaning_of}
use Rattle.uc_c.specs.Batches.{ArePrepared, AreTaken, DeclinesOps}
use Rattle.uc_c.specs.Statuses.{GatheredSays}
use Rattle.uc_c.specs.Writing.{DeclinesBatch, IsTold}
use Rattle.uc_c.specs.declared.status.TheConstants.{OK, ROOM}

-- consequences of the laws of collected batches for these operations
abbrev pub AreRead : List Op → Type 0
AreRead ops = (at : ℕ) → at + length ops < 2 ^ 56 → batch_of at (numbered_text (at + 1) ops) ≡ Ok (numbered (at + 1) ops)

abbrev pub AreReadSo : List Op → Type 0
AreReadSo ops = (at : ℕ) (writes : List Write) → batch_of at (numbered_text (at + 1) ops) ≡ Ok writes → (writes ≡ numbered (at + 1) ops) × (0 < length ops → at + length ops < 2 ^ 56)

-- the batch without a sequence number gets the one after the last
next_is : (at : ℕ) (bytes : List ℕ) (ops : List Op) → bytes ≡ batch_text 0 ops → next_batch at bytes ≡ batch_of at (numbered_text (at + 1) ops)
next_is at bytes ops text = ap (next_batch at) text

spent : (at : ℕ) (bytes : List ℕ) (ops : List Op) (fault : BatchError) → bytes ≡ batch_text 0 ops → AreRead ops → next_batch at bytes ≡ Err fault → 2 ^ 56 ≤ at + length ops
spent at bytes ops fault text read refused =
    elim (cases_lt (at + length ops) (2 ^ 56)) [
      | inl lt ↦ let wrong : Ok (numbered (at + 1) ops) ≡ Err fault = sym (read at lt) ∙ sym (next_is at bytes ops text) ∙ refused in absurd cc
      | inr le ↦ le
    ]

not_both : (status : ℤ) → status ≡ OK → status ≡ ROOM → ⊥
not_both status ok lacks = let e : OK ≡ ROOM = sym ok ∙ lacks in cc

module _ (bytes : List ℕ) (ops : List Op) (e e' : Engined) where
  pub taken : bytes ≡ batch_text 0 ops → AreReadSo ops → e'.kind ≡ e.kind → IsBatchWritten (meaning_of e.kind) bytes e.live e'.live → AreTaken ops e e'
  taken text only kind written =
      let so = only (last e.live) written.writes (sym (next_is (last e.live) bytes ops text) ∙ written.is) in
      record {
        left = so.1;
        kind = kind;
        goes_on = subst (GoesOn (meaning_of e.kind) e.live e'.live) so.0 written.goes_on;
        none_prepared = written.none_prepared;
        room = subst (HadRoom e'.live) so.0 written.room;
      }

  pub prepared : bytes ≡ batch_text 0 ops → AreReadSo ops → e'.kind ≡ e.kind → IsBatchPrepared (meaning_of e.kind) bytes e.live e'.live → ArePrepared ops e e'
  prepared text only kind waits =
      let so = only (last e.live) waits.writes (sym (next_is (last e.live) bytes ops text) ∙ waits.is) in
      record { left = so.1; kind = kind; prepares = subst (Prepares (meaning_of e.kind) e.live e'.live) so.0 waits.prepares; room = waits.room }

  pub declined : (error : WriteError) (status : ℤ) → bytes ≡ batch_text 0 ops → AreRead ops → DeclinesBatch bytes e e' error → GatheredSays error status → DeclinesOps status ops e e'
  declined (Faulty fault) status text read d says = (d.1, inl (says, spent (last e.live) bytes ops fault text read d.0))
  declined SequencesSpent status text read d says = (d.1, inl (says, spent (last e.live) bytes ops _ text read d.0))
  declined TooLong status text read d says = absurd d.0
  declined (NoRoom error) status text read d says = (d.1, inr (error, says, d.0))

  -- the result for the bytes is that for the operations
  pub told : (status : ℤ) (len : ℕ) (room room' : List ℕ) (size' : ℕ) → bytes ≡ batch_text 0 ops → AreReadSo ops → IsTold status len bytes room room' size' e e'
      → IsTold status len (batch_text 0 ops) room room' size' e e' × ((status ≡ OK) → ArePrepared ops e e')
  told status len room room' size' text only is = (
    subst (λ (bs : List ℕ). IsTold status len bs room room' size' e e') text is,
    λ ok. elim (is.told) [
      | inl fits ↦ prepared text only fits.3 fits.4
      | inr lacks ↦ absurd (not_both status ok lacks.1)
    ],
  )
