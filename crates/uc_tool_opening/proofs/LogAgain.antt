-- The log of a script's writes gives them back.
use Rattle.std.proofs.Common.{◌≡◌, ℕ, ◌+◌, ◌^◌, ◌<◌, ◌≤◌, List, [], ◌∷◌, ◌++◌, length, get_or, drop, None, Result, Ok, Err, refl, ap, sym, ◌∙◌, subst, append_assoc, arith}
use Rattle.std.specs.List.{AllByRecursion}
use Rattle.std.proofs.lemmas.List.Elements.{recursion_from_All, All-cons, All-nil}
use Rattle.std.proofs.lemmas.List.{drop_more}
use Rattle.uc_bytes.specs.declared.op.Op.{Op}
use Rattle.uc_logrec.specs.Log.{ending_of, log_text, IsReadAgain}
use Rattle.uc_logrec.specs.declared.ending.Ending.TheVariants.{Clean}
use Rattle.uc_batch.specs.declared.ended.Ended.TheVariants as ended
use Rattle.uc_batch.specs.Batch.{numbered, batch_of}
use Rattle.uc_batch.specs.Log.{Batches, after_batch, batches_of, kept, log_writes, writes_of}
use Rattle.uc_batch.specs.Spelling.{batch_text, FitsOp, FitsBatch}
use Rattle.uc_batch.specs.WriteLog.{WriteLog}
use Rattle.uc_batch.specs.declared.mode.Mode.TheVariants.{PointInTime}
use Rattle.uc_batch.specs.declared.read_error.ReadError.{ReadError}
use Rattle.uc_tool_opening.specs.Opening.{batch_texts, FitsLog}

-- what a lower crate's law says of a batch of one operation
abbrev pub BatchLaw : Type 0
BatchLaw = (last seq : ℕ) (ops : List Op) → FitsBatch seq ops → (0 < length ops → last < seq) → batch_of last (batch_text seq ops) ≡ Ok (numbered seq ops)

pub fits_alone : (seq : ℕ) (op : Op) → 1 ≤ seq → seq + 1 ≤ 2 ^ 56 → FitsOp op → FitsBatch seq (op ∷ [])
fits_alone seq op from_one below fits = record {
  from_one = from_one;
  begins = omega arith;
  ends = below;
  few = omega arith;
  strings = All-cons FitsOp op [] fits (All-nil FitsOp);
}

batches_again : BatchLaw → (last seq number : ℕ) (ops : List Op) → last < seq → seq + length ops ≤ 2 ^ 56 → AllByRecursion FitsOp ops → batches_of last number (batch_texts seq ops) ≡ record { writes = numbered seq ops; refused = None }
batches_again law last seq number [] above few fits = refl
batches_again law last seq number (op ∷ ops) above few fits =
    let one : batch_of last (batch_text seq (op ∷ [])) ≡ Ok (numbered seq (op ∷ [])) = law last seq (op ∷ []) (fits_alone seq op (omega (arith, above)) (omega (arith, few)) fits.0) (λ h. above) in
    ap (after_batch (λ used. batches_of used (number + 1) (batch_texts (seq + 1) ops)) last number) one
    ∙ ap (λ (b : Batches). record { writes = record { seq = seq; op = op } ∷ b.writes; refused = b.refused }) (batches_again law seq (seq + 1) (number + 1) ops (omega arith) (omega (arith, few)) fits.1)

-- what the log of the operations holds, numbered from this sequence on
abbrev pub clean_log : ℕ → List Op → WriteLog
clean_log seq ops = record { list = numbered seq ops; ended = ended.Clean }

-- the log is read as the writes, to its clean end
pub log_again : BatchLaw → ((payloads : List (List ℕ)) → IsReadAgain payloads) → (seq : ℕ) (ops : List Op) → FitsLog seq ops → log_writes (log_text (batch_texts seq ops)) ≡ clean_log seq ops
log_again law again seq ops fits =
    let texts = batch_texts seq ops in
    let r = again texts in
    let all : batches_of 0 1 texts ≡ record { writes = numbered seq ops; refused = None } = batches_again law 0 seq 1 ops fits.from_one fits.few (recursion_from_All FitsOp ops fits.strings) in
    ap (λ (ps : List (List ℕ)). kept (batches_of 0 1 ps) (ending_of (log_text texts))) r.same
    ∙ ap (kept (batches_of 0 1 texts)) r.clean
    ∙ ap (λ (b : Batches). kept b Clean) all

-- one batch more
pub batch_more : (log : List (List ℕ)) (seq i : ℕ) (ops : List Op) (op : Op) (whole : List (List ℕ)) → i < length ops → op ≡ get_or ops i op → log ++ batch_texts seq (drop i ops) ≡ whole → (log ++ batch_text seq (op ∷ []) ∷ []) ++ batch_texts (seq + 1) (drop (i + 1) ops) ≡ whole
batch_more log seq i ops op whole lt e so_far =
    let here : drop i ops ≡ op ∷ drop (i + 1) ops = drop_more ops i op lt ∙ ap (λ (o : Op). o ∷ drop (i + 1) ops) (sym e) in
    append_assoc log (batch_text seq (op ∷ []) ∷ []) (batch_texts (seq + 1) (drop (i + 1) ops))
    ∙ ap (λ (l : List Op). log ++ batch_texts seq l) (sym here) ∙ so_far

pub fits_at : (seq i : ℕ) (ops : List Op) (op : Op) → i < length ops → op ≡ get_or ops i op → FitsLog seq ops → FitsBatch (seq + i) (op ∷ [])
fits_at seq i ops op lt e fits = fits_alone (seq + i) op (omega (arith, fits.from_one)) (omega (arith, lt, fits.few)) (subst FitsOp (sym e) (fits.strings i op lt))

-- ---- point-in-time recovery gives what a log holds

abbrev or_else : WriteLog → Result WriteLog ReadError → WriteLog
or_else w (Ok read) = read
or_else w (Err error) = w

pub read_back : (log : List ℕ) (w v : WriteLog) → log_writes log ≡ v → writes_of PointInTime log ≡ Ok w → w ≡ v
read_back log w v is read = sym (ap (or_else v) read) ∙ is
