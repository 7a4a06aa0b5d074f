-- Encoded operations that get a sequence number.
use Rattle.std.proofs.Common.{◌≡◌, ℕ, ◌+◌, ◌^◌, ◌<◌, ◌≤◌, List, [], ◌∷◌, ◌++◌, length, drop, Ok, Err, refl, ap, sym, ◌∙◌, append_assoc, arith}
use Rattle.std.specs.List.{flat_map, AllByRecursion}
use Rattle.std.specs.Int.{w32, w64, to_le_bytes, from_le_bytes}
use Rattle.std.proofs.lemmas.Bool.Decides.{nat_tests}
use Rattle.std.proofs.lemmas.List.{drop_at}
use Rattle.std.proofs.lemmas.List.Elements.{recursion_from_All}
use Rattle.std.proofs.lemmas.Nat.{from_le_bytes-to_le_bytes_8}
use Rattle.uc_bytes.specs.declared.op.Op.{Op}
use Rattle.uc_bytes.specs.declared.write.Write.{Write}
use Rattle.uc_batch.specs.declared.error.BatchError.TheVariants.{SequenceTooLarge}
use Rattle.uc_batch.specs.Reads.{◌>>=◌}
use Rattle.uc_batch.specs.Batch.{judged, counted_of, numbered, batch_of}
use Rattle.uc_batch.specs.Gathering.{numbered_text, FitTogether}
use Rattle.uc_batch.specs.Spelling.{op_text, batch_text, FitsOp}
use Rattle.uc_batch.proofs.Again.{accepted_again, counted_again, judged_again, text_again}
use Rattle.uc_batch.proofs.Found.{judged_found}
use Rattle.uc_batch.proofs.Steps.{bind_ok, ok_is}

-- the bytes have the sequence number
pub renumbered : (seq : ℕ) (ops : List Op) → numbered_text seq ops ≡ batch_text seq ops
renumbered seq ops =
    let n = to_le_bytes w32 (length ops) in
    let body = flat_map op_text ops in
    ap (λ (l : List ℕ). to_le_bytes w64 seq ++ l) (ap (drop 8) (append_assoc (to_le_bytes w64 0) n body) ∙ drop_at (to_le_bytes w64 0) (n ++ body) 8 refl)
    ∙ sym (append_assoc (to_le_bytes w64 seq) n body)

pub renumbered_read : (last : ℕ) (ops : List Op) → FitTogether ops → last + length ops < 2 ^ 56 → batch_of last (numbered_text (last + 1) ops) ≡ Ok (numbered (last + 1) ops)
renumbered_read last ops fit left =
    ap (batch_of last) (renumbered (last + 1) ops)
    ∙ accepted_again last (last + 1) ops (omega arith) fit.few fit.strings (judged_again last (last + 1) (length ops) (λ _. omega arith) (omega arith))

judged_spent : (last count : ℕ) → last < 2 ^ 56 → 2 ^ 56 ≤ last + count → judged last (last + 1) count ≡ Err SequenceTooLarge
unfolding judged
judged_spent last count small spent =
    let some : 0 < count = omega arith in
    let above : last < last + 1 = omega arith in
    let much : 2 ^ 56 < last + 1 + count = omega arith in
    grind (arith, nat_tests)

pub renumbered_refused : (last : ℕ) (ops : List Op) → FitTogether ops → last < 2 ^ 56 → 2 ^ 56 ≤ last + length ops → batch_of last (numbered_text (last + 1) ops) ≡ Err SequenceTooLarge
renumbered_refused last ops fit small spent =
    ap (batch_of last) (renumbered (last + 1) ops) ∙ text_again last (last + 1) ops fit.few
    ∙ rw (from_le_bytes-to_le_bytes_8 (last + 1) (omega arith), judged_spent last (length ops) small spent) refl

eight_back : (n : ℕ) → from_le_bytes w64 (to_le_bytes w64 n) < 2 ^ 64
eight_back n = omega arith

-- what is accepted has the sequence of its header
by_header : (last seq total : ℕ) (ops : List Op) (writes : List Write) → AllByRecursion FitsOp ops → (judged last seq (length ops) >>= λ s. counted_of s (length ops) total (flat_map op_text ops)) ≡ Ok writes
    → (writes ≡ numbered seq ops) × (0 < length ops → last < seq) × (0 < length ops → seq + length ops ≤ 2 ^ 56)
by_header last seq total ops writes strings e =
    let j = bind_ok (judged last seq (length ops)) (λ s. counted_of s (length ops) total (flat_map op_text ops)) writes e in
    let fine = judged_found last seq (length ops) j.0 j.1 in
    let same : Ok writes ≡ Ok (numbered j.0 ops) = sym j.2 ∙ counted_again j.0 total ops strings in
    (ok_is writes (numbered j.0 ops) same ∙ ap (λ (s : ℕ). numbered s ops) fine.0, fine.1, fine.2)

-- the sequence number in the header is the one after the last, if it may follow
told : (last seq : ℕ) (ops : List Op) (writes : List Write) → seq ≡ from_le_bytes w64 (to_le_bytes w64 (last + 1)) → (writes ≡ numbered seq ops) × (0 < length ops → last < seq) × (0 < length ops → seq + length ops ≤ 2 ^ 56)
    → (writes ≡ numbered (last + 1) ops) × (0 < length ops → last + length ops < 2 ^ 56)
told last seq [] writes e found = (found.0, λ h. omega arith)
told last seq (op ∷ ops) writes e found =
    let some : 0 < length (op ∷ ops) = omega arith in
    let above : last < seq = found.1 some in
    let small : last + 1 < 2 ^ 64 = omega (arith, e, eight_back (last + 1)) in
    let is : seq ≡ last + 1 = e ∙ from_le_bytes-to_le_bytes_8 (last + 1) small in
    (found.0 ∙ ap (λ (s : ℕ). numbered s (op ∷ ops)) is, λ h. omega (arith, found.2 some, is))

pub renumbered_only : (last : ℕ) (ops : List Op) (writes : List Write) → FitTogether ops → batch_of last (numbered_text (last + 1) ops) ≡ Ok writes
    → (writes ≡ numbered (last + 1) ops) × (0 < length ops → last + length ops < 2 ^ 56)
renumbered_only last ops writes fit e =
    let seq = from_le_bytes w64 (to_le_bytes w64 (last + 1)) in
    let total = length (batch_text (last + 1) ops) in
    let whole : (judged last seq (length ops) >>= λ s. counted_of s (length ops) total (flat_map op_text ops)) ≡ Ok writes = sym (text_again last (last + 1) ops fit.few) ∙ sym (ap (batch_of last) (renumbered (last + 1) ops)) ∙ e in
    told last seq ops writes refl (by_header last seq total ops writes (recursion_from_All FitsOp ops fit.strings) whole)
