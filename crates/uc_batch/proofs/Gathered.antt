-- Operations encoded as the bytes of a batch.
use Rattle.std.proofs.Common.{◌≡◌, ℕ, ◌+◌, ◌^◌, ◌<◌, ◌≤◌, List, [], ◌∷◌, ◌++◌, length, take, drop, refl, ap, sym, ◌∙◌, subst, append_assoc, arith}
use Rattle.std.specs.List.{flat_map}
use Rattle.std.specs.Int.{w32, w64, to_le_bytes}
use Rattle.std.proofs.lemmas.Grind.{flat_map-append}
use Rattle.std.proofs.lemmas.List.{take_at, drop_at, append-nil, length-append}
use Rattle.std.proofs.lemmas.List.Elements.{recursion_from_All, All-append, All-cons, All-nil}
use Rattle.uc_bytes.specs.declared.op.Op.{Op}
use Rattle.uc_batch.specs.Gathering.{gathered_ops, AreGathered}
use Rattle.uc_batch.specs.Spelling.{op_text, batch_text, FitsOp}
use Rattle.uc_batch.proofs.Again.{operations_again}

-- the bytes of a header of which the sequence is 0
abbrev header : ℕ → List ℕ
header count = to_le_bytes w64 0 ++ to_le_bytes w32 count

-- the operations are those that the bytes encode
pub gathered : (count : ℕ) (bytes : List ℕ) (ops : List Op) → AreGathered count bytes ops → gathered_ops bytes ≡ ops
gathered count bytes ops are =
    let body : drop 12 bytes ≡ flat_map op_text ops = ap (drop 12) are.text ∙ drop_at (header (length ops)) (flat_map op_text ops) 12 refl in
    rw (body, operations_again (length bytes) ops (recursion_from_All FitsOp ops are.fit.strings)) refl

pub known : (count : ℕ) (bytes : List ℕ) (ops : List Op) → AreGathered count bytes ops → AreGathered count bytes (gathered_ops bytes)
known count bytes ops are = subst (AreGathered count bytes) (sym (gathered count bytes ops are)) are

pub none_gathered : (bytes : List ℕ) → bytes ≡ batch_text 0 [] → AreGathered 0 bytes []
none_gathered bytes text = record { text = text; counted = refl; fit = record { few = omega arith; strings = All-nil FitsOp } }

-- a header, and then records, with another count
recounted : (bytes body : List ℕ) (old new : ℕ) → bytes ≡ header old ++ body → take 8 bytes ++ (to_le_bytes w32 new ++ drop 12 bytes) ≡ header new ++ body
recounted bytes body old new whole =
    let sequence : take 8 bytes ≡ to_le_bytes w64 0 = ap (take 8) (whole ∙ append_assoc (to_le_bytes w64 0) (to_le_bytes w32 old) body) ∙ take_at (to_le_bytes w64 0) (to_le_bytes w32 old ++ body) 8 refl in
    let rest : drop 12 bytes ≡ body = ap (drop 12) whole ∙ drop_at (header old) body 12 refl in
    rw (sequence, rest) (sym (append_assoc (to_le_bytes w64 0) (to_le_bytes w32 new) body))

-- one operation more
pub one_more : (count : ℕ) (op : Op) (ops : List Op) (old mid new : List ℕ) → AreGathered count old ops → FitsOp op → count + 1 < 2 ^ 32 → mid ≡ old ++ op_text op
    → new ≡ take 8 mid ++ (to_le_bytes w32 (count + 1) ++ drop 12 mid) → AreGathered (count + 1) new (ops ++ op ∷ [])
one_more count op ops old mid new are fits few pushed counted =
    let body = flat_map op_text ops in
    let whole : mid ≡ header (length ops) ++ (body ++ op_text op) = pushed ∙ ap (λ (l : List ℕ). l ++ op_text op) are.text ∙ append_assoc (header (length ops)) body (op_text op) in
    let more : flat_map op_text (ops ++ op ∷ []) ≡ body ++ op_text op = flat_map-append op_text ops (op ∷ []) ∙ ap (λ (l : List ℕ). body ++ l) (append-nil (op_text op)) in
    let length-is : length (ops ++ op ∷ []) ≡ count + 1 = simp (length-append, are.counted) refl in
    record {
      text = counted ∙ recounted mid (body ++ op_text op) (length ops) (count + 1) whole ∙ rw (length-is, more) refl;
      counted = sym length-is;
      fit = record { few = rw length-is few; strings = All-append FitsOp ops (op ∷ []) are.fit.strings (All-cons FitsOp op [] fits (All-nil FitsOp)) };
    }

-- none any more
pub cleared : (count : ℕ) (ops : List Op) (old mid new : List ℕ) → AreGathered count old ops → mid ≡ take 12 old → new ≡ take 8 mid ++ (to_le_bytes w32 0 ++ drop 12 mid) → AreGathered 0 new []
cleared count ops old mid new are cut counted =
    let whole : mid ≡ header (length ops) ++ [] = cut ∙ ap (take 12) are.text ∙ take_at (header (length ops)) (flat_map op_text ops) 12 refl ∙ sym (append-nil (header (length ops))) in
    none_gathered new (counted ∙ recounted mid [] (length ops) 0 whole)

-- the bytes contain a header
pub long : (count : ℕ) (ops : List Op) (bytes : List ℕ) → AreGathered count bytes ops → 12 ≤ length bytes
long count ops bytes are = rw are.text (omega (arith, length-append (header (length ops)) (flat_map op_text ops)))
