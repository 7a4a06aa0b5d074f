-- Reading returns what the writer wrote.
use Rattle.std.proofs.Common.{◌≡◌, ℕ, zero, suc, ◌+◌, ◌-◌, ◌*◌, ◌/◌, ◌%◌, ◌^◌, ◌<◌, ◌≤◌, false, ltb, List, [], ◌∷◌, ◌++◌, length, take, drop, Some, Ok, refl, ap, ◌∙◌, append_assoc, lt-ltb, eq-eqb, arith, inl, inr}
use Rattle.std.specs.List.{flat_map, All, AllByRecursion}
use Rattle.std.specs.Int.{w32, w64, to_le_bytes, from_le_bytes}
use Rattle.std.proofs.lemmas.Bool.{le-ltb, cases_lt}
use Rattle.std.proofs.lemmas.Bool.Decides.{nat_tests}
use Rattle.std.proofs.lemmas.List.{take_at, drop_at, length-append}
use Rattle.std.proofs.lemmas.List.Elements.{recursion_from_All}
use Rattle.std.proofs.lemmas.Nat.{from_le_bytes-to_le_bytes_4, from_le_bytes-to_le_bytes_8}
use Rattle.uc_bytes.specs.declared.op.Op.{Op}
use Rattle.uc_bytes.specs.declared.op.Op.TheVariants.{Put, Delete, Merge, DeleteRange}
use Rattle.uc_bytes.specs.declared.write.Write.{Write}
use Rattle.uc_batch.specs.Reads.{◌>>=◌}
use Rattle.uc_batch.specs.Varint.{varint_from, room_for}
use Rattle.uc_batch.specs.Records.{string_at, strings_at, body_at, after_family, laid_out, record_at, records_from, operations}
use Rattle.uc_batch.specs.Batch.{numbered, counted_of, judged, batch_of}
use Rattle.uc_batch.specs.Spelling.{varint_text, string_text, op_text, batch_text, FitsOp, FitsBatch}
use Rattle.uc_batch.proofs.Counted.{one_record}

pub varint_again : (more start here n : ℕ) (rest : List ℕ) → n < room_for more → varint_from more start here (varint_text more n ++ rest) ≡ Ok (n, rest)
unfolding varint_from varint_text
varint_again zero start here n rest small = rw (lt-ltb n 16 small) refl
varint_again (suc more) start here n rest small =
    elim (cases_lt n 128) [
      | inl lt ↦ rw (lt-ltb n 128 lt) (rw (lt-ltb n 128 lt) refl)
      | inr le ↦
          let again : varint_from more start here (varint_text more (n / 128) ++ rest) ≡ Ok (n / 128, rest) = varint_again more start here (n / 128) rest (omega arith) in
          let sum : n % 128 + 128 - 128 + 128 * (n / 128) ≡ n = omega arith in
          rw (le-ltb n 128 le) (rw (le-ltb (n % 128 + 128) 128 (omega arith), again, sum) refl)
    ]

pub string_again : (total start : ℕ) (text rest : List ℕ) → length text < 2 ^ 32 → string_at total start (string_text text ++ rest) ≡ Ok (text, rest)
unfolding string_at
string_again total start text rest small =
    let regrouped : string_text text ++ rest ≡ varint_text 4 (length text) ++ (text ++ rest) = append_assoc (varint_text 4 (length text)) text rest in
    let number : varint_from 4 start (total - length (string_text text ++ rest)) (string_text text ++ rest) ≡ Ok (length text, text ++ rest) = ap (varint_from 4 start (total - length (string_text text ++ rest))) regrouped ∙ varint_again 4 start (total - length (string_text text ++ rest)) (length text) (text ++ rest) small in
    let long : ltb (length (text ++ rest)) (length text) ≡ false = le-ltb _ _ (omega (arith, length-append text rest)) in
    rw (number, long, take_at text rest (length text) refl, drop_at text rest (length text) refl) refl

strings_again : (total start : ℕ) (a b rest : List ℕ) → length a < 2 ^ 32 → length b < 2 ^ 32 → strings_at total start ((string_text a ++ string_text b) ++ rest) ≡ Ok ((a, b), rest)
unfolding strings_at
strings_again total start a b rest p q =
    ap (strings_at total start) (append_assoc (string_text a) (string_text b) rest)
    ∙ rw (string_again total start a (string_text b ++ rest) p, string_again total start b rest q) refl

pub record_again : (total : ℕ) (op : Op) (rest : List ℕ) → FitsOp op → record_at total (op_text op ++ rest) ≡ Ok (Some op, rest)
unfolding record_at laid_out after_family body_at
record_again total (Delete key) rest fits = rw (string_again total (total - length (op_text (Delete key) ++ rest)) key rest fits) refl
record_again total (Put key value) rest fits = rw (strings_again total (total - length (op_text (Put key value) ++ rest)) key value rest fits.0 fits.1) refl
record_again total (Merge key operand) rest fits = rw (strings_again total (total - length (op_text (Merge key operand) ++ rest)) key operand rest fits.0 fits.1) refl
record_again total (DeleteRange begin end) rest fits = rw (strings_again total (total - length (op_text (DeleteRange begin end) ++ rest)) begin end rest fits.0 fits.1) refl

some_text : (op : Op) (rest : List ℕ) → 0 < length (op_text op ++ rest)
some_text (Delete key) rest = omega arith
some_text (Put key value) rest = omega arith
some_text (Merge key operand) rest = omega arith
some_text (DeleteRange begin end) rest = omega arith

pub operations_again : (total : ℕ) (ops : List Op) → AllByRecursion FitsOp ops → operations total (flat_map op_text ops) ≡ Ok ops
unfolding records_from
operations_again total [] fits = refl
operations_again total (op ∷ ops) fits =
    one_record total (op_text op ++ flat_map op_text ops) (Some op, flat_map op_text ops) (some_text op (flat_map op_text ops)) (record_again total op (flat_map op_text ops) fits.0)
    ∙ rw (operations_again total ops fits.1) refl

pub judged_again : (last seq count : ℕ) → (0 < count → last < seq) → seq + count ≤ 2 ^ 56 → judged last seq count ≡ Ok seq
unfolding judged
judged_again last seq zero above room = refl
judged_again last seq (suc count) above room =
    let lt : last < seq = above (omega arith) in
    grind (arith, nat_tests)

-- a batch by its parts
pub whole_by_parts : (last seq count : ℕ) (bytes body : List ℕ) → ltb (length bytes) 12 ≡ false → from_le_bytes w64 (take 8 bytes) ≡ seq → from_le_bytes w32 (take 4 (drop 8 bytes)) ≡ count → drop 12 bytes ≡ body
    → batch_of last bytes ≡ (judged last seq count >>= λ s. counted_of s count (length bytes) body)
unfolding batch_of
whole_by_parts last seq count bytes body long seq-is count-is body-is = rw (long, seq-is, count-is, body-is) refl

-- a batch that is accepted, by its parts
pub by_parts : (last seq count : ℕ) (bytes body : List ℕ) (writes : List Write) → ltb (length bytes) 12 ≡ false → from_le_bytes w64 (take 8 bytes) ≡ seq → from_le_bytes w32 (take 4 (drop 8 bytes)) ≡ count → drop 12 bytes ≡ body
    → judged last seq count ≡ Ok seq → counted_of seq count (length bytes) body ≡ Ok writes → batch_of last bytes ≡ Ok writes
by_parts last seq count bytes body writes long seq-is count-is body-is fine counted = whole_by_parts last seq count bytes body long seq-is count-is body-is ∙ rw fine counted

pub counted_again : (seq total : ℕ) (ops : List Op) → AllByRecursion FitsOp ops → counted_of seq (length ops) total (flat_map op_text ops) ≡ Ok (numbered seq ops)
unfolding counted_of
counted_again seq total ops fits = rw (operations_again total ops fits, eq-eqb (length ops) (length ops) refl) refl

-- what was written is read by its header, of which the sequence takes 8 bytes
pub text_again : (last seq : ℕ) (ops : List Op) → length ops < 2 ^ 32
    → batch_of last (batch_text seq ops) ≡ (judged last (from_le_bytes w64 (to_le_bytes w64 seq)) (length ops) >>= λ s. counted_of s (length ops) (length (batch_text seq ops)) (flat_map op_text ops))
text_again last seq ops few =
    let text = batch_text seq ops in
    let body = flat_map op_text ops in
    let s = to_le_bytes w64 seq in
    let n = to_le_bytes w32 (length ops) in
    let long : ltb (length text) 12 ≡ false = le-ltb _ _ (omega (arith, length-append (s ++ n) body, length-append s n)) in
    let seq-is : from_le_bytes w64 (take 8 text) ≡ from_le_bytes w64 s = ap (from_le_bytes w64) (ap (take 8) (append_assoc s n body) ∙ take_at s (n ++ body) 8 refl) in
    let count-is : from_le_bytes w32 (take 4 (drop 8 text)) ≡ length ops = ap (λ (l : List ℕ). from_le_bytes w32 (take 4 l)) (ap (drop 8) (append_assoc s n body) ∙ drop_at s (n ++ body) 8 refl) ∙ ap (from_le_bytes w32) (take_at n body 4 refl) ∙ from_le_bytes-to_le_bytes_4 (length ops) few in
    let body-is : drop 12 text ≡ body = drop_at (s ++ n) body 12 refl in
    whole_by_parts last (from_le_bytes w64 s) (length ops) text body long seq-is count-is body-is

-- it is read, if its sequence is accepted
pub accepted_again : (last seq : ℕ) (ops : List Op) → seq < 2 ^ 64 → length ops < 2 ^ 32 → All FitsOp ops → judged last seq (length ops) ≡ Ok seq → batch_of last (batch_text seq ops) ≡ Ok (numbered seq ops)
accepted_again last seq ops small few strings fine =
    text_again last seq ops few
    ∙ rw (from_le_bytes-to_le_bytes_8 seq small, fine) (counted_again seq (length (batch_text seq ops)) ops (recursion_from_All FitsOp ops strings))

-- Reading returns the batch that was written, after any sequence number below its own.
pub batch_again : (last seq : ℕ) (ops : List Op) → FitsBatch seq ops → (0 < length ops → last < seq) → batch_of last (batch_text seq ops) ≡ Ok (numbered seq ops)
batch_again last seq ops fits above = accepted_again last seq ops (omega (arith, fits.begins)) fits.few fits.strings (judged_again last seq (length ops) above fits.ends)
