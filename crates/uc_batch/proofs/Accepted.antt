-- The reader returns the batch that the grammar relates to the bytes.
use Rattle.std.proofs.Common.{◌≡◌, ℕ, zero, suc, ◌+◌, ◌-◌, ◌*◌, ◌^◌, ◌<◌, ◌≤◌, Bool, true, false, ltb, List, [], ◌∷◌, ◌++◌, length, take, drop, Option, Some, option_to_list, Ok, refl, ap, sym, ◌∙◌, append_assoc, lt-ltb, eq-eqb, arith, inl, inr}
use Rattle.std.specs.List.{flat_map, AllByRecursion}
use Rattle.std.specs.Int.{w32, w64, to_le_bytes, from_le_bytes}
use Rattle.std.proofs.lemmas.Bool.{le-ltb}
use Rattle.std.proofs.lemmas.List.{take_at, drop_at, length-append}
use Rattle.std.proofs.lemmas.Nat.{from_le_bytes-to_le_bytes_4, from_le_bytes-to_le_bytes_8}
use Rattle.uc_bytes.specs.declared.op.Op.{Op}
use Rattle.uc_bytes.specs.declared.write.Write.{Write}
use Rattle.uc_batch.specs.declared.tag.Form.{Form}
use Rattle.uc_batch.specs.declared.tag.Form.TheVariants as form
use Rattle.uc_batch.specs.declared.tag.Layout.{Layout}
use Rattle.uc_batch.specs.Varint.{varint_from}
use Rattle.uc_batch.specs.Records.{string_at, strings_at, family_at, body_at, after_family, laid_out, record_at, records_from, operations}
use Rattle.uc_batch.specs.Batch.{numbered, counted_of, judged, batch_of}
use Rattle.uc_batch.specs.Grammar.{Spells, IsString, AreStrings, IsFamily, IsBody, IsRecord, Accepts}
use Rattle.uc_batch.proofs.Counted.{one_record}
use Rattle.uc_batch.proofs.Again.{by_parts, judged_again}

pub varint_accepted : (more start here n : ℕ) (bytes rest : List ℕ) → Spells more bytes n → varint_from more start here (bytes ++ rest) ≡ Ok (n, rest)
unfolding varint_from
varint_accepted more start here n [] rest s = absurd s
varint_accepted zero start here n (b ∷ bs) rest s = rw (lt-ltb b 16 s.0, s.1, s.2) refl
varint_accepted (suc more) start here n (b ∷ bs) rest (inl s) = rw (lt-ltb b 128 s.0, s.1, s.2) refl
varint_accepted (suc more) start here n (b ∷ bs) rest (inr s) =
    let sum : b - 128 + 128 * s.0 ≡ n = omega arith in
    rw (le-ltb b 128 s.1, varint_accepted more start here s.0 bs rest s.2, sum) refl

string_accepted : (total start : ℕ) (bytes text rest : List ℕ) → IsString bytes text → string_at total start (bytes ++ rest) ≡ Ok (text, rest)
unfolding string_at
string_accepted total start bytes text rest s =
    let here = total - length (bytes ++ rest) in
    let regrouped : bytes ++ rest ≡ s.0 ++ (text ++ rest) = ap (λ (l : List ℕ). l ++ rest) s.2 ∙ append_assoc s.0 text rest in
    let number : varint_from 4 start here (bytes ++ rest) ≡ Ok (length text, text ++ rest) = ap (varint_from 4 start here) regrouped ∙ varint_accepted 4 start here (length text) s.0 (text ++ rest) s.1 in
    let long : ltb (length (text ++ rest)) (length text) ≡ false = le-ltb _ _ (omega (arith, length-append text rest)) in
    rw (number, long, take_at text rest (length text) refl, drop_at text rest (length text) refl) refl

strings_accepted : (total start : ℕ) (bytes a b rest : List ℕ) → AreStrings bytes a b → strings_at total start (bytes ++ rest) ≡ Ok ((a, b), rest)
unfolding strings_at
strings_accepted total start bytes a b rest s =
    ap (strings_at total start) (ap (λ (l : List ℕ). l ++ rest) s.4 ∙ append_assoc s.0 s.1 rest)
    ∙ rw (string_accepted total start s.0 a (s.1 ++ rest) s.2, string_accepted total start s.1 b rest s.3) refl

body_accepted : (f : Form) (total start : ℕ) (bytes rest : List ℕ) (o : Option Op) → IsBody f bytes o → body_at f total start (bytes ++ rest) ≡ Ok (o, rest)
unfolding body_at
body_accepted form.Deletion total start bytes rest o b = rw (string_accepted total start bytes b.0 rest b.1, b.2) refl
body_accepted form.Value total start bytes rest o b = rw (strings_accepted total start bytes b.0 b.1 rest b.2, b.3) refl
body_accepted form.Merge total start bytes rest o b = rw (strings_accepted total start bytes b.0 b.1 rest b.2, b.3) refl
body_accepted form.LogData total start bytes rest o b = rw (string_accepted total start bytes b.0 rest b.1, b.2) refl
body_accepted form.Noop total start bytes rest o b = rw (b.0, b.1) refl
body_accepted form.RangeDeletion total start bytes rest o b = rw (strings_accepted total start bytes b.0 b.1 rest b.2, b.3) refl

family_accepted : (has : Bool) (total start : ℕ) (bytes rest : List ℕ) → IsFamily has bytes → after_family has total start (bytes ++ rest) ≡ Ok rest
unfolding after_family family_at
family_accepted false total start bytes rest f = rw f refl
family_accepted true total start bytes rest f = rw (varint_accepted 4 start (total - length (bytes ++ rest)) 0 bytes rest f) refl

laid_out_accepted : (layout : Layout) (tag total start : ℕ) (family body rest : List ℕ) (o : Option Op) → IsFamily layout.has_family family → IsBody layout.form body o → laid_out (Some layout) tag total start (family ++ (body ++ rest)) ≡ Ok (o, rest)
unfolding laid_out
laid_out_accepted layout tag total start family body rest o f b =
    rw (family_accepted layout.has_family total start family (body ++ rest) f, body_accepted layout.form total start body rest o b) refl

record_accepted : (total : ℕ) (bytes rest : List ℕ) (o : Option Op) → IsRecord bytes o → record_at total (bytes ++ rest) ≡ Ok (o, rest)
unfolding record_at
record_accepted total [] rest o r = absurd r
record_accepted total (tag ∷ bytes) rest o r =
    let start = total - length (tag ∷ (bytes ++ rest)) in
    ap (λ (l : Option Layout). laid_out l tag total start (bytes ++ rest)) r.announced
    ∙ ap (laid_out (Some r.layout) tag total start) (ap (λ (l : List ℕ). l ++ rest) r.parts ∙ append_assoc r.family r.body rest)
    ∙ laid_out_accepted r.layout tag total start r.family r.body rest o r.is_family r.is_body

some_record : (bytes rest : List ℕ) (o : Option Op) → IsRecord bytes o → 0 < length (bytes ++ rest)
some_record [] rest o r = absurd r
some_record (tag ∷ bytes) rest o r = omega arith

records_accepted : (total : ℕ) (records : List (List ℕ × Option Op)) → AllByRecursion (λ r. IsRecord r.0 r.1) records → operations total (flat_map (λ r. r.0) records) ≡ Ok (flat_map (λ r. option_to_list r.1) records)
unfolding records_from
records_accepted total [] each = refl
records_accepted total (r ∷ records) each =
    let rest = flat_map (λ (x : List ℕ × Option Op). x.0) records in
    one_record total (r.0 ++ rest) (r.1, rest) (some_record r.0 rest r.1 each.0) (record_accepted total r.0 rest r.1 each.0)
    ∙ rw (records_accepted total records each.1) refl

counted_accepted : (seq total : ℕ) (body : List ℕ) (ops : List Op) → operations total body ≡ Ok ops → counted_of seq (length ops) total body ≡ Ok (numbered seq ops)
unfolding counted_of
counted_accepted seq total body ops e = rw (e, eq-eqb (length ops) (length ops) refl) refl

judged_accepted : (last seq count : ℕ) → (0 < count → last < seq) → (0 < count → seq + count ≤ 2 ^ 56) → judged last seq count ≡ Ok seq
unfolding judged
judged_accepted last seq zero above below = refl
judged_accepted last seq (suc count) above below = judged_again last seq (suc count) above (below (omega arith))

-- a batch that the grammar relates to its writes is accepted
pub batch_accepted : (last : ℕ) (bytes : List ℕ) (writes : List Write) → Accepts last bytes writes → batch_of last bytes ≡ Ok writes
batch_accepted last bytes writes a =
    let s = to_le_bytes w64 a.seq in
    let n = to_le_bytes w32 a.count in
    let body = a.is_batch.body in
    let whole = a.is_batch.whole in
    let text = s ++ (n ++ body) in
    let long : ltb (length text) 12 ≡ false = le-ltb _ _ (omega (arith, length-append s (n ++ body), length-append n body)) in
    let seq-is : from_le_bytes w64 (take 8 text) ≡ a.seq = ap (from_le_bytes w64) (take_at s (n ++ body) 8 refl) ∙ from_le_bytes-to_le_bytes_8 a.seq a.is_batch.seq_fits in
    let count-is : from_le_bytes w32 (take 4 (drop 8 text)) ≡ a.count = ap (λ (l : List ℕ). from_le_bytes w32 (take 4 l)) (drop_at s (n ++ body) 8 refl) ∙ ap (from_le_bytes w32) (take_at n body 4 refl) ∙ from_le_bytes-to_le_bytes_4 a.count a.is_batch.count_fits in
    let body-is : drop 12 text ≡ body = ap (drop 12) (sym (append_assoc s n body)) ∙ drop_at (s ++ n) body 12 refl in
    let r = a.is_batch.records in
    let read : operations (length text) body ≡ Ok a.ops = ap (operations (length text)) r.whole ∙ records_accepted (length text) r.records r.each ∙ ap (λ (l : List Op). Ok l) (sym r.counted) in
    let counted : counted_of a.seq a.count (length text) body ≡ Ok writes = ap (λ (c : ℕ). counted_of a.seq c (length text) body) (sym a.right_count) ∙ counted_accepted a.seq (length text) body a.ops read ∙ ap (λ (l : List Write). Ok l) (sym a.numbers) in
    ap (batch_of last) whole ∙ by_parts last a.seq a.count text body writes long seq-is count-is body-is (judged_accepted last a.seq a.count a.above a.below) counted
