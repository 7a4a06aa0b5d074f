-- The bytes that the writer writes for a batch are one by the grammar.
use Rattle.std.proofs.Common.{ℕ, zero, suc, ◌/◌, ◌^◌, ◌<◌, List, [], ◌∷◌, ◌++◌, length, Some, refl, ap, append_assoc, lt-ltb, arith, inl, inr, false}
use Rattle.std.specs.List.{flat_map, AllByRecursion}
use Rattle.std.specs.Int.{w32, w64, to_le_bytes}
use Rattle.std.proofs.lemmas.Bool.{le-ltb, cases_lt}
use Rattle.std.proofs.lemmas.List.Elements.{recursion_from_All}
use Rattle.uc_bytes.specs.declared.op.Op.{Op}
use Rattle.uc_bytes.specs.declared.op.Op.TheVariants.{Put, Delete, Merge, DeleteRange}
use Rattle.uc_batch.specs.declared.tag.Form.TheVariants as form
use Rattle.uc_batch.specs.Varint.{room_for}
use Rattle.uc_batch.specs.Spelling.{varint_text, string_text, op_text, batch_text, FitsOp, FitsBatch}
use Rattle.uc_batch.specs.Grammar.{Spells, IsString, AreStrings, IsRecord, AreRecords, IsBatch}

number_spelled : (more n : ℕ) → n < room_for more → Spells more (varint_text more n) n
unfolding varint_text
number_spelled zero n small = (small, refl, refl)
number_spelled (suc more) n small =
    elim (cases_lt n 128) [
      | inl lt ↦ rw (lt-ltb n 128 lt) (inl (lt, refl, refl))
      | inr le ↦ rw (le-ltb n 128 le) (inr (n / 128, omega arith, number_spelled more (n / 128) (omega arith), omega arith))
    ]

string_spelled : (text : List ℕ) → length text < 2 ^ 32 → IsString (string_text text) text
string_spelled text small = (varint_text 4 (length text), number_spelled 4 (length text) small, refl)

strings_spelled : (a b : List ℕ) → length a < 2 ^ 32 → length b < 2 ^ 32 → AreStrings (string_text a ++ string_text b) a b
strings_spelled a b p q = (string_text a, string_text b, string_spelled a p, string_spelled b q, refl)

record_spelled : (op : Op) → FitsOp op → IsRecord (op_text op) (Some op)
record_spelled (Delete key) fits = record {
  layout = record { form = form.Deletion; has_family = false };
  family = [];
  body = string_text key;
  announced = refl;
  is_family = refl;
  is_body = (key, string_spelled key fits, refl);
  parts = refl;
}
record_spelled (Put key value) fits = record {
  layout = record { form = form.Value; has_family = false };
  family = [];
  body = string_text key ++ string_text value;
  announced = refl;
  is_family = refl;
  is_body = (key, value, strings_spelled key value fits.0 fits.1, refl);
  parts = refl;
}
record_spelled (Merge key operand) fits = record {
  layout = record { form = form.Merge; has_family = false };
  family = [];
  body = string_text key ++ string_text operand;
  announced = refl;
  is_family = refl;
  is_body = (key, operand, strings_spelled key operand fits.0 fits.1, refl);
  parts = refl;
}
record_spelled (DeleteRange begin end) fits = record {
  layout = record { form = form.RangeDeletion; has_family = false };
  family = [];
  body = string_text begin ++ string_text end;
  announced = refl;
  is_family = refl;
  is_body = (begin, end, strings_spelled begin end fits.0 fits.1, refl);
  parts = refl;
}

records_spelled : (ops : List Op) → AllByRecursion FitsOp ops → AreRecords (flat_map op_text ops) ops
records_spelled [] fits = record { records = []; each = tt; whole = refl; counted = refl }
records_spelled (op ∷ ops) fits =
    let others = records_spelled ops fits.1 in
    record {
      records = (op_text op, Some op) ∷ others.records;
      each = (record_spelled op fits.0, others.each);
      whole = ap (λ (l : List ℕ). op_text op ++ l) others.whole;
      counted = ap (λ (l : List Op). op ∷ l) others.counted;
    }

pub batch_spelled : (seq : ℕ) (ops : List Op) → FitsBatch seq ops → IsBatch (batch_text seq ops) seq (length ops) ops
batch_spelled seq ops fits = record {
  body = flat_map op_text ops;
  seq_fits = omega (arith, fits.begins);
  count_fits = fits.few;
  whole = append_assoc (to_le_bytes w64 seq) (to_le_bytes w32 (length ops)) (flat_map op_text ops);
  records = records_spelled ops (recursion_from_All FitsOp ops fits.strings);
}
