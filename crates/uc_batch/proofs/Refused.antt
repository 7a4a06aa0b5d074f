-- The fault of a batch that isn't valid.
use Rattle.std.proofs.Common.{◌≡◌, ◌≢◌, ℕ, zero, suc, ◌+◌, ◌-◌, ◌*◌, ◌^◌, ◌<◌, ◌≤◌, ◌⊎◌, Bool, true, false, cond, ltb, leb, eqb, List, [], ◌∷◌, ◌++◌, length, take, drop, Option, Some, None, option_to_list, Result, Ok, Err, refl, ap, sym, ◌∙◌, subst, append_assoc, eq-eqb, arith, inl, inr}
use Rattle.std.proofs.lemmas.Bool.{ltb-false, ltb-true, leb-false, leb-true, lt-ltb}
use Rattle.std.proofs.lemmas.List.{length-append, length-drop}
use Rattle.uc_bytes.specs.declared.op.Op.{Op}
use Rattle.uc_bytes.specs.declared.op.Op.TheVariants as op
use Rattle.uc_batch.specs.declared.error.BatchError.{BatchError}
use Rattle.uc_batch.specs.declared.error.BatchError.TheVariants as faults
use Rattle.uc_batch.specs.declared.tag.Form.{Form}
use Rattle.uc_batch.specs.declared.tag.Form.TheVariants as form
use Rattle.uc_batch.specs.declared.tag.Layout.{Layout}
use Rattle.uc_batch.specs.Tag.{layout_at}
use Rattle.uc_batch.specs.Reads.{◌>>=◌}
use Rattle.uc_batch.specs.Varint.{varint_from}
use Rattle.std.specs.Prelude.{◌&&◌}
use Rattle.std.specs.Int.{w32, w64, from_le_bytes}
use Rattle.uc_batch.specs.Batch.{numbered, judged, counted_of, batch_of}
use Rattle.uc_batch.specs.Records.{operations, string_at, strings_at, family_at, body_at, after_family, laid_out, record_at, records_from}
use Rattle.uc_batch.specs.Grammar.{IsRecord, AreRecords}
use Rattle.uc_batch.specs.Refusal.{NumberIsCut, NumberIsLong, Field, Family, Text, texts_of, fields_of, IsField, FieldFault, number_cut, text_cut, number_long, other_family, FaultAmong, RecordFault, bad_tag, bad_field, StopsAt, HasHeader, MayFollow, IsRefused, too_short, sequence_back, sequence_too_large, faulty, wrong_count}
use Rattle.uc_batch.proofs.Found.{Takes, varint_found, string_found, family_found, record_found, records_found, judged_found, asked, IsBytes, header_whole, eight_fit, four_fit}
use Rattle.uc_batch.proofs.Shorter.{record_shorter}

-- ---- steps that failed

abbrev fault_of : {A : Type 0} → BatchError → Result A BatchError
fault_of e = Err e

same_fault : {A : Type 0} (d e : BatchError) → fault_of {A = A} d ≡ fault_of e → d ≡ e
same_fault d e h = cc

-- the step itself, or the one on what it read
bind_err : {A B : Type 0} (r : Result A BatchError) (f : A → Result B BatchError) (e : BatchError) → (r >>= f) ≡ Err e → (r ≡ Err e) ⊎ ((x : A) × (r ≡ Ok x) × (f x ≡ Err e))
bind_err (Ok x) f e h = inr (x, refl, h)
bind_err {A} (Err d) f e h = inl (ap (fault_of {A = A}) (same_fault d e h))

-- a value is no fault
no_fault : {A : Type 0} (x : A) (e : BatchError) → ◌≡◌ {A = Result A BatchError} (Ok x) (Err e) → ⊥
no_fault x e h = cc

-- a step that gives a value in any case
only_first : {A B : Type 0} (r : Result A BatchError) (f : A → B) (e : BatchError) → (r >>= λ x. Ok (f x)) ≡ Err e → r ≡ Err e
only_first (Ok x) f e h = absurd (no_fault (f x) e h)
only_first {A} (Err d) f e h = ap (fault_of {A = A}) (same_fault d e h)

tested : {A : Type 0} (b : Bool) (d : BatchError) (x : A) (e : BatchError) → cond b (Ok x) (Err d) ≡ Err e → (b ≡ false) × (d ≡ e)
tested true d x e h = absurd (no_fault x e h)
tested false d x e h = (refl, same_fault d e h)

unless_tested : {A : Type 0} (b : Bool) (d : BatchError) (x : A) (e : BatchError) → cond b (Err d) (Ok x) ≡ Err e → (b ≡ true) × (d ≡ e)
unless_tested true d x e h = (refl, same_fault d e h)
unless_tested false d x e h = absurd (no_fault x e h)

-- ---- numbers

-- the number is cut, or too long
abbrev NumberFault : ℕ → ℕ → ℕ → List ℕ → BatchError → Type 0
NumberFault more start here bytes e = (NumberIsCut more bytes × (faults.Cut start ≡ e)) ⊎ (NumberIsLong more bytes × (faults.BadVarint here ≡ e))

longer : (more start here b : ℕ) (bytes : List ℕ) (e : BatchError) → 128 ≤ b → NumberFault more start here bytes e → NumberFault (suc more) start here (b ∷ bytes) e
longer more start here b bytes e large (inl cut) = inl ((large, cut.0), cut.1)
longer more start here b bytes e large (inr long) = inr ((large, long.0), long.1)

more_bytes : (more start here b : ℕ) (rest : List ℕ) (r : Result (ℕ × List ℕ) BatchError) (e : BatchError) (test : Bool) → ltb b 128 ≡ test
    → cond {A = Result (ℕ × List ℕ) BatchError} test (Ok (b, rest)) (r >>= λ high. Ok ((b - 128) + 128 * high.0, high.1)) ≡ Err e
    → (r ≡ Err e → NumberFault more start here rest e) → NumberFault (suc more) start here (b ∷ rest) e
more_bytes more start here b rest r e true t h go = absurd (no_fault (b, rest) e h)
more_bytes more start here b rest r e false t h go = longer more start here b rest e (ltb-false b 128 t) (go (only_first r (λ high. let x : ℕ × List ℕ = ((b - 128) + 128 * high.0, high.1) in x) e h))

number_fault : (more start here : ℕ) (bytes : List ℕ) (e : BatchError) → varint_from more start here bytes ≡ Err e → NumberFault more start here bytes e
unfolding varint_from
number_fault more start here [] e h = inl (tt, same_fault (faults.Cut start) e h)
number_fault zero start here (b ∷ rest) e h =
    let g = tested (ltb b 16) (faults.BadVarint here) (b, rest) e h in
    inr (ltb-false b 16 g.0, g.1)
number_fault (suc more) start here (b ∷ rest) e h = more_bytes more start here b rest (varint_from more start here rest) e (ltb b 128) refl h (λ f. number_fault more start here rest e f)

-- ---- fields

of_number : (start place : ℕ) (bytes : List ℕ) (field : Field) (e : BatchError) → NumberFault 4 start place bytes e → FieldFault start place bytes field e
of_number start place bytes field e (inl cut) = subst (λ (x : BatchError). FieldFault start place bytes field x) cut.1 (number_cut start place bytes field cut.0)
of_number start place bytes field e (inr long) = subst (λ (x : BatchError). FieldFault start place bytes field x) long.1 (number_long start place bytes field long.0)

text_fault : (total start : ℕ) (bytes : List ℕ) (e : BatchError) → string_at total start bytes ≡ Err e → FieldFault start (total - length bytes) bytes Text e
unfolding string_at
text_fault total start bytes e h =
    let here = total - length bytes in
    elim (bind_err (varint_from 4 start here bytes) (λ n. cond (ltb (length n.1) n.0) (Err (faults.Cut start)) (Ok (take n.0 n.1, drop n.0 n.1))) e h) [
      | inl f ↦ of_number start here bytes Text e (number_fault 4 start here bytes e f)
      | inr found ↦
          let n = found.0 in
          let g = unless_tested (ltb (length n.1) n.0) (faults.Cut start) (take n.0 n.1, drop n.0 n.1) e found.2 in
          let size = varint_found 4 start here bytes n found.1 in
          subst (λ (x : BatchError). FieldFault start here bytes Text x) g.1 (text_cut start here bytes size.0 n.1 n.0 size.1 size.2 (ltb-true _ _ g.0))
    ]

nonzero : (n : ℕ) → eqb n 0 ≡ false → n ≢ 0
nonzero zero e = λ h. absurd cc
nonzero (suc n) e = λ h. absurd (omega arith)

family_fault : (total start : ℕ) (bytes : List ℕ) (e : BatchError) → family_at total start bytes ≡ Err e → FieldFault start (total - length bytes) bytes Family e
unfolding family_at
family_fault total start bytes e h =
    let here = total - length bytes in
    elim (bind_err (varint_from 4 start here bytes) (λ id. cond (eqb id.0 0) (Ok id.1) (Err (faults.OtherFamily id.0))) e h) [
      | inl f ↦ of_number start here bytes Family e (number_fault 4 start here bytes e f)
      | inr found ↦
          let id = found.0 in
          let g = tested (eqb id.0 0) (faults.OtherFamily id.0) id.1 e found.2 in
          let number = varint_found 4 start here bytes id found.1 in
          subst (λ (x : BatchError). FieldFault start here bytes Family x) g.1 (other_family start here bytes number.0 id.1 id.0 number.1 number.2 (nonzero id.0 g.0))
    ]

-- the first field has the fault
first_field : (start place : ℕ) (field : Field) (fields : List Field) (bytes : List ℕ) (e : BatchError) → FieldFault start place bytes field e → FaultAmong start place (field ∷ fields) bytes e
first_field start place field fields bytes e f = record {
  before = [];
  field = field;
  after = fields;
  front = [];
  left = bytes;
  split = refl;
  are_fields = refl;
  whole = refl;
  there = subst (λ (p : ℕ). FieldFault start p bytes field e) (omega arith) f;
}

-- or one after it
later_field : (start place next : ℕ) (field : Field) (fields : List Field) (bytes front rest : List ℕ) (e : BatchError) → IsField field front → bytes ≡ front ++ rest → next ≡ place + length front → FaultAmong start next fields rest e → FaultAmong start place (field ∷ fields) bytes e
later_field start place next field fields bytes front rest e is whole at f = record {
  before = field ∷ f.before;
  field = f.field;
  after = f.after;
  front = front ++ f.front;
  left = f.left;
  split = ap (λ (l : List Field). field ∷ l) f.split;
  are_fields = (front, f.front, is, f.are_fields, refl);
  whole = whole ∙ (ap (λ (l : List ℕ). front ++ l) f.whole ∙ sym (append_assoc front f.front f.left));
  there = subst (λ (p : ℕ). FieldFault start p f.left f.field e) (omega (arith, at, length-append front f.front)) f.there;
}

-- the place after a field
place_behind : (total : ℕ) (bytes front rest : List ℕ) → length bytes ≤ total → bytes ≡ front ++ rest → total - length rest ≡ total - length bytes + length front
place_behind total bytes front rest within whole = omega (arith, ap length whole, length-append front rest)

rest_within : (total : ℕ) (bytes front rest : List ℕ) → length bytes ≤ total → bytes ≡ front ++ rest → length rest ≤ total
rest_within total bytes front rest within whole = omega (arith, ap length whole, length-append front rest)

-- one byte string, and two
of_text : {B : Type 0} (make : List ℕ × List ℕ → B) (total start : ℕ) (bytes : List ℕ) (e : BatchError) → (string_at total start bytes >>= λ one. Ok (make one)) ≡ Err e → FaultAmong start (total - length bytes) (Text ∷ []) bytes e
of_text make total start bytes e h = first_field start (total - length bytes) Text [] bytes e (text_fault total start bytes e (only_first (string_at total start bytes) make e h))

texts_fault : (total start : ℕ) (bytes : List ℕ) (e : BatchError) → length bytes ≤ total → strings_at total start bytes ≡ Err e → FaultAmong start (total - length bytes) (Text ∷ Text ∷ []) bytes e
unfolding strings_at
texts_fault total start bytes e within h =
    elim (bind_err (string_at total start bytes) (λ first. string_at total start first.1 >>= λ second. Ok ((first.0, second.0), second.1)) e h) [
      | inl f ↦ first_field start (total - length bytes) Text (Text ∷ []) bytes e (text_fault total start bytes e f)
      | inr found ↦
          let one = string_found total start bytes found.0 found.1 in
          let first = found.0 in
          let behind = of_text (λ second. let x : (List ℕ × List ℕ) × List ℕ = ((first.0, second.0), second.1) in x) total start first.1 e found.2 in
          later_field start (total - length bytes) (total - length first.1) Text (Text ∷ []) bytes one.0 first.1 e (first.0, one.1) one.2 (place_behind total bytes one.0 first.1 within one.2) behind
    ]

of_texts : {B : Type 0} (make : (List ℕ × List ℕ) × List ℕ → B) (total start : ℕ) (bytes : List ℕ) (e : BatchError) → length bytes ≤ total → (strings_at total start bytes >>= λ two. Ok (make two)) ≡ Err e → FaultAmong start (total - length bytes) (Text ∷ Text ∷ []) bytes e
of_texts make total start bytes e within h = texts_fault total start bytes e within (only_first (strings_at total start bytes) make e h)

body_fault : (f : Form) (total start : ℕ) (bytes : List ℕ) (e : BatchError) → length bytes ≤ total → body_at f total start bytes ≡ Err e → FaultAmong start (total - length bytes) (texts_of f) bytes e
unfolding body_at
body_fault form.Deletion total start bytes e within h = of_text (λ key. let x : Option Op × List ℕ = (Some (op.Delete key.0), key.1) in x) total start bytes e h
body_fault form.Value total start bytes e within h = of_texts (λ two. let x : Option Op × List ℕ = (Some (op.Put two.0.0 two.0.1), two.1) in x) total start bytes e within h
body_fault form.Merge total start bytes e within h = of_texts (λ two. let x : Option Op × List ℕ = (Some (op.Merge two.0.0 two.0.1), two.1) in x) total start bytes e within h
body_fault form.LogData total start bytes e within h = of_text (λ text. let x : Option Op × List ℕ = (None, text.1) in x) total start bytes e h
body_fault form.Noop total start bytes e within h = absurd (no_fault (None, bytes) e h)
body_fault form.RangeDeletion total start bytes e within h = of_texts (λ two. let x : Option Op × List ℕ = (Some (op.DeleteRange two.0.0 two.0.1), two.1) in x) total start bytes e within h

-- the fields of a layout
fields_fault : (has : Bool) (f : Form) (total start : ℕ) (bytes : List ℕ) (e : BatchError) → length bytes ≤ total → (after_family has total start bytes >>= λ rest. body_at f total start rest) ≡ Err e
    → FaultAmong start (total - length bytes) (fields_of (record { form = f; has_family = has })) bytes e
unfolding after_family
fields_fault false f total start bytes e within h = body_fault f total start bytes e within h
fields_fault true f total start bytes e within h =
    elim (bind_err (family_at total start bytes) (λ rest. body_at f total start rest) e h) [
      | inl g ↦ first_field start (total - length bytes) Family (texts_of f) bytes e (family_fault total start bytes e g)
      | inr found ↦
          let one = family_found true total start bytes found.0 found.1 in
          let rest = found.0 in
          later_field start (total - length bytes) (total - length rest) Family (texts_of f) bytes one.0 rest e one.1 one.2 (place_behind total bytes one.0 rest within one.2) (body_fault f total start rest e (rest_within total bytes one.0 rest within one.2) found.2)
    ]

-- ---- records

laid_out_fault : (layout : Option Layout) (tag total : ℕ) (bytes : List ℕ) (e : BatchError) → length (tag ∷ bytes) ≤ total → layout_at tag ≡ layout → laid_out layout tag total (total - length (tag ∷ bytes)) bytes ≡ Err e → RecordFault (total - length (tag ∷ bytes)) (tag ∷ bytes) e
unfolding laid_out
laid_out_fault None tag total bytes e within l h =
    let start = total - length (tag ∷ bytes) in
    subst (λ (x : BatchError). RecordFault start (tag ∷ bytes) x) (same_fault (faults.BadTag tag start) e h) (bad_tag start tag bytes l)
laid_out_fault (Some layout) tag total bytes e within l h =
    let start = total - length (tag ∷ bytes) in
    let place : total - length bytes ≡ start + 1 = omega arith in
    bad_field start tag bytes layout e l (subst (λ (p : ℕ). FaultAmong start p (fields_of layout) bytes e) place (fields_fault layout.has_family layout.form total start bytes e (omega arith) h))

record_fault : (total b : ℕ) (bytes : List ℕ) (e : BatchError) → length (b ∷ bytes) ≤ total → record_at total (b ∷ bytes) ≡ Err e → RecordFault (total - length (b ∷ bytes)) (b ∷ bytes) e
unfolding record_at
record_fault total b bytes e within h = laid_out_fault (layout_at b) b total bytes e within refl h

abbrev StopsFrom : ℕ → List ℕ → BatchError → Type 0
StopsFrom total bytes e = StopsAt (total - length bytes) bytes e

at_first : (total : ℕ) (bytes : List ℕ) (e : BatchError) → RecordFault (total - length bytes) bytes e → StopsFrom total bytes e
at_first total bytes e f = record {
  front = [];
  ops = [];
  rest = bytes;
  records = record { records = []; each = tt; whole = refl; counted = refl };
  whole = refl;
  there = subst (λ (p : ℕ). RecordFault p bytes e) (omega arith) f;
}

behind_record : (total : ℕ) (bytes : List ℕ) (first : Option Op × List ℕ) (e : BatchError) → length bytes ≤ total → Takes (λ front. IsRecord front first.0) bytes first.1 → StopsFrom total first.1 e → StopsFrom total bytes e
behind_record total bytes first e within one s = record {
  front = one.0 ++ s.front;
  ops = option_to_list first.0 ++ s.ops;
  rest = s.rest;
  records = record {
    records = (one.0, first.0) ∷ s.records.records;
    each = (one.1, s.records.each);
    whole = ap (λ (l : List ℕ). one.0 ++ l) s.records.whole;
    counted = ap (λ (l : List Op). option_to_list first.0 ++ l) s.records.counted;
  };
  whole = one.2 ∙ (ap (λ (l : List ℕ). one.0 ++ l) s.whole ∙ sym (append_assoc one.0 s.front s.rest));
  there = subst (λ (p : ℕ). RecordFault p s.rest e) (omega (arith, place_behind total bytes one.0 first.1 within one.2, length-append one.0 s.front)) s.there;
}

pub records_fault : (most total : ℕ) (bytes : List ℕ) (e : BatchError) → length bytes ≤ most → length bytes ≤ total → records_from most total bytes ≡ Err e → StopsFrom total bytes e
unfolding records_from
records_fault most total [] e enough within h = absurd (no_fault [] e h)
records_fault zero total (b ∷ bytes) e enough within h = absurd (omega arith)
records_fault (suc most) total (b ∷ bytes) e enough within h =
    elim (bind_err (record_at total (b ∷ bytes)) (λ first. records_from most total first.1 >>= λ others. Ok (option_to_list first.0 ++ others)) e h) [
      | inl f ↦ at_first total (b ∷ bytes) e (record_fault total b bytes e within f)
      | inr found ↦
          let first = found.0 in
          let one = record_found total b bytes first found.1 in
          let shorter = record_shorter total b bytes first found.1 in
          let others = only_first (records_from most total first.1) (λ others. option_to_list first.0 ++ others) e found.2 in
          behind_record total (b ∷ bytes) first e within one (records_fault most total first.1 e (omega (arith, shorter)) (omega (arith, shorter)) others)
    ]

-- ---- a batch

-- a test that names a fault, or the result after it
either_fault : {A : Type 0} (b : Bool) (d : BatchError) (r : Result A BatchError) (e : BatchError) → cond b (Err d) r ≡ Err e → ((b ≡ true) × (d ≡ e)) ⊎ ((b ≡ false) × (r ≡ Err e))
either_fault true d r e h = inl (refl, same_fault d e h)
either_fault false d r e h = inr (refl, h)

asked_true : (count : ℕ) (b : Bool) → (ltb 0 (suc count) && b) ≡ true → b ≡ true
asked_true count b e = rw (lt-ltb 0 (suc count) (omega arith)) at e

abbrev HeaderFault : ℕ → ℕ → ℕ → BatchError → Type 0
HeaderFault last seq count e = ((0 < count) × (seq ≤ last) × (faults.SequenceBack last ≡ e)) ⊎ ((0 < count) × (last < seq) × (2 ^ 56 < seq + count) × (faults.SequenceTooLarge ≡ e))

header_fault : (last seq count : ℕ) (e : BatchError) → judged last seq count ≡ Err e → HeaderFault last seq count e
unfolding judged
header_fault last seq zero e h = absurd (no_fault seq e h)
header_fault last seq (suc count) e h =
    elim (either_fault (ltb 0 (suc count) && leb seq last) (faults.SequenceBack last) (cond (ltb 0 (suc count) && ltb (2 ^ 56) (seq + suc count)) (Err faults.SequenceTooLarge) (Ok seq)) e h) [
      | inl back ↦ inl (omega arith, leb-true seq last (asked_true count (leb seq last) back.0), back.1)
      | inr on ↦
          let large = unless_tested (ltb 0 (suc count) && ltb (2 ^ 56) (seq + suc count)) faults.SequenceTooLarge seq e on.1 in
          inr (omega arith, leb-false seq last (asked count (leb seq last) on.0), ltb-true (2 ^ 56) (seq + suc count) (asked_true count (ltb (2 ^ 56) (seq + suc count)) large.0), large.1)
    ]

other_count : (n m : ℕ) → eqb n m ≡ false → n ≢ m
other_count n m e = λ h. let same : eqb n m ≡ true = eq-eqb n m h in absurd cc

abbrev BodyFault : ℕ → ℕ → List ℕ → BatchError → Type 0
BodyFault count total body e = StopsFrom total body e ⊎ ((ops : List Op) × AreRecords body ops × (length ops ≢ count) × (faults.WrongCount ≡ e))

body_of_batch_fault : (seq count total : ℕ) (body : List ℕ) (e : BatchError) → length body ≤ total → counted_of seq count total body ≡ Err e → BodyFault count total body e
unfolding counted_of
body_of_batch_fault seq count total body e within h =
    elim (bind_err (operations total body) (λ ops. cond (eqb (length ops) count) (Ok (numbered seq ops)) (Err faults.WrongCount)) e h) [
      | inl f ↦ inl (records_fault (length body) total body e (omega arith) within f)
      | inr found ↦
          let ops = found.0 in
          let g = tested (eqb (length ops) count) faults.WrongCount (numbered seq ops) e found.2 in
          inr (ops, records_found (length body) total body ops (omega arith) found.1, other_count (length ops) count g.0, g.1)
    ]

refused_header : (last seq count : ℕ) (bytes body : List ℕ) (e : BatchError) → HasHeader bytes seq count body → HeaderFault last seq count e → IsRefused last bytes e
refused_header last seq count bytes body e header (inl (some, back, is)) = subst (λ (x : BatchError). IsRefused last bytes x) is (sequence_back last seq count bytes body header some back)
refused_header last seq count bytes body e header (inr (some, above, large, is)) = subst (λ (x : BatchError). IsRefused last bytes x) is (sequence_too_large last seq count bytes body header some above large)

refused_body : (last seq count : ℕ) (bytes body : List ℕ) (e : BatchError) → HasHeader bytes seq count body → MayFollow last seq count → length bytes - length body ≡ 12 → BodyFault count (length bytes) body e → IsRefused last bytes e
refused_body last seq count bytes body e header follows at (inl stops) = faulty last seq count bytes body e header follows (subst (λ (p : ℕ). StopsAt p body e) at stops)
refused_body last seq count bytes body e header follows at (inr (ops, records, other, is)) = subst (λ (x : BatchError). IsRefused last bytes x) is (wrong_count last seq count bytes body ops header follows records other)

-- the error of a batch is its fault by the grammar
pub batch_refused : (last : ℕ) (bytes : List ℕ) (e : BatchError) → IsBytes bytes → batch_of last bytes ≡ Err e → IsRefused last bytes e
unfolding batch_of
batch_refused last bytes e fits h =
    let seq = from_le_bytes w64 (take 8 bytes) in
    let count = from_le_bytes w32 (take 4 (drop 8 bytes)) in
    let body = drop 12 bytes in
    elim (either_fault (ltb (length bytes) 12) faults.TooShort (judged last seq count >>= λ s. counted_of s count (length bytes) body) e h) [
      | inl short ↦ subst (λ (x : BatchError). IsRefused last bytes x) short.1 (too_short last bytes (ltb-true (length bytes) 12 short.0))
      | inr on ↦
          let long : 12 ≤ length bytes = ltb-false (length bytes) 12 on.0 in
          let header : HasHeader bytes seq count body = record { seq_fits = eight_fit bytes fits; count_fits = four_fit bytes fits; whole = header_whole bytes long fits } in
          elim (bind_err (judged last seq count) (λ s. counted_of s count (length bytes) body) e on.1) [
            | inl f ↦ refused_header last seq count bytes body e header (header_fault last seq count e f)
            | inr found ↦
                let fine = judged_found last seq count found.0 found.1 in
                refused_body last seq count bytes body e header (record { above = fine.1; below = fine.2 }) (omega (arith, length-drop 12 bytes)) (body_of_batch_fault found.0 count (length bytes) body e (omega (arith, length-drop 12 bytes)) found.2)
          ]
    ]
