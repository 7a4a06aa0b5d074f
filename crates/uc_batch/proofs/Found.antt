-- The grammar relates what the reader returns to the bytes.
use Rattle.std.proofs.Common.{◌≡◌, ℕ, zero, suc, ◌+◌, ◌-◌, ◌*◌, ◌^◌, ◌<◌, ◌≤◌, Bool, true, false, cond, ltb, leb, eqb, List, [], ◌∷◌, ◌++◌, length, get_or, take, drop, Option, Some, None, option_to_list, Result, Ok, Err, refl, ap, sym, ◌∙◌, subst, append_assoc, lt-ltb, arith, inl, inr}
use Rattle.std.specs.Prelude.{◌&&◌, IfOk}
use Rattle.std.specs.Global.{Vec}
use Rattle.std.specs.Int.{w32, w64, to_le_bytes, from_le_bytes}
use Rattle.std.proofs.lemmas.Bool.{ltb-false, ltb-true, leb-false, eqb-true}
use Rattle.std.proofs.lemmas.List.{take-append-drop, length-take, length-drop, get_or-take, get_or-drop, get_or_past, drop-drop}
use Rattle.std.proofs.lemmas.Bool.{cases_lt}
use Rattle.std.proofs.lemmas.Nat.{le_bytes_4, le_bytes_8}
use Rattle.uc_bytes.specs.declared.op.Op.{Op}
use Rattle.uc_bytes.specs.declared.op.Op.TheVariants as op
use Rattle.uc_bytes.specs.declared.write.Write.{Write}
use Rattle.uc_batch.specs.declared.error.BatchError.{BatchError}
use Rattle.uc_batch.specs.declared.error.BatchError.TheVariants as faults
use Rattle.uc_batch.specs.declared.tag.Form.{Form}
use Rattle.uc_batch.specs.declared.tag.Form.TheVariants as form
use Rattle.uc_batch.specs.declared.tag.Layout.{Layout}
use Rattle.uc_batch.specs.Tag.{layout_at}
use Rattle.uc_batch.specs.Reads.{◌>>=◌, Gives}
use Rattle.uc_batch.specs.Varint.{varint_from}
use Rattle.uc_batch.specs.Records.{string_at, strings_at, family_at, body_at, after_family, laid_out, record_at, records_from, operations}
use Rattle.uc_batch.specs.Batch.{numbered, counted_of, judged, batch_of}
use Rattle.uc_batch.specs.Grammar.{Spells, IsString, AreStrings, IsFamily, IsBody, HasParts, IsRecord, AreRecords, Accepts}
use Rattle.uc_batch.proofs.Steps.{bind_ok, passed, avoided, ok_is}
use Rattle.uc_batch.proofs.Shorter.{record_shorter}

-- what a reader took from the front
abbrev pub Takes : (List ℕ → Type 0) → List ℕ → List ℕ → Type 0
Takes P bytes rest = (front : List ℕ) × P front × (bytes ≡ front ++ rest)

-- ---- numbers

last_byte : (more b limit : ℕ) (rest : List ℕ) (x : ℕ × List ℕ) (fault : BatchError) → cond (ltb b limit) (Ok (b, rest)) (Err fault) ≡ Ok x → (b < limit) × (x.0 ≡ b) × (x.1 ≡ rest)
last_byte more b limit rest x fault e =
    let g = passed (ltb b limit) fault (b, rest) x e in
    (ltb-true b limit g.0, sym (ap (λ (p : ℕ × List ℕ). p.0) g.1), sym (ap (λ (p : ℕ × List ℕ). p.1) g.1))

-- a byte below 128 ends the number, and else the rest of it follows
more_bytes : (more b : ℕ) (rest : List ℕ) (r : Result (ℕ × List ℕ) BatchError) (x : ℕ × List ℕ) (test : Bool) → ltb b 128 ≡ test
    → cond test (Ok (b, rest)) (r >>= λ high. Ok ((b - 128) + 128 * high.0, high.1)) ≡ Ok x
    → ((y : ℕ × List ℕ) → r ≡ Ok y → Takes (λ front. Spells more front y.0) rest y.1)
    → Takes (λ front. Spells (suc more) front x.0) (b ∷ rest) x.1
more_bytes more b rest r x true t e takes =
    let is = ok_is (b, rest) x e in
    let n-is : x.0 ≡ b = sym (ap (λ (p : ℕ × List ℕ). p.0) is) in
    let rest-is : rest ≡ x.1 = ap (λ (p : ℕ × List ℕ). p.1) is in
    (b ∷ [], inl (ltb-true b 128 t, refl, n-is), ap (λ (l : List ℕ). b ∷ l) rest-is)
more_bytes more b rest r x false t e takes =
    let high = bind_ok r (λ high. Ok ((b - 128) + 128 * high.0, high.1)) x e in
    let is = ok_is ((b - 128) + 128 * high.0.0, high.0.1) x high.2 in
    let n-is : (b - 128) + 128 * high.0.0 ≡ x.0 = ap (λ (p : ℕ × List ℕ). p.0) is in
    let rest-is : high.0.1 ≡ x.1 = ap (λ (p : ℕ × List ℕ). p.1) is in
    let front = takes high.0 high.1 in
    let large : 128 ≤ b = ltb-false b 128 t in
    (b ∷ front.0, inr (high.0.0, large, front.1, omega arith), ap (λ (l : List ℕ). b ∷ l) (front.2 ∙ ap (λ (l : List ℕ). front.0 ++ l) rest-is))

pub varint_found : (more start here : ℕ) (bytes : List ℕ) (x : ℕ × List ℕ) → varint_from more start here bytes ≡ Ok x → Takes (λ front. Spells more front x.0) bytes x.1
unfolding varint_from
varint_found more start here [] x e = absurd cc
varint_found zero start here (b ∷ rest) x e =
    let g = last_byte 0 b 16 rest x (faults.BadVarint here) e in
    (b ∷ [], (g.0, refl, g.1), ap (λ (l : List ℕ). b ∷ l) (sym g.2))
varint_found (suc more) start here (b ∷ rest) x e =
    more_bytes more b rest (varint_from more start here rest) x (ltb b 128) refl e (λ y. varint_found more start here rest y)

-- ---- strings

pub string_found : (total start : ℕ) (bytes : List ℕ) (x : List ℕ × List ℕ) → string_at total start bytes ≡ Ok x → Takes (λ front. IsString front x.0) bytes x.1
unfolding string_at
string_found total start bytes x e =
    let here = total - length bytes in
    let b = bind_ok (varint_from 4 start here bytes) (λ n. cond (ltb (length n.1) n.0) (Err (faults.Cut start)) (Ok (take n.0 n.1, drop n.0 n.1))) x e in
    let n = b.0 in
    let g = avoided (ltb (length n.1) n.0) (faults.Cut start) (take n.0 n.1, drop n.0 n.1) x b.2 in
    let long : n.0 ≤ length n.1 = ltb-false _ _ g.0 in
    let text-is : take n.0 n.1 ≡ x.0 = ap (λ (p : List ℕ × List ℕ). p.0) g.1 in
    let rest-is : drop n.0 n.1 ≡ x.1 = ap (λ (p : List ℕ × List ℕ). p.1) g.1 in
    let size = varint_found 4 start here bytes n b.1 in
    let len : n.0 ≡ length x.0 = sym (sym (ap length text-is) ∙ omega (arith, length-take n.0 n.1)) in (
      size.0 ++ x.0,
      (size.0, subst (λ (k : ℕ). Spells 4 size.0 k) len size.1, refl),
      size.2 ∙ ap (λ (l : List ℕ). size.0 ++ l) (sym (take-append-drop n.0 n.1) ∙ ap (λ (l : List ℕ). l ++ drop n.0 n.1) text-is ∙ ap (λ (l : List ℕ). x.0 ++ l) rest-is) ∙ sym (append_assoc size.0 x.0 x.1),
    )

strings_found : (total start : ℕ) (bytes : List ℕ) (x : (List ℕ × List ℕ) × List ℕ) → strings_at total start bytes ≡ Ok x → Takes (λ front. AreStrings front x.0.0 x.0.1) bytes x.1
unfolding strings_at
strings_found total start bytes x e =
    let a = bind_ok (string_at total start bytes) (λ first. string_at total start first.1 >>= λ second. Ok ((first.0, second.0), second.1)) x e in
    let b = bind_ok (string_at total start a.0.1) (λ second. Ok ((a.0.0, second.0), second.1)) x a.2 in
    let is = ok_is ((a.0.0, b.0.0), b.0.1) x b.2 in
    let first = string_found total start bytes a.0 a.1 in
    let second = string_found total start a.0.1 b.0 b.1 in
    subst (λ (y : (List ℕ × List ℕ) × List ℕ). Takes (λ front. AreStrings front y.0.0 y.0.1) bytes y.1) is (
      first.0 ++ second.0,
      (first.0, second.0, first.1, second.1, refl),
      first.2 ∙ ap (λ (l : List ℕ). first.0 ++ l) second.2 ∙ sym (append_assoc first.0 second.0 b.0.1),
    )

-- ---- records

of_string : (make : List ℕ → Option Op) (total start : ℕ) (bytes : List ℕ) (x : Option Op × List ℕ)
    → (string_at total start bytes >>= λ one. Ok (make one.0, one.1)) ≡ Ok x → Takes (λ front. (text : List ℕ) × IsString front text × (x.0 ≡ make text)) bytes x.1
of_string make total start bytes x e =
    let a = bind_ok (string_at total start bytes) (λ one. Ok (make one.0, one.1)) x e in
    let front = string_found total start bytes a.0 a.1 in
    subst (λ (y : Option Op × List ℕ). Takes (λ f. (text : List ℕ) × IsString f text × (y.0 ≡ make text)) bytes y.1) (ok_is (make a.0.0, a.0.1) x a.2) (front.0, (a.0.0, front.1, refl), front.2)

of_strings : (make : List ℕ → List ℕ → Op) (total start : ℕ) (bytes : List ℕ) (x : Option Op × List ℕ)
    → (strings_at total start bytes >>= λ two. Ok (Some (make two.0.0 two.0.1), two.1)) ≡ Ok x → Takes (λ front. (a b : List ℕ) × AreStrings front a b × (x.0 ≡ Some (make a b))) bytes x.1
of_strings make total start bytes x e =
    let two = bind_ok (strings_at total start bytes) (λ two. Ok (Some (make two.0.0 two.0.1), two.1)) x e in
    let front = strings_found total start bytes two.0 two.1 in
    subst (λ (y : Option Op × List ℕ). Takes (λ f. (a b : List ℕ) × AreStrings f a b × (y.0 ≡ Some (make a b))) bytes y.1) (ok_is (Some (make two.0.0.0 two.0.0.1), two.0.1) x two.2) (front.0, (two.0.0.0, two.0.0.1, front.1, refl), front.2)

body_found : (f : Form) (total start : ℕ) (bytes : List ℕ) (x : Option Op × List ℕ) → body_at f total start bytes ≡ Ok x → Takes (λ front. IsBody f front x.0) bytes x.1
unfolding body_at
body_found form.Deletion total start bytes x e = of_string (λ key. Some (op.Delete key)) total start bytes x e
body_found form.Value total start bytes x e = of_strings op.Put total start bytes x e
body_found form.Merge total start bytes x e = of_strings op.Merge total start bytes x e
body_found form.LogData total start bytes x e = of_string (λ _. None) total start bytes x e
body_found form.Noop total start bytes x e =
    let is = ok_is (None, bytes) x e in
    ([], (refl, sym (ap (λ (p : Option Op × List ℕ). p.0) is)), ap (λ (p : Option Op × List ℕ). p.1) is)
body_found form.RangeDeletion total start bytes x e = of_strings op.DeleteRange total start bytes x e

pub family_found : (has : Bool) (total start : ℕ) (bytes rest : List ℕ) → after_family has total start bytes ≡ Ok rest → Takes (λ front. IsFamily has front) bytes rest
unfolding after_family family_at
family_found false total start bytes rest e = ([], refl, ok_is bytes rest e)
family_found true total start bytes rest e =
    let here = total - length bytes in
    let a = bind_ok (varint_from 4 start here bytes) (λ id. cond (eqb id.0 0) (Ok id.1) (Err (faults.OtherFamily id.0))) rest e in
    let g = passed (eqb a.0.0 0) (faults.OtherFamily a.0.0) a.0.1 rest a.2 in
    let front = varint_found 4 start here bytes a.0 a.1 in
    (front.0, subst (λ (k : ℕ). Spells 4 front.0 k) (eqb-true a.0.0 0 g.0) front.1, front.2 ∙ ap (λ (l : List ℕ). front.0 ++ l) g.1)

laid_out_found : (layout : Option Layout) (tag total start : ℕ) (bytes : List ℕ) (x : Option Op × List ℕ) → layout_at tag ≡ layout → laid_out layout tag total start bytes ≡ Ok x → Takes (λ front. HasParts tag front x.0) bytes x.1
unfolding laid_out
laid_out_found None tag total start bytes x l e = absurd cc
laid_out_found (Some layout) tag total start bytes x l e =
    let a = bind_ok (after_family layout.has_family total start bytes) (λ rest. body_at layout.form total start rest) x e in
    let family = family_found layout.has_family total start bytes a.0 a.1 in
    let body = body_found layout.form total start a.0 x a.2 in (
      family.0 ++ body.0,
      record { layout = layout; family = family.0; body = body.0; announced = l; is_family = family.1; is_body = body.1; parts = refl },
      family.2 ∙ ap (λ (r : List ℕ). family.0 ++ r) body.2 ∙ sym (append_assoc family.0 body.0 x.1),
    )

pub record_found : (total b : ℕ) (bytes : List ℕ) (x : Option Op × List ℕ) → record_at total (b ∷ bytes) ≡ Ok x → Takes (λ front. IsRecord front x.0) (b ∷ bytes) x.1
unfolding record_at
record_found total b bytes x e =
    let parts = laid_out_found (layout_at b) b total (total - length (b ∷ bytes)) bytes x refl e in
    (b ∷ parts.0, parts.1, ap (λ (l : List ℕ). b ∷ l) parts.2)

pub records_found : (most total : ℕ) (bytes : List ℕ) (ops : List Op) → length bytes ≤ most → records_from most total bytes ≡ Ok ops → AreRecords bytes ops
unfolding records_from
records_found most total [] ops enough e = record { records = []; each = tt; whole = refl; counted = sym (ok_is [] ops e) }
records_found zero total (b ∷ bytes) ops enough e = absurd (omega arith)
records_found (suc most) total (b ∷ bytes) ops enough e =
    let a = bind_ok (record_at total (b ∷ bytes)) (λ first. records_from most total first.1 >>= λ others. Ok (option_to_list first.0 ++ others)) ops e in
    let rest = bind_ok (records_from most total a.0.1) (λ others. Ok (option_to_list a.0.0 ++ others)) ops a.2 in
    let one = record_found total b bytes a.0 a.1 in
    let others = records_found most total a.0.1 rest.0 (omega (arith, record_shorter total b bytes a.0 a.1)) rest.1 in
    record {
      records = (one.0, a.0.0) ∷ others.records;
      each = (one.1, others.each);
      whole = one.2 ∙ ap (λ (l : List ℕ). one.0 ++ l) others.whole;
      counted = sym (ok_is (option_to_list a.0.0 ++ rest.0) ops rest.2) ∙ ap (λ (l : List Op). option_to_list a.0.0 ++ l) others.counted;
    }

-- ---- the header

pub not_failed : {A : Type 0} (b : Bool) (d : BatchError) (r : Result A BatchError) (y : A) → cond b (Err d) r ≡ Ok y → (b ≡ false) × (r ≡ Ok y)
not_failed true d r y e = absurd cc
not_failed false d r y e = (refl, e)

pub asked : (count : ℕ) (b : Bool) → (ltb 0 (suc count) && b) ≡ false → b ≡ false
asked count b e = rw (lt-ltb 0 (suc count) (omega arith)) at e

pub judged_found : (last seq count got : ℕ) → judged last seq count ≡ Ok got → (got ≡ seq) × (0 < count → last < seq) × (0 < count → seq + count ≤ 2 ^ 56)
unfolding judged
judged_found last seq zero got e = (sym (ok_is seq got e), λ h. absurd (omega arith), λ h. absurd (omega arith))
judged_found last seq (suc count) got e =
    let first = not_failed (ltb 0 (suc count) && leb seq last) (faults.SequenceBack last) (cond (ltb 0 (suc count) && ltb (2 ^ 56) (seq + suc count)) (Err faults.SequenceTooLarge) (Ok seq)) got e in
    let second = not_failed (ltb 0 (suc count) && ltb (2 ^ 56) (seq + suc count)) faults.SequenceTooLarge (Ok seq) got first.1 in
    let above : last < seq = leb-false seq last (asked count (leb seq last) first.0) in
    let below : seq + suc count ≤ 2 ^ 56 = ltb-false (2 ^ 56) (seq + suc count) (asked count (ltb (2 ^ 56) (seq + suc count)) second.0) in
    (sym (ok_is seq got second.1), λ h. above, λ h. below)

abbrev pub IsBytes : List ℕ → Type 0
IsBytes bytes = (i : ℕ) → get_or bytes i 0 < 256

IsBytes-drop : (n : ℕ) (bytes : List ℕ) → IsBytes bytes → IsBytes (drop n bytes)
IsBytes-drop n bytes h i = rw get_or-drop (h (n + i))

IsBytes-take : (n : ℕ) (bytes : List ℕ) → IsBytes bytes → IsBytes (take n bytes)
IsBytes-take n bytes h i =
    elim (cases_lt i n) [
      | inl lt ↦ rw (get_or-take n bytes i 0 lt) (h i)
      | inr le ↦ rw (get_or_past (take n bytes) i 0 (omega (arith, length-take n bytes))) (omega arith)
    ]

eight_below : (bytes : List ℕ) → IsBytes bytes → from_le_bytes w64 bytes < 2 ^ 64
eight_below bytes fits = omega (arith, fits 0, fits 1, fits 2, fits 3, fits 4, fits 5, fits 6, fits 7)

four_below : (bytes : List ℕ) → IsBytes bytes → from_le_bytes w32 bytes < 2 ^ 32
four_below bytes fits = omega (arith, fits 0, fits 1, fits 2, fits 3)

counted_found : (seq count total : ℕ) (body : List ℕ) (writes : List Write) → counted_of seq count total body ≡ Ok writes → (ops : List Op) × AreRecords body ops × (length ops ≡ count) × (writes ≡ numbered seq ops)
unfolding counted_of
counted_found seq count total body writes e =
    let read = bind_ok (operations total body) (λ ops. cond (eqb (length ops) count) (Ok (numbered seq ops)) (Err faults.WrongCount)) writes e in
    let right = passed (eqb (length read.0) count) faults.WrongCount (numbered seq read.0) writes read.2 in
    (read.0, records_found (length body) total body read.0 (omega arith) read.1, eqb-true (length read.0) count right.0, sym right.1)

-- the numbers of a batch that is accepted, whatever its bytes are
pub batch_numbers : (last : ℕ) (bytes : List ℕ) (writes : List Write) → batch_of last bytes ≡ Ok writes
    → (seq : ℕ) × (ops : List Op) × ((0 < length ops → last < seq) × (0 < length ops → seq + length ops ≤ 2 ^ 56)) × (writes ≡ numbered seq ops)
unfolding batch_of
batch_numbers last bytes writes e =
    let seq = from_le_bytes w64 (take 8 bytes) in
    let count = from_le_bytes w32 (take 4 (drop 8 bytes)) in
    let a = not_failed (ltb (length bytes) 12) faults.TooShort (judged last seq count >>= λ s. counted_of s count (length bytes) (drop 12 bytes)) writes e in
    let j = bind_ok (judged last seq count) (λ s. counted_of s count (length bytes) (drop 12 bytes)) writes a.1 in
    let fine = judged_found last seq count j.0 j.1 in
    let c = counted_found j.0 count (length bytes) (drop 12 bytes) writes j.2 in (
      seq,
      c.0,
      (λ h. fine.1 (subst (λ (n : ℕ). 0 < n) c.2 h), λ h. subst (λ (n : ℕ). seq + n ≤ 2 ^ 56) (sym c.2) (fine.2 (subst (λ (n : ℕ). 0 < n) c.2 h))),
      c.3 ∙ ap (λ (s : ℕ). numbered s c.0) fine.0,
    )

-- the header's numbers fit, and its bytes are theirs
pub eight_fit : (bytes : List ℕ) → IsBytes bytes → from_le_bytes w64 (take 8 bytes) < 2 ^ 64
eight_fit bytes fits = eight_below (take 8 bytes) (IsBytes-take 8 bytes fits)

pub four_fit : (bytes : List ℕ) → IsBytes bytes → from_le_bytes w32 (take 4 (drop 8 bytes)) < 2 ^ 32
four_fit bytes fits = four_below (take 4 (drop 8 bytes)) (IsBytes-take 4 (drop 8 bytes) (IsBytes-drop 8 bytes fits))

pub header_whole : (bytes : List ℕ) → 12 ≤ length bytes → IsBytes bytes → bytes ≡ to_le_bytes w64 (from_le_bytes w64 (take 8 bytes)) ++ (to_le_bytes w32 (from_le_bytes w32 (take 4 (drop 8 bytes))) ++ drop 12 bytes)
header_whole bytes long fits =
    let seq = from_le_bytes w64 (take 8 bytes) in
    let count = from_le_bytes w32 (take 4 (drop 8 bytes)) in
    let eight : to_le_bytes w64 seq ≡ take 8 bytes = le_bytes_8 (take 8 bytes) seq (omega (arith, length-take 8 bytes)) (IsBytes-take 8 bytes fits) refl in
    let four : to_le_bytes w32 count ≡ take 4 (drop 8 bytes) = le_bytes_4 (take 4 (drop 8 bytes)) count (omega (arith, length-take 4 (drop 8 bytes), length-drop 8 bytes)) (IsBytes-take 4 (drop 8 bytes) (IsBytes-drop 8 bytes fits)) refl in
    let behind : drop 12 bytes ≡ drop 4 (drop 8 bytes) = sym (drop-drop 4 8 bytes) in
    let tail : take 4 (drop 8 bytes) ++ drop 12 bytes ≡ drop 8 bytes = ap (λ (l : List ℕ). take 4 (drop 8 bytes) ++ l) behind ∙ take-append-drop 4 (drop 8 bytes) in
    sym (take-append-drop 8 bytes) ∙ ap (λ (l : List ℕ). l ++ drop 8 bytes) (sym eight) ∙ ap (λ (l : List ℕ). to_le_bytes w64 seq ++ l) (sym tail ∙ ap (λ (l : List ℕ). l ++ drop 12 bytes) (sym four))

-- what is accepted is a batch
pub batch_found : (last : ℕ) (bytes : List ℕ) (writes : List Write) → IsBytes bytes → batch_of last bytes ≡ Ok writes → Accepts last bytes writes
unfolding batch_of
batch_found last bytes writes fits e =
    let seq = from_le_bytes w64 (take 8 bytes) in
    let count = from_le_bytes w32 (take 4 (drop 8 bytes)) in
    let a = not_failed (ltb (length bytes) 12) faults.TooShort (judged last seq count >>= λ s. counted_of s count (length bytes) (drop 12 bytes)) writes e in
    let long : 12 ≤ length bytes = ltb-false (length bytes) 12 a.0 in
    let j = bind_ok (judged last seq count) (λ s. counted_of s count (length bytes) (drop 12 bytes)) writes a.1 in
    let fine = judged_found last seq count j.0 j.1 in
    let c = counted_found j.0 count (length bytes) (drop 12 bytes) writes j.2 in
    record {
      seq = seq;
      count = count;
      ops = c.0;
      is_batch = record {
        body = drop 12 bytes;
        seq_fits = eight_fit bytes fits;
        count_fits = four_fit bytes fits;
        whole = header_whole bytes long fits;
        records = c.1;
      };
      right_count = c.2;
      above = fine.1;
      below = fine.2;
      numbers = c.3 ∙ ap (λ (s : ℕ). numbered s c.0) fine.0;
    }

pub is_sound : (last : ℕ) (bytes : List ℕ) (result : Result (Vec Write) BatchError) → IsBytes bytes → Gives (λ writes. writes.items) result (batch_of last bytes) → IfOk result (λ writes. Accepts last bytes writes.items)
is_sound last bytes (Ok writes) fits e = batch_found last bytes writes.items fits e
is_sound last bytes (Err f) fits e = tt
