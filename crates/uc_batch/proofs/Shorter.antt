-- The bytes after a record are fewer than those with the record.
use Rattle.std.proofs.Common.{◌≡◌, ℕ, zero, suc, ◌+◌, ◌-◌, ◌*◌, ◌<◌, ◌≤◌, Bool, true, false, cond, ltb, eqb, List, [], ◌∷◌, length, take, drop, Option, Some, None, Result, Ok, Err, ap, arith, length-drop}
use Rattle.uc_bytes.specs.declared.op.Op.{Op}
use Rattle.uc_bytes.specs.declared.op.Op.TheVariants as op
use Rattle.uc_batch.specs.declared.error.BatchError.{BatchError}
use Rattle.uc_batch.specs.declared.error.BatchError.TheVariants.{Cut, BadVarint, OtherFamily}
use Rattle.uc_batch.specs.declared.tag.Form.{Form}
use Rattle.uc_batch.specs.declared.tag.Form.TheVariants as form
use Rattle.uc_batch.specs.declared.tag.Layout.{Layout}
use Rattle.uc_batch.specs.Tag.{layout_at}
use Rattle.uc_batch.specs.Reads.{◌>>=◌}
use Rattle.uc_batch.specs.Varint.{varint_from}
use Rattle.uc_batch.specs.Records.{string_at, family_at, strings_at, after_family, body_at, laid_out, record_at}
use Rattle.uc_batch.proofs.Steps.{bind_ok, passed, avoided, ok_is}

-- a first byte below 128 is the number, and else more bytes follow
first_or_more : (b : Bool) (low : ℕ) (rest : List ℕ) (r : Result (ℕ × List ℕ) BatchError) (x : ℕ × List ℕ)
    → cond b (Ok (low, rest)) (r >>= λ high. Ok ((low - 128) + 128 * high.0, high.1)) ≡ Ok x
    → ((y : ℕ × List ℕ) → r ≡ Ok y → length y.1 < length rest) → length x.1 ≤ length rest
first_or_more true low rest r x e more = let h = ap (λ (p : ℕ × List ℕ). length p.1) (ok_is (low, rest) x e) in omega arith
first_or_more false low rest r x e more =
    let b = bind_ok r (λ high. Ok ((low - 128) + 128 * high.0, high.1)) x e in
    let h = ap (λ (p : ℕ × List ℕ). length p.1) (ok_is ((low - 128) + 128 * b.0.0, b.0.1) x b.2) in
    omega (arith, more b.0 b.1)

pub varint_shorter : (more start here : ℕ) (bytes : List ℕ) (x : ℕ × List ℕ) → varint_from more start here bytes ≡ Ok x → length x.1 < length bytes
unfolding varint_from
varint_shorter more start here [] x e = absurd cc
varint_shorter zero start here (b ∷ rest) x e =
    let g = passed (ltb b 16) (BadVarint here) (b, rest) x e in
    let h = ap (λ (p : ℕ × List ℕ). length p.1) g.1 in omega arith
varint_shorter (suc more) start here (b ∷ rest) x e =
    omega (arith, first_or_more (ltb b 128) b rest (varint_from more start here rest) x e (λ y. varint_shorter more start here rest y))

pub string_shorter : (total start : ℕ) (bytes : List ℕ) (x : List ℕ × List ℕ) → string_at total start bytes ≡ Ok x → length x.1 < length bytes
unfolding string_at
string_shorter total start bytes x e =
    let b = bind_ok (varint_from 4 start (total - length bytes) bytes) (λ n. cond (ltb (length n.1) n.0) (Err (Cut start)) (Ok (take n.0 n.1, drop n.0 n.1))) x e in
    let g = avoided (ltb (length b.0.1) b.0.0) (Cut start) (take b.0.0 b.0.1, drop b.0.0 b.0.1) x b.2 in
    let h = ap (λ (p : List ℕ × List ℕ). length p.1) g.1 in
    omega (arith, varint_shorter 4 start (total - length bytes) bytes b.0 b.1, length-drop b.0.0 b.0.1)

strings_shorter : (total start : ℕ) (bytes : List ℕ) (x : (List ℕ × List ℕ) × List ℕ) → strings_at total start bytes ≡ Ok x → length x.1 < length bytes
unfolding strings_at
strings_shorter total start bytes x e =
    let a = bind_ok (string_at total start bytes) (λ first. string_at total start first.1 >>= λ second. Ok ((first.0, second.0), second.1)) x e in
    let b = bind_ok (string_at total start a.0.1) (λ second. Ok ((a.0.0, second.0), second.1)) x a.2 in
    let h = ap (λ (p : (List ℕ × List ℕ) × List ℕ). length p.1) (ok_is ((a.0.0, b.0.0), b.0.1) x b.2) in
    omega (arith, string_shorter total start bytes a.0 a.1, string_shorter total start a.0.1 b.0 b.1)

of_strings : (make : List ℕ → List ℕ → Op) (total start : ℕ) (bytes : List ℕ) (x : Option Op × List ℕ)
    → (strings_at total start bytes >>= λ two. Ok (Some (make two.0.0 two.0.1), two.1)) ≡ Ok x → length x.1 < length bytes
of_strings make total start bytes x e =
    let a = bind_ok (strings_at total start bytes) (λ two. Ok (Some (make two.0.0 two.0.1), two.1)) x e in
    let h = ap (λ (p : Option Op × List ℕ). length p.1) (ok_is (Some (make a.0.0.0 a.0.0.1), a.0.1) x a.2) in
    omega (arith, strings_shorter total start bytes a.0 a.1)

of_string : (make : List ℕ → Option Op) (total start : ℕ) (bytes : List ℕ) (x : Option Op × List ℕ)
    → (string_at total start bytes >>= λ one. Ok (make one.0, one.1)) ≡ Ok x → length x.1 < length bytes
of_string make total start bytes x e =
    let a = bind_ok (string_at total start bytes) (λ one. Ok (make one.0, one.1)) x e in
    let h = ap (λ (p : Option Op × List ℕ). length p.1) (ok_is (make a.0.0, a.0.1) x a.2) in
    omega (arith, string_shorter total start bytes a.0 a.1)

body_shorter : (f : Form) (total start : ℕ) (bytes : List ℕ) (x : Option Op × List ℕ) → body_at f total start bytes ≡ Ok x → length x.1 ≤ length bytes
unfolding body_at
body_shorter form.Deletion total start bytes x e = omega (arith, of_string (λ key. Some (op.Delete key)) total start bytes x e)
body_shorter form.Value total start bytes x e = omega (arith, of_strings op.Put total start bytes x e)
body_shorter form.Merge total start bytes x e = omega (arith, of_strings op.Merge total start bytes x e)
body_shorter form.LogData total start bytes x e = omega (arith, of_string (λ _. None) total start bytes x e)
body_shorter form.Noop total start bytes x e = let h = ap (λ (p : Option Op × List ℕ). length p.1) (ok_is (None, bytes) x e) in omega arith
body_shorter form.RangeDeletion total start bytes x e = omega (arith, of_strings op.DeleteRange total start bytes x e)

family_shorter : (b : Bool) (total start : ℕ) (bytes rest : List ℕ) → after_family b total start bytes ≡ Ok rest → length rest ≤ length bytes
unfolding after_family family_at
family_shorter false total start bytes rest e = let h = ap (λ (p : List ℕ). length p) (ok_is bytes rest e) in omega arith
family_shorter true total start bytes rest e =
    let a = bind_ok (varint_from 4 start (total - length bytes) bytes) (λ id. cond (eqb id.0 0) (Ok id.1) (Err (OtherFamily id.0))) rest e in
    let g = passed (eqb a.0.0 0) (OtherFamily a.0.0) a.0.1 rest a.2 in
    let h = ap (λ (p : List ℕ). length p) g.1 in
    omega (arith, varint_shorter 4 start (total - length bytes) bytes a.0 a.1)

laid_out_shorter : (layout : Option Layout) (tag total start : ℕ) (bytes : List ℕ) (x : Option Op × List ℕ) → laid_out layout tag total start bytes ≡ Ok x → length x.1 ≤ length bytes
unfolding laid_out
laid_out_shorter None tag total start bytes x e = absurd cc
laid_out_shorter (Some l) tag total start bytes x e =
    let a = bind_ok (after_family l.has_family total start bytes) (λ rest. body_at l.form total start rest) x e in
    omega (arith, family_shorter l.has_family total start bytes a.0 a.1, body_shorter l.form total start a.0 x a.2)

pub record_shorter : (total b : ℕ) (bytes : List ℕ) (x : Option Op × List ℕ) → record_at total (b ∷ bytes) ≡ Ok x → length x.1 ≤ length bytes
unfolding record_at
record_shorter total b bytes x e = laid_out_shorter (layout_at b) b total (total - length (b ∷ bytes)) bytes x e
