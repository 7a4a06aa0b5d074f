-- Where a record's type is zero, no payload begins.
use Rattle.std.proofs.Common.{◌≡◌, ℕ, ◌+◌, ◌-◌, Bool, true, false, List, [], ◌∷◌, length, take, drop, None, Result, Ok, Err, refl, ap, sym, subst, ◌∙◌, arith}
use Rattle.std.specs.Prelude.{if◌then◌else◌, nat_lt, ◌==◌}
use Rattle.std.specs.List.{list_all}
use Rattle.uc_logrec.specs.Format.{room, header_place, kind_of, typed, stored_code, stored_length, stored_checksum, checksum_of, record_of}
use Rattle.uc_logrec.specs.Log.{Reading, with_payload, after_record, reading_from}
use Rattle.uc_logrec.specs.Position.{LiesIn, ahead_in}

abbrev IsErr : {K S : Type 0} → Result K S → Type 0
IsErr (Ok found) = ⊥
IsErr (Err stop) = Unit {0}

-- tests one after the other, of which only the last has a result
err_by : {K S : Type 0} (a b c d e : Bool) (s1 s2 s3 s4 s5 : S) (r : Result K S) → IsErr r
    → IsErr (if a then Err s1 else (if b then Err s2 else (if c then Err s3 else (if d then Err s4 else (if e then r else Err s5)))))
err_by true b c d e s1 s2 s3 s4 s5 r err = tt
err_by false true c d e s1 s2 s3 s4 s5 r err = tt
err_by false false true d e s1 s2 s3 s4 s5 r err = tt
err_by false false false true e s1 s2 s3 s4 s5 r err = tt
err_by false false false false true s1 s2 s3 s4 s5 r err = err
err_by false false false false false s1 s2 s3 s4 s5 r err = tt

no_record : (space : ℕ) (rest : List ℕ) → stored_code rest ≡ 0 → IsErr (record_of space rest)
unfolding record_of
no_record space rest blank =
    let len = stored_length rest in
    err_by (list_all (λ byte. byte == 0) rest) (nat_lt (length rest) 7) (nat_lt (space - 7) len) (nat_lt (length rest - 7) len)
    (stored_checksum rest == checksum_of (stored_code rest) (take len (drop 7 rest))) _ _ _ _ _ (typed (kind_of (stored_code rest)) len)
    (subst (λ (code : ℕ). IsErr (typed (kind_of code) len)) (sym blank) tt)

by_err : {K S : Type 0} (r : Result K S) → IsErr r → (P : Result K S → Type 0) → ((stop : S) → P (Err stop)) → P r
by_err (Ok found) err P go = absurd err
by_err (Err stop) err P go = go stop

nothing_read : (payload : List ℕ) (later none : Reading) → none.payloads ≡ [] → none ≡ with_payload payload later → ⊥
nothing_read payload later none empty same =
    let both : [] ≡ payload ∷ later.payloads = sym empty ∙ ap (λ (r : Reading). r.payloads) same in
    absurd cc

here_by : (b : Bool) (offset more : ℕ) (left : List ℕ) → b ≡ false → drop ((if b then offset + more else offset) - offset) left ≡ left
here_by true offset more left e = absurd cc
here_by false offset more left e =
    let none : offset - offset ≡ 0 = omega arith in
    ap (λ (n : ℕ). drop n left) none

pub nothing_lies : (log payload : List ℕ) (offset after : ℕ) → nat_lt (room offset) 7 ≡ false → stored_code (drop offset log) ≡ 0 → LiesIn payload log offset after → ⊥
unfolding reading_from
nothing_lies log payload offset after fits blank lies =
    let left = drop offset log in
    let place = header_place offset in
    let here = drop (place - offset) left in
    let same : here ≡ left = here_by (nat_lt (room offset) 7) offset (room offset) left fits in
    by_err (record_of (room place) here) (no_record (room place) here (ap stored_code same ∙ blank))
    (λ r. after_record (reading_from (length left)) None place here r ≡ with_payload payload (ahead_in log after) → ⊥)
    (λ stop read. nothing_read payload (ahead_in log after) _ refl read) lies.comes
