-- An operand as bytes: parts, each a payload, its length and its operator. They are read from the end.
use Rattle.std.specs.Prelude.{◌≡◌, ℕ, ◌+◌, ◌-◌, ◌*◌, ◌/◌, ◌%◌, ◌<◌, ◌==◌, nat_lt, Bool, true, false, List, [], ◌∷◌, ◌++◌, length, take, drop, Option, Some, None, if◌then◌else◌}
use Rattle.std.proofs.Common.{suc, ap, ◌∙◌, sym, subst, refl, arith, add-one, length-append, length-take}
use Rattle.std.proofs.lemmas.Bool.Decides.{nat_tests}
use Rattle.std.proofs.lemmas.List.{append_assoc, append-nil, take_at, drop_at}
use Rattle.uc_mixed.specs.declared.part_kind.PartKind.{PartKind}
use Rattle.uc_mixed.specs.declared.part_kind.PartKind.TheVariants.{Add, MaxBytes, MinBytes, Set, Append, Or, And, Xor, MaxRegisters, Tail, MaxU64, MinU64, AddU64, SetUnion}

-- the bytes, the last one first
abbrev pub backward : List ℕ → List ℕ
backward [] = []
backward (x ∷ xs) = backward xs ++ x ∷ []

pub backward-append : (x y : List ℕ) → backward (x ++ y) ≡ backward y ++ backward x
backward-append [] y = sym (append-nil (backward y))
backward-append (a ∷ x) y = ap (λ (l : List ℕ). l ++ a ∷ []) (backward-append x y) ∙ append_assoc (backward y) (backward x) (a ∷ [])

pub backward-twice : (x : List ℕ) → backward (backward x) ≡ x
backward-twice [] = refl
backward-twice (a ∷ x) = backward-append (backward x) (a ∷ []) ∙ ap (λ (l : List ℕ). a ∷ l) (backward-twice x)

pub length-backward : (x : List ℕ) → length (backward x) ≡ length x
length-backward [] = refl
length-backward (a ∷ x) = let e = length-backward x in length-append (backward x) (a ∷ []) ∙ ap (λ (n : ℕ). n + 1) e ∙ add-one (length x)

-- the bytes of an operator: its parameter, if it has one, and its number
abbrev pub kind_bytes : PartKind → List ℕ
kind_bytes Add = 1 ∷ []
kind_bytes MaxBytes = 2 ∷ []
kind_bytes MinBytes = 3 ∷ []
kind_bytes Set = 4 ∷ []
kind_bytes (Append delimiter) = delimiter ∷ 5 ∷ []
kind_bytes Or = 6 ∷ []
kind_bytes And = 7 ∷ []
kind_bytes Xor = 8 ∷ []
kind_bytes MaxRegisters = 9 ∷ []
kind_bytes (Tail count) = count % 256 ∷ count / 256 ∷ 10 ∷ []
kind_bytes MaxU64 = 11 ∷ []
kind_bytes MinU64 = 12 ∷ []
kind_bytes AddU64 = 13 ∷ []
kind_bytes SetUnion = 14 ∷ []

-- a long length: four bytes, low byte first, and 255
abbrev pub long_bytes : ℕ → List ℕ
long_bytes n = n % 256 ∷ n / 256 % 256 ∷ n / 256 / 256 % 256 ∷ n / 256 / 256 / 256 ∷ 255 ∷ []

-- a length below 255 is one byte
abbrev pub length_bytes : ℕ → List ℕ
length_bytes n = if nat_lt n 255 then n ∷ [] else long_bytes n

-- a part
abbrev pub part_bytes : PartKind → List ℕ → List ℕ
part_bytes kind payload = payload ++ (length_bytes (length payload) ++ kind_bytes kind)

-- an operand's last part, and the bytes before it
pub record Cut : Type 0 where
  pub kind : PartKind
  pub payload : List ℕ
  pub rest : List ℕ

-- what was read from the end, and the bytes before it, the last one first
pub record Back (X : Type 0) : Type 0 where
  pub value : X
  pub before : List ℕ

abbrev pub back : {X : Type 0} → X → List ℕ → Option (Back X)
back value before = Some (record { value = value; before = before })

abbrev pub delimiter_back : List ℕ → Option (Back PartKind)
delimiter_back [] = None
delimiter_back (delimiter ∷ before) = back (Append delimiter) before

abbrev pub count_back : List ℕ → Option (Back PartKind)
count_back [] = None
count_back (high ∷ []) = None
count_back (high ∷ low ∷ before) = back (Tail (low + 256 * high)) before

abbrev pub numbered_back : ℕ → List ℕ → Option (Back PartKind)
numbered_back n before =
    if n == 1 then back Add before else if n == 2 then back MaxBytes before else if n == 3 then back MinBytes before
    else if n == 4 then back Set before else if n == 5 then delimiter_back before else if n == 6 then back Or before
    else if n == 7 then back And before else if n == 8 then back Xor before else if n == 9 then back MaxRegisters before
    else if n == 10 then count_back before else if n == 11 then back MaxU64 before else if n == 12 then back MinU64 before
    else if n == 13 then back AddU64 before else if n == 14 then back SetUnion before else None

abbrev pub kind_back : List ℕ → Option (Back PartKind)
kind_back [] = None
kind_back (n ∷ before) = numbered_back n before

-- a long length is at least 255
abbrev pub checked_back : ℕ → List ℕ → Option (Back ℕ)
checked_back n before = if nat_lt n 255 then None else back n before

abbrev pub long_back : List ℕ → Option (Back ℕ)
long_back [] = None
long_back (d ∷ []) = None
long_back (d ∷ c ∷ []) = None
long_back (d ∷ c ∷ b ∷ []) = None
long_back (d ∷ c ∷ b ∷ a ∷ before) = checked_back (a + 256 * (b + 256 * (c + 256 * d))) before

abbrev pub length_back : List ℕ → Option (Back ℕ)
length_back [] = None
length_back (n ∷ before) = if n == 255 then long_back before else back n before

-- a part whose payload is the last bytes
abbrev pub cut_payload : PartKind → ℕ → List ℕ → Option Cut
cut_payload kind n bytes =
    if nat_lt (length bytes) n then None
    else Some (record { kind = kind; payload = drop (length bytes - n) bytes; rest = take (length bytes - n) bytes })

abbrev pub cut_length : PartKind → Option (Back ℕ) → Option Cut
cut_length kind None = None
cut_length kind (Some n) = cut_payload kind n.value (backward n.before)

abbrev pub cut_kind : Option (Back PartKind) → Option Cut
cut_kind None = None
cut_kind (Some kind) = cut_length kind.value (length_back kind.before)

-- the last part, if the bytes end with one
abbrev pub cut : List ℕ → Option Cut
cut bytes = cut_kind (kind_back (backward bytes))

pub kind_back-own : (kind : PartKind) (before : List ℕ) → kind_back (backward (kind_bytes kind) ++ before) ≡ back kind before
kind_back-own Add before = refl
kind_back-own MaxBytes before = refl
kind_back-own MinBytes before = refl
kind_back-own Set before = refl
kind_back-own (Append delimiter) before = refl
kind_back-own Or before = refl
kind_back-own And before = refl
kind_back-own Xor before = refl
kind_back-own MaxRegisters before = refl
kind_back-own (Tail count) before = let e : count % 256 + 256 * (count / 256) ≡ count = omega arith in ap (λ (n : ℕ). back (Tail n) before) e
kind_back-own MaxU64 before = refl
kind_back-own MinU64 before = refl
kind_back-own AddU64 before = refl
kind_back-own SetUnion before = refl

bytes-number : (n : ℕ) → n % 256 + 256 * (n / 256 % 256 + 256 * (n / 256 / 256 % 256 + 256 * (n / 256 / 256 / 256))) ≡ n
bytes-number n = omega arith

long_back-own : (n : ℕ) (before : List ℕ) → nat_lt n 255 ≡ false → length_back (backward (long_bytes n) ++ before) ≡ back n before
long_back-own n before e = ap (λ (m : ℕ). checked_back m before) (bytes-number n) ∙ ap (λ (b : Bool). if b then None else back n before) e

short_back-own : (n : ℕ) (before : List ℕ) → nat_lt n 255 ≡ true → length_back (n ∷ before) ≡ back n before
short_back-own n before e = let ne : (n == 255) ≡ false = grind (arith, nat_tests) in ap (λ (b : Bool). if b then long_back before else back n before) ne

length_back-by : (n : ℕ) (before : List ℕ) (b : Bool) → nat_lt n 255 ≡ b → length_back (backward (length_bytes n) ++ before) ≡ back n before
length_back-by n before true e = ap (λ (b : Bool). length_back (backward (if b then n ∷ [] else long_bytes n) ++ before)) e ∙ short_back-own n before e
length_back-by n before false e = ap (λ (b : Bool). length_back (backward (if b then n ∷ [] else long_bytes n) ++ before)) e ∙ long_back-own n before e

part_back : (rest payload : List ℕ) (kind : PartKind) → backward (rest ++ part_bytes kind payload) ≡ backward (kind_bytes kind) ++ (backward (length_bytes (length payload)) ++ backward (rest ++ payload))
part_back rest payload kind =
    ap backward (sym (append_assoc rest payload (length_bytes (length payload) ++ kind_bytes kind)))
    ∙ backward-append (rest ++ payload) (length_bytes (length payload) ++ kind_bytes kind)
    ∙ ap (λ (l : List ℕ). l ++ backward (rest ++ payload)) (backward-append (length_bytes (length payload)) (kind_bytes kind))
    ∙ append_assoc (backward (kind_bytes kind)) (backward (length_bytes (length payload))) (backward (rest ++ payload))

payload-own : (kind : PartKind) (rest payload : List ℕ) (bytes : List ℕ) → bytes ≡ rest ++ payload → cut_payload kind (length payload) bytes ≡ Some (record { kind = kind; payload = payload; rest = rest })
payload-own kind rest payload bytes e =
    let long = length-append rest payload in
    let whole = ap length e in
    let fits : nat_lt (length bytes) (length payload) ≡ false = grind (arith, nat_tests, long, whole) in
    let place : length rest ≡ length bytes - length payload = omega (arith, long, whole) in
    let front : take (length bytes - length payload) bytes ≡ rest = ap (take (length bytes - length payload)) e ∙ take_at rest payload (length bytes - length payload) place in
    let end : drop (length bytes - length payload) bytes ≡ payload = ap (drop (length bytes - length payload)) e ∙ drop_at rest payload (length bytes - length payload) place in
    ap (λ (b : Bool). if b then None else Some (record { kind = kind; payload = drop (length bytes - length payload) bytes; rest = take (length bytes - length payload) bytes })) fits
    ∙ ap (λ (l : List ℕ). Some (record { kind = kind; payload = l; rest = take (length bytes - length payload) bytes })) end
    ∙ ap (λ (l : List ℕ). Some (record { kind = kind; payload = payload; rest = l })) front

pub length_back-own : (n : ℕ) (before : List ℕ) → length_back (backward (length_bytes n) ++ before) ≡ back n before
length_back-own n before = length_back-by n before (nat_lt n 255) refl

-- a part is read as it was written, whatever is before it
pub cut-part : (rest payload : List ℕ) (kind : PartKind) → cut (rest ++ part_bytes kind payload) ≡ Some (record { kind = kind; payload = payload; rest = rest })
cut-part rest payload kind =
    let n = length payload in
    ap (λ (l : List ℕ). cut_kind (kind_back l)) (part_back rest payload kind)
    ∙ ap cut_kind (kind_back-own kind (backward (length_bytes n) ++ backward (rest ++ payload)))
    ∙ ap (cut_length kind) (length_back-own n (backward (rest ++ payload)))
    ∙ payload-own kind rest payload (backward (backward (rest ++ payload))) (backward-twice (rest ++ payload))

-- what is before a part is shorter than the whole
abbrev IsShorter : {X : Type 0} → Option (Back X) → ℕ → Type 0
IsShorter None n = Unit {0}
IsShorter (Some b) n = length b.before < n

either_shorter : {X : Type 0} (b : Bool) (p q : Option (Back X)) (n : ℕ) → IsShorter p n → IsShorter q n → IsShorter (if b then p else q) n
either_shorter true p q n h k = h
either_shorter false p q n h k = k

delimiter_shorter : (before : List ℕ) → IsShorter (delimiter_back before) (suc (length before))
delimiter_shorter [] = tt
delimiter_shorter (a ∷ before) = omega arith

count_shorter : (before : List ℕ) → IsShorter (count_back before) (suc (length before))
count_shorter [] = tt
count_shorter (a ∷ []) = tt
count_shorter (b ∷ a ∷ before) = omega arith

kind_shorter : (bytes : List ℕ) → IsShorter (kind_back bytes) (length bytes)
kind_shorter [] = tt
kind_shorter (n ∷ before) =
    let below : length before < suc (length before) = omega arith in
    let step : (b : Bool) (p q : Option (Back PartKind)) → IsShorter p (suc (length before)) → IsShorter q (suc (length before)) → IsShorter (if b then p else q) (suc (length before)) = λ b p q h k. either_shorter b p q (suc (length before)) h k in
    step (n == 1) _ _ below (step (n == 2) _ _ below (step (n == 3) _ _ below (step (n == 4) _ _ below
    (step (n == 5) _ _ (delimiter_shorter before) (step (n == 6) _ _ below (step (n == 7) _ _ below (step (n == 8) _ _ below (step (n == 9) _ _ below
    (step (n == 10) _ _ (count_shorter before) (step (n == 11) _ _ below (step (n == 12) _ _ below
    (step (n == 13) _ _ below (step (n == 14) _ _ below tt)))))))))))))

long_shorter : (bytes : List ℕ) → IsShorter (long_back bytes) (suc (length bytes))
long_shorter [] = tt
long_shorter (d ∷ []) = tt
long_shorter (d ∷ c ∷ []) = tt
long_shorter (d ∷ c ∷ b ∷ []) = tt
long_shorter (d ∷ c ∷ b ∷ a ∷ before) =
    let n = a + 256 * (b + 256 * (c + 256 * d)) in
    either_shorter (nat_lt n 255) None (back n before) (suc (suc (suc (suc (suc (length before)))))) tt (omega arith)

length_shorter : (bytes : List ℕ) → IsShorter (length_back bytes) (length bytes)
length_shorter [] = tt
length_shorter (n ∷ before) = either_shorter (n == 255) (long_back before) (back n before) (suc (length before)) (long_shorter before) (omega arith)

abbrev IsCutShorter : Option Cut → ℕ → Type 0
IsCutShorter None n = Unit {0}
IsCutShorter (Some c) n = length c.rest < n

payload_shorter : (kind : PartKind) (n : ℕ) (bytes : List ℕ) (b : Bool) (m : ℕ) → length bytes < m
    → IsCutShorter (if b then None else Some (record { kind = kind; payload = drop (length bytes - n) bytes; rest = take (length bytes - n) bytes })) m
payload_shorter kind n bytes true m h = tt
payload_shorter kind n bytes false m h = let e = length-take (length bytes - n) bytes in omega (arith, e, h)

cut_length_shorter : (kind : PartKind) (n : Option (Back ℕ)) (m : ℕ) → IsShorter n m → IsCutShorter (cut_length kind n) m
cut_length_shorter kind None m h = tt
cut_length_shorter kind (Some n) m h = let e = length-backward n.before in payload_shorter kind n.value (backward n.before) (nat_lt (length (backward n.before)) n.value) m (omega (arith, e, h))

shorter_still : (n : Option (Back ℕ)) (m k : ℕ) → m < k → IsShorter n m → IsShorter n k
shorter_still None m k lt h = tt
shorter_still (Some n) m k lt h = omega (arith, lt, h)

cut_kind_shorter : (kind : Option (Back PartKind)) (m : ℕ) → IsShorter kind m → IsCutShorter (cut_kind kind) m
cut_kind_shorter None m h = tt
cut_kind_shorter (Some kind) m h = cut_length_shorter kind.value (length_back kind.before) m (shorter_still (length_back kind.before) (length kind.before) m h (length_shorter kind.before))

pub cut-shorter : (bytes : List ℕ) (c : Cut) → cut bytes ≡ Some c → length c.rest < length bytes
cut-shorter bytes c e =
    let whole : IsShorter (kind_back (backward bytes)) (length bytes) = subst (IsShorter (kind_back (backward bytes))) (length-backward bytes) (kind_shorter (backward bytes)) in
    let P : Option Cut → Type 0 = λ o. IsCutShorter o (length bytes) in
    subst P e (cut_kind_shorter (kind_back (backward bytes)) (length bytes) whole)
