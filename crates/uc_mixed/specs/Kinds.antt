-- The operators that a part of an operand may name, and their laws.
--
-- | Number | Name          | Payload                        | First          | Join and pair                                |
-- |--------|---------------|--------------------------------|----------------|----------------------------------------------|
-- |      1 | add           | 8 bytes, low byte first        | its number     | the sum modulo 2^64                          |
-- |      2 | max_bytes     | bytes                          | the payload    | the greater byte string                      |
-- |      3 | min_bytes     | bytes                          | the payload    | the lesser byte string                       |
-- |      4 | set           | bytes                          | the payload    | the newer one                                |
-- |      5 | append        | bytes; parameter: a delimiter  | the payload    | the older one, the delimiter, the newer one  |
-- |      6 | or            | bytes                          | the payload    | byte by byte                                 |
-- |      7 | and           | bytes                          | the payload    | byte by byte                                 |
-- |      8 | xor           | bytes                          | the payload    | byte by byte                                 |
-- |      9 | max_registers | bytes                          | the payload    | byte by byte, the greater byte               |
-- |     10 | tail          | bytes; parameter: a count      | its last bytes | the last bytes of the older one and the newer|
-- |     11 | max_u64       | 8 bytes, low byte first        | its number     | the greater number                           |
-- |     12 | min_u64       | 8 bytes, low byte first        | its number     | the lesser number                            |
-- |     13 | add_u64       | 8 bytes, low byte first        | its number     | the sum, at most 2^64 - 1                    |
-- |     14 | set_union     | members, each 2 bytes of its   | the payload    | the members of either, once and in order     |
-- |        |               | length and its bytes, ascending|                |                                              |
--
-- A base of another shape: numbers take a value that hasn't 8 bytes for 0. Byte by byte, the shorter one is filled with zeros. A union
-- takes the members that are whole, in the order in which they stand. All others take any bytes as they are, so a value that was put is
-- longer than a tail until it is merged.
--
-- Sums of signed numbers that stop at a greatest and a least number don't group freely: of 2^63 - 1, 1 and -1 the first two stop at
-- 2^63 - 1, which gives 2^63 - 2, and the last two are 0, which gives 2^63 - 1. Nor do removals of members by one walk: of a value with the
-- members 1 and 0, in this order, the removals of 1 and then of 0 leave none, and the removal of both leaves 0.
use Rattle.std.specs.Prelude.{◌≡◌, ℕ, ◌==◌, nat_lt, Bool, true, false, ◌&&◌, Option, Some, None, List, max, bit_and, bit_or, bit_xor, if◌then◌else◌}
use Rattle.std.proofs.Common.{ap, ◌∙◌, sym, refl}
use Rattle.std.proofs.lemmas.Bool.{eqb-true, eq-eqb}
use Rattle.uc_oper.specs.Operation.{Operation, IsLawful}
use Rattle.uc_oper.specs.Counting.{counted, number, sum_of, counting_lawful}
use Rattle.uc_oper.specs.Appending.{appended, appending_lawful}
use Rattle.uc_oper.specs.Greatest.{greater_of, greatest_lawful}
use Rattle.uc_oper.specs.Tails.{last_bytes, last_of_both, tail_lawful}
use Rattle.uc_mixed.specs.Numbers.{greater_number, lesser_number, limited_sum, greater_number_lawful, lesser_number_lawful, limited_sum_lawful}
use Rattle.uc_mixed.specs.Bytewise.{bytewise, or_bytes_assoc, and_bytes_assoc, xor_bytes_assoc, max_bytes_assoc}
use Rattle.uc_mixed.specs.Least.{lesser_of, lesser_assoc}
use Rattle.uc_mixed.specs.Sets.{union_of, union_assoc}
use Rattle.uc_mixed.specs.declared.part_kind.PartKind.{PartKind}
use Rattle.uc_mixed.specs.declared.part_kind.PartKind.TheVariants.{Add, MaxBytes, MinBytes, Set, Append, Or, And, Xor, MaxRegisters, Tail, MaxU64, MinU64, AddU64, SetUnion}

-- the value that a part makes if there is none
abbrev pub begun : PartKind → List ℕ → List ℕ
begun Add x = counted (number x)
begun MaxBytes x = x
begun MinBytes x = x
begun Set x = x
begun (Append delimiter) x = x
begun Or x = x
begun And x = x
begun Xor x = x
begun MaxRegisters x = x
begun (Tail count) x = last_bytes count x
begun MaxU64 x = counted (number x)
begun MinU64 x = counted (number x)
begun AddU64 x = counted (number x)
begun SetUnion x = x

-- the value that a part makes of the one before it; also the payload that replaces those of two adjacent parts
abbrev pub combined : PartKind → List ℕ → List ℕ → List ℕ
combined Add x y = sum_of x y
combined MaxBytes x y = greater_of x y
combined MinBytes x y = lesser_of x y
combined Set x y = y
combined (Append delimiter) x y = appended delimiter x y
combined Or x y = bytewise bit_or x y
combined And x y = bytewise bit_and x y
combined Xor x y = bytewise bit_xor x y
combined MaxRegisters x y = bytewise max x y
combined (Tail count) x y = last_of_both count x y
combined MaxU64 x y = greater_number x y
combined MinU64 x y = lesser_number x y
combined AddU64 x y = limited_sum x y
combined SetUnion x y = union_of x y

abbrev pub operation_of : PartKind → Operation
operation_of kind = record { first = begun kind; join = combined kind; pair = combined kind }

-- an associative function whose first value is the payload
plain_lawful : (f : List ℕ → List ℕ → List ℕ) → ((x y z : List ℕ) → f (f x y) z ≡ f x (f y z)) → IsLawful (record { first = λ x. x; join = f; pair = f })
plain_lawful f assoc = record { join_pair = λ b x y. sym (assoc b x y); first_pair = λ x y. refl; pair_assoc = assoc }

pub operation_lawful : (kind : PartKind) → IsLawful (operation_of kind)
operation_lawful Add = counting_lawful
operation_lawful MaxBytes = greatest_lawful
operation_lawful MinBytes = plain_lawful lesser_of (λ x y z. sym (lesser_assoc x y z))
operation_lawful Set = plain_lawful (λ x y. y) (λ x y z. refl)
operation_lawful (Append delimiter) = appending_lawful delimiter
operation_lawful Or = plain_lawful (bytewise bit_or) or_bytes_assoc
operation_lawful And = plain_lawful (bytewise bit_and) and_bytes_assoc
operation_lawful Xor = plain_lawful (bytewise bit_xor) xor_bytes_assoc
operation_lawful MaxRegisters = plain_lawful (bytewise max) max_bytes_assoc
operation_lawful (Tail count) = tail_lawful count
operation_lawful MaxU64 = greater_number_lawful
operation_lawful MinU64 = lesser_number_lawful
operation_lawful AddU64 = limited_sum_lawful
operation_lawful SetUnion = plain_lawful union_of union_assoc

-- the number of an operator
abbrev pub number_of : PartKind → ℕ
number_of Add = 1
number_of MaxBytes = 2
number_of MinBytes = 3
number_of Set = 4
number_of (Append delimiter) = 5
number_of Or = 6
number_of And = 7
number_of Xor = 8
number_of MaxRegisters = 9
number_of (Tail count) = 10
number_of MaxU64 = 11
number_of MinU64 = 12
number_of AddU64 = 13
number_of SetUnion = 14

-- its parameter, or 0 if it has none
abbrev pub parameter_of : PartKind → ℕ
parameter_of Add = 0
parameter_of MaxBytes = 0
parameter_of MinBytes = 0
parameter_of Set = 0
parameter_of (Append delimiter) = delimiter
parameter_of Or = 0
parameter_of And = 0
parameter_of Xor = 0
parameter_of MaxRegisters = 0
parameter_of (Tail count) = count
parameter_of MaxU64 = 0
parameter_of MinU64 = 0
parameter_of AddU64 = 0
parameter_of SetUnion = 0

abbrev pub same_kind : PartKind → PartKind → Bool
same_kind a b = (number_of a == number_of b) && (parameter_of a == parameter_of b)

abbrev pub is_set : PartKind → Bool
is_set kind = number_of kind == 4

-- the operator with a number and a parameter
abbrev kind_with : ℕ → ℕ → PartKind
kind_with n p =
    if n == 1 then Add else if n == 2 then MaxBytes else if n == 3 then MinBytes else if n == 4 then Set
    else if n == 5 then Append p else if n == 6 then Or else if n == 7 then And else if n == 8 then Xor
    else if n == 9 then MaxRegisters else if n == 10 then Tail p else if n == 11 then MaxU64
    else if n == 12 then MinU64 else if n == 13 then AddU64 else SetUnion

kind_with-own : (kind : PartKind) → kind_with (number_of kind) (parameter_of kind) ≡ kind
kind_with-own Add = refl
kind_with-own MaxBytes = refl
kind_with-own MinBytes = refl
kind_with-own Set = refl
kind_with-own (Append delimiter) = refl
kind_with-own Or = refl
kind_with-own And = refl
kind_with-own Xor = refl
kind_with-own MaxRegisters = refl
kind_with-own (Tail count) = refl
kind_with-own MaxU64 = refl
kind_with-own MinU64 = refl
kind_with-own AddU64 = refl
kind_with-own SetUnion = refl

pub same_kind-equal : (a b : PartKind) → same_kind a b ≡ true → a ≡ b
same_kind-equal a b e =
    let both = and-true (number_of a == number_of b) (parameter_of a == parameter_of b) e in
    let number : number_of a ≡ number_of b = eqb-true (number_of a) (number_of b) both.0 in
    let parameter : parameter_of a ≡ parameter_of b = eqb-true (parameter_of a) (parameter_of b) both.1 in
    sym (kind_with-own a) ∙ ap (λ (n : ℕ). kind_with n (parameter_of a)) number ∙ ap (kind_with (number_of b)) parameter ∙ kind_with-own b
  where
    and-true : (p q : Bool) → (p && q) ≡ true → (p ≡ true) × (q ≡ true)
    and-true true q e = (refl, e)
    and-true false q e = absurd cc

pub same_kind-own : (kind : PartKind) → same_kind kind kind ≡ true
same_kind-own kind =
    let number : (number_of kind == number_of kind) ≡ true = eq-eqb (number_of kind) (number_of kind) refl in
    let parameter : (parameter_of kind == parameter_of kind) ≡ true = eq-eqb (parameter_of kind) (parameter_of kind) refl in
    ap (λ (b : Bool). b && (parameter_of kind == parameter_of kind)) number ∙ parameter

pub is_set-equal : (kind : PartKind) → is_set kind ≡ true → kind ≡ Set
is_set-equal Add e = absurd cc
is_set-equal MaxBytes e = absurd cc
is_set-equal MinBytes e = absurd cc
is_set-equal Set e = refl
is_set-equal (Append delimiter) e = absurd cc
is_set-equal Or e = absurd cc
is_set-equal And e = absurd cc
is_set-equal Xor e = absurd cc
is_set-equal MaxRegisters e = absurd cc
is_set-equal (Tail count) e = absurd cc
is_set-equal MaxU64 e = absurd cc
is_set-equal MinU64 e = absurd cc
is_set-equal AddU64 e = absurd cc
is_set-equal SetUnion e = absurd cc

-- the operator with a number, of those without a parameter
abbrev pub plain_numbered : ℕ → Option PartKind
plain_numbered n =
    if n == 1 then Some Add else if n == 2 then Some MaxBytes else if n == 3 then Some MinBytes else if n == 4 then Some Set
    else if n == 6 then Some Or else if n == 7 then Some And else if n == 8 then Some Xor else if n == 9 then Some MaxRegisters
    else if n == 11 then Some MaxU64 else if n == 12 then Some MinU64 else if n == 13 then Some AddU64
    else if n == 14 then Some SetUnion else None

-- the operator with a number and a parameter: a delimiter is a byte, a tail has fewer than 2^16 bytes, and the others have 0
abbrev pub kind_numbered : ℕ → ℕ → Option PartKind
kind_numbered n p =
    if n == 5 then (if nat_lt p 256 then Some (Append p) else None)
    else if n == 10 then (if nat_lt p 65536 then Some (Tail p) else None)
    else if p == 0 then plain_numbered n else None
