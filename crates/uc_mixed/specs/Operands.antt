-- Byte strings that spell parts and nothing else, each with a payload of its shape.
use Rattle.std.specs.Prelude.{◌≡◌, ℕ, ◌≤◌, ◌==◌, Bool, true, false, ◌&&◌, List, [], ◌∷◌, length, Option, Some, None}
use Rattle.std.proofs.Common.{zero, suc, ap, ◌∙◌, sym, refl, arith}
use Rattle.std.proofs.lemmas.List.{nil_from_length}
use Rattle.uc_mixed.specs.declared.part_kind.PartKind.{PartKind}
use Rattle.uc_mixed.specs.declared.part_kind.PartKind.TheVariants.{Add, MaxBytes, MinBytes, Set, Append, Or, And, Xor, MaxRegisters, Tail, MaxU64, MinU64, AddU64, SetUnion}
use Rattle.uc_mixed.specs.Sets.{is_set_of_members}
use Rattle.uc_mixed.specs.Parts.{Cut, cut, part_bytes, cut-part, cut-shorter}

-- numbers have eight bytes, and the members of a set are whole and ascend
abbrev pub has_shape : PartKind → List ℕ → Bool
has_shape Add payload = length payload == 8
has_shape MaxBytes payload = true
has_shape MinBytes payload = true
has_shape Set payload = true
has_shape (Append delimiter) payload = true
has_shape Or payload = true
has_shape And payload = true
has_shape Xor payload = true
has_shape MaxRegisters payload = true
has_shape (Tail count) payload = true
has_shape MaxU64 payload = length payload == 8
has_shape MinU64 payload = length payload == 8
has_shape AddU64 payload = length payload == 8
has_shape SetUnion payload = is_set_of_members payload

-- the first part, or a part after others
abbrev pub earlier_parts : List ℕ → Bool → Bool
earlier_parts [] before = true
earlier_parts (a ∷ rest) before = before

abbrev pub operand_by : Option Cut → (List ℕ → Bool) → Bool
operand_by None before = false
operand_by (Some c) before = has_shape c.kind c.payload && earlier_parts c.rest (before c.rest)

abbrev pub operand_in : ℕ → List ℕ → Bool
operand_in zero bytes = false
operand_in (suc n) bytes = operand_by (cut bytes) (λ rest. operand_in n rest)

-- whether the bytes are one or more parts
abbrev pub is_operand : List ℕ → Bool
is_operand bytes = operand_in (length bytes) bytes

same_by : (n m : ℕ) (x : List ℕ) → ((c : Cut) → cut x ≡ Some c → operand_in n c.rest ≡ operand_in m c.rest) → (o : Option Cut) → cut x ≡ o
    → operand_by o (λ rest. operand_in n rest) ≡ operand_by o (λ rest. operand_in m rest)
same_by n m x rec None e = refl
same_by n m x rec (Some c) e = ap (λ (b : Bool). has_shape c.kind c.payload && earlier_parts c.rest b) (rec c e)

enough : (n m : ℕ) (x : List ℕ) → length x ≤ n → length x ≤ m → operand_in n x ≡ operand_in m x
enough zero zero x p q = refl
enough zero (suc m) x p q = let e : x ≡ [] = nil_from_length x (omega arith) in sym (ap (operand_in (suc m)) e)
enough (suc n) zero x p q = let e : x ≡ [] = nil_from_length x (omega arith) in ap (operand_in (suc n)) e
enough (suc n) (suc m) x p q =
    same_by n m x (λ c e. let lt = cut-shorter x c e in enough n m c.rest (omega (arith, lt, p)) (omega (arith, lt, q))) (cut x) refl

pub operand-none : (x : List ℕ) → cut x ≡ None → is_operand x ≡ false
operand-none x e = enough (length x) (suc (length x)) x (omega arith) (omega arith) ∙ ap (λ (o : Option Cut). operand_by o (λ rest. operand_in (length x) rest)) e

pub operand-cut : (x : List ℕ) (c : Cut) → cut x ≡ Some c → is_operand x ≡ (has_shape c.kind c.payload && earlier_parts c.rest (is_operand c.rest))
operand-cut x c e =
    let lt = cut-shorter x c e in
    enough (length x) (suc (length x)) x (omega arith) (omega arith)
    ∙ ap (λ (o : Option Cut). operand_by o (λ rest. operand_in (length x) rest)) e
    ∙ ap (λ (b : Bool). has_shape c.kind c.payload && earlier_parts c.rest b) (enough (length x) (length c.rest) c.rest (omega (arith, lt)) (omega arith))

shape_alone : (b : Bool) → (b && true) ≡ b
shape_alone true = refl
shape_alone false = refl

-- a part is an operand if its payload has the operator's shape
pub operand-part : (kind : PartKind) (payload : List ℕ) → is_operand (part_bytes kind payload) ≡ has_shape kind payload
operand-part kind payload = operand-cut (part_bytes kind payload) (record { kind = kind; payload = payload; rest = [] }) (cut-part [] payload kind) ∙ shape_alone (has_shape kind payload)
