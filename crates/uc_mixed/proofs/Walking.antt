-- The walk to the first part of an operand and back.
use Rattle.std.proofs.Common.{◌≡◌, ℕ, ◌<◌, ◌≤◌, Bool, true, false, ◌&&◌, List, [], ◌∷◌, ◌++◌, length, take, Option, Some, None, ap, ◌∙◌, sym, refl, arith}
use Rattle.std.proofs.lemmas.List.{nil_from_length}
use Rattle.uc_mixed.specs.declared.part_kind.PartKind.{PartKind}
use Rattle.uc_mixed.specs.Parts.{Cut, cut, cut-part, part_bytes, backward, backward-append}
use Rattle.uc_mixed.specs.Mixing.{after, after-cut, applied, value_after, value-cut}
use Rattle.uc_mixed.specs.Walks.{stepped, finished}
use Rattle.uc_mixed.specs.Operands.{is_operand, has_shape, earlier_parts, operand-cut}
use Rattle.uc_mixed.proofs.Placed.{parts_split}

-- bytes that end with a part are cut there
pub cut_at : (bytes rest payload : List ℕ) (kind : PartKind) → bytes ≡ rest ++ part_bytes kind payload → cut bytes ≡ Some (record { kind = kind; payload = payload; rest = rest })
cut_at bytes rest payload kind e = ap cut e ∙ cut-part rest payload kind

finish_step : (operand ends : List ℕ) (end : ℕ) (v : Option (List ℕ)) → finished operand (backward (ends ++ end ∷ [])) v ≡ finished operand (backward ends) (stepped (cut (take end operand)) v)
finish_step operand ends end v = ap (λ (l : List ℕ). finished operand l v) (backward-append ends (end ∷ []))

-- one part further back
pub ends_walked : (operand rest payload ends : List ℕ) (kind : PartKind) (end : ℕ) → end ≤ length operand → take end operand ≡ rest ++ part_bytes kind payload → (v : Option (List ℕ))
    → finished operand (backward (ends ++ end ∷ [])) (after v (take (length rest) operand)) ≡ finished operand (backward ends) (after v (take end operand))
ends_walked operand rest payload ends kind end le e v =
    let c = cut_at (take end operand) rest payload kind e in
    let split = parts_split operand rest (part_bytes kind payload) end le e in
    finish_step operand ends end (after v (take (length rest) operand))
    ∙ ap (finished operand (backward ends))
    (ap (λ (o : Option Cut). stepped o (after v (take (length rest) operand))) c
    ∙ ap (λ (l : List ℕ). Some (applied kind payload (after v l))) split.0
    ∙ sym (after-cut v (take end operand) (record { kind = kind; payload = payload; rest = rest }) c))

-- one part applied
pub part_finished : (operand rest payload ends before : List ℕ) (kind : PartKind) (end : ℕ) (v : Option (List ℕ)) → take end operand ≡ rest ++ part_bytes kind payload → before ≡ ends ++ end ∷ []
    → finished operand (backward ends) (Some (applied kind payload v)) ≡ finished operand (backward before) v
part_finished operand rest payload ends before kind end v e f =
    sym (ap (λ (l : List ℕ). finished operand (backward l) v) f
    ∙ finish_step operand ends end v
    ∙ ap (λ (o : Option Cut). finished operand (backward ends) (stepped o v)) (cut_at (take end operand) rest payload kind e))

pub none_finished : (operand ends before : List ℕ) (end : ℕ) (v : Option (List ℕ)) → cut (take end operand) ≡ None → before ≡ ends ++ end ∷ []
    → finished operand (backward ends) v ≡ finished operand (backward before) v
none_finished operand ends before end v e f =
    sym (ap (λ (l : List ℕ). finished operand (backward l) v) f ∙ finish_step operand ends end v ∙ ap (λ (o : Option Cut). finished operand (backward ends) (stepped o v)) e)

-- an operand of one part
pub value_of_one : (operand rest payload : List ℕ) (kind : PartKind) (v : Option (List ℕ)) → operand ≡ rest ++ part_bytes kind payload → length rest ≡ 0 → applied kind payload v ≡ value_after v operand
value_of_one operand rest payload kind v e none =
    sym (value-cut v operand (record { kind = kind; payload = payload; rest = rest }) (cut_at operand rest payload kind e) ∙ ap (λ (l : List ℕ). applied kind payload (after v l)) (nil_from_length rest none))

-- whether bytes are an operand, by their last part
operand_at : (bytes rest payload : List ℕ) (kind : PartKind) → bytes ≡ rest ++ part_bytes kind payload → is_operand bytes ≡ (has_shape kind payload && earlier_parts rest (is_operand rest))
operand_at bytes rest payload kind e = operand-cut bytes (record { kind = kind; payload = payload; rest = rest }) (cut_at bytes rest payload kind e)

pub misshapen : (bytes rest payload : List ℕ) (kind : PartKind) → bytes ≡ rest ++ part_bytes kind payload → has_shape kind payload ≡ false → is_operand bytes ≡ false
misshapen bytes rest payload kind e f = operand_at bytes rest payload kind e ∙ ap (λ (b : Bool). b && earlier_parts rest (is_operand rest)) f

pub one_part : (bytes rest payload : List ℕ) (kind : PartKind) → bytes ≡ rest ++ part_bytes kind payload → has_shape kind payload ≡ true → length rest ≡ 0 → is_operand bytes ≡ true
one_part bytes rest payload kind e f none =
    operand_at bytes rest payload kind e ∙ ap (λ (b : Bool). b && earlier_parts rest (is_operand rest)) f ∙ ap (λ (l : List ℕ). earlier_parts l (is_operand rest)) (nil_from_length rest none)

earlier_full : (rest : List ℕ) (b : Bool) → 0 < length rest → earlier_parts rest b ≡ b
earlier_full [] b lt = absurd (omega arith)
earlier_full (a ∷ rest) b lt = refl

pub more_parts : (operand rest payload : List ℕ) (kind : PartKind) (end : ℕ) → end ≤ length operand → take end operand ≡ rest ++ part_bytes kind payload → has_shape kind payload ≡ true → 0 < length rest
    → is_operand operand ≡ is_operand (take end operand) → is_operand operand ≡ is_operand (take (length rest) operand)
more_parts operand rest payload kind end le e f full same =
    same ∙ operand_at (take end operand) rest payload kind e ∙ ap (λ (b : Bool). b && earlier_parts rest (is_operand rest)) f ∙ earlier_full rest (is_operand rest) full
    ∙ ap is_operand (sym (parts_split operand rest (part_bytes kind payload) end le e).0)
