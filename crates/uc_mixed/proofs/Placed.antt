-- Bytes at the end of a list, in their place.
use Rattle.std.proofs.Common.{◌≡◌, ℕ, ◌+◌, ◌-◌, ◌<◌, ◌≤◌, List, [], ◌∷◌, ◌++◌, length, take, drop, true, false, Some, None, ap, ◌∙◌, sym, refl, arith, length-append, length-drop, drop-drop, append_assoc}
use Rattle.std.proofs.lemmas.List.{take-append-le, drop-append-le, take-append-drop, take_at, drop_at, take-take, length-take, nil_from_length}
use Rattle.uc_oper.specs.Tails.{last_of_both}
use Rattle.uc_mixed.specs.declared.part_kind.PartKind.{PartKind}
use Rattle.uc_mixed.specs.Kinds.{combined, same_kind, is_set}
use Rattle.uc_mixed.specs.Parts.{cut, cut-part, cut-shorter, part_bytes, length_bytes, kind_bytes}
use Rattle.uc_mixed.specs.Mixing.{joined, joined-same, joined-other, spelled_out, paired, pair-more, pair-lone, pair-bare}

pub kept_last : (bytes others : List ℕ) (start cut count : ℕ) → start ≤ length bytes → cut ≡ (length (bytes ++ others) - start) - count
    → take start (bytes ++ others) ++ drop (start + cut) (bytes ++ others) ≡ take start bytes ++ last_of_both count (drop start bytes) others
kept_last bytes others start cut count le e =
    let both = drop-append-le start bytes others le in
    let size = ap length both in
    let long = length-drop start (bytes ++ others) in
    let place : cut ≡ length (drop start bytes ++ others) - count = omega (arith, e, size, long) in
    ap (λ (l : List ℕ). l ++ drop (start + cut) (bytes ++ others)) (take-append-le start bytes others le)
    ∙ ap (λ (l : List ℕ). take start bytes ++ l) (sym (drop-drop cut start (bytes ++ others)) ∙ ap (drop cut) both ∙ ap (λ (n : ℕ). drop n (drop start bytes ++ others)) place)

pub part_ended : (bytes : List ℕ) (start length : ℕ) (kind : PartKind) → (bytes ++ length_bytes length) ++ kind_bytes kind ≡ take start bytes ++ (drop start bytes ++ (length_bytes length ++ kind_bytes kind))
part_ended bytes start n kind =
    append_assoc bytes (length_bytes n) (kind_bytes kind)
    ∙ ap (λ (l : List ℕ). l ++ (length_bytes n ++ kind_bytes kind)) (sym (take-append-drop start bytes))
    ∙ append_assoc (take start bytes) (drop start bytes) (length_bytes n ++ kind_bytes kind)

pub place_same : (older rest payload : List ℕ) (k kind : PartKind) → older ≡ rest ++ part_bytes k payload → is_set kind ≡ false → same_kind k kind ≡ true
    → (length rest ≤ length rest + length payload) × (length rest + length payload ≤ length older)
    × ((q : List ℕ) → joined older kind q ≡ take (length rest) older ++ part_bytes kind (combined kind (drop (length rest) (take (length rest + length payload) older)) q))
place_same older rest payload k kind e d s =
    let tail = length_bytes (length payload) ++ kind_bytes k in
    let whole : older ≡ (rest ++ payload) ++ tail = e ∙ sym (append_assoc rest payload tail) in
    let both = length-append rest payload in
    let size = ap length whole ∙ length-append (rest ++ payload) tail in
    let front : take (length rest) older ≡ rest = ap (take (length rest)) e ∙ take_at rest (part_bytes k payload) (length rest) refl in
    let middle : drop (length rest) (take (length rest + length payload) older) ≡ payload =
    ap (λ (l : List ℕ). drop (length rest) (take (length rest + length payload) l)) whole
    ∙ ap (drop (length rest)) (take_at (rest ++ payload) tail (length rest + length payload) both)
    ∙ drop_at rest payload (length rest) refl in (
      omega arith,
      omega (arith, both, size),
      λ q.
          joined-same older kind q (record { kind = k; payload = payload; rest = rest }) d (ap cut e ∙ cut-part rest payload k) s
          ∙ ap (λ (l : List ℕ). l ++ part_bytes kind (combined kind payload q)) (sym front)
          ∙ ap (λ (l : List ℕ). take (length rest) older ++ part_bytes kind (combined kind l q)) (sym middle),
    )

spelled_full : (x : List ℕ) → 0 < length x → spelled_out x ≡ x
spelled_full [] lt = absurd (omega arith)
spelled_full (a ∷ x) lt = refl

pub place_other : (older rest payload : List ℕ) (k kind : PartKind) → older ≡ rest ++ part_bytes k payload → is_set kind ≡ false → same_kind k kind ≡ false
    → (q : List ℕ) → joined older kind q ≡ spelled_out older ++ part_bytes kind q
place_other older rest payload k kind e d s q =
    let c : cut older ≡ Some (record { kind = k; payload = payload; rest = rest }) = ap cut e ∙ cut-part rest payload k in
    let full : 0 < length older = let lt = cut-shorter older (record { kind = k; payload = payload; rest = rest }) c in omega (arith, lt) in
    joined-other older kind q (record { kind = k; payload = payload; rest = rest }) d c s ∙ ap (λ (l : List ℕ). l ++ part_bytes kind q) (sym (spelled_full older full))

-- the last part after it was combined
pub part_combined : (older both payload : List ℕ) (start end : ℕ) (kind : PartKind) → start ≤ end → end ≤ length older
    → both ≡ take start (take end older) ++ combined kind (drop start (take end older)) payload
    → take start both ++ part_bytes kind (drop start both) ≡ take start older ++ part_bytes kind (combined kind (drop start (take end older)) payload)
part_combined older both payload start end kind le within e =
    let short = length-take start (take end older) in
    let long = length-take end older in
    let size : length (take start (take end older)) ≡ start = omega (arith, short, long, le, within) in
    let x = combined kind (drop start (take end older)) payload in
    let front : take start both ≡ take start older = ap (take start) e ∙ take_at (take start (take end older)) x start size ∙ take-take start end older le in
    let back : drop start both ≡ x = ap (drop start) e ∙ drop_at (take start (take end older)) x start size in
    ap (λ (l : List ℕ). l ++ part_bytes kind (drop start both)) front ∙ ap (λ (l : List ℕ). take start older ++ part_bytes kind l) back

-- ---- the walk from the end of an operand to its first part

-- a part that ends at a place, and the bytes before it
pub parts_split : (operand rest part : List ℕ) (end : ℕ) → end ≤ length operand → take end operand ≡ rest ++ part
    → (take (length rest) operand ≡ rest) × (drop (length rest) operand ≡ part ++ drop end operand)
parts_split operand rest part end le e =
    let whole : operand ≡ rest ++ (part ++ drop end operand) =
    sym (take-append-drop end operand) ∙ ap (λ (l : List ℕ). l ++ drop end operand) e ∙ append_assoc rest part (drop end operand) in
    (ap (take (length rest)) whole ∙ take_at rest (part ++ drop end operand) (length rest) refl, ap (drop (length rest)) whole ∙ drop_at rest (part ++ drop end operand) (length rest) refl)

-- one part further
pub walked : (operand rest payload : List ℕ) (kind : PartKind) (end : ℕ) → end ≤ length operand → take end operand ≡ rest ++ part_bytes kind payload → 0 < length rest
    → ((x : List ℕ) → paired x operand ≡ paired x (take end operand) ++ drop end operand)
    → (x : List ℕ) → paired x operand ≡ paired x (take (length rest) operand) ++ drop (length rest) operand
walked operand rest payload kind end le e full follows x =
    let split = parts_split operand rest (part_bytes kind payload) end le e in
    let c : cut (take end operand) ≡ Some (record { kind = kind; payload = payload; rest = rest }) = ap cut e ∙ cut-part rest payload kind in
    follows x
    ∙ ap (λ (l : List ℕ). l ++ drop end operand) (pair-more x (take end operand) (record { kind = kind; payload = payload; rest = rest }) c full)
    ∙ append_assoc (paired x rest) (part_bytes kind payload) (drop end operand)
    ∙ ap (λ (l : List ℕ). paired x l ++ (part_bytes kind payload ++ drop end operand)) (sym split.0)
    ∙ ap (λ (l : List ℕ). paired x (take (length rest) operand) ++ l) (sym split.1)

-- at the first part
pub walked_first : (operand rest payload : List ℕ) (kind : PartKind) (end : ℕ) → take end operand ≡ rest ++ part_bytes kind payload → length rest ≡ 0
    → ((x : List ℕ) → paired x operand ≡ paired x (take end operand) ++ drop end operand)
    → (x : List ℕ) → paired x operand ≡ joined x kind payload ++ drop end operand
walked_first operand rest payload kind end e none follows x =
    let c : cut (take end operand) ≡ Some (record { kind = kind; payload = payload; rest = rest }) = ap cut e ∙ cut-part rest payload kind in
    follows x ∙ ap (λ (l : List ℕ). l ++ drop end operand) (pair-lone x (take end operand) (record { kind = kind; payload = payload; rest = rest }) c (nil_from_length rest none))

-- at bytes that end with no part
pub walked_bare : (operand : List ℕ) (end : ℕ) → cut (take end operand) ≡ None
    → ((x : List ℕ) → paired x operand ≡ paired x (take end operand) ++ drop end operand)
    → (x : List ℕ) → paired x operand ≡ operand
walked_bare operand end e follows x =
    follows x ∙ ap (λ (l : List ℕ). l ++ drop end operand) (pair-bare x (take end operand) e) ∙ take-append-drop end operand

pub rest_below : (operand rest payload : List ℕ) (kind : PartKind) (end : ℕ) → end ≤ length operand → take end operand ≡ rest ++ part_bytes kind payload → length rest < end
rest_below operand rest payload kind end le e =
    let c : cut (take end operand) ≡ Some (record { kind = kind; payload = payload; rest = rest }) = ap cut e ∙ cut-part rest payload kind in
    let lt = cut-shorter (take end operand) (record { kind = kind; payload = payload; rest = rest }) c in
    let size = length-take end operand in
    omega (arith, lt, size, le)
