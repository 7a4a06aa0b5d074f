-- The operator `mixed`: an operand applies its parts in turn, the first one first.
--
-- Bytes that are left before the first part replace the value, and so do bytes that end with no part: the bytes are then the value.
use Rattle.std.specs.Prelude.{◌≡◌, ℕ, ◌<◌, ◌≤◌, Bool, true, false, List, [], ◌∷◌, ◌++◌, length, Option, Some, None, if◌then◌else◌}
use Rattle.std.proofs.Common.{zero, suc, ap, ◌∙◌, sym, refl, arith, length-append}
use Rattle.std.proofs.lemmas.List.{nil_from_length}
use Rattle.uc_oper.specs.Operation.{Operation, IsLawful}
use Rattle.uc_mixed.specs.declared.part_kind.PartKind.{PartKind}
use Rattle.uc_mixed.specs.declared.part_kind.PartKind.TheVariants.{Set}
use Rattle.uc_mixed.specs.Kinds.{begun, combined, operation_lawful, same_kind, same_kind-equal, same_kind-own, is_set, is_set-equal}
use Rattle.uc_mixed.specs.Parts.{Cut, cut, part_bytes, cut-part, cut-shorter}

-- the value that a part makes of the one before it, or of none
abbrev pub applied : PartKind → List ℕ → Option (List ℕ) → List ℕ
applied kind payload None = begun kind payload
applied kind payload (Some value) = combined kind value payload

-- bytes before the first part are the value; none leave it as it is
abbrev pub front : Option (List ℕ) → List ℕ → Option (List ℕ)
front value [] = value
front value (a ∷ bytes) = Some (a ∷ bytes)

abbrev pub after_by : Option Cut → Option (List ℕ) → List ℕ → (List ℕ → Option (List ℕ)) → Option (List ℕ)
after_by None value bytes before = front value bytes
after_by (Some c) value bytes before = Some (applied c.kind c.payload (before c.rest))

-- the value after at most `n` parts at the end of some bytes
abbrev pub after_in : ℕ → Option (List ℕ) → List ℕ → Option (List ℕ)
after_in zero value bytes = front value bytes
after_in (suc n) value bytes = after_by (cut bytes) value bytes (λ rest. after_in n value rest)

-- the value after bytes that may be none
abbrev pub after : Option (List ℕ) → List ℕ → Option (List ℕ)
after value bytes = after_in (length bytes) value bytes

abbrev pub value_by : Option Cut → Option (List ℕ) → List ℕ → List ℕ
value_by None value operand = operand
value_by (Some c) value operand = applied c.kind c.payload (after value c.rest)

-- the value that an operand makes of a value, or of none
abbrev pub value_after : Option (List ℕ) → List ℕ → List ℕ
value_after value operand = value_by (cut operand) value operand

-- an operand that is no part, before a part: no bytes are spelled out
abbrev pub spelled_out : List ℕ → List ℕ
spelled_out [] = part_bytes Set []
spelled_out (a ∷ operand) = a ∷ operand

abbrev pub seam : Bool → Cut → List ℕ → PartKind → List ℕ → List ℕ
seam true c older kind payload = c.rest ++ part_bytes kind (combined kind c.payload payload)
seam false c older kind payload = older ++ part_bytes kind payload

abbrev pub joined_by : Option Cut → List ℕ → PartKind → List ℕ → List ℕ
joined_by None older kind payload = spelled_out older ++ part_bytes kind payload
joined_by (Some c) older kind payload = seam (same_kind c.kind kind) c older kind payload

-- an operand, and then a part: parts of one operator are combined, and a part that replaces the value replaces the operand
abbrev pub joined : List ℕ → PartKind → List ℕ → List ℕ
joined older kind payload = if is_set kind then part_bytes kind payload else joined_by (cut older) older kind payload

-- the first part, or the parts before another
abbrev pub placed : List ℕ → List ℕ → List ℕ → List ℕ → List ℕ
placed [] alone earlier part = alone
placed (a ∷ rest) alone earlier part = earlier ++ part

abbrev pub pair_by : Option Cut → List ℕ → List ℕ → (List ℕ → List ℕ) → List ℕ
pair_by None older newer before = newer
pair_by (Some c) older newer before = placed c.rest (joined older c.kind c.payload) (before c.rest) (part_bytes c.kind c.payload)

abbrev pub pair_in : ℕ → List ℕ → List ℕ → List ℕ
pair_in zero older newer = newer
pair_in (suc n) older newer = pair_by (cut newer) older newer (λ rest. pair_in n older rest)

-- an older operand and a newer one: the first part of the newer one is joined, and the others follow
abbrev pub paired : List ℕ → List ℕ → List ℕ
paired older newer = pair_in (length newer) older newer

abbrev pub mixed : Operation
mixed = record { first = value_after None; join = λ value operand. value_after (Some value) operand; pair = paired }

-- bytes as their end has it: no part, one part, or a part after others
pub data Ends : List ℕ → Type 0 where
  bare : (x : List ℕ) → cut x ≡ None → Ends x
  lone : (x : List ℕ) (c : Cut) → cut x ≡ Some c → c.rest ≡ [] → Ends x
  more : (x : List ℕ) (c : Cut) → cut x ≡ Some c → 0 < length c.rest → Ends c.rest → Ends x

ends_rest : (n : ℕ) (x : List ℕ) → length x ≤ suc n → (c : Cut) → cut x ≡ Some c → (r : List ℕ) → c.rest ≡ r → ((y : List ℕ) → length y ≤ n → Ends y) → Ends x
ends_rest n x le c e [] r rec = lone x c e r
ends_rest n x le c e (a ∷ rest) r rec =
    let lt = cut-shorter x c e in
    let some : 0 < length c.rest = let long = ap length r in omega (arith, long) in
    more x c e some (rec c.rest (omega (arith, lt, le)))

ends_cut : (n : ℕ) (x : List ℕ) → length x ≤ suc n → (o : Option Cut) → cut x ≡ o → ((y : List ℕ) → length y ≤ n → Ends y) → Ends x
ends_cut n x le None e rec = bare x e
ends_cut n x le (Some c) e rec = ends_rest n x le c e c.rest refl rec

ends_by : (n : ℕ) (x : List ℕ) → length x ≤ n → Ends x
ends_by zero x le = bare x (ap cut (nil_from_length x (omega arith)))
ends_by (suc n) x le = ends_cut n x le (cut x) refl (λ y h. ends_by n y h)

pub ends : (x : List ℕ) → Ends x
ends x = ends_by (length x) x (omega arith)

-- ---- equations of the recursions

mutual_after : (n m : ℕ) (v : Option (List ℕ)) (x : List ℕ) → ((c : Cut) → cut x ≡ Some c → after_in n v c.rest ≡ after_in m v c.rest)
    → (o : Option Cut) → cut x ≡ o → after_by o v x (λ rest. after_in n v rest) ≡ after_by o v x (λ rest. after_in m v rest)
mutual_after n m v x rec None e = refl
mutual_after n m v x rec (Some c) e = ap (λ (l : Option (List ℕ)). Some (applied c.kind c.payload l)) (rec c e)

after_enough : (n m : ℕ) (v : Option (List ℕ)) (x : List ℕ) → length x ≤ n → length x ≤ m → after_in n v x ≡ after_in m v x
after_enough zero zero v x p q = refl
after_enough zero (suc m) v x p q = let e : x ≡ [] = nil_from_length x (omega arith) in ap (after_in zero v) e ∙ sym (ap (after_in (suc m) v) e)
after_enough (suc n) zero v x p q = let e : x ≡ [] = nil_from_length x (omega arith) in ap (after_in (suc n) v) e ∙ sym (ap (after_in zero v) e)
after_enough (suc n) (suc m) v x p q =
    mutual_after n m v x (λ c e. let lt = cut-shorter x c e in after_enough n m v c.rest (omega (arith, lt, p)) (omega (arith, lt, q))) (cut x) refl

pub after-cut : (v : Option (List ℕ)) (x : List ℕ) (c : Cut) → cut x ≡ Some c → after v x ≡ Some (applied c.kind c.payload (after v c.rest))
after-cut v x c e =
    let lt = cut-shorter x c e in
    after_enough (length x) (suc (length x)) v x (omega arith) (omega arith)
    ∙ ap (λ (o : Option Cut). after_by o v x (λ rest. after_in (length x) v rest)) e
    ∙ ap (λ (l : Option (List ℕ)). Some (applied c.kind c.payload l)) (after_enough (length x) (length c.rest) v c.rest (omega (arith, lt)) (omega arith))

pub after-none : (v : Option (List ℕ)) (x : List ℕ) → cut x ≡ None → after v x ≡ front v x
after-none v x e = after_enough (length x) (suc (length x)) v x (omega arith) (omega arith) ∙ ap (λ (o : Option Cut). after_by o v x (λ rest. after_in (length x) v rest)) e

pub value-cut : (v : Option (List ℕ)) (x : List ℕ) (c : Cut) → cut x ≡ Some c → value_after v x ≡ applied c.kind c.payload (after v c.rest)
value-cut v x c e = ap (λ (o : Option Cut). value_by o v x) e

pub value-none : (v : Option (List ℕ)) (x : List ℕ) → cut x ≡ None → value_after v x ≡ x
value-none v x e = ap (λ (o : Option Cut). value_by o v x) e

front-full : (v : Option (List ℕ)) (x : List ℕ) → 0 < length x → front v x ≡ Some x
front-full v [] lt = absurd (omega arith)
front-full v (a ∷ x) lt = refl

full_by : (v : Option (List ℕ)) (x : List ℕ) → 0 < length x → (o : Option Cut) → cut x ≡ o → after v x ≡ Some (value_after v x)
full_by v x lt None e = after-none v x e ∙ front-full v x lt ∙ ap Some (sym (value-none v x e))
full_by v x lt (Some c) e = after-cut v x c e ∙ ap Some (sym (value-cut v x c e))

pub after-full : (v : Option (List ℕ)) (x : List ℕ) → 0 < length x → after v x ≡ Some (value_after v x)
after-full v x lt = full_by v x lt (cut x) refl

pub after-part : (v : Option (List ℕ)) (rest : List ℕ) (kind : PartKind) (payload : List ℕ) → value_after v (rest ++ part_bytes kind payload) ≡ applied kind payload (after v rest)
after-part v rest kind payload = value-cut v (rest ++ part_bytes kind payload) (record { kind = kind; payload = payload; rest = rest }) (cut-part rest payload kind)

mutual_pair : (n m : ℕ) (x y : List ℕ) → ((c : Cut) → cut y ≡ Some c → pair_in n x c.rest ≡ pair_in m x c.rest)
    → (o : Option Cut) → cut y ≡ o → pair_by o x y (λ rest. pair_in n x rest) ≡ pair_by o x y (λ rest. pair_in m x rest)
mutual_pair n m x y rec None e = refl
mutual_pair n m x y rec (Some c) e = ap (λ (l : List ℕ). placed c.rest (joined x c.kind c.payload) l (part_bytes c.kind c.payload)) (rec c e)

pair_enough : (n m : ℕ) (x y : List ℕ) → length y ≤ n → length y ≤ m → pair_in n x y ≡ pair_in m x y
pair_enough zero zero x y p q = refl
pair_enough zero (suc m) x y p q = let e : y ≡ [] = nil_from_length y (omega arith) in ap (pair_in zero x) e ∙ sym (ap (pair_in (suc m) x) e)
pair_enough (suc n) zero x y p q = let e : y ≡ [] = nil_from_length y (omega arith) in ap (pair_in (suc n) x) e ∙ sym (ap (pair_in zero x) e)
pair_enough (suc n) (suc m) x y p q =
    mutual_pair n m x y (λ c e. let lt = cut-shorter y c e in pair_enough n m x c.rest (omega (arith, lt, p)) (omega (arith, lt, q))) (cut y) refl

pair-cut : (x y : List ℕ) (c : Cut) → cut y ≡ Some c → paired x y ≡ placed c.rest (joined x c.kind c.payload) (paired x c.rest) (part_bytes c.kind c.payload)
pair-cut x y c e =
    let lt = cut-shorter y c e in
    pair_enough (length y) (suc (length y)) x y (omega arith) (omega arith)
    ∙ ap (λ (o : Option Cut). pair_by o x y (λ rest. pair_in (length y) x rest)) e
    ∙ ap (λ (l : List ℕ). placed c.rest (joined x c.kind c.payload) l (part_bytes c.kind c.payload)) (pair_enough (length y) (length c.rest) x c.rest (omega (arith, lt)) (omega arith))

pub pair-bare : (x y : List ℕ) → cut y ≡ None → paired x y ≡ y
pair-bare x y e = pair_enough (length y) (suc (length y)) x y (omega arith) (omega arith) ∙ ap (λ (o : Option Cut). pair_by o x y (λ rest. pair_in (length y) x rest)) e

pub pair-lone : (x y : List ℕ) (c : Cut) → cut y ≡ Some c → c.rest ≡ [] → paired x y ≡ joined x c.kind c.payload
pair-lone x y c e r = pair-cut x y c e ∙ ap (λ (l : List ℕ). placed l (joined x c.kind c.payload) (paired x c.rest) (part_bytes c.kind c.payload)) r

placed-more : (r alone earlier part : List ℕ) → 0 < length r → placed r alone earlier part ≡ earlier ++ part
placed-more [] alone earlier part lt = absurd (omega arith)
placed-more (a ∷ r) alone earlier part lt = refl

pub pair-more : (x y : List ℕ) (c : Cut) → cut y ≡ Some c → 0 < length c.rest → paired x y ≡ paired x c.rest ++ part_bytes c.kind c.payload
pair-more x y c e lt = pair-cut x y c e ∙ placed-more c.rest (joined x c.kind c.payload) (paired x c.rest) (part_bytes c.kind c.payload) lt

-- the same for bytes that end with a part
part_alone : (x : List ℕ) (kind : PartKind) (payload : List ℕ) → paired x (part_bytes kind payload) ≡ joined x kind payload
part_alone x kind payload = pair-lone x (part_bytes kind payload) (record { kind = kind; payload = payload; rest = [] }) (cut-part [] payload kind) refl

part_after : (x rest : List ℕ) (kind : PartKind) (payload : List ℕ) → 0 < length rest → paired x (rest ++ part_bytes kind payload) ≡ paired x rest ++ part_bytes kind payload
part_after x rest kind payload lt = pair-more x (rest ++ part_bytes kind payload) (record { kind = kind; payload = payload; rest = rest }) (cut-part rest payload kind) lt

-- ---- lengths

part_full : (kind : PartKind) (payload : List ℕ) → 0 < length (part_bytes kind payload)
part_full kind payload = let e = cut-shorter (part_bytes kind payload) (record { kind = kind; payload = payload; rest = [] }) (cut-part [] payload kind) in omega (arith, e)

rest_full : (rest : List ℕ) (kind : PartKind) (payload : List ℕ) → 0 < length (rest ++ part_bytes kind payload)
rest_full rest kind payload = let e = length-append rest (part_bytes kind payload) in let f = part_full kind payload in omega (arith, e, f)

-- ---- equations of `joined`

pub joined-set : (x : List ℕ) (k : PartKind) (q : List ℕ) → is_set k ≡ true → joined x k q ≡ part_bytes k q
joined-set x k q e = ap (λ (b : Bool). if b then part_bytes k q else joined_by (cut x) x k q) e

pub joined-none : (x : List ℕ) (k : PartKind) (q : List ℕ) → is_set k ≡ false → cut x ≡ None → joined x k q ≡ spelled_out x ++ part_bytes k q
joined-none x k q e n = ap (λ (b : Bool). if b then part_bytes k q else joined_by (cut x) x k q) e ∙ ap (λ (o : Option Cut). joined_by o x k q) n

joined-some : (x : List ℕ) (k : PartKind) (q : List ℕ) (c : Cut) (b : Bool) → is_set k ≡ false → cut x ≡ Some c → same_kind c.kind k ≡ b → joined x k q ≡ seam b c x k q
joined-some x k q c b e n s = ap (λ (b : Bool). if b then part_bytes k q else joined_by (cut x) x k q) e ∙ ap (λ (o : Option Cut). joined_by o x k q) n ∙ ap (λ (b : Bool). seam b c x k q) s

pub joined-same : (x : List ℕ) (k : PartKind) (q : List ℕ) (c : Cut) → is_set k ≡ false → cut x ≡ Some c → same_kind c.kind k ≡ true → joined x k q ≡ c.rest ++ part_bytes k (combined k c.payload q)
joined-same x k q c e n s = joined-some x k q c true e n s

pub joined-other : (x : List ℕ) (k : PartKind) (q : List ℕ) (c : Cut) → is_set k ≡ false → cut x ≡ Some c → same_kind c.kind k ≡ false → joined x k q ≡ x ++ part_bytes k q
joined-other x k q c e n s = joined-some x k q c false e n s

-- after a part of the same operator
joined_same : (rest : List ℕ) (k : PartKind) (p q : List ℕ) → is_set k ≡ false → joined (rest ++ part_bytes k p) k q ≡ rest ++ part_bytes k (combined k p q)
joined_same rest k p q e = joined-same (rest ++ part_bytes k p) k q (record { kind = k; payload = p; rest = rest }) e (cut-part rest p k) (same_kind-own k)

-- after a part of another one
joined_other : (rest : List ℕ) (l k : PartKind) (p q : List ℕ) → is_set k ≡ false → same_kind l k ≡ false → joined (rest ++ part_bytes l p) k q ≡ (rest ++ part_bytes l p) ++ part_bytes k q
joined_other rest l k p q e s = joined-other (rest ++ part_bytes l p) k q (record { kind = l; payload = p; rest = rest }) e (cut-part rest p l) s

joined_full_by : (x : List ℕ) (k : PartKind) (q : List ℕ) (c : Cut) (b : Bool) → 0 < length (seam b c x k q)
joined_full_by x k q c true = rest_full c.rest k (combined k c.payload q)
joined_full_by x k q c false = rest_full x k q

joined_full_cut : (x : List ℕ) (k : PartKind) (q : List ℕ) (o : Option Cut) → 0 < length (joined_by o x k q)
joined_full_cut x k q None = rest_full (spelled_out x) k q
joined_full_cut x k q (Some c) = joined_full_by x k q c (same_kind c.kind k)

joined_full_set : (x : List ℕ) (k : PartKind) (q : List ℕ) (b : Bool) → 0 < length (if b then part_bytes k q else joined_by (cut x) x k q)
joined_full_set x k q true = part_full k q
joined_full_set x k q false = joined_full_cut x k q (cut x)

joined_full : (x : List ℕ) (k : PartKind) (q : List ℕ) → 0 < length (joined x k q)
joined_full x k q = joined_full_set x k q (is_set k)

-- ---- the value after a joined part

applied-combined : (k : PartKind) (p q : List ℕ) (v : Option (List ℕ)) → applied k (combined k p q) v ≡ combined k (applied k p v) q
applied-combined k p q None = (operation_lawful k).first_pair p q
applied-combined k p q (Some b) = (operation_lawful k).join_pair b p q

set_applied : (q : List ℕ) (v : Option (List ℕ)) → applied Set q v ≡ q
set_applied q None = refl
set_applied q (Some b) = refl

applied-set : (k : PartKind) (q : List ℕ) (v : Option (List ℕ)) (w : List ℕ) → is_set k ≡ true → applied k q v ≡ combined k w q
applied-set k q v w e =
    let s : k ≡ Set = is_set-equal k e in
    ap (λ (l : PartKind). applied l q v) s ∙ set_applied q v ∙ sym (ap (λ (l : PartKind). combined l w q) s)

spelled-value : (v : Option (List ℕ)) (x : List ℕ) → cut x ≡ None → after v (spelled_out x) ≡ Some (value_after v x)
spelled-value v [] e = after-full v (part_bytes Set []) (part_full Set []) ∙ ap Some (after-part v [] Set [] ∙ set_applied [] (after v []))
spelled-value v (a ∷ x) e = after-full v (a ∷ x) (omega arith)

cut_full : (x : List ℕ) (c : Cut) → cut x ≡ Some c → 0 < length x
cut_full x c e = let lt = cut-shorter x c e in omega (arith, lt)

value_joined_by : (v : Option (List ℕ)) (x : List ℕ) (k : PartKind) (q : List ℕ) → is_set k ≡ false → (c : Cut) → cut x ≡ Some c → (b : Bool) → same_kind c.kind k ≡ b
    → value_after v (joined x k q) ≡ combined k (value_after v x) q
value_joined_by v x k q e c n true s =
    ap (value_after v) (joined-same x k q c e n s)
    ∙ after-part v c.rest k (combined k c.payload q)
    ∙ applied-combined k c.payload q (after v c.rest)
    ∙ ap (λ (l : List ℕ). combined k l q) (sym (value-cut v x c n ∙ ap (λ (l : PartKind). applied l c.payload (after v c.rest)) (same_kind-equal c.kind k s)))
value_joined_by v x k q e c n false s =
    ap (value_after v) (joined-other x k q c e n s)
    ∙ after-part v x k q
    ∙ ap (applied k q) (after-full v x (cut_full x c n))

value_joined_cut : (v : Option (List ℕ)) (x : List ℕ) (k : PartKind) (q : List ℕ) → is_set k ≡ false → (o : Option Cut) → cut x ≡ o
    → value_after v (joined x k q) ≡ combined k (value_after v x) q
value_joined_cut v x k q e None n = ap (value_after v) (joined-none x k q e n) ∙ after-part v (spelled_out x) k q ∙ ap (applied k q) (spelled-value v x n)
value_joined_cut v x k q e (Some c) n = value_joined_by v x k q e c n (same_kind c.kind k) refl

value_joined_set : (v : Option (List ℕ)) (x : List ℕ) (k : PartKind) (q : List ℕ) (b : Bool) → is_set k ≡ b → value_after v (joined x k q) ≡ combined k (value_after v x) q
value_joined_set v x k q true e = ap (value_after v) (joined-set x k q e) ∙ after-part v [] k q ∙ applied-set k q (after v []) (value_after v x) e
value_joined_set v x k q false e = value_joined_cut v x k q e (cut x) refl

value-joined : (v : Option (List ℕ)) (x : List ℕ) (k : PartKind) (q : List ℕ) → value_after v (joined x k q) ≡ combined k (value_after v x) q
value-joined v x k q = value_joined_set v x k q (is_set k) refl

-- ---- the laws

pair_full : (x y : List ℕ) → Ends y → 0 < length y → 0 < length (paired x y)
pair_full x _ (bare y e) lt = let f = ap length (pair-bare x y e) in omega (arith, f, lt)
pair_full x _ (lone y c e r) lt = let f = ap length (pair-lone x y c e r) in let g = joined_full x c.kind c.payload in omega (arith, f, g)
pair_full x _ (more y c e s rec) lt = let f = ap length (pair-more x y c e s) in let g = rest_full (paired x c.rest) c.kind c.payload in omega (arith, f, g)

value_pair_by : (v : Option (List ℕ)) (x y : List ℕ) → Ends y → value_after v (paired x y) ≡ value_after (Some (value_after v x)) y
value_pair_by v x _ (bare y e) = ap (value_after v) (pair-bare x y e) ∙ value-none v y e ∙ sym (value-none (Some (value_after v x)) y e)
value_pair_by v x _ (lone y c e r) =
    ap (value_after v) (pair-lone x y c e r)
    ∙ value-joined v x c.kind c.payload
    ∙ sym (value-cut (Some (value_after v x)) y c e ∙ ap (λ (l : List ℕ). applied c.kind c.payload (after (Some (value_after v x)) l)) r)
value_pair_by v x _ (more y c e s rec) =
    ap (value_after v) (pair-more x y c e s)
    ∙ after-part v (paired x c.rest) c.kind c.payload
    ∙ ap (applied c.kind c.payload) (after-full v (paired x c.rest) (pair_full x c.rest rec s) ∙ ap Some (value_pair_by v x c.rest rec) ∙ sym (after-full (Some (value_after v x)) c.rest s))
    ∙ sym (value-cut (Some (value_after v x)) y c e)

pub value-pair : (v : Option (List ℕ)) (x y : List ℕ) → value_after v (paired x y) ≡ value_after (Some (value_after v x)) y
value-pair v x y = value_pair_by v x y (ends y)

-- a part that is joined twice with parts of its operator
again_by : (x : List ℕ) (k : PartKind) (p q : List ℕ) → is_set k ≡ false → (c : Cut) → cut x ≡ Some c → (b : Bool) → same_kind c.kind k ≡ b
    → joined (joined x k p) k q ≡ joined x k (combined k p q)
again_by x k p q e c n true s =
    ap (λ (l : List ℕ). joined l k q) (joined-same x k p c e n s)
    ∙ joined_same c.rest k (combined k c.payload p) q e
    ∙ ap (λ (l : List ℕ). c.rest ++ part_bytes k l) ((operation_lawful k).pair_assoc c.payload p q)
    ∙ sym (joined-same x k (combined k p q) c e n s)
again_by x k p q e c n false s =
    ap (λ (l : List ℕ). joined l k q) (joined-other x k p c e n s) ∙ joined_same x k p q e ∙ sym (joined-other x k (combined k p q) c e n s)

again : (x : List ℕ) (k : PartKind) (p q : List ℕ) → is_set k ≡ false → (o : Option Cut) → cut x ≡ o → joined (joined x k p) k q ≡ joined x k (combined k p q)
again x k p q e None n =
    ap (λ (l : List ℕ). joined l k q) (joined-none x k p e n) ∙ joined_same (spelled_out x) k p q e ∙ sym (joined-none x k (combined k p q) e n)
again x k p q e (Some c) n = again_by x k p q e c n (same_kind c.kind k) refl

-- a part that is joined after one of another operator
apart_by : (x : List ℕ) (l k : PartKind) (p q : List ℕ) → is_set l ≡ false → is_set k ≡ false → same_kind l k ≡ false → (c : Cut) → cut x ≡ Some c → (b : Bool) → same_kind c.kind l ≡ b
    → joined (joined x l p) k q ≡ joined x l p ++ part_bytes k q
apart_by x l k p q d e s c n true t = let f = joined-same x l p c d n t in
    ap (λ (y : List ℕ). joined y k q) f ∙ joined_other c.rest l k (combined l c.payload p) q e s ∙ sym (ap (λ (y : List ℕ). y ++ part_bytes k q) f)
apart_by x l k p q d e s c n false t = let f = joined-other x l p c d n t in
    ap (λ (y : List ℕ). joined y k q) f ∙ joined_other x l k p q e s ∙ sym (ap (λ (y : List ℕ). y ++ part_bytes k q) f)

apart_cut : (x : List ℕ) (l k : PartKind) (p q : List ℕ) → is_set l ≡ false → is_set k ≡ false → same_kind l k ≡ false → (o : Option Cut) → cut x ≡ o
    → joined (joined x l p) k q ≡ joined x l p ++ part_bytes k q
apart_cut x l k p q d e s None n = let f = joined-none x l p d n in
    ap (λ (y : List ℕ). joined y k q) f ∙ joined_other (spelled_out x) l k p q e s ∙ sym (ap (λ (y : List ℕ). y ++ part_bytes k q) f)
apart_cut x l k p q d e s (Some c) n = apart_by x l k p q d e s c n (same_kind c.kind l) refl

apart : (x : List ℕ) (l k : PartKind) (p q : List ℕ) (b : Bool) → is_set l ≡ b → is_set k ≡ false → same_kind l k ≡ false → joined (joined x l p) k q ≡ joined x l p ++ part_bytes k q
apart x l k p q true d e s = let f = joined-set x l p d in
    ap (λ (y : List ℕ). joined y k q) f ∙ joined_other [] l k p q e s ∙ sym (ap (λ (y : List ℕ). y ++ part_bytes k q) f)
apart x l k p q false d e s = apart_cut x l k p q d e s (cut x) refl

-- a part that is joined to a pair is joined to the newer operand
module _ (x : List ℕ) (k : PartKind) (q : List ℕ) (e : is_set k ≡ false) where
  bare_pair : (y : List ℕ) → cut y ≡ None → paired x (spelled_out y) ≡ spelled_out y
  bare_pair [] n = part_alone x Set [] ∙ joined-set x Set [] refl
  bare_pair (a ∷ y) n = pair-bare x (a ∷ y) n

  spelled_full : (y : List ℕ) → 0 < length (spelled_out y)
  spelled_full [] = part_full Set []
  spelled_full (a ∷ y) = omega arith

  seam_bare : (y : List ℕ) → cut y ≡ None → joined (paired x y) k q ≡ paired x (joined y k q)
  seam_bare y n =
      ap (λ (l : List ℕ). joined l k q) (pair-bare x y n)
      ∙ joined-none y k q e n
      ∙ sym (ap (paired x) (joined-none y k q e n) ∙ part_after x (spelled_out y) k q (spelled_full y) ∙ ap (λ (l : List ℕ). l ++ part_bytes k q) (bare_pair y n))

  seam_lone : (y : List ℕ) (c : Cut) → cut y ≡ Some c → c.rest ≡ [] → (b : Bool) → same_kind c.kind k ≡ b → joined (paired x y) k q ≡ paired x (joined y k q)
  seam_lone y c n r true s =
      ap (λ (l : List ℕ). joined l k q) (pair-lone x y c n r ∙ ap (λ (l : PartKind). joined x l c.payload) (same_kind-equal c.kind k s))
      ∙ again x k c.payload q e (cut x) refl
      ∙ sym (ap (paired x) (joined-same y k q c e n s ∙ ap (λ (l : List ℕ). l ++ part_bytes k (combined k c.payload q)) r) ∙ part_alone x k (combined k c.payload q))
  seam_lone y c n r false s =
      ap (λ (l : List ℕ). joined l k q) (pair-lone x y c n r)
      ∙ apart x c.kind k c.payload q (is_set c.kind) refl e s
      ∙ sym (ap (paired x) (joined-other y k q c e n s) ∙ part_after x y k q (cut_full y c n) ∙ ap (λ (l : List ℕ). l ++ part_bytes k q) (pair-lone x y c n r))

  seam_more : (y : List ℕ) (c : Cut) → cut y ≡ Some c → 0 < length c.rest → (b : Bool) → same_kind c.kind k ≡ b → joined (paired x y) k q ≡ paired x (joined y k q)
  seam_more y c n r true s =
      ap (λ (l : List ℕ). joined l k q) (pair-more x y c n r ∙ ap (λ (l : PartKind). paired x c.rest ++ part_bytes l c.payload) (same_kind-equal c.kind k s))
      ∙ joined_same (paired x c.rest) k c.payload q e
      ∙ sym (ap (paired x) (joined-same y k q c e n s) ∙ part_after x c.rest k (combined k c.payload q) r)
  seam_more y c n r false s =
      ap (λ (l : List ℕ). joined l k q) (pair-more x y c n r)
      ∙ joined_other (paired x c.rest) c.kind k c.payload q e s
      ∙ sym (ap (paired x) (joined-other y k q c e n s) ∙ part_after x y k q (cut_full y c n) ∙ ap (λ (l : List ℕ). l ++ part_bytes k q) (pair-more x y c n r))

  seam_ends : (y : List ℕ) → Ends y → joined (paired x y) k q ≡ paired x (joined y k q)
  seam_ends _ (bare y n) = seam_bare y n
  seam_ends _ (lone y c n r) = seam_lone y c n r (same_kind c.kind k) refl
  seam_ends _ (more y c n r rec) = seam_more y c n r (same_kind c.kind k) refl

joined_pair : (x y : List ℕ) (k : PartKind) (q : List ℕ) (b : Bool) → is_set k ≡ b → joined (paired x y) k q ≡ paired x (joined y k q)
joined_pair x y k q true e = joined-set (paired x y) k q e ∙ sym (ap (paired x) (joined-set y k q e) ∙ part_alone x k q ∙ joined-set x k q e)
joined_pair x y k q false e = seam_ends x k q e y (ends y)

pair_assoc_by : (x y z : List ℕ) → Ends z → paired (paired x y) z ≡ paired x (paired y z)
pair_assoc_by x y _ (bare z e) = pair-bare (paired x y) z e ∙ sym (ap (paired x) (pair-bare y z e) ∙ pair-bare x z e)
pair_assoc_by x y _ (lone z c e r) =
    pair-lone (paired x y) z c e r ∙ joined_pair x y c.kind c.payload (is_set c.kind) refl ∙ sym (ap (paired x) (pair-lone y z c e r))
pair_assoc_by x y _ (more z c e s rec) =
    pair-more (paired x y) z c e s
    ∙ ap (λ (l : List ℕ). l ++ part_bytes c.kind c.payload) (pair_assoc_by x y c.rest rec)
    ∙ sym (ap (paired x) (pair-more y z c e s) ∙ part_after x (paired y c.rest) c.kind c.payload (pair_full y c.rest rec s))

pub pair_assoc : (x y z : List ℕ) → paired (paired x y) z ≡ paired x (paired y z)
pair_assoc x y z = pair_assoc_by x y z (ends z)

pub mixed_lawful : IsLawful mixed
mixed_lawful = record { join_pair = λ b x y. value-pair (Some b) x y; first_pair = λ x y. value-pair None x y; pair_assoc = pair_assoc }
