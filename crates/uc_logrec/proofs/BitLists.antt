-- Sums of bit lists.
use mathlib.Core.Bool.{xor}
use Rattle.std.proofs.Common.{◌≡◌, ℕ, zero, suc, ◌+◌, ◌≤◌, Bool, true, false, List, [], ◌∷◌, ◌++◌, length, refl, sym, ap, ap₂, ◌∙◌, append-nil, arith}
use Rattle.std.proofs.lemmas.List.{length-replicate, replicate-append-replicate}
use Rattle.uc_logrec.specs.Bits.{zeros}
use Rattle.uc_logrec.specs.Division.{xor_bits}

xor_assoc : (x y z : Bool) → xor (xor x y) z ≡ xor x (xor y z)
unfolding xor
xor_assoc true true true = refl
xor_assoc true true false = refl
xor_assoc true false true = refl
xor_assoc true false false = refl
xor_assoc false true true = refl
xor_assoc false true false = refl
xor_assoc false false true = refl
xor_assoc false false false = refl

xor_comm : (x y : Bool) → xor x y ≡ xor y x
unfolding xor
xor_comm true true = refl
xor_comm true false = refl
xor_comm false true = refl
xor_comm false false = refl

xor_twice : (x y : Bool) → xor x (xor x y) ≡ y
unfolding xor
xor_twice true true = refl
xor_twice true false = refl
xor_twice false true = refl
xor_twice false false = refl

xor-false : (y : Bool) → xor false y ≡ y
unfolding xor
xor-false true = refl
xor-false false = refl

pub xor_bits-nil_left : (ys : List Bool) → xor_bits [] ys ≡ ys
unfolding xor_bits
xor_bits-nil_left ys = refl

pub xor_bits_comm : (xs ys : List Bool) → xor_bits xs ys ≡ xor_bits ys xs
unfolding xor_bits
xor_bits_comm [] [] = refl
xor_bits_comm [] (y ∷ ys) = refl
xor_bits_comm (x ∷ xs) [] = refl
xor_bits_comm (x ∷ xs) (y ∷ ys) = ap₂ (λ (b : Bool) (bs : List Bool). b ∷ bs) (xor_comm x y) (xor_bits_comm xs ys)

pub xor_bits_assoc : (xs ys zs : List Bool) → xor_bits (xor_bits xs ys) zs ≡ xor_bits xs (xor_bits ys zs)
unfolding xor_bits
xor_bits_assoc [] ys zs = refl
xor_bits_assoc (x ∷ xs) [] zs = refl
xor_bits_assoc (x ∷ xs) (y ∷ ys) [] = refl
xor_bits_assoc (x ∷ xs) (y ∷ ys) (z ∷ zs) = ap₂ (λ (b : Bool) (bs : List Bool). b ∷ bs) (xor_assoc x y z) (xor_bits_assoc xs ys zs)

pub xor_bits_left_comm : (xs ys zs : List Bool) → xor_bits xs (xor_bits ys zs) ≡ xor_bits ys (xor_bits xs zs)
xor_bits_left_comm xs ys zs = sym (xor_bits_assoc xs ys zs) ∙ ap (λ (bs : List Bool). xor_bits bs zs) (xor_bits_comm xs ys) ∙ xor_bits_assoc ys xs zs

-- what is added twice is gone
pub xor_bits_twice : (xs ys : List Bool) → length xs ≤ length ys → xor_bits xs (xor_bits xs ys) ≡ ys
unfolding xor_bits
xor_bits_twice [] ys le = refl
xor_bits_twice (x ∷ xs) [] le = absurd (omega arith)
xor_bits_twice (x ∷ xs) (y ∷ ys) le = ap₂ (λ (b : Bool) (bs : List Bool). b ∷ bs) (xor_twice x y) (xor_bits_twice xs ys (omega arith))

pub length-xor_bits : (xs ys : List Bool) → length xs ≤ length ys → length (xor_bits xs ys) ≡ length ys
unfolding xor_bits
length-xor_bits [] ys le = refl
length-xor_bits (x ∷ xs) [] le = absurd (omega arith)
length-xor_bits (x ∷ xs) (y ∷ ys) le = ap suc (length-xor_bits xs ys (omega arith))

-- to add zeros changes nothing
pub xor_bits-zeros : (n : ℕ) (ys : List Bool) → n ≤ length ys → xor_bits (zeros n) ys ≡ ys
unfolding xor_bits zeros
xor_bits-zeros zero ys le = refl
xor_bits-zeros (suc n) [] le = absurd (omega arith)
xor_bits-zeros (suc n) (y ∷ ys) le = ap₂ (λ (b : Bool) (bs : List Bool). b ∷ bs) (xor-false y) (xor_bits-zeros n ys (omega arith))

-- lists whose fronts have one length are added part by part
pub xor_bits-append : (ps qs cs ds : List Bool) → length ps ≡ length cs → xor_bits (ps ++ qs) (cs ++ ds) ≡ xor_bits ps cs ++ xor_bits qs ds
unfolding xor_bits
xor_bits-append [] qs [] ds e = refl
xor_bits-append [] qs (c ∷ cs) ds e = absurd (omega arith)
xor_bits-append (a ∷ ps) qs [] ds e = absurd (omega arith)
xor_bits-append (a ∷ ps) qs (c ∷ cs) ds e = ap (λ (xs : List Bool). xor a c ∷ xs) (xor_bits-append ps qs cs ds (omega arith))

pub length-zeros : (n : ℕ) → length (zeros n) ≡ n
unfolding zeros
length-zeros n = length-replicate n false

pub zeros-add : (m n : ℕ) → zeros (m + n) ≡ zeros m ++ zeros n
unfolding zeros
zeros-add m n = sym (replicate-append-replicate m n false)

-- zeros after a list don't change it, except for its length
pub xor_bits-zeros_more : (bits : List Bool) (n : ℕ) → xor_bits bits (zeros (length bits + n)) ≡ bits ++ zeros n
xor_bits-zeros_more bits n =
    let m = length bits in
    ap₂ xor_bits (sym (append-nil bits)) (zeros-add m n)
    ∙ xor_bits-append bits [] (zeros m) (zeros n) (sym (length-zeros m))
    ∙ ap₂ (λ (ps qs : List Bool). ps ++ qs) (xor_bits_comm bits (zeros m) ∙ xor_bits-zeros m bits (omega arith)) (xor_bits-nil_left (zeros n))

-- a list in two parts is the sum of the two, each with zeros in the other's place
pub parts_sum : (front rest : List Bool) (n k : ℕ) → length front ≡ n → k ≤ length rest → front ++ rest ≡ xor_bits (front ++ zeros k) (zeros n ++ rest)
parts_sum front rest n k e le =
    let over_front = xor_bits_comm front (zeros n) ∙ xor_bits-zeros n front (omega arith) in
    let apart = xor_bits-append front (zeros k) (zeros n) rest (e ∙ sym (length-zeros n)) in
    sym (apart ∙ ap₂ (λ (ps qs : List Bool). ps ++ qs) over_front (xor_bits-zeros k rest le))
