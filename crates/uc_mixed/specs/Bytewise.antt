-- Byte strings combined byte by byte: the shorter one is filled with zeros.
use Rattle.std.specs.Prelude.{◌≡◌, ℕ, ◌<◌, List, length, map, max, bit_and, bit_or, bit_xor}
use Rattle.std.specs.List.{range_with_len}
use Rattle.std.proofs.Common.{ap, ◌∙◌, sym, refl, inl, inr, arith, get_or}
use Rattle.std.proofs.lemmas.Bool.{cases_lt}
use Rattle.std.proofs.lemmas.List.{same_lists, get_or_past, get_or_default}
use Rattle.std.proofs.lemmas.List.FromFn.{length-map-range_with_len, get_or-map-range_with_len}
use Rattle.std.proofs.lemmas.Nat.{and_assoc}
use Rattle.std.proofs.lemmas.Nat.Bits.{bit_at_or, same_from_bits}
use Rattle.std.specs.Int.{bit_at}
use Rattle.std.specs.Int.Bits.{xor_assoc}

-- the byte at a place, or 0 past the end
abbrev pub byte_at : List ℕ → ℕ → ℕ
byte_at x i = get_or x i 0

-- a function of the bytes at each place, as long as the longer byte string
abbrev pub bytewise : (ℕ → ℕ → ℕ) → List ℕ → List ℕ → List ℕ
bytewise f x y = map (λ i. f (byte_at x i) (byte_at y i)) (range_with_len 0 (max (length x) (length y)))

module _ (f : ℕ → ℕ → ℕ) (zeros : f 0 0 ≡ 0) (assoc : (a b c : ℕ) → f (f a b) c ≡ f a (f b c)) where
  length-bytewise : (x y : List ℕ) → length (bytewise f x y) ≡ max (length x) (length y)
  length-bytewise x y = length-map-range_with_len (λ i. f (byte_at x i) (byte_at y i)) 0 (max (length x) (length y))

  byte_at-bytewise : (x y : List ℕ) (i : ℕ) → byte_at (bytewise f x y) i ≡ f (byte_at x i) (byte_at y i)
  byte_at-bytewise x y i =
      elim (cases_lt i (max (length x) (length y))) [
        | inl lt ↦ get_or-map-range_with_len (λ k. f (byte_at x k) (byte_at y k)) 0 (max (length x) (length y)) i i 0 lt (omega arith)
        | inr le ↦
            let past : byte_at (bytewise f x y) i ≡ 0 = let e = length-bytewise x y in get_or_past (bytewise f x y) i 0 (omega (arith, e, le)) in
            let left : byte_at x i ≡ 0 = get_or_past x i 0 (omega (arith, le)) in
            let right : byte_at y i ≡ 0 = get_or_past y i 0 (omega (arith, le)) in
            past ∙ sym zeros ∙ sym (ap (λ (a : ℕ). f a (byte_at y i)) left ∙ ap (f 0) right)
      ]

  same_bytes : (x y : List ℕ) → length x ≡ length y → ((i : ℕ) → byte_at x i ≡ byte_at y i) → x ≡ y
  same_bytes x y e h = same_lists x y e (λ k d lt. get_or_default x k d 0 lt ∙ h k ∙ let lt2 : k < length y = omega (arith, e, lt) in sym (get_or_default y k d 0 lt2))

  pub bytewise_assoc : (x y z : List ℕ) → bytewise f (bytewise f x y) z ≡ bytewise f x (bytewise f y z)
  bytewise_assoc x y z =
      let left = length-bytewise x y in
      let right = length-bytewise y z in
      let left_length = length-bytewise (bytewise f x y) z in
      let right_length = length-bytewise x (bytewise f y z) in
      let same : length (bytewise f (bytewise f x y) z) ≡ length (bytewise f x (bytewise f y z)) = omega (arith, left, right, left_length, right_length) in
      same_bytes (bytewise f (bytewise f x y) z) (bytewise f x (bytewise f y z)) same
      (λ i. byte_at-bytewise (bytewise f x y) z i
      ∙ ap (λ (a : ℕ). f a (byte_at z i)) (byte_at-bytewise x y i)
      ∙ assoc (byte_at x i) (byte_at y i) (byte_at z i)
      ∙ sym (byte_at-bytewise x (bytewise f y z) i ∙ ap (f (byte_at x i)) (byte_at-bytewise y z i)))

pub or_assoc : (a b c : ℕ) → bit_or (bit_or a b) c ≡ bit_or a (bit_or b c)
or_assoc a b c =
    same_from_bits (bit_or (bit_or a b) c) (bit_or a (bit_or b c))
    (λ i. let w = bit_at_or (bit_or a b) c i in
    let x = bit_at_or a b i in
    let y = bit_at_or a (bit_or b c) i in
    let z = bit_at_or b c i in
    joined (bit_at (bit_or (bit_or a b) c) i) (bit_at (bit_or a b) i) (bit_at (bit_or a (bit_or b c)) i) (bit_at (bit_or b c) i) (bit_at a i) (bit_at b i) (bit_at c i) w x y z)
  where
    joined : (l ab r bc a b c : ℕ) → l ≡ max ab c → ab ≡ max a b → r ≡ max a bc → bc ≡ max b c → l ≡ r
    joined l ab r bc a b c w x y z = omega (arith, w, x, y, z)

pub max_assoc : (a b c : ℕ) → max (max a b) c ≡ max a (max b c)
max_assoc a b c = omega arith

pub or_bytes_assoc : (x y z : List ℕ) → bytewise bit_or (bytewise bit_or x y) z ≡ bytewise bit_or x (bytewise bit_or y z)
or_bytes_assoc = bytewise_assoc bit_or refl or_assoc

pub and_bytes_assoc : (x y z : List ℕ) → bytewise bit_and (bytewise bit_and x y) z ≡ bytewise bit_and x (bytewise bit_and y z)
and_bytes_assoc = bytewise_assoc bit_and refl (λ a b c. and_assoc c a b)

pub xor_bytes_assoc : (x y z : List ℕ) → bytewise bit_xor (bytewise bit_xor x y) z ≡ bytewise bit_xor x (bytewise bit_xor y z)
xor_bytes_assoc = bytewise_assoc bit_xor refl xor_assoc

pub max_bytes_assoc : (x y z : List ℕ) → bytewise max (bytewise max x y) z ≡ bytewise max x (bytewise max y z)
max_bytes_assoc = bytewise_assoc max refl max_assoc
