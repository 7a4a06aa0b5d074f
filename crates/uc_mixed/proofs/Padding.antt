-- Byte strings that are filled with zeros before they are combined.
use Rattle.std.proofs.Common.{◌≡◌, ℕ, zero, ◌-◌, ◌≤◌, List, [], ◌++◌, length, get_or, take, drop, max, map, replicate, ap, ◌∙◌, sym, refl, inl, inr, arith, length-append, length-drop}
use Rattle.std.specs.List.{range_with_len}
use Rattle.std.proofs.lemmas.Bool.{cases_lt}
use Rattle.std.proofs.lemmas.List.{append-nil, length-take, length-replicate, get_or_append_left, get_or-append_right, get_or-replicate, get_or_past, take_all, drop_all, drop-append-le, take-append-le}
use Rattle.uc_mixed.specs.Bytewise.{byte_at, bytewise}

byte_at-padded : (x : List ℕ) (k i : ℕ) → byte_at (x ++ replicate k 0) i ≡ byte_at x i
byte_at-padded x k i =
    elim (cases_lt i (length x)) [
      | inl lt ↦ get_or_append_left x (replicate k 0) 0 i lt
      | inr le ↦ get_or-append_right x (replicate k 0) (length x) i 0 refl le ∙ zero_at (i - length x) ∙ sym (get_or_past x i 0 le)
    ]
  where
    zero_at : (j : ℕ) → get_or (replicate k zero) j zero ≡ zero
    zero_at j = elim (cases_lt j k) [
      | inl lt ↦ get_or-replicate k j zero zero lt
      | inr le ↦ get_or_past (replicate k zero) j zero (let e = length-replicate k zero in omega (arith, e, le))
    ]

pub bytewise-padded : (f : ℕ → ℕ → ℕ) (x y : List ℕ) (k : ℕ) → k ≤ length y - length x → bytewise f (x ++ replicate k 0) y ≡ bytewise f x y
bytewise-padded f x y k le =
    let long : max (length (x ++ replicate k 0)) (length y) ≡ max (length x) (length y) = let e = length-append x (replicate k 0) in let r = length-replicate k zero in omega (arith, e, r, le) in
    let same : (λ (i : ℕ). f (byte_at (x ++ replicate k 0) i) (byte_at y i)) ≡ (λ (i : ℕ). f (byte_at x i) (byte_at y i)) = λ j i. f (byte_at-padded x k i j) (byte_at y i) in
    ap (λ (g : ℕ → ℕ). map g (range_with_len 0 (max (length (x ++ replicate k 0)) (length y)))) same
    ∙ ap (λ (n : ℕ). map (λ i. f (byte_at x i) (byte_at y i)) (range_with_len 0 n)) long

-- a list of which the end was written
pub tail_written : (old items new : List ℕ) (start len : ℕ) → old ≡ items → start ≤ length old → length new ≡ length old - start → len ≡ length items
    → take len (take start old ++ (new ++ drop (length old - start) (drop start old)) ++ drop (length (take start old ++ (new ++ drop (length old - start) (drop start old)))) items) ≡ take start items ++ new
tail_written old items new start len e le n l =
    let rest = drop (length old - start) (drop start old) in
    let none : rest ≡ [] = let d = length-drop start old in drop_all (length old - start) (drop start old) (omega (arith, d)) in
    let written : take start old ++ (new ++ rest) ≡ take start items ++ new = ap (λ (r : List ℕ). take start old ++ (new ++ r)) none ∙ ap (λ (r : List ℕ). take start old ++ r) (append-nil new) ∙ ap (λ (r : List ℕ). take start r ++ new) e in
    let size : length (take start items ++ new) ≡ length items =
    let a = length-append (take start items) new in let b = length-take start items in let same = ap length e in omega (arith, a, b, same, le, n) in
    let after : drop (length (take start old ++ (new ++ rest))) items ≡ [] = let s = ap length written in drop_all (length (take start old ++ (new ++ rest))) items (omega (arith, s, size)) in
    ap (λ (r : List ℕ). take len (take start old ++ (new ++ rest) ++ r)) after
    ∙ ap (take len) (append-nil (take start old ++ (new ++ rest)) ∙ written)
    ∙ take_all len (take start items ++ new) (omega (arith, size, l))

-- the bytes before a place, and the others with zeros after them
pub padded_split : (f : ℕ → ℕ → ℕ) (bytes others : List ℕ) (start k : ℕ) → start ≤ length bytes → k ≤ length others - (length bytes - start)
    → take start (bytes ++ replicate k 0) ++ bytewise f (drop start (bytes ++ replicate k 0)) others ≡ take start bytes ++ bytewise f (drop start bytes) others
padded_split f bytes others start k le few =
    let d = length-drop start bytes in
    ap (λ (l : List ℕ). l ++ bytewise f (drop start (bytes ++ replicate k 0)) others) (take-append-le start bytes (replicate k 0) le)
    ∙ ap (λ (l : List ℕ). take start bytes ++ bytewise f l others) (drop-append-le start bytes (replicate k 0) le)
    ∙ ap (λ (l : List ℕ). take start bytes ++ l) (bytewise-padded f (drop start bytes) others k (omega (arith, d, few)))
