-- Bytes that are copied into a buffer, one after the other.
use Rattle.std.proofs.Common.{◌≡◌, ℕ, ◌+◌, ◌≤◌, List, ◌++◌, length, take, drop, sym, ap, ◌∙◌, append_assoc, length-append, arith}
use Rattle.std.proofs.lemmas.List.{drop-drop, length-take-le, take_at, drop_at}
use Rattle.uc_rows.specs.Laying.{laid_at}

module _ (room xs ys : List ℕ) (at : ℕ) (fits : at + length xs + length ys ≤ length room) where
  abbrev front : List ℕ
  front = take at room ++ xs

  abbrev rest : List ℕ
  rest = drop (at + length xs) room

  long : length front ≡ at + length xs
  long = let whole = length-append (take at room) xs in let first = length-take-le at room (omega (arith, fits)) in omega (arith, whole, first)

  once : laid_at at xs room ≡ front ++ rest
  once = sym (append_assoc (take at room) xs rest)

  before : take (at + length xs) (laid_at at xs room) ≡ front
  before = ap (take (at + length xs)) once ∙ take_at front rest (at + length xs) long

  after : drop (at + length xs + length ys) (laid_at at xs room) ≡ drop (at + length (xs ++ ys)) room
  after =
      let sum = length-append xs ys in
      let whole : at + length xs + length ys ≡ at + length (xs ++ ys) = omega (arith, sum) in
      sym (drop-drop (length ys) (at + length xs) (laid_at at xs room))
      ∙ ap (λ (l : List ℕ). drop (length ys) (drop (at + length xs) l)) once
      ∙ ap (drop (length ys)) (drop_at front rest (at + length xs) long)
      ∙ drop-drop (length ys) (at + length xs) room
      ∙ ap (λ (n : ℕ). drop n room) whole

  pub laid_twice : laid_at (at + length xs) ys (laid_at at xs room) ≡ laid_at at (xs ++ ys) room
  laid_twice =
      let again = append_assoc (take at room) xs (ys ++ drop (at + length (xs ++ ys)) room) in
      let inner = append_assoc xs ys (drop (at + length (xs ++ ys)) room) in
      (λ i. before i ++ (ys ++ after i)) ∙ again ∙ ap (λ (l : List ℕ). take at room ++ l) (sym inner)
