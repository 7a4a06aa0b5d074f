-- Two copies into a buffer, one after the other.
use Rattle.std.proofs.Common.{◌≡◌, ℕ, ◌+◌, ◌-◌, min, List, ◌++◌, length, take, drop, sym, ap, ◌∙◌, append_assoc, length-append, arith}
use Rattle.std.proofs.lemmas.List.{take_at, drop_at, take_min, drop-drop, length-take-le, length-drop}
use Rattle.uc_run_file.proofs.PieceSums.{front_joined}

-- as many bytes as there are, up to a number
take_up_to : (n b : ℕ) (xs : List ℕ) → n ≡ min (length xs) b → take n xs ≡ take b xs
take_up_to n b xs e = let f : n ≡ min b (length xs) = omega (arith, e) in ap (λ (k : ℕ). take k xs) f ∙ take_min b xs

module _ (old first second one two : List ℕ) (n m : ℕ) (n_is : n ≡ min (length first) (length old - 0)) (one_is : one ≡ take 0 old ++ (take n first ++ drop (0 + n) old))
    (m_is : m ≡ min (length second) (length one - n)) (two_is : two ≡ take n one ++ (take m second ++ drop (n + m) one)) where
  one_there : one ≡ take n first ++ drop n old
  one_there = let e : 0 + n ≡ n = omega arith in one_is ∙ ap (λ (k : ℕ). take n first ++ drop k old) e

  n_long : length (take n first) ≡ n
  n_long = length-take-le n first (omega (arith, n_is))

  one_long : length one ≡ length old
  one_long = omega (arith, ap (λ (xs : List ℕ). length xs) one_there, length-append (take n first) (drop n old), n_long, length-drop n old, n_is)

  m_long : length (take m second) ≡ m
  m_long = length-take-le m second (omega (arith, m_is))

  two_there : two ≡ take n first ++ (take m second ++ drop (n + m) old)
  two_there =
      two_is ∙ ap (λ (xs : List ℕ). xs ++ (take m second ++ drop (n + m) one)) (ap (take n) one_there ∙ take_at (take n first) (drop n old) n n_long)
      ∙ ap (λ (xs : List ℕ). take n first ++ (take m second ++ xs))
      (sym (drop-drop m n one) ∙ ap (drop m) (ap (drop n) one_there ∙ drop_at (take n first) (drop n old) n n_long) ∙ drop-drop m n old)

  joined : two ≡ (take n first ++ take m second) ++ drop (n + m) old
  joined = two_there ∙ sym (append_assoc (take n first) (take m second) (drop (n + m) old))

  both_long : length (take n first ++ take m second) ≡ n + m
  both_long = omega (arith, length-append (take n first) (take m second), n_long, m_long)

  pub rest_kept : drop (n + m) two ≡ drop (n + m) old
  rest_kept = ap (drop (n + m)) joined ∙ drop_at (take n first ++ take m second) (drop (n + m) old) (n + m) both_long

  pub both_copied : take (n + m) two ≡ take (length old) (first ++ second)
  both_copied =
      let e : length old - 0 ≡ length old = omega arith in
      let n_up : take n first ≡ take (length old) first = take_up_to n (length old) first (n_is ∙ ap (λ (k : ℕ). min (length first) k) e) in
      let left : length one - n ≡ length old - length (take (length old) first) = omega (arith, one_long, n_long, ap (λ (xs : List ℕ). length xs) n_up) in
      let m_up : take m second ≡ take (length old - length (take (length old) first)) second = take_up_to m (length one - n) second m_is ∙ ap (λ (k : ℕ). take k second) left in
      ap (take (n + m)) joined ∙ take_at (take n first ++ take m second) (drop (n + m) old) (n + m) both_long
      ∙ ap (λ (xs : List ℕ). xs ++ take m second) n_up ∙ ap (λ (xs : List ℕ). take (length old) first ++ xs) m_up
      ∙ sym (front_joined (length old) first second)
