-- The last bytes of concatenated byte strings.
use Rattle.std.specs.Prelude.{◌≡◌, ℕ, ◌+◌, ◌-◌, ◌≤◌, List, [], ◌++◌, length, drop}
use Rattle.std.proofs.Common.{ap, ◌∙◌, sym, arith, inl, inr, length-drop, length-append, drop-drop}
use Rattle.std.proofs.Math.Seq.{drop-append-add}
use Rattle.std.proofs.lemmas.Bool.{cases_lt}
use Rattle.std.proofs.lemmas.List.{append_assoc, drop-append-le, drop_all}
use Rattle.uc_oper.specs.Operation.{Operation, IsLawful}

-- the last `count` bytes, or all if there are fewer
abbrev pub last_bytes : ℕ → List ℕ → List ℕ
last_bytes count text = drop (length text - count) text

-- the last bytes of an older byte string followed by a newer one
abbrev pub last_of_both : ℕ → List ℕ → List ℕ → List ℕ
last_of_both count older newer = last_bytes count (older ++ newer)

abbrev pub tail : ℕ → Operation
tail count = record { first = last_bytes count; join = last_of_both count; pair = last_of_both count }

module _ (n : ℕ) where
  counted : (a b whole rest : ℕ) → whole ≡ a + b → rest ≡ whole - (a - n) → (a - n) + (rest - n) ≡ whole - n
  counted a b whole rest p q = omega (arith, p, q)

  -- bytes that are cut from the older byte string don't come back
  last_left : (x y : List ℕ) → last_of_both n (last_bytes n x) y ≡ last_of_both n x y
  last_left x y =
      ap (last_bytes n) (sym (drop-append-le (length x - n) x y (omega arith)))
      ∙ drop-drop (length (drop (length x - n) (x ++ y)) - n) (length x - n) (x ++ y)
      ∙ ap (λ (i : ℕ). drop i (x ++ y)) (counted (length x) (length y) (length (x ++ y)) (length (drop (length x - n) (x ++ y))) (length-append x y) (length-drop (length x - n) (x ++ y)))

  -- the newer byte string alone decides if it is long
  long_newer : (x y : List ℕ) → n ≤ length y → last_of_both n x y ≡ last_bytes n y
  long_newer x y le =
      let index : length (x ++ y) - n ≡ length x + (length y - n) = let e = length-append x y in omega (arith, e, le) in
      ap (λ (i : ℕ). drop i (x ++ y)) index ∙ drop-append-add x y (length y - n)

  short_stays : (y : List ℕ) → length y ≤ n → last_bytes n y ≡ y
  short_stays y le = let none : length y - n ≡ 0 = omega (arith, le) in ap (λ (i : ℕ). drop i y) none

  last_long : (y : List ℕ) → n ≤ length y → length (last_bytes n y) ≡ n
  last_long y le = let e = length-drop (length y - n) y in omega (arith, e, le)

  last_twice : (y : List ℕ) → n ≤ length y → last_bytes n (last_bytes n y) ≡ last_bytes n y
  last_twice y le = let e = last_long y le in short_stays (last_bytes n y) (omega (arith, e))

  -- bytes that are cut from the newer byte string don't come back
  last_right : (x y : List ℕ) → last_of_both n x (last_bytes n y) ≡ last_of_both n x y
  last_right x y =
      elim (cases_lt (length y) n) [
        | inr le ↦ let e = last_long y le in long_newer x (last_bytes n y) (omega (arith, e)) ∙ last_twice y le ∙ sym (long_newer x y le)
        | inl lt ↦ ap (last_of_both n x) (short_stays y (omega (arith, lt)))
      ]

  joins_pairs : (b x y : List ℕ) → last_of_both n b (last_of_both n x y) ≡ last_of_both n (last_of_both n b x) y
  joins_pairs b x y = last_right b (x ++ y) ∙ ap (last_bytes n) (sym (append_assoc b x y)) ∙ sym (last_left (b ++ x) y)

  pub tail_lawful : IsLawful (tail n)
  tail_lawful = record {
    join_pair = joins_pairs;
    first_pair = λ x y. last_right [] (x ++ y) ∙ sym (last_left x y);
    pair_assoc = λ x y z. sym (joins_pairs x y z);
  }

  -- the newer byte string's last bytes, after as many of the older one's last bytes as still fit
  pub last_parts : (x y : List ℕ) → last_of_both n x y ≡ last_bytes (n - length (last_bytes n y)) x ++ last_bytes n y
  last_parts x y =
      elim (cases_lt (length y) n) [
        | inr le ↦
            let none : last_bytes (n - length (last_bytes n y)) x ≡ [] = let e = last_long y le in drop_all (length x - (n - length (last_bytes n y))) x (omega (arith, e)) in
            long_newer x y le ∙ ap (λ (l : List ℕ). l ++ last_bytes n y) (sym none)
        | inl lt ↦
            let index : length (x ++ y) - n ≡ length x - (n - length y) = let e = length-append x y in omega (arith, e, lt) in
            ap (λ (i : ℕ). drop i (x ++ y)) index
            ∙ drop-append-le (length x - (n - length y)) x y (omega arith)
            ∙ ap (λ (l : List ℕ). last_bytes (n - length l) x ++ l) (sym (short_stays y (omega (arith, lt))))
      ]
