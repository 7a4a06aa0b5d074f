-- A suffix starts at the difference of the lengths.
use Rattle.std.proofs.Common.{◌≡◌, ℕ, ◌+◌, ◌-◌, List, length, drop, sym, ap, ◌∙◌, arith, inl, inr, length-drop}
use Rattle.std.proofs.lemmas.Bool.{cases_lt}
use Rattle.std.proofs.lemmas.List.{drop-drop, nil_from_length}
use Rattle.uc_script.specs.Reading.{IsRest}

-- the suffix from any place on
rest_at : (place : ℕ) (text : List ℕ) → drop place text ≡ drop (length text - length (drop place text)) text
rest_at place text =
    let left = length text - length (drop place text) in
    elim (cases_lt (length text) place) [
      | inl beyond ↦
          nil_from_length (drop place text) (omega (arith, beyond, length-drop place text))
          ∙ sym (nil_from_length (drop left text) (omega (arith, beyond, length-drop place text, length-drop left text)))
      | inr within ↦
          let same : place ≡ left = omega (arith, within, length-drop place text) in
          ap (λ (n : ℕ). drop n text) same
    ]

-- all of the input
pub rest_of_all : (text : List ℕ) → IsRest text text
unfolding IsRest
rest_of_all text = rest_at 0 text

-- the suffix from a place of a suffix on
pub rest_of_rest : (text rest after : List ℕ) (n : ℕ) → IsRest text rest → after ≡ drop n rest → IsRest text after
unfolding IsRest
rest_of_rest text rest after n is next =
    let place = length text - length rest in
    let at : after ≡ drop (place + n) text = next ∙ ap (drop n) is ∙ drop-drop n place text in
    at ∙ rest_at (place + n) text ∙ ap (λ (xs : List ℕ). drop (length text - length xs) text) (sym at)

-- where it stands
pub rest_is : (text rest : List ℕ) → IsRest text rest → rest ≡ drop (length text - length rest) text
unfolding IsRest
rest_is text rest is = is
