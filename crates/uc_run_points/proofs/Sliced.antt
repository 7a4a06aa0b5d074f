-- Slices: parts of a list after its first elements.
use Rattle.std.proofs.Common.{◌≡◌, ℕ, ◌+◌, ◌-◌, ◌≤◌, List, length, take, drop, sym, ap, ◌∙◌, arith}
use Rattle.std.proofs.lemmas.List.{drop-drop, take-take, drop-take, length-take-le, length-drop}
use Rattle.uc_run_entry.specs.declared.entry.Entry.{Entry}

-- `es` is the part of `all` that begins after `begin` elements
abbrev pub IsPart : List Entry → List Entry → ℕ → Type 0
IsPart all es begin = es ≡ take (length es) (drop begin all)

module _ (all es : List Entry) (begin : ℕ) (part : IsPart all es begin) where
  pub rest_there : (place : ℕ) → place ≤ length es → take (length es - place) (drop (begin + place) all) ≡ drop place es
  rest_there place le =
      let n = length es in
      let whole : n ≡ place + (n - place) = omega (arith, le) in
      ap (take (n - place)) (sym (drop-drop place begin all))
      ∙ sym (drop-take place (n - place) (drop begin all))
      ∙ ap (λ k. drop place (take k (drop begin all))) (sym whole)
      ∙ ap (drop place) (sym part)

  pub rest_part : (place : ℕ) → place ≤ length es → IsPart all (drop place es) (begin + place)
  rest_part place le =
      let l : length (drop place es) ≡ length es - place = length-drop place es in
      sym (rest_there place le) ∙ ap (λ n. take n (drop (begin + place) all)) (sym l)

  pub front_part : (n : ℕ) → n ≤ length es → IsPart all (take n es) begin
  front_part n le =
      let l : length (take n es) ≡ n = length-take-le n es le in
      ap (take n) part ∙ take-take n (length es) (drop begin all) le ∙ ap (λ k. take k (drop begin all)) (sym l)

pub slice_part : (all es : List Entry) (begin : ℕ) → IsPart all es begin → (from to : ℕ) → from ≤ to → to ≤ length es → IsPart all (take (to - from) (drop from es)) (begin + from)
slice_part all es begin part from to order within =
    let l : length (drop from es) ≡ length es - from = length-drop from es in
    front_part all (drop from es) (begin + from) (rest_part all es begin part from (omega (arith, order, within))) (to - from) (omega (arith, l, within))

pub length-slice : (es : List Entry) (from to : ℕ) → from ≤ to → to ≤ length es → length (take (to - from) (drop from es)) ≡ to - from
length-slice es from to order within = length-take-le (to - from) (drop from es) (let l = length-drop from es in omega (arith, l, order, within))
