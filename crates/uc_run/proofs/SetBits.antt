-- Words in which bits are set: none is lost.
use Rattle.std.proofs.Common.{◌≡◌, ◌≢◌, ℕ, ◌+◌, ◌<◌, Bool, true, false, eqb, List, length, get_or, set, refl, sym, ap, ◌∙◌, arith}
use Rattle.std.specs.Int.RustNames.{bit_and, bit_or}
use Rattle.std.proofs.lemmas.Bool.Decides.{nat_tests}
use Rattle.std.proofs.lemmas.List.{length-set, get_or-set_same, get_or-set_other}
use Rattle.uc_run.specs.Filters.{HasBits}
use Rattle.uc_run.proofs.BitLaws.{kept_by_or, added_by_or}

-- by whether the word is the one in which bits are set
pub kept : (words : List ℕ) (place bits other more : ℕ) (same : Bool) → eqb other place ≡ same → place < length words → HasBits words other more → HasBits (set words place (bit_or (get_or words place 0) bits)) other more
kept words place bits other more true e l has =
    let here : other ≡ place = grind (arith, nat_tests) in
    let now : List ℕ = set words place (bit_or (get_or words place 0) bits) in
    let was : bit_and (get_or words place 0) more ≡ more = sym (ap (λ i. bit_and (get_or words i 0) more) here) ∙ has.set in
    record {
      there = omega (arith, has.there, length-set words place (bit_or (get_or words place 0) bits));
      set =
          ap (λ i. bit_and (get_or now i 0) more) here
          ∙ ap (λ word. bit_and word more) (get_or-set_same words place (bit_or (get_or words place 0) bits) 0 l)
          ∙ kept_by_or (get_or words place 0) bits more was;
    }
kept words place bits other more false e l has =
    let away : other ≢ place = grind (arith, nat_tests) in
    record {
      there = omega (arith, has.there, length-set words place (bit_or (get_or words place 0) bits));
      set = ap (λ word. bit_and word more) (get_or-set_other words place other (bit_or (get_or words place 0) bits) 0 away) ∙ has.set;
    }

-- the bits of other words, one word more at a time
module _ (words other : List ℕ) (n : ℕ) (within : n < length words) where
  abbrev pub more : List ℕ
  more = set words n (bit_or (get_or words n 0) (get_or other n 0))

  added_by : (place bits : ℕ) (same : Bool) → eqb place n ≡ same → place < n + 1 → (place < n → HasBits other place bits → HasBits words place bits) → HasBits other place bits → HasBits more place bits
  added_by place bits true e lt before has =
      let here : place ≡ n = grind (arith, nat_tests) in
      let was : bit_and (get_or other n 0) bits ≡ bits = sym (ap (λ i. bit_and (get_or other i 0) bits) here) ∙ has.set in
      record {
        there = omega (arith, here, within, length-set words n (bit_or (get_or words n 0) (get_or other n 0)));
        set =
            ap (λ i. bit_and (get_or more i 0) bits) here
            ∙ ap (λ word. bit_and word bits) (get_or-set_same words n (bit_or (get_or words n 0) (get_or other n 0)) 0 within)
            ∙ added_by_or (get_or words n 0) (get_or other n 0) bits was;
      }
  added_by place bits false e lt before has =
      let away : place ≢ n = grind (arith, nat_tests) in
      kept words n (get_or other n 0) place bits false e within (before (omega (arith, lt, away)) has)

  pub added_more : ((place bits : ℕ) → place < n → HasBits other place bits → HasBits words place bits) → (place bits : ℕ) → place < n + 1 → HasBits other place bits → HasBits more place bits
  added_more before place bits lt has = added_by place bits (eqb place n) refl lt (before place bits) has

  pub kept_more : (place bits : ℕ) → HasBits words place bits → HasBits more place bits
  kept_more place bits has = kept words n (get_or other n 0) place bits (eqb place n) refl within has
