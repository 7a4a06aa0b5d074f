-- A search through the places of a log, one after the other.
use Rattle.std.proofs.Common.{◌≡◌, ℕ, zero, suc, ◌+◌, ◌-◌, ◌*◌, ◌≤◌, ◌<◌, Bool, true, false, List, [], ◌∷◌, ◌++◌, length, drop, Option, Some, None, inl, inr, refl, sym, ap, subst, ◌∙◌, arith}
use Rattle.std.specs.Prelude.{◌&&◌, not, nat_le, ◌==◌, if◌then◌else◌}
use Rattle.std.proofs.lemmas.Bool.{and_parts, leb-true}
use Rattle.uc_logrec.specs.Format.{room, stored_length, stored_code}
use Rattle.uc_log_crash.specs.Marks.{Tells}
use Rattle.uc_log_crash.specs.Places.{has_another, next_place, chained, in_block, places_from, in_blocks, IsFirst}

-- ---- the places of a block

nearer_by : (b : Bool) (place len next : ℕ) → (b ≡ true → 14 + len ≤ room place) → (if b then Some (place + 7 + len) else None) ≡ Some next → room next < room place
nearer_by true place len next fits e =
    let same : place + 7 + len ≡ next = cc in
    let fit : 14 + len ≤ room place = fits refl in
    omega (arith, same, fit)
nearer_by false place len next fits e = absurd cc

fits_there : (place : ℕ) (rest : List ℕ) → has_another place rest ≡ true → 14 + stored_length rest ≤ room place
fits_there place rest h = leb-true (14 + stored_length rest) (room place) (and_parts (nat_le 7 (length rest) && not (stored_code rest == 0 && stored_length rest == 0)) (nat_le (14 + stored_length rest) (room place)) h).1

-- the next place is nearer to the end of the block
nearer : (log : List ℕ) (place next : ℕ) → next_place log place ≡ Some next → room next < room place
unfolding next_place
nearer log place next e = nearer_by (has_another place (drop place log)) place (stored_length (drop place log)) next (fits_there place (drop place log)) e

chained_alike : (log : List ℕ) (n m place : ℕ) (next : Option ℕ) → next_place log place ≡ next → room place ≤ suc n → room place ≤ suc m
    → ((k : ℕ) → room k ≤ n → room k ≤ m → in_block n log k ≡ in_block m log k) → chained (in_block n log) next ≡ chained (in_block m log) next
chained_alike log n m place None e le le' go = refl
chained_alike log n m place (Some k) e le le' go =
    let near : room k < room place = nearer log place k e in
    go k (omega (arith, near, le)) (omega (arith, near, le'))

-- any number that is large enough gives the same places
enough : (n m : ℕ) (log : List ℕ) (place : ℕ) → room place ≤ n → room place ≤ m → in_block n log place ≡ in_block m log place
unfolding in_block
enough zero m log place le le' = absurd (omega (arith, le))
enough (suc n) zero log place le le' = absurd (omega (arith, le'))
enough (suc n) (suc m) log place le le' = ap (λ (ps : List ℕ). place ∷ ps) (chained_alike log n m place (next_place log place) refl le le' (λ k a b. enough n m log k a b))

shape_at : (n : ℕ) (log : List ℕ) (place : ℕ) → 0 < n → in_block n log place ≡ place ∷ chained (in_block (n - 1) log) (next_place log place)
unfolding in_block
shape_at zero log place lt = absurd (omega (arith, lt))
shape_at (suc n) log place lt =
    let less : suc n - 1 ≡ n = omega arith in
    rw less refl

shape : (log : List ℕ) (place : ℕ) → places_from log place ≡ place ∷ chained (in_block (room place - 1) log) (next_place log place)
shape log place = shape_at (room place) log place (omega arith)

-- ---- the search

module _ (log : List ℕ) (end last : ℕ) where
  pub found_here : (place : ℕ) → Tells log end last place → IsFirst log end last (places_from log place) (Some place)
  found_here place told = subst (λ (ps : List ℕ). IsFirst log end last ps (Some place)) (sym (shape log place)) (inl (told, refl))

  pub found_none : (place : ℕ) → (Tells log end last place → ⊥) → next_place log place ≡ None → IsFirst log end last (places_from log place) None
  found_none place untold over =
      let alone : places_from log place ≡ place ∷ [] = shape log place ∙ ap (λ (next : Option ℕ). place ∷ chained (in_block (room place - 1) log) next) over in
      subst (λ (ps : List ℕ). IsFirst log end last ps None) (sym alone) (inr (untold, refl))

  pub found_later : (place next : ℕ) (found : Option ℕ) → (Tells log end last place → ⊥) → next_place log place ≡ Some next
      → IsFirst log end last (places_from log next) found → IsFirst log end last (places_from log place) found
  found_later place next found untold there first =
      let near : room next < room place = nearer log place next there in
      let rest : in_block (room place - 1) log next ≡ places_from log next = enough (room place - 1) (room next) log next (omega (arith, near)) (omega arith) in
      let all : places_from log place ≡ place ∷ places_from log next =
      shape log place ∙ (ap (λ (o : Option ℕ). place ∷ chained (in_block (room place - 1) log) o) there ∙ ap (λ (ps : List ℕ). place ∷ ps) rest) in
      subst (λ (ps : List ℕ). IsFirst log end last ps found) (sym all) (inr (untold, first))

  -- ---- places after others

  pub in_front : (place : ℕ) (some others : List ℕ) → IsFirst log end last some (Some place) → IsFirst log end last (some ++ others) (Some place)
  in_front place [] others first = absurd cc
  in_front place (p ∷ ps) others (inl here) = inl here
  in_front place (p ∷ ps) others (inr (untold, first)) = inr (untold, in_front place ps others first)

  pub past_all : (some others : List ℕ) (found : Option ℕ) → IsFirst log end last some None → IsFirst log end last others found → IsFirst log end last (some ++ others) found
  past_all [] others found none first = first
  past_all (p ∷ ps) others found (inl (told, e)) first = absurd cc
  past_all (p ∷ ps) others found (inr (untold, none)) first = inr (untold, past_all ps others found none first)

-- ---- blocks

blocks_at : (n : ℕ) (log : List ℕ) (block : ℕ) → 0 < n → in_blocks n log block ≡ places_from log (32768 * block) ++ in_blocks (n - 1) log (block + 1)
unfolding in_blocks
blocks_at zero log block lt = absurd (omega (arith, lt))
blocks_at (suc n) log block lt =
    let less : suc n - 1 ≡ n = omega arith in
    rw less refl

-- the blocks from one on, and those after it
pub blocks_step : (count : ℕ) (log : List ℕ) (block : ℕ) → block < count → in_blocks (count - block) log block ≡ places_from log (32768 * block) ++ in_blocks (count - (block + 1)) log (block + 1)
blocks_step count log block lt =
    let fewer : count - block - 1 ≡ count - (block + 1) = omega (arith, lt) in
    blocks_at (count - block) log block (omega (arith, lt)) ∙ ap (λ (n : ℕ). places_from log (32768 * block) ++ in_blocks n log (block + 1)) fewer

pub blocks_over : (log : List ℕ) (end last n block : ℕ) → n ≡ 0 → IsFirst log end last (in_blocks n log block) None
unfolding in_blocks
blocks_over log end last zero block none = refl
blocks_over log end last (suc n) block none = absurd (omega (arith, none))

pub in_this_block : (log : List ℕ) (end last count block place : ℕ) → block < count → IsFirst log end last (places_from log (32768 * block)) (Some place) → IsFirst log end last (in_blocks (count - block) log block) (Some place)
in_this_block log end last count block place lt first =
    subst (λ (ps : List ℕ). IsFirst log end last ps (Some place)) (sym (blocks_step count log block lt)) (in_front log end last place (places_from log (32768 * block)) (in_blocks (count - (block + 1)) log (block + 1)) first)

pub in_later_block : (log : List ℕ) (end last count block : ℕ) (found : Option ℕ) → block < count → IsFirst log end last (places_from log (32768 * block)) None → IsFirst log end last (in_blocks (count - (block + 1)) log (block + 1)) found
    → IsFirst log end last (in_blocks (count - block) log block) found
in_later_block log end last count block found lt none first =
    subst (λ (ps : List ℕ). IsFirst log end last ps found) (sym (blocks_step count log block lt)) (past_all log end last (places_from log (32768 * block)) (in_blocks (count - (block + 1)) log (block + 1)) found none first)

pub first_of_all : (log : List ℕ) (end last : ℕ) (here others : List ℕ) (place : ℕ) → IsFirst log end last here (Some place) → IsFirst log end last (here ++ others) (Some place)
first_of_all log end last here others place first = in_front log end last place here others first

pub later_of_all : (log : List ℕ) (end last : ℕ) (here others : List ℕ) (found : Option ℕ) → IsFirst log end last here None → IsFirst log end last others found → IsFirst log end last (here ++ others) found
later_of_all log end last here others found none first = past_all log end last here others found none first
