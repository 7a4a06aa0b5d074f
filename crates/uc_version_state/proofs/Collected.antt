-- The number of runs that are collected is the greatest number of them that may be.
use Rattle.std.proofs.Common.{◌≡◌, ℕ, zero, suc, ◌+◌, ◌*◌, ◌<◌, ◌≤◌, max, not, ◌⊎◌, inl, inr, Bool, true, false, cond, ltb, eqb, List, [], ◌∷◌, ◌++◌, length, take, get_or, refl, sym, ap, subst, arith}
use Rattle.std.specs.Prelude.{◌&&◌, ◌||◌}
use Rattle.std.proofs.lemmas.Bool.{and_parts, and_from, or_cases, or_left, or_right, leb-true, le-leb, ltb-true, lt-ltb, eqb-true, eq-eqb, cases_eq}
use Rattle.std.proofs.lemmas.List.{length_push}
use Rattle.std.proofs.lemmas.List.Sums.{sum_by_push, sum_by-cons}
use Rattle.uc_version_state.specs.declared.options.Options.{Options}
use Rattle.uc_version_state.specs.declared.candidate.Candidate.{Candidate}
use Rattle.uc_version_state.specs.Picks.{total, are_unclaimed, is_within_ratio, is_collected, collected_behind, collected}
use Rattle.uc_version_state.specs.Collecting.{MayBeCollected}

-- the first n of some runs may be collected after those before them
record MayFollow (o : Options) (before runs : List Candidate) (n : ℕ) : Type 0 where
  pub there : n ≤ length runs
  pub unclaimed : are_unclaimed (take n runs) ≡ true
  pub room : 0 < n → length before + n ≤ max 1 o.greatest
  pub within : (k : ℕ) (d : Candidate) → 0 < length before + k → k < n → 100 * (get_or runs k d).size ≤ (100 + o.ratio) * (total before + total (take k runs))

-- what the test of one run says
record Joins (o : Options) (before : List Candidate) (r : Candidate) : Type 0 where
  pub unclaimed : not r.claimed ≡ true
  pub room : length before + 1 ≤ max 1 o.greatest
  pub within : 0 < length before → 100 * r.size ≤ (100 + o.ratio) * total before

abbrev has_room : Options → List Candidate → Candidate → Bool
has_room o before r = ltb (length before) o.greatest && is_within_ratio o.ratio (total before) r.size

room_by : (o : Options) (before : List Candidate) (r : Candidate) → (eqb (length before) 0 ≡ true) ⊎ (has_room o before r ≡ true) → not r.claimed ≡ true → Joins o before r
room_by o before r (inl first) u =
    let none : length before ≡ 0 = eqb-true (length before) 0 first in
    record { unclaimed = u; room = omega (arith, none); within = λ l. omega (arith, none, l) }
room_by o before r (inr more) u =
    let parts = and_parts (ltb (length before) o.greatest) (is_within_ratio o.ratio (total before) r.size) more in
    let room : length before < o.greatest = ltb-true (length before) o.greatest parts.0 in
    record { unclaimed = u; room = omega (arith, room); within = λ l. leb-true (100 * r.size) ((100 + o.ratio) * total before) parts.1 }

joins : (o : Options) (before : List Candidate) (r : Candidate) → is_collected o (length before) (total before) r ≡ true → Joins o before r
joins o before r e =
    let parts = and_parts (not r.claimed) (eqb (length before) 0 || has_room o before r) e in
    room_by o before r (or_cases (eqb (length before) 0) (has_room o before r) parts.1) parts.0

is_joined : (o : Options) (before : List Candidate) (r : Candidate) → Joins o before r → is_collected o (length before) (total before) r ≡ true
is_joined o before r j = and_from (not r.claimed) (eqb (length before) 0 || has_room o before r) j.unclaimed (by (cases_eq (length before) 0))
  where
    by : (length before ≡ 0) ⊎ (length before ≡ 0 → ⊥) → (eqb (length before) 0 || has_room o before r) ≡ true
    by (inl none) = or_left (eqb (length before) 0) (has_room o before r) (eq-eqb (length before) 0 none)
    by (inr some) =
        let l : 0 < length before = omega (arith, some) in
        or_right (eqb (length before) 0) (has_room o before r)
        (and_from (ltb (length before) o.greatest) (is_within_ratio o.ratio (total before) r.size)
        (lt-ltb (length before) o.greatest (omega (arith, j.room, l))) (le-leb (100 * r.size) ((100 + o.ratio) * total before) (j.within l)))

-- ---- one run more in front

total_moved : (before : List Candidate) (r : Candidate) (runs : List Candidate) → total (before ++ r ∷ []) + total runs ≡ total before + total (r ∷ runs)
total_moved before r runs =
    let one = sum_by_push (λ (c : Candidate). c.size) before r in
    let two = sum_by-cons (λ (c : Candidate). c.size) r runs in
    omega (arith, one, two)

within_all : (o : Options) (before : List Candidate) (r : Candidate) (runs : List Candidate) (n : ℕ) → Joins o before r → MayFollow o (before ++ r ∷ []) runs n → (k : ℕ) (d : Candidate) → 0 < length before + k → k < suc n → 100 * (get_or (r ∷ runs) k d).size ≤ (100 + o.ratio) * (total before + total (take k (r ∷ runs)))
within_all o before r runs n j m zero d l b =
    let some : 0 < length before = omega (arith, l) in
    let e : total before + 0 ≡ total before = omega arith in
    subst (λ t. 100 * r.size ≤ (100 + o.ratio) * t) (sym e) (j.within some)
within_all o before r runs n j m (suc k) d l b =
    let pushed = length_push before r in
    let P : ℕ → Type 0 = λ t. 100 * (get_or runs k d).size ≤ (100 + o.ratio) * t in
    subst P (total_moved before r (take k runs)) (m.within k d (omega (arith, pushed)) (omega (arith, b)))

room_all : (o : Options) (before : List Candidate) (r : Candidate) (runs : List Candidate) (n : ℕ) → Joins o before r → MayFollow o (before ++ r ∷ []) runs n → length before + suc n ≤ max 1 o.greatest
room_all o before r runs zero j m = omega (arith, j.room)
room_all o before r runs (suc n) j m =
    let pushed = length_push before r in
    let rest = m.room (omega arith) in
    omega (arith, pushed, rest)

followed : (o : Options) (before : List Candidate) (r : Candidate) (runs : List Candidate) (n : ℕ) → Joins o before r → MayFollow o (before ++ r ∷ []) runs n → MayFollow o before (r ∷ runs) (suc n)
followed o before r runs n j m = record {
  there = omega (arith, m.there);
  unclaimed = and_from (not r.claimed) (are_unclaimed (take n runs)) j.unclaimed m.unclaimed;
  room = λ l. room_all o before r runs n j m;
  within = within_all o before r runs n j m;
}

none_follow : (o : Options) (before runs : List Candidate) → MayFollow o before runs 0
none_follow o before runs = record { there = omega arith; unclaimed = refl; room = λ l. omega (arith, l); within = λ k d l b. omega (arith, b) }

follow_by : (o : Options) (before : List Candidate) (r : Candidate) (runs : List Candidate) (b : Bool) → is_collected o (length before) (total before) r ≡ b → MayFollow o (before ++ r ∷ []) runs (collected_behind o (before ++ r ∷ []) runs) → MayFollow o before (r ∷ runs) (cond b (suc (collected_behind o (before ++ r ∷ []) runs)) 0)
follow_by o before r runs true e rest = followed o before r runs (collected_behind o (before ++ r ∷ []) runs) (joins o before r e) rest
follow_by o before r runs false e rest = none_follow o before (r ∷ runs)

follow : (o : Options) (before runs : List Candidate) → MayFollow o before runs (collected_behind o before runs)
follow o before [] = none_follow o before []
follow o before (r ∷ runs) = follow_by o before r runs (is_collected o (length before) (total before) r) refl (follow o (before ++ r ∷ []) runs)

-- ---- none more

first_joins : (o : Options) (before : List Candidate) (r : Candidate) (runs : List Candidate) (n : ℕ) → MayFollow o before (r ∷ runs) (suc n) → Joins o before r
first_joins o before r runs n m =
    let room = m.room (omega arith) in
    let parts = and_parts (not r.claimed) (are_unclaimed (take n runs)) m.unclaimed in
    let e : total before + 0 ≡ total before = omega arith in
    record {
      unclaimed = parts.0;
      room = omega (arith, room);
      within = λ l. subst (λ t. 100 * r.size ≤ (100 + o.ratio) * t) e (m.within 0 r (omega (arith, l)) (omega arith));
    }

rest_follow : (o : Options) (before : List Candidate) (r : Candidate) (runs : List Candidate) (n : ℕ) → MayFollow o before (r ∷ runs) (suc n) → MayFollow o (before ++ r ∷ []) runs n
rest_follow o before r runs n m =
    let room = m.room (omega arith) in
    let pushed = length_push before r in
    let parts = and_parts (not r.claimed) (are_unclaimed (take n runs)) m.unclaimed in
    record {
      there = omega (arith, m.there);
      unclaimed = parts.1;
      room = λ l. omega (arith, room, pushed);
      within = λ k d l b.
          let P : ℕ → Type 0 = λ t. 100 * (get_or runs k d).size ≤ (100 + o.ratio) * t in
          subst P (sym (total_moved before r (take k runs))) (m.within (suc k) d (omega arith) (omega (arith, b)));
    }

most : (o : Options) (before runs : List Candidate) (n : ℕ) → MayFollow o before runs n → n ≤ collected_behind o before runs
most o before runs zero m = omega arith
most o before [] (suc n) m = m.there
most o before (r ∷ runs) (suc n) m =
    let rest : n ≤ collected_behind o (before ++ r ∷ []) runs = most o (before ++ r ∷ []) runs n (rest_follow o before r runs n m) in
    let j = is_joined o before r (first_joins o before r runs n m) in
    let P : ℕ → Type 0 = λ t. suc n ≤ t in
    subst P (sym (ap (λ b. cond b (suc (collected_behind o (before ++ r ∷ []) runs)) 0) j)) (omega (arith, rest))

-- ---- from the first run on

pub may_be : (o : Options) (runs : List Candidate) → MayBeCollected o runs (collected o runs)
may_be o runs =
    let n = collected o runs in
    let m : MayFollow o [] runs n = follow o [] runs in
    record { there = m.there; unclaimed = m.unclaimed; room = room n m; within = within n m }
  where
    room : (n : ℕ) → MayFollow o [] runs n → n ≤ max 1 o.greatest
    room zero m = omega arith
    room (suc n) m = let r = m.room (omega arith) in omega (arith, r)

    within : (n : ℕ) → MayFollow o [] runs n → (k : ℕ) (d : Candidate) → 0 < k → k < n → 100 * (get_or runs k d).size ≤ (100 + o.ratio) * total (take k runs)
    within n m k d l b =
        let e : 0 + total (take k runs) ≡ total (take k runs) = omega arith in
        subst (λ t. 100 * (get_or runs k d).size ≤ (100 + o.ratio) * t) e (m.within k d (omega (arith, l)) b)

pub at_most : (o : Options) (runs : List Candidate) (n : ℕ) → MayBeCollected o runs n → n ≤ collected o runs
at_most o runs n m =
    most o [] runs n (record {
      there = m.there;
      unclaimed = m.unclaimed;
      room = λ l. omega (arith, m.room);
      within = λ k d l b.
          let e : 0 + total (take k runs) ≡ total (take k runs) = omega arith in
          subst (λ t. 100 * (get_or runs k d).size ≤ (100 + o.ratio) * t) (sym e) (m.within k d (omega (arith, l)) b);
    })

-- ---- no more are collected than there are

one_more_or_none : (b : Bool) (n m : ℕ) → n ≤ m → cond b (suc n) 0 ≤ suc m
one_more_or_none true n m le = omega (arith, le)
one_more_or_none false n m le = omega arith

pub no_more : (o : Options) (before runs : List Candidate) → collected_behind o before runs ≤ length runs
no_more o before [] = omega arith
no_more o before (r ∷ runs) = one_more_or_none (is_collected o (length before) (total before) r) (collected_behind o (before ++ r ∷ []) runs) (length runs) (no_more o (before ++ r ∷ []) runs)
