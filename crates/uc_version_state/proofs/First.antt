-- The first stretch that a rule picks, place by place.
use Rattle.std.proofs.Common.{None, zero, ◌∷◌, [], true, Bool, unwrap_or, add-zero, refl, ◌≡◌, ℕ, suc, ◌+◌, ◌-◌, ◌<◌, ◌≤◌, false, cond, ltb, List, Some, length, take, drop, get_or, sym, ap, ◌∙◌, arith}
use Rattle.std.specs.Prelude.{is_some}
use Rattle.std.proofs.lemmas.Bool.{false≢true, true≢false, ltb-true, ltb-false}
use Rattle.std.proofs.lemmas.List.{drop_more, take_rest}
use Rattle.uc_version_state.specs.declared.stretch.Stretch.{Stretch}
use Rattle.uc_version_state.specs.declared.candidate.Candidate.{Candidate}
use Rattle.uc_version_state.specs.Picks.{first_picked}

-- a place at which the rule picks none is passed over
passed : (rule : List Candidate → ℕ) (above : ℕ) (r : Candidate) (runs : List Candidate) → rule (r ∷ runs) ≡ 0 → first_picked rule above (r ∷ runs) ≡ first_picked rule (suc above) runs
passed rule above r runs none =
    ap (λ n. cond (ltb 0 n) (Some (let s : Stretch = record { first = above; count = n } in s)) (first_picked rule (suc above) runs)) none

none_yet : Candidate
none_yet = record { size = 0; claimed = false }

-- a loop's step: n is what the rule picks from place i on
pub passed_at : (rule : List Candidate → ℕ) (runs : List Candidate) (i n : ℕ) → i < length runs → n ≡ rule (take (length runs - i) (drop i runs)) → n ≤ 0 → first_picked rule i (drop i runs) ≡ first_picked rule (i + 1) (drop (i + 1) runs)
passed_at rule runs i n l is small =
    let here : drop i runs ≡ get_or runs i none_yet ∷ drop (i + 1) runs = drop_more runs i none_yet l in
    let none : n ≡ 0 = omega (arith, small) in
    let next : suc i ≡ i + 1 = omega arith in
    ap (first_picked rule i) here
    ∙ passed rule i (get_or runs i none_yet) (drop (i + 1) runs) (sym (ap rule (take_rest runs i ∙ here)) ∙ sym is ∙ none)
    ∙ ap (λ n. first_picked rule n (drop (i + 1) runs)) next

-- ---- what is picked first

pub some_same : {X : Type 0} (x y : X) → Some x ≡ Some y → x ≡ y
some_same x y e = ap (λ o. unwrap_or o x) e

-- a stretch begins at the first place at which the rule picks any, and has what it picks there
pub record IsFirst (rule : List Candidate → ℕ) (above : ℕ) (runs : List Candidate) (s : Stretch) : Type 0 where
  pub place : ℕ
  pub first : s.first ≡ above + place
  pub there : place < length runs
  pub count : s.count ≡ rule (drop place runs)
  pub some : 0 < s.count
  pub before : (k : ℕ) → k < place → rule (drop k runs) ≡ 0

before_all : (rule : List Candidate → ℕ) (r : Candidate) (runs : List Candidate) (place : ℕ) → rule (r ∷ runs) ≡ 0 → ((k : ℕ) → k < place → rule (drop k runs) ≡ 0) → (k : ℕ) → k < suc place → rule (drop k (r ∷ runs)) ≡ 0
before_all rule r runs place none rest zero l = none
before_all rule r runs place none rest (suc k) l = rest k (omega (arith, l))

first_by : (rule : List Candidate → ℕ) (above : ℕ) (r : Candidate) (runs : List Candidate) (s : Stretch) (b : Bool) → ltb 0 (rule (r ∷ runs)) ≡ b → cond b (Some (let p : Stretch = record { first = above; count = rule (r ∷ runs) } in p)) (first_picked rule (suc above) runs) ≡ Some s → (first_picked rule (suc above) runs ≡ Some s → IsFirst rule (suc above) runs s) → IsFirst rule above (r ∷ runs) s
first_by rule above r runs s true t e rest =
    let p : Stretch = record { first = above; count = rule (r ∷ runs) } in
    let same : p ≡ s = some_same p s e in
    let some : 0 < rule (r ∷ runs) = ltb-true 0 (rule (r ∷ runs)) t in
    let count : s.count ≡ rule (r ∷ runs) = sym (ap (λ (z : Stretch). z.count) same) in
    record {
      place = 0;
      first = sym (ap (λ (z : Stretch). z.first) same) ∙ sym (add-zero above);
      there = omega arith;
      count = count;
      some = omega (arith, some, count);
      before = λ k l. omega (arith, l);
    }
first_by rule above r runs s false t e rest =
    let found : IsFirst rule (suc above) runs s = rest e in
    let none : rule (r ∷ runs) ≡ 0 = omega (arith, ltb-false 0 (rule (r ∷ runs)) t) in
    record {
      place = suc found.place;
      first = omega (arith, found.first);
      there = omega (arith, found.there);
      count = found.count;
      some = found.some;
      before = before_all rule r runs found.place none found.before;
    }

pub first_is : (rule : List Candidate → ℕ) (above : ℕ) (runs : List Candidate) (s : Stretch) → first_picked rule above runs ≡ Some s → IsFirst rule above runs s
first_is rule above [] s e = absurd (false≢true (ap is_some e))
first_is rule above (r ∷ runs) s e = first_by rule above r runs s (ltb 0 (rule (r ∷ runs))) refl e (first_is rule (suc above) runs s)

none_by : (rule : List Candidate → ℕ) (above : ℕ) (r : Candidate) (runs : List Candidate) (b : Bool) → ltb 0 (rule (r ∷ runs)) ≡ b → cond b (Some (let p : Stretch = record { first = above; count = rule (r ∷ runs) } in p)) (first_picked rule (suc above) runs) ≡ None → (first_picked rule (suc above) runs ≡ None → (k : ℕ) → k < length runs → rule (drop k runs) ≡ 0) → (k : ℕ) → k < suc (length runs) → rule (drop k (r ∷ runs)) ≡ 0
none_by rule above r runs true t e rest k l = absurd (true≢false (ap is_some e))
none_by rule above r runs false t e rest k l =
    let none : rule (r ∷ runs) ≡ 0 = omega (arith, ltb-false 0 (rule (r ∷ runs)) t) in
    before_all rule r runs (length runs) none (rest e) k l

-- where none is picked, the rule picks none at any place
pub none_is : (rule : List Candidate → ℕ) (above : ℕ) (runs : List Candidate) → first_picked rule above runs ≡ None → (k : ℕ) → k < length runs → rule (drop k runs) ≡ 0
none_is rule above [] e k l = omega (arith, l)
none_is rule above (r ∷ runs) e k l = none_by rule above r runs (ltb 0 (rule (r ∷ runs))) refl e (none_is rule (suc above) runs) k l
