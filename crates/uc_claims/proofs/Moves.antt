-- Each step keeps the claim rule.
use Rattle.std.proofs.Common.{◌≡◌, ◌≢◌, ℕ, zero, suc, ◌+◌, ◌<◌, ◌≤◌, Bool, true, false, eqb, ltb, List, [], ◌∷◌, ◌++◌, length, get_or, set, sym, refl, ap, ◌∙◌, subst, ⊎_elim, arith, zero-add, eq-eqb, ne_eqb, length-set, get_or-set_same, get_or-set_other}
use Rattle.std.specs.Prelude.{MatchBool, All}
use Rattle.std.specs.List.{sum_by}
use mathlib.Core.Option.{none, some, some-injective, some-ne-none}
use lib.ListN.{get_elem?}
use Rattle.std.proofs.lemmas.Bool.{cases_eq, cases_lt, false≢true}
use Rattle.std.proofs.lemmas.List.{get_or_past, get_or_default}
use Rattle.std.proofs.lemmas.List.Sums.{sum_by-cons, sum_by_push}
use prog.Atomic.{either}
use Rattle.atomic_table.specs.Table.{State, step, keeps, stepped, Allows, Splits, Joins, Final, Seen}
use Rattle.atomic_table.proofs.Lists.{at_set, at_snoc, set_else}
use Rattle.uc_claims.specs.declared.rule.Claimant.{Claimant}
use Rattle.uc_claims.specs.Holding.{without}
use Rattle.uc_claims.specs.Claims.{claimant, newcomer, times, times_in_all, Claims, Sitting, Exchanged, Gave, Looked, ShowsTaken, AreApart}
use Rattle.uc_claims.proofs.Times.{times-from_Contains, times-append, times_push, times-without_other, times-without_same, one_same, one_other}

-- the total after a change of one seat
total-set : (f : Claimant → ℕ) (seats : List Claimant) (id : ℕ) (v w : Claimant) → get_elem? seats id ≡ some v → sum_by f (set seats id w) + f v ≡ sum_by f seats + f w
total-set f [] id v w at = absurd (some-ne-none v (sym at))
total-set f (x ∷ xs) zero v w at = let is : f x ≡ f v = ap f (some-injective x v at) in omega (arith, sum_by-cons f x xs, sum_by-cons f w xs)
total-set f (x ∷ xs) (suc id) v w at = omega (arith, total-set f xs id v w at, sum_by-cons f x xs, sum_by-cons f x (set xs id w))

here : (seats : List Claimant) (id : ℕ) (v : Claimant) → get_elem? seats id ≡ some v → id < length seats
here [] id v at = absurd (some-ne-none v (sym at))
here (x ∷ xs) zero v at = omega arith
here (x ∷ xs) (suc id) v at = let l = here xs id v at in omega arith

-- how often a slot stands in the list of the only seat
pub only_seat : (seats : List Claimant) (id : ℕ) (v : Claimant) (slot : ℕ) → length seats ≡ 1 → get_elem? seats id ≡ some v → times_in_all slot seats ≡ times slot v.slots
only_seat [] id v slot l at = absurd (omega arith)
only_seat (x ∷ []) zero v slot l at = zero-add (times slot x.slots) ∙ ap (λ (u : Claimant). times slot u.slots) (some-injective x v at)
only_seat (x ∷ []) (suc id) v slot l at = absurd (some-ne-none v (sym at))
only_seat (x ∷ y ∷ xs) id v slot l at = absurd (omega arith)

-- a list's slot counts among all
pub times-le-all : (seats : List Claimant) (id : ℕ) (v : Claimant) (slot : ℕ) → get_elem? seats id ≡ some v → times slot v.slots ≤ times_in_all slot seats
times-le-all seats id v slot at = omega (arith, total-set (λ (u : Claimant). times slot u.slots) seats id v (claimant false []) at)

module _ (count : ℕ) (words : List ℕ) (seats : List Claimant) (rule : Claims count words seats) where
  -- A slot moves between its word and the list of one seat
  pub moves : (id slot n : ℕ) (v w : Claimant) → get_elem? seats id ≡ some v → slot < count → n ≤ 1 → w.whole ≡ v.whole
      → n + times slot v.slots ≡ get_or words slot 0 + times slot w.slots → ((k : ℕ) → (k ≡ slot → ⊥) → times k w.slots ≡ times k v.slots)
      → Claims count (set words slot n) (set seats id w)
  moves id slot n v w at below small same_whole same_sum others = record {
    a_word_each = length-set words slot n ∙ rule.a_word_each;
    counted = λ k l. ⊎_elim (λ (e : k ≡ slot). counted_here k e) (λ (ne : k ≡ slot → ⊥). get_or-set_other words slot k n 0 ne ∙ rule.counted k l ∙ sym (elsewhere k ne)) (cases_eq k slot);
    within = λ k l. (let ne : k ≡ slot → ⊥ = λ e. omega arith in elsewhere k ne ∙ rule.within k l);
    once = λ k. ⊎_elim (λ (e : k ≡ slot). subst (λ j. times_in_all j (set seats id w) ≤ 1) (sym e) (let t = there in omega arith)) (λ (ne : k ≡ slot → ⊥). let t = elsewhere k ne in let o = rule.once k in omega arith) (cases_eq k slot);
    alone = λ j u e whole. length-set seats id w ∙ ⊎_elim
        (λ (t : (j ≡ id) × (w ≡ u)). rule.alone id v at (sym same_whole ∙ ap (λ (x : Claimant). x.whole) t.1 ∙ whole))
        (λ (t : (j ≢ id) × (get_elem? seats j ≡ some u)). rule.alone j u t.1 whole)
        (at_set seats id j w u e);
  }
    where
      total : (k : ℕ) → times_in_all k (set seats id w) + times k v.slots ≡ times_in_all k seats + times k w.slots
      total k = total-set (λ (u : Claimant). times k u.slots) seats id v w at

      elsewhere : (k : ℕ) → (k ≡ slot → ⊥) → times_in_all k (set seats id w) ≡ times_in_all k seats
      elsewhere k ne = let t = total k in let o = others k ne in omega arith

      there : times_in_all slot (set seats id w) ≡ n
      there = let t = total slot in let c = rule.counted slot below in omega arith

      counted_here : (k : ℕ) → k ≡ slot → get_or (set words slot n) k 0 ≡ times_in_all k (set seats id w)
      counted_here k e = subst (λ j. get_or (set words slot n) j 0 ≡ times_in_all j (set seats id w)) (sym e) (get_or-set_same words slot n 0 (let l = rule.a_word_each in omega arith) ∙ sym there)

-- The rule as a table has it
abbrev Rule : ℕ → State (Unit {0}) Claimant → Type 0
Rule count s = Claims count s.words s.views

abbrev Now : Type 0
Now = State (Unit {0}) Claimant

-- a step that changes nothing
unchanged : (count slot : ℕ) (s : Now) (id : ℕ) (me : Sitting) → Rule count s → get_elem? s.views id ≡ some me.0 → slot < count → Rule count (stepped s slot (get_or s.words slot 0) id me.1 me.0 keeps)
unchanged count slot s id me rule at below =
    moves count s.words s.views rule id slot (get_or s.words slot 0) me.0 me.0 at below (let c = rule.counted slot below in let o = rule.once slot in omega arith) refl refl (λ k ne. refl)

-- if 0 is found, the slot is appended to the list
won : (count slot : ℕ) (s : Now) (id : ℕ) (me : Sitting) → Rule count s → get_elem? s.views id ≡ some me.0 → slot < count → get_or s.words slot 0 ≡ 0
    → Rule count (stepped s slot 1 id me.1 (claimant me.0.whole (me.0.slots ++ slot ∷ [])) keeps)
won count slot s id me rule at below free =
    moves count s.words s.views rule id slot 1 me.0 (claimant me.0.whole (me.0.slots ++ slot ∷ [])) at below (omega arith) refl
    (omega (arith, times_push slot me.0.slots slot, one_same slot slot refl))
    (λ k ne. omega (arith, times_push k me.0.slots slot, one_other slot k (λ e. ne (sym e))))

abbrev Tells : ℕ → Claimant → Claimant → Bool → Type 0
Tells slot v after b =
    MatchBool b ((after ≡ claimant v.whole (v.slots ++ slot ∷ [])) × (times slot v.slots ≡ 0)) ((after ≡ v) × (v.whole ≡ true → 0 < times slot v.slots))

pub exchanges : (count slots id slot : ℕ) (me : Sitting) → slot < count
    → Allows (Rule count) slots id me slot (λ n. either (eqb n 0) 1 n) (Exchanged (step slots slot 0 1 none) me)
exchanges count slots id slot me below s rule _ at _ =
    let x : ℕ = get_or s.words slot 0 in
    let w = claimant me.0.whole (me.0.slots ++ slot ∷ []) in
    ⊎_elim
    (λ (free : x ≡ 0). (
      w,
      keeps,
      tt,
      subst (λ b. Rule count (stepped s slot (either b 1 x) id me.1 w keeps)) (sym (eq-eqb x 0 free)) (won count slot s id me rule at below free),
      (refl, subst (Tells slot me.0 w) (sym (eq-eqb x 0 free)) (refl, (let c = rule.counted slot below in let l = times-le-all s.views id me.0 slot at in omega arith))),
    ))
    (λ (taken : x ≡ 0 → ⊥). (
      me.0,
      keeps,
      tt,
      subst (λ b. Rule count (stepped s slot (either b 1 x) id me.1 me.0 keeps)) (sym (ne_eqb x 0 taken)) (unchanged count slot s id me rule at below),
      (
        refl,
        subst (Tells slot me.0 me.0) (sym (ne_eqb x 0 taken))
            (refl, λ whole. let c = rule.counted slot below in let l = only_seat s.views id me.0 slot (rule.alone id me.0 at whole) at in omega arith),
      ),
    ))
    (cases_eq x 0)

-- the slot is in the list, so its word is 1
pub gives : (count slots id slot : ℕ) (me : Sitting) → slot < count → 0 < times slot me.0.slots
    → Allows (Rule count) slots id me slot (λ _. 0) (λ _. Gave (step slots slot 0 0 none) me 0)
gives count slots id slot me below held s rule _ at _ =
    let w = claimant me.0.whole (without (slot ∷ []) me.0.slots) in
    let c = rule.counted slot below in
    let l = times-le-all s.views id me.0 slot at in
    let o = rule.once slot in (
      w,
      keeps,
      tt,
      moves count s.words s.views rule id slot 0 me.0 w at below (omega arith) refl
          (omega (arith, times-without_same slot me.0.slots))
          (λ k ne. times-without_other k slot me.0.slots ne),
      (refl, refl),
    )

pub looks : (count slots id slot : ℕ) (me : Sitting) → slot < count → Allows (Rule count) slots id me slot (λ n. n) (Looked (step slots slot 0 0 none) me)
looks count slots id slot me below s rule _ at _ = (
  me.0,
  keeps,
  tt,
  unchanged count slot s id me rule at below,
  (refl, refl, λ whole. rule.counted slot below ∙ only_seat s.views id me.0 slot (rule.alone id me.0 at whole) at),
)

-- the seat keeps its list, and the new one has none
pub splits : (count id : ℕ) (v : Claimant) → Splits (Rule count) id v (claimant false v.slots) (claimant false [])
splits count id v s rule at = let left = claimant false v.slots in let right = claimant false [] in record {
  a_word_each = rule.a_word_each;
  counted = λ k l. rule.counted k l ∙ sym (same k);
  within = λ k l. same k ∙ rule.within k l;
  once = λ k. (let e = same k in let o = rule.once k in omega arith);
  alone = λ j u e whole. ⊎_elim
      (λ (was : get_elem? (set s.views id left) j ≡ some u). ⊎_elim
      (λ (t : (j ≡ id) × (left ≡ u)). absurd (false≢true (ap (λ (z : Claimant). z.whole) t.1 ∙ whole)))
      (λ (t : (j ≢ id) × (get_elem? s.views j ≡ some u)). let n = t.0 in let one = rule.alone j u t.1 whole in let a = here s.views j u t.1 in let b = here s.views id v at in absurd (n (omega arith)))
      (at_set s.views id j left u was))
      (λ (new : right ≡ u). absurd (false≢true (ap (λ (z : Claimant). z.whole) new ∙ whole)))
      (at_snoc (set s.views id left) right u j e);
}
  where
    same : (k : ℕ) → times_in_all k (set s.views id (claimant false v.slots) ++ claimant false [] ∷ []) ≡ times_in_all k s.views
    same k = omega (
      arith,
      sum_by_push (λ (u : Claimant). times k u.slots) (set s.views id (claimant false v.slots)) (claimant false []),
      total-set (λ (u : Claimant). times k u.slots) s.views id v (claimant false v.slots) at,
    )

-- the seat takes in the other's list, which is then empty
pub joins : (count id other : ℕ) (v w : Claimant) → Joins (Rule count) id v other w (claimant false (v.slots ++ w.slots)) (claimant false [])
joins count id other v w s rule at apart there = let both = claimant false (v.slots ++ w.slots) in let spent = claimant false [] in record {
  a_word_each = rule.a_word_each;
  counted = λ k l. rule.counted k l ∙ sym (same k);
  within = λ k l. same k ∙ rule.within k l;
  once = λ k. (let e = same k in let o = rule.once k in omega arith);
  alone = λ j u e whole. ⊎_elim
      (λ (t : (j ≡ other) × (spent ≡ u)). absurd (false≢true (ap (λ (z : Claimant). z.whole) t.1 ∙ whole)))
      (λ (t : (j ≢ other) × (get_elem? (set s.views id both) j ≡ some u)). ⊎_elim
      (λ (q : (j ≡ id) × (both ≡ u)). absurd (false≢true (ap (λ (z : Claimant). z.whole) q.1 ∙ whole)))
      (λ (q : (j ≢ id) × (get_elem? s.views j ≡ some u)). let n = q.0 in let one = rule.alone j u q.1 whole in let a = here s.views j u q.1 in let b = here s.views id v at in absurd (n (omega arith)))
      (at_set s.views id j both u t.1))
      (at_set (set s.views id both) other j spent u e);
}
  where
    same : (k : ℕ) → times_in_all k (set (set s.views id (claimant false (v.slots ++ w.slots))) other (claimant false [])) ≡ times_in_all k s.views
    same k = let both = claimant false (v.slots ++ w.slots) in let spent = claimant false [] in omega (
      arith,
      total-set (λ (u : Claimant). times k u.slots) (set s.views id both) other w spent there,
      total-set (λ (u : Claimant). times k u.slots) s.views id v both at,
      times-append k v.slots w.slots,
    )

-- all words are 0, and the one seat holds nothing
pub begins : (count : ℕ) (words : List ℕ) → length words ≡ count → ((k : ℕ) → k < count → get_or words k 0 ≡ 0) → Claims count words (newcomer ∷ [])
begins count words long zeros = record {
  a_word_each = long;
  counted = zeros;
  within = λ k l. refl;
  once = λ k. omega arith;
  alone = λ id v at whole. refl;
}

-- The words of a closed table describe the lists at the end; if the seat is whole, no slot is taken
pub ends : (count id : ℕ) (v : Claimant) (whole : Bool) (words : List ℕ) (homes : List (Unit {0})) (flags : List Bool) → Final (Seen (Rule count) id v) words homes → v.whole ≡ whole → v.slots ≡ []
    → ((slot : ℕ) → get_or flags slot false ≡ ltb 0 (get_or words slot 0)) → ShowsTaken count whole flags
ends count id v whole words homes flags last is empty says = record {
  words = last.0.words;
  seats = last.0.views;
  id = id;
  rule = last.1.0;
  closer = last.1.1 ∙ (λ i. some (claimant (is i) (empty i)));
  flagged = λ slot. says slot ∙ ap (λ ws. ltb 0 (get_or ws slot 0)) (sym last.2) ∙ ap (ltb 0) (word slot);
}
  where
    word : (slot : ℕ) → get_or last.0.words slot 0 ≡ times_in_all slot last.0.views
    word slot = ⊎_elim (λ (l : slot < count). last.1.0.counted slot l)
        (λ (l : count ≤ slot). get_or_past last.0.words slot 0 (let n = last.1.0.a_word_each in omega arith) ∙ sym (last.1.0.within slot l)) (cases_lt slot count)

pub none_left : (count : ℕ) (whole : Bool) (flags : List Bool) → ShowsTaken count whole flags → whole ≡ true → All (λ taken. taken ≡ false) flags
none_left count whole flags e is k d l =
    let all = only_seat e.seats e.id (claimant whole []) k (e.rule.alone e.id (claimant whole []) e.closer is) e.closer in
    get_or_default flags k d false l ∙ e.flagged k ∙ ap (ltb 0) all

-- what the rule means
pub apart : (count : ℕ) (words : List ℕ) (seats : List Claimant) → Claims count words seats → AreApart seats
apart count words seats rule id other v w at there differ slot one two =
    let first = times-from_Contains slot v.slots one in
    let second = times-from_Contains slot w.slots two in
    let none = claimant false [] in
    let kept : get_elem? (set seats id none) other ≡ some w = set_else seats id other none (λ e. differ (sym e)) ∙ there in
    let without = total-set (λ (u : Claimant). times slot u.slots) seats id v none at in
    let counts = times-le-all (set seats id none) other w slot kept in
    let o = rule.once slot in
    absurd (omega arith)

pub small_words : (count : ℕ) (words : List ℕ) (seats : List Claimant) → Claims count words seats → All (λ word. word ≤ 1) words
small_words count words seats rule k d l =
    let is = rule.counted k (let n = rule.a_word_each in omega arith) in
    let o = rule.once k in
    let small : get_or words k 0 ≤ 1 = omega arith in
    subst (λ n. n ≤ 1) (get_or_default words k 0 d l) small
