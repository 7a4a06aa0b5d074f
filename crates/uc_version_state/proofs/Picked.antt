-- The pick, rule by rule.
use Rattle.std.proofs.Common.{◌≡◌, ℕ, suc, ◌+◌, ◌*◌, ◌-◌, ◌<◌, ◌≤◌, min, ◌⊎◌, inl, inr, Bool, true, false, cond, ltb, leb, Option, Some, None, List, length, take, drop, get_or, refl, sym, ap, subst, ◌∙◌, arith}
use Rattle.std.specs.Prelude.{◌&&◌, is_some}
use Rattle.std.specs.Option.{option_or}
use Rattle.std.proofs.lemmas.Bool.{false≢true, true≢false, and_parts, and_from, leb-true, leb-false, le-leb, ltb-true, lt-ltb, le-ltb}
use Rattle.std.proofs.lemmas.List.{take_all, length-drop}
use Rattle.uc_version_state.specs.declared.options.Options.{Options}
use Rattle.uc_version_state.specs.declared.stretch.Stretch.{Stretch}
use Rattle.uc_version_state.specs.declared.candidate.Candidate.{Candidate}
use Rattle.uc_version_state.specs.Options.{are_good}
use Rattle.uc_version_state.specs.Picks.{total, newer, oldest, are_unclaimed, is_amplified, space_amplification, first_picked, collected, collected_enough, size_ratio, unclaimed, unclaimed_at_most, number_of_runs, picked}
use Rattle.uc_version_state.specs.Collecting.{MayBeCollected}
use Rattle.uc_version_state.proofs.First.{some_same, IsFirst, first_is, none_is}
use Rattle.uc_version_state.proofs.Collected.{may_be}
use Rattle.uc_version_state.proofs.Unclaimed.{taken, there, claimed_in_front}

-- ---- tests

if_some : (b : Bool) (s t : Stretch) → cond b (Some s) None ≡ Some t → (b ≡ true) × (s ≡ t)
if_some true s t e = (refl, some_same s t e)
if_some false s t e = absurd (false≢true (ap is_some e))

unless : (b : Bool) (o : Option Stretch) (s : Stretch) → cond b None o ≡ Some s → (b ≡ false) × (o ≡ Some s)
unless true o s e = absurd (false≢true (ap is_some e))
unless false o s e = (refl, e)

when : (b : Bool) (o : Option Stretch) (s : Stretch) → cond b o None ≡ Some s → (b ≡ true) × (o ≡ Some s)
when true o s e = (refl, e)
when false o s e = absurd (false≢true (ap is_some e))

either : (o p : Option Stretch) (s : Stretch) → option_or o p ≡ Some s → (o ≡ Some s) ⊎ (p ≡ Some s)
either None p s e = inr e
either (Some t) p s e = inl e

-- what good options say of the widths
pub record Widths (o : Options) : Type 0 where
  pub two : 2 ≤ o.least
  pub least : o.least ≤ o.greatest
  pub trigger : 1 ≤ o.trigger

pub widths : (o : Options) → are_good o ≡ true → Widths o
widths o good =
    let p = and_parts _ _ good in
    let q = and_parts _ _ p.0 in
    let r = and_parts _ _ q.0 in
    let s = and_parts _ _ r.0 in
    let t = and_parts _ _ s.0 in
    record { two = leb-true 2 o.least s.1; least = leb-true o.least o.greatest r.1; trigger = leb-true 1 o.trigger t.1 }

-- ---- space amplification

pub whole : (o : Options) (runs : List Candidate) (s : Stretch) → space_amplification o runs ≡ Some s → (2 ≤ length runs) × (are_unclaimed runs ≡ true) × (s.first ≡ 0) × (s.count ≡ length runs)
whole o runs s e =
    let w : Stretch = record { first = 0; count = length runs } in
    let p = if_some (leb 2 (length runs) && are_unclaimed runs && is_amplified o runs) w s e in
    let q = and_parts (leb 2 (length runs) && are_unclaimed runs) (is_amplified o runs) p.0 in
    let r = and_parts (leb 2 (length runs)) (are_unclaimed runs) q.0 in
    (leb-true 2 (length runs) r.0, r.1, sym (ap (λ (z : Stretch). z.first) p.1), sym (ap (λ (z : Stretch). z.count) p.1))

-- ---- size ratio

enough_by : (least n count : ℕ) (b : Bool) → leb least n ≡ b → count ≡ cond b n 0 → 0 < count → (count ≡ n) × (least ≤ n)
enough_by least n count true t e l = (e, leb-true least n t)
enough_by least n count false t e l = omega (arith, e, l)

too_few_by : (least n : ℕ) (b : Bool) → leb least n ≡ b → cond b n 0 ≡ 0 → 0 < least → n < least
too_few_by least n true t e l = omega (arith, e, l)
too_few_by least n false t e l = leb-false least n t

pub record IsRatioPick (o : Options) (runs : List Candidate) (s : Stretch) : Type 0 where
  pub there : s.first < length runs
  pub count : s.count ≡ collected o (drop s.first runs)
  pub least : o.least ≤ s.count
  pub some : 0 < s.count
  pub before : 0 < o.least → (k : ℕ) → k < s.first → collected o (drop k runs) < o.least

pub ratio_pick : (o : Options) (runs : List Candidate) (s : Stretch) → size_ratio o runs ≡ Some s → IsRatioPick o runs s
ratio_pick o runs s e =
    let f : IsFirst (collected_enough o) 0 runs s = first_is (collected_enough o) 0 runs s e in
    let at : f.place ≡ s.first = omega (arith, f.first) in
    let n = collected o (drop f.place runs) in
    let p = enough_by o.least n s.count (leb o.least n) refl f.count f.some in
    record {
      there = omega (arith, f.there, at);
      count = p.0 ∙ ap (λ i. collected o (drop i runs)) at;
      least = omega (arith, p.0, p.1);
      some = f.some;
      before = λ l k b. too_few_by o.least (collected o (drop k runs)) (leb o.least (collected o (drop k runs))) refl (f.before k (omega (arith, b, at))) l;
    }

pub no_ratio_pick : (o : Options) (runs : List Candidate) → 0 < o.least → size_ratio o runs ≡ None → (k : ℕ) → k < length runs → collected o (drop k runs) < o.least
no_ratio_pick o runs l e k b =
    too_few_by o.least (collected o (drop k runs)) (leb o.least (collected o (drop k runs))) refl (none_is (collected_enough o) 0 runs e k b) l

-- ---- number of runs

abbrev most_of : Options → List Candidate → ℕ
most_of o runs = min (length runs - o.trigger + 1) o.greatest

two_by : (most n count : ℕ) (b : Bool) → leb 2 n ≡ b → count ≡ cond b (min n most) 0 → 0 < count → (count ≡ min n most) × (2 ≤ n)
two_by most n count true t e l = (e, leb-true 2 n t)
two_by most n count false t e l = omega (arith, e, l)

not_two_by : (most n : ℕ) (b : Bool) → leb 2 n ≡ b → cond b (min n most) 0 ≡ 0 → 0 < most → n < 2
not_two_by most n true t e l = let two = leb-true 2 n t in omega (arith, e, l, two)
not_two_by most n false t e l = leb-false 2 n t

pub record IsNumberPick (o : Options) (runs : List Candidate) (s : Stretch) : Type 0 where
  pub many : o.trigger < length runs
  pub there : s.first < length runs
  pub two : 2 ≤ unclaimed (drop s.first runs)
  pub count : s.count ≡ min (unclaimed (drop s.first runs)) (min (length runs - o.trigger + 1) o.greatest)
  pub before : 0 < o.greatest → (k : ℕ) → k < s.first → unclaimed (drop k runs) < 2

pub number_pick : (o : Options) (runs : List Candidate) (s : Stretch) → number_of_runs o runs ≡ Some s → IsNumberPick o runs s
number_pick o runs s e =
    let w = when (ltb o.trigger (length runs)) (first_picked (unclaimed_at_most (most_of o runs)) 0 runs) s e in
    let f : IsFirst (unclaimed_at_most (most_of o runs)) 0 runs s = first_is (unclaimed_at_most (most_of o runs)) 0 runs s w.1 in
    let at : f.place ≡ s.first = omega (arith, f.first) in
    let n = unclaimed (drop f.place runs) in
    let p = two_by (most_of o runs) n s.count (leb 2 n) refl f.count f.some in
    record {
      many = ltb-true o.trigger (length runs) w.0;
      there = omega (arith, f.there, at);
      two = subst (λ i. 2 ≤ unclaimed (drop i runs)) at p.1;
      count = p.0 ∙ ap (λ i. min (unclaimed (drop i runs)) (most_of o runs)) at;
      before = λ g k b. not_two_by (most_of o runs) (unclaimed (drop k runs)) (leb 2 (unclaimed (drop k runs))) refl (f.before k (omega (arith, b, at))) (omega (arith, g));
    }

pub no_number_pick : (o : Options) (runs : List Candidate) → 0 < o.greatest → o.trigger < length runs → number_of_runs o runs ≡ None → (k : ℕ) → k < length runs → unclaimed (drop k runs) < 2
no_number_pick o runs g l e k b =
    let t : ltb o.trigger (length runs) ≡ true = lt-ltb o.trigger (length runs) l in
    let none : first_picked (unclaimed_at_most (most_of o runs)) 0 runs ≡ None = sym (ap (λ b. cond b (first_picked (unclaimed_at_most (most_of o runs)) 0 runs) None) t) ∙ e in
    not_two_by (most_of o runs) (unclaimed (drop k runs)) (leb 2 (unclaimed (drop k runs))) refl (none_is (unclaimed_at_most (most_of o runs)) 0 runs none k b) (omega (arith, g))

-- in front of it stands a claimed run, or it begins with the newest run
pub in_front : (o : Options) (runs : List Candidate) (s : Stretch) → 0 < o.greatest → number_of_runs o runs ≡ Some s → (k : ℕ) (d : Candidate) → k + 1 ≡ s.first → (get_or runs k d).claimed ≡ true
in_front o runs s g e k d at =
    let p : IsNumberPick o runs s = number_pick o runs s e in
    let here : s.first ≡ suc k = omega (arith, at) in
    claimed_in_front runs k d (omega (arith, p.there, here)) (subst (λ i. 2 ≤ unclaimed (drop i runs)) here p.two) (p.before g k (omega (arith, here)))

-- ---- any of them

pub record IsPick (o : Options) (runs : List Candidate) (s : Stretch) : Type 0 where
  pub there : s.first + s.count ≤ length runs
  pub unclaimed : are_unclaimed (take s.count (drop s.first runs)) ≡ true
  pub two : are_good o ≡ true → 2 ≤ s.count

whole_is : (o : Options) (runs : List Candidate) (s : Stretch) → space_amplification o runs ≡ Some s → IsPick o runs s
whole_is o runs s e =
    let w = whole o runs s e in
    let all : take s.count (drop s.first runs) ≡ runs = ap (λ i. take s.count (drop i runs)) w.2 ∙ take_all s.count runs (omega (arith, w.3)) in
    record { there = omega (arith, w.2, w.3); unclaimed = ap are_unclaimed all ∙ w.1; two = λ g. omega (arith, w.0, w.3) }

ratio_is : (o : Options) (runs : List Candidate) (s : Stretch) → size_ratio o runs ≡ Some s → IsPick o runs s
ratio_is o runs s e =
    let p : IsRatioPick o runs s = ratio_pick o runs s e in
    let m : MayBeCollected o (drop s.first runs) (collected o (drop s.first runs)) = may_be o (drop s.first runs) in
    let len = length-drop s.first runs in
    record {
      there = omega (arith, p.there, p.count, m.there, len);
      unclaimed = ap (λ n. are_unclaimed (take n (drop s.first runs))) p.count ∙ m.unclaimed;
      two = λ g. let w : Widths o = widths o g in omega (arith, w.two, p.least);
    }

number_is : (o : Options) (runs : List Candidate) (s : Stretch) → number_of_runs o runs ≡ Some s → IsPick o runs s
number_is o runs s e =
    let p : IsNumberPick o runs s = number_pick o runs s e in
    let t = there (drop s.first runs) in
    let len = length-drop s.first runs in
    let few : s.count ≤ unclaimed (drop s.first runs) = omega (arith, p.count) in
    record {
      there = omega (arith, p.there, few, t, len);
      unclaimed = taken (drop s.first runs) s.count few;
      two = λ g. let w : Widths o = widths o g in omega (arith, w.two, w.least, p.count, p.two, p.many);
    }

pub pick : (o : Options) (runs : List Candidate) (s : Stretch) → picked o runs ≡ Some s → IsPick o runs s
pick o runs s e = by (either (space_amplification o runs) (option_or (size_ratio o runs) (number_of_runs o runs)) s (unless (ltb (length runs) o.trigger) (option_or (space_amplification o runs) (option_or (size_ratio o runs) (number_of_runs o runs))) s e).1)
  where
    later : (size_ratio o runs ≡ Some s) ⊎ (number_of_runs o runs ≡ Some s) → IsPick o runs s
    later (inl e) = ratio_is o runs s e
    later (inr e) = number_is o runs s e

    by : (space_amplification o runs ≡ Some s) ⊎ (option_or (size_ratio o runs) (number_of_runs o runs) ≡ Some s) → IsPick o runs s
    by (inl e) = whole_is o runs s e
    by (inr e) = later (either (size_ratio o runs) (number_of_runs o runs) s e)

-- nothing below the trigger
pub below : (o : Options) (runs : List Candidate) → length runs < o.trigger → picked o runs ≡ None
below o runs l = ap (λ b. cond b None (option_or (space_amplification o runs) (option_or (size_ratio o runs) (number_of_runs o runs)))) (lt-ltb (length runs) o.trigger l)

-- all of them, where the newer ones are too large for the oldest
pub amplified : (o : Options) (runs : List Candidate) → o.trigger ≤ length runs → 2 ≤ length runs → are_unclaimed runs ≡ true → o.percent * total (oldest runs) < 100 * total (newer runs) → picked o runs ≡ Some (record { first = 0; count = length runs })
amplified o runs t two u l =
    let w : Stretch = record { first = 0; count = length runs } in
    let rest = option_or (size_ratio o runs) (number_of_runs o runs) in
    let test : (leb 2 (length runs) && are_unclaimed runs && is_amplified o runs) ≡ true = and_from (leb 2 (length runs) && are_unclaimed runs) (is_amplified o runs) (and_from (leb 2 (length runs)) (are_unclaimed runs) (le-leb 2 (length runs) two) u) (lt-ltb (o.percent * total (oldest runs)) (100 * total (newer runs)) l) in
    ap (λ b. cond b None (option_or (space_amplification o runs) rest)) (le-ltb (length runs) o.trigger t)
    ∙ ap (λ b. option_or (cond b (Some w) None) rest) test

-- ---- something is picked

picked_since : (o p : Option Stretch) → (p ≡ None → ⊥) → is_some (option_or o p) ≡ true
picked_since None None h = absurd (h refl)
picked_since None (Some s) h = refl
picked_since (Some s) p h = refl

is_some_or : (o p : Option Stretch) → is_some p ≡ true → option_or o p ≡ None → ⊥
is_some_or None p t e = true≢false (sym t ∙ ap is_some e)
is_some_or (Some s) p t e = true≢false (ap is_some e)

is_some_since : (o : Option Stretch) → (o ≡ None → ⊥) → is_some o ≡ true
is_some_since None h = absurd (h refl)
is_some_since (Some s) h = refl

pub progress : (o : Options) (runs : List Candidate) (k : ℕ) → are_good o ≡ true → o.trigger < length runs → 2 ≤ unclaimed (drop k runs) → is_some (picked o runs) ≡ true
progress o runs k g l two =
    let w : Widths o = widths o g in
    let t = there (drop k runs) in
    let len = length-drop k runs in
    let third : is_some (number_of_runs o runs) ≡ true = is_some_since (number_of_runs o runs) (λ e. let few = no_number_pick o runs (omega (arith, w.two, w.least)) l e k (omega (arith, two, t, len)) in omega (arith, few, two)) in
    ap (λ b. is_some (cond b None (option_or (space_amplification o runs) (option_or (size_ratio o runs) (number_of_runs o runs))))) (le-ltb (length runs) o.trigger (omega (arith, l)))
    ∙ picked_since (space_amplification o runs) (option_or (size_ratio o runs) (number_of_runs o runs)) (is_some_or (size_ratio o runs) (number_of_runs o runs) third)
