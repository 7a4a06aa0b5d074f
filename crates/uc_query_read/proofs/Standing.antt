-- The positions of the cursors of a walk: before the least key, and after it once it was passed.
use Rattle.std.proofs.Common.{◌≡◌, ℕ, suc, ◌<◌, ◌≤◌, max, Bool, true, false, cond, List, [], ◌∷◌, ◌++◌, map, take, drop, filter, length, get_or, Option, Some, None, refl, sym, ap, ◌∙◌, subst, arith}
use Rattle.std.specs.List.{AllByRecursion}
use Rattle.std.specs.declared.cmp.Ordering.{Ordering}
use Rattle.std.specs.declared.cmp.Ordering.TheVariants.{Less, Equal, Greater}
use Rattle.std.specs.Ordering.{is_lt, is_le, ordering_reverse}
use Rattle.std.proofs.lemmas.Bool.{false≢true}
use Rattle.std.proofs.lemmas.Cmp.{nat_list_cmp_total}
use Rattle.std.proofs.lemmas.List.{length-map, take_at}
use Rattle.std.proofs.lemmas.List.Elements.{All-from_recursion}
use Rattle.std.proofs.lemmas.List.Sums.{length-filter}
use Rattle.std.proofs.lemmas.Map.Lookups.{exact_bytes}
use Rattle.uc_bytes.specs.Bytes.{bytes_cmp}
use Rattle.uc_run_entry.specs.declared.entry.Entry.{Entry}
use Rattle.uc_run_entry.specs.Run.{Contents}
use Rattle.uc_run_entry.specs.Seek.{is_passed, seek_place}
use Rattle.uc_run.specs.Cursors.{Standing}
use Rattle.uc_run.specs.NextKey.{IsLeastKey, IsNextKey}
use Rattle.uc_run.proofs.Order.{key_passed, passed_both}
use Rattle.uc_compact.proofs.Lists.{all-front, all-back}
use Rattle.uc_query_read.specs.Answers.{is_below}
use Rattle.uc_compact.specs.Inputs.{points_of}
use Rattle.uc_query_read.specs.Ahead.{keys_ahead}
use Rattle.uc_query_read.specs.Walks.{Walk, walk_at, runs_of, standing_at, passed, StandsAt}
use Rattle.uc_query_read.proofs.Walking.{comes_none, comes_too_far, comes_next}

-- ---- tests that pass the same count the same

module _ (f g : Entry → Bool) where
  same_by : (p : Entry) (ps qs : List Entry) (b c : Bool) → b ≡ c → length ps ≡ length qs → length (cond b (p ∷ ps) ps) ≡ length (cond c (p ∷ qs) qs)
  same_by p ps qs true true e rest = ap suc rest
  same_by p ps qs true false e rest = absurd (false≢true (sym e))
  same_by p ps qs false true e rest = absurd (false≢true e)
  same_by p ps qs false false e rest = rest

  pub same_length : (ps : List Entry) → AllByRecursion (λ p. f p ≡ g p) ps → length (filter f ps) ≡ length (filter g ps)
  same_length [] h = refl
  same_length (p ∷ ps) h = same_by p (filter f ps) (filter g ps) (f p) (g p) h.0 (same_length ps h.1)

  pub more_by : (p : Entry) (ps qs : List Entry) (b c : Bool) → (b ≡ true → c ≡ true) → length ps ≤ length qs → length (cond b (p ∷ ps) ps) ≤ length (cond c (p ∷ qs) qs)
  more_by p ps qs true true e rest = omega (arith, rest)
  more_by p ps qs true false e rest = absurd (false≢true (e refl))
  more_by p ps qs false true e rest = omega (arith, rest)
  more_by p ps qs false false e rest = rest

  pub more_length : ((p : Entry) → f p ≡ true → g p ≡ true) → (ps : List Entry) → length (filter f ps) ≤ length (filter g ps)
  more_length weaker [] = omega arith
  more_length weaker (p ∷ ps) = more_by p (filter f ps) (filter g ps) (f p) (g p) (weaker p) (more_length weaker ps)

-- ---- the cursors stand before the least key

module _ (low : List ℕ) (strict : Bool) (key : List ℕ) (fresh : is_passed low strict key ≡ false) where
  abbrev IsFrom : Entry → Type 0
  IsFrom p = is_passed low strict p.key ≡ false → is_le (bytes_cmp key p.key) ≡ true

  below_by : (x : List ℕ) (o : Ordering) → bytes_cmp x key ≡ o → is_passed low strict x ≡ true → is_lt o ≡ true
  below_by x Less e passes = refl
  below_by x Equal e passes = absurd (false≢true (sym fresh ∙ subst (λ (k : List ℕ). is_passed low strict k ≡ true) (exact_bytes x key e) passes))
  below_by x Greater e passes =
      absurd (false≢true (sym fresh ∙ key_passed low key x strict (nat_list_cmp_total.antisymm key x ∙ ap ordering_reverse e) passes))

  not_below : (o : Ordering) → is_le (ordering_reverse o) ≡ true → is_lt o ≡ false
  not_below Less e = absurd (false≢true e)
  not_below Equal e = refl
  not_below Greater e = refl

  same_test : (p : Entry) (b : Bool) → is_passed low strict p.key ≡ b → IsFrom p → b ≡ is_passed key false p.key
  same_test p true e from = sym (below_by p.key (bytes_cmp p.key key) refl e)
  same_test p false e from = sym (not_below (bytes_cmp p.key key) (sym (ap is_le (nat_list_cmp_total.antisymm key p.key)) ∙ from e))

  same_tests : (ps : List Entry) → AllByRecursion IsFrom ps → AllByRecursion (λ p. is_passed low strict p.key ≡ is_passed key false p.key) ps
  same_tests [] h = tt
  same_tests (p ∷ ps) h = (same_test p (is_passed low strict p.key) refl h.0, same_tests ps h.1)

  same_place : (ps : List Entry) → AllByRecursion IsFrom ps → seek_place ps low strict ≡ seek_place ps key false
  same_place ps h =
      sym (length-filter (λ p. is_passed low strict p.key) ps)
      ∙ same_length (λ p. is_passed low strict p.key) (λ p. is_passed key false p.key) ps (same_tests ps h)
      ∙ length-filter (λ p. is_passed key false p.key) ps

  before_it : (cs : List Standing) → AllByRecursion (StandsAt low strict) cs → AllByRecursion IsFrom (points_of (runs_of cs)) → AllByRecursion (StandsAt key false) cs
  before_it [] h from = tt
  before_it (c ∷ cs) h from = (
    h.0 ∙ same_place c.run.points (all-front IsFrom c.run.points (points_of (runs_of cs)) from),
    before_it cs h.1 (all-back IsFrom c.run.points (points_of (runs_of cs)) from),
  )

-- ---- and after it once it was passed

module _ (key : List ℕ) where
  further : (ps : List Entry) → seek_place ps key false ≤ seek_place ps key true
  further ps =
      let le : length (filter (λ p. is_passed key false p.key) ps) ≤ length (filter (λ p. is_passed key true p.key) ps) = more_length (λ p. is_passed key false p.key) (λ p. is_passed key true p.key) (λ p. passed_both key p) ps in
      let a : length (filter (λ p. is_passed key false p.key) ps) ≡ seek_place ps key false = length-filter (λ p. is_passed key false p.key) ps in
      let b : length (filter (λ p. is_passed key true p.key) ps) ≡ seek_place ps key true = length-filter (λ p. is_passed key true p.key) ps in
      omega (arith, le, a, b)

  pub one_behind : (n : ℕ) (ps : List Entry) → n ≡ seek_place ps key false → max n (seek_place ps key true) ≡ seek_place ps key true
  one_behind n ps e = let le : seek_place ps key false ≤ seek_place ps key true = further ps in omega (arith, e, le)

  pub all_behind : (cs : List Standing) → AllByRecursion (StandsAt key false) cs → AllByRecursion (StandsAt key true) (map (passed key) cs)
  all_behind [] h = tt
  all_behind (c ∷ cs) h = (one_behind c.place c.run.points h.0, all_behind cs h.1)

  pub runs_stay : (cs : List Standing) → runs_of (map (passed key) cs) ≡ runs_of cs
  runs_stay [] = refl
  runs_stay (c ∷ cs) = ap (λ (runs : List Contents). c.run ∷ runs) (runs_stay cs)

-- the cursors that were borrowed and moved come back
pub come_back : (moves : Standing → Standing) (cs lent new : List Standing) (len : ℕ) → length cs ≡ len → lent ≡ cs → new ≡ map moves lent → take len (new ++ drop (length new) cs) ≡ map moves cs
come_back moves cs lent new len long same made =
    let all : new ≡ map moves cs = made ∙ ap (map moves) same in
    take_at new (drop (length new) cs) len (ap length all ∙ length-map cs moves ∙ long) ∙ all

-- ---- at the start

pub all_start : (low : List ℕ) (strict : Bool) (runs : List Contents) → AllByRecursion (StandsAt low strict) (map (standing_at low strict) runs)
all_start low strict [] = tt
all_start low strict (r ∷ rs) = (refl, all_start low strict rs)

pub runs_start : (low : List ℕ) (strict : Bool) (runs : List Contents) → runs_of (map (standing_at low strict) runs) ≡ runs
runs_start low strict [] = refl
runs_start low strict (r ∷ rs) = ap (λ (runs : List Contents). r ∷ runs) (runs_start low strict rs)

-- the cursor at a place of the list
pub at_place : (low : List ℕ) (strict : Bool) (cs : List Standing) (i : ℕ) (c : Standing) → i < length cs → c ≡ get_or cs i c → AllByRecursion (StandsAt low strict) cs → StandsAt low strict c
at_place low strict cs i c lt is h =
    subst (StandsAt low strict) (sym is) (All-from_recursion (StandsAt low strict) cs h i c lt)

-- ---- a step

-- a walk, the cursors that it holds, and the least key that was found
pub record Looks (walk : Walk) (cursors : List Standing) (low : List ℕ) (strict : Bool) (high found : Option (List ℕ)) : Type 0 where
  pub is : walk_at low strict high (runs_of cursors) ≡ walk
  pub there : AllByRecursion (StandsAt low strict) cursors
  pub least : (bound : List ℕ) (behind : Bool) → AllByRecursion (StandsAt bound behind) cursors → IsNextKey (points_of (runs_of cursors)) bound behind found

module _ (walk : Walk) (cursors : List Standing) (low : List ℕ) (strict : Bool) (high found : Option (List ℕ)) (looks : Looks walk cursors low strict high found) where
  abbrev points : List Entry
  points = points_of (runs_of cursors)

  next : IsNextKey points low strict found
  next = looks.least low strict looks.there

  keys_are : walk.keys ≡ keys_ahead points low strict high
  keys_are = sym (ap (λ (w : Walk). w.keys) looks.is)

  pub ends : found ≡ None → walk.keys ≡ []
  ends none = keys_are ∙ (comes_none points low strict high (subst (IsNextKey points low strict) none next)).0

  module _ (key : List ℕ) (some : found ≡ Some key) where
    it_is_next : IsNextKey points low strict (Some key)
    it_is_next = subst (IsNextKey points low strict) some next

    pub too_far : is_below key high ≡ false → walk.keys ≡ []
    too_far out = keys_are ∙ (comes_too_far points low strict high key it_is_next out).0

    least_is : IsLeastKey points low strict key
    least_is = it_is_next

    pub stand_before : AllByRecursion (StandsAt key false) cursors
    stand_before = before_it low strict key least_is.not_passed cursors looks.there least_is.least

    module _ (moved : List Standing) (passes : moved ≡ map (passed key) cursors) where
      pub stand_behind : AllByRecursion (StandsAt key true) moved
      stand_behind = subst (AllByRecursion (StandsAt key true)) (sym passes) (all_behind key cursors stand_before)

      stay : runs_of moved ≡ runs_of cursors
      stay = ap runs_of passes ∙ runs_stay key cursors

      pub same_runs : runs_of moved ≡ walk.runs
      same_runs = stay ∙ ap (λ (w : Walk). w.runs) looks.is

      pub comes : is_below key high ≡ true → walk.keys ≡ key ∷ keys_ahead (points_of (runs_of moved)) key true high
      comes below =
          keys_are
          ∙ comes_next points low strict high key it_is_next below
          ∙ ap (λ (runs : List Contents). key ∷ keys_ahead (points_of runs) key true high) (sym stay)
