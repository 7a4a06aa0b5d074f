-- Invariant of the claims under names when one is made, given back or installed.
use Rattle.std.proofs.Common.{◌≡◌, ◌≢◌, ℕ, zero, suc, ◌+◌, ◌-◌, ◌<◌, ◌≤◌, Bool, true, false, cond, ltb, List, [], ◌∷◌, length, get_or, set, map, refl, sym, ap, ◌∙◌, subst, ◌⊎◌, inl, inr, get_or-set_other, arith}
use Rattle.std.specs.Prelude.{Option, Some, None}
use Rattle.std.specs.List.{AllByRecursion}
use Rattle.std.proofs.lemmas.Bool.{false≢true}
use Rattle.std.proofs.lemmas.List.{length-set}
use Rattle.uc_oper.specs.Operation.{Operation}
use Rattle.uc_claims.specs.Claims.{times}
use Rattle.uc_claims.specs.Holding.{AreDistinct}
use Rattle.uc_claims.proofs.Times.{times-cons, one_same, one_other, times-distinct, times-append}
use Rattle.uc_version_state.proofs.Once.{distinct-from_times, alone}
use Rattle.uc_bytes.specs.declared.write.Write.{Write}
use Rattle.uc_version_state.specs.Versions.{Stored}
use Rattle.uc_version_state.specs.Feeds.{memtables_in}
use Rattle.uc_version_state.specs.declared.stretch.Stretch.{Stretch}
use Rattle.uc_version.specs.declared.held_stretch.HeldStretch.{HeldStretch}
use Rattle.uc_version.specs.declared.held_stretch.TheConstants.{MOST_CLAIMS}
use Rattle.uc_version.specs.Owners.{Owner}
use Rattle.uc_version.specs.Claiming.{Claim, free_number, claim_of, has_ids, is_held, without_claim}
use Rattle.uc_version.specs.Installing.{moved_up}
use Rattle.uc_version.specs.AtOnce.{after_compaction}
use Rattle.uc_version.specs.Feeding.{moved_down, after_feed}
use Rattle.uc_version.proofs.CompactedNow.{free}
use Rattle.uc_query.specs.Names.{IsNamedHeld, AreHeld, numbers_of, given_back}
use Rattle.uc_query.specs.Turns.{claimed, compacted}

-- ---- which numbers are held

-- a claim that is held has no free number
pub not_free : (o : Owner) (d : Claim) (n : ℕ) → is_held o d ≡ true → get_or o.claims n None ≡ None → d.number ≢ n
not_free o d n held none e =
    false≢true (sym (ap (λ i. has_ids (get_or o.claims i None) d) e ∙ ap (λ (found : Option HeldStretch). has_ids found d) none) ∙ held)

-- it stays held whatever another number gets
pub held_beside : (o : Owner) (d : Claim) (n : ℕ) (x : Option HeldStretch) → is_held o d ≡ true → d.number ≢ n → is_held (record o { claims = set o.claims n x }) d ≡ true
held_beside o d n x held ne = ap (λ (found : Option HeldStretch). has_ids found d) (get_or-set_other o.claims n d.number x None ne) ∙ held

-- what stands at a number when each claim changes, where none stays none
changed_at : (f : Option HeldStretch → Option HeldStretch) → f None ≡ None → (cs : List (Option HeldStretch)) (i : ℕ) → get_or (map f cs) i None ≡ f (get_or cs i None)
changed_at f none [] i = sym none
changed_at f none (c ∷ cs) zero = refl
changed_at f none (c ∷ cs) (suc i) = changed_at f none cs i

-- a claim is held still where each has the ids that it had
held_changed : (f : Option HeldStretch → Option HeldStretch) → f None ≡ None → (d : Claim) → ((c : Option HeldStretch) → has_ids (f c) d ≡ has_ids c d) →
    (cs : List (Option HeldStretch)) → has_ids (get_or cs d.number None) d ≡ true → has_ids (get_or (map f cs) d.number None) d ≡ true
held_changed f none d ids cs held = ap (λ (found : Option HeldStretch). has_ids found d) (changed_at f none cs d.number) ∙ ids (get_or cs d.number None) ∙ held

moved_ids : (first count : ℕ) (c : Option HeldStretch) (d : Claim) → has_ids (moved_up first count c) d ≡ has_ids c d
moved_ids first count None d = refl
moved_ids first count (Some h) d = by_test (ltb first h.first)
  where
    by_test : (b : Bool) → has_ids (cond b (Some (record h { first = h.first - (count - 1) })) (Some h)) d ≡ has_ids (Some h) d
    by_test true = refl
    by_test false = refl

-- and if stretches move up, after new runs
pub held_moved : (o : Owner) (d : Claim) (first count : ℕ) (cs : List (Option HeldStretch)) → has_ids (get_or cs d.number None) d ≡ true → has_ids (get_or (map (moved_up first count) cs) d.number None) d ≡ true
held_moved o d first count cs held = held_changed (moved_up first count) refl d (λ c. moved_ids first count c d) cs held

pub held_installed : (m : Operation) (o : Owner) (c d : Claim) → is_held o d ≡ true → d.number ≢ c.number → is_held (compacted m o c) d ≡ true
held_installed m o c d held ne = moved
  where
    moved : is_held (compacted m o c) d ≡ true
    moved = held_moved o d _ _ (set o.claims c.number None) (held_beside o d c.number None held ne)

-- ---- names

-- the number that a name has, if it has one
abbrev pub number_in : Option Claim → List ℕ
number_in None = []
number_in (Some c) = c.number ∷ []

times-names : (c : Option Claim) (names : List (Option Claim)) (k : ℕ) → times k (numbers_of (c ∷ names)) ≡ times k (number_in c) + times k (numbers_of names)
times-names None names k = omega arith
times-names (Some c) names k = times-append k (c.number ∷ []) (numbers_of names)

-- the numbers of names of which one is another
pub times-set : (names : List (Option Claim)) (i : ℕ) (y : Option Claim) (k : ℕ) → i < length names →
    times k (numbers_of (set names i y)) + times k (number_in (get_or names i None)) ≡ times k (numbers_of names) + times k (number_in y)
times-set [] i y k lt = absurd (omega (arith, lt))
times-set (c ∷ cs) zero y k lt = let one = times-names y cs k in let other = times-names c cs k in omega (arith, one, other)
times-set (c ∷ cs) (suc i) y k lt =
    let one = times-names c (set cs i y) k in
    let other = times-names c cs k in
    let rest = times-set cs i y k (omega (arith, lt)) in
    omega (arith, one, other, rest)

one_number : (c : Claim) → times c.number (number_in (Some c)) ≡ 1
one_number c = omega (arith, times-cons c.number c.number [], one_same c.number c.number refl)

-- claims that are held of one owner are held of another, if each of them is
pub all_still : (o p : Owner) (names : List (Option Claim)) → ((d : Claim) → 0 < times d.number (numbers_of names) → is_held o d ≡ true → is_held p d ≡ true) →
    AllByRecursion (IsNamedHeld o) names → AllByRecursion (IsNamedHeld p) names
all_still o p [] still held = tt
all_still o p (None ∷ names) still held = (tt, all_still o p names still held.1)
all_still o p (Some c ∷ names) still held = (
  still c (let e = times-names (Some c) names c.number in let one = one_number c in omega (arith, e, one)) held.0,
  all_still o p names (λ d some. still d (let e = times-names (Some c) names d.number in omega (arith, e, some))) held.1,
)

pub all-set : (P : Option Claim → Type 0) (names : List (Option Claim)) (i : ℕ) (y : Option Claim) → AllByRecursion P names → P y → AllByRecursion P (set names i y)
all-set P [] i y h p = tt
all-set P (c ∷ cs) zero y h p = (p, h.1)
all-set P (c ∷ cs) (suc i) y h p = (h.0, all-set P cs i y h.1 p)

pub all_at : (P : Option Claim → Type 0) (names : List (Option Claim)) (i : ℕ) → AllByRecursion P names → i < length names → P (get_or names i None)
all_at P [] i h lt = absurd (omega (arith, lt))
all_at P (c ∷ cs) zero h lt = h.0
all_at P (c ∷ cs) (suc i) h lt = all_at P cs i h.1 (omega (arith, lt))

-- no name stands for a free number
pub no_name : (o : Owner) (n : ℕ) → get_or o.claims n None ≡ None → (names : List (Option Claim)) → AllByRecursion (IsNamedHeld o) names → times n (numbers_of names) ≡ 0
no_name o n none [] held = refl
no_name o n none (None ∷ names) held = no_name o n none names held.1
no_name o n none (Some c ∷ names) held =
    let e = times-names (Some c) names n in
    let rest = no_name o n none names held.1 in
    let one = times-cons n c.number [] in
    let other = one_other c.number n (not_free o c n held.0 none) in
    omega (arith, e, rest, one, other)

-- ---- a claim more under a name

module _ (o : Owner) (names : List (Option Claim)) (are : AreHeld o names) (i : ℕ) (room : i < MOST_CLAIMS) where
  pub below : i < length names
  below = let e = are.count in omega (arith, e, room)

  pub named_more : (s : Stretch) → get_or names i None ≡ None → is_held (claimed o s) (claim_of o s) ≡ true → AreHeld (claimed o s) (set names i (Some (claim_of o s)))
  named_more s empty new_held = record {
    count = length-set names i (Some (claim_of o s)) ∙ are.count;
    held = all-set (IsNamedHeld (claimed o s)) names i (Some (claim_of o s)) (all_still o (claimed o s) names (λ d some h. held_beside o d (free_number o.claims) _ h (not_free o d (free_number o.claims) h (free o.claims))) are.held) new_held;
    apart = distinct-from_times (numbers_of (set names i (Some (claim_of o s)))) once;
  }
    where
      once : (k : ℕ) → times k (numbers_of (set names i (Some (claim_of o s)))) ≤ 1
      once k = by_number (alone k (free_number o.claims))
        where
          e : times k (numbers_of (set names i (Some (claim_of o s)))) ≡ times k (numbers_of names) + times k (free_number o.claims ∷ [])
          e = let set_is = times-set names i (Some (claim_of o s)) k below in let none : times k (number_in (get_or names i None)) ≡ 0 = ap (λ (c : Option Claim). times k (number_in c)) empty in omega (arith, set_is, none)

          by_number : ((free_number o.claims ≡ k) × (times k (free_number o.claims ∷ []) ≡ 1)) ⊎ (times k (free_number o.claims ∷ []) ≡ 0) → times k (numbers_of (set names i (Some (claim_of o s)))) ≤ 1
          by_number (inl same) =
              let none : times k (numbers_of names) ≡ 0 = subst (λ n. times n (numbers_of names) ≡ 0) same.0 (no_name o (free_number o.claims) (free o.claims) names are.held) in
              let one = same.1 in
              omega (arith, e, none, one)
          by_number (inr other) = let le = times-distinct (numbers_of names) are.apart k in omega (arith, e, le, other)

  -- ---- a claim less under a name

  module _ (c : Claim) (here : get_or names i None ≡ Some c) where
    pub is_named : is_held o c ≡ true
    is_named = subst (IsNamedHeld o) here (all_at (IsNamedHeld o) names i are.held below)

    less : (k : ℕ) → times k (numbers_of (set names i None)) + times k (number_in (Some c)) ≡ times k (numbers_of names)
    less k =
        let e = times-set names i None k below in
        let some : times k (number_in (get_or names i None)) ≡ times k (number_in (Some c)) = ap (λ (d : Option Claim). times k (number_in d)) here in
        omega (arith, e, some)

    -- the other names have other numbers
    other_numbers : (d : Claim) → 0 < times d.number (numbers_of (set names i None)) → d.number ≢ c.number
    other_numbers d some e =
        let l = less c.number in
        let one = one_number c in
        let le = times-distinct (numbers_of names) are.apart c.number in
        let there : 0 < times c.number (numbers_of (set names i None)) = subst (λ n. 0 < times n (numbers_of (set names i None))) e some in
        omega (arith, l, one, le, there)

    -- those are held still where each claim with another number is
    pub named_less : (p : Owner) → ((d : Claim) → is_held o d ≡ true → d.number ≢ c.number → is_held p d ≡ true) → AreHeld p (set names i None)
    named_less p still = record {
      count = length-set names i None ∙ are.count;
      held = all_still o p (set names i None) (λ d some h. still d h (other_numbers d some)) (all-set (IsNamedHeld o) names i None are.held tt);
      apart = distinct-from_times (numbers_of (set names i None)) (λ k. let l = less k in let le = times-distinct (numbers_of names) are.apart k in omega (arith, l, le));
    }

    pub named_back : AreHeld (without_claim o c) (set names i None)
    named_back = named_less (without_claim o c) (λ d h ne. held_beside o d c.number None h ne)

    pub named_installed : (m : Operation) → AreHeld (compacted m o c) (set names i None)
    named_installed m = named_less (compacted m o c) (λ d h ne. held_installed m o c d h ne)

-- ---- a stretch that is compacted at once

pub held_compacted : (m : Operation) (o : Owner) (s : Stretch) (names : List (Option Claim)) → AreHeld o names → AreHeld (after_compaction m o s) names
held_compacted m o s names are = record {
  count = are.count;
  held = all_still o (after_compaction m o s) names (λ d some h. held_moved o d s.first s.count o.claims h) are.held;
  apart = are.apart;
}

-- ---- writes that are fed

lowered_ids : (count : ℕ) (c : Option HeldStretch) (d : Claim) → has_ids (moved_down count c) d ≡ has_ids c d
lowered_ids count None d = refl
lowered_ids count (Some h) d = refl

pub held_fed : (ws : List Write) (o : Owner) (names : List (Option Claim)) → AreHeld o names → AreHeld (after_feed ws o) names
held_fed ws o names are = record {
  count = are.count;
  held = all_still o (after_feed ws o) names
      (λ d some h. held_changed (moved_down (length (memtables_in o.version ws))) refl d (λ c. lowered_ids (length (memtables_in o.version ws)) c d) o.claims h) are.held;
  apart = are.apart;
}

-- ---- another version with the same claims

pub held_beneath : (o : Owner) (v : Stored) (names : List (Option Claim)) → AreHeld o names → AreHeld (record o { version = v }) names
held_beneath o v names are = record {
  count = are.count;
  held = all_still o (record o { version = v }) names (λ d some h. h) are.held;
  apart = are.apart;
}

-- ---- all given back

-- those that are left are held where one is given back
pub rest_held : (o : Owner) (c : Option Claim) (names : List (Option Claim)) → AllByRecursion (IsNamedHeld o) (c ∷ names) → AreDistinct (numbers_of (c ∷ names)) → AllByRecursion (IsNamedHeld (given_back o c)) names × AreDistinct (numbers_of names)
rest_held o None names held apart = (held.1, apart)
rest_held o (Some c) names held apart = (
  all_still o (without_claim o c) names (λ d some h. held_beside o d c.number None h (λ e.
      let there : 0 < times c.number (numbers_of names) = subst (λ n. 0 < times n (numbers_of names)) e some in
      let le = times-distinct (numbers_of (Some c ∷ names)) apart c.number in
      let both = times-names (Some c) names c.number in
      let one = one_number c in
      omega (arith, there, le, both, one))) held.1,
  apart.1,
)
