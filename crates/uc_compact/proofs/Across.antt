-- A key's points and range deletions over several runs, the newest first: their sequences fall, and none is in both.
use Rattle.std.proofs.Common.{◌≡◌, ℕ, ◌<◌, ◌≤◌, Bool, true, List, [], ◌∷◌, ◌++◌, Contains, filter, sym, ap, ◌∙◌, subst, arith}
use Rattle.std.specs.List.{AllByRecursion, flat_map}
use Rattle.std.specs.List.Sorted.{IsStrictlySortedBy}
use Rattle.std.specs.declared.cmp.Ordering.TheVariants.{Less}
use Rattle.std.specs.Ordering.{nat_cmp}
use Rattle.std.proofs.lemmas.Bool.Decides.{nat_tests}
use Rattle.std.proofs.lemmas.List.Elements.{filter-append}
use Rattle.uc_run_entry.specs.declared.entry.Entry.{Entry}
use Rattle.uc_run_entry.specs.Fragment.{Fragment}
use Rattle.uc_run_entry.specs.Order.{IsFalling}
use Rattle.uc_run_entry.specs.Run.{Contents, IsRun, IsWithin, IsWhole, covers}
use Rattle.uc_run_entry.specs.Lookup.{is_passing}
use Rattle.uc_run_entry.proofs.Points.{PointsFall, passing_fall, key_of_passing, all_pass}
use Rattle.uc_run_entry.proofs.Covers.{covers_fall, missing_over}
use Rattle.uc_compact.specs.Inputs.{AreRuns, AreNewestFirst, points_of}
use Rattle.uc_compact.proofs.NestedLists.{all-append, all-map, all-filter, all-flat_map}
use Rattle.uc_compact.proofs.Effects.{seqs_of, seqs_of-cons, run_points, run_fragments, all_points, all_seqs, below_newer}
use Rattle.uc_compact.proofs.Choosing.{Falls}

points_fall-append : (ps qs : List Entry) → PointsFall ps → PointsFall qs → AllByRecursion (λ p. AllByRecursion (λ q. q.seq < p.seq) qs) ps → PointsFall (ps ++ qs)
points_fall-append [] qs h k below = k
points_fall-append (p ∷ ps) qs h k below = (all-append (λ q. q.seq < p.seq) ps qs h.0 below.0, points_fall-append ps qs h.1 k below.1)

falls-append : (ns ks : List ℕ) → Falls ns → Falls ks → AllByRecursion (λ n. AllByRecursion (λ k. k < n) ks) ns → Falls (ns ++ ks)
falls-append [] ks h k below = k
falls-append (n ∷ ns) ks h k below = (all-append (λ k. k < n) ns ks h.0 below.0, falls-append ns ks h.1 k below.1)

less_number : (a b : ℕ) → nat_cmp a b ≡ Less → a < b
less_number a b e = grind (arith, nat_tests)

number_less : (a b : ℕ) → a < b → nat_cmp a b ≡ Less
number_less a b lt = grind (arith, nat_tests)

pub falls_from : (ns : List ℕ) → IsFalling ns → Falls ns
unfolding IsStrictlySortedBy
falls_from [] h = tt
falls_from (n ∷ ns) h = (all-map (λ k. nat_cmp k n ≡ Less) (λ k. k < n) (λ k e. less_number k n e) ns h.0, falls_from ns h.1)

pub falling_from : (ns : List ℕ) → Falls ns → IsFalling ns
unfolding IsStrictlySortedBy
falling_from [] h = tt
falling_from (n ∷ ns) h = (all-map (λ k. k < n) (λ k. nat_cmp k n ≡ Less) (λ k lt. number_less k n lt) ns h.0, falling_from ns h.1)

module _ (key : List ℕ) (test : ℕ → Bool) where
  -- one run
  module _ (r : Contents) (is_run : IsRun r.low r.high r.points r.fragments) where
    abbrev mine : List Entry
    mine = filter (is_passing key test) r.points

    abbrev over : List ℕ
    over = filter test (flat_map (λ (f : Fragment). f.seqs) (filter (λ f. covers f key) r.fragments))

    mine_fall : PointsFall mine
    mine_fall = passing_fall key test r.points is_run.points_sorted

    over_fall : Falls over
    over_fall = falls_from over (covers_fall key test r.fragments is_run.fragments_sorted (all-map (IsWhole r.low r.high) (λ (f : Fragment). IsFalling f.seqs) (λ f whole. whole.1) r.fragments is_run.whole))

    pub mine_within : (P : ℕ → Type 0) → ((n : ℕ) → IsWithin r.low r.high n → P n) → AllByRecursion (λ (p : Entry). P p.seq) mine
    mine_within P holds = all-filter (λ (p : Entry). P p.seq) (is_passing key test) r.points (run_points P r is_run holds)

    pub over_within : (P : ℕ → Type 0) → ((n : ℕ) → IsWithin r.low r.high n → P n) → AllByRecursion P over
    over_within P holds = all-filter P test (flat_map (λ (f : Fragment). f.seqs) (filter (λ f. covers f key) r.fragments)) (all-flat_map (λ (f : Fragment). f.seqs) P (filter (λ f. covers f key) r.fragments) (all-filter (λ f. AllByRecursion P f.seqs) (λ f. covers f key) r.fragments (run_fragments P r is_run holds)))

    abbrev IsApartHere : Entry → Type 0
    IsApartHere p = AllByRecursion (λ (f : Fragment). covers f p.key ≡ true → ¬ Contains f.seqs p.seq) r.fragments

    apart_here : (p : Entry) → is_passing key test p ≡ true → IsApartHere p → AllByRecursion (λ n. n ≡ p.seq → ⊥) over
    apart_here p passes apart =
        missing_over key test p.seq r.fragments is_run.fragments_sorted
        (subst (λ (k : List ℕ). AllByRecursion (λ (f : Fragment). covers f k ≡ true → ¬ Contains f.seqs p.seq) r.fragments) (key_of_passing key test p passes) apart)

    each_apart : (ps : List Entry) → AllByRecursion IsApartHere ps → AllByRecursion (λ p. is_passing key test p ≡ true) ps → AllByRecursion (λ p. AllByRecursion (λ n. n ≡ p.seq → ⊥) over) ps
    each_apart [] h pass = tt
    each_apart (p ∷ ps) h pass = (apart_here p pass.0 h.0, each_apart ps h.1 pass.1)

    mine_apart : AllByRecursion (λ p. AllByRecursion (λ n. n ≡ p.seq → ⊥) over) mine
    mine_apart = each_apart mine (all-filter IsApartHere (is_passing key test) r.points is_run.apart) (all_pass (is_passing key test) r.points)

  -- several
  points-cons : (r : Contents) (rs : List Contents) → filter (is_passing key test) (points_of (r ∷ rs)) ≡ filter (is_passing key test) r.points ++ filter (is_passing key test) (points_of rs)
  points-cons r rs = filter-append (is_passing key test) r.points (points_of rs)

  abbrev pub points_in : List Contents → List Entry
  points_in runs = filter (is_passing key test) (points_of runs)

  abbrev pub seqs_in : List Contents → List ℕ
  seqs_in runs = filter test (seqs_of key runs)

  seqs-cons : (r : Contents) (rs : List Contents) (is_run : IsRun r.low r.high r.points r.fragments) → seqs_in (r ∷ rs) ≡ over r is_run ++ seqs_in rs
  seqs-cons r rs is_run = ap (filter test) (seqs_of-cons key r rs) ∙ filter-append test (flat_map (λ (f : Fragment). f.seqs) (filter (λ f. covers f key) r.fragments)) (seqs_of key rs)

  pub older_points : (low : ℕ) (rs : List Contents) → AreRuns rs → AllByRecursion (λ r. r.high < low) rs → AllByRecursion (λ (q : Entry). q.seq < low) (points_in rs)
  older_points low rs are below = all-filter (λ (q : Entry). q.seq < low) (is_passing key test) (points_of rs) (all_points (λ n. n < low) rs are (below_newer low rs below))

  pub older_seqs : (low : ℕ) (rs : List Contents) → AreRuns rs → AllByRecursion (λ r. r.high < low) rs → AllByRecursion (λ n. n < low) (seqs_in rs)
  older_seqs low rs are below = all-filter (λ n. n < low) test (seqs_of key rs) (all_seqs (λ n. n < low) key rs are (below_newer low rs below))

  pub points_fall : (runs : List Contents) → AreRuns runs → AreNewestFirst runs → PointsFall (points_in runs)
  points_fall [] are order = tt
  points_fall (r ∷ rs) are order =
      subst PointsFall (sym (points-cons r rs))
      (points_fall-append (mine r are.0) (points_in rs) (mine_fall r are.0) (points_fall rs are.1 order.1)
      (all-map (λ (p : Entry). r.low ≤ p.seq) (λ p. AllByRecursion (λ q. q.seq < p.seq) (points_in rs)) (λ p le. all-map (λ (q : Entry). q.seq < r.low) (λ q. q.seq < p.seq) (λ q lt. omega (arith, le, lt)) (points_in rs) (older_points r.low rs are.1 order.0)) (mine r are.0) (mine_within r are.0 (λ n. r.low ≤ n) (λ n within. within.0))))

  pub seqs_fall : (runs : List Contents) → AreRuns runs → AreNewestFirst runs → Falls (seqs_in runs)
  seqs_fall [] are order = tt
  seqs_fall (r ∷ rs) are order =
      subst Falls (sym (seqs-cons r rs are.0))
      (falls-append (over r are.0) (seqs_in rs) (over_fall r are.0) (seqs_fall rs are.1 order.1)
      (all-map (λ n. r.low ≤ n) (λ n. AllByRecursion (λ k. k < n) (seqs_in rs)) (λ n le. all-map (λ k. k < r.low) (λ k. k < n) (λ k lt. omega (arith, le, lt)) (seqs_in rs) (older_seqs r.low rs are.1 order.0)) (over r are.0) (over_within r are.0 (λ n. r.low ≤ n) (λ n within. within.0))))

  -- a point has the sequence of no range deletion over its key
  abbrev Apart : List ℕ → Entry → Type 0
  Apart ns p = AllByRecursion (λ n. n ≡ p.seq → ⊥) ns

  apart-append : (ns ks : List ℕ) (ps : List Entry) → AllByRecursion (Apart ns) ps → AllByRecursion (Apart ks) ps → AllByRecursion (Apart (ns ++ ks)) ps
  apart-append ns ks [] h k = tt
  apart-append ns ks (p ∷ ps) h k = (all-append (λ n. n ≡ p.seq → ⊥) ns ks h.0 k.0, apart-append ns ks ps h.1 k.1)

  pub points_apart : (runs : List Contents) → AreRuns runs → AreNewestFirst runs → AllByRecursion (Apart (seqs_in runs)) (points_in runs)
  points_apart [] are order = tt
  points_apart (r ∷ rs) are order =
      subst (λ (ps : List Entry). AllByRecursion (Apart (seqs_in (r ∷ rs))) ps) (sym (points-cons r rs))
      (subst (λ (ns : List ℕ). AllByRecursion (Apart ns) (mine r are.0 ++ points_in rs)) (sym (seqs-cons r rs are.0))
      (all-append (Apart (over r are.0 ++ seqs_in rs)) (mine r are.0) (points_in rs)
      (apart-append (over r are.0) (seqs_in rs) (mine r are.0) (mine_apart r are.0)
      (all-map (λ (p : Entry). r.low ≤ p.seq) (Apart (seqs_in rs)) (λ p le. all-map (λ n. n < r.low) (λ n. n ≡ p.seq → ⊥) (λ n lt same. absurd (omega (arith, le, lt, same))) (seqs_in rs) (older_seqs r.low rs are.1 order.0)) (mine r are.0) (mine_within r are.0 (λ n. r.low ≤ n) (λ n within. within.0))))
      (apart-append (over r are.0) (seqs_in rs) (points_in rs)
      (all-map (λ (q : Entry). q.seq < r.low) (Apart (over r are.0)) (λ q lt. all-map (λ n. r.low ≤ n) (λ n. n ≡ q.seq → ⊥) (λ n le same. absurd (omega (arith, le, lt, same))) (over r are.0) (over_within r are.0 (λ n. r.low ≤ n) (λ n within. within.0))) (points_in rs) (older_points r.low rs are.1 order.0))
      (points_apart rs are.1 order.1))))
