-- The place where a search continues after the fences of blocks.
use Rattle.std.proofs.Common.{◌≡◌, ℕ, ◌+◌, ◌-◌, ◌*◌, ◌<◌, ◌≤◌, Bool, true, false, ltb, List, [], ◌∷◌, ◌++◌, length, get_or, take, drop, Some, refl, sym, ap, ◌∙◌, subst, arith}
use Rattle.std.specs.List.{AllWithin, slice_get}
use Rattle.std.proofs.lemmas.Bool.Decides.{nat_tests}
use Rattle.std.proofs.lemmas.List.{length_push, get_or_push, get_or_append_left}
use Rattle.std.specs.List.Sorted.{IsNonDecreasing, IsStrictlySortedBy, IsPartitionPoint, IsPartitionedBy}
use Rattle.std.specs.Ordering.{is_le}
use Rattle.std.proofs.lemmas.Bool.{false≢true}
use Rattle.std.proofs.lemmas.Cmp.{nat_list_cmp_total, tied_itself}
use Rattle.uc_run_entry.specs.declared.entry.Entry.{Entry}
use Rattle.uc_run_entry.specs.declared.entry.What.TheVariants.{Delete}
use Rattle.uc_run.specs.Blocks.{blocks_of}
use Rattle.uc_run_entry.specs.Order.{entry_cmp}
use Rattle.uc_run_entry.specs.Seek.{is_passed}
use Rattle.uc_run.specs.Fences.{AreAhead, AreFences, AreFirstFences, ArePassed, IsFenced, IsFront}
use Rattle.uc_run.specs.declared.fences.Fences.{Fences}
use Rattle.uc_bytes.specs.Bytes.{same_bytes}
use Rattle.uc_run.specs.Prefixes.{prefix_of, AreBytes, AreRising, ArePrefixes}
use Rattle.std.proofs.lemmas.Option.{get_or_from_slice_get}
use Rattle.uc_run.proofs.Decided.{prefixes_long, prefixes_rise, lower_passed, higher_ahead, as_first, behind_begin}
use Rattle.uc_run_entry.proofs.Partitions.{partitioned}
use Rattle.uc_run.proofs.Order.{passed_before}

pub any : Entry
any = record { key = []; seq = 0; what = Delete }

not_true : (b : Bool) → (b ≡ true → ⊥) → b ≡ false
not_true true never = absurd (never refl)
not_true false never = refl

pub has_point : (points : List Entry) (i : ℕ) → i < blocks_of points → 4 * i < length points
has_point points i l = omega (arith, l)

has_block : (points : List Entry) (i : ℕ) → 4 * i < length points → i < blocks_of points
has_block points i l = omega (arith, l)

module _ (test : List ℕ → Bool) (points : List Entry) (parted : IsPartitionedBy (λ p. test p.key) points) where
  -- after a point that fails the test none passes it
  fails_on : (j k : ℕ) (d : Entry) → j ≤ k → k < length points → test (get_or points j d).key ≡ false → test (get_or points k d).key ≡ false
  fails_on j k d le l fails = not_true (test (get_or points k d).key) (λ passed. false≢true (sym fails ∙ parted j k d le l passed))

  -- up to a fence that passes the test all do
  pub passed_to : (middle : ℕ) → middle < blocks_of points → ((e : Entry) → test (get_or points (4 * middle) e).key ≡ true) → (i : ℕ) (e : Entry) → i < middle + 1 → test (get_or points (4 * i) e).key ≡ true
  passed_to middle l passes i e low = parted (4 * i) (4 * middle) e (omega (arith, low)) (has_point points middle l) (passes e)

  -- from one on that fails it none does
  pub ahead_from : (middle : ℕ) → ((e : Entry) → test (get_or points (4 * middle) e).key ≡ false) → (i : ℕ) (e : Entry) → middle ≤ i → i < blocks_of points → test (get_or points (4 * i) e).key ≡ false
  ahead_from middle fails i e le l = fails_on (4 * middle) (4 * i) e (omega (arith, le)) (has_point points i l) (fails e)

  pub none_passed : ((i : ℕ) (e : Entry) → 0 ≤ i → i < blocks_of points → test (get_or points (4 * i) e).key ≡ false) → IsPartitionPoint (λ p. test p.key ≡ true) (λ p. test p.key ≡ false) points 0
  none_passed ahead = (
    (λ k d l m. absurd (omega (arith, m))),
    (λ k d l m. fails_on 0 k d (omega arith) m (ahead 0 d (omega arith) (has_block points 0 (omega (arith, m))))),
  )

  module _ (passed : ℕ) (some : 0 < passed) (bound : passed ≤ blocks_of points) (before : (i : ℕ) (e : Entry) → i < passed → test (get_or points (4 * i) e).key ≡ true) where
    abbrev begin : ℕ
    begin = (passed - 1) * 4

    begin_is : begin ≡ 4 * (passed - 1)
    begin_is = omega arith

    pub begin_within : begin < length points
    begin_within = let has : 4 * (passed - 1) < length points = has_point points (passed - 1) (omega (arith, some, bound)) in omega (arith, has)

    -- all before the last block whose fence passes do
    pub before_block : AllWithin (λ p. test p.key ≡ true) points 0 begin
    before_block k d least l =
        parted k begin d (omega (arith, l)) begin_within
        (ap (λ n. test (get_or points n d).key) begin_is ∙ before (passed - 1) d (omega (arith, some)))

-- ---- the fences as keys

module _ (points : List Entry) (fences : List (List ℕ)) (are : AreFences points fences) where
  -- what holds of the first fences holds of the first points of as many blocks
  pub passed_keys : (low : List ℕ) (strict : Bool) (count : ℕ) → count ≤ length fences → AllWithin (λ key. is_passed low strict key ≡ true) fences 0 count → ArePassed points low strict count
  passed_keys low strict count le all i e l =
      let within : i < length fences = omega (arith, l, le) in
      ap (is_passed low strict) (sym (are.keys i [] e within)) ∙ all i [] (omega arith) l

  pub ahead_keys : (low : List ℕ) (strict : Bool) (count : ℕ) → AllWithin (λ key. is_passed low strict key ≡ false) fences count (length fences) → AreAhead points low strict count
  ahead_keys low strict count all i e le l =
      let within : i < length fences = let each = are.each in omega (arith, l, each) in
      ap (is_passed low strict) (sym (are.keys i [] e within)) ∙ all i [] le within

  pub fences_rise : IsStrictlySortedBy entry_cmp points → AreRising fences
  fences_rise sorted i j d le l =
      let key : List ℕ = get_or fences j d in
      let each = are.each in
      let last : j < blocks_of points = omega (arith, l, each) in
      let at_last : key ≡ (get_or points (4 * j) any).key = are.keys j d any l in
      let at_first : get_or fences i d ≡ (get_or points (4 * i) any).key = are.keys i d any (omega (arith, le, l)) in
      let parted = partitioned (λ p. is_passed key true p.key) entry_cmp (passed_before key true) points sorted in
      ap (λ (low : List ℕ). is_passed key true low) at_first
      ∙ parted (4 * i) (4 * j) any (omega (arith, le)) (has_point points j last)
      (ap (λ (low : List ℕ). is_passed key true low) (sym at_last) ∙ ap is_le (tied_itself nat_list_cmp_total key))

-- ---- what the prefixes decide

module _ (points : List Entry) (held : Fences) (sorted : IsStrictlySortedBy entry_cmp points) (fenced : IsFenced points held) where
  abbrev keys : List (List ℕ)
  keys = fenced.fences

  rising : AreRising keys
  rising = fences_rise points keys fenced.are sorted

  front_is : held.front ≡ take (length held.front) (get_or keys 0 [])
  front_is = fenced.front.bytes

  pub prefixes_each : length held.prefixes.items ≡ blocks_of points
  prefixes_each = prefixes_long keys rising (length held.front) held.prefixes.items fenced.prefixes ∙ fenced.are.each

  module _ (prefixes : List ℕ) (same : prefixes ≡ held.prefixes.items) where
    here : ArePrefixes keys (length held.front) prefixes
    here = subst (ArePrefixes keys (length held.front)) (sym same) fenced.prefixes

    pub prefixes_in_order : IsNonDecreasing prefixes
    prefixes_in_order = prefixes_rise keys rising (length held.front) prefixes here

    -- against a key that begins with the front
    module _ (low rest : List ℕ) (begins : same_bytes (take (length held.front) low) held.front ≡ true) (rest_is : rest ≡ drop (length held.front) low) (bytes : AreBytes rest) (strict : Bool) where
      starts : low ≡ take (length held.front) (get_or keys 0 []) ++ rest
      starts = behind_begin low held.front rest begins rest_is ∙ ap (λ (front : List ℕ). front ++ rest) front_is

      pub passed_by_prefix : (i : ℕ) → IsPartitionPoint (λ n. n < prefix_of rest) (λ n. prefix_of rest ≤ n) prefixes i → i ≤ length prefixes → ArePassed points low strict i
      passed_by_prefix i point le =
          let long = prefixes_long keys rising (length held.front) prefixes here in
          passed_keys points keys fenced.are low strict i (omega (arith, le, long))
          (lower_passed keys rising (length held.front) prefixes here low rest starts bytes i point le strict)

      pub ahead_by_prefix : (j : ℕ) → IsPartitionPoint (λ n. n ≤ prefix_of rest) (λ n. prefix_of rest < n) prefixes j → AreAhead points low strict j
      ahead_by_prefix j point =
          ahead_keys points keys fenced.are low strict j
          (higher_ahead keys rising (length held.front) prefixes here low rest starts bytes j point strict)

  -- against one that doesn't all stand as the first
  module _ (low : List ℕ) (other : same_bytes (take (length held.front) low) held.front ≡ false) (strict : Bool) (first : Entry) (at : slice_get points 0 ≡ Some first) where
    alike : (k : ℕ) (d : List ℕ) → k < length keys → is_passed low strict (get_or keys k d) ≡ is_passed low strict first.key
    alike k d l =
        let none : same_bytes (take (length (take (length held.front) (get_or keys 0 []))) low) (take (length held.front) (get_or keys 0 [])) ≡ false =
        subst (λ (front : List ℕ). same_bytes (take (length front) low) front ≡ false) front_is other in
        let is_first : get_or keys 0 [] ≡ first.key =
        fenced.are.keys 0 [] any (omega (arith, l)) ∙ ap (λ (e : Entry). e.key) (get_or_from_slice_get points 0 first any at) in
        as_first keys rising (length held.front) fenced.prefixes.front low none strict k d l ∙ ap (is_passed low strict) is_first

    pub all_passed : is_passed low strict first.key ≡ true → (count : ℕ) → count ≡ length held.prefixes.items → ArePassed points low strict count
    all_passed passes count e =
        let long = prefixes_long keys rising (length held.front) held.prefixes.items fenced.prefixes in
        let le : count ≤ length keys = omega (arith, e, long) in
        passed_keys points keys fenced.are low strict count le (λ k d least l. alike k d (omega (arith, l, le)) ∙ passes)

    pub all_ahead : is_passed low strict first.key ≡ false → AreAhead points low strict 0
    all_ahead fails = ahead_keys points keys fenced.are low strict 0 (λ k d le l. alike k d l ∙ fails)

-- the front of no fences
pub no_front : (fences : List (List ℕ)) → length fences ≡ 0 → IsFront fences []
no_front [] e = record { bytes = refl; long = refl }
no_front (x ∷ xs) e = absurd (omega (arith, e))

-- one more block has its fence
pub one_more_fence : (points : List Entry) (fences : List (List ℕ)) (key : List ℕ) → AreFirstFences points fences → ((e : Entry) → key ≡ (get_or points (4 * length fences) e).key) → AreFirstFences points (fences ++ key ∷ [])
one_more_fence points fences key are there i d e l = by (ltb i (length fences)) refl
  where
    by : (b : Bool) → ltb i (length fences) ≡ b → get_or (fences ++ key ∷ []) i d ≡ (get_or points (4 * i) e).key
    by true f =
        let lt : i < length fences = grind (arith, nat_tests) in
        get_or_append_left fences (key ∷ []) d i lt ∙ are i d e lt
    by false f =
        let ge : length fences ≤ i = grind (arith, nat_tests) in
        let more = length_push fences key in
        let last : length fences ≡ i = omega (arith, ge, l, more) in
        get_or_push fences key d i last ∙ there e ∙ ap (λ n. (get_or points (4 * n) e).key) last
