-- Facts about keys in order that follow from their prefixes.
use Rattle.std.proofs.Common.{◌≡◌, ℕ, ◌-◌, ◌<◌, ◌≤◌, Bool, true, false, eqb, ltb, leb, List, [], ◌∷◌, ◌++◌, Some, length, get_or, take, drop, map, refl, sym, ap, ◌∙◌, subst, arith}
use Rattle.std.specs.List.{All, AllWithin, slice_get}
use Rattle.std.specs.List.Sorted.{IsNonDecreasing, IsPartitionPoint, IsPartitionedBy}
use Rattle.std.specs.declared.cmp.Ordering.TheVariants.{Less, Greater}
use Rattle.std.specs.Ordering.{is_lt, is_le}
use Rattle.std.specs.Cmp.Lexicographic.{same_text}
use Rattle.std.proofs.lemmas.List.{get_or_default, get_or-map, get_or_append_left, get_or_push, length-map, length_push, take-append-drop}
use Rattle.std.proofs.lemmas.Option.{slice_get-get_or}
use Rattle.std.proofs.lemmas.Bool.Decides.{nat_tests}
use Rattle.uc_bytes.specs.Bytes.{bytes_cmp, same_bytes}
use Rattle.uc_run_entry.specs.Seek.{is_passed}
use Rattle.uc_run.specs.Prefixes.{prefix_of, shared_front, AreBytes, AreRising, ArePrefixes}
use Rattle.uc_run.proofs.Fronts.{Begins, between, behind_front, other_front}
use Rattle.uc_run.proofs.PrefixOrder.{prefix_le, lower_prefix, higher_prefix}

-- ---- places among numbers that don't fall

module _ (ns : List ℕ) (rise : IsNonDecreasing ns) (wanted : ℕ) where
  pub below_parted : IsPartitionedBy (λ n. ltb n wanted) ns
  below_parted i j d le l e = let up : get_or ns i d ≤ get_or ns j d = rise i j d le l in grind (arith, nat_tests)

  pub up_to_parted : IsPartitionedBy (λ n. leb n wanted) ns
  up_to_parted i j d le l e = let up : get_or ns i d ≤ get_or ns j d = rise i j d le l in grind (arith, nat_tests)

module _ (ns : List ℕ) (wanted : ℕ) where
  pub below_point : (i : ℕ) → IsPartitionPoint (λ n. ltb n wanted ≡ true) (λ n. ltb n wanted ≡ false) ns i → IsPartitionPoint (λ n. n < wanted) (λ n. wanted ≤ n) ns i
  below_point i point = (
    (λ k d l m. let e : ltb (get_or ns k d) wanted ≡ true = point.0 k d l m in grind (arith, nat_tests)),
    (λ k d l m. let e : ltb (get_or ns k d) wanted ≡ false = point.1 k d l m in grind (arith, nat_tests)),
  )

  pub up_to_point : (i : ℕ) → IsPartitionPoint (λ n. leb n wanted ≡ true) (λ n. leb n wanted ≡ false) ns i → IsPartitionPoint (λ n. n ≤ wanted) (λ n. wanted < n) ns i
  up_to_point i point = (
    (λ k d l m. let e : leb (get_or ns k d) wanted ≡ true = point.0 k d l m in grind (arith, nat_tests)),
    (λ k d l m. let e : leb (get_or ns k d) wanted ≡ false = point.1 k d l m in grind (arith, nat_tests)),
  )

  -- where no number is equal, as many are below it as up to it
  pub none_equal : IsNonDecreasing ns → (i : ℕ) → IsPartitionPoint (λ n. n < wanted) (λ n. wanted ≤ n) ns i → (slice_get ns i ≡ Some wanted → ⊥) → IsPartitionPoint (λ n. n ≤ wanted) (λ n. wanted < n) ns i
  none_equal rise i point other = ((λ k d l m. let lt : get_or ns k d < wanted = point.0 k d l m in omega (arith, lt)), above)
    where
      above : (k d : ℕ) → i ≤ k → k < length ns → wanted < get_or ns k d
      above k d le l =
          let here : i < length ns = omega (arith, le, l) in
          let least : wanted ≤ get_or ns i d = point.1 i d (omega arith) here in
          let up : get_or ns i d ≤ get_or ns k d = rise i k d le l in
          by here least up (eqb (get_or ns i d) wanted) refl
        where
          by : i < length ns → wanted ≤ get_or ns i d → get_or ns i d ≤ get_or ns k d → (b : Bool) → eqb (get_or ns i d) wanted ≡ b → wanted < get_or ns k d
          by here least up true e =
              let same : get_or ns i d ≡ wanted = grind (arith, nat_tests) in
              absurd (other (slice_get-get_or ns i d here ∙ ap (λ (n : ℕ). Some n) same))
          by here least up false e = grind (arith, nat_tests)

  pub points_in_order : (i j : ℕ) → i ≤ length ns → IsPartitionPoint (λ n. n < wanted) (λ n. wanted ≤ n) ns i → IsPartitionPoint (λ n. n ≤ wanted) (λ n. wanted < n) ns j → i ≤ j
  points_in_order i j le first second = by (ltb j i) refl
    where
      by : (b : Bool) → ltb j i ≡ b → i ≤ j
      by true e =
          let lt : j < i = grind (arith, nat_tests) in
          absurd (omega (arith, first.0 j 0 (omega arith) lt, second.1 j 0 (omega arith) (omega (arith, lt, le))))
      by false e = grind (arith, nat_tests)

-- ---- keys in order, and their prefixes

module _ (keys : List (List ℕ)) (rising : AreRising keys) (shared : ℕ) (front_is : shared ≡ shared_front keys) where
  abbrev first : List ℕ
  first = get_or keys 0 []

  begins : (k : ℕ) → k < length keys → Begins shared first (get_or keys k [])
  begins k l =
      subst (λ (s : ℕ). Begins s first (get_or keys k [])) (sym front_is)
      (between first (get_or keys k []) (get_or keys (length keys - 1) []) (rising 0 k [] (omega arith) l) (rising k (length keys - 1) [] (omega (arith, l)) (omega (arith, l))))

  pub fits : (k : ℕ) (d : List ℕ) → k < length keys → shared ≤ length (get_or keys k d)
  fits k d l = subst (λ (key : List ℕ). shared ≤ length key) (get_or_default keys k [] d l) (begins k l).long

  -- a key is the front that all share, and the rest
  parts : (k : ℕ) → k < length keys → get_or keys k [] ≡ take shared first ++ drop shared (get_or keys k [])
  parts k l =
      sym (take-append-drop shared (get_or keys k [])) ∙ ap (λ (front : List ℕ). front ++ drop shared (get_or keys k [])) (begins k l).same

  rests_rise : (i j : ℕ) → i ≤ j → j < length keys → is_le (bytes_cmp (drop shared (get_or keys i [])) (drop shared (get_or keys j []))) ≡ true
  rests_rise i j le l =
      let low : i < length keys = omega (arith, le, l) in
      let rest-i : List ℕ = drop shared (get_or keys i []) in
      let rest-j : List ℕ = drop shared (get_or keys j []) in
      ap is_le
      (sym (behind_front (take shared first) rest-i rest-j)
      ∙ ap (λ (key : List ℕ). bytes_cmp key (take shared first ++ rest-j)) (sym (parts i low))
      ∙ ap (λ (key : List ℕ). bytes_cmp (get_or keys i []) key) (sym (parts j l)))
      ∙ rising i j [] le l

  -- against a key that hasn't that front all keys stand as the first
  pub as_first : (low : List ℕ) → same_bytes (take (length (take shared first)) low) (take shared first) ≡ false → (strict : Bool) (k : ℕ) (d : List ℕ) → k < length keys → is_passed low strict (get_or keys k d) ≡ is_passed low strict first
  as_first low other strict k d l =
      let some : 0 < length keys = omega (arith, l) in
      let same : bytes_cmp (get_or keys k []) low ≡ bytes_cmp first low =
      ap (λ (key : List ℕ). bytes_cmp key low) (parts k l)
      ∙ other_front (take shared first) (drop shared (get_or keys k [])) (drop shared first) low other
      ∙ ap (λ (key : List ℕ). bytes_cmp key low) (sym (parts 0 some)) in
      ap (is_passed low strict) (get_or_default keys k d [] l) ∙ by strict same
    where
      by : (b : Bool) → bytes_cmp (get_or keys k []) low ≡ bytes_cmp first low → is_passed low b (get_or keys k []) ≡ is_passed low b first
      by true same = ap is_le same
      by false same = ap is_lt same

module _ (keys : List (List ℕ)) (rising : AreRising keys) (shared : ℕ) (prefixes : List ℕ) (held : ArePrefixes keys shared prefixes) where
  pub prefixes_long : length prefixes ≡ length keys
  prefixes_long = ap length held.each ∙ length-map keys (λ key. prefix_of (drop shared key))

  prefix_at : (k d : ℕ) → k < length keys → get_or prefixes k d ≡ prefix_of (drop shared (get_or keys k []))
  prefix_at k d l =
      ap (λ (ps : List ℕ). get_or ps k d) held.each ∙ get_or-map (λ key. prefix_of (drop shared key)) keys k [] d l

  pub prefixes_rise : IsNonDecreasing prefixes
  prefixes_rise i j d le l =
      let high : j < length keys = omega (arith, l, prefixes_long) in
      let low : i < length keys = omega (arith, le, high) in
      omega (arith, prefix_at i d low, prefix_at j d high, prefix_le (drop shared (get_or keys i [])) (drop shared (get_or keys j [])) (held.bytes i [] low) (rests_rise keys rising shared held.front i j le high))

  -- a key with that front
  module _ (low rest : List ℕ) (starts : low ≡ take shared (get_or keys 0 []) ++ rest) (bytes : AreBytes rest) where
    against : (k : ℕ) → k < length keys → bytes_cmp (get_or keys k []) low ≡ bytes_cmp (drop shared (get_or keys k [])) rest
    against k l =
        ap (λ (key : List ℕ). bytes_cmp key low) (parts keys rising shared held.front k l)
        ∙ ap (λ (key : List ℕ). bytes_cmp (take shared (get_or keys 0 []) ++ drop shared (get_or keys k [])) key) starts
        ∙ behind_front (take shared (get_or keys 0 [])) (drop shared (get_or keys k [])) rest

    passed_by : (strict : Bool) (key : List ℕ) → bytes_cmp key low ≡ Less → is_passed low strict key ≡ true
    passed_by true key e = ap is_le e
    passed_by false key e = ap is_lt e

    ahead_by : (strict : Bool) (key : List ℕ) → bytes_cmp key low ≡ Greater → is_passed low strict key ≡ false
    ahead_by true key e = ap is_le e
    ahead_by false key e = ap is_lt e

    pub lower_passed : (i : ℕ) → IsPartitionPoint (λ n. n < prefix_of rest) (λ n. prefix_of rest ≤ n) prefixes i → i ≤ length prefixes → (strict : Bool) → AllWithin (λ key. is_passed low strict key ≡ true) keys 0 i
    lower_passed i point le strict k d least l =
        let short : k < length keys = omega (arith, l, le, prefixes_long) in
        let lower : prefix_of (drop shared (get_or keys k [])) < prefix_of rest = omega (arith, prefix_at k 0 short, point.0 k 0 least l) in
        ap (is_passed low strict) (get_or_default keys k d [] short)
        ∙ passed_by strict (get_or keys k []) (against k short ∙ lower_prefix (drop shared (get_or keys k [])) rest bytes lower)

    pub higher_ahead : (j : ℕ) → IsPartitionPoint (λ n. n ≤ prefix_of rest) (λ n. prefix_of rest < n) prefixes j → (strict : Bool) → AllWithin (λ key. is_passed low strict key ≡ false) keys j (length keys)
    higher_ahead j point strict k d le l =
        let higher : prefix_of rest < prefix_of (drop shared (get_or keys k [])) = omega (arith, prefix_at k 0 l, point.1 k 0 le (omega (arith, l, prefixes_long))) in
        ap (is_passed low strict) (get_or_default keys k d [] l)
        ∙ ahead_by strict (get_or keys k []) (against k l ∙ higher_prefix (drop shared (get_or keys k [])) rest (held.bytes k [] l) higher)

-- the bytes after the front of a key
pub behind_begin : (low front rest : List ℕ) → same_bytes (take (length front) low) front ≡ true → rest ≡ drop (length front) low → low ≡ front ++ rest
behind_begin low front rest e rest-is =
    sym (take-append-drop (length front) low)
    ∙ ap (λ (begin : List ℕ). begin ++ drop (length front) low) (same_text (take (length front) low) front (sym e))
    ∙ ap (λ (behind : List ℕ). front ++ behind) (sym rest-is)

-- the first of some keys
pub first_of : (keys : List (List ℕ)) (key : List ℕ) → Some key ≡ slice_get keys 0 → key ≡ get_or keys 0 []
first_of [] key e = absurd cc
first_of (x ∷ xs) key e = cc

-- ---- the prefixes of one more key

pub prefixes_more : (shared : ℕ) (keys : List (List ℕ)) (key : List ℕ) (prefixes : List ℕ) (prefix : ℕ) → prefix ≡ prefix_of (drop shared key) → prefixes ≡ map (λ k. prefix_of (drop shared k)) keys → prefixes ++ prefix ∷ [] ≡ map (λ k. prefix_of (drop shared k)) (keys ++ key ∷ [])
prefixes_more shared [] key [] prefix e each = ap (λ p. p ∷ []) e
prefixes_more shared [] key (p ∷ ps) prefix e each = absurd cc
prefixes_more shared (k ∷ ks) key [] prefix e each = absurd cc
prefixes_more shared (k ∷ ks) key (p ∷ ps) prefix e each =
    let first : p ≡ prefix_of (drop shared k) = cc in
    let rest : ps ≡ map (λ k. prefix_of (drop shared k)) ks = cc in
    ap (λ n. n ∷ ps ++ prefix ∷ []) first ∙ ap (λ ns. prefix_of (drop shared k) ∷ ns) (prefixes_more shared ks key ps prefix e rest)

pub bytes_more : (shared : ℕ) (keys : List (List ℕ)) (key : List ℕ) → AreBytes (drop shared key) → All (λ k. AreBytes (drop shared k)) keys → All (λ k. AreBytes (drop shared k)) (keys ++ key ∷ [])
bytes_more shared keys key bytes all i d l = by (ltb i (length keys)) refl
  where
    by : (b : Bool) → ltb i (length keys) ≡ b → AreBytes (drop shared (get_or (keys ++ key ∷ []) i d))
    by true f =
        let lt : i < length keys = grind (arith, nat_tests) in
        subst (λ (k : List ℕ). AreBytes (drop shared k)) (sym (get_or_append_left keys (key ∷ []) d i lt)) (all i d lt)
    by false f =
        let ge : length keys ≤ i = grind (arith, nat_tests) in
        let last : length keys ≡ i = omega (arith, ge, l, length_push keys key) in
        subst (λ (k : List ℕ). AreBytes (drop shared k)) (sym (get_or_push keys key d i last)) bytes
