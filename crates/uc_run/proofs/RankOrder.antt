-- Ranks stand as the points by their keys.
use Rattle.std.proofs.Common.{◌≡◌, Option, Some, None, ◌⊎◌, inl, inr, bit_or, ℕ, suc, ◌+◌, ◌-◌, ◌*◌, ◌%◌, ◌^◌, ◌<◌, ◌≤◌, Bool, true, false, cond, eqb, List, [], ◌∷◌, ◌++◌, length, get_or, map, take, drop, refl, sym, ap, ◌∙◌, subst, arith}
use Rattle.std.specs.List.{All, AllByRecursion, common_prefix_len}
use Rattle.std.specs.List.Sorted.{IsPermutation, IsSortedBy}
use Rattle.std.specs.Cmp.{IsTotalOrder}
use Rattle.std.specs.declared.cmp.Ordering.{Ordering}
use Rattle.std.specs.declared.cmp.Ordering.TheVariants.{Less, Equal, Greater}
use Rattle.std.specs.Ordering.{nat_cmp, ordering_then, is_lt}
use Rattle.std.proofs.lemmas.Bool.Decides.{nat_tests}
use Rattle.std.proofs.lemmas.Bool.{cases_lt}
use lib.Count.{count_leading_zeros}
use Rattle.std.proofs.lemmas.Cmp.{nat_cmp_total, nat_list_cmp_total, back_total, on_total, then_total}
use Rattle.std.proofs.lemmas.List.{take-append-drop, take-take, take_at, get_or-map, length-map, map-append}
use Rattle.std.proofs.lemmas.List.Elements.{All-map, All-more, All-weaker}
use Rattle.std.proofs.lemmas.List.Sorted.{IsPermutation-map, All-permutation}
use Rattle.std.proofs.lemmas.Nat.{pow_pos, shr_high, mod_low, mod_below, shr_split, or_shifted, leading_length}
use Rattle.std.proofs.lemmas.Option.{slice_get_within}
use Rattle.std.proofs.Math.Nat.{mul-le-mul_right, suc-mul, mod-eq_of_lt}
use Rattle.std.specs.List.{slice_get}
use Rattle.uc_bytes.specs.Bytes.{bytes_cmp}
use Rattle.uc_bytes.specs.declared.write.Write.{Write}
use Rattle.uc_run_entry.specs.declared.entry.Entry.{Entry}
use Rattle.uc_run_entry.specs.Order.{entry_cmp}
use Rattle.uc_run.specs.Points.{HaveOwnSeqs}
use Rattle.uc_run.specs.Flush.{by_key, point_of, points_in}
use Rattle.uc_run.specs.Prefixes.{prefix_of, AreBytes}
use Rattle.uc_run.specs.Ranks.{room, high_in, low_in, rank_of, behind_cmp, rank_cmp, entry_in, entry_or, entry_at, points_of, ranked_at, HasFront, HaveBytes, HaveFront}
use Rattle.uc_run.proofs.ByKey.{sorted_is_by_key}
use Rattle.uc_run.proofs.Fronts.{behind_front}
use Rattle.uc_run.proofs.PrefixOrder.{bytes_behind, greater_is, lower_prefix, higher_prefix}
use Rattle.uc_run.proofs.WriteParts.{part_pushed, part_missing}

-- ---- a rank has its parts

room_some : (bits : ℕ) → 0 < room bits
room_some bits = pow_pos (bits % 64)

high_of_rank : (bits prefix number : ℕ) → high_in bits (rank_of bits prefix number) ≡ high_in bits prefix
high_of_rank bits prefix number = shr_high (high_in bits prefix) (bits % 64) (low_in bits number) (mod_below number (room bits) (room_some bits))

low_of_rank : (bits prefix number : ℕ) → low_in bits (rank_of bits prefix number) ≡ low_in bits number
low_of_rank bits prefix number = mod_low (high_in bits prefix) (bits % 64) (low_in bits number) (mod_below number (room bits) (room_some bits))

-- how a rank is put together
pub rank_parts : (bits prefix number : ℕ) → prefix < 2 ^ 64 → bit_or (high_in bits prefix * room bits % 2 ^ 64) (low_in bits number) ≡ rank_of bits prefix number
rank_parts bits prefix number fits =
    let below : high_in bits prefix * room bits < 2 ^ 64 = omega (arith, shr_split prefix (bits % 64), fits) in
    ap (λ n. bit_or n (low_in bits number)) (mod-eq_of_lt below) ∙ or_shifted (high_in bits prefix) (bits % 64) (low_in bits number) (mod_below number (room bits) (room_some bits))

-- the bits of a number are enough for the places below it
pub bits_suffice : (count : ℕ) → count < 2 ^ 63 → count ≤ room (64 - count_leading_zeros 64 count)
bits_suffice count l = by (leading_length 64 count (omega (arith, l)))
  where
    small : (m : ℕ) → m ≤ 64 → 2 ^ m ≤ 2 * count + 1 → (m < 64) ⊎ (64 ≤ m) → m < 64
    small m le up (inl below) = below
    small m le up (inr above) =
        let all : m ≡ 64 = omega (arith, le, above) in
        let large : 2 ^ 64 ≤ 2 * count + 1 = subst (λ n. 2 ^ n ≤ 2 * count + 1) all up in
        absurd (omega (arith, large, l))

    by : (m : ℕ) × (count_leading_zeros 64 count + m ≡ 64) × (count < 2 ^ m) × (2 ^ m ≤ 2 * count + 1) → count ≤ room (64 - count_leading_zeros 64 count)
    by h =
        let m : ℕ = h.0 in
        let is : 64 - count_leading_zeros 64 count ≡ m = omega (arith, h.1) in
        let under : m < 64 = small m (omega (arith, h.1)) h.3 (cases_lt m 64) in
        let holds : count ≤ 2 ^ m = omega (arith, h.2) in
        subst (λ n. count ≤ 2 ^ (n % 64)) (sym is) (subst (λ n. count ≤ 2 ^ n) (sym (mod-eq_of_lt under)) holds)

-- what has the higher first bits is higher
higher_by_first : (bits a b : ℕ) → high_in bits a < high_in bits b → a < b
higher_by_first bits a b lt =
    let below : high_in bits a * room bits ≤ a = omega (arith, shr_split a (bits % 64)) in
    let up : suc (high_in bits a) * room bits ≤ high_in bits b * room bits = mul-le-mul_right (room bits) lt in
    let rest : low_in bits a < room bits = mod_below a (room bits) (room_some bits) in
    omega (arith, shr_split a (bits % 64), shr_split b (bits % 64), up, rest, suc-mul (high_in bits a) (room bits))

-- ---- ranks stand as points

pub rank_total : (writes : List Write) (shared bits : ℕ) → IsTotalOrder (rank_cmp writes shared bits)
rank_total writes shared bits =
    then_total (on_total (high_in bits) nat_cmp_total)
    (then_total (on_total (λ (r : ℕ). drop shared (entry_at writes bits r).key) nat_list_cmp_total) (back_total (on_total (λ (r : ℕ). (entry_at writes bits r).seq) nat_cmp_total)))

-- what has the lower first bits is below
pub below_by_first : (writes : List Write) (shared bits r s : ℕ) → high_in bits r < high_in bits s → is_lt (rank_cmp writes shared bits s r) ≡ false
below_by_first writes shared bits r s lt =
    ap (λ o. is_lt (ordering_then o (behind_cmp shared (entry_at writes bits s) (entry_at writes bits r)))) (greater_is (high_in bits s) (high_in bits r) lt)

-- the first bits rise with the numbers
pub first_rise : (bits a b : ℕ) → a ≤ b → high_in bits a ≤ high_in bits b
first_rise bits a b le = by (cases_lt (high_in bits b) (high_in bits a))
  where
    by : (high_in bits b < high_in bits a) ⊎ (high_in bits a ≤ high_in bits b) → high_in bits a ≤ high_in bits b
    by (inl lt) = let back : b < a = higher_by_first bits b a lt in absurd (omega (arith, back, le))
    by (inr up) = up

-- The first bits of a rank are those of the prefix of a point's key after the first bytes.
pub record IsRanked (shared bits high : ℕ) (p : Entry) : Type 0 where
  pub prefix : high ≡ high_in bits (prefix_of (drop shared p.key))
  pub bytes : AreBytes (drop shared p.key)

-- if two keys have a front, the bytes after it decide
behind : (shared : ℕ) (first xs ys : List ℕ) → HasFront shared first xs → HasFront shared first ys → bytes_cmp xs ys ≡ bytes_cmp (drop shared xs) (drop shared ys)
behind shared first xs ys h k =
    let front : List ℕ = take shared first in
    let left : xs ≡ front ++ drop shared xs = sym (take-append-drop shared xs) ∙ ap (λ (zs : List ℕ). zs ++ drop shared xs) h.same in
    let right : ys ≡ front ++ drop shared ys = sym (take-append-drop shared ys) ∙ ap (λ (zs : List ℕ). zs ++ drop shared ys) k.same in
    ap (λ (zs : List ℕ). bytes_cmp zs ys) left
    ∙ ap (λ (zs : List ℕ). bytes_cmp (front ++ drop shared xs) zs) right
    ∙ behind_front front (drop shared xs) (drop shared ys)

module _ (shared bits : ℕ) (first : List ℕ) (p q : Entry) (h : HasFront shared first p.key) (k : HasFront shared first q.key) where
  abbrev newest : Ordering
  newest = nat_cmp q.seq p.seq

  rests : bytes_cmp p.key q.key ≡ bytes_cmp (drop shared p.key) (drop shared q.key)
  rests = behind shared first p.key q.key h k

  by_first : (a b : ℕ) (o : Ordering) → nat_cmp a b ≡ o → IsRanked shared bits a p → IsRanked shared bits b q → ordering_then o (behind_cmp shared p q) ≡ entry_cmp p q
  by_first a b Less e f g =
      let lower : a < b = grind (arith, nat_tests) in
      let below : prefix_of (drop shared p.key) < prefix_of (drop shared q.key) = higher_by_first bits _ _ (omega (arith, lower, f.prefix, g.prefix)) in
      sym (ap (λ o. ordering_then o newest) (rests ∙ lower_prefix (drop shared p.key) (drop shared q.key) g.bytes below))
  by_first a b Equal e f g = sym (ap (λ o. ordering_then o newest) rests)
  by_first a b Greater e f g =
      let higher : b < a = grind (arith, nat_tests) in
      let below : prefix_of (drop shared q.key) < prefix_of (drop shared p.key) = higher_by_first bits _ _ (omega (arith, higher, f.prefix, g.prefix)) in
      sym (ap (λ o. ordering_then o newest) (rests ∙ higher_prefix (drop shared p.key) (drop shared q.key) f.bytes below))

-- ---- ranks in order

module _ (writes : List Write) (bits : ℕ) where
  abbrev entry : ℕ → Entry
  entry r = entry_at writes bits r

  pub record AreRanked (shared : ℕ) (points : List Entry) (ranks : List ℕ) : Type 0 where
    pub listed : points_of writes bits ranks ≡ points
    pub each : All (λ (r : ℕ). IsRanked shared bits (high_in bits r) (entry r)) ranks

module _ (writes : List Write) (bits shared : ℕ) (first : List ℕ) (points : List Entry) (front : HaveFront shared first points) (ranks : List ℕ) (held : AreRanked writes bits shared points ranks) where
  abbrev point : ℕ → Entry
  point r = entry_at writes bits r

  abbrev Good : ℕ → Type 0
  Good r = HasFront shared first (point r).key × IsRanked shared bits (high_in bits r) (point r)

  fronts : All (λ (r : ℕ). HasFront shared first (point r).key) ranks
  fronts i d l =
      subst (λ (p : Entry). HasFront shared first p.key)
      (ap (λ (ps : List Entry). get_or ps i (point d)) (sym held.listed) ∙ get_or-map point ranks i d (point d) l)
      (front i (point d) (subst (λ (n : ℕ). i < n) (sym (length-map ranks point) ∙ ap length held.listed) l))

  pub ranked_is_by_key : HaveOwnSeqs points → (sorted : List ℕ) → IsPermutation ranks sorted → IsSortedBy (λ r s. is_lt (rank_cmp writes shared bits r s)) sorted → points_of writes bits sorted ≡ by_key points
  ranked_is_by_key own sorted moved order =
      let good : All Good sorted = All-permutation Good ranks sorted moved (λ i d l. (fronts i d l, held.each i d l)) in
      let in_order : IsSortedBy (λ p q. is_lt (entry_cmp p q)) (points_of writes bits sorted) = each good in
      sorted_is_by_key points (points_of writes bits sorted) own
      (subst (λ (ps : List Entry). IsPermutation ps (points_of writes bits sorted)) held.listed (IsPermutation-map point ranks sorted moved)) in_order
    where
      each : All Good sorted → IsSortedBy (λ p q. is_lt (entry_cmp p q)) (points_of writes bits sorted)
      each good k d le l =
          let next : k + 1 < length sorted = subst (λ (n : ℕ). k + 1 < n) (length-map sorted point) l in
          let this : k < length sorted = omega (arith, next) in
          let r : ℕ = get_or sorted (k + 1) 0 in
          let s : ℕ = get_or sorted k 0 in
          ap (λ (p : Entry). is_lt (entry_cmp p (get_or (points_of writes bits sorted) k d))) (get_or-map point sorted (k + 1) 0 d next)
          ∙ ap (λ (p : Entry). is_lt (entry_cmp (point r) p)) (get_or-map point sorted k 0 d this)
          ∙ ap is_lt (sym (by_first shared bits first (point r) (point s) (good (k + 1) 0 next).0 (good k 0 this).0 (high_in bits r) (high_in bits s) (nat_cmp (high_in bits r) (high_in bits s)) refl (good (k + 1) 0 next).1 (good k 0 this).1))
          ∙ order k 0 (omega arith) next

module _ (writes : List Write) (bits shared : ℕ) where
  -- a rank has the number that it had before
  same_point : (r : ℕ) → entry_at writes bits (ranked_at writes shared bits r) ≡ entry_at writes bits r
  same_point r = ap (λ (n : ℕ). entry_or (slice_get writes (length writes - 1 - n))) (low_of_rank bits (prefix_of (drop shared (entry_at writes bits r).key)) r)

  same_points : (rs : List ℕ) → points_of writes bits (map (ranked_at writes shared bits) rs) ≡ points_of writes bits rs
  same_points [] = refl
  same_points (r ∷ rs) = ap (λ (p : Entry). p ∷ points_of writes bits (map (ranked_at writes shared bits) rs)) (same_point r) ∙ ap (λ (ps : List Entry). entry_at writes bits r ∷ ps) (same_points rs)

  pub are_ranked : (rs : List ℕ) → HaveBytes (points_of writes bits rs) → AreRanked writes bits shared (points_of writes bits rs) (map (ranked_at writes shared bits) rs)
  are_ranked rs bytes = record {
    listed = same_points rs;
    each = All-map (λ (r : ℕ). IsRanked shared bits (high_in bits r) (entry_at writes bits r)) (ranked_at writes shared bits) rs (λ i d l.
        let r : ℕ = get_or rs i d in
        let p : Entry = entry_at writes bits r in
        let here : AreBytes p.key = subst (λ (p : Entry). AreBytes p.key) (get_or-map (entry_at writes bits) rs i d (entry_at writes bits d) l) (bytes i (entry_at writes bits d) (subst (λ (n : ℕ). i < n) (sym (length-map rs (entry_at writes bits))) l)) in
        subst (IsRanked shared bits (high_in bits (ranked_at writes shared bits r))) (sym (same_point r)) (record {
          prefix = high_of_rank bits (prefix_of (drop shared p.key)) r;
          bytes = bytes_behind shared p.key here;
        }));
  }

-- a vector whose ranks were borrowed, sorted by key and came back
pub back_by_key : (writes : List Write) (bits : ℕ) (points : List Entry) (held lent sorted tail now : List ℕ) (len : ℕ) → points_of writes bits held ≡ points → length held ≡ len → lent ≡ held → points_of writes bits sorted ≡ by_key (points_of writes bits lent) → length sorted ≡ length lent → now ≡ take len (sorted ++ tail) → points_of writes bits now ≡ by_key points
back_by_key writes bits points held lent sorted tail now len are long same order kept back =
    ap (points_of writes bits) (back ∙ take_at sorted tail len (kept ∙ ap length same ∙ long))
    ∙ order
    ∙ ap by_key (ap (points_of writes bits) same ∙ are)

-- the number of a write gives its point
pub point_there : (writes : List Write) (bits place : ℕ) (w : Write) → length writes ≤ room bits → slice_get writes place ≡ Some w → entry_at writes bits (length writes - 1 - place) ≡ entry_in w
point_there writes bits place w fits is =
    let l : place < length writes = slice_get_within writes place w is in
    let number : ℕ = length writes - 1 - place in
    let small : number < room bits = omega (arith, fits, l) in
    let back : length writes - 1 - low_in bits number ≡ place = ap (λ n. length writes - 1 - n) (mod-eq_of_lt small) ∙ omega (arith, l) in
    ap (λ (n : ℕ). entry_or (slice_get writes n)) back ∙ ap entry_or is

-- a loop over places, seen by the points of the writes so far
module _ (writes : List Write) (bits i : ℕ) (w : Write) (fits : length writes ≤ room bits) (is : slice_get writes i ≡ Some w) where
  abbrev part : Write → Option Entry
  part v = point_of v.seq v.op

  abbrev Told : Bool → Type 0
  Told b = part w ≡ cond b (Some (entry_in w)) None

  pub number_pushed : (b : Bool) (before after : List ℕ) → b ≡ true → Told b → points_of writes bits before ≡ points_in (take i writes) → after ≡ before ++ (length writes - 1 - i) ∷ [] → points_of writes bits after ≡ points_in (take (i + 1) writes)
  number_pushed b before after passed told known pushed =
      part_pushed part writes i w (entry_in w) (points_of writes bits before) (points_of writes bits after) is (told ∙ ap (λ t. cond t (Some (entry_in w)) None) passed) known
      (ap (points_of writes bits) pushed
      ∙ map-append (entry_at writes bits) before ((length writes - 1 - i) ∷ [])
      ∙ ap (λ p. points_of writes bits before ++ p ∷ []) (point_there writes bits i w fits is))

  pub number_missing : (b : Bool) (before : List ℕ) → b ≡ false → Told b → points_of writes bits before ≡ points_in (take i writes) → points_of writes bits before ≡ points_in (take (i + 1) writes)
  number_missing b before failed told known =
      part_missing part writes i w (points_of writes bits before) is (told ∙ ap (λ t. cond t (Some (entry_in w)) None) failed) known

-- a fact of all points holds of those in front and of those after them
pub all_front : (P : Entry → Type 0) (ps qs : List Entry) → AllByRecursion P (ps ++ qs) → AllByRecursion P ps
all_front P [] qs h = tt
all_front P (p ∷ ps) qs h = (h.0, all_front P ps qs h.1)

pub all_behind : (P : Entry → Type 0) (ps qs : List Entry) → AllByRecursion P (ps ++ qs) → AllByRecursion P qs
all_behind P [] qs h = h
all_behind P (p ∷ ps) qs h = all_behind P ps qs h.1

-- ---- what all keys share

-- keys begin with what they have in common
pub common_front : (xs ys : List ℕ) → HasFront (common_prefix_len eqb xs ys) xs ys
common_front [] ys = record { long = omega arith; same = refl }
common_front (x ∷ xs) [] = record { long = omega arith; same = refl }
common_front (x ∷ xs) (y ∷ ys) = by (eqb x y) refl (common_front xs ys)
  where
    by : (b : Bool) → eqb x y ≡ b → HasFront (common_prefix_len eqb xs ys) xs ys → HasFront (cond b (1 + common_prefix_len eqb xs ys) 0) (x ∷ xs) (y ∷ ys)
    by true e rest =
        let same : x ≡ y = grind (arith, nat_tests) in
        let long : common_prefix_len eqb xs ys ≤ length ys = rest.long in
        subst (λ s. HasFront s (x ∷ xs) (y ∷ ys)) (omega arith) (let later : HasFront (suc (common_prefix_len eqb xs ys)) (x ∷ xs) (y ∷ ys) = record {
          long = omega (arith, long);
          same = ap (λ z. z ∷ take (common_prefix_len eqb xs ys) ys) (sym same) ∙ ap (λ (zs : List ℕ). x ∷ zs) rest.same;
        } in later)
    by false e rest = record { long = omega arith; same = refl }

pub common_bound : (xs ys : List ℕ) → common_prefix_len eqb xs ys ≤ length xs
common_bound [] ys = omega arith
common_bound (x ∷ xs) [] = omega arith
common_bound (x ∷ xs) (y ∷ ys) = by (eqb x y) (common_bound xs ys)
  where
    by : (b : Bool) → common_prefix_len eqb xs ys ≤ length xs → cond b (1 + common_prefix_len eqb xs ys) 0 ≤ length (x ∷ xs)
    by true rest = omega (arith, rest)
    by false rest = omega arith

-- a shorter front
pub shorter : (less shared : ℕ) (first key : List ℕ) → less ≤ shared → HasFront shared first key → HasFront less first key
shorter less shared first key le h = record {
  long = let long : shared ≤ length key = h.long in omega (arith, long, le);
  same = sym (take-take less shared key le) ∙ ap (take less) h.same ∙ take-take less shared first le;
}

-- a front of the first bytes of a key is one of the key
pub of_first : (less shared : ℕ) (first key : List ℕ) → less ≤ shared → HasFront less (take shared first) key → HasFront less first key
of_first less shared first key le h = record { long = h.long; same = h.same ∙ take-take less shared first le }

module _ (writes : List Write) (bits less shared : ℕ) (first : List ℕ) (rs : List ℕ) (i r : ℕ) (le : less ≤ shared) (l : i < length rs) (r_is : r ≡ get_or rs i 0) where
  abbrev here_is : Entry
  here_is = entry_at writes bits r

  point_is : get_or (points_of writes bits rs) i here_is ≡ here_is
  point_is = get_or-map (entry_at writes bits) rs i 0 here_is l ∙ ap (entry_at writes bits) (sym r_is)

  there : i < length (points_of writes bits rs)
  there = subst (λ (n : ℕ). i < n) (sym (length-map rs (entry_at writes bits))) l

  pub fronts_more : HasFront less (take shared first) here_is.key → HaveFront shared first (take i (points_of writes bits rs)) → HaveFront less first (take (i + 1) (points_of writes bits rs))
  fronts_more here so_far =
      All-more (λ (q : Entry). HasFront less first q.key) (points_of writes bits rs) i here_is there
      (All-weaker (λ (q : Entry). HasFront shared first q.key) (λ (q : Entry). HasFront less first q.key) (λ q h. shorter less shared first q.key le h) (take i (points_of writes bits rs)) so_far)
      (subst (λ (q : Entry). HasFront less first q.key) (sym point_is) (of_first less shared first here_is.key le here))

  pub bytes_more : AreBytes here_is.key → HaveBytes (take i (points_of writes bits rs)) → HaveBytes (take (i + 1) (points_of writes bits rs))
  bytes_more here so_far =
      All-more (λ (q : Entry). AreBytes q.key) (points_of writes bits rs) i here_is there so_far
      (subst (λ (q : Entry). AreBytes q.key) (sym point_is) here)
