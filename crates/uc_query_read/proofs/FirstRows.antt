-- The rows of a scan: they are the first of those that it may show, and no other list is that.
use Rattle.std.proofs.Common.{◌≡◌, ℕ, zero, suc, ◌≤◌, List, [], ◌∷◌, ◌++◌, length, take, Option, Some, None, option_map, filter_map, All, Contains, inl, inr, ⊎_elim, refl, sym, ap, ◌∙◌, subst, arith}
use Rattle.std.specs.List.{AllByRecursion, cons_option}
use Rattle.std.specs.List.Sorted.{IsStrictlySortedBy}
use Rattle.std.specs.declared.cmp.Ordering.{Ordering}
use Rattle.std.specs.declared.cmp.Ordering.TheVariants.{Less, Equal, Greater}
use Rattle.std.specs.Ordering.{ordering_reverse}
use Rattle.std.proofs.lemmas.Cmp.{nat_list_cmp_total, tied_itself}
use Rattle.std.proofs.lemmas.Map.Lookups.{exact_bytes}
use Rattle.std.proofs.lemmas.List.Elements.{All-nil, All-cons, All-head, All-tail, All-contains, All-weaker, All-from_recursion, recursion_from_All}
use Rattle.uc_bytes.specs.Bytes.{bytes_cmp}
use Rattle.uc_oper.specs.Operation.{Operation}
use Rattle.uc_bytes.specs.declared.write.Write.{Write}
use Rattle.uc_model.specs.Meaning.{value_of}
use Rattle.std.proofs.lemmas.List.{append-nil, take_all}
use Rattle.uc_query_read.specs.Ahead.{Comes}
use Rattle.uc_query_read.specs.Answers.{named_keys, rows_of}
use Rattle.uc_query_read.specs.Scans.{IsRow, AreFirst, IsScan}
use Rattle.uc_model.proofs.Members.{contains_first, contains_later, contains_cases, contains_nothing}
use Rattle.uc_query_read.proofs.NamedKeys.{keys_rise, keys_named}

abbrev Row : Type 0
Row = List ℕ × List ℕ

-- how two rows compare: by their keys
abbrev row_cmp : Row → Row → Ordering
row_cmp row other = bytes_cmp row.0 other.0

no_less_itself : (x : List ℕ) → bytes_cmp x x ≡ Less → ⊥
no_less_itself x e = let t = tied_itself nat_list_cmp_total x in cc

less_once : (x y : List ℕ) → bytes_cmp x y ≡ Less → bytes_cmp y x ≡ Less → ⊥
less_once x y e f = no_less_itself x (nat_list_cmp_total.trans x y x e f)

same_pair : (key value k v : List ℕ) → key ≡ k → value ≡ v → ◌≡◌ {A = Row} (key, value) (k, v)
same_pair key value k v e w = cc

-- the rows of a list of keys, where `f` gives their values
module _ (f : List ℕ → Option (List ℕ)) where
  abbrev row_at : List ℕ → Option Row
  row_at key = option_map (λ value. (key, value)) (f key)

  abbrev IsRowOf : List (List ℕ) → Row → Type 0
  IsRowOf keys row = Contains keys row.0 × (f row.0 ≡ Some row.1)

  abbrev Shows : List (List ℕ) → ℕ → List Row → Type 0
  Shows keys limit rows = AreFirst (IsRowOf keys) limit rows

  none_shown : (limit : ℕ) → Shows [] limit []
  unfolding IsStrictlySortedBy
  none_shown limit = record {
    rise = tt;
    only = All-nil (IsRowOf []);
    few = omega arith;
    first = λ row p. absurd (contains_nothing row.0 p.0);
  }

  -- a key without value is passed over
  passed : (key : List ℕ) (keys : List (List ℕ)) (limit : ℕ) (rows : List Row) → f key ≡ None → Shows keys limit rows → Shows (key ∷ keys) limit rows
  passed key keys limit rows e s = record {
    rise = s.rise;
    only = All-weaker (IsRowOf keys) (IsRowOf (key ∷ keys)) (λ row p. (contains_later key row.0 keys p.0, p.1)) rows s.only;
    few = s.few;
    first = λ row p. ⊎_elim (λ same. absurd (let v = p.1 in cc)) (λ c. s.first row (c, p.1)) (contains_cases key row.0 keys p.0);
  }

  -- the limit of rows is reached
  full : (keys : List (List ℕ)) → Shows keys 0 []
  unfolding IsStrictlySortedBy
  full keys = record {
    rise = tt;
    only = All-nil (IsRowOf keys);
    few = omega arith;
    first = λ row p. inr (refl, All-nil (λ (other : Row). bytes_cmp other.0 row.0 ≡ Less));
  }

  above_rows : (key : List ℕ) (keys : List (List ℕ)) (rows : List Row) → AllByRecursion (λ other. bytes_cmp key other ≡ Less) keys → All (IsRowOf keys) rows → All (λ other. bytes_cmp key other.0 ≡ Less) rows
  above_rows key keys rows below only =
      All-weaker (IsRowOf keys) (λ other. bytes_cmp key other.0 ≡ Less) (λ row p. All-contains (λ other. bytes_cmp key other ≡ Less) keys row.0 (All-from_recursion (λ other. bytes_cmp key other ≡ Less) keys below) p.0) rows only

  same_row : (key value : List ℕ) (row : Row) → f key ≡ Some value → f row.0 ≡ Some row.1 → key ≡ row.0 → (key, value) ≡ row
  same_row key value row e v same = let worth : value ≡ row.1 = cc in same_pair key value row.0 row.1 same worth

  -- a key with a value comes first, and the others have one place less
  placed : (key value : List ℕ) (keys : List (List ℕ)) (limit : ℕ) (rows : List Row) → f key ≡ Some value → AllByRecursion (λ other. bytes_cmp key other ≡ Less) keys → Shows keys limit rows → Shows (key ∷ keys) (suc limit) ((key, value) ∷ rows)
  unfolding IsStrictlySortedBy
  placed key value keys limit rows e below s =
      let above = above_rows key keys rows below s.only in
      record {
        rise = (recursion_from_All (λ (other : Row). bytes_cmp key other.0 ≡ Less) rows above, s.rise);
        only = All-cons (IsRowOf (key ∷ keys)) (key, value) rows (contains_first key key keys refl, e) (All-weaker (IsRowOf keys) (IsRowOf (key ∷ keys)) (λ row p. (contains_later key row.0 keys p.0, p.1)) rows s.only);
        few = omega (arith, s.few);
        first = λ row p.
            ⊎_elim
            (λ same. inl (contains_first (key, value) row rows (same_row key value row e p.1 same)))
            (λ c. ⊎_elim (λ d. inl (contains_later (key, value) row rows d)) (λ behind. inr (ap suc behind.0, All-cons (λ (other : Row). bytes_cmp other.0 row.0 ≡ Less) (key, value) rows (All-contains (λ other. bytes_cmp key other ≡ Less) keys row.0 (All-from_recursion (λ other. bytes_cmp key other ≡ Less) keys below) c) behind.1)) (s.first row (c, p.1)))
            (contains_cases key row.0 keys p.0);
      }

  shows_by_value : (key : List ℕ) (keys : List (List ℕ)) (limit : ℕ) (o : Option (List ℕ)) → f key ≡ o → AllByRecursion (λ other. bytes_cmp key other ≡ Less) keys → ((n : ℕ) → Shows keys n (take n (filter_map row_at keys))) → Shows (key ∷ keys) limit (take limit (cons_option (option_map (λ value. (key, value)) o) (filter_map row_at keys)))
  shows_by_value key keys limit None e below rest = passed key keys limit (take limit (filter_map row_at keys)) e (rest limit)
  shows_by_value key keys zero (Some value) e below rest = full (key ∷ keys)
  shows_by_value key keys (suc limit) (Some value) e below rest = placed key value keys limit (take limit (filter_map row_at keys)) e below (rest limit)

  take_nothing : (limit : ℕ) → ◌≡◌ {A = List Row} [] (take limit [])
  take_nothing zero = refl
  take_nothing (suc limit) = refl

  -- the first rows of keys that rise
  shows_first : (keys : List (List ℕ)) → IsStrictlySortedBy bytes_cmp keys → (limit : ℕ) → Shows keys limit (take limit (filter_map row_at keys))
  unfolding IsStrictlySortedBy
  shows_first [] rise limit = subst (Shows [] limit) (take_nothing limit) (none_shown limit)
  shows_first (key ∷ keys) rise limit = shows_by_value key keys limit (f key) refl rise.0 (shows_first keys rise.1)

-- to be the first of what has P or of what has Q is the same where P and Q are
pub first_alike : (P Q : Row → Type 0) (limit : ℕ) (rows : List Row) → ((row : Row) → P row → Q row) → ((row : Row) → Q row → P row) → AreFirst P limit rows → AreFirst Q limit rows
first_alike P Q limit rows to from s = record { rise = s.rise; only = All-weaker P Q to rows s.only; few = s.few; first = λ row q. s.first row (from row q) }

-- the rows of a scan are the first that it may show
pub rows_first : (m : Operation) (ws : List Write) (low : List ℕ) (high : Option (List ℕ)) (at limit : ℕ) → IsScan m ws low high at limit (take limit (rows_of m ws at (named_keys ws low high)))
rows_first m ws low high at limit =
    let keys = named_keys ws low high in
    let f = λ (key : List ℕ). value_of m ws key at in
    first_alike (IsRowOf f keys) (IsRow m ws low high at) limit (take limit (rows_of m ws at keys))
    (λ row p. ((keys_named ws low high row.0).0 p.0, p.1))
    (λ row p. ((keys_named ws low high row.0).1 p.0, p.1))
    (shows_first f keys (keys_rise ws low high) limit)

-- pairs with one key are one
abbrev HasOneEach : (Row → Type 0) → Type 0
HasOneEach P = (row other : Row) → P row → P other → row.0 ≡ other.0 → row ≡ other

-- the pairs after a row
abbrev IsBehind : (Row → Type 0) → Row → Row → Type 0
IsBehind P row other = P other × (bytes_cmp row.0 other.0 ≡ Less)

module _ (P : Row → Type 0) where
  -- the others are the first of those after the first one
  others_first : (limit : ℕ) (row : Row) (rows : List Row) → AreFirst P (suc limit) (row ∷ rows) → AreFirst (IsBehind P row) limit rows
  unfolding IsStrictlySortedBy
  others_first limit row rows s =
      let above = All-from_recursion (λ (other : Row). bytes_cmp row.0 other.0 ≡ Less) rows s.rise.0 in
      let tail = All-tail P row rows s.only in
      record {
        rise = s.rise.1;
        only = λ k d l. (tail k d l, above k d l);
        few = omega (arith, s.few);
        first = λ other p.
            ⊎_elim
            (λ c. ⊎_elim (λ same. absurd (no_less_itself other.0 (subst (λ (r : Row). bytes_cmp r.0 other.0 ≡ Less) same p.1))) inl (contains_cases row other rows c))
            (λ behind. inr (omega (arith, behind.0), All-tail (λ (r : Row). bytes_cmp r.0 other.0 ≡ Less) row rows behind.1))
            (s.first other p.0);
      }

  -- no pair stands before the first one
  none_before : (limit : ℕ) (row other : Row) (rows : List Row) → AreFirst P limit (row ∷ rows) → P other → bytes_cmp other.0 row.0 ≡ Less → ⊥
  unfolding IsStrictlySortedBy
  none_before limit row other rows s p less =
      ⊎_elim
      (λ c. ⊎_elim
      (λ same. no_less_itself other.0 (subst (λ (r : Row). bytes_cmp other.0 r.0 ≡ Less) same less))
      (λ d. less_once other.0 row.0 less (All-contains (λ (r : Row). bytes_cmp row.0 r.0 ≡ Less) rows other (All-from_recursion (λ (r : Row). bytes_cmp row.0 r.0 ≡ Less) rows s.rise.0) d))
      (contains_cases row other rows c))
      (λ behind. less_once other.0 row.0 less (All-head (λ (r : Row). bytes_cmp r.0 other.0 ≡ Less) row rows behind.1))
      (s.first other p)

  same_head : HasOneEach P → (limit : ℕ) (row other : Row) (rows others : List Row) (o : Ordering) → bytes_cmp row.0 other.0 ≡ o → AreFirst P limit (row ∷ rows) → AreFirst P limit (other ∷ others) → row ≡ other
  same_head one limit row other rows others Less e s t = absurd (none_before limit other row others t (All-head P row rows s.only) e)
  same_head one limit row other rows others Equal e s t = one row other (All-head P row rows s.only) (All-head P other others t.only) (exact_bytes row.0 other.0 e)
  same_head one limit row other rows others Greater e s t =
      absurd (none_before limit row other rows s (All-head P other others t.only) (nat_list_cmp_total.antisymm other.0 row.0 ∙ ap ordering_reverse e))

  not_empty : (limit : ℕ) (row : Row) (rows : List Row) → AreFirst P limit [] → AreFirst P limit (row ∷ rows) → ⊥
  not_empty limit row rows s t =
      ⊎_elim (contains_nothing row) (λ behind. omega (arith, behind.0, t.few)) (s.first row (All-head P row rows t.only))

-- only one list is the first of what has P
first_once : (rows others : List Row) (P : Row → Type 0) → HasOneEach P → (limit : ℕ) → AreFirst P limit rows → AreFirst P limit others → rows ≡ others
first_once [] [] P one limit s t = refl
first_once [] (other ∷ others) P one limit s t = absurd (not_empty P limit other others s t)
first_once (row ∷ rows) [] P one limit s t = absurd (not_empty P limit row rows t s)
first_once (row ∷ rows) (other ∷ others) P one zero s t = absurd (omega (arith, s.few))
first_once (row ∷ rows) (other ∷ others) P one (suc limit) s t =
    let head = same_head P one (suc limit) row other rows others (bytes_cmp row.0 other.0) refl s t in
    let tail = first_once rows others (IsBehind P row) (λ r q p x. one r q p.0 x.0) limit (others_first P limit row rows s) (subst (λ (r : Row). AreFirst (IsBehind P r) limit others) (sym head) (others_first P limit other others t)) in
    ap (λ (r : Row). r ∷ rows) head ∙ ap (λ (rs : List Row). other ∷ rs) tail

-- no other list is the rows of a scan
pub rows_once : (m : Operation) (ws : List Write) (low : List ℕ) (high : Option (List ℕ)) (at limit : ℕ) (rows others : List Row) → IsScan m ws low high at limit rows → IsScan m ws low high at limit others → rows ≡ others
rows_once m ws low high at limit rows others s t =
    first_once rows others (IsRow m ws low high at) (λ row other p q e. same_row (λ key. value_of m ws key at) row.0 row.1 other p.1 q.1 e) limit s t

-- where no key is ahead, the rows so far are all
pub all_rows : (m : Operation) (ws : List Write) (at limit : ℕ) (rows all : List (List ℕ × List ℕ)) (keys others : List (List ℕ)) (first : Option (List ℕ)) → length rows ≤ limit → Comes keys first others → first ≡ None → take limit (rows ++ rows_of m ws at keys) ≡ take limit all → rows ≡ take limit all
all_rows m ws at limit rows all keys others first few comes none whole =
    let ended = subst (λ (f : Option (List ℕ)). Comes keys f others) none comes in
    let rest : rows ≡ rows ++ rows_of m ws at keys = sym (append-nil rows) ∙ ap (λ (ks : List (List ℕ)). rows ++ rows_of m ws at ks) (sym ended.0) in
    sym (take_all limit rows few) ∙ ap (take limit) rest ∙ whole
