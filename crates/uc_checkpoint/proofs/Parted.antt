-- Rows whose keys rise, parted by a key: those from it on are what a scan from it shows.
use Rattle.std.proofs.Common.{◌≡◌, ℕ, zero, suc, ◌<◌, Bool, true, false, IsTrue, ◌&&◌, List, [], ◌∷◌, length, get_or, take, drop, Some, None, All, Contains, ◌⊎◌, inl, inr, ⊎_elim, refl, sym, ap, subst, ◌∙◌, arith}
use Rattle.std.specs.List.{AllByRecursion}
use Rattle.std.specs.List.Sorted.{IsStrictlySortedBy}
use Rattle.std.specs.declared.cmp.Ordering.{Ordering}
use Rattle.std.specs.declared.cmp.Ordering.TheVariants.{Less, Equal, Greater}
use Rattle.std.specs.Ordering.{is_lt, is_le, ordering_reverse}
use Rattle.std.proofs.lemmas.Bool.{false≢true}
use Rattle.std.proofs.lemmas.Cmp.{nat_list_cmp_total, tied_itself}
use Rattle.std.proofs.lemmas.List.{take-append-drop, length-take, take_all}
use Rattle.std.proofs.lemmas.List.Elements.{All-nil, All-cons, All-take, All-drop, All-contains, All-get_or, All-from_recursion, recursion_from_All, Contains-append_cases}
use Rattle.uc_bytes.specs.Bytes.{bytes_cmp}
use Rattle.uc_bytes.specs.declared.write.Write.{Write}
use Rattle.uc_model.proofs.Members.{contains_first, contains_later, contains_cases, contains_nothing}
use Rattle.uc_oper.specs.Operation.{Operation}
use Rattle.uc_query_read.specs.Answers.{rows_of, named_keys}
use Rattle.uc_rows.specs.Rising.{KeysRise}
use Rattle.uc_query_read.specs.Scans.{IsRow, AreFirst, IsScan}
use Rattle.uc_checkpoint.specs.HeldCheckpoints.{Parts}

abbrev Row : Type 0
Row = List ℕ × List ℕ

-- a row whose key is the key, or above it
abbrev IsFrom : List ℕ → Row → Type 0
IsFrom key row = IsTrue (is_le (bytes_cmp key row.0))

abbrev IsUnder : List ℕ → Row → Type 0
IsUnder key row = IsTrue (is_lt (bytes_cmp row.0 key))

behind_from : (key : List ℕ) (rows : List Row) → AllByRecursion (λ (other : Row). bytes_cmp key other.0 ≡ Less) rows → AllByRecursion (IsFrom key) rows
behind_from key [] behind = tt
behind_from key (row ∷ rows) behind = (ap is_le behind.0, behind_from key rows behind.1)

-- the key of a row parts the rows before it from the others
pub parted : (rows : List Row) (i : ℕ) (d : Row) → KeysRise rows → i < length rows → Parts (Some (get_or rows i d).0) i rows
unfolding IsStrictlySortedBy
parted [] i d rise l = absurd (omega arith)
parted (row ∷ rows) zero d rise l = (tt, (ap is_le (tied_itself nat_list_cmp_total row.0), behind_from row.0 rows rise.0))
parted (row ∷ rows) (suc i) d rise l =
    let place : i < length rows = omega arith in
    let rest = parted rows i d rise.1 place in
    let less = All-get_or (λ (other : Row). bytes_cmp row.0 other.0 ≡ Less) rows i d place (All-from_recursion (λ (other : Row). bytes_cmp row.0 other.0 ≡ Less) rows rise.0) in
    ((ap is_lt less, rest.0), rest.1)

rise_take : (n : ℕ) (rows : List Row) → KeysRise rows → KeysRise (take n rows)
unfolding IsStrictlySortedBy
rise_take zero rows rise = tt
rise_take (suc n) [] rise = tt
rise_take (suc n) (row ∷ rows) rise =
    let below = λ (other : Row). bytes_cmp row.0 other.0 ≡ Less in
    (recursion_from_All below (take n rows) (All-take below n rows (All-from_recursion below rows rise.0)), rise_take n rows rise.1)

rise_drop : (n : ℕ) (rows : List Row) → KeysRise rows → KeysRise (drop n rows)
unfolding IsStrictlySortedBy
rise_drop zero rows rise = rise
rise_drop (suc n) [] rise = tt
rise_drop (suc n) (row ∷ rows) rise = rise_drop n rows rise.1

-- a row is among the first ones, or as many as are allowed come before it
shown_first : (limit : ℕ) (rows : List Row) (row : Row) → KeysRise rows → Contains rows row → Contains (take limit rows) row ⊎ ((length (take limit rows) ≡ limit) × All (λ other. bytes_cmp other.0 row.0 ≡ Less) (take limit rows))
unfolding IsStrictlySortedBy
shown_first zero rows row rise has = inr (refl, All-nil (λ (other : Row). bytes_cmp other.0 row.0 ≡ Less))
shown_first (suc limit) [] row rise has = absurd (contains_nothing row has)
shown_first (suc limit) (first ∷ rows) row rise has =
    let below = λ (other : Row). bytes_cmp first.0 other.0 ≡ Less in
    ⊎_elim
    (λ same. inl (contains_first first row (take limit rows) same))
    (λ later. ⊎_elim
    (λ shown. inl (contains_later first row (take limit rows) shown))
    (λ behind. inr (ap suc behind.0, All-cons (λ (other : Row). bytes_cmp other.0 row.0 ≡ Less) first (take limit rows) (All-contains below rows row (All-from_recursion below rows rise.0) later) behind.1))
    (shown_first limit rows row rise.1 later))
    (contains_cases first row rows has)

not_both : (o : Ordering) → is_lt (ordering_reverse o) ≡ true → is_le o ≡ true → ⊥
not_both Less under from = false≢true under
not_both Equal under from = false≢true under
not_both Greater under from = false≢true from

under_or_from : (key : List ℕ) (row : Row) → IsUnder key row → IsFrom key row → ⊥
under_or_from key row under from = not_both (bytes_cmp key row.0) (sym (ap is_lt (nat_list_cmp_total.antisymm row.0 key)) ∙ under) from

-- Of all rows with P the first ones of those that a key leaves are the first with Q, where Q are those with P from it on.
first_left : (P Q : Row → Type 0) (key : List ℕ) (all : List Row) (count limit : ℕ) → KeysRise all → All P all → ((row : Row) → P row → Contains all row)
    → ((row : Row) → P row → IsFrom key row → Q row) → ((row : Row) → Q row → P row × IsFrom key row) → Parts (Some key) count all → AreFirst Q limit (take limit (drop count all))
first_left P Q key all count limit rise only whole to from parts =
    let rest = drop count all in
    let left = rise_drop count all rise in
    let some = All-drop P count all only in
    let behind = All-from_recursion (IsFrom key) rest parts.1 in
    let before = All-from_recursion (IsUnder key) (take count all) parts.0 in
    let length_ = length-take limit rest in
    record {
      rise = rise_take limit rest left;
      only = All-take Q limit rest (λ k d l. to (get_or rest k d) (some k d l) (behind k d l));
      few = omega (arith, length_);
      first = λ row q.
          let at_all = subst (λ (rows : List Row). Contains rows row) (sym (take-append-drop count all)) (whole row (from row q).0) in
          ⊎_elim
          (λ laid. absurd (under_or_from key row (All-contains (IsUnder key) (take count all) row before laid) (from row q).1))
          (λ has. shown_first limit rest row left has)
          (Contains-append_cases (take count all) rest row at_all);
    }

nothing_under : (key : List ℕ) → IsTrue (is_le (bytes_cmp [] key))
nothing_under [] = refl
nothing_under (byte ∷ bytes) = refl

with_no_end : (b : Bool) → IsTrue b → IsTrue (b && true)
with_no_end true t = refl
with_no_end false t = absurd (false≢true t)

without_end : (b : Bool) → IsTrue (b && true) → IsTrue b
without_end true t = refl
without_end false t = absurd (false≢true t)

-- what a scan without bounds shows, if as many rows as it likes
module _ (m : Operation) (ws : List Write) (at : ℕ) where
  abbrev every_row : List Row
  every_row = rows_of m ws at (named_keys ws [] None)

  abbrev pub AreFirstRows : Type 0
  AreFirstRows = (low : List ℕ) (limit : ℕ) → IsScan m ws low None at limit (take limit (rows_of m ws at (named_keys ws low None)))

  abbrev pub AreDetermined : Type 0
  AreDetermined = (low : List ℕ) (limit : ℕ) (rows others : List Row) → IsScan m ws low None at limit rows → IsScan m ws low None at limit others → rows ≡ others

  every_first : AreFirstRows → IsScan m ws [] None at (suc (length every_row)) every_row
  every_first first = subst (IsScan m ws [] None at (suc (length every_row))) (take_all (suc (length every_row)) every_row (omega arith)) (first [] (suc (length every_row)))

  pub every_rises : AreFirstRows → KeysRise every_row
  every_rises first = (every_first first).rise

  every_whole : AreFirstRows → (row : Row) → IsRow m ws [] None at row → Contains every_row row
  every_whole first row p = ⊎_elim (λ has. has) (λ full. absurd (omega (arith, full.0))) ((every_first first).first row p)

  -- a scan from a key that parts the rows shows the first of those that are left
  pub scan_shows_left : (key : List ℕ) (count limit : ℕ) → AreFirstRows → AreDetermined → Parts (Some key) count every_row → take limit (rows_of m ws at (named_keys ws key None)) ≡ take limit (drop count every_row)
  scan_shows_left key count limit first once parts =
      once key limit (take limit (rows_of m ws at (named_keys ws key None))) (take limit (drop count every_row)) (first key limit)
      (first_left (IsRow m ws [] None at) (IsRow m ws key None at) key every_row count limit (every_rises first) (every_first first).only (every_whole first)
      (λ row p from. ((with_no_end (is_le (bytes_cmp key row.0)) from, p.0.1), p.1))
      (λ row q. (((with_no_end (is_le (bytes_cmp [] row.0)) (nothing_under row.0), q.0.1), q.1), without_end (is_le (bytes_cmp key row.0)) q.0.0))
      parts)
