-- A put that is the only point of its key is all that its run says of it, and a cursor that passes it passes the key.
use Rattle.std.proofs.Common.{◌≡◌, ℕ, zero, suc, ◌+◌, ◌-◌, ◌<◌, ◌≤◌, Bool, true, false, cond, ltb, List, [], ◌∷◌, length, get_or, drop, filter, Option, Some, None, ◌⊎◌, inl, inr, refl, sym, ap, ◌∙◌, subst, arith}
use Rattle.std.specs.Prelude.{◌&&◌, not, nat_le, nat_lt, option_map, IfSome, IfNone}
use Rattle.std.specs.Cmp.Lexicographic.{bytes_decides}
use Rattle.std.specs.List.{slice_get, flat_map}
use Rattle.std.specs.List.Sorted.{IsStrictlySortedBy}
use Rattle.std.specs.Ordering.{is_lt, is_le, ordering_reverse}
use Rattle.std.specs.declared.cmp.Ordering.TheVariants.{Less}
use Rattle.std.proofs.lemmas.Bool.{false≢true}
use Rattle.std.proofs.lemmas.Bool.Decides.{nat_tests}
use Rattle.std.proofs.lemmas.Cmp.{nat_list_cmp_total, tied_itself}
use Rattle.std.proofs.lemmas.List.{drop-drop, length-drop}
use Rattle.std.proofs.lemmas.Option.{get_or_from_slice_get, none-some, same_Some, slice_get_within, slice_get-get_or}
use Rattle.uc_bytes.specs.Bytes.{bytes_cmp, same_bytes}
use Rattle.uc_oper.specs.Operation.{Operation}
use Rattle.uc_oper.specs.declared.effect.Effect.TheVariants.{Set}
use Rattle.uc_model.specs.Meaning.{effect_on}
use Rattle.uc_run_entry.specs.declared.entry.Entry.{Entry}
use Rattle.uc_run_entry.specs.declared.entry.What.{What}
use Rattle.uc_run_entry.specs.declared.entry.What.TheVariants.{Put, Delete, Merge}
use Rattle.uc_run_entry.specs.Fragment.{Fragment}
use Rattle.uc_run_entry.specs.Lookup.{is_visible, above_newest, effect_found}
use Rattle.uc_run_entry.specs.Order.{entry_cmp}
use Rattle.uc_run_entry.specs.PlainList.{plain_list}
use Rattle.uc_run_entry.specs.Run.{Contents, IsRun, covers}
use Rattle.uc_run_entry.specs.Seek.{is_passed, seek_place}
use Rattle.uc_run.specs.BackCursors.{point_before}
use Rattle.uc_run.specs.Heads.{first_key}
use Rattle.uc_run.specs.Found.{IsPutFirst}
use Rattle.uc_run.specs.Lone.{is_same, value_put, lone_put, by_last, lone_put_before}
use Rattle.uc_run.specs.Places.{place_of, IsRest}
use Rattle.uc_run.proofs.FoundThere.{does}
use Rattle.uc_run.proofs.OnKey.{none_before}
use Rattle.uc_run.proofs.Order.{key_before, other_key}
use Rattle.uc_run.proofs.Passing.{walk_ends, seek_bound, seek_point}
use Rattle.uc_run.proofs.PutFirst.{put_first_does}
use Rattle.uc_run.proofs.Rests.{head_there, place_back, rest_behind, sorted-drop}

-- the test of a first point
abbrev by_first : ℕ → Entry → Option (List ℕ) → Option (List ℕ)
by_first at p next = cond (nat_le p.seq at && not (is_same p.key next)) (value_put p.what) None

pub none_there : (es : List Entry) (at : ℕ) → slice_get es 0 ≡ None → lone_put es at ≡ None
none_there [] at e = refl
none_there (p ∷ ps) at e = absurd (none-some p (sym e))

-- where a first point is there, it tells
pub first_tells : (es : List Entry) (at : ℕ) (p : Entry) → slice_get es 0 ≡ Some p → lone_put es at ≡ by_first at p (first_key (drop 1 es))
first_tells [] at p e = absurd (none-some p e)
first_tells (q ∷ qs) at p e =
    let same : q ≡ p = get_or_from_slice_get (q ∷ qs) 0 p q e in
    ap (λ (r : Entry). by_first at r (first_key qs)) same

-- ---- what a lone put is

-- a first point that puts a value, at or below a sequence, before a point of another key
pub record IsLone (es : List Entry) (at : ℕ) (value : List ℕ) : Type 0 where
  pub point : Entry
  pub first : slice_get es 0 ≡ Some point
  pub seen : nat_le point.seq at ≡ true
  pub other : is_same point.key (first_key (drop 1 es)) ≡ false
  pub puts : point.what ≡ Put value

puts_by : (w : What) (value : List ℕ) → value_put w ≡ Some value → w ≡ Put value
puts_by (Put v) value e = ap (λ (x : List ℕ). Put x) (same_Some v value e)
puts_by Delete value e = absurd (none-some value e)
puts_by (Merge operand) value e = absurd (none-some value e)

module _ (p : Entry) (ps : List Entry) (at : ℕ) (value : List ℕ) where
  lone_by : (seen other : Bool) → nat_le p.seq at ≡ seen → is_same p.key (first_key ps) ≡ other → cond (seen && not other) (value_put p.what) None ≡ Some value → IsLone (p ∷ ps) at value
  lone_by true true e f is = absurd (none-some value is)
  lone_by true false e f is = record { point = p; first = refl; seen = e; other = f; puts = puts_by p.what value is }
  lone_by false other e f is = absurd (none-some value is)

pub lone_is : (es : List Entry) (at : ℕ) (value : List ℕ) → lone_put es at ≡ Some value → IsLone es at value
lone_is [] at value is = absurd (none-some value is)
lone_is (p ∷ ps) at value is = lone_by p ps at value (nat_le p.seq at) (is_same p.key (first_key ps)) refl refl is

-- ---- the point after it

is_above : (q r : Entry) (key : List ℕ) → q.key ≡ key → same_bytes r.key q.key ≡ false → (bytes_cmp q.key r.key ≡ Less) ⊎ (q.key ≡ r.key) → is_passed key true r.key ≡ false
is_above q r key is other (inl less) =
    ap (λ (k : List ℕ). is_le (bytes_cmp r.key k)) (sym is) ∙ ap is_le (nat_list_cmp_total.antisymm r.key q.key ∙ ap ordering_reverse less)
is_above q r key is other (inr same) = absurd (false≢true (sym other ∙ (bytes_decides r.key q.key).1 (sym same)))

next_above : (es : List Entry) (p : Entry) (key : List ℕ) → slice_get es 0 ≡ Some p → p.key ≡ key → IsStrictlySortedBy entry_cmp es → is_same p.key (first_key (drop 1 es)) ≡ false → 1 < length es → (d : Entry) → is_passed key true (get_or es 1 d).key ≡ false
unfolding IsStrictlySortedBy
next_above [] p key first is sorted other l d = absurd (none-some p first)
next_above (q ∷ []) p key first is sorted other l d = absurd (omega (arith, l))
next_above (q ∷ r ∷ rs) p key first is sorted other l d =
    let same : q ≡ p = get_or_from_slice_get (q ∷ r ∷ rs) 0 p q first in
    is_above q r key (ap (λ (e : Entry). e.key) same ∙ is) (ap (λ (e : Entry). same_bytes r.key e.key) same ∙ other) (key_before q r sorted.0.0)

no_fragments : (fs : List Fragment) → nat_lt 0 (length fs) ≡ false → fs ≡ []
no_fragments [] e = refl
no_fragments (f ∷ fs) e = absurd (false≢true (sym e ∙ some (length fs)))
  where
    some : (n : ℕ) → nat_lt 0 (suc n) ≡ true
    some n = grind (arith, nat_tests)

-- ---- what it does, and where its key ends

module _ (run : Contents) (place at : ℕ) (key value : List ℕ) (is : IsRun run.low run.high run.points run.fragments) (next : option_map (λ p. p.key) (slice_get run.points place) ≡ Some key) (lone : lone_put (drop place run.points) at ≡ Some value) where
  abbrev es : List Entry
  es = drop place run.points

  abbrev it : IsLone es at value
  it = lone_is es at value lone

  there : slice_get run.points place ≡ Some it.point
  there = sym (head_there run.points place) ∙ it.first

  of_key : it.point.key ≡ key
  of_key = same_Some it.point.key key (ap (option_map (λ (p : Entry). p.key)) (sym there) ∙ next)

  same : same_bytes it.point.key key ≡ true
  same = (bytes_decides it.point.key key).1 of_key

  puts_first : IsPutFirst es key at None value
  puts_first = record {
    point = it.point;
    first = it.first;
    visible = ap (λ b. b && same_bytes it.point.key key) it.seen ∙ same;
    on = same;
    puts = it.puts;
  }

  pub lone_sets : (m : Operation) → ((run : Contents) (key : List ℕ) (at : ℕ) → IsRun run.low run.high run.points run.fragments → effect_on m (plain_list run) key at ≡ effect_found m run key at) → place ≡ seek_place run.points key false → nat_lt 0 (length run.fragments) ≡ false → effect_on m (plain_list run) key at ≡ Set (Some value)
  lone_sets m law from none =
      let on = filter (is_visible key at) es in
      let visible : on ≡ filter (is_visible key at) run.points =
      ap (λ n. filter (is_visible key at) (drop n run.points)) from ∙ sym (none_before key at run.points is.points_sorted) in
      sym (does m law key at run run.points on run.fragments run.fragments is refl visible refl refl)
      ∙ ap (λ (fs : List Fragment). above_newest m on (filter (λ (seq : ℕ). nat_le seq at) (flat_map (λ (f : Fragment). f.seqs) (filter (λ f. covers f key) fs)))) (no_fragments run.fragments none)
      ∙ put_first_does m key at es [] None value refl puts_first

  first_passes : (k : ℕ) (d : Entry) → 0 ≤ k → k < 1 → is_passed key true (get_or es k d).key ≡ true
  first_passes zero d low l =
      ap (λ (p : Entry). is_passed key true p.key) (get_or_from_slice_get es 0 it.point d it.first)
      ∙ ap (λ (k : List ℕ). is_le (bytes_cmp k key)) of_key
      ∙ ap is_le (tied_itself nat_list_cmp_total key)
  first_passes (suc k) d low l = absurd (omega (arith, l))

  pub lone_ends : place + 1 ≡ seek_place run.points key true
  lone_ends =
      let points = run.points in
      let test = λ (p : Entry). is_passed key true p.key in
      let end = seek_place points key true in
      let lt : place < length points = slice_get_within points place it.point there in
      let long : length es ≡ length points - place = length-drop place points in
      let after = λ (l : place + 1 < length points). next_above es it.point key it.first of_key (sorted-drop entry_cmp place points is.points_sorted) it.other (omega (arith, l, long)) in
      let all = walk_ends test points place 1 end (omega (arith, lt)) (seek_bound points key true end refl) (seek_point points key true is.points_sorted end refl) first_passes after it.point in
      omega (arith, all)

-- ---- a cursor that passes it

lone_within : (es : List Entry) (at : ℕ) (value : List ℕ) → lone_put es at ≡ Some value → 1 ≤ length es
lone_within [] at value lone = absurd (none-some value lone)
lone_within (p ∷ ps) at value lone = omega arith

pub told : {X : Type 0} (f : X → List ℕ) (r : Option X) (o : Option (List ℕ)) → option_map f r ≡ o → IfSome r (λ x. o ≡ Some (f x))
told f None o e = tt
told f (Some x) o e = sym e

-- two facts of the value in a `Some`
pub both_told : {X : Type 0} (r : Option X) {P Q R : X → Type 0} → ((x : X) → P x → Q x → R x) → IfSome r P → IfSome r Q → IfSome r R
both_told None f p q = tt
both_told (Some x) f p q = f x p q

module _ (points ahead new : List Entry) (at : ℕ) (rest : IsRest points ahead) where
  abbrev place : ℕ
  place = place_of points ahead

  module _ (value : List ℕ) (lone : lone_put ahead at ≡ Some value) (passes : new ≡ drop 1 ahead) where
    within : place + 1 ≤ length points
    within =
        let some : 1 ≤ length ahead = lone_within ahead at value lone in
        let long : length ahead ≡ length points - place = ap (λ (es : List Entry). length es) rest ∙ length-drop place points in
        omega (arith, some, long)

    made : new ≡ drop (place + 1) points
    made = passes ∙ ap (λ (es : List Entry). drop 1 es) rest ∙ drop-drop 1 place points

    pub place_after : place_of points new ≡ place + 1
    place_after = ap (place_of points) made ∙ place_back points (place + 1) within

    rest_after : IsRest points new
    rest_after = subst (IsRest points) (sym made) (rest_behind points (place + 1) within)

  pub rest_moved : {X : Type 0} (f : X → List ℕ) (r : Option X) → option_map f r ≡ lone_put ahead at → IfSome r (λ x. new ≡ drop 1 ahead) → IfNone r (new ≡ ahead) → IsRest points new
  rest_moved f None is passes stays = subst (IsRest points) (sym stays) rest
  rest_moved f (Some x) is passes stays = rest_after (f x) (sym is) passes

-- ---- against the order

abbrev key_of : Option Entry → Option (List ℕ)
key_of o = option_map (λ (p : Entry). p.key) o

-- the point just before a place puts a value, at or below a sequence, after a point of another key
record IsLoneBefore (points : List Entry) (place at : ℕ) (value : List ℕ) : Type 0 where
  pub point : Entry
  pub there : point_before points place ≡ Some point
  pub seen : nat_le point.seq at ≡ true
  pub other : is_same point.key (key_of (point_before points (place - 1))) ≡ false
  pub puts : point.what ≡ Put value

module _ (points : List Entry) (place at : ℕ) (value : List ℕ) where
  before_by : (p : Entry) (seen other : Bool) → point_before points place ≡ Some p → nat_le p.seq at ≡ seen → is_same p.key (key_of (point_before points (place - 1))) ≡ other → cond (seen && not other) (value_put p.what) None ≡ Some value → IsLoneBefore points place at value
  before_by p true true point e f is = absurd (none-some value is)
  before_by p true false point e f is = record { point = p; there = point; seen = e; other = f; puts = puts_by p.what value is }
  before_by p false other point e f is = absurd (none-some value is)

  lone_of : (o : Option Entry) → point_before points place ≡ o → by_last points place at o ≡ Some value → IsLoneBefore points place at value
  lone_of None point is = absurd (none-some value is)
  lone_of (Some p) point is = before_by p (nat_le p.seq at) (is_same p.key (key_of (point_before points (place - 1)))) point refl refl is

  lone_before_is : lone_put_before points place at ≡ Some value → IsLoneBefore points place at value
  lone_before_is is = lone_of (point_before points place) refl is

after_point : (points : List Entry) (place : ℕ) (p : Entry) → point_before points place ≡ Some p → (place ≡ suc (place - 1)) × (slice_get points (place - 1) ≡ Some p)
after_point points zero p there = absurd (none-some p there)
after_point points (suc n) p there =
    let same : suc n - 1 ≡ n = omega arith in
    (omega arith, ap (slice_get points) same ∙ there)

sorted_pair : (es : List Entry) (n : ℕ) (q p : Entry) → IsStrictlySortedBy entry_cmp es → slice_get es n ≡ Some q → slice_get es (suc n) ≡ Some p → entry_cmp q p ≡ Less
unfolding IsStrictlySortedBy
sorted_pair [] n q p sorted a b = absurd (none-some q a)
sorted_pair (x ∷ []) zero q p sorted a b = absurd (none-some p b)
sorted_pair (x ∷ y ∷ ys) zero q p sorted a b = ap (λ (e : Entry). entry_cmp e p) (sym (same_Some x q a)) ∙ ap (λ (e : Entry). entry_cmp x e) (sym (same_Some y p b)) ∙ sorted.0.0
sorted_pair (x ∷ xs) (suc n) q p sorted a b = sorted_pair xs n q p sorted.1 a b

-- a point before one that is the first of its key isn't at or after that key
is_lower : (q p : Entry) (key : List ℕ) → p.key ≡ key → same_bytes q.key p.key ≡ false → (bytes_cmp q.key p.key ≡ Less) ⊎ (q.key ≡ p.key) → is_passed key false q.key ≡ true
is_lower q p key is other (inl less) = ap (λ (k : List ℕ). is_lt (bytes_cmp q.key k)) (sym is) ∙ ap is_lt less
is_lower q p key is other (inr same) = absurd (false≢true (sym other ∙ (bytes_decides q.key p.key).1 same))

module _ (run : Contents) (place at : ℕ) (key value : List ℕ) (is : IsRun run.low run.high run.points run.fragments) (last : key_of (point_before run.points place) ≡ Some key) (lone : lone_put_before run.points place at ≡ Some value) where
  abbrev found : IsLoneBefore run.points place at value
  found = lone_before_is run.points place at value lone

  key_is : found.point.key ≡ key
  key_is = same_Some found.point.key key (ap key_of (sym found.there) ∙ last)

  at_it : slice_get run.points (place - 1) ≡ Some found.point
  at_it = (after_point run.points place found.point found.there).1

  after_it : place ≡ suc (place - 1)
  after_it = (after_point run.points place found.point found.there).0

  inside : place - 1 < length run.points
  inside = slice_get_within run.points (place - 1) found.point at_it

  not_below : place - 1 < seek_place run.points key false → ⊥
  not_below lt =
      let points = run.points in
      let point = seek_point points key false is.points_sorted (seek_place points key false) refl in
      let passes : is_passed key false (get_or points (place - 1) found.point).key ≡ true = point.0 (place - 1) found.point (omega arith) lt in
      let same : get_or points (place - 1) found.point ≡ found.point = get_or_from_slice_get points (place - 1) found.point found.point at_it in
      false≢true (ap is_lt (sym (tied_itself nat_list_cmp_total key)) ∙ ap (λ (k : List ℕ). is_lt (bytes_cmp k key)) (sym (ap (λ (p : Entry). p.key) same ∙ key_is)) ∙ passes)

  not_above : seek_place run.points key false < place - 1 → ⊥
  not_above lt =
      let points = run.points in
      let n = place - 2 in
      let two : place - 1 ≡ suc n = omega (arith, lt) in
      let within : n < length points = omega (arith, two, inside) in
      let q = get_or points n found.point in
      let there : slice_get points n ≡ Some q = slice_get-get_or points n found.point within in
      let point = seek_point points key false is.points_sorted (seek_place points key false) refl in
      let fails : is_passed key false q.key ≡ false = point.1 n found.point (omega (arith, lt, two)) within in
      let less = sorted_pair points n q found.point is.points_sorted there (ap (slice_get points) (sym two) ∙ at_it) in
      let before_it : point_before points (place - 1) ≡ Some q = ap (point_before points) two ∙ there in
      let other : same_bytes q.key found.point.key ≡ false = ap (λ (o : Option Entry). is_same found.point.key (key_of o)) (sym before_it) ∙ found.other in
      false≢true (sym fails ∙ is_lower q found.point key key_is other (key_before q found.point less))

  -- the key's points begin there
  pub lone_begins : place - 1 ≡ seek_place run.points key false
  lone_begins = by (ltb (place - 1) (seek_place run.points key false)) (ltb (seek_place run.points key false) (place - 1)) refl refl
    where
      by : (a b : Bool) → ltb (place - 1) (seek_place run.points key false) ≡ a → ltb (seek_place run.points key false) (place - 1) ≡ b → place - 1 ≡ seek_place run.points key false
      by true b e f = let lt : place - 1 < seek_place run.points key false = grind (arith, nat_tests) in absurd (not_below lt)
      by false true e f = let lt : seek_place run.points key false < place - 1 = grind (arith, nat_tests) in absurd (not_above lt)
      by false false e f = grind (arith, nat_tests)

  other_after : (o : Option Entry) → slice_get run.points place ≡ o → place ≡ seek_place run.points key true → is_same found.point.key (key_of o) ≡ false
  other_after None e from = refl
  other_after (Some r) e from =
      let points = run.points in
      let within : place < length points = slice_get_within points place r e in
      let point = seek_point points key true is.points_sorted place from in
      let same : get_or points place r ≡ r = get_or_from_slice_get points place r r e in
      let fails : is_passed key true r.key ≡ false = ap (λ (p : Entry). is_passed key true p.key) (sym same) ∙ point.1 place r (omega arith) within in
      ap (same_bytes r.key) key_is
      ∙ other_key r.key key (same_bytes r.key key) refl (λ tied. false≢true (sym fails ∙ ap is_le tied))

  lone_at : place ≡ seek_place run.points key true → lone_put (drop (place - 1) run.points) at ≡ Some value
  lone_at from =
      let points = run.points in
      let p = found.point in
      let es = drop (place - 1) points in
      let first : slice_get es 0 ≡ Some p = head_there points (place - 1) ∙ at_it in
      let again : place - 1 + 1 ≡ place = omega (arith, after_it) in
      let after : first_key (drop 1 es) ≡ key_of (slice_get points place) =
      ap first_key (drop-drop 1 (place - 1) points ∙ ap (λ (n : ℕ). drop n points) again) ∙ ap key_of (head_there points place) in
      first_tells es at p first
      ∙ ap (by_first at p) after
      ∙ ap (λ b. cond (nat_le p.seq at && not b) (value_put p.what) None) (other_after (slice_get points place) refl from)
      ∙ ap (λ b. cond (b && true) (value_put p.what) None) found.seen
      ∙ ap value_put found.puts

  pub lone_before_sets : (m : Operation) → ((run : Contents) (key : List ℕ) (at : ℕ) → IsRun run.low run.high run.points run.fragments → effect_on m (plain_list run) key at ≡ effect_found m run key at) → place ≡ seek_place run.points key true → nat_lt 0 (length run.fragments) ≡ false → effect_on m (plain_list run) key at ≡ Set (Some value)
  lone_before_sets m law from none =
      lone_sets run (place - 1) at key value is (ap key_of at_it ∙ ap (λ (k : List ℕ). Some k) key_is) (lone_at from) m law lone_begins none
