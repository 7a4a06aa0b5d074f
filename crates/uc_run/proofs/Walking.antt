-- A walk over points: what is passed, and what is ahead.
use Rattle.std.proofs.Common.{◌≡◌, ℕ, ◌+◌, ◌-◌, ◌^◌, ◌<◌, ◌≤◌, min, List, [], ◌∷◌, ◌++◌, length, get_or, take, drop, Some, None, refl, sym, ap, ◌∙◌, arith}
use Rattle.std.specs.List.{slice_get, sum_by}
use Rattle.std.proofs.lemmas.List.{drop-drop, drop-take, take-take, take-append-drop, length-drop, take_more, take_all}
use Rattle.std.proofs.lemmas.List.Sums.{sum_by_push}
use Rattle.std.proofs.lemmas.Option.{get_or_from_slice_get}
use Rattle.uc_run_entry.specs.declared.entry.Entry.{Entry}
use Rattle.uc_run_points.proofs.Searched.{first_at, got_within}

abbrev pub passed : List Entry → List Entry → List Entry
passed points ahead = take (length points - length ahead) points

abbrev pub IsAhead : List Entry → List Entry → Type 0
IsAhead points ahead = ahead ≡ drop (length points - length ahead) points

self_none : (n : ℕ) → n - n ≡ 0
self_none n = omega arith

pub starts_ahead : (points : List Entry) → IsAhead points points
starts_ahead points = ap (λ n. drop n points) (sym (self_none (length points)))

pub none_passed : (points : List Entry) → passed points points ≡ []
none_passed points = ap (λ n. take n points) (self_none (length points))

module _ (points ahead : List Entry) (is : IsAhead points ahead) where
  abbrev pub place : ℕ
  place = length points - length ahead

  no_more : length ahead ≤ length points
  no_more = let l : length ahead ≡ length points - place = ap (λ (es : List Entry). length es) is ∙ length-drop place points in omega (arith, l)

  pub all_passed : ahead ≡ [] → passed points ahead ≡ points
  all_passed e =
      let l : length ahead ≡ 0 = ap (λ (es : List Entry). length es) e in
      take_all place points (omega (arith, l))

  module _ (p : Entry) (next : slice_get ahead 0 ≡ Some p) where
    there : slice_get points place ≡ Some p
    there = first_at points place p (ap (λ (es : List Entry). slice_get es 0) (sym is) ∙ next)

    pub place_within : place < length points
    place_within = got_within points place p there

    pub is_at : p ≡ get_or points place p
    is_at = sym (get_or_from_slice_get points place p p there)

    pub one_more : length points - length (drop 1 ahead) ≡ place + 1
    one_more =
        let some : 0 < length ahead = got_within ahead 0 p next in
        let l : length (drop 1 ahead) ≡ length ahead - 1 = length-drop 1 ahead in
        omega (arith, some, l, no_more)

    pub still_ahead : IsAhead points (drop 1 ahead)
    still_ahead = ap (λ (es : List Entry). drop 1 es) is ∙ drop-drop 1 place points ∙ ap (λ n. drop n points) (sym one_more)

    pub passed_more : passed points (drop 1 ahead) ≡ passed points ahead ++ p ∷ []
    passed_more =
        ap (λ n. take n points) one_more ∙ take_more points place p place_within ∙ ap (λ (q : Entry). take place points ++ q ∷ []) (sym is_at)

pub none_ahead : (ahead : List Entry) → slice_get ahead 0 ≡ None → ahead ≡ []
none_ahead [] e = refl
none_ahead (p ∷ ps) e = absurd cc

-- a sum that stops at a bound, with one more
pub sum_more : (f : Entry → ℕ) (es : List Entry) (p : Entry) (sum size more : ℕ) → sum ≡ min (sum_by f es) (2 ^ 64 - 1) → size ≡ min (f p) (2 ^ 64 - 1) → more ≡ min (sum + size) (2 ^ 64 - 1) → more ≡ min (sum_by f (es ++ p ∷ [])) (2 ^ 64 - 1)
sum_more f es p sum size more e g h = let all = sum_by_push f es p in omega (arith, e, g, h, all)

-- a slice from the front
pub slice_front : (n : ℕ) (es : List Entry) → take (n - 0) (drop 0 es) ≡ take n es
slice_front n es = ap (λ k. take k es) (let e : n - 0 ≡ n = omega arith in e)

-- two slices that follow one another
pub halves : (es : List Entry) (begin middle end : ℕ) → begin ≤ middle → middle ≤ end → take (middle - begin) (drop begin es) ++ take (end - middle) (drop middle es) ≡ take (end - begin) (drop begin es)
halves es begin middle end low high =
    let k = middle - begin in
    let n = end - begin in
    let xs = drop begin es in
    let from : begin + k ≡ middle = omega (arith, low) in
    let rest : n - k ≡ end - middle = omega (arith, low, high) in
    let whole : k + (n - k) ≡ n = omega (arith, low, high) in
    ap (λ m. take k xs ++ take m (drop middle es)) (sym rest)
    ∙ ap (λ m. take k xs ++ take (n - k) (drop m es)) (sym from)
    ∙ ap (λ (ys : List Entry). take k xs ++ take (n - k) ys) (sym (drop-drop k begin es))
    ∙ ap (λ (ys : List Entry). take k xs ++ ys) (sym (drop-take k (n - k) xs))
    ∙ ap (λ m. take k xs ++ drop k (take m xs)) whole
    ∙ ap (λ (ys : List Entry). ys ++ drop k (take n xs)) (sym (take-take k n xs (omega (arith, low, high))))
    ∙ take-append-drop k (take n xs)
