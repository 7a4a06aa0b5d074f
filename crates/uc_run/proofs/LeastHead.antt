-- The least of some keys, one key more at a time.
use Rattle.std.proofs.Common.{◌≡◌, ℕ, ◌+◌, ◌<◌, inl, inr, Bool, true, false, cond, List, [], ◌∷◌, ◌++◌, length, get_or, take, map, Option, Some, None, refl, sym, ap, ◌∙◌, subst}
use Rattle.std.specs.List.{AllByRecursion}
use Rattle.std.specs.Ordering.{is_lt, is_le}
use Rattle.std.proofs.lemmas.List.{get_or_default, take_more, map-append}
use Rattle.uc_bytes.specs.Bytes.{bytes_cmp}
use Rattle.uc_run.specs.Heads.{IsFrom, IsAmong, IsLeast, lesser_of}
use Rattle.uc_run.proofs.KeyOrder.{le_itself, le_of_lt, le_of_not, le_trans, lt_of}

abbrev Key : Type 0
Key = Option (List ℕ)

all_more : (P : Key → Type 0) (keys : List Key) (key : Key) → AllByRecursion P keys → P key → AllByRecursion P (keys ++ key ∷ [])
all_more P [] key h own = (own, tt)
all_more P (k ∷ ks) key h own = (h.0, all_more P ks key h.1 own)

among_front : (k : List ℕ) (keys : List Key) (key : Key) → IsAmong k keys → IsAmong k (keys ++ key ∷ [])
among_front k [] key h = absurd h
among_front k (other ∷ others) key (inl e) = inl e
among_front k (other ∷ others) key (inr h) = inr (among_front k others key h)

among_end : (k : List ℕ) (keys : List Key) → IsAmong k (keys ++ Some k ∷ [])
among_end k [] = inl refl
among_end k (other ∷ others) = inr (among_end k others)

lower : (k l : List ℕ) (keys : List Key) → is_le (bytes_cmp l k) ≡ true → AllByRecursion (IsFrom k) keys → AllByRecursion (IsFrom l) keys
lower k l [] le h = tt
lower k l (None ∷ keys) le h = (tt, lower k l keys le h.1)
lower k l (Some other ∷ keys) le h = (le_trans l k other le h.0, lower k l keys le h.1)

from_any : (k : List ℕ) (keys : List Key) → AllByRecursion (λ key. key ≡ None) keys → AllByRecursion (IsFrom k) keys
from_any k [] h = tt
from_any k (key ∷ keys) h = (subst (IsFrom k) (sym h.0) tt, from_any k keys h.1)

least_by : (keys : List Key) (key other : List ℕ) (b : Bool) → is_lt (bytes_cmp other key) ≡ b → IsLeast keys (Some key) → IsLeast (keys ++ Some other ∷ []) (cond b (Some other) (Some key))
least_by keys key other true e h = (
  all_more (IsFrom other) keys (Some other) (lower key other keys (le_of_lt other key (lt_of other key e)) h.0) (le_itself other),
  among_end other keys,
)
least_by keys key other false e h = (all_more (IsFrom key) keys (Some other) h.0 (le_of_not other key e), among_front key keys (Some other) h.1)

least_more : (keys : List Key) (key least : Key) → IsLeast keys least → IsLeast (keys ++ key ∷ []) (lesser_of least key)
least_more keys None None h = all_more (λ key. key ≡ None) keys None h refl
least_more keys (Some key) None h = (all_more (IsFrom key) keys (Some key) (from_any key keys h) (le_itself key), among_end key keys)
least_more keys None (Some key) h = (all_more (IsFrom key) keys None h.0 tt, among_front key keys None h.1)
least_more keys (Some other) (Some key) h = least_by keys key other (is_lt (bytes_cmp other key)) refl h

module _ {X : Type 0} (f : X → Key) where
  least_step : (xs : List X) (i : ℕ) (x : X) (least next : Key) → i < length xs → x ≡ get_or xs i x → IsLeast (map f (take i xs)) least → next ≡ lesser_of least (f x) → IsLeast (map f (take (i + 1) xs)) next
  least_step xs i x least next lt is h made =
      let more : map f (take (i + 1) xs) ≡ map f (take i xs) ++ f x ∷ [] =
      ap (map f) (take_more xs i x lt ∙ ap (λ (y : X). take i xs ++ y ∷ []) (sym is)) ∙ map-append f (take i xs) (x ∷ []) in
      subst (λ (keys : List Key). IsLeast keys next) (sym more) (subst (IsLeast (map f (take i xs) ++ f x ∷ [])) (sym made) (least_more (map f (take i xs)) (f x) least h))

  pub least_at : (xs : List X) (i : ℕ) (d : X) (least next : Key) → i < length xs → IsLeast (map f (take i xs)) least → next ≡ lesser_of least (f (get_or xs i d)) → IsLeast (map f (take (i + 1) xs)) next
  least_at xs i d least next lt h made = least_step xs i (get_or xs i d) least next lt (get_or_default xs i d (get_or xs i d) lt) h made
