-- The oldest run's cursor and the newer ones.
use Rattle.std.proofs.Common.{◌≡◌, ◌≢◌, ℕ, ◌+◌, ◌<◌, arith, true, false, List, [], ◌∷◌, ◌++◌, map, take, drop, set, get_or, length, Option, Some, None, refl, sym, ap, ◌∙◌, subst}
use Rattle.std.specs.Prelude.{IfSome, option_map}
use Rattle.std.specs.List.{AllByRecursion}
use Rattle.std.specs.Ordering.{is_lt, is_le}
use Rattle.std.proofs.lemmas.List.{append-nil, take_all, drop_all}
use Rattle.uc_bytes.specs.Bytes.{bytes_cmp}
use Rattle.uc_run_entry.proofs.Written.{written}
use Rattle.uc_compact.proofs.Keys.{lt_of, lt_le, no_less_itself}
use Rattle.uc_compact.proofs.NestedLists.{all-map}
use Rattle.uc_run.specs.Cursors.{Standing}
use Rattle.uc_run.specs.Heads.{NextKeys, next_key, number_of, IsFrom, IsLeast}
use Rattle.uc_query_read.specs.Walks.{passed, StandsAt, IsOfRun, IsFoundAmong, IsFoundBeside}
use Rattle.uc_query_read.proofs.Beside.{NextKeysLaw, passes_nothing}

-- all but the last were moved, and then the last
pub last_moved : {X : Type 0} (f : X → X) (old now : List X) (last : ℕ) (d y : X) → last + 1 ≡ length old → now ≡ map f (take last old) ++ drop last old → y ≡ f (get_or now last d) → set now last y ≡ map f old
last_moved f old now last d y whole is made =
    let lt : last < length old = omega (arith, whole) in
    let none : drop (length old) old ≡ [] = drop_all (length old) old (omega arith) in
    written f old now last d y lt is made
    ∙ ap (λ (n : ℕ). map f (take n old) ++ drop n old) whole
    ∙ ap (λ (xs : List _). map f xs ++ drop (length old) old) (take_all (length old) old (omega arith))
    ∙ ap (λ (xs : List _). map f old ++ xs) none
    ∙ append-nil (map f old)

-- ---- a key at which no newer cursor is

module _ (key : List ℕ) (law : NextKeysLaw) where
  pub all_stay : (cs : List Standing) → AllByRecursion IsOfRun cs → AllByRecursion (StandsAt key false) cs → AllByRecursion (λ c. next_key c ≢ Some key) cs → cs ≡ map (passed key) cs
  all_stay [] of_runs stand others = refl
  all_stay (c ∷ cs) of_runs stand others =
      ap (λ (d : Standing). d ∷ cs) (sym (passes_nothing key law c of_runs.0 stand.0 others.0))
      ∙ ap (λ (ds : List Standing). passed key c ∷ ds) (all_stay cs of_runs.1 stand.1 others.1)

-- what holds of the next keys holds of the cursors' next keys
pub all_next : (P : Option (List ℕ) → Type 0) (cs : List Standing) → AllByRecursion P (map next_key cs) → AllByRecursion (λ c. P (next_key c)) cs
all_next P [] h = tt
all_next P (c ∷ cs) h = (h.0, all_next P cs h.1)

module _ (own : List ℕ) where
  ended : (k : Option (List ℕ)) → k ≡ None → k ≢ Some own
  ended None is same = let wrong : None ≡ Some own = same in cc
  ended (Some x) is same = let wrong : Some x ≡ None = is in cc

  after : (key : List ℕ) → is_lt (bytes_cmp own key) ≡ true → (k : Option (List ℕ)) → IsFrom key k → k ≢ Some own
  after key before k from same =
      let le : is_le (bytes_cmp key own) ≡ true = subst (IsFrom key) same from in
      no_less_itself own (lt_le own key own (lt_of own key before) le)

  -- a key before the least of some isn't one of them
  pub before_all : (key : List ℕ) (keys : List (Option (List ℕ))) → is_lt (bytes_cmp own key) ≡ true → AllByRecursion (IsFrom key) keys → AllByRecursion (λ k. k ≢ Some own) keys
  before_all key keys before least = all-map (IsFrom key) (λ k. k ≢ Some own) (after key before) keys least

  pub none_left : (keys : List (Option (List ℕ))) → AllByRecursion (λ k. k ≡ None) keys → AllByRecursion (λ k. k ≢ Some own) keys
  none_left keys none = all-map (λ k. k ≡ None) (λ k. k ≢ Some own) ended keys none

-- what is known of the least of some keys is known of the lesser of it and another
module _ {X : Type 0} (head : X → List ℕ × ℕ) (front : List ℕ) (keys : List (Option (List ℕ))) where
  abbrev heads : NextKeys
  heads = record { front = front; keys = keys }

  pub is_found : (newer : Option X) → IsLeast keys (option_map (λ x. (head x).0) newer) → IfSome newer (λ x. (head x).1 ≡ number_of front (head x).0) → (key : List ℕ) (number : Option ℕ) → IsFoundBeside (option_map head newer) key number → IsFoundAmong heads key number
  is_found None least numbered key None beside = none_left key keys least
  is_found None least numbered key (Some number) beside = let wrong : ◌≡◌ {A = Option (List ℕ × ℕ)} None (Some (key, number)) = beside in absurd cc
  is_found (Some x) least numbered key None beside = before_all key (head x).0 keys beside least.0
  is_found (Some x) least numbered key (Some number) beside =
      subst (λ (n : Option (List ℕ × ℕ)). IfSome n (λ h. h.1 ≡ number_of front h.0)) beside numbered
