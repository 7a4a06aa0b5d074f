-- Replies that go out several at a time.
use Rattle.std.proofs.Common.{◌≡◌, ℕ, zero, suc, ◌+◌, List, [], ◌∷◌, ◌++◌, length, take, map, Option, Result, Ok, Err, refl, ap, sym, ◌∙◌, subst, arith}
use Rattle.std.specs.Prelude.{OnOk, OnErr, IfErr}
use Rattle.std.specs.List.{flat_map}
use Rattle.std.specs.Io.KnownBytes.{Appends}
use Rattle.std.proofs.lemmas.List.{append-nil}
use Rattle.std.proofs.lemmas.List.Concat.{flat_map-append}
use Rattle.uc_tool_io.specs.Writing.{AppendsFront}
use Rattle.uc_tool_io.specs.Output.{joined, Stops, Prints}
use Rattle.uc_tool_io.specs.declared.run_error.RunError.{RunError}
use Rattle.uc_tool_io.specs.declared.run_error.RunError.TheVariants as run_error
use Rattle.uc_tool_io.proofs.Known.{appends_none, appends_more}
use Rattle.uc_tool_io.proofs.Printing.{front_of_first, front_behind}

joined_append : (xs ys : List (List ℕ)) → joined (xs ++ ys) ≡ joined xs ++ joined ys
joined_append xs ys = flat_map-append (λ (x : List ℕ). x) xs ys

-- the bytes of mapped lines are those lines concatenated
pub joined_map : {X : Type 0} (f : X → List ℕ) (xs : List X) → flat_map f xs ≡ joined (map f xs)
joined_map f [] = refl
joined_map f (x ∷ xs) = ap (λ (l : List ℕ). f x ++ l) (joined_map f xs)

-- replies that are written at once
pub prints_at_once : (xs : List (List ℕ)) (a b : Option (List ℕ)) (r : Result (Unit {0}) RunError) → OnOk r (Appends a b (joined xs)) → OnErr r (AppendsFront a b (joined xs)) → IfErr r (λ e. e ≡ run_error.Device) → Prints xs a b r
prints_at_once xs a b (Ok x) p q e = p
prints_at_once xs a b (Err f) p q e = subst (Stops xs a b) (sym e) q

-- some first replies of the first part are some first replies of all
take_of_first : (xs ys : List (List ℕ)) (n : ℕ) → (m : ℕ) × (joined (take n xs) ≡ joined (take m (xs ++ ys)))
take_of_first [] ys n = (0, nothing n)
  where
    nothing : (k : ℕ) → joined (take k []) ≡ []
    nothing zero = refl
    nothing (suc k) = refl
take_of_first (x ∷ xs) ys zero = (0, refl)
take_of_first (x ∷ xs) ys (suc n) = let p = take_of_first xs ys n in (suc p.0, ap (λ (l : List ℕ). x ++ l) p.1)

take_behind : (xs ys : List (List ℕ)) (n : ℕ) → take (length xs + n) (xs ++ ys) ≡ xs ++ take n ys
take_behind [] ys n = let none : 0 + n ≡ n = omega arith in ap (λ (k : ℕ). take k ys) none
take_behind (x ∷ xs) ys n =
    let one : length (x ∷ xs) + n ≡ suc (length xs + n) = omega arith in
    ap (λ (k : ℕ). take k (x ∷ xs ++ ys)) one ∙ ap (λ (l : List (List ℕ)). x ∷ l) (take_behind xs ys n)

-- an error within the first part
pub stops_within : (xs ys : List (List ℕ)) (a b : Option (List ℕ)) (e : RunError) → Stops xs a b e → Stops (xs ++ ys) a b e
stops_within xs ys a b run_error.Memory p = let q = take_of_first xs ys p.0 in (q.0, subst (Appends a b) q.1 p.1)
stops_within xs ys a b run_error.Device p = subst (AppendsFront a b) (sym (joined_append xs ys)) (front_of_first a b (joined xs) (joined ys) p)

-- an error after the first part
stops_behind : (xs ys : List (List ℕ)) (a b c : Option (List ℕ)) (e : RunError) → Appends a b (joined xs) → Stops ys b c e → Stops (xs ++ ys) a c e
stops_behind xs ys a b c run_error.Memory p q =
    (length xs + q.0, subst (Appends a c) (sym (ap joined (take_behind xs ys q.0) ∙ joined_append xs (take q.0 ys))) (appends_more a b c (joined xs) (joined (take q.0 ys)) p q.1))
stops_behind xs ys a b c run_error.Device p q = subst (AppendsFront a c) (sym (joined_append xs ys)) (front_behind a b c (joined xs) (joined ys) p q)

-- the first part went out, and then the others
pub prints_behind : {X : Type 0} (xs ys : List (List ℕ)) (a b c : Option (List ℕ)) (r : Result X RunError) → Appends a b (joined xs) → Prints ys b c r → Prints (xs ++ ys) a c r
prints_behind xs ys a b c (Ok x) p q = subst (Appends a c) (sym (joined_append xs ys)) (appends_more a b c (joined xs) (joined ys) p q)
prints_behind xs ys a b c (Err e) p q = stops_behind xs ys a b c e p q

module _ (xs : List (List ℕ)) (line : List ℕ) (a b : Option (List ℕ)) (printed : Appends a b (joined xs)) where
  -- memory ran out before the last line
  pub no_last : Stops (xs ++ line ∷ []) a b run_error.Memory
  no_last = stops_behind xs (line ∷ []) a b b run_error.Memory printed (0, appends_none b)

  -- the last line went out in part
  pub stops_at_last : (c : Option (List ℕ)) → AppendsFront b c line → Stops (xs ++ line ∷ []) a c run_error.Device
  stops_at_last c p = stops_behind xs (line ∷ []) a b c run_error.Device printed (front_of_first b c line [] p)

  -- the last line went out too
  pub prints_last : (c : Option (List ℕ)) → Appends b c line → Appends a c (joined (xs ++ line ∷ []))
  prints_last c p =
      subst (Appends a c) (sym (joined_append xs (line ∷ []))) (appends_more a b c (joined xs) (joined (line ∷ [])) printed (subst (Appends b c) (sym (append-nil line)) p))
