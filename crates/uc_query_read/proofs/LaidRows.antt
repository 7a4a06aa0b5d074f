-- Rows that a scan lays out one by one.
use Rattle.std.proofs.Common.{◌≡◌, ℕ, ◌<◌, ◌≤◌, List, [], ◌∷◌, ◌++◌, length, take, Option, Some, sym, ap, ◌∙◌, append_assoc, length-append, arith, refl}
use Rattle.std.specs.Prelude.{option_map}
use Rattle.std.specs.List.{cons_option}
use Rattle.uc_bytes.specs.declared.write.Write.{Write}
use Rattle.uc_oper.specs.Operation.{Operation}
use Rattle.uc_model.specs.Meaning.{value_of}
use Rattle.uc_query_read.specs.Ahead.{Comes}
use Rattle.uc_query_read.specs.Answers.{rows_of}

abbrev pub Row : Type 0
Row = List ℕ × List ℕ

module _ (m : Operation) (ws : List Write) (at limit : ℕ) (all rows : List Row) where
  -- the rows so far, and then those of the keys that are ahead, are the first of all
  abbrev pub AreRest : List (List ℕ) → Type 0
  AreRest keys = take limit (rows ++ rows_of m ws at keys) ≡ take limit all

module _ (m : Operation) (ws : List Write) (at limit : ℕ) (all rows : List Row) (key value : List ℕ) where
  abbrev pub more : List Row
  more = rows ++ (key, value) ∷ []

  pub one_more : (keys others : List (List ℕ)) → Comes keys (Some key) others → value_of m ws key at ≡ Some value → AreRest m ws at limit all rows keys → AreRest m ws at limit all more others
  one_more keys others comes has rest =
      let first : rows_of m ws at keys ≡ (key, value) ∷ rows_of m ws at others =
      ap (rows_of m ws at) comes ∙ ap (λ (o : Option (List ℕ)). cons_option (option_map (λ (v : List ℕ). (key, v)) o) (rows_of m ws at others)) has in
      ap (take limit) (append_assoc rows ((key, value) ∷ []) (rows_of m ws at others))
      ∙ ap (λ (r : List Row). take limit (rows ++ r)) (sym first)
      ∙ rest

  pub still_few : (count : ℕ) → count ≡ length rows → count < limit → length more ≤ limit
  still_few count is less = let sum = length-append rows ((key, value) ∷ []) in let one : length {A = Row} ((key, value) ∷ []) ≡ 1 = refl in omega (arith, sum, one, is, less)
