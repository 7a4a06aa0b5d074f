-- Replies that go out some at a time.
use Rattle.std.proofs.Common.{◌≡◌, ℕ, List, [], ◌∷◌, ◌++◌, map, Option, Err, refl, ap, sym, ◌∙◌, subst}
use Rattle.std.specs.List.{flat_map}
use Rattle.std.specs.Io.KnownBytes.{Appends}
use Rattle.std.proofs.lemmas.List.{map-append}
use Rattle.uc_tool_io.specs.Writing.{AppendsFront}
use Rattle.uc_tool_io.specs.Output.{joined, Prints, Stops}
use Rattle.uc_tool_io.specs.declared.run_error.RunError.TheVariants as run_error
use Rattle.uc_tool_io.proofs.Parts.{prints_behind, stops_within}
use Rattle.uc_tool_io.proofs.Printing.{GoesOn}

-- the results for each element in turn, concatenated
pub lines_are : {A B C : Type 0} (f : C → List ℕ) (g : B → C) (k : A → B) (xs : List A) → flat_map f (map g (map k xs)) ≡ joined (map (λ x. f (g (k x))) xs)
lines_are f g k [] = refl
lines_are f g k (x ∷ xs) = ap (λ (l : List ℕ). f (g (k x)) ++ l) (lines_are f g k xs)

-- the replies to all are those to the first, and then those to the rest
pub replies_parts : {A : Type 0} (f : A → List ℕ) (first rest all : List A) → first ++ rest ≡ all → map f all ≡ map f first ++ map f rest
replies_parts f first rest all is = sym (ap (λ (l : List _). map f l) is) ∙ map-append f first rest

module _ (all pending first rest : List (List ℕ)) (old here : Option (List ℕ)) (goes : GoesOn all pending old here) (next : pending ≡ first ++ rest) (after : Option (List ℕ)) where
  -- the first went out
  pub batch_sent : Appends here after (joined first) → GoesOn all rest old after
  batch_sent p new r q = goes new r (subst (λ (ys : List (List ℕ)). Prints ys here new r) (sym next) (prints_behind first rest here after new r p q))

  -- the first went out in part
  pub batch_stopped : AppendsFront here after (joined first) → Stops all old after run_error.Device
  batch_stopped p = goes after (Err run_error.Device) (subst (λ (ys : List (List ℕ)). Stops ys here after run_error.Device) (sym next) (stops_within first rest here after run_error.Device p))
