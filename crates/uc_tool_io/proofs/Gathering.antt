-- Lines that are put together before they are written out.
use Rattle.std.proofs.Common.{◌≡◌, ℕ, zero, suc, List, [], ◌∷◌, ◌++◌, take, Option, Result, Ok, Err, refl, subst, sym, append_assoc}
use Rattle.std.specs.Prelude.{OnOk, OnErr, IfErr}
use Rattle.std.proofs.lemmas.List.{append-nil}
use Rattle.std.specs.Io.KnownBytes.{Appends}
use Rattle.uc_tool_io.specs.Writing.{AppendsFront}
use Rattle.uc_tool_io.specs.Output.{joined, Prints}
use Rattle.uc_tool_io.specs.declared.run_error.RunError.{RunError}
use Rattle.uc_tool_io.specs.declared.run_error.RunError.TheVariants as run_error
use Rattle.uc_tool_io.proofs.Printing.{GoesOn, goes_next}
use Rattle.uc_tool_io.proofs.Parts.{prints_at_once}

module _ (rest : List (List ℕ)) (here new : Option (List ℕ)) where
  without_empty : (r : Result (Unit {0}) RunError) → Prints ([] ∷ rest) here new r → Prints rest here new r
  without_empty (Ok x) p = p
  without_empty (Err run_error.Memory) (zero, p) = (0, p)
  without_empty (Err run_error.Memory) (suc n, p) = (n, p)
  without_empty (Err run_error.Device) p = p

  -- two lines that went out together are two lines
  apart : (first second : List ℕ) (r : Result (Unit {0}) RunError) → Prints ((first ++ second) ∷ rest) here new r → Prints (first ∷ second ∷ rest) here new r
  apart first second (Ok x) p = subst (Appends here new) (append_assoc first second (joined rest)) p
  apart first second (Err run_error.Memory) (zero, p) = (0, p)
  apart first second (Err run_error.Memory) (suc n, p) = (suc (suc n), subst (Appends here new) (append_assoc first second (joined (take n rest))) p)
  apart first second (Err run_error.Device) p = subst (AppendsFront here new) (append_assoc first second (joined rest)) p

-- nothing was put together yet
pub begins_empty : (all : List (List ℕ)) (old : Option (List ℕ)) → GoesOn all ([] ∷ all) old old
begins_empty all old new r p = without_empty all old new r p

module _ (all rest : List (List ℕ)) (old here : Option (List ℕ)) where
  -- the next line was appended to the others
  pub put_behind : (lines next : List ℕ) → GoesOn all (lines ∷ next ∷ rest) old here → GoesOn all ((lines ++ next) ∷ rest) old here
  put_behind lines next goes new r p = goes new r (apart rest here new lines next r p)

  -- what was put together was written out
  pub written_out : (lines : List ℕ) → GoesOn all (lines ∷ rest) old here → (after : Option (List ℕ)) → Appends here after lines → GoesOn all ([] ∷ rest) old after
  written_out lines goes after p new r q = goes_next all (lines ∷ rest) old here goes lines rest refl after p new r (without_empty rest after new r q)

-- what was put together last is written out
pub written_last : (all : List (List ℕ)) (old here after : Option (List ℕ)) (lines : List ℕ) (r : Result (Unit {0}) RunError) → GoesOn all (lines ∷ []) old here → OnOk r (Appends here after lines) → OnErr r (AppendsFront here after lines) → IfErr r (λ e. e ≡ run_error.Device) → Prints all old after r
written_last all old here after lines r goes p q e =
    goes after r (prints_at_once (lines ∷ []) here after r (subst (λ (l : List ℕ). OnOk r (Appends here after l)) (sym (append-nil lines)) p) (subst (λ (l : List ℕ). OnErr r (AppendsFront here after l)) (sym (append-nil lines)) q) e)
