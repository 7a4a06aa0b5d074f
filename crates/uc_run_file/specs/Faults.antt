-- Bytes that spell no fragments, and the first place where they don't.
use Rattle.std.specs.Prelude.{◌≡◌, ℕ, ◌^◌, ◌<◌, List, [], ◌∷◌, ◌++◌, length, drop, map}
use Rattle.std.specs.List.{AllByRecursion, flat_map}
use Rattle.uc_run_entry.specs.Fragment.{Fragment}
use Rattle.uc_run_points.specs.Numbers.{number_text}
use Rattle.uc_run_file.specs.declared.fragments_error.FragmentsError.{FragmentsError}
use Rattle.uc_run_file.specs.declared.fragments_error.FragmentsError.TheVariants.{Fault, Memory}
use Rattle.uc_run_file.specs.Spelling.{string_text, fragment_text, fragments_text, Fits}

-- bytes begin with the spelling of a fragment, which the rest follows
pub record Begins (bytes : List ℕ) (f : Fragment) (rest : List ℕ) : Type 0 where
  pub fits : Fits f
  pub spelled : bytes ≡ fragment_text f ++ rest

-- bytes begin with both ends of a fragment and the number of its sequences
pub record IsHead (bytes begin end : List ℕ) (count : ℕ) (rest : List ℕ) : Type 0 where
  pub spelled : bytes ≡ string_text begin ++ (string_text end ++ (number_text count ++ rest))
  pub begin_fits : length begin < 2 ^ 64
  pub end_fits : length end < 2 ^ 64
  pub count_fits : count < 2 ^ 64

-- fragments end at an offset, and none follows them, although bytes do
pub record IsFaultAt (bytes : List ℕ) (offset : ℕ) : Type 0 where
  pub before : List Fragment
  pub fits : AllByRecursion Fits before
  pub spelled : bytes ≡ fragments_text before ++ drop offset bytes
  pub place : length (fragments_text before) ≡ offset
  pub there : offset < length bytes
  pub none : (f : Fragment) (rest : List ℕ) → Begins (drop offset bytes) f rest → ⊥

-- both ends of each fragment
abbrev pub ends_of : List Fragment → List (List ℕ)
ends_of fragments = flat_map (λ f. f.begin ∷ f.end ∷ []) fragments

-- the sequences of each
abbrev pub lists_of : List Fragment → List (List ℕ)
lists_of fragments = map (λ f. f.seqs) fragments

-- one more fragment is read, with its ends and its sequences
pub record IsPushed (bytes rest : List ℕ) (ends more : List (List ℕ)) (lists others : List (List ℕ)) : Type 0 where
  pub fragment : Fragment
  pub begins : Begins bytes fragment rest
  pub ends_pushed : more ≡ ends ++ fragment.begin ∷ fragment.end ∷ []
  pub seqs_pushed : others ≡ lists ++ fragment.seqs ∷ []

-- fragments of which the first bytes are read, with their ends and their sequences
pub record AreRead (bytes rest : List ℕ) (ends lists : List (List ℕ)) : Type 0 where
  pub fragments : List Fragment
  pub fits : AllByRecursion Fits fragments
  pub spelled : bytes ≡ fragments_text fragments ++ rest
  pub ends_are : ends ≡ ends_of fragments
  pub lists_are : lists ≡ lists_of fragments

-- the error that bytes give
abbrev pub IsErrorOf : List ℕ → FragmentsError → Type 0
IsErrorOf bytes (Fault offset) = IsFaultAt bytes offset
IsErrorOf bytes Memory = Unit {0}
