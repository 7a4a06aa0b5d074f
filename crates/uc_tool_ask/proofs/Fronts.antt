-- A head that is read in the front of an input.
use Rattle.std.proofs.Common.{◌≡◌, ℕ, ◌≤◌, List, ◌++◌, length, take, Result, Ok, ap, sym, ◌∙◌, subst}
use Rattle.std.proofs.lemmas.List.{take-append-le}
use Rattle.uc_script.specs.Head.{Head, head_of, queries_in}
use Rattle.uc_script.specs.HeadReading.{seen}
use Rattle.uc_script.specs.declared.head.Head.{Head as Found}

-- a head that was found, whose queries stand in these bytes
abbrev said_in : Found → List ℕ → Head
said_in found lines = record { keeps = found.keeps; queries = queries_in lines; size = found.size }

abbrev read : Head → Result Head ℕ
read head = Ok head

module _ (front rest : List ℕ) (found : Found) (within : found.size ≤ length front) where
  seen_in_front : seen front found ≡ seen (front ++ rest) found
  seen_in_front =
      let same : take found.size (front ++ rest) ≡ take found.size front = take-append-le found.size front rest within in
      ap (said_in found) (sym same)

  -- it is that of the input, since the bytes after the front change nothing
  pub read_in_front : (input : List ℕ) → front ++ rest ≡ input → head_of front ≡ Ok (seen front found)
      → ((text more : List ℕ) (said : Head) → head_of text ≡ Ok said → head_of (text ++ more) ≡ Ok said)
      → head_of input ≡ Ok (seen input found)
  read_in_front input whole is followed =
      subst (λ (text : List ℕ). head_of text ≡ Ok (seen text found)) whole (followed front rest (seen front found) is ∙ ap read seen_in_front)
