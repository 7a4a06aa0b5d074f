-- Input as lines that have their LF, and the bytes that are left after the last LF.
use Rattle.std.proofs.Common.{◌≡◌, ◌≢◌, ℕ, suc, ◌+◌, ◌≤◌, Bool, true, false, cond, eqb, List, [], ◌∷◌, ◌++◌, length, refl, ap, ◌∙◌, append_assoc, arith, inl, inr}
use Rattle.std.specs.List.{AllByRecursion, onto_first}
use Rattle.std.proofs.lemmas.Bool.{cases_eq, ne_eqb}
use Rattle.std.proofs.lemmas.List.{length-append}
use Rattle.uc_script.specs.Lines.{lines_of}
use Rattle.uc_script.specs.Head.{bytes_of}
use Rattle.uc_script.specs.HeadCases.{IsLine}

-- a line and its LF in front of other bytes
pub lines_of-first : (line text : List ℕ) → IsLine line → lines_of (line ++ 10 ∷ text) ≡ line ∷ lines_of text
lines_of-first [] text is = refl
lines_of-first (byte ∷ line) text is = rw (ne_eqb byte 10 is.0) (ap (onto_first byte) (lines_of-first line text is.1))

-- a line alone, without its LF
pub lines_of-alone : (byte : ℕ) (line : List ℕ) → IsLine (byte ∷ line) → lines_of (byte ∷ line) ≡ (byte ∷ line) ∷ []
lines_of-alone byte [] is = rw (ne_eqb byte 10 is.0) refl
lines_of-alone byte (next ∷ line) is = rw (ne_eqb byte 10 is.0) (ap (onto_first byte) (lines_of-alone next line is.1))

-- lines with their LF in front of other bytes
pub lines_of-bytes : (lines : List (List ℕ)) (text : List ℕ) → AllByRecursion IsLine lines → lines_of (bytes_of lines ++ text) ≡ lines ++ lines_of text
lines_of-bytes [] text are = refl
lines_of-bytes (line ∷ lines) text are =
    ap lines_of (append_assoc line (10 ∷ bytes_of lines) text) ∙ lines_of-first line (bytes_of lines ++ text) are.0 ∙ ap (λ (ls : List (List ℕ)). line ∷ ls) (lines_of-bytes lines text are.1)

-- how many bytes one more line adds
pub size-next : (line : List ℕ) (lines : List (List ℕ)) → length (bytes_of (line ∷ lines)) ≡ length line + 1 + length (bytes_of lines)
size-next line lines = omega (arith, length-append line (10 ∷ bytes_of lines))

-- the input is no longer than its lines with their LF
onto_size : (byte n : ℕ) (lines : List (List ℕ)) → n ≤ length (bytes_of lines) → suc n ≤ length (bytes_of (onto_first byte lines))
onto_size byte n [] le = omega arith
onto_size byte n (line ∷ lines) le = omega (arith, size-next line lines, size-next (byte ∷ line) lines)

size_step : (t : Bool) (byte n : ℕ) (lines : List (List ℕ)) → n ≤ length (bytes_of lines) → suc n ≤ length (bytes_of (cond t ([] ∷ lines) (onto_first byte lines)))
size_step true byte n lines le = omega arith
size_step false byte n lines le = onto_size byte n lines le

pub size_of_lines : (text : List ℕ) → length text ≤ length (bytes_of (lines_of text))
size_of_lines [] = omega arith
size_of_lines (byte ∷ rest) = size_step (eqb byte 10) byte (length rest) (lines_of rest) (size_of_lines rest)

-- the lines of the input that have their LF, and the bytes that are left after the last LF
pub record Cut (text : List ℕ) : Type 0 where
  pub whole : List (List ℕ)
  pub left : List ℕ
  pub are : AllByRecursion IsLine whole
  pub is : IsLine left
  pub same : text ≡ bytes_of whole ++ left

cut_onto : (byte : ℕ) (text : List ℕ) (whole : List (List ℕ)) (left : List ℕ) → byte ≢ 10 → AllByRecursion IsLine whole → IsLine left → text ≡ bytes_of whole ++ left → Cut (byte ∷ text)
cut_onto byte text [] left other are is same = record { whole = []; left = byte ∷ left; are = tt; is = (other, is); same = ap (λ (t : List ℕ). byte ∷ t) same }
cut_onto byte text (line ∷ whole) left other are is same =
    record { whole = (byte ∷ line) ∷ whole; left = left; are = ((other, are.0), are.1); is = is; same = ap (λ (t : List ℕ). byte ∷ t) same }

cut_step : (byte : ℕ) (text : List ℕ) → Cut text → Cut (byte ∷ text)
cut_step byte text c =
    elim (cases_eq byte 10) [
      | inl same ↦ record { whole = [] ∷ c.whole; left = c.left; are = (tt, c.are); is = c.is; same = rw same (ap (λ (t : List ℕ). 10 ∷ t) c.same) }
      | inr other ↦ cut_onto byte text c.whole c.left other c.are c.is c.same
    ]

pub cut : (text : List ℕ) → Cut text
cut [] = record { whole = []; left = []; are = tt; is = tt; same = refl }
cut (byte ∷ text) = cut_step byte text (cut text)
