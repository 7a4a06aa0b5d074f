-- The bytes that were written in the end.
use Rattle.std.proofs.Common.{◌≡◌, ℕ, ◌≤◌, ◌<◌, List, [], length, take, Option, Some, None, Result, Ok, Err, refl, sym, ◌∙◌, subst, inl, inr}
use Rattle.std.specs.Prelude.{IfOk, IfSome}
use Rattle.std.specs.Io.KnownBytes.{Appends}
use Rattle.std.proofs.lemmas.List.{append-nil}
use Rattle.uc_tool_io.specs.Writing.{AppendsFront}
use Rattle.uc_tool_io.specs.Ending.{Finishes, FlushesAndEnds, FinishesWithoutInput, IsWhole}
use Rattle.uc_tool_io.specs.Output.{Output, joined, text_of, without_memory, Prints, MayPrint, HasWritten}
use Rattle.uc_tool_io.specs.Texts.{out_of_memory, read_fault, input_too_long}
use Rattle.uc_tool_io.specs.declared.done.Done.{Done}
use Rattle.uc_tool_io.specs.declared.done.Done.TheVariants.{Fine, Refused, BadLog, NoMemory, Device}
use Rattle.uc_tool_io.specs.declared.input.InputError.{InputError}
use Rattle.uc_tool_io.specs.declared.input.InputError.TheVariants as unread
use Rattle.uc_tool_io.specs.declared.input.TheConstants.{INPUT_LIMIT}
use Rattle.uc_tool_io.specs.declared.run_error.RunError.{RunError}
use Rattle.uc_tool_io.specs.declared.run_error.RunError.TheVariants as run_error
use Rattle.uc_tool_io.proofs.Known.{appends_more, appends_kept}
use Rattle.uc_tool_io.proofs.Printing.{front_behind}

whole_front : (a b : Option (List ℕ)) (text : List ℕ) → Appends a b text → AppendsFront a b text
whole_front a b text p = (text, ([], append-nil text), p)

-- the run ended as its output says
ended : (output : Output) (input : List ℕ) (a c : Option (List ℕ)) (done : Done) → IsWhole done → length input ≤ INPUT_LIMIT → output.done ≡ done → Appends a c (text_of output) → HasWritten output input a c done
ended output input a c Fine w short d p = (d, short, p)
ended output input a c Refused w short d p = (d, short, p)
ended output input a c BadLog w short d p = (d, short, p)
ended output input a c NoMemory w short d p = absurd w
ended output input a c Device w short d p = absurd w

device : (output : Output) (input : List ℕ) (a c : Option (List ℕ)) (result : Done) → result ≡ Device → (whole : List ℕ) × MayPrint output input whole × AppendsFront a c whole → HasWritten output input a c result
device output input a c result is h = subst (HasWritten output input a c) (sym is) h

-- replies, and then the end of the run
pub written : (output : Output) (input : List ℕ) (a b c : Option (List ℕ)) (outcome : Result Done RunError) (result : Done)
    → length input ≤ INPUT_LIMIT → IsWhole output.done → Prints output.replies a b outcome → IfOk outcome (λ done. done ≡ output.done) → Finishes outcome b c result → HasWritten output input a c result
written output input a b c (Ok done) result short w p d (inl is, k) =
    subst (HasWritten output input a c) (sym (is ∙ d)) (ended output input a c output.done w short refl (appends_kept a b c (text_of output) p k))
written output input a b c (Ok done) result short w p d (inr is, k) =
    device output input a c result is (text_of output, inl refl, whole_front a c (text_of output) (appends_kept a b c (text_of output) p k))
written output input a b c (Err run_error.Memory) result short w p d (inl f) =
    subst (HasWritten output input a c) (sym f.0) (p.0, appends_more a b c (joined (take p.0 output.replies)) out_of_memory p.1 f.1)
written output input a b c (Err run_error.Memory) result short w p d (inr f) =
    device output input a c result f.0 (without_memory output p.0, inr (inl (p.0, refl)), front_behind a b c (joined (take p.0 output.replies)) out_of_memory p.1 f.1)
written output input a b c (Err run_error.Device) result short w p d f =
    device output input a c result f.0 (text_of output, inl refl, (p.0, p.1, appends_kept a b c p.0 p.2 f.1))

-- memory ran out before the input was read
without_input : (output : Output) (input : List ℕ) (a c : Option (List ℕ)) (result : Done) → Finishes (Err run_error.Memory) a c result → HasWritten output input a c result
without_input output input a c result (inl f) = subst (HasWritten output input a c) (sym f.0) (0, f.1)
without_input output input a c result (inr f) = device output input a c result f.0 (without_memory output 0, inr (inl (0, refl)), f.1)

-- the reader failed
unreadable : (output : Output) (input : List ℕ) (a c : Option (List ℕ)) (result : Done) → result ≡ Device → AppendsFront a c read_fault → HasWritten output input a c result
unreadable output input a c result is f = device output input a c result is (read_fault, inr (inr (inl refl)), f)

-- the input is too long
too_long : (output : Output) (input : List ℕ) (a c : Option (List ℕ)) (result : Done) → INPUT_LIMIT < length input → result ≡ Device → AppendsFront a c input_too_long → HasWritten output input a c result
too_long output input a c result long is f = device output input a c result is (input_too_long, inr (inr (inr (long, refl))), f)

-- it was said that memory ran out, and flushed
pub said : (a b c : Option (List ℕ)) (result : Done) → Appends a b out_of_memory → FlushesAndEnds NoMemory b c result → Finishes (Err run_error.Memory) a c result
said a b c result p (inl is, k) = inl (is, appends_kept a b c out_of_memory p k)
said a b c result p (inr is, k) = inr (is, whole_front a c out_of_memory (appends_kept a b c out_of_memory p k))

-- ---- where it is known what the reader gives

module _ (program : List ℕ → Output) (whole : (input : List ℕ) → IsWhole (program input).done) where
  pub of_input : (remaining : Option (List ℕ)) (read : List ℕ) (a b c : Option (List ℕ)) (outcome : Result Done RunError) (result : Done)
      → IfSome remaining (λ bytes. read ≡ bytes) → length read ≤ INPUT_LIMIT → Prints (program read).replies a b outcome → IfOk outcome (λ done. done ≡ (program read).done) → Finishes outcome b c result
      → IfSome remaining (λ input. HasWritten (program input) input a c result)
  of_input None read a b c outcome result e short p d f = tt
  of_input (Some input) read a b c outcome result e short p d f =
      subst (λ (i : List ℕ). HasWritten (program i) i a c result) e (written (program read) read a b c outcome result short (whole read) p d f)

-- where the input couldn't be read
pub of_unread : (program : List ℕ → Output) (remaining a c : Option (List ℕ)) (e : InputError) (result : Done)
    → (e ≡ unread.TooLong → IfSome remaining (λ bytes. INPUT_LIMIT < length bytes)) → FinishesWithoutInput e a c result → IfSome remaining (λ input. HasWritten (program input) input a c result)
of_unread program None a c e result long u = tt
of_unread program (Some input) a c unread.Memory result long u = without_input (program input) input a c result u
of_unread program (Some input) a c unread.Fault result long u = unreadable (program input) input a c result u.0 u.1
of_unread program (Some input) a c unread.TooLong result long u = too_long (program input) input a c result (long refl) u.0 u.1
