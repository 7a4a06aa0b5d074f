-- Work that is done over the whole input, and what comes of it.
use Rattle.std.specs.Prelude.{◌≡◌, ℕ, ◌≤◌, List, length, Option, Result, IfOk, IfSome}
use Rattle.std.specs.Fn.{Once}
use denote.Ref.{MutBor}
use Rattle.uc_tool_io.specs.declared.done.Done.{Done}
use Rattle.uc_tool_io.specs.declared.input.TheConstants.{INPUT_LIMIT}
use Rattle.uc_tool_io.specs.declared.run_error.RunError.{RunError}
use Rattle.uc_tool_io.specs.Ending.{Finishes}
use Rattle.uc_tool_io.specs.Output.{Output, Prints}

-- what it takes has these bytes
module _ {F I W T : Type 0} (bytes : I → List ℕ) (g : Once F (I × (MutBor W × Unit {0})) ((Result Done RunError × T) × (MutBor W × Unit {0}))) (f : F) where
  -- it may be done over any input within the limit
  abbrev pub TakesInput : Type 0
  TakesInput = (input : I) (writer : MutBor W) → length (bytes input) ≤ INPUT_LIMIT → g.pre f (input, (writer, tt))

  module _ (contents : W → Option (List ℕ)) where
    -- over each input it prints what the program prints of it
    abbrev pub PrintsOutput : (List ℕ → Output) → Type 0
    PrintsOutput program =
        (input : I) (before after : MutBor W) (outcome : Result Done RunError) (told : T) → length (bytes input) ≤ INPUT_LIMIT
        → g.post f (input, (before, tt)) ((outcome, told), (after, tt))
        → Prints (program (bytes input)).replies (contents before.now) (contents after.now) outcome × IfOk outcome (λ done. done ≡ (program (bytes input)).done)

    -- The work was done over what a reader gave, with this result, and then the run ended so.
    pub record WasDone (remaining : Option (List ℕ)) (old new : Option (List ℕ)) (done : Done) (told : T) : Type 0 where
      pub input : I
      pub whole : IfSome remaining (λ text. bytes input ≡ text)
      pub short : length (bytes input) ≤ INPUT_LIMIT
      pub before : MutBor W
      pub after : MutBor W
      pub outcome : Result Done RunError
      pub call : g.post f (input, (before, tt)) ((outcome, told), (after, tt))
      pub begins : contents before.now ≡ old
      pub ends : Finishes outcome (contents after.now) new done
