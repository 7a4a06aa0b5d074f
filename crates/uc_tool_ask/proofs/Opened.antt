-- Answers after every history of a store are answers from the writes that it was opened with.
use Rattle.std.proofs.Common.{◌≡◌, ℕ, List, [], Option, None, Result, sym, ap, ◌∙◌, subst}
use Rattle.std.proofs.lemmas.List.{append-nil}
use Rattle.uc_oper.specs.Operation.{Operation}
use Rattle.uc_bytes.specs.declared.write.Write.{Write}
use Rattle.uc_script.specs.declared.query.Query.{Query as Asked}
use Rattle.uc_version_state.specs.declared.options.Options.{Options}
use Rattle.uc_version_state.specs.Versions.{Stored}
use Rattle.uc_version_state.specs.Openings.{Opening, MayOpen, opened}
use Rattle.uc_version_state.specs.Histories.{History, IsLegal}
use Rattle.uc_version_open.specs.Refusal.{opening_refusal}
use Rattle.uc_version_open.specs.declared.open_error.OpenError.{OpenError}
use Rattle.uc_query_shared.specs.Given.{ForEachHistory}
use Rattle.uc_tool_io.specs.Output.{Output, Prints}
use Rattle.uc_tool_io.specs.declared.run_error.RunError.{RunError}
use Rattle.uc_tool_ask.specs.Ask.{replies_to, output_of, unless_refused, of_writes}
use Rattle.uc_tool_ask.specs.Given.{replies_given}

-- the history of a store to which nothing happened
abbrev just_opened : Opening → History
just_opened o = record { opening = o; events = [] }

module _ (m : Operation) (options : Options) (keeps : List ℕ) (queries : List Asked) (writes : List Write) where
  abbrev opening : Opening
  opening = record { writes = writes; keeps = keeps; options = options }

  module _ (none : opening_refusal opening ≡ None) where
    output_is : output_of m opening queries ≡ of_writes m options keeps queries writes
    output_is = sym (ap (λ (refusal : Option OpenError). unless_refused m opening queries refusal) none)

    module _ (version : Stored) (is : version ≡ opened opening) where
      replies_are : replies_given m (just_opened opening) version.last queries ≡ (of_writes m options keeps queries writes).replies
      replies_are =
          ap (λ (ws : List Write). replies_to m ws (opened opening).keeps version.last queries) (append-nil writes)
          ∙ ap (λ (v : Stored). replies_to m writes (opened opening).keeps v.last queries) is
          ∙ ap (λ (out : Output). out.replies) output_is

      -- what is printed of the store is what is printed of the writes
      pub printed_of_writes : MayOpen opening → (old new : Option (List ℕ)) → {X : Type 0} (r : Result X RunError)
          → ForEachHistory m version (λ h. Prints (replies_given m h version.last queries) old new r)
          → Prints (of_writes m options keeps queries writes).replies old new r
      printed_of_writes may old new r given =
          let legal : IsLegal m (just_opened opening) = record { opens = may; follow = tt } in
          subst (λ (replies : List (List ℕ)). Prints replies old new r) replies_are (given (just_opened opening) legal (sym is))
