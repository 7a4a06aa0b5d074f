-- The compactions of a store, one after the other.
use Rattle.std.proofs.Common.{◌≡◌, ℕ, zero, suc, List, [], ◌∷◌, Option, Result, Ok, Err, length, refl, ap, sym, ◌∙◌, subst}
use Rattle.std.specs.Prelude.{IfOk, OnOk, OnErr, IfErr}
use Rattle.std.specs.Global.{Vec}
use Rattle.std.specs.Io.KnownBytes.{Appends}
use Rattle.uc_oper.specs.Operation.{Operation}
use Rattle.uc_version.specs.Owners.{Owner}
use Rattle.uc_tool_io.specs.Writing.{AppendsFront}
use Rattle.uc_tool_io.specs.Output.{joined, Stops, Prints}
use Rattle.uc_tool.specs.Report.{Compactions, compactions, compactions_of, no_more, last_line, behind_line}
use Rattle.uc_tool.specs.Compacting.{IsStep}
use Rattle.uc_tool.specs.declared.compaction_steps.Step.TheVariants as step
use Rattle.uc_tool_io.specs.declared.run_error.RunError.{RunError}
use Rattle.uc_tool_io.specs.declared.run_error.RunError.TheVariants as run_error
use Rattle.uc_tool_io.proofs.Printing.{GoesOn, all_printed, goes_next, stops_next}

-- Of all compactions, those from here on are still to come, at most `left` of them.
pub record CompactsOn (m : Operation) (all : Compactions) (left : ℕ) (here : Owner) (old now : Option (List ℕ)) : Type 0 where
  pub owner : (compactions m left here).owner ≡ all.owner
  pub lines : GoesOn all.lines (compactions m left here).lines old now

-- none was made yet
pub begins : (m : Operation) (o : Owner) (left : ℕ) (here : Owner) (old : Option (List ℕ)) → left ≡ length o.version.runs → here ≡ o
    → CompactsOn m (compactions_of m o) left here old old
begins m o left here old count is =
    let same : compactions_of m o ≡ compactions m left here =
    sym (ap (λ (n : ℕ). compactions m n here) count ∙ ap (λ (p : Owner). compactions m (length o.version.runs) p) is) in
    subst (λ (all : Compactions). CompactsOn m all left here old old) (sym same) (record { owner = refl; lines = λ new r p. p })

-- what was written of a line, by its answer
pub sent_or_stopped : (all : List (List ℕ)) (line : List ℕ) (old now after : Option (List ℕ)) (r : Result (Unit {0}) RunError)
    → GoesOn all (line ∷ []) old now → OnOk r (Appends now after line) → OnErr r (AppendsFront now after line) → IfErr r (λ e. e ≡ run_error.Device)
    → Prints all old after r
sent_or_stopped all line old now after (Ok x) goes ok err device =
    all_printed all [] old after (goes_next all (line ∷ []) old now goes line [] refl after ok) refl
sent_or_stopped all line old now after (Err e) goes ok err device =
    subst (λ (d : RunError). Stops all old after d) (sym device) (stops_next all (line ∷ []) old now goes line [] refl after err)

module _ (m : Operation) (all : Compactions) (left : ℕ) (here : Owner) (old now : Option (List ℕ)) (so_far : CompactsOn m all left here old now) where
  -- nothing more is to come
  module _ (o : Owner) (ended : compactions m left here ≡ no_more o) where
    pub ended_lines : Appends old now (joined all.lines)
    ended_lines = all_printed all.lines (compactions m left here).lines old now so_far.lines (ap (λ (c : Compactions). c.lines) ended)

    pub ended_owner : o ≡ all.owner
    ended_owner = sym (ap (λ (c : Compactions). c.owner) ended) ∙ so_far.owner

  -- as many were made as there may be
  pub none_left : left ≡ zero → compactions m left here ≡ no_more here
  none_left none = ap (λ (n : ℕ). compactions m n here) none

  module _ (rest : ℕ) (more : left ≡ suc rest) (next : Owner) where
    -- nothing was picked
    pub nothing_picked : IsStep m here step.Nothing next → compactions m left here ≡ no_more next
    nothing_picked taken = ap (λ (n : ℕ). compactions m n here) more ∙ taken (compactions m rest)

    module _ (line : Vec ℕ) where
      -- an error ends them
      module _ (taken : IsStep m here (step.Last line) next) where
        last_is : compactions m left here ≡ last_line line.items next
        last_is = ap (λ (n : ℕ). compactions m n here) more ∙ taken (compactions m rest)

        pub refused_owner : next ≡ all.owner
        refused_owner = sym (ap (λ (c : Compactions). c.owner) last_is) ∙ so_far.owner

        pub refused_lines : GoesOn all.lines (line.items ∷ []) old now
        refused_lines = subst (λ (c : Compactions). GoesOn all.lines c.lines old now) last_is so_far.lines

      -- a stretch was compacted
      module _ (taken : IsStep m here (step.Compacted line) next) where
        more_is : compactions m left here ≡ behind_line line.items (compactions m rest next)
        more_is = ap (λ (n : ℕ). compactions m n here) more ∙ taken (compactions m rest)

        lines_are : (compactions m left here).lines ≡ line.items ∷ (compactions m rest next).lines
        lines_are = ap (λ (c : Compactions). c.lines) more_is

        -- its line went out
        pub compacted : (after : Option (List ℕ)) → Appends now after line.items → CompactsOn m all rest next old after
        compacted after p = record {
          owner = sym (ap (λ (c : Compactions). c.owner) more_is) ∙ so_far.owner;
          lines = goes_next all.lines (compactions m left here).lines old now so_far.lines line.items (compactions m rest next).lines lines_are after p;
        }

        -- its line went out in part
        pub stopped : (after : Option (List ℕ)) → AppendsFront now after line.items → Stops all.lines old after run_error.Device
        stopped after p = stops_next all.lines (compactions m left here).lines old now so_far.lines line.items (compactions m rest next).lines lines_are after p

-- what holds of any answer
pub whatever_comes : {P : Type 0} (r : Result (Unit {0}) RunError) → P → IfOk r (λ x. P)
whatever_comes (Ok x) p = p
whatever_comes (Err e) p = tt
