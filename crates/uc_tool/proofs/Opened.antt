-- The output of a store that opened, followed by its replies.
use Rattle.std.proofs.Common.{◌≡◌, ℕ, ◌+◌, List, ◌∷◌, Option, None, Result, codes, ap, sym, ◌∙◌, subst}
use Rattle.std.specs.Io.KnownBytes.{Appends}
use Rattle.uc_oper.specs.Operation.{Operation}
use Rattle.uc_script.specs.declared.call.Call.{Call}
use Rattle.uc_version_state.specs.declared.options.Options.{Options}
use Rattle.uc_version_state.specs.Versions.{Stored}
use Rattle.uc_version_state.specs.Openings.{Opening, opened}
use Rattle.uc_version_open.specs.Refusal.{opening_refusal}
use Rattle.uc_version.specs.Owners.{Owner, unclaimed}
use Rattle.uc_query.specs.Running.{unnamed}
use Rattle.uc_tool_io.specs.Line.{numbered_line}
use Rattle.uc_tool_io.specs.Writing.{AppendsFront}
use Rattle.uc_tool_io.specs.Output.{joined, Stops, Prints}
use Rattle.uc_tool.specs.Play.{replies_of, output_of, unless_refused}
use Rattle.uc_tool_io.specs.declared.run_error.RunError.{RunError}
use Rattle.uc_tool_io.specs.declared.run_error.RunError.TheVariants as run_error
use Rattle.uc_tool_io.proofs.Known.{appends_none}
use Rattle.uc_tool_io.proofs.Printing.{front_of_first, stops_more, prints_more}

-- the store opens as a script asks
pub opens : (m : Operation) (o : Opening) (v : Stored) (calls : List Call) → v ≡ opened o → opening_refusal o ≡ None
    → output_of m v o.options calls ≡ unless_refused m o calls (opening_refusal o)
opens m o v calls version none = ap (λ (w : Stored). output_of m w o.options calls) version ∙ sym (ap (unless_refused m o calls) none)

module _ (m : Operation) (v : Stored) (options : Options) (calls : List Call) (last : ℕ) (owner : Owner) (line : List ℕ) (last_is : last ≡ v.last) (owner_is : owner ≡ unclaimed v options) (line_is : line ≡ numbered_line (codes "opened ") last) where
  replies_are : line ∷ replies_of m (unnamed owner) last (last + 1) calls ≡ (output_of m v options calls).replies
  replies_are =
      ap (λ (l : List ℕ). l ∷ replies_of m (unnamed owner) last (last + 1) calls) line_is
      ∙ ap (λ (n : ℕ). numbered_line (codes "opened ") n ∷ replies_of m (unnamed owner) n (n + 1) calls) last_is
      ∙ ap (λ (o : Owner). numbered_line (codes "opened ") v.last ∷ replies_of m (unnamed o) v.last (v.last + 1) calls) owner_is

  -- the first line went out in part
  pub stops_at_first : (a b : Option (List ℕ)) → AppendsFront a b line → Stops (output_of m v options calls).replies a b run_error.Device
  stops_at_first a b p =
      subst (λ (rs : List (List ℕ)). Stops rs a b run_error.Device) replies_are (front_of_first a b line (joined (replies_of m (unnamed owner) last (last + 1) calls)) p)

  -- the first line went out, and then there was an error
  pub stops_behind : (a b c : Option (List ℕ)) (e : RunError) → Appends a b line → Stops (replies_of m (unnamed owner) last (last + 1) calls) b c e → Stops (output_of m v options calls).replies a c e
  stops_behind a b c e p q =
      subst (λ (rs : List (List ℕ)). Stops rs a c e) replies_are (stops_more line (replies_of m (unnamed owner) last (last + 1) calls) a b c e p q)

  -- all went out
  pub prints_behind : {X : Type 0} (a b c : Option (List ℕ)) (r : Result X RunError) → Appends a b line → Prints (replies_of m (unnamed owner) last (last + 1) calls) b c r → Prints (output_of m v options calls).replies a c r
  prints_behind a b c r p q =
      subst (λ (rs : List (List ℕ)). Prints rs a c r) replies_are (prints_more line (replies_of m (unnamed owner) last (last + 1) calls) a b c r p q)

-- memory ran out before anything was printed
pub nothing_printed : (all : List (List ℕ)) (a : Option (List ℕ)) → Stops all a a run_error.Memory
nothing_printed all a = (0, appends_none a)
