-- Facts of a validated script, by the laws on scripts.
use Rattle.std.proofs.Common.{◌≡◌, ℕ, ◌+◌, ◌^◌, ◌≤◌, List, [], ◌∷◌, ◌++◌, All, Result, Ok, Err, length, drop, length-append, arith}
use Rattle.std.specs.Prelude.{IfOk}
use Rattle.std.specs.List.{AllByRecursion, flat_map}
use Rattle.std.proofs.lemmas.List.Elements.{recursion_from_All, All-from_recursion}
use Rattle.uc_bytes.specs.declared.op.Op.{Op}
use Rattle.uc_bytes.specs.declared.op.Op.TheVariants.{Put, Delete, Merge, DeleteRange}
use Rattle.uc_batch.specs.Spelling.{FitsOp}
use Rattle.uc_script.specs.Calls.{calls_in, script_with}
use Rattle.uc_script.specs.Fed.{fed_ops, all_ops}
use Rattle.uc_script.specs.Names.{NameIsGood}
use Rattle.uc_script.specs.Reading.{Gives}
use Rattle.uc_script.specs.Script.{script_of}
use Rattle.uc_script.specs.Short.{IsShort, AreNoLonger}
use Rattle.uc_script.specs.declared.call.Call.{Call}
use Rattle.uc_script.specs.declared.error.ScriptError.{ScriptError}
use Rattle.uc_script.specs.declared.script.Preamble.{Preamble}
use Rattle.uc_script.specs.declared.script.Script.{Script}
use Rattle.uc_tool_io.specs.declared.input.TheConstants.{INPUT_LIMIT}
use Rattle.uc_tool_opening.specs.Opening.{FitsLog}
use Rattle.uc_tool.specs.Play.{FitLogs}

-- the result of validating a script
abbrev pub Judges : List ℕ → Result Preamble ScriptError → Type 0
Judges input result = Gives (λ (preamble : Preamble). script_with preamble (drop preamble.size input)) result (script_of input)

-- its names are those that a store has
pub good_names : ((text : List ℕ) (script : Script) → script_of text ≡ Ok script → All NameIsGood script.calls) → (input : List ℕ) (result : Result Preamble ScriptError) → Judges input result
    → IfOk result (λ preamble. All NameIsGood (calls_in (drop preamble.size input)))
good_names law input (Ok preamble) judged = law input (script_with preamble (drop preamble.size input)) judged
good_names law input (Err error) judged = tt

op_fits : (n : ℕ) (op : Op) → n ≤ INPUT_LIMIT → IsShort n op → FitsOp op
op_fits n (Put key value) within short = (omega (arith, within, short.0), omega (arith, within, short.1))
op_fits n (Delete key) within short = omega (arith, within, short)
op_fits n (Merge key operand) within short = (omega (arith, within, short.0), omega (arith, within, short.1))
op_fits n (DeleteRange begin end) within short = (omega (arith, within, short.0), omega (arith, within, short.1))

-- ---- its changes fit logs: those before `open` together, and those of each feed

all_fit : (n : ℕ) → n ≤ INPUT_LIMIT → (ops : List Op) → AllByRecursion (IsShort n) ops → AllByRecursion FitsOp ops
all_fit n within [] short = tt
all_fit n within (op ∷ ops) short = (op_fits n op within short.0, all_fit n within ops short.1)

both_fit : (ops others : List Op) → AllByRecursion FitsOp (ops ++ others) → AllByRecursion FitsOp ops × AllByRecursion FitsOp others
both_fit [] others fit = (tt, fit)
both_fit (op ∷ ops) others fit = let rest = both_fit ops others fit.1 in ((fit.0, rest.0), rest.1)

fit_logs : (next : ℕ) (calls : List Call) → 1 ≤ next → next + length (flat_map fed_ops calls) ≤ 2 ^ 56 → AllByRecursion FitsOp (flat_map fed_ops calls) → FitLogs next calls
fit_logs next [] from_one few fit = tt
fit_logs next (call ∷ calls) from_one few fit =
    let ops = fed_ops call in
    let others = flat_map fed_ops calls in
    let both = length-append ops others in
    let parts = both_fit ops others fit in (
      record { from_one = from_one; few = omega (arith, few, both); strings = All-from_recursion FitsOp ops parts.0 },
      fit_logs (next + length ops) calls (omega (arith, from_one)) (omega (arith, few, both)) parts.1,
    )

module _ (law : (text : List ℕ) (script : Script) → script_of text ≡ Ok script → AreNoLonger (length text) (all_ops script)) (input : List ℕ) (within : length input ≤ INPUT_LIMIT) where
  pub script_fits : (script : Script) → script_of input ≡ Ok script → FitsLog 1 script.ops × FitLogs (length script.ops + 1) script.calls
  script_fits script read =
      let others = flat_map fed_ops script.calls in
      let short = law input script read in
      let both = length-append script.ops others in
      let all : AllByRecursion FitsOp (all_ops script) = all_fit (length input) within (all_ops script) (recursion_from_All (IsShort (length input)) (all_ops script) short.short) in
      let parts = both_fit script.ops others all in (
        record { from_one = omega arith; few = omega (arith, within, short.few, both); strings = All-from_recursion FitsOp script.ops parts.0 },
        fit_logs (length script.ops + 1) script.calls (omega arith) (omega (arith, within, short.few, both)) parts.1,
      )

  pub fits_log : (result : Result Preamble ScriptError) → Judges input result → IfOk result (λ preamble. FitsLog 1 preamble.ops)
  fits_log (Ok preamble) judged = (script_fits (script_with preamble (drop preamble.size input)) judged).0
  fits_log (Err error) judged = tt

  pub feeds_fit : (result : Result Preamble ScriptError) → Judges input result → IfOk result (λ preamble. FitLogs (length preamble.ops + 1) (calls_in (drop preamble.size input)))
  feeds_fit (Ok preamble) judged = (script_fits (script_with preamble (drop preamble.size input)) judged).1
  feeds_fit (Err error) judged = tt
