-- A run of a script prints all of its output.
use Rattle.std.proofs.Common.{ℕ, List, Option, Some, None, Result, Ok, Err}
use Rattle.uc_oper.specs.Operation.{Operation}
use Rattle.uc_script.specs.Script.{script_of}
use Rattle.uc_script.specs.declared.call.Call.{Call}
use Rattle.uc_script.specs.declared.script.Script.{Script}
use Rattle.uc_version_state.specs.Openings.{Opening}
use Rattle.uc_version_open.specs.Refusal.{opening_refusal}
use Rattle.uc_version_open.specs.declared.open_error.OpenError.{OpenError}
use Rattle.uc_version_state.specs.declared.options.Options.{Options}
use Rattle.uc_tool_io.specs.Ending.{IsWhole}
use Rattle.uc_tool.specs.Play.{opening_of, unless_refused, played, play_of}

opening_whole : (m : Operation) (o : Opening) (calls : List Call) (refusal : Option OpenError) → IsWhole (unless_refused m o calls refusal).done
opening_whole m o calls None = tt
opening_whole m o calls (Some error) = tt

played_whole : (m : Operation) (o : Options) (r : Result Script ℕ) → IsWhole (played m o r).done
played_whole m o (Err line) = tt
played_whole m o (Ok script) = opening_whole m (opening_of o script) script.calls (opening_refusal (opening_of o script))

pub play_whole : (m : Operation) (o : Options) (input : List ℕ) → IsWhole (play_of m o input).done
play_whole m o input = played_whole m o (script_of input)
