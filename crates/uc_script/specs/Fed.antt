-- All the changes of a script.
use Rattle.std.specs.Prelude.{List, [], ◌++◌}
use Rattle.std.specs.List.{flat_map}
use Rattle.uc_script.specs.declared.call.Call.{Call}
use Rattle.uc_script.specs.declared.call.Call.TheVariants.{Feed}
use Rattle.uc_script.specs.declared.script.Script.{Script}
use Rattle.uc_bytes.specs.declared.op.Op.{Op}

-- The changes that a call feeds: those of a `feed`, and none of another call.
abbrev pub fed_ops : Call → List Op
fed_ops (Feed ops) = ops
fed_ops _ = []

-- The changes of a script: those before its `open`, and then those of its feeds in order.
abbrev pub all_ops : Script → List Op
all_ops script = script.ops ++ flat_map fed_ops script.calls
