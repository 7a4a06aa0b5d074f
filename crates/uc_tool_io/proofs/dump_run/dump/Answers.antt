use Rattle.std.proofs.Common.{rules}
use Rattle.uc_tool_io.specs.Dump.{dump_of}
use Rattle.uc_tool_io.proofs.Dumps.{dump_whole}
use Rattle.uc_tool_io.proofs.dump_run.dump.Goals as goal

pub returns : goal.returns
returns g c = c.run_over_input-done.ensures.written dump_of dump_whole (λ input before after outcome told short call. search rules)
