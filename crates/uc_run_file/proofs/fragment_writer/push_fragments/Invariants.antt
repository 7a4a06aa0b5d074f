use Rattle.std.proofs.Common.{◌≡◌, ◌++◌, take}
use Rattle.uc_run_file.specs.Spelling.{fragments_text}
use Rattle.uc_run_file.proofs.fragment_writer.push_fragments.Given as goal

abbrev pub invariant-loop-fragment : goal.invariant-loop-fragment
invariant-loop-fragment l = l.bytes.items ≡ l.fn.bytes.items ++ fragments_text (take l.fragment-index l.fragments)
