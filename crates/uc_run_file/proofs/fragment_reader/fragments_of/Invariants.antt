use Rattle.std.proofs.Common.{◌≡◌, List, take}
use Rattle.std.specs.Arc.{arc_value}
use Rattle.uc_run_entry.specs.Fragment.{Fragment}
use Rattle.uc_run_file.specs.Faults.{ends_of, lists_of}
use Rattle.uc_run_file.proofs.fragment_reader.fragments_of.Given as goal

abbrev pub invariant-loop-number : goal.invariant-loop-number
invariant-loop-number l = (fs : List Fragment) → arc_value l.ends ≡ ends_of fs → arc_value l.lists ≡ lists_of fs → l.list.items ≡ take l.number fs
