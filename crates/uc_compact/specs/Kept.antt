-- The points that are kept, key by key.
use Rattle.std.specs.Prelude.{ℕ, List}
use Rattle.std.specs.List.{flat_map}
use Rattle.uc_oper.specs.Operation.{Operation}
use Rattle.uc_run_entry.specs.declared.entry.Entry.{Entry}
use Rattle.uc_run_entry.specs.Fragment.{Fragment}
use Rattle.uc_compact.specs.Groups.{keys_of}
use Rattle.uc_compact.specs.Stripes.{Keeping}
use Rattle.uc_compact.specs.Choice.{AreOfOneKey, points_for, points_named, seqs_over}

-- each key's points, and the range deletions over it, are like those of one key
abbrev pub AreOfOneKeyEach : List Fragment → List Entry → Type 0
AreOfOneKeyEach pieces points = (key : List ℕ) → AreOfOneKey (points_named key points) (seqs_over key pieces)

-- what is kept of each key's points
abbrev pub points_kept : Operation → Keeping → List Fragment → List Entry → List Entry
points_kept m keeping pieces points = flat_map (λ key. points_for m keeping key (points_named key points) (seqs_over key pieces)) (keys_of points)
