-- The writes of a run, as one plain list.
use Rattle.std.specs.Prelude.{ℕ, List, [], ◌∷◌, ◌++◌, map, fold, nat_lt, if◌then◌else◌}
use Rattle.std.specs.List.{flat_map}
use Rattle.uc_bytes.specs.declared.op.Op.{Op}
use Rattle.uc_bytes.specs.declared.op.Op.TheVariants as op
use Rattle.uc_bytes.specs.declared.write.Write.{Write}
use Rattle.uc_run_entry.specs.declared.entry.Entry.{Entry}
use Rattle.uc_run_entry.specs.declared.entry.What.{What}
use Rattle.uc_run_entry.specs.declared.entry.What.TheVariants.{Put, Delete, Merge}
use Rattle.uc_run_entry.specs.Fragment.{Fragment}
use Rattle.uc_run_entry.specs.Run.{Contents}

-- the change that a point makes
abbrev pub op_of : List ℕ → What → Op
op_of key (Put value) = op.Put key value
op_of key Delete = op.Delete key
op_of key (Merge operand) = op.Merge key operand

abbrev pub point_write : Entry → Write
point_write p = record { seq = p.seq; op = op_of p.key p.what }

-- a range deletion for each sequence of a fragment
abbrev pub fragment_writes : Fragment → List Write
fragment_writes f = map (λ seq. record { seq = seq; op = op.DeleteRange f.begin f.end }) f.seqs

-- the writes of the points, and those of the fragments
abbrev pub writes_of : Contents → List Write
writes_of run = map point_write run.points ++ flat_map fragment_writes run.fragments

-- inserts a write after those of a list by sequence that aren't newer
abbrev pub insert_by_seq : List Write → Write → List Write
insert_by_seq [] w = w ∷ []
insert_by_seq (x ∷ xs) w = if nat_lt w.seq x.seq then w ∷ x ∷ xs else x ∷ insert_by_seq xs w

-- writes in order of sequence
abbrev pub by_seq : List Write → List Write
by_seq writes = fold insert_by_seq [] writes

-- The writes of a run, oldest first. Writes of one sequence touch different keys, so their order among themselves
-- doesn't matter.
abbrev pub plain_list : Contents → List Write
plain_list run = by_seq (writes_of run)
