-- The run that a memtable's writes become.
use Rattle.std.specs.Prelude.{ℕ, List, [], ◌∷◌, Option, Some, None, fold, if◌then◌else◌}
use Rattle.std.specs.List.{filter_map}
use Rattle.std.specs.Ordering.{is_lt}
use Rattle.uc_bytes.specs.declared.op.Op.{Op}
use Rattle.uc_bytes.specs.declared.op.Op.TheVariants.{Put, Delete, Merge, DeleteRange}
use Rattle.uc_bytes.specs.declared.write.Write.{Write}
use Rattle.uc_batch.specs.Rising.{last_of}
use Rattle.uc_run_entry.specs.declared.entry.Entry.{Entry}
use Rattle.uc_run_entry.specs.declared.entry.What.TheVariants as what
use Rattle.uc_run_entry.specs.Order.{entry_cmp}
use Rattle.uc_run_entry.specs.Run.{Contents}
use Rattle.uc_run_entry.specs.Cutting.{RangeOf, fragments_of}

-- the point that a change of one key is
abbrev pub point_of : ℕ → Op → Option Entry
point_of seq (Put key value) = Some (record { key = key; seq = seq; what = what.Put value })
point_of seq (Delete key) = Some (record { key = key; seq = seq; what = what.Delete })
point_of seq (Merge key operand) = Some (record { key = key; seq = seq; what = what.Merge operand })
point_of seq (DeleteRange begin end) = None

-- the range that a range deletion deletes
abbrev pub range_of : ℕ → Op → Option RangeOf
range_of seq (Put key value) = None
range_of seq (Delete key) = None
range_of seq (Merge key operand) = None
range_of seq (DeleteRange begin end) = Some (record { begin = begin; end = end; seq = seq })

-- the points among writes, in their order
abbrev pub points_in : List Write → List Entry
points_in writes = filter_map (λ w. point_of w.seq w.op) writes

-- the range deletions among writes, in their order
abbrev pub ranges_in : List Write → List RangeOf
ranges_in writes = filter_map (λ w. range_of w.seq w.op) writes

-- inserts a point before the first that follows it in the order of keys
abbrev pub insert_point : List Entry → Entry → List Entry
insert_point [] p = p ∷ []
insert_point (q ∷ qs) p = if is_lt (entry_cmp p q) then p ∷ q ∷ qs else q ∷ insert_point qs p

-- points by key, the newest of a key first
abbrev pub by_key : List Entry → List Entry
by_key points = fold insert_point [] points

-- the first sequence, or 0 if there is no write
abbrev pub first_of : List Write → ℕ
first_of [] = 0
first_of (w ∷ ws) = w.seq

-- The run of writes whose sequences rise: their points by key, their range deletions cut into fragments, and the range
-- from the first sequence to the last. That range includes ranges that cover no key.
abbrev pub flushed : List Write → Contents
flushed writes = record { low = first_of writes; high = last_of 0 writes; points = by_key (points_in writes); fragments = fragments_of (ranges_in writes) }
