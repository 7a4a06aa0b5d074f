use Rattle.std.proofs.Common.{◌≡◌, ℕ, ◌≤◌, length}
use Rattle.uc_memtable.specs.Ends.{newest_end}
use Rattle.uc_memtable.specs.Linked.{AreChained, bucket_of, has_label, lies_in}
use Rattle.uc_memtable.proofs.linking.newest_labelled.Given as goal

-- the walk stays in the bucket, and the newest place of the label is yet to come
abbrev pub invariant-loop-end : goal.invariant-loop-end
invariant-loop-end l = record {
  within : l.end ≤ length l.labels;
  found : (buckets : ℕ) → AreChained buckets l.labels l.before (length l.labels) → newest_end (lies_in buckets l.labels (bucket_of buckets l.label)) l.fn.from ≡ l.fn.from → (newest_end (lies_in buckets l.labels (bucket_of buckets l.label)) l.end ≡ l.end) × (newest_end (has_label l.labels l.label) l.fn.from ≡ newest_end (has_label l.labels l.label) l.end);
}

abbrev pub decreases-loop-end : goal.decreases-loop-end
decreases-loop-end l = l.end
