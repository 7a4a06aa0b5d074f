use Rattle.std.proofs.Common.{◌≡◌, ◌≤◌, length, max}
use Rattle.uc_oper.specs.Operation.{Operation}
use Rattle.uc_run.specs.KeyHash.{key_hash}
use Rattle.uc_memtable.specs.Ends.{newest_end}
use Rattle.uc_memtable.specs.Linked.{has_label}
use Rattle.uc_memtable.specs.Sights.{seen_by, effect_below, effect_over}
use Rattle.uc_memtable.proofs.lookup.walk_to_start.Given as goal

-- the walk stays among the writes of the key's label; the merges that it passed are noted, and nothing else was seen
abbrev pub invariant-loop-end : goal.invariant-loop-end
invariant-loop-end l = record {
  within : l.end ≤ length l.chains;
  ends : newest_end (has_label l.chains (key_hash l.sight.key.now)) l.end ≡ l.end;
  noted : (m : Operation) → effect_below m (seen_by l.sight) (length l.chains) ≡ effect_over m (seen_by l.sight) (effect_below m (seen_by l.sight) (max l.floor l.end)) l.merges.items;
}

abbrev pub decreases-loop-end : goal.decreases-loop-end
decreases-loop-end l = l.end
