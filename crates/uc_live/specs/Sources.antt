-- Where a lookup at the last sequence is answered.
use Rattle.std.specs.Prelude.{ℕ, Bool, true, false, ◌&&◌, List, if◌then◌else◌}
use Rattle.std.specs.List.{list_any}
use Rattle.uc_oper.specs.declared.effect.Effect.{Effect}
use Rattle.uc_oper.specs.declared.effect.Effect.TheVariants.{Keep, Fold, Set}
use Rattle.uc_bytes.specs.declared.op.Op.{Op}
use Rattle.uc_bytes.specs.declared.op.Op.TheVariants.{Put, Delete, Merge, DeleteRange}
use Rattle.uc_bytes.specs.declared.write.Write.{Write}
use Rattle.uc_model.specs.Meaning.{is_seen}
use Rattle.uc_version_state.specs.Versions.{writes_in}
use Rattle.uc_live.specs.Views.{Seen, last}
use Rattle.uc_live.specs.declared.lookup_source.LookupSource.{LookupSource}
use Rattle.uc_live.specs.declared.lookup_source.LookupSource.TheVariants.{Memtable, Filters, Runs}

-- an operation says what the keys that it touches have, whatever they had
abbrev pub overwrites : Op → Bool
overwrites (Put named value) = true
overwrites (Delete named) = true
overwrites (Merge named operand) = false
overwrites (DeleteRange begin end) = true

-- whether a read of a key at a sequence sees one of the writes
abbrev pub is_seen_among : List Write → List ℕ → ℕ → Bool
is_seen_among writes key at = list_any (is_seen key at) writes

-- whether it sees one that overwrites the key
abbrev pub is_decided_by : List Write → List ℕ → ℕ → Bool
is_decided_by writes key at = list_any (λ w. is_seen key at w && overwrites w.op) writes

-- where a lookup of a key at the last sequence is answered
abbrev pub source_of : Seen → List ℕ → LookupSource
source_of s key =
    if is_decided_by s.gathered key (last s) then Memtable
    else if is_seen_among (writes_in s.version) key (last s) then Runs else Filters

-- whether an effect is that of some writes, and not of none
abbrev pub changes : Effect → Bool
changes Keep = false
changes (Fold operand) = true
changes (Set value) = true
