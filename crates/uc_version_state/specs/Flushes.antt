-- How writes fill memtables, and where the runs of these are placed (RocksDB wiki, "MemTable").
use Rattle.std.specs.Prelude.{ℕ, zero, suc, ◌+◌, ◌==◌, Bool, List, [], ◌∷◌, ◌++◌, length, map, nat_le, if◌then◌else◌}
use Rattle.std.specs.List.{list_any}
use Rattle.uc_bytes.specs.declared.write.Write.{Write}
use Rattle.uc_run_entry.specs.Run.{Contents}
use Rattle.uc_run.specs.Size.{memtable_size}
use Rattle.uc_run.specs.Flush.{flushed}
use Rattle.uc_version_state.specs.Versions.{PlacedRun, slots_of}

-- ---- memtables

-- one more part, if it isn't empty
abbrev pub with_rest : List Write → List (List Write)
with_rest [] = []
with_rest (w ∷ ws) = (w ∷ ws) ∷ []

-- The writes of each memtable in turn, with `held` as the first writes. A memtable is full with the write that brings
-- its size to `limit`; the writes left at the end are one more.
abbrev pub memtables_from : ℕ → List Write → List Write → List (List Write)
memtables_from limit held [] = with_rest held
memtables_from limit held (w ∷ ws) =
    if nat_le limit (memtable_size (held ++ w ∷ [])) then (held ++ w ∷ []) ∷ memtables_from limit [] ws
    else memtables_from limit (held ++ w ∷ []) ws

abbrev pub memtables : ℕ → List Write → List (List Write)
memtables limit writes = memtables_from limit [] writes

-- ---- their runs

abbrev pub is_taken : List ℕ → ℕ → Bool
is_taken slots slot = list_any (λ s. s == slot) slots

-- the first number from `slot` on that isn't among some, if one of the next `more` isn't
abbrev pub free_from : ℕ → ℕ → List ℕ → ℕ
free_from zero slot slots = slot
free_from (suc more) slot slots = if is_taken slots slot then free_from more (slot + 1) slots else slot

-- the least slot that isn't among some
abbrev pub least_free : List ℕ → ℕ
least_free slots = free_from (length slots) 0 slots

-- a run before older ones: it gets the least slot that none of them holds
abbrev pub with_run : ℕ → List PlacedRun → Contents → List PlacedRun
with_run id older run = record { id = id; slot = least_free (slots_of older); run = run } ∷ older

-- runs in turn, the oldest first, before older ones: their ids count up from one
abbrev pub placed_onto : ℕ → List PlacedRun → List Contents → List PlacedRun
placed_onto id older [] = older
placed_onto id older (run ∷ runs) = placed_onto (id + 1) (with_run id older run) runs

-- those of memtables
abbrev pub flushed_onto : ℕ → List PlacedRun → List (List Write) → List PlacedRun
flushed_onto id older parts = placed_onto id older (map flushed parts)
