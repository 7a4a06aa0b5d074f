-- Snapshots that come and go (RocksDB wiki, "Snapshot"): the sequences that a store keeps.
use Rattle.std.specs.Prelude.{ℕ, ◌==◌, not, List, [], ◌∷◌, ◌++◌, if◌then◌else◌}
use Rattle.std.specs.List.{filter, list_any}
use Rattle.uc_version_state.specs.Versions.{Stored}

-- keeps, with one more appended, if it isn't among them
abbrev pub with_keep : ℕ → List ℕ → List ℕ
with_keep seq keeps = if list_any (λ keep. keep == seq) keeps then keeps else keeps ++ seq ∷ []

-- keeps without one
abbrev pub without_keep : ℕ → List ℕ → List ℕ
without_keep seq keeps = filter (λ keep. not (keep == seq)) keeps

-- the version after its last sequence was kept
abbrev pub kept : Stored → Stored
kept v = record v { keeps = with_keep v.last v.keeps }

-- the version after a keep was released
abbrev pub released : ℕ → Stored → Stored
released seq v = record v { keeps = without_keep seq v.keeps }
