-- Snapshots of a live store.
use Rattle.std.specs.Prelude.{◌≡◌, ℕ, ◌==◌, Bool, List, [], ◌∷◌, ◌++◌, if◌then◌else◌}
use Rattle.std.specs.List.{list_any}
use Rattle.uc_oper.specs.Operation.{Operation}
use Rattle.uc_version_state.specs.Snapshots.{kept, released}
use Rattle.uc_live.specs.Lives.{Live}
use Rattle.uc_live.specs.Going.{GoesOn}

-- the store after its version's last sequence was taken as a snapshot
abbrev pub with_snapshot : Live → Live
with_snapshot l = record l { version = kept l.version; snapshots = l.snapshots ++ l.version.last ∷ [] }

-- The memtables are flushed, and then the last sequence number is a snapshot.
pub record TakesSnapshot (m : Operation) (old new : Live) (seq : ℕ) : Type 0 where
  pub flushed : Live
  pub goes_on : GoesOn m old flushed []
  pub all : flushed.gathered ≡ []
  pub none_prepared : flushed.prepared ≡ []
  pub seq_is : seq ≡ flushed.version.last
  pub after : new ≡ with_snapshot flushed

-- sequences without the first of one
abbrev pub without_one : ℕ → List ℕ → List ℕ
without_one seq [] = []
without_one seq (s ∷ seqs) = if s == seq then seqs else s ∷ without_one seq seqs

abbrev pub is_among : ℕ → List ℕ → Bool
is_among seq seqs = list_any (λ s. s == seq) seqs

-- the store after one snapshot at a sequence was released: the sequence stays protected while another snapshot is there
abbrev pub without_snapshot : ℕ → Live → Live
without_snapshot seq l =
    let rest = without_one seq l.snapshots in
    record l { version = if is_among seq rest then l.version else released seq l.version; snapshots = rest }
