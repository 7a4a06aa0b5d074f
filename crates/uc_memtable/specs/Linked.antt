-- Places in chains: those whose labels share a bucket, from the newest on.
use Rattle.std.specs.Prelude.{◌≡◌, ◌==◌, ℕ, ◌<◌, ◌-◌, Bool, List, length, slice_index}
use Rattle.std.specs.Int.RustNames.{bit_and}
use Rattle.uc_memtable.specs.Ends.{newest_end}

-- the bucket of a label, among `buckets` of them
abbrev pub bucket_of : ℕ → ℕ → ℕ
bucket_of buckets label = bit_and label (buckets - 1)

-- whether the label at a place is this one
abbrev pub has_label : List ℕ → ℕ → ℕ → Bool
has_label labels label place = slice_index labels place == label

-- whether the label at a place lies in this bucket
abbrev pub lies_in : ℕ → List ℕ → ℕ → ℕ → Bool
lies_in buckets labels bucket place = bucket_of buckets (slice_index labels place) == bucket

-- each bucket's head is the end of its newest place below `n`
abbrev pub HaveHeads : List ℕ → List ℕ → ℕ → Type 0
HaveHeads heads labels n = (bucket : ℕ) → bucket < length heads → slice_index heads bucket ≡ newest_end (lies_in (length heads) labels bucket) n

-- before each place below `n` stands the end of the next older one in its bucket
abbrev pub AreChained : ℕ → List ℕ → List ℕ → ℕ → Type 0
AreChained buckets labels before n = (place : ℕ) → place < n → slice_index before place ≡ newest_end (lies_in buckets labels (bucket_of buckets (slice_index labels place))) place
