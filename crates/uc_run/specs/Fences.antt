-- The fences of a run's blocks: the keys of their first points. Only their prefixes are held apart from the points.
use Rattle.std.specs.Prelude.{◌≡◌, ℕ, ◌*◌, ◌<◌, ◌≤◌, Bool, true, false, List, [], length, take, drop, map, slice_index_or}
use Rattle.std.specs.List.{All}
use Rattle.uc_run_entry.specs.declared.entry.Entry.{Entry}
use Rattle.uc_run_entry.specs.Seek.{is_passed}
use Rattle.uc_run.specs.Blocks.{block_points, blocks_of}
use Rattle.uc_run.specs.Prefixes.{prefix_of, shared_front, AreBytes, ArePrefixes}
use Rattle.uc_run.specs.declared.fences.Fences.{Fences}

-- a key is the fence of a block
abbrev pub IsFence : List Entry → ℕ → List ℕ → Type 0
IsFence points block key = (e : Entry) → key ≡ (slice_index_or points (block_points * block) e).key

-- the first of them are those of the points' first blocks
abbrev pub AreFirstFences : List Entry → List (List ℕ) → Type 0
AreFirstFences points fences = (i : ℕ) (d : List ℕ) (e : Entry) → i < length fences → slice_index_or fences i d ≡ (slice_index_or points (block_points * i) e).key

-- each block has one
pub record AreFences (points : List Entry) (fences : List (List ℕ)) : Type 0 where
  pub each : length fences ≡ blocks_of points
  pub keys : AreFirstFences points fences

-- what they have in common at their front
pub record IsFront (fences : List (List ℕ)) (front : List ℕ) : Type 0 where
  pub bytes : front ≡ take (length front) (slice_index_or fences 0 [])
  pub long : length front ≡ shared_front fences

-- the prefixes of the first of them, after as many bytes as all share
pub record HasPrefixes (points : List Entry) (shared count : ℕ) (prefixes : List ℕ) : Type 0 where
  pub fences : List (List ℕ)
  pub long : length fences ≡ count
  pub keys : AreFirstFences points fences
  pub each : prefixes ≡ map (λ key. prefix_of (drop shared key)) fences
  pub bytes : All (λ key. AreBytes (drop shared key)) fences

-- all of them, and their common front
pub record IsFenced (points : List Entry) (held : Fences) : Type 0 where
  pub fences : List (List ℕ)
  pub are : AreFences points fences
  pub front : IsFront fences held.front
  pub prefixes : ArePrefixes fences (length held.front) held.prefixes.items

-- the first of them lie before a search
abbrev pub ArePassed : List Entry → List ℕ → Bool → ℕ → Type 0
ArePassed points low strict count = (i : ℕ) (e : Entry) → i < count → is_passed low strict (slice_index_or points (block_points * i) e).key ≡ true

-- those from one on don't
abbrev pub AreAhead : List Entry → List ℕ → Bool → ℕ → Type 0
AreAhead points low strict count = (i : ℕ) (e : Entry) → count ≤ i → i < blocks_of points → is_passed low strict (slice_index_or points (block_points * i) e).key ≡ false
