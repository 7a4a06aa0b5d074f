-- Points by key.
use Rattle.std.specs.Prelude.{◌≡◌, ℕ, List, [], ◌∷◌, Option, Some, None, map, fold, filter}
use Rattle.std.specs.BTreeSet.{insert_key}
use Rattle.uc_bytes.specs.Bytes.{bytes_cmp, same_bytes}
use Rattle.uc_run_entry.specs.declared.entry.Entry.{Entry}

-- a key, and its points
pub record Group : Type 0 where
  pub key : List ℕ
  pub points : List Entry

-- the keys of some points, in order, each once
abbrev pub keys_of : List Entry → List (List ℕ)
keys_of points = fold (insert_key bytes_cmp) [] (map (λ p. p.key) points)

-- the points of a key, in the order of the list
abbrev pub group_of : List Entry → List ℕ → Group
group_of points key = record { key = key; points = filter (λ p. same_bytes p.key key) points }

-- for each key of some points, in order, its points
abbrev pub groups_of : List Entry → List Group
groups_of points = map (group_of points) (keys_of points)

-- what comes first of some groups: the key and the points of the first, or nothing and no points if there is none
abbrev pub Comes : List Group → Option (List ℕ) → List Entry → List Group → Type 0
Comes groups None points others = (groups ≡ []) × (points ≡ []) × (others ≡ [])
Comes groups (Some key) points others = groups ≡ (record { key = key; points = points }) ∷ others
