-- How the writer lays payloads out over blocks: LevelDB's `log_format.md`, "record".
use Rattle.std.specs.Prelude.{◌≡◌, ℕ, ◌+◌, ◌<◌, List, [], ◌∷◌, length, map}
use Rattle.std.specs.List.{AllByRecursion}
use Rattle.uc_logrec.specs.Format.{room}
use Rattle.uc_logrec.specs.Log.{log_text}
use Rattle.uc_logrec.specs.Grammar.{Stand, place_behind, Group, Whole, Pieces, group_records, payload_of, sentence}

-- A payload's records, the first at this place. Each but the last fills its block, and the last has data, unless it is
-- the only one (as for an empty payload). No FIRST without data is dropped.
abbrev pub FillsBlocks : ℕ → Group → Type 0
FillsBlocks place (Whole dropped payload) = dropped ≡ 0
FillsBlocks place (Pieces dropped first middles last) = (dropped ≡ 0) × (7 + length first ≡ room place) × AllByRecursion (λ middle. 7 + length middle ≡ 32768) middles × (0 < length last)

-- the same for payloads one after the other
abbrev pub AllFillBlocks : ℕ → List Group → Type 0
AllFillBlocks place [] = Unit {0}
AllFillBlocks place (group ∷ groups) = FillsBlocks place group × AllFillBlocks (place_behind place (group_records group)) groups

-- The log of payloads is their records, which fill their blocks, and nothing else.
pub record IsLaidOut (payloads : List (List ℕ)) : Type 0 where
  pub groups : List Group
  pub payloads_are : map payload_of groups ≡ payloads
  pub stand : Stand 0 (log_text payloads) (sentence groups) []
  pub fill : AllFillBlocks 0 groups
