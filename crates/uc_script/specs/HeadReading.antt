-- Reading a head line by line, and what a reader returns. `Head.head_of` defines the outcome.
use Rattle.std.specs.Prelude.{ℕ, ◌+◌, ◌-◌, nat_lt, List, [], ◌∷◌, ◌++◌, length, take, Some, None, Result, Ok, Err, if◌then◌else◌}
use Rattle.uc_script.specs.Head.{Head, head_line, queries_in}
use Rattle.uc_script.specs.declared.head.Head.{Head as Found}
use Rattle.uc_script.specs.declared.head_line.HeadLine.TheVariants as saying

-- Lines from the one of this number on, after these keeps, if this number of bytes is left.
abbrev pub head_after : List ℕ → ℕ → ℕ → ℕ → List (List ℕ) → Result Found ℕ
head_after keeps number all left [] = Err number
head_after keeps number all left (line ∷ lines) = elim (head_line line) [
  | None ↦ Err number
  | Some said ↦ elim said [
    | saying.Skipped ↦ head_after keeps (number + 1) all (left - (length line + 1)) lines
    | saying.Keep keep ↦ head_after (keeps ++ keep ∷ []) (number + 1) all (left - (length line + 1)) lines
    | saying.Ask query ↦ head_after keeps (number + 1) all (left - (length line + 1)) lines
    | saying.Log ↦ if nat_lt (length line) left then Ok (record { keeps = keeps; size = all - (left - (length line + 1)) }) else Err number
  ]
]

-- The result of reading the lines before a log, with the queries in their bytes.
abbrev pub seen : List ℕ → Found → Head
seen text found = record { keeps = found.keeps; queries = queries_in (take found.size text); size = found.size }
