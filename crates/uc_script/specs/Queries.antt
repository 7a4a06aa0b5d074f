-- The query that a line's fields name.
use Rattle.std.specs.Prelude.{ℕ, List, codes, Option, Some, None, if◌then◌else◌}
use Rattle.uc_script.specs.Lines.{says}
use Rattle.uc_script.specs.Texts.{◌>>=◌, number_of, text_of, seq_of, high_of}
use Rattle.uc_script.specs.declared.query.Query.{Query}
use Rattle.uc_script.specs.declared.query.Query.TheVariants.{Get, Scan}

-- `get K S`
unfoldable pub get_of : List ℕ → List ℕ → List ℕ → Option Query
get_of word key at =
    if says word (codes "get") then (do
      k ← text_of key
      s ← seq_of at
      Some (Get k s))
    else None

-- `scan LOW HIGH LIMIT S`
unfoldable pub scan_of : List ℕ → List ℕ → List ℕ → List ℕ → List ℕ → Option Query
scan_of word low high limit at =
    if says word (codes "scan") then (do
      l ← text_of low
      h ← high_of high
      n ← number_of limit
      s ← seq_of at
      Some (Scan l h n s))
    else None
