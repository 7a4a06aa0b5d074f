-- The change that a line's fields name: the same before `open` and after it.
use Rattle.std.specs.Prelude.{ℕ, List, codes, Option, Some, None, if◌then◌else◌}
use Rattle.uc_script.specs.Lines.{says}
use Rattle.uc_script.specs.Texts.{◌>>=◌, text_of}
use Rattle.uc_bytes.specs.declared.op.Op.{Op}
use Rattle.uc_bytes.specs.declared.op.Op.TheVariants.{Put, Delete, Merge, DeleteRange}

-- `delete K`
unfoldable pub change_with_one : List ℕ → List ℕ → Option Op
change_with_one word key =
    if says word (codes "delete") then (do
      k ← text_of key
      Some (Delete k))
    else None

-- `put K V`, `merge K V` and `range B E`
unfoldable pub change_with_two : List ℕ → List ℕ → List ℕ → Option Op
change_with_two word first second = do
  key ← text_of first
  value ← text_of second
  if says word (codes "put") then Some (Put key value)
      else if says word (codes "merge") then Some (Merge key value)
      else if says word (codes "range") then Some (DeleteRange key value)
      else None
