-- The part of a script or head that has a line.
use Rattle.std.specs.Prelude.{ℕ, List, codes, Bool, true, false}
use Rattle.uc_script.specs.declared.part.Source.{Source}
use Rattle.uc_script.specs.declared.part.Source.TheVariants as source
use Rattle.uc_script.specs.declared.part.Part.{Part}
use Rattle.uc_script.specs.declared.part.Part.TheVariants.{Setup, Calls, Head}

-- The part of a line, by whether an `open` comes before it.
abbrev pub part_of : Source → Bool → Part
part_of source.Script false = Setup
part_of source.Script true = Calls
part_of source.Head opened = Head

-- Which words a line of the part may begin with, as it is printed.
abbrev pub first_words : Part → List ℕ
first_words Setup = codes "before `open` a line begins with put, delete, merge, range, keep or open"
first_words Calls = codes "after `open` a line begins with put, delete, merge, range, feed, keep, release, get, scan, claim, install, abandon, compact, pick or report"
first_words Head = codes "in front of a log a line begins with keep, get, scan or log"
