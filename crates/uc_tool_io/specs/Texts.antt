-- Messages of a run that can't continue.
use Rattle.std.specs.Prelude.{ℕ, List, codes}

abbrev pub out_of_memory : List ℕ
out_of_memory = codes "out of memory\n"

abbrev pub read_fault : List ℕ
read_fault = codes "read fault\n"

abbrev pub input_too_long : List ℕ
input_too_long = codes "input too long\n"
