-- The names of claims.
use Rattle.std.specs.Prelude.{◌<◌}
use Rattle.uc_script.specs.declared.call.Call.{Call}
use Rattle.uc_script.specs.declared.call.TheConstants.{NAMES}
use Rattle.uc_script.specs.declared.call.Call.TheVariants.{Feed, Keep, Release, Read, Claim, Install, Abandon, Compact, Pick, Report}

-- The name of a claim, an install or an abandon is below NAMES.
abbrev pub NameIsGood : Call → Type 0
NameIsGood (Feed ops) = Unit {0}
NameIsGood Keep = Unit {0}
NameIsGood (Release at) = Unit {0}
NameIsGood (Read query) = Unit {0}
NameIsGood (Claim name first count) = name < NAMES
NameIsGood (Install name) = name < NAMES
NameIsGood (Abandon name) = name < NAMES
NameIsGood (Compact first count) = Unit {0}
NameIsGood Pick = Unit {0}
NameIsGood Report = Unit {0}
