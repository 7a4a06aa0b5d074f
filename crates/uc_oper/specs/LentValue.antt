-- Values that may be borrowed.
use Rattle.std.specs.Prelude.{ℕ, List}
use Rattle.uc_oper.specs.declared.value_ref.Place.{Place}
use Rattle.uc_oper.specs.declared.value_ref.Place.TheVariants.{Lent, Own}

-- the value's bytes
abbrev pub text_of : Place → List ℕ
text_of (Lent value) = value.now
text_of (Own value) = value
