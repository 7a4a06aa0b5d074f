-- Effects whose values may be borrowed.
use Rattle.std.specs.Prelude.{Bool, true, false, Some}
use Rattle.uc_oper.specs.declared.effect.Effect.{Effect}
use Rattle.uc_oper.specs.declared.effect.Effect.TheVariants.{Keep, Fold, Set}
use Rattle.uc_oper.specs.declared.effect_ref.Kind.{Kind}
use Rattle.uc_oper.specs.declared.effect_ref.Kind.TheVariants.{Put, Own}

-- the effect that a borrowed one stands for
abbrev pub effect_of : Kind → Effect
effect_of (Put value) = Set (Some value.now)
effect_of (Own effect) = effect

-- whatever the value was, an effect says what it is
abbrev pub sets : Effect → Bool
sets Keep = false
sets (Fold operand) = false
sets (Set value) = true
