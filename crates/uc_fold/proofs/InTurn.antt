-- The effect of a fold of effects on a value.
use Rattle.std.proofs.Common.{◌≡◌, ℕ, List, [], ◌∷◌, Option, fold, refl, ap, ◌∙◌}
use Rattle.uc_oper.specs.declared.effect.Effect.{Effect}
use Rattle.uc_oper.specs.declared.effect.Effect.TheVariants.{Keep}
use Rattle.uc_oper.specs.Operation.{Operation, IsLawful as OperatorIsLawful}
use Rattle.uc_oper.specs.Composition.{applied, composed, applied-composed}
use Rattle.uc_fold.specs.Composing.{applied_in_turn}

-- after an effect, the others are applied to its result
from_effect : {m : Operation} → OperatorIsLawful m → (first : Effect) (value : Option (List ℕ)) (effects : List Effect)
    → applied m (fold (composed m) first effects) value ≡ applied_in_turn m (applied m first value) effects
from_effect laws first value [] = refl
from_effect {m} laws first value (e ∷ es) =
    from_effect laws (composed m first e) value es ∙ ap (λ v. applied_in_turn m v es) (applied-composed m laws first e value)

-- the whole does what the effects do in turn
pub whole-in_turn : {m : Operation} → OperatorIsLawful m → (effects : List Effect) (value : Option (List ℕ))
    → applied m (fold (composed m) Keep effects) value ≡ applied_in_turn m value effects
whole-in_turn laws effects value = from_effect laws Keep value effects
