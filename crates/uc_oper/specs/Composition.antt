-- Effects on one key: what they do to a value, and what two of them do in turn.
use Rattle.std.specs.Prelude.{◌≡◌, ℕ, List, Option, Some, None, refl}
use Rattle.std.proofs.Common.{ap, sym}
use Rattle.uc_oper.specs.declared.effect.Effect.{Effect}
use Rattle.uc_oper.specs.declared.effect.Effect.TheVariants.{Keep, Fold, Set}
use Rattle.uc_oper.specs.Operation.{Operation, IsLawful}
use Rattle.uc_oper.specs.Merging.{merged}

-- the value that an effect makes of a value, or of none
abbrev pub applied : Operation → Effect → Option (List ℕ) → Option (List ℕ)
applied m Keep value = value
applied m (Fold y) value = Some (merged m value y)
applied m (Set v) value = v

-- an effect, and then an operand
abbrev pub folded : Operation → Effect → List ℕ → Effect
folded m Keep y = Fold y
folded m (Fold x) y = Fold (m.pair x y)
folded m (Set v) y = Set (Some (merged m v y))

-- an older effect, and then a newer one
abbrev pub composed : Operation → Effect → Effect → Effect
composed m older Keep = older
composed m older (Fold y) = folded m older y
composed m older (Set v) = Set v

-- applying a composition of two effects equals applying both in turn
pub applied-composed : (m : Operation) → IsLawful m → (older newer : Effect) (value : Option (List ℕ)) → applied m (composed m older newer) value ≡ applied m newer (applied m older value)
applied-composed m laws older Keep value = refl
applied-composed m laws older (Set v) value = refl
applied-composed m laws Keep (Fold y) value = refl
applied-composed m laws (Set v) (Fold y) value = refl
applied-composed m laws (Fold x) (Fold y) None = ap Some (laws.first_pair x y)
applied-composed m laws (Fold x) (Fold y) (Some b) = ap Some (laws.join_pair b x y)

-- composition of effects is associative
pub composed_assoc : (m : Operation) → IsLawful m → (a b c : Effect) → composed m (composed m a b) c ≡ composed m a (composed m b c)
composed_assoc m laws a b Keep = refl
composed_assoc m laws a b (Set v) = refl
composed_assoc m laws a Keep (Fold z) = refl
composed_assoc m laws a (Set v) (Fold z) = refl
composed_assoc m laws Keep (Fold y) (Fold z) = refl
composed_assoc m laws (Fold x) (Fold y) (Fold z) = ap Fold (laws.pair_assoc x y z)
composed_assoc m laws (Set None) (Fold y) (Fold z) = ap (λ (v : List ℕ). Set (Some v)) (sym (laws.first_pair y z))
composed_assoc m laws (Set (Some b)) (Fold y) (Fold z) = ap (λ (v : List ℕ). Set (Some v)) (sym (laws.join_pair b y z))

-- `Keep` before an effect changes nothing
pub composed-Keep_left : (m : Operation) (e : Effect) → composed m Keep e ≡ e
composed-Keep_left m Keep = refl
composed-Keep_left m (Fold y) = refl
composed-Keep_left m (Set v) = refl
