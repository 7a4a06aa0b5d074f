-- The effect of runs together on a key, the newest first.
use Rattle.std.proofs.Common.{◌≡◌, ℕ, ◌+◌, ◌<◌, true, List, [], ◌∷◌, ◌++◌, length, map, get_or, take, drop, refl, sym, ap, ◌∙◌, append_assoc}
use Rattle.std.proofs.lemmas.Bool.{false≢true}
use Rattle.std.proofs.lemmas.List.{append-nil, take_more, take-append-drop}
use Rattle.std.specs.Prelude.{Option}
use Rattle.uc_oper.specs.Operation.{Operation}
use Rattle.uc_oper.specs.Composition.{composed, applied}
use Rattle.uc_oper.specs.Lent.{sets}
use Rattle.uc_oper.specs.declared.effect.Effect.{Effect}
use Rattle.uc_oper.specs.declared.effect.Effect.TheVariants.{Keep, Fold, Set}
use Rattle.uc_bytes.specs.declared.write.Write.{Write}
use Rattle.uc_model.specs.Meaning.{effect_on}
use Rattle.uc_run_entry.specs.Run.{Contents}
use Rattle.uc_run_entry.specs.PlainList.{plain_list}
use Rattle.uc_compact.specs.Inputs.{writes_of}

-- an effect that sets the value overrides an older one
pub overrides : (m : Operation) (older newer : Effect) → sets newer ≡ true → composed m older newer ≡ newer
overrides m older Keep set = absurd (false≢true set)
overrides m older (Fold operand) set = absurd (false≢true set)
overrides m older (Set value) set = refl

-- and makes the same of any value
pub set_applies : (m : Operation) (newer : Effect) (value other : Option (List ℕ)) → sets newer ≡ true → applied m newer value ≡ applied m newer other
set_applies m Keep value other set = absurd (false≢true set)
set_applies m (Fold operand) value other set = absurd (false≢true set)
set_applies m (Set after) value other set = refl

module _ {X : Type 0} (run_of : X → Contents) where
  abbrev writes_in : List X → List Write
  writes_in runs = writes_of (map run_of runs)

  -- the writes of the older runs come first
  writes-append : (xs ys : List X) → writes_in (xs ++ ys) ≡ writes_in ys ++ writes_in xs
  writes-append [] ys = sym (append-nil (writes_in ys))
  writes-append (x ∷ xs) ys =
      ap (λ (ws : List Write). ws ++ plain_list (run_of x)) (writes-append xs ys) ∙ append_assoc (writes_in ys) (writes_in xs) (plain_list (run_of x))

  module _ (m : Operation) (parts : (older newer : List Write) (key : List ℕ) (at : ℕ) → effect_on m (older ++ newer) key at ≡ composed m (effect_on m older key at) (effect_on m newer key at)) (key : List ℕ) (at : ℕ) where
    abbrev effect : List X → Effect
    effect runs = effect_on m (writes_in runs) key at

    effect-append : (xs ys : List X) → effect (xs ++ ys) ≡ composed m (effect ys) (effect xs)
    effect-append xs ys =
        ap (λ (ws : List Write). effect_on m ws key at) (writes-append xs ys) ∙ parts (writes_in ys) (writes_in xs) key at

    -- one run more, which is older
    with_older : (runs : List X) (i : ℕ) (r : X) → i < length runs → r ≡ get_or runs i r → effect (take (i + 1) runs) ≡ composed m (effect_on m (plain_list (run_of r)) key at) (effect (take i runs))
    with_older runs i r lt is =
        ap effect (take_more runs i r lt ∙ ap (λ (x : X). take i runs ++ x ∷ []) (sym is)) ∙ effect-append (take i runs) (r ∷ [])

    pub one_older : (runs : List X) (i : ℕ) (r : X) (run : Contents) (older before after : Effect) → i < length runs → r ≡ get_or runs i r → run ≡ run_of r → older ≡ effect_on m (plain_list run) key at → before ≡ effect (take i runs) → after ≡ composed m older before →
        after ≡ effect (take (i + 1) runs)
    one_older runs i r run older before after lt is same found had made =
        made
        ∙ ap (λ (e : Effect). composed m e before) (found ∙ ap (λ (x : Contents). effect_on m (plain_list x) key at) same)
        ∙ ap (composed m (effect_on m (plain_list (run_of r)) key at)) had
        ∙ sym (with_older runs i r lt is)

    -- where the newer runs set the value, the older ones are of no account
    pub set_stays : (runs : List X) (i : ℕ) (found : Effect) → sets found ≡ true → effect (take i runs) ≡ found → effect runs ≡ found
    set_stays runs i found set is =
        ap effect (sym (take-append-drop i runs))
        ∙ effect-append (take i runs) (drop i runs)
        ∙ ap (composed m (effect (drop i runs))) is
        ∙ overrides m (effect (drop i runs)) found set
