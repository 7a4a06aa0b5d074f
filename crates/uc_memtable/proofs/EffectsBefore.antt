-- The effect of memtables on a key, one after the other.
use Rattle.std.proofs.Common.{◌≡◌, ℕ, ◌+◌, ◌<◌, List, [], ◌∷◌, ◌++◌, length, get_or, take, ap, sym, ◌∙◌}
use Rattle.std.proofs.lemmas.List.{take_more}
use Rattle.uc_bytes.specs.declared.write.Write.{Write}
use Rattle.uc_oper.specs.Operation.{Operation}
use Rattle.uc_oper.specs.Composition.{composed}
use Rattle.uc_oper.specs.declared.effect.Effect.{Effect}
use Rattle.uc_model.specs.Meaning.{effect_on}
use Rattle.uc_memtable.specs.Frozen.{all_of}
use Rattle.uc_memtable.proofs.AllFrozen.{all_of-push}

module _ (m : Operation) (key : List ℕ) (at : ℕ)
    (parts : (older newer : List Write) (key : List ℕ) (at : ℕ) → effect_on m (older ++ newer) key at ≡ composed m (effect_on m older key at) (effect_on m newer key at))
    (assoc : (a b c : Effect) → composed m (composed m a b) c ≡ composed m a (composed m b c)) where
  -- what the first memtables do, and then an effect
  abbrev pub first_then : List (List Write) → ℕ → Effect → Effect
  first_then ms n newer = composed m (effect_on m (all_of (take n ms)) key at) newer

  -- what all do stays so if the last of the first ones goes over to the effect
  pub one_before : (ms : List (List Write)) (i n : ℕ) (ws : List Write) (older newer both all : Effect) → i < length ms → i + 1 ≡ n → ws ≡ get_or ms i ws
      → older ≡ effect_on m ws key at → both ≡ composed m older newer → first_then ms n newer ≡ all → first_then ms i both ≡ all
  one_before ms i n ws older newer both all lt next e is composes before =
      let more : take (i + 1) ms ≡ take i ms ++ ws ∷ [] = take_more ms i ws lt ∙ ap (λ (us : List Write). take i ms ++ us ∷ []) (sym e) in
      let joined : all_of (take (i + 1) ms) ≡ all_of (take i ms) ++ ws = ap all_of more ∙ all_of-push (take i ms) ws in
      let split : effect_on m (all_of (take (i + 1) ms)) key at ≡ composed m (effect_on m (all_of (take i ms)) key at) (effect_on m ws key at) =
      ap (λ (us : List Write). effect_on m us key at) joined ∙ parts (all_of (take i ms)) ws key at in
      ap (first_then ms i) (composes ∙ ap (λ (x : Effect). composed m x newer) is)
      ∙ sym (assoc (effect_on m (all_of (take i ms)) key at) (effect_on m ws key at) newer)
      ∙ ap (λ (x : Effect). composed m x newer) (sym split)
      ∙ ap (λ k. first_then ms k newer) next
      ∙ before
