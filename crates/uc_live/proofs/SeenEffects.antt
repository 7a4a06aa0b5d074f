-- Facts that follow from the effect of writes: whether a read sees one, and whether it sees one that overwrites the key.
use Rattle.std.proofs.Common.{◌≡◌, ℕ, ◌≤◌, Bool, true, false, cond, ◌&&◌, List, [], ◌∷◌, Option, fold, filter, map, length, get_or, take, ◌+◌, ◌<◌, refl, sym, ap, ◌∙◌}
use Rattle.std.specs.Prelude.{◌||◌, ◌↔◌, IsTrue}
use Rattle.std.specs.List.{list_any}
use Rattle.std.proofs.lemmas.Bool.{false≢true}
use Rattle.std.proofs.lemmas.List.{take_all}
use Rattle.std.proofs.lemmas.List.Folds.{list_any-append, list_any_at, list_any_more}
use Rattle.uc_oper.specs.Operation.{Operation}
use Rattle.uc_oper.specs.Composition.{applied, composed}
use Rattle.uc_oper.specs.Lent.{sets}
use Rattle.uc_oper.specs.declared.effect.Effect.{Effect}
use Rattle.uc_oper.specs.declared.effect.Effect.TheVariants.{Keep, Fold, Set}
use Rattle.uc_bytes.specs.declared.op.Op.{Op}
use Rattle.uc_bytes.specs.declared.op.Op.TheVariants.{Put, Delete, Merge, DeleteRange}
use Rattle.uc_bytes.specs.declared.write.Write.{Write}
use Rattle.uc_model.specs.Meaning.{is_seen, effect_of, effect_on}
use Rattle.uc_run_entry.specs.Run.{Contents}
use Rattle.uc_run_entry.specs.PlainList.{plain_list}
use Rattle.uc_compact.specs.Inputs.{writes_of}
use Rattle.uc_live.specs.Sources.{overwrites, changes, is_seen_among, is_decided_by}

or_none : (a : Bool) → (a || false) ≡ a
or_none true = refl
or_none false = refl

or_all : (a : Bool) → (a || true) ≡ true
or_all true = refl
or_all false = refl

or_assoc : (a b c : Bool) → ((a || b) || c) ≡ (a || (b || c))
or_assoc true b c = refl
or_assoc false b c = refl

or_comm : (a b : Bool) → (a || b) ≡ (b || a)
or_comm true b = sym (or_all b)
or_comm false b = sym (or_none b)

module _ (m : Operation) where
  -- a write after others changes something, and overwrites their effect or keeps it
  changes_then : (e : Effect) (op : Op) → changes (composed m e (effect_of op)) ≡ true
  changes_then e (Put named value) = refl
  changes_then e (Delete named) = refl
  changes_then e (DeleteRange begin end) = refl
  changes_then Keep (Merge named operand) = refl
  changes_then (Fold before) (Merge named operand) = refl
  changes_then (Set value) (Merge named operand) = refl

  sets_then : (e : Effect) (op : Op) → sets (composed m e (effect_of op)) ≡ (sets e || overwrites op)
  sets_then e (Put named value) = sym (or_all (sets e))
  sets_then e (Delete named) = sym (or_all (sets e))
  sets_then e (DeleteRange begin end) = sym (or_all (sets e))
  sets_then Keep (Merge named operand) = refl
  sets_then (Fold before) (Merge named operand) = refl
  sets_then (Set value) (Merge named operand) = refl

  abbrev in_turn : Effect → List Write → Effect
  in_turn e ws = fold (λ effect w. composed m effect (effect_of w.op)) e ws

  module _ (test : Write → Bool) where
    changes_step : (e : Effect) (w : Write) (ws : List Write) (b : Bool) → ((e : Effect) → changes (in_turn e (filter test ws)) ≡ (changes e || list_any test ws)) →
        changes (in_turn e (cond b (w ∷ filter test ws) (filter test ws))) ≡ (changes e || (b || list_any test ws))
    changes_step e w ws true others =
        others (composed m e (effect_of w.op)) ∙ ap (λ x. x || list_any test ws) (changes_then e w.op) ∙ sym (or_all (changes e))
    changes_step e w ws false others = others e

    changes_in_turn : (ws : List Write) (e : Effect) → changes (in_turn e (filter test ws)) ≡ (changes e || list_any test ws)
    changes_in_turn [] e = sym (or_none (changes e))
    changes_in_turn (w ∷ ws) e = changes_step e w ws (test w) (changes_in_turn ws)

    abbrev decide : List Write → Bool
    decide ws = list_any (λ w. test w && overwrites w.op) ws

    sets_step : (e : Effect) (w : Write) (ws : List Write) (b : Bool) → ((e : Effect) → sets (in_turn e (filter test ws)) ≡ (sets e || decide ws)) →
        sets (in_turn e (cond b (w ∷ filter test ws) (filter test ws))) ≡ (sets e || ((b && overwrites w.op) || decide ws))
    sets_step e w ws true others =
        others (composed m e (effect_of w.op)) ∙ ap (λ x. x || decide ws) (sets_then e w.op) ∙ or_assoc (sets e) (overwrites w.op) (decide ws)
    sets_step e w ws false others = others e

    sets_in_turn : (ws : List Write) (e : Effect) → sets (in_turn e (filter test ws)) ≡ (sets e || decide ws)
    sets_in_turn [] e = sym (or_none (sets e))
    sets_in_turn (w ∷ ws) e = sets_step e w ws (test w) (sets_in_turn ws)

  -- the effect is that of some writes exactly if a read sees one
  pub changes_if_seen : (ws : List Write) (key : List ℕ) (at : ℕ) → changes (effect_on m ws key at) ≡ is_seen_among ws key at
  changes_if_seen ws key at = changes_in_turn (is_seen key at) ws Keep

  -- and it says what the value is exactly if it sees one that overwrites the key
  pub sets_if_decided : (ws : List Write) (key : List ℕ) (at : ℕ) → sets (effect_on m ws key at) ≡ is_decided_by ws key at
  sets_if_decided ws key at = sets_in_turn (is_seen key at) ws Keep

  -- then it makes the same of any value
  pub set_gives : (e : Effect) (value other : Option (List ℕ)) → sets e ≡ true → applied m e value ≡ applied m e other
  set_gives Keep value other set = absurd (false≢true set)
  set_gives (Fold operand) value other set = absurd (false≢true set)
  set_gives (Set after) value other set = refl

  -- what changes nothing leaves any value
  pub keeps_value : (e : Effect) (value : Option (List ℕ)) → changes e ≡ false → applied m e value ≡ value
  keeps_value Keep value keeps = refl
  keeps_value (Fold operand) value keeps = absurd (false≢true (sym keeps))
  keeps_value (Set after) value keeps = absurd (false≢true (sym keeps))

module _ {X : Type 0} (run_of : X → Contents) (key : List ℕ) (at : ℕ) where
  -- whether a read sees a write of a run
  abbrev pub is_seen_in : X → Bool
  is_seen_in x = is_seen_among (plain_list (run_of x)) key at

  -- the effect of a run shows it
  pub told_of_run : (m : Operation) (x : X) (run : Contents) (e : Effect) (told : Bool) → run ≡ run_of x → e ≡ effect_on m (plain_list run) key at → told ≡ changes e → told ≡ is_seen_in x
  told_of_run m x run e told same found is =
      is
      ∙ ap changes found
      ∙ changes_if_seen m (plain_list run) key at
      ∙ ap (λ (r : Contents). is_seen_among (plain_list r) key at) same

  -- a read sees a write of runs exactly if it sees one of one of them
  pub seen_in_runs : (runs : List X) → is_seen_among (writes_of (map run_of runs)) key at ≡ list_any is_seen_in runs
  seen_in_runs [] = refl
  seen_in_runs (x ∷ xs) =
      list_any-append (is_seen key at) (writes_of (map run_of xs)) (plain_list (run_of x))
      ∙ ap (λ b. b || is_seen_in x) (seen_in_runs xs)
      ∙ or_comm (list_any is_seen_in xs) (is_seen_in x)

  -- so it does where it sees one of the run at a place
  pub seen_at : (runs : List X) (i : ℕ) (x : X) → i < length runs → x ≡ get_or runs i x → is_seen_in x ≡ true → true ≡ is_seen_among (writes_of (map run_of runs)) key at
  seen_at runs i x lt is seen =
      sym (seen_in_runs runs ∙ list_any_at is_seen_in runs i x lt (ap is_seen_in (sym is) ∙ seen))

  -- and it sees none of one run more if it sees none of that
  pub none_more : (runs : List X) (i : ℕ) (x : X) → i < length runs → x ≡ get_or runs i x → list_any is_seen_in (take i runs) ≡ false → is_seen_in x ≡ false → list_any is_seen_in (take (i + 1) runs) ≡ false
  none_more runs i x lt is none unseen =
      list_any_more is_seen_in runs i x lt
      ∙ ap (λ b. b || is_seen_in (get_or runs i x)) none
      ∙ ap is_seen_in (sym is)
      ∙ unseen

  pub none_of_all : (runs : List X) (i : ℕ) → length runs ≤ i → list_any is_seen_in (take i runs) ≡ false → false ≡ is_seen_among (writes_of (map run_of runs)) key at
  none_of_all runs i le none =
      sym (seen_in_runs runs ∙ ap (list_any is_seen_in) (sym (take_all i runs le)) ∙ none)

-- two tests that hold together are the same
pub same_test : (a b : Bool) → IsTrue a ↔ (b ≡ true) → a ≡ b
same_test true b both = sym (both.0 refl)
same_test false true both = absurd (false≢true (both.1 refl))
same_test false false both = refl
