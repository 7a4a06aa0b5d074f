-- The effect of points in turn, the newest first.
use Rattle.std.proofs.Common.{◌≡◌, ℕ, zero, suc, ◌+◌, ◌-◌, ◌<◌, ◌≤◌, true, List, [], ◌∷◌, ◌++◌, length, get_or, take, drop, Some, None, refl, sym, ap, ◌∙◌, arith}
use Rattle.std.specs.Prelude.{Bool, false, not, filter, nat_lt}
use Rattle.std.specs.List.{slice_get}
use Rattle.std.proofs.lemmas.List.{take_more, take-take, drop-take, take-append-drop}
use Rattle.std.proofs.lemmas.Bool.{false≢true}
use Rattle.uc_oper.specs.Operation.{Operation}
use Rattle.uc_oper.specs.Composition.{composed}
use Rattle.uc_oper.specs.declared.effect.Effect.{Effect}
use Rattle.uc_oper.specs.declared.effect.Effect.TheVariants.{Keep, Set}
use Rattle.uc_run_entry.specs.declared.entry.Entry.{Entry}
use Rattle.uc_run_entry.specs.declared.entry.What.{What}
use Rattle.uc_run_entry.specs.declared.entry.What.TheVariants.{Put, Delete, Merge}
use Rattle.uc_run_entry.specs.Lookup.{what_effect, points_effect, above_newest}
use Rattle.uc_run_entry.specs.Overwriting.{sets, overwrites}

module _ (m : Operation) where
  -- the oldest one first
  pub oldest_first : (before : Effect) (newer : List Entry) (oldest : Entry) → points_effect m before (newer ++ oldest ∷ []) ≡ points_effect m (composed m before (what_effect oldest.what)) newer
  oldest_first before [] oldest = refl
  oldest_first before (p ∷ ps) oldest = ap (λ (effect : Effect). composed m effect (what_effect p.what)) (oldest_first before ps oldest)

  set_after : (older other : Effect) (what : What) → sets what ≡ true → composed m older (what_effect what) ≡ composed m other (what_effect what)
  set_after older other (Put value) e = refl
  set_after older other Delete e = refl
  set_after older other (Merge operand) e = absurd (false≢true e)

  -- what is older than one that overwrites is of no account
  pub lasting_does : (before : Effect) (points : List Entry) (place : ℕ) (d : Entry) → place < length points → overwrites (get_or points place d) ≡ true → points_effect m before (take (place + 1) points) ≡ points_effect m before points
  lasting_does before [] place d l e = absurd (omega (arith, l))
  lasting_does before (p ∷ ps) zero d l e = set_after before (points_effect m before ps) p.what e
  lasting_does before (p ∷ ps) (suc place) d l e =
      let one : suc place + 1 ≡ suc (place + 1) = omega arith in
      ap (λ n. points_effect m before (take n (p ∷ ps))) one
      ∙ ap (λ (effect : Effect). composed m effect (what_effect p.what)) (lasting_does before ps place d (omega (arith, l)) e)

  -- the oldest of what is left goes onto the effect
  pub drop_oldest : (before after : Effect) (ps : List Entry) (n : ℕ) (p : Entry) (whole : Effect) → 0 < n → n ≤ length ps → p ≡ get_or ps (n - 1) p → after ≡ composed m before (what_effect p.what) → points_effect m before (take n ps) ≡ whole → points_effect m after (take (n - 1) ps) ≡ whole
  drop_oldest before after ps n p whole some le is made left =
      let one : n ≡ (n - 1) + 1 = omega (arith, some) in
      let split : take n ps ≡ take (n - 1) ps ++ p ∷ [] =
      ap (λ k. take k ps) one ∙ take_more ps (n - 1) p (omega (arith, some, le)) ∙ ap (λ (q : Entry). take (n - 1) ps ++ q ∷ []) (sym is) in
      ap (λ (effect : Effect). points_effect m effect (take (n - 1) ps)) made
      ∙ sym (oldest_first before (take (n - 1) ps) p)
      ∙ ap (points_effect m before) (sym split)
      ∙ left

  -- one point alone
  pub one_does : (before : Effect) (points : List Entry) (p : Entry) → length points ≡ 1 → slice_get points 0 ≡ Some p → composed m before (what_effect p.what) ≡ points_effect m before points
  one_does before [] p long e = absurd (omega (arith, long))
  one_does before (q ∷ []) p long e = let same : p ≡ q = cc in ap (λ (r : Entry). composed m before (what_effect r.what)) same
  one_does before (q ∷ r ∷ rs) p long e = absurd (omega (arith, long))

  -- older points, and then newer ones
  in_turn : (before : Effect) (newer older : List Entry) → points_effect m before (newer ++ older) ≡ points_effect m (points_effect m before older) newer
  in_turn before [] older = refl
  in_turn before (p ∷ ps) older = ap (λ (effect : Effect). composed m effect (what_effect p.what)) (in_turn before ps older)

  -- the oldest few of what is left go onto the effect
  pub drop_few : (before after : Effect) (ps : List Entry) (begin end : ℕ) (whole : Effect) → begin ≤ end → end ≤ length ps → after ≡ points_effect m before (take (end - begin) (drop begin ps)) → points_effect m before (take end ps) ≡ whole → points_effect m after (take begin ps) ≡ whole
  drop_few before after ps begin end whole order within made left =
      let all : begin + (end - begin) ≡ end = omega (arith, order) in
      let few = take (end - begin) (drop begin ps) in
      let split : take begin ps ++ few ≡ take end ps =
      ap (λ (es : List Entry). take begin ps ++ es) (sym (drop-take begin (end - begin) ps) ∙ ap (λ n. drop begin (take n ps)) all)
      ∙ ap (λ (es : List Entry). es ++ drop begin (take end ps)) (sym (take-take begin end ps order))
      ∙ take-append-drop begin (take end ps) in
      ap (λ (effect : Effect). points_effect m effect (take begin ps)) made
      ∙ sym (in_turn before (take begin ps) few)
      ∙ ap (points_effect m before) split
      ∙ left

  -- by the first of the sequences, where there is one
  pub above_none : (points : List Entry) (seqs : List ℕ) → slice_get seqs 0 ≡ None → points_effect m Keep points ≡ above_newest m points seqs
  above_none points [] e = refl
  above_none points (seq ∷ seqs) e = absurd cc

  pub above_some : (points : List Entry) (seqs : List ℕ) (newest : ℕ) → slice_get seqs 0 ≡ Some newest → points_effect m (Set None) (filter (λ p. nat_lt newest p.seq) points) ≡ above_newest m points seqs
  above_some points [] newest e = absurd cc
  above_some points (seq ∷ seqs) newest e =
      let same : newest ≡ seq = cc in
      ap (λ n. points_effect m (Set None) (filter (λ p. nat_lt n p.seq) points)) same

pub not_false : (b : Bool) → not b ≡ false → b ≡ true
not_false true e = refl
not_false false e = absurd (false≢true (sym e))
