-- The effect of points in turn, the newest first.
use Rattle.std.proofs.Common.{◌≡◌, ℕ, zero, suc, ◌+◌, ◌-◌, ◌<◌, ◌≤◌, true, List, [], ◌∷◌, ◌++◌, length, get_or, take, drop, Some, None, refl, sym, ap, ◌∙◌, arith}
use Rattle.std.specs.Prelude.{filter, nat_lt}
use Rattle.std.specs.List.{slice_get, HoldsAt}
use Rattle.std.proofs.lemmas.List.{take_more, take-append-drop}
use Rattle.std.proofs.lemmas.Bool.{false≢true}
use Rattle.uc_oper.specs.Operation.{Operation, IsLawful}
use Rattle.uc_oper.specs.Composition.{composed}
use Rattle.uc_oper.specs.declared.effect.Effect.{Effect}
use Rattle.uc_oper.specs.declared.effect.Effect.TheVariants.{Keep, Set}
use Rattle.uc_run_entry.specs.declared.entry.Entry.{Entry}
use Rattle.uc_run_entry.specs.declared.entry.What.{What}
use Rattle.uc_run_entry.specs.declared.entry.What.TheVariants.{Put, Delete, Merge}
use Rattle.uc_run_entry.specs.Lookup.{what_effect, points_effect, above_newest}
use Rattle.uc_run_entry.specs.Overwriting.{sets, overwrites}
use Rattle.uc_compact.proofs.Effects.{points_effect-append, continued}

module _ (m : Operation) where
  pub set_after : (older other : Effect) (what : What) → sets what ≡ true → composed m older (what_effect what) ≡ composed m other (what_effect what)
  set_after older other (Put value) e = refl
  set_after older other Delete e = refl
  set_after older other (Merge operand) e = absurd (false≢true e)

  -- what is older than one that overwrites is of no account
  pub lasting_does : (before : Effect) (ps : List Entry) (place : ℕ) (d : Entry) → place < length ps → overwrites (get_or ps place d) ≡ true → points_effect m before (take (place + 1) ps) ≡ points_effect m before ps
  lasting_does before [] place d l e = absurd (omega (arith, l))
  lasting_does before (p ∷ ps) zero d l e = set_after before (points_effect m before ps) p.what e
  lasting_does before (p ∷ ps) (suc place) d l e =
      let one : suc place + 1 ≡ suc (place + 1) = omega arith in
      ap (λ n. points_effect m before (take n (p ∷ ps))) one
      ∙ ap (λ (effect : Effect). composed m effect (what_effect p.what)) (lasting_does before ps place d (omega (arith, l)) e)

  pub lasting_first : (before : Effect) (ps : List Entry) (place : ℕ) → place < length ps → HoldsAt (λ p. overwrites p ≡ true) ps place → points_effect m before (take (place + 1) ps) ≡ points_effect m before ps
  lasting_first before [] place l e = absurd (omega (arith, l))
  lasting_first before (p ∷ ps) place l e = lasting_does before (p ∷ ps) place p l (e p)

  -- the oldest of what is left goes onto the effect
  pub drop_oldest : (before after : Effect) (ps : List Entry) (n : ℕ) (p : Entry) (whole : Effect) → 0 < n → n ≤ length ps → p ≡ get_or ps (n - 1) p → after ≡ composed m before (what_effect p.what) → points_effect m before (take n ps) ≡ whole → points_effect m after (take (n - 1) ps) ≡ whole
  drop_oldest before after ps n p whole some le is made left =
      let one : n ≡ (n - 1) + 1 = omega (arith, some) in
      let split : take n ps ≡ take (n - 1) ps ++ p ∷ [] =
      ap (λ k. take k ps) one ∙ take_more ps (n - 1) p (omega (arith, some, le)) ∙ ap (λ (q : Entry). take (n - 1) ps ++ q ∷ []) (sym is) in
      ap (λ (effect : Effect). points_effect m effect (take (n - 1) ps)) made
      ∙ sym (points_effect-append m before (take (n - 1) ps) (p ∷ []))
      ∙ ap (points_effect m before) (sym split)
      ∙ left

  -- the effect of the newer points is composed after that of the older ones
  pub halves_do : IsLawful m → (before older newer both : Effect) (n : ℕ) (ps : List Entry) → older ≡ points_effect m before (drop n ps) → newer ≡ points_effect m Keep (take n ps) → both ≡ composed m older newer → both ≡ points_effect m before ps
  halves_do laws before older newer both n ps old new made =
      made
      ∙ ap (composed m older) new
      ∙ continued m laws older Keep (take n ps)
      ∙ ap (λ (effect : Effect). points_effect m effect (take n ps)) old
      ∙ sym (points_effect-append m before (take n ps) (drop n ps))
      ∙ ap (points_effect m before) (take-append-drop n ps)

  -- by the first of the sequences, where there is one
  pub above_none : (points : List Entry) (seqs : List ℕ) → slice_get seqs 0 ≡ None → points_effect m Keep points ≡ above_newest m points seqs
  above_none points [] e = refl
  above_none points (seq ∷ seqs) e = absurd cc

  pub above_some : (points : List Entry) (seqs : List ℕ) (newest : ℕ) → slice_get seqs 0 ≡ Some newest → points_effect m (Set None) (filter (λ p. nat_lt newest p.seq) points) ≡ above_newest m points seqs
  above_some points [] newest e = absurd cc
  above_some points (seq ∷ seqs) newest e =
      let same : newest ≡ seq = cc in
      ap (λ n. points_effect m (Set None) (filter (λ p. nat_lt n p.seq) points)) same
