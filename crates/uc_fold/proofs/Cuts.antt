-- Consequences of the laws of joining for a list that is cut.
use Rattle.std.proofs.Common.{◌≡◌, List, [], ◌∷◌, ◌++◌, fold, refl, sym, ap, ◌∙◌}
use Rattle.std.proofs.lemmas.List.Sums.{fold-append}
use Rattle.uc_fold.specs.Joining.{IsLawful}

module _ {P : Type 0} {fits : P → Type 0} {unit : P} {join : P → P → P} (laws : IsLawful fits unit join) where
  -- what is joined in front of a fold may as well be joined in front of its start
  join-fold : (older start : P) (parts : List P) → join older (fold join start parts) ≡ fold join (join older start) parts
  join-fold older start [] = refl
  join-fold older start (p ∷ ps) = join-fold older (join start p) ps ∙ ap (λ s. fold join s ps) (sym (laws.assoc older start p))

  -- a fold is a value that a part can have
  fold-fits : (start : P) (parts : List P) → fits start → fits (fold join start parts)
  fold-fits start [] h = h
  fold-fits start (p ∷ ps) h = fold-fits (join start p) ps (laws.join_fits start p)

  -- the folds of two pieces join to the fold of the whole
  pub fold-cut : (front back : List P) → fold join unit (front ++ back) ≡ join (fold join unit front) (fold join unit back)
  fold-cut front back =
      fold-append join unit front back
      ∙ ap (λ s. fold join s back) (sym (laws.right_unit (fold join unit front) (fold-fits unit front laws.unit_fits)))
      ∙ sym (join-fold (fold join unit front) unit back)
