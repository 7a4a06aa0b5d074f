use Rattle.std.proofs.Common.{◌≡◌, ◌∷◌, refl, sym, ◌∙◌, subst}
use Rattle.uc_rows.specs.RowBytes.{Row}
use Rattle.uc_rows.specs.Rising.{KeysRise}
use Rattle.uc_rows.proofs.RowOrder.{rise_behind, none_rise}
use Rattle.uc_rows.proofs.rows.keys_rise.Goals as goal

pub returns-in-None : goal.returns-in-None
returns-in-None c =
    let none = sym c.iter-ahead.ensures ∙ c.in-None.ensures.steps.0 in
    (λ t. subst KeysRise (sym none) none_rise, λ rise. refl)

pub returns-in-Some : goal.returns-in-Some
returns-in-Some c =
    let row : Row = (c.in-Some.first.now, c.in-Some.field-0-1.now) in
    let some : c.args.rows.now ≡ row ∷ c.next.new.self = sym c.iter-ahead.ensures ∙ c.in-Some.ensures.steps in
    let behind = rise_behind row c.next.new.self in
    let told = c.keys_rise_above.ensures in
    (λ t. subst KeysRise (sym some) (behind.0 (told.0 t)), λ rise. told.1 (behind.1 (subst KeysRise some rise)))
