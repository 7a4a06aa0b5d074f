-- Items that are left at the end of a list, item by item.
use Rattle.std.proofs.Common.{◌≡◌, Bool, true, false, not, ◌&&◌, ◌||◌, List, [], ◌∷◌, refl, ap, ◌∙◌}
use Rattle.std.specs.List.{list_any}
use Rattle.uc_script.specs.Leaving.{leaves}

-- whether something is left at the end of items, by whether something was before them
abbrev pub left_by : {A : Type 0} → (A → Bool) → (A → Bool) → Bool → List A → Bool
left_by gives takes before items = (before && not (list_any takes items)) || leaves gives takes items

next_step : (g t b a r : Bool) → (((g || (b && not t)) && not a) || r) ≡ ((b && not (t || a)) || ((g && not a) || r))
next_step true true true true r = refl
next_step true true true false r = refl
next_step true true false true r = refl
next_step true true false false r = refl
next_step true false true true r = refl
next_step true false true false r = refl
next_step true false false true r = refl
next_step true false false false r = refl
next_step false true true true r = refl
next_step false true true false r = refl
next_step false true false true r = refl
next_step false true false false r = refl
next_step false false true true r = refl
next_step false false true false r = refl
next_step false false false true r = refl
next_step false false false false r = refl

-- one item on
pub left_by-next : {A : Type 0} (gives takes : A → Bool) (x : A) (xs : List A) (before after : Bool) → after ≡ (gives x || (before && not (takes x)))
    → left_by gives takes after xs ≡ left_by gives takes before (x ∷ xs)
left_by-next gives takes x xs before after is =
    ap (λ (b : Bool). left_by gives takes b xs) is ∙ next_step (gives x) (takes x) before (list_any takes xs) (leaves gives takes xs)

-- at the end
pub left_by-end : {A : Type 0} (gives takes : A → Bool) (before : Bool) → left_by gives takes before [] ≡ before
left_by-end gives takes true = refl
left_by-end gives takes false = refl
