-- A loop that changes each element of a list, and collects what it takes from each.
use Rattle.std.proofs.Common.{◌≡◌, ℕ, ◌+◌, ◌<◌, List, [], ◌∷◌, ◌++◌, length, get_or, map, take, drop, sym, ap, ◌∙◌, arith}
use Rattle.std.specs.List.{flat_map}
use Rattle.std.proofs.lemmas.Grind.{flat_map-append}
use Rattle.std.proofs.lemmas.List.{append-nil, append_assoc, take_more, drop_more, get_or_at, length-map, length-take-le}

-- the element at the place of the loop is still the old one
pub unwritten : {X : Type 0} (f : X → X) (old now : List X) (i : ℕ) (d : X) → i < length old → now ≡ map f (take i old) ++ drop i old → get_or now i d ≡ get_or old i d
unwritten {X} f old now i d lt is =
    let long : length (map f (take i old)) ≡ i = length-map (take i old) f ∙ length-take-le i old (omega (arith, lt)) in
    let rest : drop i old ≡ get_or old i d ∷ drop (i + 1) old = drop_more old i d lt in
    ap (λ (ys : List X). get_or ys i d) (is ∙ ap (λ (ys : List X). map f (take i old) ++ ys) rest)
    ∙ get_or_at (map f (take i old)) (get_or old i d) (drop (i + 1) old) d i long

pub gathered : {X Y : Type 0} (f : X → X) (g : X → List Y) (old now : List X) (i : ℕ) (d : X) (before so_far after : List Y) → i < length old → now ≡ map f (take i old) ++ drop i old → so_far ≡ before ++ flat_map g (take i old) → after ≡ so_far ++ g (get_or now i d) → after ≡ before ++ flat_map g (take (i + 1) old)
gathered {X} {Y} f g old now i d before so_far after lt is had made =
    made
    ∙ ap (λ (ys : List Y). ys ++ g (get_or now i d)) had
    ∙ ap (λ (x : X). (before ++ flat_map g (take i old)) ++ g x) (unwritten f old now i d lt is)
    ∙ append_assoc before (flat_map g (take i old)) (g (get_or old i d))
    ∙ ap (λ (ys : List Y). before ++ ys) (ap (λ (ys : List Y). flat_map g (take i old) ++ ys) (sym (append-nil (g (get_or old i d)))) ∙ sym (flat_map-append g (take i old) (get_or old i d ∷ [])) ∙ ap (flat_map g) (sym (take_more old i d lt)))
