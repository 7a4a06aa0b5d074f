-- A list of which each element is changed, one after the other.
use Rattle.std.proofs.Common.{◌≡◌, ℕ, ◌+◌, ◌<◌, arith, List, [], ◌∷◌, ◌++◌, length, get_or, set, take, drop, map, sym, ap, ◌∙◌}
use Rattle.std.proofs.lemmas.List.{append_assoc, map-append, take_more, drop_more, get_or_at, set_at, length-map, length-take-le}

pub written : {X : Type 0} (f : X → X) (old now : List X) (i : ℕ) (d y : X) → i < length old → now ≡ map f (take i old) ++ drop i old → y ≡ f (get_or now i d) → set now i y ≡ map f (take (i + 1) old) ++ drop (i + 1) old
written f old now i d y lt is made =
    let long : length (map f (take i old)) ≡ i = length-map (take i old) f ∙ length-take-le i old (omega (arith, lt)) in
    let rest : drop i old ≡ get_or old i d ∷ drop (i + 1) old = drop_more old i d lt in
    let all : now ≡ map f (take i old) ++ get_or old i d ∷ drop (i + 1) old = is ∙ ap (λ (ys : List _). map f (take i old) ++ ys) rest in
    let here : get_or now i d ≡ get_or old i d = ap (λ (ys : List _). get_or ys i d) all ∙ get_or_at (map f (take i old)) (get_or old i d) (drop (i + 1) old) d i long in
    ap (λ (ys : List _). set ys i y) all
    ∙ set_at (map f (take i old)) (get_or old i d) (drop (i + 1) old) y i long
    ∙ ap (λ (z : _). map f (take i old) ++ z ∷ drop (i + 1) old) (made ∙ ap f here)
    ∙ sym (append_assoc (map f (take i old)) (f (get_or old i d) ∷ []) (drop (i + 1) old))
    ∙ ap (λ (ys : List _). ys ++ drop (i + 1) old) (sym (map-append f (take i old) (get_or old i d ∷ [])) ∙ ap (map f) (sym (take_more old i d lt)))
