-- Lists cut out of one list of items.
use Rattle.std.proofs.Common.{◌≡◌, ℕ, zero, suc, ◌+◌, ◌-◌, ◌<◌, ◌≤◌, List, [], ◌∷◌, ◌++◌, length, get_or, take, drop, refl, sym, ap, ◌∙◌, arith, length-drop}
use Rattle.std.proofs.lemmas.List.{take_all, take-append-le, drop-append-le, drop-drop, nil_from_length}
use Rattle.uc_run_entry.specs.Lists.{cut_from, cut, AreEnds, AreStarts}

length-cut_from : {T : Type 0} (from : ℕ) (ends : List ℕ) (items : List T) → length (cut_from from ends items) ≡ length ends
length-cut_from from [] items = refl
length-cut_from from (end ∷ ends) items = ap (λ n. suc n) (length-cut_from end ends (drop (end - from) items))

pub length-cut : {T : Type 0} (starts : List ℕ) (items : List T) (end : ℕ) → AreStarts starts end → length (cut starts items) + 1 ≡ length starts
length-cut [] items end h = absurd h
length-cut (from ∷ ends) items end h = omega (arith, length-cut_from from ends items)

ends_from : (from : ℕ) (ends : List ℕ) (end : ℕ) → AreEnds from ends end → (n : ℕ) → n < length ends + 1 → (from ≤ get_or (from ∷ ends) n 0) × (get_or (from ∷ ends) n 0 ≤ end)
ends_from from [] end h zero l = (omega arith, omega (arith, h))
ends_from from [] end h (suc n) l = absurd (omega (arith, l))
ends_from from (next ∷ ends) end h zero l =
    let rest : (next ≤ get_or (next ∷ ends) 0 0) × (get_or (next ∷ ends) 0 0 ≤ end) = ends_from next ends end h.1 0 (omega arith) in
    (omega arith, omega (arith, h.0, rest.1))
ends_from from (next ∷ ends) end h (suc n) l =
    let rest : (next ≤ get_or (next ∷ ends) n 0) × (get_or (next ∷ ends) n 0 ≤ end) = ends_from next ends end h.1 n (omega (arith, l)) in
    (omega (arith, h.0, rest.0), rest.1)

ends_rise : (from : ℕ) (ends : List ℕ) (end : ℕ) → AreEnds from ends end → (n : ℕ) → n < length ends → get_or (from ∷ ends) n 0 ≤ get_or ends n 0
ends_rise from [] end h n l = absurd (omega (arith, l))
ends_rise from (next ∷ ends) end h zero l = h.0
ends_rise from (next ∷ ends) end h (suc n) l = ends_rise next ends end h.1 n (omega (arith, l))

part_from : {T : Type 0} (from : ℕ) (ends : List ℕ) (items : List T) (end : ℕ) → AreEnds from ends end → (n : ℕ) → n < length ends → get_or (cut_from from ends items) n [] ≡ take (get_or ends n 0 - get_or (from ∷ ends) n 0) (drop (get_or (from ∷ ends) n 0 - from) items)
part_from from [] items end h n l = absurd (omega (arith, l))
part_from from (next ∷ ends) items end h zero l =
    let none : from - from ≡ 0 = omega arith in
    sym (ap (λ k. take (next - from) (drop k items)) none)
part_from {T} from (next ∷ ends) items end h (suc n) l =
    let low : (next ≤ get_or (next ∷ ends) n 0) × (get_or (next ∷ ends) n 0 ≤ end) = ends_from next ends end h.1 n (omega (arith, l)) in
    let sum : (next - from) + (get_or (next ∷ ends) n 0 - next) ≡ get_or (next ∷ ends) n 0 - from = omega (arith, h.0, low.0) in
    part_from next ends (drop (next - from) items) end h.1 n (omega (arith, l))
    ∙ ap (λ (xs : List T). take (get_or ends n 0 - get_or (next ∷ ends) n 0) xs) (drop-drop (get_or (next ∷ ends) n 0 - next) (next - from) items ∙ ap (λ k. drop k items) sum)

-- where a list lies among the items
pub record LiesAt {T : Type 0} (starts : List ℕ) (items : List T) (n : ℕ) : Type 0 where
  pub within : n + 1 < length starts
  pub order : get_or starts n 0 ≤ get_or starts (n + 1) 0
  pub bound : get_or starts (n + 1) 0 ≤ length items
  pub part : get_or (cut starts items) n [] ≡ take (get_or starts (n + 1) 0 - get_or starts n 0) (drop (get_or starts n 0) items)

at_next : (from : ℕ) (ends : List ℕ) (n : ℕ) → get_or ends n 0 ≡ get_or (from ∷ ends) (n + 1) 0
at_next from ends n =
    let e : suc n ≡ n + 1 = omega arith in
    ap (λ k. get_or (from ∷ ends) k 0) e

pub lies_at : {T : Type 0} (starts : List ℕ) (items : List T) → AreStarts starts (length items) → (n : ℕ) → n < length (cut starts items) → LiesAt starts items n
lies_at [] items h n l = absurd h
lies_at (from ∷ ends) items h n l =
    let short : n < length ends = omega (arith, l, length-cut_from from ends items) in
    let next : get_or ends n 0 ≡ get_or (from ∷ ends) (n + 1) 0 = at_next from ends n in
    let up : get_or (from ∷ ends) n 0 ≤ get_or ends n 0 = ends_rise from ends (length items) h.1 n short in
    let last : (from ≤ get_or (from ∷ ends) (suc n) 0) × (get_or (from ∷ ends) (suc n) 0 ≤ length items) = ends_from from ends (length items) h.1 (suc n) (omega (arith, short)) in
    let begin : get_or (from ∷ ends) n 0 - from ≡ get_or (from ∷ ends) n 0 = omega (arith, h.0) in
    record {
      within = omega (arith, short);
      order = omega (arith, up, next);
      bound = omega (arith, last.1, next);
      part = part_from from ends items (length items) h.1 n short
          ∙ ap (λ k. take (get_or ends n 0 - get_or (from ∷ ends) n 0) (drop k items)) begin
          ∙ ap (λ k. take (k - get_or (from ∷ ends) n 0) (drop (get_or (from ∷ ends) n 0) items)) next;
    }

-- ---- one more list

ends_push : (from : ℕ) (ends : List ℕ) (end more : ℕ) → AreEnds from ends end → end ≤ more → AreEnds from (ends ++ more ∷ []) more
ends_push from [] end more h le = (omega (arith, h, le), refl)
ends_push from (next ∷ ends) end more h le = (h.0, ends_push next ends end more h.1 le)

pub starts_push : (starts : List ℕ) (end more : ℕ) → AreStarts starts end → end ≤ more → AreStarts (starts ++ more ∷ []) more
starts_push [] end more h le = absurd h
starts_push (from ∷ ends) end more h le = (h.0, ends_push from ends end more h.1 le)

cut_from_push : {T : Type 0} (from : ℕ) (ends : List ℕ) (items list : List T) (end : ℕ) → AreEnds from ends end → end ≡ from + length items → cut_from from (ends ++ (end + length list) ∷ []) (items ++ list) ≡ cut_from from ends items ++ list ∷ []
cut_from_push {T} from [] items list end h e =
    let none : length items ≡ 0 = omega (arith, h, e) in
    let many : length list ≤ (end + length list) - from = omega (arith, h) in
    ap (λ (xs : List T). take ((end + length list) - from) (xs ++ list) ∷ []) (nil_from_length items none)
    ∙ ap (λ (xs : List T). xs ∷ []) (take_all ((end + length list) - from) list many)
cut_from_push {T} from (next ∷ ends) items list end h e =
    let far : (next ≤ get_or (next ∷ ends) 0 0) × (get_or (next ∷ ends) 0 0 ≤ end) = ends_from next ends end h.1 0 (omega arith) in
    let short : next - from ≤ length items = omega (arith, far.1, e) in
    let left : length (drop (next - from) items) ≡ length items - (next - from) = length-drop (next - from) items in
    let same : end ≡ next + length (drop (next - from) items) = omega (arith, left, short, e, h.0) in
    ap (λ (xs : List T). xs ∷ cut_from next (ends ++ (end + length list) ∷ []) (drop (next - from) (items ++ list))) (take-append-le (next - from) items list short)
    ∙ ap (λ (xs : List T). take (next - from) items ∷ cut_from next (ends ++ (end + length list) ∷ []) xs) (drop-append-le (next - from) items list short)
    ∙ ap (λ (xss : List (List T)). take (next - from) items ∷ xss) (cut_from_push next ends (drop (next - from) items) list end h.1 same)

pub cut_push : {T : Type 0} (starts : List ℕ) (items list : List T) → AreStarts starts (length items) → cut (starts ++ (length items + length list) ∷ []) (items ++ list) ≡ cut starts items ++ list ∷ []
cut_push [] items list h = absurd h
cut_push (from ∷ ends) items list h = cut_from_push from ends items list (length items) h.1 (omega (arith, h.0))
