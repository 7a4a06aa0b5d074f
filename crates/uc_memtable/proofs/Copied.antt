-- Writes that are copied one by one.
use Rattle.std.proofs.Common.{◌≡◌, ℕ, ◌+◌, ◌<◌, ◌≤◌, List, [], ◌∷◌, ◌++◌, length, get_or, take, drop, Some, append_assoc, ap, sym, ◌∙◌, subst, arith}
use Rattle.std.specs.List.{slice_get}
use Rattle.std.proofs.lemmas.List.{drop_more, drop-append-le, get_or-take, length-take-le, take_more}
use Rattle.std.proofs.lemmas.Option.{get_or_from_slice_get}
use Rattle.uc_bytes.specs.declared.write.Write.{Write}
use Rattle.uc_batch.specs.Rising.{IsRising, last_of}
use Rattle.uc_batch.proofs.Rises.{last_of-append}
use Rattle.uc_memtable.specs.Gathering.{Gathering}

-- more waits
abbrev with_more : Gathering → List Write → Gathering
with_more g ws = record { shown = g.shown; waiting = g.waiting ++ ws }

-- The writes from one place to below another are prepared, and the rest up to an end rises after them.
abbrev pub HasCopied : Gathering → Gathering → List Write → ℕ → ℕ → ℕ → Type 0
HasCopied start now ws first place end =
    (now ≡ record { shown = start.shown; waiting = start.waiting ++ drop first (take place ws) }) × IsRising (last_of 0 (now.shown ++ now.waiting)) (drop place (take end ws))

module _ (start now : Gathering) (ws : List Write) (first place end : ℕ) (has : HasCopied start now ws first place end)
    (from : first ≤ place) (below : place < end) (within : end ≤ length ws) (w : Write) (some : slice_get ws place ≡ Some w) where
  here : get_or ws place w ≡ w
  here = get_or_from_slice_get ws place w w some

  next : drop place (take end ws) ≡ w ∷ drop (place + 1) (take end ws)
  next =
      let long : length (take end ws) ≡ end = length-take-le end ws within in
      drop_more (take end ws) place w (omega (arith, long))
      ∙ ap (λ (v : Write). v ∷ drop (place + 1) (take end ws)) (get_or-take end ws place w below ∙ here)

  -- the next one comes after those before it
  pub comes_next : IsRising (last_of 0 (now.shown ++ now.waiting)) (w ∷ drop (place + 1) (take end ws))
  comes_next = subst (λ (us : List Write). IsRising (last_of 0 (now.shown ++ now.waiting)) us) next has.1

  more : drop first (take place ws) ++ w ∷ [] ≡ drop first (take (place + 1) ws)
  more =
      let long : length (take place ws) ≡ place = length-take-le place ws (omega arith) in
      sym (drop-append-le first (take place ws) (w ∷ []) (omega (arith, long)))
      ∙ ap (λ (v : Write). drop first (take place ws ++ v ∷ [])) (sym here)
      ∙ ap (λ (us : List Write). drop first us) (sym (take_more ws place w (omega arith)))

  pub one_copied : (new : Gathering) → new ≡ record { shown = now.shown; waiting = now.waiting ++ w ∷ [] } → HasCopied start new ws first (place + 1) end
  one_copied new is =
      let last : last_of 0 (new.shown ++ new.waiting) ≡ w.seq =
      ap (λ (g : Gathering). last_of 0 (g.shown ++ g.waiting)) is
      ∙ ap (last_of 0) (sym (append_assoc now.shown now.waiting (w ∷ [])))
      ∙ last_of-append 0 (now.shown ++ now.waiting) (w ∷ []) in (
        is
            ∙ ap (λ (g : Gathering). with_more g (w ∷ [])) has.0
            ∙ ap (λ (us : List Write). record { shown = start.shown; waiting = us }) (append_assoc start.waiting (drop first (take place ws)) (w ∷ []) ∙ ap (λ (us : List Write). start.waiting ++ us) more),
        subst (λ n. IsRising n (drop (place + 1) (take end ws))) (sym last) comes_next.2,
      )
