-- Writes that are prepared one by one.
use Rattle.std.proofs.Common.{◌≡◌, ◌-◌, ◌^◌, ◌<◌, List, [], ◌∷◌, ◌++◌, append_assoc, refl, sym, ap, ◌∙◌, subst}
use Rattle.std.proofs.lemmas.List.{append-nil}
use Rattle.uc_bytes.specs.declared.write.Write.{Write}
use Rattle.uc_batch.specs.Rising.{IsRising, last_of}
use Rattle.uc_batch.proofs.Rises.{last_of-append}
use Rattle.uc_run.specs.Size.{memtable_size}
use Rattle.uc_memtable.specs.Gathering.{Gathered}

-- more waits
abbrev pub with_more : Gathered → List Write → Gathered
with_more g ws = record g { waiting = g.waiting ++ ws }

-- Some writes were prepared, and the rest rises after them.
abbrev pub HasPrepared : Gathered → Gathered → List Write → List Write → List Write → Type 0
HasPrepared start now writes done rest =
    (now ≡ with_more start done) × (writes ≡ done ++ rest) × IsRising (last_of 0 (now.shown ++ now.waiting)) rest × (memtable_size (now.shown ++ now.waiting) < 2 ^ 64 - 1)

pub none_prepared : (start : Gathered) (writes : List Write) → IsRising (last_of 0 (start.shown ++ start.waiting)) writes → memtable_size (start.shown ++ start.waiting) < 2 ^ 64 - 1 → HasPrepared start start writes [] writes
none_prepared start writes rising small = (ap (λ (ws : List Write). record start { waiting = ws }) (sym (append-nil start.waiting)), refl, rising, small)

module _ (start now : Gathered) (writes done rest : List Write) (has : HasPrepared start now writes done rest) (w : Write) (later : List Write) (next : rest ≡ w ∷ later) where
  -- the next one comes after those before it
  pub comes_next : IsRising (last_of 0 (now.shown ++ now.waiting)) (w ∷ later)
  comes_next = subst (λ (ws : List Write). IsRising (last_of 0 (now.shown ++ now.waiting)) ws) next has.2

  pub one_more : (new : Gathered) → new ≡ with_more now (w ∷ []) → memtable_size (new.shown ++ new.waiting) < 2 ^ 64 - 1 → HasPrepared start new writes (done ++ w ∷ []) later
  one_more new is small =
      let last : last_of 0 (new.shown ++ new.waiting) ≡ w.seq =
      ap (λ (g : Gathered). last_of 0 (g.shown ++ g.waiting)) is
      ∙ ap (last_of 0) (sym (append_assoc now.shown now.waiting (w ∷ [])))
      ∙ last_of-append 0 (now.shown ++ now.waiting) (w ∷ []) in (
        is ∙ ap (λ (g : Gathered). with_more g (w ∷ [])) has.0 ∙ ap (λ (ws : List Write). record start { waiting = ws }) (append_assoc start.waiting done (w ∷ [])),
        has.1 ∙ ap (λ (ws : List Write). done ++ ws) next ∙ sym (append_assoc done (w ∷ []) later),
        subst (λ n. IsRising n later) (sym last) comes_next.2,
        small,
      )

-- all of them
pub all_prepared : (start now : Gathered) (writes done rest : List Write) → HasPrepared start now writes done rest → rest ≡ [] → now ≡ with_more start writes
all_prepared start now writes done rest has none =
    let all : done ≡ writes = sym (has.1 ∙ ap (λ (ws : List Write). done ++ ws) none ∙ append-nil done) in
    has.0 ∙ ap (λ (ws : List Write). with_more start ws) all
