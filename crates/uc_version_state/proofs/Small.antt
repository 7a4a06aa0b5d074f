-- Writes that fill one memtable.
use Rattle.std.proofs.Common.{◌≡◌, ◌≢◌, ℕ, ◌<◌, ◌≤◌, Bool, true, false, cond, leb, leb-true, List, [], ◌∷◌, ◌++◌, append_assoc, refl, sym, ap, ◌∙◌, subst, arith}
use Rattle.std.proofs.lemmas.List.{append-nil}
use Rattle.uc_bytes.specs.declared.write.Write.{Write}
use Rattle.uc_run.specs.Size.{memtable_size}
use Rattle.uc_version_state.specs.Flushes.{with_rest, memtables_from, memtables}
use Rattle.uc_version_state.proofs.Filling.{grows_by}

-- a part that hasn't reached the limit takes the next write too
goes_on : (limit : ℕ) (held : List Write) (full more rest : List (List Write)) (b : Bool) → leb limit (memtable_size held) ≡ b → memtable_size held < limit → more ≡ rest → cond b full more ≡ rest
goes_on limit held full more rest true e lt same = let le = leb-true limit (memtable_size held) e in absurd (omega (arith, lt, le))
goes_on limit held full more rest false e lt same = same

one_from : (limit : ℕ) (held ws : List Write) → memtable_size (held ++ ws) < limit → memtables_from limit held ws ≡ with_rest (held ++ ws)
one_from limit held [] lt = ap with_rest (sym (append-nil held))
one_from limit held (w ∷ ws) lt =
    let whole : (held ++ w ∷ []) ++ ws ≡ held ++ w ∷ ws = append_assoc held (w ∷ []) ws in
    let small : memtable_size ((held ++ w ∷ []) ++ ws) < limit = subst (λ (us : List Write). memtable_size us < limit) (sym whole) lt in
    let le = grows_by (held ++ w ∷ []) ws in
    let below : memtable_size (held ++ w ∷ []) < limit = omega (arith, le, small) in
    goes_on limit (held ++ w ∷ []) ((held ++ w ∷ []) ∷ memtables_from limit [] ws) (memtables_from limit (held ++ w ∷ []) ws) (with_rest (held ++ w ∷ ws)) (leb limit (memtable_size (held ++ w ∷ []))) refl below
    (one_from limit (held ++ w ∷ []) ws small ∙ ap with_rest whole)

alone : (ws : List Write) → ws ≢ [] → with_rest ws ≡ ws ∷ []
alone [] some = absurd (some refl)
alone (w ∷ ws) some = refl

pub one_memtable : (limit : ℕ) (ws : List Write) → ws ≢ [] → memtable_size ws < limit → memtables limit ws ≡ ws ∷ []
one_memtable limit ws some lt = one_from limit [] ws lt ∙ alone ws some
