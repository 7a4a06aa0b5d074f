-- When a memtable is full.
use Rattle.std.proofs.Common.{◌≡◌, ◌≢◌, ℕ, ◌<◌, ◌≤◌, min, Bool, true, false, cond, leb, leb-true, leb-false, List, [], ◌∷◌, ◌++◌, length, length-append, take, take_at, Contains, sum_by, refl, sym, ap, ◌∙◌, subst, arith}
use Rattle.std.specs.Prelude.{◌^◌, ◌-◌, ⊤}
use Rattle.std.specs.List.{AllByRecursion}
use Rattle.std.proofs.lemmas.List.Elements.{All-contains, All-from_recursion}
use Rattle.std.proofs.lemmas.List.Sums.{sum_by-append}
use Rattle.std.proofs.Math.Nat.{min-le_left, min-le_right, le-min}
use Rattle.uc_bytes.specs.declared.write.Write.{Write}
use Rattle.uc_run.specs.Size.{write_size, memtable_size}
use Rattle.uc_version_state.specs.Flushes.{memtables_from, memtables}
use Rattle.uc_version_state.proofs.Memtables.{some_from}

-- what holds of all of a list holds of each element
pub of_each : {X : Type 0} (P : X → Type 0) (xs : List X) → AllByRecursion P xs → (x : X) → Contains xs x → P x
of_each P xs all x has = All-contains P xs x (All-from_recursion P xs all) has

held_mono : (a b most : ℕ) → a ≤ b → min a most ≤ min b most
held_mono a b most le = le-min (let left = min-le_left a most in omega (arith, left, le)) (min-le_right a most)

-- more writes make no memtable smaller
pub grows_by : (ws more : List Write) → memtable_size ws ≤ memtable_size (ws ++ more)
grows_by ws more = held_mono (sum_by write_size ws) (sum_by write_size (ws ++ more)) (2 ^ 64 - 1) (let e = sum_by-append write_size ws more in omega (arith, e))

grows : (ws : List Write) (w : Write) → memtable_size ws ≤ memtable_size (ws ++ w ∷ [])
grows ws w = grows_by ws (w ∷ [])

same_front : (ws vs : List Write) (w v : Write) → ws ++ w ∷ [] ≡ vs ++ v ∷ [] → ws ≡ vs
same_front ws vs w v e =
    let a = length-append ws (w ∷ []) in
    let b = length-append vs (v ∷ []) in
    let l = ap (λ (us : List Write). length us) e in
    sym (take_at ws (w ∷ []) (length ws) refl) ∙ ap (λ (us : List Write). take (length ws) us) e ∙ take_at vs (v ∷ []) (length ws) (omega (arith, a, b, l))

module _ (limit : ℕ) where
  -- each part with another after it has reached the limit
  abbrev AreFull : List (List Write) → Type 0
  AreFull [] = ⊤
  AreFull (p ∷ ps) = (ps ≢ [] → limit ≤ memtable_size p) × AreFull ps

  next_full : (held ws : List Write) (w : Write) (b : Bool) → leb limit (memtable_size (held ++ w ∷ [])) ≡ b → AreFull (memtables_from limit [] ws) → AreFull (memtables_from limit (held ++ w ∷ []) ws) →
      AreFull (cond b ((held ++ w ∷ []) ∷ memtables_from limit [] ws) (memtables_from limit (held ++ w ∷ []) ws))
  next_full held ws w true e fresh more = ((λ some. leb-true limit (memtable_size (held ++ w ∷ [])) e), fresh)
  next_full held ws w false e fresh more = more

  full_from : (held ws : List Write) → AreFull (memtables_from limit held ws)
  full_from [] [] = tt
  full_from (h ∷ hs) [] = ((λ some. absurd (some refl)), tt)
  full_from held (w ∷ ws) = next_full held ws w (leb limit (memtable_size (held ++ w ∷ []))) refl (full_from [] ws) (full_from (held ++ w ∷ []) ws)

  full_at : (front : List (List Write)) (part next : List Write) (behind : List (List Write)) → AreFull (front ++ part ∷ next ∷ behind) → limit ≤ memtable_size part
  full_at [] part next behind h = h.0 (λ e. absurd cc)
  full_at (p ∷ ps) part next behind h = full_at ps part next behind h.1

  -- without its last write a part hasn't reached the limit
  abbrev pub IsShort : List Write → Type 0
  IsShort part = (front : List Write) (w : Write) → part ≡ front ++ w ∷ [] → memtable_size front < limit

  short_rest : (held : List Write) → memtable_size held < limit → IsShort held
  short_rest held lt front w e =
      let le : memtable_size front ≤ memtable_size held = subst (λ (ws : List Write). memtable_size front ≤ memtable_size ws) (sym e) (grows front w) in
      omega (arith, lt, le)

  next_short : (held ws : List Write) (w : Write) (b : Bool) → leb limit (memtable_size (held ++ w ∷ [])) ≡ b → memtable_size held < limit → AllByRecursion IsShort (memtables_from limit [] ws) →
      (memtable_size (held ++ w ∷ []) < limit → AllByRecursion IsShort (memtables_from limit (held ++ w ∷ []) ws)) →
      AllByRecursion IsShort (cond b ((held ++ w ∷ []) ∷ memtables_from limit [] ws) (memtables_from limit (held ++ w ∷ []) ws))
  next_short held ws w true e lt fresh more =
      ((λ front v same. subst (λ (us : List Write). memtable_size us < limit) (same_front held front w v same) lt), fresh)
  next_short held ws w false e lt fresh more = more (leb-false limit (memtable_size (held ++ w ∷ [])) e)

  short_from : (held ws : List Write) → 1 ≤ limit → memtable_size held < limit → AllByRecursion IsShort (memtables_from limit held ws)
  short_from [] [] one lt = tt
  short_from (h ∷ hs) [] one lt = (short_rest (h ∷ hs) lt, tt)
  short_from held (w ∷ ws) one lt =
      next_short held ws w (leb limit (memtable_size (held ++ w ∷ []))) refl lt (short_from [] ws one (omega (arith, one))) (short_from (held ++ w ∷ []) ws one)

  pub each_some : (writes part : List Write) → Contains (memtables limit writes) part → part ≢ []
  each_some writes part has = of_each (λ (p : List Write). p ≢ []) (memtables limit writes) (some_from limit [] writes) part has

  pub each_full : (writes : List Write) (front : List (List Write)) (part next : List Write) (behind : List (List Write)) → memtables limit writes ≡ front ++ part ∷ next ∷ behind → limit ≤ memtable_size part
  each_full writes front part next behind e = full_at front part next behind (subst AreFull e (full_from [] writes))

  pub each_short : (writes part : List Write) → 1 ≤ limit → Contains (memtables limit writes) part → IsShort part
  each_short writes part one has = of_each IsShort (memtables limit writes) (short_from [] writes one (omega (arith, one))) part has
