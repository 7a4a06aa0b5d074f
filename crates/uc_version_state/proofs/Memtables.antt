-- The writes of memtables, one after the other.
use Rattle.std.proofs.Common.{◌≡◌, ◌≢◌, ℕ, ◌<◌, ◌≤◌, Bool, true, false, cond, leb, List, [], ◌∷◌, ◌++◌, refl, sym, ap, ◌∙◌, subst, arith}
use Rattle.std.specs.Prelude.{◌^◌, ⊤}
use Rattle.std.specs.List.{AllByRecursion, flat_map}
use Rattle.std.proofs.lemmas.List.{append_assoc}
use Rattle.uc_bytes.specs.declared.write.Write.{Write}
use Rattle.uc_batch.specs.Rising.{IsRising, last_of}
use Rattle.uc_run.specs.Size.{memtable_size}
use Rattle.uc_version_state.specs.Flushes.{memtables_from, memtables}

-- all parts, concatenated
abbrev pub joined : List (List Write) → List Write
joined parts = flat_map (λ (part : List Write). part) parts

module _ (limit : ℕ) where
  next_joined : (held ws : List Write) (w : Write) (b : Bool) → joined (memtables_from limit [] ws) ≡ ws → joined (memtables_from limit (held ++ w ∷ []) ws) ≡ (held ++ w ∷ []) ++ ws →
      joined (cond b ((held ++ w ∷ []) ∷ memtables_from limit [] ws) (memtables_from limit (held ++ w ∷ []) ws)) ≡ held ++ w ∷ ws
  next_joined held ws w true fresh more = ap (λ (vs : List Write). (held ++ w ∷ []) ++ vs) fresh ∙ append_assoc held (w ∷ []) ws
  next_joined held ws w false fresh more = more ∙ append_assoc held (w ∷ []) ws

  pub joined_from : (held ws : List Write) → joined (memtables_from limit held ws) ≡ held ++ ws
  joined_from [] [] = refl
  joined_from (h ∷ hs) [] = refl
  joined_from held (w ∷ ws) =
      next_joined held ws w (leb limit (memtable_size (held ++ w ∷ []))) (joined_from [] ws) (joined_from (held ++ w ∷ []) ws)

  snoc_some : (held : List Write) (w : Write) → held ++ w ∷ [] ≢ []
  snoc_some [] w e = absurd cc
  snoc_some (h ∷ hs) w e = absurd cc

  next_some : (held ws : List Write) (w : Write) (b : Bool) → AllByRecursion (λ (p : List Write). p ≢ []) (memtables_from limit [] ws) → AllByRecursion (λ (p : List Write). p ≢ []) (memtables_from limit (held ++ w ∷ []) ws) →
      AllByRecursion (λ (p : List Write). p ≢ []) (cond b ((held ++ w ∷ []) ∷ memtables_from limit [] ws) (memtables_from limit (held ++ w ∷ []) ws))
  next_some held ws w true fresh more = (snoc_some held w, fresh)
  next_some held ws w false fresh more = more

  pub some_from : (held ws : List Write) → AllByRecursion (λ (p : List Write). p ≢ []) (memtables_from limit held ws)
  some_from [] [] = tt
  some_from (h ∷ hs) [] = ((λ e. absurd cc), tt)
  some_from held (w ∷ ws) = next_some held ws w (leb limit (memtable_size (held ++ w ∷ []))) (some_from [] ws) (some_from (held ++ w ∷ []) ws)

-- parts with writes in them, which rise from a sequence on
abbrev pub PartsRise : ℕ → List (List Write) → Type 0
PartsRise last [] = ⊤
PartsRise last (p ∷ ps) = (p ≢ []) × IsRising last p × PartsRise (last_of last p) ps

rising-front : (last : ℕ) (ws vs : List Write) → IsRising last (ws ++ vs) → IsRising last ws
rising-front last [] vs h = tt
rising-front last (w ∷ ws) vs h = (h.0, h.1, rising-front w.seq ws vs h.2)

rising-behind : (last : ℕ) (ws vs : List Write) → IsRising last (ws ++ vs) → IsRising (last_of last ws) vs
rising-behind last [] vs h = h
rising-behind last (w ∷ ws) vs h = rising-behind w.seq ws vs h.2

pub parts_rise : (last : ℕ) (ps : List (List Write)) → AllByRecursion (λ (p : List Write). p ≢ []) ps → IsRising last (joined ps) → PartsRise last ps
parts_rise last [] some h = tt
parts_rise last (p ∷ ps) some h = (some.0, rising-front last p (joined ps) h, parts_rise (last_of last p) ps some.1 (rising-behind last p (joined ps) h))

pub memtables_rise : (limit last : ℕ) (ws : List Write) → IsRising last ws → PartsRise last (memtables limit ws)
memtables_rise limit last ws h = parts_rise last (memtables limit ws) (some_from limit [] ws) (subst (IsRising last) (sym (joined_from limit [] ws)) h)

-- the last sequence number of concatenated parts
pub last-joined : (last : ℕ) (p : List Write) (ps : List (List Write)) → last_of last (joined (p ∷ ps)) ≡ last_of (last_of last p) (joined ps)
last-joined last [] ps = refl
last-joined last (w ∷ ws) ps = last-joined w.seq ws ps

pub rising_from_any : (last : ℕ) (ws : List Write) → IsRising last ws → IsRising 0 ws
rising_from_any last [] h = tt
rising_from_any last (w ∷ ws) h = ((let lt : last < w.seq = h.0 in omega (arith, lt)), h.1, h.2)

-- the last of some writes doesn't hang on what is before them
pub last_of_some : (last : ℕ) (ws : List Write) → ws ≢ [] → last_of 0 ws ≡ last_of last ws
last_of_some last [] some = absurd (some refl)
last_of_some last (w ∷ ws) some = refl

-- sequences rise to the last, which is below 2^56
pub last_above : (last : ℕ) (ws : List Write) → IsRising last ws → last ≤ last_of last ws
last_above last [] h = omega arith
last_above last (w ∷ ws) h = let le = last_above w.seq ws h.2 in let lt : last < w.seq = h.0 in omega (arith, le, lt)

pub last_limit : (last : ℕ) (ws : List Write) → last < 2 ^ 56 → IsRising last ws → last_of last ws < 2 ^ 56
last_limit last [] lt h = lt
last_limit last (w ∷ ws) lt h = last_limit w.seq ws h.1 h.2
