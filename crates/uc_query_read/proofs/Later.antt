-- Later writes of a history are above all that was kept before.
use Rattle.std.proofs.Common.{◌≡◌, ℕ, ◌<◌, ◌≤◌, List, [], ◌∷◌, ◌++◌, Contains, ⊎_elim, fold, refl, sym, ap, ◌∙◌, subst, arith}
use Rattle.std.specs.List.{AllByRecursion, flat_map}
use Rattle.std.proofs.lemmas.List.{append_assoc}
use Rattle.std.proofs.lemmas.List.Sums.{fold-append}
use Rattle.std.proofs.lemmas.Grind.{flat_map-append}
use Rattle.uc_oper.specs.Operation.{Operation}
use Rattle.uc_bytes.specs.declared.write.Write.{Write}
use Rattle.uc_batch.specs.Rising.{IsRising, last_of}
use Rattle.uc_model.specs.Meaning.{value_of}
use Rattle.uc_model.proofs.Members.{contains_cases, contains_nothing}
use Rattle.uc_version_state.specs.Versions.{Stored}
use Rattle.uc_version_state.specs.Openings.{opened}
use Rattle.uc_version_state.specs.declared.event.Event.{Event}
use Rattle.uc_version_state.specs.declared.event.Event.TheVariants.{Installed, Flushed, Kept, Released}
use Rattle.uc_version_state.specs.Histories.{KeepsStay, after, writes_brought, History, version_after, writes_given}

-- ---- writes that rise

all_above : (low : ℕ) (ws : List Write) (at : ℕ) → IsRising low ws → at ≤ low → AllByRecursion (λ w. at < w.seq) ws
all_above low [] at rise le = tt
all_above low (w ∷ ws) at rise le = (omega (arith, rise.0), all_above w.seq ws at rise.2 (omega (arith, rise.0)))

-- those after others are above the last of these
later_above : (low : ℕ) (ws later : List Write) (at : ℕ) → IsRising low (ws ++ later) → at ≤ last_of low ws → AllByRecursion (λ w. at < w.seq) later
later_above low [] later at rise le = all_above low later at rise le
later_above low (w ∷ ws) later at rise le = later_above w.seq ws later at rise.2 le

kept_below : (last keep : ℕ) (keeps : List ℕ) → AllByRecursion (λ k. k ≤ last) keeps → Contains keeps keep → keep ≤ last
kept_below last keep [] below there = absurd (contains_nothing keep there)
kept_below last keep (k ∷ ks) below there =
    ⊎_elim (λ (same : k ≡ keep). subst (λ (n : ℕ). n ≤ last) same below.0) (λ rest. kept_below last keep ks below.1 rest) (contains_cases k keep ks there)

-- ---- a history followed by more events

abbrev longer : History → List Event → History
longer h events = record h { events = h.events ++ events }

written_behind : (h : History) (events : List Event) → writes_given (longer h events) ≡ writes_given h ++ flat_map writes_brought events
written_behind h events =
    ap (λ (ws : List Write). h.opening.writes ++ ws) (flat_map-append writes_brought h.events events)
    ∙ sym (append_assoc h.opening.writes (flat_map writes_brought h.events) (flat_map writes_brought events))

keeps_along : (v : Stored) (events : List Event) → KeepsStay events → (fold after v events).keeps ≡ v.keeps
keeps_along v [] stay = refl
keeps_along v (Installed i ∷ es) stay = keeps_along (after v (Installed i)) es stay
keeps_along v (Flushed ws ∷ es) stay = keeps_along (after v (Flushed ws)) es stay
keeps_along v (Kept ∷ es) stay = absurd stay
keeps_along v (Released seq ∷ es) stay = absurd stay

-- if no keep comes and none goes, it has the same keeps
pub keeps_behind : (h : History) (events : List Event) → KeepsStay events → (version_after (longer h events)).keeps ≡ (version_after h).keeps
keeps_behind h events stay =
    ap (λ (v : Stored). v.keeps) (fold-append after (opened h.opening) h.events events) ∙ keeps_along (version_after h) events stay

-- at what was kept before, each key has the value that it had, where writes above a sequence change nothing that is read there
pub value_behind : (m : Operation) (h : History) (events : List Event) (key : List ℕ) (at : ℕ) → IsRising 0 (writes_given (longer h events)) → last_of 0 (writes_given h) ≡ (version_after h).last
    → AllByRecursion (λ keep. keep ≤ (version_after h).last) (version_after h).keeps → Contains (version_after h).keeps at
    → ((ws later : List Write) (key : List ℕ) (at : ℕ) → AllByRecursion (λ w. at < w.seq) later → value_of m (ws ++ later) key at ≡ value_of m ws key at)
    → value_of m (writes_given (longer h events)) key at ≡ value_of m (writes_given h) key at
value_behind m h events key at rise last below there nothing =
    let within : at ≤ last_of 0 (writes_given h) = subst (λ (n : ℕ). at ≤ n) (sym last) (kept_below (version_after h).last at (version_after h).keeps below there) in
    let above = later_above 0 (writes_given h) (flat_map writes_brought events) at (subst (IsRising 0) (written_behind h events) rise) within in
    ap (λ (ws : List Write). value_of m ws key at) (written_behind h events)
    ∙ nothing (writes_given h) (flat_map writes_brought events) key at above
