-- The keeps of a version after events: each was a keep before them, or stands from the last sequence of then on. So a
-- compaction of its runs knows all those that it has to know.
use Rattle.std.proofs.Common.{◌≡◌, ◌⊎◌, inl, inr, ⊎_elim, ℕ, zero, suc, ◌≤◌, List, [], ◌∷◌, Contains, fold, arith}
use Rattle.std.specs.List.{AllByRecursion}
use Rattle.uc_oper.specs.Operation.{Operation}
use Rattle.uc_version_state.specs.declared.stretch.Stretch.{Stretch}
use Rattle.uc_version_state.specs.Versions.{PlacedRun, Stored, IsVersion, contents_of}
use Rattle.uc_compact.specs.Inputs.{high_of}
use Rattle.uc_version_state.specs.Installs.{KeepsKnown, terms_of, part_of}
use Rattle.uc_version_state.specs.declared.event.Event.{Event}
use Rattle.uc_version_state.specs.declared.event.Event.TheVariants.{Installed, Flushed, Kept, Released}
use Rattle.uc_version_state.specs.Histories.{MayHappen, MayFollow, after}
use Rattle.uc_version_state.proofs.Memtables.{last_above}
use Rattle.uc_version_state.proofs.Snapped.{among_kept, among_released}
use Rattle.uc_version_compact.specs.Compacting.{compaction_at}

-- each keep of a version is one of some, or stands from a sequence on
abbrev pub KeepsSince : List ℕ → ℕ → Stored → Type 0
KeepsSince keeps last v = (keep : ℕ) → Contains v.keeps keep → Contains keeps keep ⊎ (last ≤ keep)

-- the last sequence never falls
last_rises : (m : Operation) (v : Stored) (e : Event) → MayHappen m v e → v.last ≤ (after v e).last
last_rises m v (Installed i) may = omega arith
last_rises m v (Flushed ws) may = last_above v.last ws may.rising
last_rises m v Kept may = omega arith
last_rises m v (Released seq) may = omega arith

module _ (m : Operation) (keeps : List ℕ) (last : ℕ) where
  since_event : (v : Stored) (e : Event) → last ≤ v.last → KeepsSince keeps last v → KeepsSince keeps last (after v e)
  since_event v (Installed i) low since = since
  since_event v (Flushed ws) low since = since
  since_event v Kept low since = λ keep has.
      ⊎_elim (λ (there : Contains v.keeps keep). since keep there) (λ (e : keep ≡ v.last). inr (omega (arith, e, low)))
      (among_kept v.last v.keeps keep has)
  since_event v (Released seq) low since = λ keep has. since keep (among_released seq v.keeps keep has)

  since_events : (v : Stored) (es : List Event) → MayFollow m v es → last ≤ v.last → KeepsSince keeps last v → KeepsSince keeps last (fold after v es)
  since_events v [] may low since = since
  since_events v (e ∷ es) may low since =
      since_events (after v e) es may.1 (let up = last_rises m v e may.0 in omega (arith, low, up)) (since_event v e low since)

-- the greatest sequence of neighbouring runs is below what all of them are below
high_below : (runs : List PlacedRun) (first count last : ℕ) → AllByRecursion (λ r. r.high ≤ last) (contents_of runs) → high_of (contents_of (part_of first count runs)) ≤ last
high_below [] zero zero last below = omega arith
high_below [] zero (suc count) last below = omega arith
high_below [] (suc first) zero last below = omega arith
high_below [] (suc first) (suc count) last below = omega arith
high_below (p ∷ ps) zero zero last below = omega arith
high_below (p ∷ ps) zero (suc count) last below = below.0
high_below (p ∷ ps) (suc first) count last below = high_below ps first count last below.1

module _ (m : Operation) (v : Stored) (is_version : IsVersion v) (s : Stretch) (es : List Event) (follow : MayFollow m v es) where
  pub keeps_known : KeepsKnown (fold after v es).keeps (terms_of (compaction_at v s))
  keeps_known = λ keep has lt.
      ⊎_elim (λ (there : Contains v.keeps keep). there)
      (λ (le : v.last ≤ keep). let high = high_below v.runs s.first s.count v.last is_version.below in absurd (omega (arith, le, lt, high)))
      (since_events m v.keeps v.last v es follow (omega arith) (λ k there. inl there) keep has)
