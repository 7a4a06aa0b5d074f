-- Claimed runs that stand in a later version by their ids, and what was compacted of them.
use Rattle.std.proofs.Common.{◌≡◌, ◌≤◌, List, Contains, length, fold, sym, ap, subst}
use Rattle.std.specs.Prelude.{Option, Some, None, IfNone}
use Rattle.std.specs.List.{AllByRecursion}
use mathlib.Core.List.{IsPrefix}
use Rattle.uc_oper.specs.Operation.{Operation}
use Rattle.uc_compact.specs.Inputs.{Compaction, Stand}
use Rattle.uc_version_state.specs.Versions.{PlacedRun, Stored, IsVersion, contents_of, ids_of}
use Rattle.uc_version_state.specs.Installs.{MayInstall, standing, terms_of}
use Rattle.uc_version_state.specs.Refusals.{AreInPlace, AreReplaceable}
use Rattle.uc_version_state.specs.Histories.{after}
use Rattle.uc_version_state.specs.declared.event.Event.{Event}
use Rattle.uc_version_compact.specs.Compacting.{IsInstallable, install_for}
use Rattle.uc_share.specs.Installing.{MayInstallHere}
use Rattle.uc_share.specs.Fronts.{Moment}
use Rattle.uc_share.proofs.Claimed.{part_within}
use Rattle.uc_share.specs.Claims.{Claim, claimed_runs}

-- the law that runs which stand in a later version by their ids are those that were claimed
abbrev pub Stay : Type 0
Stay = (base : Stored) (seen now : List Event) (claimed : List PlacedRun) → IsVersion (fold after base seen)
    → IsPrefix seen now → AllByRecursion (λ run. Contains (fold after base seen).runs run) claimed
    → AreInPlace (fold after base now) (ids_of claimed) → standing (ids_of claimed) (fold after base now).runs ≡ claimed

-- the law that what was compacted of claimed runs may be installed where these stand
abbrev pub Fit : Operation → Type 0
Fit m = (v : Stored) (claimed : List PlacedRun) (made : Compaction) → 2 ≤ length claimed → Stand made.inputs made.keeps
    → contents_of (standing (ids_of claimed) v.runs) ≡ contents_of claimed → IsInstallable v claimed made → MayInstall m v (install_for m claimed made)

pub may_install : (m : Operation) (base : Stored) (h : Claim) (now : Moment) (made : Compaction) → Stay → Fit m
    → h.pin.version ≡ fold after base h.pin.events → now.version ≡ fold after base now.events → IsVersion h.pin.version
    → IsPrefix h.pin.events now.events → 2 ≤ length (claimed_runs h) → Stand made.inputs made.keeps
    → made.inputs ≡ contents_of (claimed_runs h) → AreReplaceable now.version (ids_of (claimed_runs h)) (terms_of made)
    → MayInstallHere m now.version (claimed_runs h) made
may_install m base h now made stay fit pinned shown is before two stand inputs there =
    let claimed = claimed_runs h in
    let has : AllByRecursion (λ (run : PlacedRun). Contains h.pin.version.runs run) claimed = part_within h.pin.version.runs h.stretch.first h.stretch.count in
    let same : standing (ids_of claimed) (fold after base now.events).runs ≡ claimed =
    stay base h.pin.events now.events claimed (subst IsVersion pinned is) before
    (subst (λ (v : Stored). AllByRecursion (λ (run : PlacedRun). Contains v.runs run) claimed) pinned has)
    (subst (λ (v : Stored). AreInPlace v (ids_of claimed)) shown there.in_place) in
    let same_now : standing (ids_of claimed) now.version.runs ≡ claimed = subst (λ (v : Stored). standing (ids_of claimed) v.runs ≡ claimed) (sym shown) same in
    let installable : IsInstallable now.version claimed made = record { inputs = inputs; there = there } in record {
      same = same_now;
      installable = installable;
      may = fit now.version claimed made two stand (ap contents_of same_now) installable;
    }

-- a fact of a version that can install it
pub if_none : {R : Type 0} (P Q : Type 0) (r : Option R) → (P → Q) → IfNone r P → IfNone r Q
if_none P Q None f p = f p
if_none P Q (Some r) f p = tt
