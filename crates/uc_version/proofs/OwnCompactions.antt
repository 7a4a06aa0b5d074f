-- A claim's own compaction, at any later time: no keep and no run after it makes its install fail.
use Rattle.std.proofs.Common.{◌≡◌, ◌+◌, ◌<◌, ◌≤◌, true, List, length, fold, sym, subst, arith}
use Rattle.uc_oper.specs.Operation.{Operation}
use Rattle.uc_compact.specs.Inputs.{Compaction}
use Rattle.uc_version_state.specs.declared.stretch.Stretch.{Stretch}
use Rattle.uc_version_state.specs.Versions.{PlacedRun, Stored, IsVersion, ids_of}
use Rattle.uc_version_state.specs.Refusals.{AreInPlace}
use Rattle.uc_version_state.specs.declared.event.Event.{Event}
use Rattle.uc_version_state.specs.Histories.{MayFollow, after}
use Rattle.uc_version_compact.specs.declared.install_error.InstallError.{InstallError}
use Rattle.uc_version_compact.specs.declared.install_error.InstallError.TheVariants.{IdsSpent}
use Rattle.uc_version_compact.specs.Compacting.{runs_at, compaction_at, IsInstallable, IsNotInstallable}
use Rattle.uc_version.specs.Owners.{Owner, IsOwner}
use Rattle.uc_version.specs.Claiming.{Claim, is_held}
use Rattle.uc_version.specs.Installing.{place_held, stretch_of, claimed_runs, compaction_of, IdLeft, MayReplace, IsRefused}
use Rattle.uc_version.proofs.Taking.{held_stands}
use Rattle.uc_version.proofs.Staying.{own_place}

-- what the law of stretches says
abbrev pub MayLater : Operation → Type 0
MayLater m = (v : Stored) (s : Stretch) (events : List Event) → IsVersion v → 0 < s.count → s.first + s.count ≤ length v.runs → MayFollow m v events →
    AreInPlace (fold after v events) (ids_of (runs_at v s)) → IdLeft (fold after v events) → IsInstallable (fold after v events) (runs_at v s) (compaction_at v s)

abbrev pub OnlyIdsLater : Operation → Type 0
OnlyIdsLater m = (v : Stored) (s : Stretch) (events : List Event) (error : InstallError) → IsVersion v → 0 < s.count → s.first + s.count ≤ length v.runs → MayFollow m v events →
    AreInPlace (fold after v events) (ids_of (runs_at v s)) → IsNotInstallable (fold after v events) (runs_at v s) (compaction_at v s) error → (error ≡ IdsSpent) × ¬ IdLeft (fold after v events)

module _ (m : Operation) (o p : Owner) (c : Claim) (events : List Event) (is_owner : IsOwner o) (is_later : IsOwner p)
    (held : is_held o c ≡ true) (held_later : is_held p c ≡ true) (follow : MayFollow m o.version events)
    (version : p.version ≡ fold after o.version events) (same : claimed_runs p c ≡ claimed_runs o c) where
  abbrev s : Stretch
  s = place_held (stretch_of o c)

  abbrev made : Compaction
  made = compaction_of o.version (stretch_of o c)

  stands : (0 < s.count) × (s.first + s.count ≤ length o.version.runs)
  stands = let there = held_stands o is_owner c held in let two = there.0 in (omega (arith, two), there.1)

  in_place : AreInPlace (fold after o.version events) (ids_of (claimed_runs o c))
  in_place =
      let there = held_stands p is_later c held_later in
      subst (λ (v : Stored). AreInPlace v (ids_of (claimed_runs o c))) version
      (subst (λ (rs : List PlacedRun). AreInPlace p.version (ids_of rs)) same
      (own_place p.version is_later.version (stretch_of p c) there.0 there.1))

  may_there : MayLater m → IdLeft p.version → IsInstallable p.version (claimed_runs o c) made
  may_there may =
      subst (λ (v : Stored). IdLeft v → IsInstallable v (claimed_runs o c) made) (sym version)
      (may o.version s events is_owner.version stands.0 stands.1 follow in_place)

  pub own_may_later : MayLater m → IdLeft p.version → MayReplace p.version (stretch_of p c) made
  own_may_later may left = subst (λ (rs : List PlacedRun). IsInstallable p.version rs made) (sym same) (may_there may left)

  only_there : OnlyIdsLater m → (error : InstallError) → IsNotInstallable p.version (claimed_runs o c) made error → (error ≡ IdsSpent) × ¬ IdLeft p.version
  only_there only error =
      subst (λ (v : Stored). IsNotInstallable v (claimed_runs o c) made error → (error ≡ IdsSpent) × ¬ IdLeft v) (sym version)
      (only o.version s events error is_owner.version stands.0 stands.1 follow in_place)

  pub own_refused_later : OnlyIdsLater m → (error : InstallError) → IsRefused p.version (stretch_of p c) made error → (error ≡ IdsSpent) × ¬ IdLeft p.version
  own_refused_later only error refused = only_there only error (subst (λ (rs : List PlacedRun). IsNotInstallable p.version rs made error) same refused.0)
