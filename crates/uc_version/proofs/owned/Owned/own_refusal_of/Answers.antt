use Rattle.std.proofs.Common.{◌≡◌, ◌≤◌, List, length, sym, ap, subst}
use Rattle.std.specs.Prelude.{IfSome, IfNone}
use Rattle.std.proofs.lemmas.Option.{IfSome_then}
use Rattle.uc_claims.specs.declared.table.TheConstants.{MOST_SLOTS}
use Rattle.uc_version_state.specs.Versions.{PlacedRun, contents_of}
use Rattle.uc_version.specs.declared.held_stretch.HeldStretch.{HeldStretch}
use Rattle.uc_version.specs.Owners.{Owner, runs_held}
use Rattle.uc_version_compact.specs.Compacting.{IsInstallable, IsNotInstallable}
use Rattle.uc_version.specs.Installing.{stretch_in, stretch_of, MayReplace, IsRefused}
use Rattle.uc_version.specs.HeldOwners.{owner}
use Rattle.uc_version_compact.proofs.Few.{few_part}
use Rattle.uc_version.proofs.Taking.{stands}
use Rattle.uc_version.proofs.Staying.{never_stale}
use Rattle.uc_version.proofs.owned.Owned.own_refusal_of.Goals as goal

pub own_refusal-requires-clause-few : goal.own_refusal-requires-clause-few
own_refusal-requires-clause-few g c =
    let h = c.held_stretch-held.result in
    subst (λ (ps : List PlacedRun). length ps ≤ MOST_SLOTS) (sym c.held_runs.ensures) (few_part c.self.inside.version c.self.invariant.owner_is.version h.first h.count)

pub returns-clause-none : goal.returns-clause-none
returns-clause-none g c =
    let h = c.held_stretch-held.result in
    let v = c.self.inside.version in
    let made = c.args.made.now in
    let stretch = ap stretch_in c.held_stretch-held.ensures in
    let here = subst (λ (ps : List PlacedRun). IfNone c.own_refusal.result (IsInstallable v ps made)) c.held_runs.ensures c.own_refusal.ensures.none in
    let so = subst (λ (s : HeldStretch). IfNone c.own_refusal.result (MayReplace v s made)) (sym stretch) here in
    subst (λ (p : Owner). IfNone c.own_refusal.result (MayReplace p.version (stretch_of p c.args.claim.now) made)) c.self.view_is so

pub returns-clause-some : goal.returns-clause-some
returns-clause-some g c =
    let i = c.self.invariant in
    let h = c.held_stretch-held.result in
    let v = c.self.inside.version in
    let o = owner c.self.inside in
    let made = c.args.made.now in
    let held_is = c.held_stretch-held.ensures in
    let there = stands o i.owner_is c.self.inside.held.slots i.slots c.args.claim.now.number h held_is in
    let stretch = ap stretch_in c.held_stretch-held.ensures in
    let refused = subst (λ (ps : List PlacedRun). IfSome c.own_refusal.result (IsNotInstallable v ps made)) c.held_runs.ensures c.own_refusal.ensures.some in
    let both = IfSome_then c.own_refusal.result refused (λ error why. (why, never_stale v i.owner_is.version h there.0 there.1 made error why)) in
    let so = subst (λ (s : HeldStretch). IfSome c.own_refusal.result (IsRefused v s made)) (sym stretch) both in
    subst (λ (p : Owner). IfSome c.own_refusal.result (IsRefused p.version (stretch_of p c.args.claim.now) made)) c.self.view_is so

pub own_refusal-requires-clause-own : goal.own_refusal-requires-clause-own
own_refusal-requires-clause-own g c =
    let stretch = ap stretch_in c.held_stretch-held.ensures in
    let made = c.args.made.now in
    let here = subst (λ (p : Owner). made.inputs ≡ contents_of (runs_held p.version (stretch_of p c.args.claim.now))) (sym c.self.view_is) c.requires.own in
    subst (λ (ps : List PlacedRun). made.inputs ≡ contents_of ps) (sym c.held_runs.ensures)
    (subst (λ (s : HeldStretch). made.inputs ≡ contents_of (runs_held c.self.inside.version s)) stretch here)
