use Rattle.std.proofs.Common.{◌≡◌, ◌∙◌, subst, sym}
use Rattle.uc_batch.specs.Rising.{IsRising}
use Rattle.uc_memtable.proofs.RisingParts.{rising_front}
use Rattle.uc_version_state.specs.Versions.{Stored}
use Rattle.uc_live.specs.declared.view.ViewParts.{ViewParts}
use Rattle.uc_live.proofs.live_store.LiveStore.view.Goals as goal

pub invariant_of-result : goal.invariant_of-result
invariant_of-result g c =
    let v = c.self.inside.owned.version in
    let active = c.self.inside.active in
    let version : c.in_ok-version.version ≡ v = c.in_ok-version.ensures ∙ c.version.ensures in
    let front = rising_front v.last active.shown active.waiting c.self.invariant.rising in
    let rising = subst (λ (p : ViewParts). IsRising p.version.last p.gathered.shown) (sym c.in_ok-parts.ensures.ok)
    (subst (λ (u : Stored). IsRising u.last c.in_ok-gathered.gathered.shown) (sym version)
    (subst (IsRising v.last) (sym c.in_ok-gathered.ensures.shared.0) front)) in
    record { rising = rising; sorted_is = tt }
