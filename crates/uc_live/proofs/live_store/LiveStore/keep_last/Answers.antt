use Rattle.std.proofs.Common.{◌≡◌, ◌↔◌, ℕ, List, [], ◌∷◌, ◌++◌, Contains, vec_len, length, refl, sym, subst}
use Rattle.uc_version.specs.Owners.{Owner}
use Rattle.uc_version_state.specs.Versions.{Stored}
use Rattle.uc_version_state.specs.Snapshots.{kept}
use Rattle.uc_live.specs.HeldLives.{IsLive}
use Rattle.uc_live.proofs.Keeping.{live_with, live_same, alike_kept, pushed_popped}
use Rattle.uc_live.proofs.live_store.LiveStore.keep_last.Goals as goal

pub invariant_of-self : goal.invariant_of-self
invariant_of-self g c =
    let i = c.self.inside in
    live_same i c.self.invariant (record i { snapshots = c.push.new.self }) c.in_err-push.ensures.items

pub invariant_of-self-in-Err : goal.invariant_of-self-in-Err
invariant_of-self-in-Err g c =
    let i = c.self.inside in
    let pushed = c.push.new.self in
    let count : vec_len pushed ≡ length pushed.items = pushed.ok.0 in
    let same = pushed_popped i.snapshots.items pushed.items c.pop.new.self.items c.last.result (vec_len pushed) c.in_ok-push.ensures.items count c.pop.ensures.rest in
    subst (λ (o : Owner). IsLive (record i { owned = o; snapshots = c.pop.new.self })) (sym c.in-Err.ensures.err)
    (live_same i c.self.invariant (record i { snapshots = c.pop.new.self }) same)

pub invariant_of-self-in_default : goal.invariant_of-self-in_default
invariant_of-self-in_default g c =
    let i = c.self.inside in
    let v = i.owned.version in
    let seqs = i.snapshots.items in
    let last : c.last.result ≡ v.last = subst (λ (u : Stored). c.last.result ≡ u.last) c.version.ensures c.last.ensures in
    let items : c.push.new.self.items ≡ seqs ++ v.last ∷ [] = subst (λ (n : ℕ). c.push.new.self.items ≡ seqs ++ n ∷ []) last c.in_ok-push.ensures.items in
    subst (λ (o : Owner). IsLive (record i { owned = o; snapshots = c.push.new.self })) (sym c.in_default.ensures.ok.1)
    (live_with i c.self.invariant (record i { snapshots = c.push.new.self }) (kept v) refl refl
    (λ seq. subst (λ (ss : List ℕ). Contains ss seq ↔ Contains (kept v).keeps seq) (sym items) (alike_kept v.last seqs v.keeps c.self.invariant.taken seq)))
