use Rattle.std.proofs.Common.{◌↔◌, ℕ, true, false, List, Contains, refl, ap, sym, subst}
use Rattle.uc_version.specs.Owners.{Owner}
use Rattle.uc_version_state.specs.Snapshots.{released}
use Rattle.uc_live.specs.Lives.{Live}
use Rattle.uc_live.specs.HeldLives.{IsLive, live}
use Rattle.uc_live.proofs.Keeping.{live_with, live_same, stands_there, stands_not, left_alone, is_left, alike_still, alike_released, live_still, live_released, live_same_snapshots}
use Rattle.uc_live.proofs.live_store.LiveStore.release.Goals as goal

pub invariant_of-self : goal.invariant_of-self
invariant_of-self g c =
    let i = c.self.inside in
    let same = left_alone c.args.seq i.snapshots.items c.take_one.new.seqs.items c.if-not-take_one.ensures.rest (sym c.if-not-take_one.ensures.found) in
    live_same i c.self.invariant (record i { snapshots = c.take_one.new.seqs }) same

pub returns-then-not-take_one-clause-err : goal.returns-then-not-take_one-clause-err
returns-then-not-take_one-clause-err g c =
    let i = c.self.inside in
    let seq = c.args.seq in
    let none = sym c.if-not-take_one.ensures.found in
    let same = left_alone seq i.snapshots.items c.take_one.new.seqs.items c.if-not-take_one.ensures.rest none in (
      refl,
      subst (λ (l : Live). Contains l.snapshots seq → ⊥) c.self.view_is (stands_not seq i.snapshots.items none),
      live_same_snapshots (live i) c.args.self.now c.take_one.new.seqs.items c.self.view_is same,
    )

pub invariant_of-self-in-Continue-1 : goal.invariant_of-self-in-Continue-1
invariant_of-self-in-Continue-1 g c =
    let i = c.self.inside in
    let v = i.owned.version in
    let seq = c.args.seq in
    let seqs = i.snapshots.items in
    let rest = c.if-not-take_one.ensures.rest in
    let none = is_left seq i.snapshots.items c.take_one.new.seqs.items c.deref.result.now false c.deref.ensures.value rest c.if-not-contains.ensures.value in
    subst (λ (o : Owner). IsLive (record i { owned = o; snapshots = c.take_one.new.seqs })) (sym c.in_ok-release.ensures.ok.1)
    (live_with i c.self.invariant (record i { snapshots = c.take_one.new.seqs }) (released seq v) refl refl
    (λ n. subst (λ (ss : List ℕ). Contains ss n ↔ Contains (released seq v).keeps n) (sym {A = List ℕ} rest) (alike_released seq seqs v.keeps c.self.invariant.taken none n)))

pub invariant_of-self-in_err-release : goal.invariant_of-self-in_err-release
invariant_of-self-in_err-release g c =
    let seq = c.args.seq in
    absurd (c.in_err-release.ensures.err.1 ((c.self.invariant.taken seq).0 (stands_there seq c.self.inside.snapshots.items (sym c.if-not-take_one.ensures.found))))

pub returns-in_err-release-clause-err : goal.returns-in_err-release-clause-err
returns-in_err-release-clause-err g c =
    let seq = c.args.seq in
    absurd (c.in_err-release.ensures.err.1 ((c.self.invariant.taken seq).0 (stands_there seq c.self.inside.snapshots.items (sym c.if-not-take_one.ensures.found))))

pub invariant_of-self-else-not-contains : goal.invariant_of-self-else-not-contains
invariant_of-self-else-not-contains g c =
    let i = c.self.inside in
    let v = i.owned.version in
    let seq = c.args.seq in
    let seqs = i.snapshots.items in
    let rest = c.if-not-take_one.ensures.rest in
    let more = is_left seq i.snapshots.items c.take_one.new.seqs.items c.deref.result.now true c.deref.ensures.value rest c.if-not-contains.ensures.value in
    live_with i c.self.invariant (record i { snapshots = c.take_one.new.seqs }) v refl refl
    (λ n. subst (λ (ss : List ℕ). Contains ss n ↔ Contains v.keeps n) (sym {A = List ℕ} rest) (alike_still seq seqs v.keeps c.self.invariant.taken more n))

pub returns-in_ok-release-clause-ok : goal.returns-in_ok-release-clause-ok
returns-in_ok-release-clause-ok g c =
    let i = c.self.inside in
    let seq = c.args.seq in
    let left = c.take_one.new.seqs.items in
    let rest = c.if-not-take_one.ensures.rest in
    let none = is_left seq i.snapshots.items c.take_one.new.seqs.items c.deref.result.now false c.deref.ensures.value rest c.if-not-contains.ensures.value in (
      subst (λ (l : Live). Contains l.snapshots seq) c.self.view_is (stands_there seq i.snapshots.items (sym c.if-not-take_one.ensures.found)),
      live_released (live i) c.args.self.now c.release.new.self.version c.release.new.self.claims seq left c.self.view_is (ap (λ (o : Owner). o.version) c.in_ok-release.ensures.ok.1)
          (ap (λ (o : Owner). o.claims) c.in_ok-release.ensures.ok.1) rest none,
    )

pub returns-else-not-contains-clause-ok : goal.returns-else-not-contains-clause-ok
returns-else-not-contains-clause-ok g c =
    let i = c.self.inside in
    let seq = c.args.seq in
    let left = c.take_one.new.seqs.items in
    let rest = c.if-not-take_one.ensures.rest in
    let more = is_left seq i.snapshots.items c.take_one.new.seqs.items c.deref.result.now true c.deref.ensures.value rest c.if-not-contains.ensures.value in (
      subst (λ (l : Live). Contains l.snapshots seq) c.self.view_is (stands_there seq i.snapshots.items (sym c.if-not-take_one.ensures.found)),
      live_still (live i) c.args.self.now seq left c.self.view_is rest more,
    )
