use Rattle.std.proofs.Common.{◌∙◌, ap, sym, subst}
use Rattle.uc_version.specs.Owners.{Owner}
use Rattle.uc_version.specs.Installing.{IdLeft}
use Rattle.uc_version.specs.AtOnce.{IsNotMade, IsNotCompacted}
use Rattle.uc_version.proofs.CompactedNow.{may, compacted_now, undone, not_compacted}
use Rattle.uc_version.proofs.owned.Owned.compact_now_by.Goals as goal

pub returns-in-Ok-compaction-clause-ok : goal.returns-in-Ok-compaction-clause-ok
returns-in-Ok-compaction-clause-ok g c =
    let m = g.O.Operator.meaning in
    let o = c.args.self.now in
    let s = c.args.stretch in
    let claimed = c.in-Ok.ensures.ok in
    let made = c.in-Ok-compaction.ensures.ok in
    let left = subst (λ (p : Owner). IdLeft p.version) claimed.2 made.0 in (
      claimed.0,
      may m o c.recall.ensures s claimed.0 left,
      c.put_in_place.ensures.id ∙ ap (λ (p : Owner). p.version.next_id) claimed.2,
      compacted_now m o c.recall.ensures s claimed.0 left c.in-Ok.claim c.claim.new.self c.put_in_place.new.self c.in-Ok-compaction.made claimed.1 claimed.2 made.1 c.put_in_place.ensures.after,
    )

pub returns-in-Err-compaction-clause-err : goal.returns-in-Err-compaction-clause-err
returns-in-Err-compaction-clause-err g c =
    let o = c.args.self.now in
    let s = c.args.stretch in
    let claimed = c.in-Ok.ensures.ok in
    let error = c.in-Err-compaction.error in
    let why = not_compacted o s claimed.0 error (subst (λ (p : Owner). IsNotMade p.version error) claimed.2 c.in-Err-compaction.ensures.err) in (
      subst (IsNotCompacted o s) (sym c.give_up.ensures.0) why,
      undone o s c.in-Ok.claim c.claim.new.self c.give_up.new.self claimed.1 claimed.2 c.give_up.ensures.1,
    )
