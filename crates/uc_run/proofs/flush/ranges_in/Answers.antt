use Rattle.std.proofs.Common.{sym, ◌∙◌}
use Rattle.uc_bytes.specs.declared.write.Write.{Write}
use Rattle.uc_run.specs.Flush.{range_of}
use Rattle.uc_run.proofs.WriteParts.{part_pushed, part_missing}
use Rattle.uc_run.proofs.flush.ranges_in.Goals as goal
use Rattle.uc_run.proofs.flush.ranges_in.Goals.{in-Some+in_ok-push, in_default}

pub loop-place-preserved : goal.loop-place-preserved
loop-place-preserved c =
    let writes = c.args.slots.now in
    let i = c.loop-place.place in
    elim c.match-range.branch [
      | in-Some+in_ok-push w ↦ rw w.ranges-is (part_pushed (λ (v : Write). range_of v.seq v.op) writes i c.at.result _ _ _ c.at.ensures (sym c.range.ensures ∙ w.in-Some.is) c.loop-place.invariant w.in_ok-push.ensures.items)
      | in_default w ↦ rw w.ranges-is (part_missing (λ (v : Write). range_of v.seq v.op) writes i c.at.result _ c.at.ensures (sym c.range.ensures ∙ w.in_default.is) c.loop-place.invariant)
    ]
