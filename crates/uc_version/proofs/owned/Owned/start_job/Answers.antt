use Rattle.std.proofs.Common.{◌+◌, ◌≤◌, length, sym, subst}
use Rattle.uc_version_state.specs.Versions.{Stored, slots_of}
use Rattle.uc_version_state.specs.Installs.{part_of}
use Rattle.uc_version_compact.specs.Ranges.{range_refusal}
use Rattle.uc_version_compact.proofs.InRange.{range_holds}
use Rattle.uc_version.specs.Owners.{claimed_slots}
use Rattle.uc_version.specs.Claiming.{first_busy}
use Rattle.uc_version.proofs.Staying.{fine_parts}
use Rattle.uc_version.proofs.owned.Owned.start_job.Goals as goal

pub of-requires-clause-within : goal.of-requires-clause-within
of-requires-clause-within g c =
    let o = c.args.self.now in
    let s = c.in-Some.stretch in
    let fine = c.picks_can_be_claimed.ensures o s c.recall.ensures (sym c.in-Some.ensures) in
    let range = (fine_parts (range_refusal (length o.version.runs) s) (first_busy (claimed_slots o) (slots_of (part_of s.first s.count o.version.runs))) fine).0 in
    subst (λ (v : Stored). s.first + s.count ≤ length v.runs) (sym c.version.ensures) (range_holds (length o.version.runs) s range).1
