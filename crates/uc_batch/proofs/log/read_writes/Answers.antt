use Rattle.std.proofs.Common.{◌≡◌, ◌≢◌}
use Rattle.uc_batch.specs.declared.error.BatchError.TheVariants as faults
use Rattle.uc_batch.proofs.Named.{log_named}
use Rattle.uc_batch.proofs.log.read_writes.Goals as goal

pub returns-in-BatchFault-TornTail-clause-named : goal.returns-in-BatchFault-TornTail-clause-named
returns-in-BatchFault-TornTail-clause-named c =
    let b = c.in-BatchFault-TornTail in
    let other : b.fault ≢ faults.Memory = log_named c.args.bytes.now c.in_ok-list.ended b.number b.fault c.in_ok-list.ensures.ended b.is-0 in
    λ number h. let same : b.fault ≡ faults.Memory = cc in other same
