use Rattle.std.proofs.Common.{refl}
use Rattle.std.proofs.lemmas.Result.{IfOk-weaker}
use Rattle.uc_version_open.specs.Reading.{IsTaken, ReadsOn}
use Rattle.uc_version_open.proofs.Taking.{at_start}
use Rattle.uc_version_open.proofs.reading.begin_reading.Goals as goal

pub returns : goal.returns
returns g c =
    let log = c.args.batches.ahead in
    let start = at_start c.args.options log c.args.batches c.new-opener.result refl c.requires.start c.new-opener.ensures in
    IfOk-weaker c.read_on.result (λ r. ReadsOn c.args.batches c.new-opener.result r.batches r.opener) (λ r. IsTaken c.args.options log r.batches r.opener)
    (λ r on. on.taken c.args.options log start) c.read_on.ensures.on
