use Rattle.std.proofs.Common.{List, ℕ, ap}
use Rattle.uc_logrec.specs.Log.{reading_of}
use Rattle.uc_logrec.specs.Position.{ahead_at}
use Rattle.uc_batch.proofs.payload_reader.PayloadReader.new.Goals as goal

pub returns : goal.returns
unfolding reading_of
returns c = ap (λ (bytes : List ℕ). record { payloads_read = 0; ahead = ahead_at 0 bytes }) c.new.ensures.bytes
