use Rattle.uc_logrec.proofs.Appending.{payload_alone}
use Rattle.uc_logrec.proofs.log_writer.payload_bytes.Goals as goal

pub returns : goal.returns
returns c = payload_alone c.args.log_length c.new-text.result.items c.push_payload.new.text.items c.args.payload.now c.new-text.ensures.items c.in_ok-push_payload.ensures.ok
