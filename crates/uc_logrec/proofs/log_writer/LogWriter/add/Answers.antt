use Rattle.std.proofs.Common.{◌≡◌, ◌∙◌, ap, List, ℕ, ◌+◌, ◌++◌, ◌∷◌, [], length, arith}
use Rattle.uc_logrec.specs.Log.{payload_text}
use Rattle.uc_logrec.proofs.RoundTrip.{IsLog-added, payloads_of-added}
use Rattle.uc_logrec.proofs.log_writer.LogWriter.add.Goals as goal
use Rattle.uc_logrec.proofs.log_writer.LogWriter.add.Goals.{In_default}

-- from the log's start the text's end is at its length
added : (c : In_default) → c.push_payload.new.text.items ≡ c.self.inside.text.items ++ payload_text (length c.self.inside.text.items) c.args.payload.now
added c = let place : 0 + length c.self.inside.text.items ≡ length c.self.inside.text.items = omega arith in c.in_default.ensures.ok ∙ ap (λ (o : ℕ). c.self.inside.text.items ++ payload_text o c.args.payload.now) place

pub invariant_of-self-in_default : goal.invariant_of-self-in_default
invariant_of-self-in_default c = IsLog-added c.self.inside.text.items c.push_payload.new.text.items c.args.payload.now c.self.invariant (added c)

pub returns-clause-ok : goal.returns-clause-ok
returns-clause-ok c = payloads_of-added c.self.inside.text.items c.push_payload.new.text.items c.args.payload.now c.self.invariant (added c) ∙ ap (λ (ps : List (List ℕ)). ps ++ c.args.payload.now ∷ []) c.self.view_is
