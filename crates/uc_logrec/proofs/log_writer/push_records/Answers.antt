use Rattle.std.proofs.Common.{◌≡◌, ◌+◌, ◌-◌, ◌∙◌, length, ap}
use Rattle.std.proofs.lemmas.Result.{on_ok_weaker}
use Rattle.uc_logrec.specs.Format.{room}
use Rattle.uc_logrec.proofs.Writing.{full_written, pieces_written}
use Rattle.uc_logrec.proofs.log_writer.push_records.Goals as goal

pub returns-then-payload-fits-clause-ok : goal.returns-then-payload-fits-clause-ok
returns-then-payload-fits-clause-ok c =
    let space : c.fragment_room-fits.result ≡ room (c.args.start + length c.args.text.now.items) - 7 = c.fragment_room-fits.ensures ∙ ap (λ n. room (c.args.start + n) - 7) (c.len.ensures ∙ c.args.text.now.ok.0) in
    on_ok_weaker c.push_record.result (λ e. e ∙ full_written c.args.text.now.items c.args.payload.now (c.args.start + length c.args.text.now.items) c.fragment_room-fits.result space c.if-payload-fits.true) c.push_record.ensures.ok

pub returns-clause-ok : goal.returns-clause-ok
returns-clause-ok c =
    let space : c.fragment_room-fits.result ≡ room (c.args.start + length c.args.text.now.items) - 7 = c.fragment_room-fits.ensures ∙ ap (λ n. room (c.args.start + n) - 7) (c.len.ensures ∙ c.args.text.now.ok.0) in
    on_ok_weaker c.push_rest.result (λ e. e ∙ pieces_written c.args.text.now.items c.args.payload.now c.split_at.result.0.now c.split_at.result.1.now c.push_record-2.new.text.items (c.args.start + length c.args.text.now.items) c.fragment_room-fits.result space c.if-payload-fits.false c.split_at.ensures.front c.split_at.ensures.back c.in_ok-push_record.ensures.ok) c.push_rest.ensures.ok
