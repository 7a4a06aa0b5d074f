use Rattle.std.proofs.Common.{◌≤◌, ◌+◌, ◌-◌, ◌/◌, ◌%◌, arith}
use Rattle.std.proofs.lemmas.Result.{on_ok_weaker}
use Rattle.uc_log_crash.specs.Marks.{number_text}
use Rattle.uc_log_crash.proofs.Spelling.{text_step, bound_down, text_after}
use Rattle.uc_log_crash.proofs.mark.+push_number.Goals as goal

pub push_number-requires : goal.push_number-requires
push_number-requires t c = (omega (arith, c.decreases, c.if-more-eq0.false), bound_down c.args.number c.args.more c.if-more-eq0.false c.requires)

pub returns : goal.returns
returns t c =
    let high : 128 ≤ c.args.number = omega (arith, c.if-number-lt128.false) in
    on_ok_weaker c.push_number.result
    (text_after c.args.bytes.now.items c.push-2.new.self.items c.push_number.new.bytes.items (128 + c.args.number % 128) (number_text (c.args.more - 1) (c.args.number / 128)) (number_text c.args.more c.args.number) c.in_ok-push-3.ensures.items (text_step c.args.more c.args.number c.if-more-eq0.false high))
    c.push_number.ensures
