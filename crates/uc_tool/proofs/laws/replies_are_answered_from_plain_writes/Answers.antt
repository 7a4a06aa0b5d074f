use Rattle.std.proofs.Common.{◌+◌, [], refl}
use Rattle.uc_version_state.specs.Openings.{opened}
use Rattle.uc_version_state.specs.Histories.{known_at_first}
use Rattle.uc_version.specs.Owners.{unclaimed}
use Rattle.uc_query.specs.Running.{unnamed}
use Rattle.uc_tool.specs.Play.{calls_of, opening_of}
use Rattle.uc_tool.proofs.ReadAnswers.{unclaimed_is_owner, unnamed_are_held, all_answered, all_rise}
use Rattle.uc_tool.proofs.laws.replies_are_answered_from_plain_writes.Goals as goal

pub returns : goal.returns
returns g c = λ options script rising fine fit.
    let m = g.O.Operator.meaning in
    let o = opening_of options script in
    let may = (c.no_refusal_is_leave_to_open.ensures o rising).0 fine in
    let version = opened o in
    let owner = unclaimed version options in
    let is_owner = unclaimed_is_owner version options (c.opening_gives_a_version.ensures o may) may.options_good in
    let first = version.last + 1 in
    all_answered m version.last (known_at_first o) first script.calls (unnamed owner)
    (c.asks_are_answered_from_plain_writes.ensures (record { opening = o; events = [] }) (unnamed owner) (calls_of version.last first script.calls) (all_rise m version.last first script.calls fit)
    (record { opens = may; follow = tt }) is_owner (unnamed_are_held owner) refl)
