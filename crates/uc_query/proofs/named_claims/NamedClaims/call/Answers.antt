use Rattle.std.proofs.Common.{ap, ◌∙◌}
use Rattle.std.specs.Prelude.{Ok}
use Rattle.uc_query.specs.Turns.{turn_of}
use Rattle.uc_query.proofs.named_claims.NamedClaims.call.Goals as goal

pub returns-in_ok-compact_at_once-in-Compact-clause-ok : goal.returns-in_ok-compact_at_once-in-Compact-clause-ok
returns-in_ok-compact_at_once-in-Compact-clause-ok g c =
    ap (turn_of g.O.Operator.meaning (record { owner = c.args.owned.now; names = c.args.self.now })) c.in-Compact.is
    ∙ ap Ok (c.in_ok-compact_at_once-in-Compact.ensures.turn c.args.self.now)

pub returns-in_ok-keep_last-in-Keep-clause-ok : goal.returns-in_ok-keep_last-in-Keep-clause-ok
returns-in_ok-keep_last-in-Keep-clause-ok g c =
    ap (turn_of g.O.Operator.meaning (record { owner = c.args.owned.now; names = c.args.self.now })) c.in-Keep.is
    ∙ ap Ok (c.in_ok-keep_last-in-Keep.ensures.turn c.args.self.now)
