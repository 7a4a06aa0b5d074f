use Rattle.std.proofs.Common.{sym, ap, ◌∙◌}
use Rattle.uc_version.specs.Owners.{Owner}
use Rattle.uc_query.specs.declared.reply.Reply.TheVariants.{NotReleased}
use Rattle.uc_query.specs.Names.{named}
use Rattle.uc_query.specs.Turns.{release_turn, replied}
use Rattle.uc_query.proofs.Keeping.{other_is_unprotected}
use Rattle.uc_query.proofs.live_turns.release_keep.Goals as goal

pub returns-in-Err-clause-turn : goal.returns-in-Err-clause-turn
returns-in-Err-clause-turn g c = λ names.
    let o = c.args.owned.now in
    ap (release_turn (named o names) c.args.seq) (other_is_unprotected c.args.seq o.version.keeps c.in-Err.ensures.err.1)
    ∙ ap (λ (p : Owner). replied (named p names) (NotReleased c.args.seq)) (sym c.in-Err.ensures.err.2)
