use Rattle.std.proofs.Common.{◌≡◌, ◌≢◌, ◌⊎◌, inl, inr, List, sym, subst, ap, ◌∙◌}
use Rattle.std.specs.Prelude.{Option, Some, None, Result, Ok, Err, IfOk}
use Rattle.uc_bytes.specs.declared.write.Write.{Write}
use Rattle.uc_version_state.specs.Feeds.{feed_refusal}
use Rattle.uc_version_state.specs.declared.feed_error.FeedError.{FeedError}
use Rattle.uc_version_state.specs.declared.feed_error.FeedError.TheVariants.{Memory}
use Rattle.uc_version.specs.Owners.{Owner}
use Rattle.uc_version.specs.Claiming.{Claim}
use Rattle.uc_query.specs.declared.reply.Reply.{Reply}
use Rattle.uc_query.specs.declared.reply.Reply.TheVariants.{NotFed}
use Rattle.uc_query.specs.Names.{AreHeld, named}
use Rattle.uc_query.specs.Turns.{feed_turn, replied}
use Rattle.uc_query.proofs.NamesHeld.{held_fed}
use Rattle.uc_query.proofs.live_turns.feed_writes.Goals as goal

pub returns-in-Ok-clause-held : goal.returns-in-Ok-clause-held
returns-in-Ok-clause-held g c = λ names are.
    subst (λ (p : Owner). AreHeld p names) (sym c.in-Ok.ensures.ok.2) (held_fed c.args.writes.now.list c.args.owned.now names are)

-- a refusal that isn't want of memory, and its reply
module _ (o p : Owner) (names : List (Option Claim)) (ws : List Write) (error : FeedError) (same : p ≡ o) where
  refused : (reply : Reply) → reply ≡ NotFed error → feed_refusal o.version ws ≡ Some error → feed_turn (named o names) ws (feed_refusal o.version ws) ≡ replied (named p names) reply
  refused reply is why =
      ap (feed_turn (named o names) ws) why
      ∙ ap (λ (q : Owner). replied (named q names) (NotFed error)) (sym same)
      ∙ ap (λ (r : Reply). replied (named p names) r) (sym is)

  by_error : {E : Type 0} (r : Result Reply E) → IfOk r (λ reply. (reply ≡ NotFed error) × (error ≢ Memory)) →
      (feed_refusal o.version ws ≡ Some error) ⊎ ((feed_refusal o.version ws ≡ None) × (error ≡ Memory)) →
      IfOk r (λ reply. feed_turn (named o names) ws (feed_refusal o.version ws) ≡ replied (named p names) reply)
  by_error {E} (Ok reply) is (inl why) = refused reply is.0 why
  by_error {E} (Ok reply) is (inr memory) = absurd (is.1 memory.1)
  by_error {E} (Err e) is why = tt

pub returns-in-Err-clause-turn : goal.returns-in-Err-clause-turn
returns-in-Err-clause-turn g c = λ names.
    by_error c.args.owned.now c.feed.new.self names c.args.writes.now.list c.in-Err.error c.in-Err.ensures.err.0 c.not_fed.result c.not_fed.ensures.ok c.in-Err.ensures.err.1

pub returns-in-Err-clause-held : goal.returns-in-Err-clause-held
returns-in-Err-clause-held g c = λ names are. subst (λ (p : Owner). AreHeld p names) (sym c.in-Err.ensures.err.0) are
