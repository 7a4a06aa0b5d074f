use Rattle.std.proofs.Common.{rules, ◌≡◌, List, fold, ap, ◌∙◌, subst}
use mathlib.Core.List.{IsPrefix}
use Rattle.uc_compact.specs.Inputs.{Compaction}
use Rattle.uc_version_state.specs.Versions.{Stored}
use Rattle.uc_version_state.specs.Histories.{after}
use Rattle.uc_version_state.specs.declared.event.Event.{Event}
use Rattle.uc_version_compact.specs.Compacting.{IsNotInstallable}
use Rattle.uc_share.specs.Fronts.{Moment, after_event}
use Rattle.uc_share.specs.Claims.{claimed_runs}
use Rattle.uc_share.specs.Installing.{ShowsRefusal, event_of}
use Rattle.uc_share.proofs.Refused.{own_shown}
use Rattle.uc_share.proofs.desk.installed.Goals as goal

pub returns-clause-installed : goal.returns-clause-installed
returns-clause-installed g c =
    let made : c.publish_install-publisher.result.0 ≡ after_event (event_of g.O.Operator.meaning (claimed_runs c.args.held.now) c.args.made.now) c.args.publisher = search rules in
    let events : c.sees-2.new.self ≡ c.publish_install-publisher.result.0.events = search rules in (
      c.args.publisher.events,
      subst (λ (es : List Event). IsPrefix c.args.reader.now es) c.refusal.ensures.all c.refusal.ensures.seen,
      events ∙ ap (λ (s : Moment). s.events) made,
    )

pub returns-in-Some-clause-own : goal.returns-in-Some-clause-own
returns-in-Some-clause-own g c = λ own.
    let held = c.args.held.now in
    let seen : List Event = c.refusal.new.reader in
    let present : Stored = fold after g.N.Name.base seen in
    let shown : ShowsRefusal present (claimed_runs held) c.args.made.now c.error_of.result = search rules in
    own_shown present (claimed_runs held) c.args.made.now c.error_of.result shown
    (λ error refused. c.own_is_refused_for_two_reasons.ensures seen error c.refusal.ensures.behind c.refusal.ensures.legal
    (subst (λ (made : Compaction). IsNotInstallable present (claimed_runs held) made error) own refused))
