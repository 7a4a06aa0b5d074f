use Rattle.std.proofs.Common.{◌≡◌, ℕ, true, Option, Some, None, length, rules, sym, ap, ◌∙◌, subst}
use Rattle.std.specs.Arc.{arc_value}
use Rattle.std.specs.Prelude.{IfSome}
use Rattle.uc_version_state.specs.Versions.{Stored}
use Rattle.uc_version_state.specs.Feeds.{feed_refusal}
use Rattle.uc_version.specs.Owners.{Owner}
use Rattle.uc_live.specs.HeldLives.{IsLive, live}
use Rattle.uc_live.specs.LiveFlushes.{Begin, LacksRoom, has_flush_out, with_flushed, without_flush}
use Rattle.uc_live.specs.Lives.{Live}
use Rattle.uc_live.specs.declared.live_store.LiveStore.TheInside.{Inside}
use Rattle.uc_live.specs.LiveFlushes.{FlushTask, IsOwnFlush}
use Rattle.uc_live.proofs.FlushEnds.{none_leaves, makes, why_lacks, flushed_away, flushed_live}
use Rattle.uc_live.proofs.live_store.LiveStore.end_flush.Goals as goal

module _ {O : Type 0} (i : Inside O) (is : IsLive i) (now : Live) (view : live i ≡ now) (job : FlushTask) (own : IsOwnFlush now job) (out : has_flush_out now job ≡ true) where
  begins : Begin job.writes i.active.shown
  begins = subst (λ (l : Live). Begin job.writes l.gathered) (sym view) (own out).1

  apart : i.active.apart ≡ length job.writes
  apart =
      let leaving : i.leaving ≡ Some (length job.writes) = ap (λ (l : Live). l.leaving) view ∙ (own out).0 in
      subst (λ (o : Option ℕ). IfSome o (λ n. i.active.apart ≡ n)) leaving is.leaves

pub feed_run-fed-requires : goal.feed_run-fed-requires
feed_run-fed-requires g c =
    let i = c.self.inside in
    let is = c.self.invariant in
    let job = c.args.job.now in
    let out : has_flush_out c.args.self.now job ≡ true = search rules in
    let begin = begins i is c.args.self.now c.self.view_is job c.requires.own out in
    (job.writes, makes i is job begin c.recall-2.ensures (arc_value c.in-Some.run'.now) c.last-last.result c.in-Some.ensures.1 c.last-last.ensures)

pub invariant_of-self-in-Ok : goal.invariant_of-self-in-Ok
invariant_of-self-in-Ok g c =
    let i = c.self.inside in
    let is = c.self.invariant in
    let job = c.args.job.now in
    let out : has_flush_out c.args.self.now job ≡ true = search rules in
    let begin = begins i is c.args.self.now c.self.view_is job c.requires.own out in
    let made = makes i is job begin c.recall-2.ensures (arc_value c.in-Some.run'.now) c.last-last.result c.in-Some.ensures.1 c.last-last.ensures in
    flushed_away i is job begin c.recall-2.ensures c.feed_run-fed.new.self c.drop_apart.new.self (c.in-Ok.ensures.ok job.writes made).1 c.drop_apart.ensures
    (apart i is c.args.self.now c.self.view_is job c.requires.own out)

pub invariant_of-self-in-Err : goal.invariant_of-self-in-Err
invariant_of-self-in-Err g c =
    let i = c.self.inside in
    subst (λ (o : Owner). IsLive (record i { owned = o; leaving = None })) (sym c.in-Err.ensures.same) (none_leaves i c.self.invariant)

pub returns-in-Ok-clause-ended : goal.returns-in-Ok-clause-ended
returns-in-Ok-clause-ended g c =
    let i = c.self.inside in
    let is = c.self.invariant in
    let job = c.args.job.now in
    let out : has_flush_out c.args.self.now job ≡ true = search rules in
    let begin = begins i is c.args.self.now c.self.view_is job c.requires.own out in
    let made = makes i is job begin c.recall-2.ensures (arc_value c.in-Some.run'.now) c.last-last.result c.in-Some.ensures.1 c.last-last.ensures in
    let fed = c.in-Ok.ensures.ok job.writes made in (
      c.in-Some.ensures.0,
      out,
      subst (λ (l : Live). feed_refusal l.version job.writes ≡ None) c.self.view_is fed.0,
      c.next_id-id.ensures ∙ ap (λ (v : Stored). v.next_id) c.version.ensures ∙ ap (λ (l : Live). l.version.next_id) c.self.view_is,
      flushed_live i is job begin c.recall-2.ensures c.feed_run-fed.new.self c.drop_apart.new.self fed.1 c.drop_apart.ensures
          (apart i is c.args.self.now c.self.view_is job c.requires.own out)
          ∙ ap (with_flushed job) c.self.view_is,
    )

pub returns-in-Err-clause-ended : goal.returns-in-Err-clause-ended
returns-in-Err-clause-ended g c =
    let i = c.self.inside in
    let is = c.self.invariant in
    let job = c.args.job.now in
    let out : has_flush_out c.args.self.now job ≡ true = search rules in
    let begin = begins i is c.args.self.now c.self.view_is job c.requires.own out in
    let made = makes i is job begin c.recall-2.ensures (arc_value c.in-Some.run'.now) c.last-last.result c.in-Some.ensures.1 c.last-last.ensures in
    let lacks = why_lacks i is job begin c.recall-2.ensures c.small_writes_fill_one_memtable.ensures c.recall.ensures c.in-Err.error (c.in-Err.ensures.err job.writes made) in (
      c.in-Some.ensures.0,
      out,
      subst (λ (l : Live). LacksRoom c.in-Err.error l) c.self.view_is lacks,
      ap (λ (o : Owner). live (record i { owned = o; leaving = None })) c.in-Err.ensures.same ∙ ap without_flush c.self.view_is,
    )
