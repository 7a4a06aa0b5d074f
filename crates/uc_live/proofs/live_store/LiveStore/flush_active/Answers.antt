use Rattle.std.proofs.Common.{◌≡◌, List, [], refl, inr, ap, sym, ◌∙◌, subst}
use Rattle.uc_bytes.specs.declared.write.Write.{Write}
use Rattle.uc_memtable.specs.Gathering.{Gathered}
use Rattle.uc_version.specs.Owners.{Owner}
use Rattle.uc_live.specs.Lives.{Live}
use Rattle.uc_live.specs.Going.{Follows}
use Rattle.uc_live.specs.HeldLives.{live}
use Rattle.uc_live.proofs.Held.{flushed_is, same_is}
use Rattle.uc_live.proofs.Flush.{Why, why, not_back, not_many, ids_spent, flushes, holds_over, claims_stay}
use Rattle.uc_live.proofs.live_store.LiveStore.flush_active.Goals as goal

pub invariant_of-self : goal.invariant_of-self
invariant_of-self g c = flushed_is c.self.inside c.self.invariant c.feed_gathered.new.owned c.clear.new.self c.in-Ok.ensures.ok.1 c.clear.ensures

pub invariant_of-self-in-Err-IdsSpent : goal.invariant_of-self-in-Err-IdsSpent
invariant_of-self-in-Err-IdsSpent g c = same_is c.self.inside c.self.invariant c.feed_gathered.new.owned c.in-Err-IdsSpent.ensures.err.0

pub invariant_of-self-in-Err-Memory : goal.invariant_of-self-in-Err-Memory
invariant_of-self-in-Err-Memory g c = same_is c.self.inside c.self.invariant c.feed_gathered.new.owned c.in-Err-Memory.ensures.err.0

pub unreachable-requires : goal.unreachable-requires
unreachable-requires g c =
    let v = c.self.inside.owned.version in
    let found = why c.self.inside c.self.invariant c.recall.ensures c.args.self.now c.self.view_is c.small_writes_fill_one_memtable.ensures c.no_refusal_is_leave_to_feed.ensures c.requires.some c.requires.free
    c.in-Err-Back.field-0 c.in-Err-Back.ensures.err.1 in
    not_back v c.in-Err-Back.field-0-0 (subst (Why v) c.in-Err-Back.field-0-is found)

pub unreachable-requires-in-Err-TooManyRuns : goal.unreachable-requires-in-Err-TooManyRuns
unreachable-requires-in-Err-TooManyRuns g c =
    let v = c.self.inside.owned.version in
    let found = why c.self.inside c.self.invariant c.recall.ensures c.args.self.now c.self.view_is c.small_writes_fill_one_memtable.ensures c.no_refusal_is_leave_to_feed.ensures c.requires.some c.requires.free
    c.in-Err-TooManyRuns.field-0 c.in-Err-TooManyRuns.ensures.err.1 in
    not_many v (subst (Why v) c.in-Err-TooManyRuns.field-0-is found)

pub returns-in-Ok-clause-goes_on : goal.returns-in-Ok-clause-goes_on
returns-in-Ok-clause-goes_on g c =
    let m = g.O.Operator.meaning in
    let now = c.args.self.now in
    let on = flushes c.self.inside c.self.invariant c.recall.ensures c.args.self.now c.self.view_is c.small_writes_fill_one_memtable.ensures c.no_refusal_is_leave_to_feed.ensures c.requires.some c.requires.free m c.feed_gathered.new.owned c.in-Ok.ensures.ok.0 c.in-Ok.ensures.ok.1 in
    let holds = holds_over c.self.inside c.self.invariant c.recall.ensures c.args.self.now c.self.view_is c.small_writes_fill_one_memtable.ensures c.no_refusal_is_leave_to_feed.ensures c.requires.some c.requires.free c.claims_keep_their_runs.ensures.over_a_feed c.feed_gathered.new.owned c.in-Ok.ensures.ok.0 c.in-Ok.ensures.ok.1 in
    let same = claims_stay c.self.inside c.self.invariant c.recall.ensures c.args.self.now c.self.view_is c.small_writes_fill_one_memtable.ensures c.no_refusal_is_leave_to_feed.ensures c.requires.some c.requires.free c.feed_gathered.new.owned c.in-Ok.ensures.ok.1 in
    let none : [] ≡ c.clear.new.self.shown = sym (ap (λ (a : Gathered). a.shown) c.clear.ensures) in (
      subst (λ (ws : List Write). Follows m now.version c.feed_gathered.new.owned.version now.gathered ws []) none on,
      ap (λ (l : Live). l.snapshots) c.self.view_is,
      ap (λ (l : Live). l.options) c.self.view_is,
      holds,
      same,
      (ap (λ (l : Live). l.flushes) c.self.view_is, inr refl),
    )

pub returns-in-Err-IdsSpent-clause-err : goal.returns-in-Err-IdsSpent-clause-err
returns-in-Err-IdsSpent-clause-err g c =
    let v = c.self.inside.owned.version in
    let found = why c.self.inside c.self.invariant c.recall.ensures c.args.self.now c.self.view_is c.small_writes_fill_one_memtable.ensures c.no_refusal_is_leave_to_feed.ensures c.requires.some c.requires.free
    c.in-Err-IdsSpent.field-0 c.in-Err-IdsSpent.ensures.err.1 in
    let spent = ids_spent v (subst (Why v) c.in-Err-IdsSpent.field-0-is found) in (
      λ left. spent (λ same. left (ap (λ (l : Live). l.version.next_id) (sym c.self.view_is) ∙ same)),
      ap (λ (o : Owner). live (record c.self.inside { owned = o })) c.in-Err-IdsSpent.ensures.err.0 ∙ c.self.view_is,
    )
