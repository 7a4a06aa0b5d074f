use Rattle.std.proofs.Common.{rules, refl, ◌≡◌, ◌≤◌, ◌∙◌, List, length, get_or, take, ap, subst, arith}
use Rattle.std.proofs.lemmas.List.{length-map, length-take-le, take_all}
use Rattle.uc_run_entry.specs.declared.entry.Entry.{Entry}
use Rattle.uc_run.specs.Prefixes.{AreBytes}
use Rattle.uc_run.specs.Ranks.{HasFront, HaveBytes, HaveFront, entry_at, points_of}
use Rattle.uc_run.proofs.RankOrder.{fronts_more, bytes_more}
use Rattle.uc_run.proofs.ranks.shared_with.Goals as goal

pub loop-rank-preserved : goal.loop-rank-preserved
loop-rank-preserved c =
    let writes = c.args.ranked.now.slots in
    let bits = c.args.ranked.now.bits in
    let first = c.args.first.now in
    let ranks = c.args.ranks.now in
    let i = c.loop-rank.rank-index in
    let r = get_or ranks i 0 in
    let p = entry_at writes bits r in
    let shared = c.loop-rank.shared in
    let less = c.begins_with-shared.result in
    let fit : shared ≤ length first = c.loop-rank.invariant.0 in
    let le : less ≤ shared = omega (arith, c.begins_with-shared.ensures.bound, length-take-le shared first fit) in
    let key : c.key.result.now ≡ p.key = c.key.ensures ∙ ap (λ (q : Entry). q.key) c.point.ensures in
    let here : HasFront less (take shared first) p.key = subst (HasFront less (take shared first)) key c.begins_with-shared.ensures.front in
    let bytes : AreBytes p.key = subst AreBytes key c.begins_with-shared.ensures.bytes in (
      omega (arith, le, fit),
      fronts_more writes bits less shared first ranks i r le c.loop-rank-test.true refl here c.loop-rank.invariant.1,
      bytes_more writes bits less shared first ranks i r le c.loop-rank-test.true refl bytes c.loop-rank.invariant.2,
    )

pub returns : goal.returns
returns c =
    let writes = c.args.ranked.now.slots in
    let bits = c.args.ranked.now.bits in
    let ranks = c.args.ranks.now in
    let points : List Entry = points_of writes bits ranks in
    let long : length points ≡ length ranks = length-map ranks (entry_at writes bits) in
    let end : length ranks ≤ c.loop-rank.rank-index = search rules in
    let all : take c.loop-rank.rank-index points ≡ points = take_all c.loop-rank.rank-index points (omega (arith, long, end)) in
    record {
      front = subst (HaveFront c.loop-rank.shared c.args.first.now) all c.loop-rank.invariant.1;
      bytes = subst HaveBytes all c.loop-rank.invariant.2;
    }
