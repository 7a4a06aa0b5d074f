use Rattle.std.proofs.Common.{◌<◌, ◌^◌, ◌++◌, ◌∙◌, List, ap, sym, subst, append_assoc}
use Rattle.std.specs.List.{AllByRecursion}
use Rattle.std.proofs.lemmas.List.{map-append}
use Rattle.uc_run_entry.specs.declared.entry.Entry.{Entry}
use Rattle.uc_run.specs.Ranks.{entry_at, points_of}
use Rattle.uc_run.proofs.RankOrder.{all_front, all_behind}
use Rattle.uc_run.proofs.ranks.pack_ranked.Goals as goal

pub push_points-requires : goal.push_points-requires
push_points-requires c =
    let ranked = c.args.ranked.now in
    let points = points_of ranked.slots ranked.bits in
    let next = c.split_at.result.0.now in
    let behind = c.split_at.result.1.now in
    let parts = ap points c.split_at.ensures.by_index.0 ∙ map-append (entry_at ranked.slots ranked.bits) next behind in
    let both = subst (AllByRecursion (λ (p : Entry). p.seq < 2 ^ 56)) parts c.loop-rest.invariant.below in
    subst (AllByRecursion (λ (p : Entry). p.seq < 2 ^ 56)) (sym (c.deref.ensures.value ∙ c.in_ok-put_points.ensures)) (all_front (λ (p : Entry). p.seq < 2 ^ 56) (points next) (points behind) both)

pub loop-rest-preserved : goal.loop-rest-preserved
loop-rest-preserved c =
    let ranked = c.args.ranked.now in
    let points = points_of ranked.slots ranked.bits in
    let next = c.split_at.result.0.now in
    let behind = c.split_at.result.1.now in
    let packed = c.loop-rest.packed in
    let parts = ap points c.split_at.ensures.by_index.0 ∙ map-append (entry_at ranked.slots ranked.bits) next behind in
    let both = subst (AllByRecursion (λ (p : Entry). p.seq < 2 ^ 56)) parts c.loop-rest.invariant.below in
    record {
      all =
          ap (λ (ps : List Entry). ps ++ points behind) (c.in_ok-push_points.ensures ∙ ap (λ (ps : List Entry). packed ++ ps) (c.deref.ensures.value ∙ c.in_ok-put_points.ensures))
          ∙ append_assoc packed (points next) (points behind)
          ∙ ap (λ (ps : List Entry). packed ++ ps) (sym parts)
          ∙ c.loop-rest.invariant.all;
      below = all_behind (λ (p : Entry). p.seq < 2 ^ 56) (points next) (points behind) both;
    }
