use Rattle.std.proofs.Common.{◌≡◌, ◌<◌, ◌^◌, ◌∙◌, ap, List, sym, subst}
use Rattle.std.specs.Prelude.{IfOk}
use Rattle.std.specs.List.{AllByRecursion}
use Rattle.uc_bytes.specs.declared.write.Write.{Write}
use Rattle.uc_run_entry.specs.declared.entry.Entry.{Entry}
use Rattle.uc_run.specs.Points.{HaveOwnSeqs}
use Rattle.uc_run.specs.Ranks.{points_of}
use Rattle.uc_run.proofs.RankOrder.{back_by_key}
use Rattle.uc_run.proofs.flush.points_by_key.Goals as goal

pub sort_by_key-requires : goal.sort_by_key-requires
sort_by_key-requires c =
    let bits = c.bits_below-bits.result in
    let numbers = ap (λ (ws : List Write). points_of ws bits c.in_ok-ranks.ranks.items) c.again.ensures ∙ c.in_ok-ranks.ensures in
    subst HaveOwnSeqs (sym (ap (points_of c.again.result bits) c.deref_mut.ensures.value ∙ numbers)) c.requires.own

pub pack_ranked-packed-requires : goal.pack_ranked-packed-requires
pack_ranked-packed-requires c =
    let ranks = c.in_ok-ranks.ranks in
    let bits = c.bits_below-bits.result in
    let numbers = ap (λ (ws : List Write). points_of ws bits ranks.items) c.again.ensures ∙ c.in_ok-ranks.ensures in
    let back = back_by_key c.again.result bits _ ranks.items c.deref_mut.result.now c.sort_by_key.new.ranks _ c.deref.result.now ranks.len numbers (sym ranks.ok.0) c.deref_mut.ensures.value c.sort_by_key.ensures.order c.sort_by_key.ensures.len c.deref.ensures.value in
    subst (AllByRecursion (λ (p : Entry). p.seq < 2 ^ 56)) (sym back) c.requires.below

pub returns : goal.returns
returns c =
    let ranks = c.in_ok-ranks.ranks in
    let bits = c.bits_below-bits.result in
    let numbers = ap (λ (ws : List Write). points_of ws bits ranks.items) c.again.ensures ∙ c.in_ok-ranks.ensures in
    let back = back_by_key c.again.result bits _ ranks.items c.deref_mut.result.now c.sort_by_key.new.ranks _ c.deref.result.now ranks.len numbers (sym ranks.ok.0) c.deref_mut.ensures.value c.sort_by_key.ensures.order c.sort_by_key.ensures.len c.deref.ensures.value in
    subst (λ (ps : List Entry). IfOk c.pack_ranked-packed.result (λ packed. packed ≡ ps)) back c.pack_ranked-packed.ensures
