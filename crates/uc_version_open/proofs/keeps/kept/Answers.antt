use Rattle.std.proofs.Common.{ap, sym, ◌∙◌, take, [], ◌∷◌, get_or}
use Rattle.std.proofs.lemmas.List.{take_more}
use Rattle.std.proofs.lemmas.List.Sums.{fold-append}
use Rattle.std.specs.Ordering.{nat_cmp}
use Rattle.std.specs.BTreeSet.{insert_key}
use Rattle.uc_version_state.specs.Openings.{rising}
use Rattle.uc_version_open.proofs.keeps.kept.Goals as goal

pub loop-keep-preserved : goal.loop-keep-preserved
loop-keep-preserved c =
    let keeps = c.args.keeps.now in
    let i = c.loop-keep.keep-index in
    c.in_ok-insert.ensures.keys
    ∙ ap (λ (ks : _). insert_key nat_cmp ks (get_or keeps i 0)) c.loop-keep.invariant
    ∙ sym (fold-append (insert_key nat_cmp) [] (take i keeps) (get_or keeps i 0 ∷ []))
    ∙ ap rising (sym (take_more keeps i 0 c.loop-keep-test.true))
