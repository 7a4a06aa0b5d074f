use Rattle.std.proofs.Common.{◌≡◌, ◌++◌, [], leb, filter, sym, ap, ◌∙◌}
use Rattle.std.specs.List.{cons_option, slice_get}
use Rattle.std.proofs.lemmas.List.{append-nil}
use Rattle.uc_compact.specs.Output.{seq_kept}
use Rattle.uc_compact.proofs.Newest.{keeps_fewer, keeps_go_on, keeps_end, first_left}
use Rattle.uc_compact.proofs.fragment_seqs.kept_seqs.Goals.{in-Some-newest_kept+in_ok-push, in_default-newest_kept}
use Rattle.uc_compact.proofs.fragment_seqs.kept_seqs.Goals as goal

pub loop-next-smaller : goal.loop-next-smaller
loop-next-smaller c =
    let seqs = c.args.seqs.now in
    let s = c.stripe_of-stripe.result in
    let later : c.newest_at_or_below-next.result ≡ slice_get (filter (λ n. leb n s.above) seqs) 0 = c.newest_at_or_below-next.ensures ∙ ap (λ a. slice_get (filter (λ n. leb n a) seqs) 0) c.above.ensures in
    keeps_fewer c.args.keeping.now seqs c.loop-next.kept.items c.loop-next.next c.loop-next.invariant c.in-Some.newest c.in-Some.is s c.stripe_of-stripe.ensures c.newest_at_or_below-next.result later

pub loop-next-preserved : goal.loop-next-preserved
loop-next-preserved c =
    let k = c.args.keeping.now in
    let seqs = c.args.seqs.now in
    let kept = c.loop-next.kept.items in
    let next = c.loop-next.next in
    let on = c.loop-next.invariant in
    let s = c.stripe_of-stripe.result in
    let later : c.newest_at_or_below-next.result ≡ slice_get (filter (λ n. leb n s.above) seqs) 0 = c.newest_at_or_below-next.ensures ∙ ap (λ a. slice_get (filter (λ n. leb n a) seqs) 0) c.above.ensures in
    let made : c.newest_kept.result ≡ seq_kept k on.rest s = c.newest_kept.ensures on.rest on.fall on.from_one (first_left k seqs kept next on c.in-Some.newest c.in-Some.is s c.stripe_of-stripe.ensures) c.stripe_of-stripe.ensures (on.same c.in-Some.newest c.in-Some.is) in
    let grown : c.match-newest_kept.kept.items ≡ kept ++ cons_option c.newest_kept.result [] = elim c.match-newest_kept.branch [
      | in-Some-newest_kept+in_ok-push w ↦ ap (λ v. v.items) w.kept-is ∙ w.in_ok-push.ensures.items ∙ ap (λ o. kept ++ cons_option o []) (sym w.in-Some-newest_kept.is)
      | in_default-newest_kept w ↦ ap (λ v. v.items) w.kept-is ∙ sym (append-nil kept) ∙ ap (λ o. kept ++ cons_option o []) (sym w.in_default-newest_kept.is)
    ] in
    keeps_go_on k seqs kept next on c.in-Some.newest c.in-Some.is s c.stripe_of-stripe.ensures c.requires.keeps_rise c.newest_kept.result made c.newest_at_or_below-next.result later c.match-newest_kept.kept.items grown

pub returns : goal.returns
returns c = keeps_end c.args.keeping.now c.args.seqs.now c.loop-next.kept.items c.loop-next.next c.loop-next.invariant c.in_default.is
