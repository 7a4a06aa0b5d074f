use Rattle.std.proofs.Common.{rules, ◌≡◌, ◌+◌, ◌-◌, ◌<◌, ◌≤◌, ℕ, Bool, false, length, get_or, ap, sym, ◌∙◌, subst, arith}
use Rattle.uc_memtable.specs.Ends.{newest_end}
use Rattle.uc_memtable.specs.Labels.{deletes_range}
use Rattle.uc_memtable.specs.Linked.{has_label}
use Rattle.uc_memtable.specs.Sights.{seen_by, seen_passes}
use Rattle.uc_memtable.proofs.Ends.{newest_end-le, newest_end-again}
use Rattle.uc_memtable.proofs.Links.{label_before}
use Rattle.uc_memtable.proofs.Seeing.{sight-labelled}
use Rattle.uc_memtable.proofs.Walking.{AreLabelled, NoRangesFrom, no_ranges_first, no_ranges_next}
use Rattle.uc_memtable.proofs.lookup.newest_range.Goals as goal

pub loop-end-init : goal.loop-end-init
loop-end-init c =
    let labels = c.args.chains.now in
    let seen = seen_by c.args.sight.now in
    let labelled : AreLabelled seen labels = sight-labelled c.args.sight.now labels c.requires in
    let test : ℕ → Bool = has_label labels 0 in
    let is : c.newest-end.result ≡ newest_end test (length labels) = c.newest-end.ensures in
    let le : newest_end test (length labels) ≤ length labels = newest_end-le test (length labels) in
    record {
      within = omega (arith, is, le);
      ends = ap (newest_end test) is ∙ newest_end-again test (length labels) ∙ sym is;
      none = subst (NoRangesFrom seen) (sym is) (no_ranges_first seen labels labelled);
    }

pub loop-end-smaller : goal.loop-end-smaller
loop-end-smaller c =
    let labels = c.args.chains.now in
    let end = c.loop-end.end in
    let some : 0 < end = search rules in
    let down = newest_end-le (has_label labels (get_or labels (end - 1) 0)) (end - 1) in
    omega (arith, some, down, c.next_older-end.ensures)

pub loop-end-preserved : goal.loop-end-preserved
loop-end-preserved c =
    let labels = c.args.chains.now in
    let seen = seen_by c.args.sight.now in
    let labelled : AreLabelled seen labels = sight-labelled c.args.sight.now labels c.requires in
    let test : ℕ → Bool = has_label labels 0 in
    let end = c.loop-end.end in
    let some : 0 < end = search rules in
    let e : end ≡ end - 1 + 1 = omega (arith, some) in
    let here : get_or labels (end - 1) 0 ≡ 0 = label_before labels 0 end (end - 1) e c.loop-end.invariant.ends in
    let is : c.next_older-end.result ≡ newest_end test (end - 1) = c.next_older-end.ensures ∙ ap (λ (k : ℕ). newest_end (has_label labels k) (end - 1)) here in
    let le : newest_end test (end - 1) ≤ end - 1 = newest_end-le test (end - 1) in
    let fails : seen_passes deletes_range (seen (end - 1)) ≡ false = search rules in
    record {
      within = omega (arith, is, le, c.loop-end.invariant.within);
      ends = ap (newest_end test) is ∙ newest_end-again test (end - 1) ∙ sym is;
      none = subst (NoRangesFrom seen) (sym is) (no_ranges_next seen labels labelled end (end - 1) e fails c.loop-end.invariant.none);
    }
