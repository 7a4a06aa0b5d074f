use Rattle.std.proofs.Common.{rules, ◌≡◌, [], ◌∷◌, ◌-◌, map, length, filter, subst, ap, sym, ◌∙◌}
use Rattle.std.specs.Arc.{arc_value}
use Rattle.std.specs.List.{AllByRecursion, flat_map}
use Rattle.std.specs.List.Sorted.{IsStrictlySortedBy}
use Rattle.std.proofs.lemmas.Cmp.{nat_list_cmp_total}
use Rattle.std.proofs.lemmas.List.{length-map}
use Rattle.std.proofs.lemmas.List.FromFn.{length-map-range_with_len}
use Rattle.uc_bytes.specs.Bytes.{bytes_cmp}
use Rattle.uc_run_entry.specs.Cutting.{cut_points, has_keys, pieces}
use Rattle.uc_run_entry.specs.Spanning.{spans_of, covered, with_seqs}
use Rattle.uc_run_entry.proofs.Covered.{all_within, seqs_of_covered}
use Rattle.uc_run_entry.proofs.Sets.{sorted_set}
use Rattle.uc_run_entry.proofs.Spanned.{spanned, length-pieces}
use Rattle.uc_run_entry.specs.Spans.{IsWithin, seqs_in, falling, listed}
use Rattle.uc_run_entry.proofs.cutting.cut_ranges.Goals as goal

pub spans_of-requires : goal.spans_of-requires
spans_of-requires c =
    let cuts : map (λ cut. cut.now) c.deref.result.now ≡ cut_points c.args.ranges.now = ap (map (λ cut. cut.now)) c.deref.ensures.value ∙ c.in_ok-cuts.ensures ∙ c.in_ok-cut_points.ensures in
    subst (IsStrictlySortedBy bytes_cmp) (sym cuts) (sorted_set bytes_cmp nat_list_cmp_total (flat_map (λ r. r.begin ∷ r.end ∷ []) (filter has_keys c.args.ranges.now)))

pub new-requires : goal.new-requires
new-requires c =
    let cuts = map (λ cut. cut.now) c.deref.result.now in
    let long : length cuts ≡ length c.deref.result.now = length-map c.deref.result.now (λ cut. cut.now) in
    let count : c.saturating_sub.result ≡ length c.deref.result.now - 1 = search rules in
    let all : AllByRecursion (IsWithin (length cuts - 1)) (spans_of cuts c.args.ranges.now) = all_within cuts c.args.ranges.now in
    rw (count, sym long, c.in_ok-lists.ensures) all

pub covered-requires-clause-pieces : goal.covered-requires-clause-pieces
covered-requires-clause-pieces c =
    let made : arc_value c.in_ok-spans.spans ≡ listed c.saturating_sub.result c.in_ok-lists.lists.items = c.in_ok-spans.ensures.ok ∙ c.in_ok-new.ensures in
    let texts : arc_value c.in_ok-texts.texts ≡ map (λ cut. cut.now) c.deref-3.result.now = c.in_ok-texts.ensures.ok ∙ c.in_ok-of.ensures in
    let count : c.saturating_sub.result ≡ length c.deref-3.result.now - 1 = search rules in
    ap length made ∙ length-map-range_with_len (λ i. falling (seqs_in i c.in_ok-lists.lists.items)) 0 c.saturating_sub.result ∙ count
    ∙ ap (λ n. n - 1) (sym (ap length texts ∙ length-map c.deref-3.result.now (λ cut. cut.now)))

pub with_spans-requires : goal.with_spans-requires
with_spans-requires c =
    let cuts = arc_value c.in_ok-texts.texts in
    let lists = arc_value c.in_ok-spans.spans in
    let made : lists ≡ listed c.saturating_sub.result c.in_ok-lists.lists.items = c.in_ok-spans.ensures.ok ∙ c.in_ok-new.ensures in
    let texts : cuts ≡ map (λ cut. cut.now) c.deref-3.result.now = c.in_ok-texts.ensures.ok ∙ c.in_ok-of.ensures in
    let count : c.saturating_sub.result ≡ length c.deref-3.result.now - 1 = search rules in
    let long : length lists ≡ length (pieces cuts) =
    ap length made ∙ length-map-range_with_len (λ i. falling (seqs_in i c.in_ok-lists.lists.items)) 0 c.saturating_sub.result ∙ count
    ∙ ap (λ n. n - 1) (sym (ap length texts ∙ length-map c.deref-3.result.now (λ cut. cut.now))) ∙ sym (length-pieces cuts) in
    ap (map (λ f. f.seqs)) c.in_ok-fragments.ensures ∙ seqs_of_covered (pieces cuts) lists long

pub returns : goal.returns
returns c =
    let ranges = c.args.ranges.now in
    let first : map (λ cut. cut.now) c.deref.result.now ≡ cut_points ranges = ap (map (λ cut. cut.now)) c.deref.ensures.value ∙ c.in_ok-cuts.ensures ∙ c.in_ok-cut_points.ensures in
    let cuts : map (λ cut. cut.now) c.deref-3.result.now ≡ cut_points ranges = ap (map (λ cut. cut.now)) c.deref-3.ensures.value ∙ c.in_ok-cuts.ensures ∙ c.in_ok-cut_points.ensures in
    let texts : arc_value c.in_ok-texts.texts ≡ cut_points ranges = c.in_ok-texts.ensures.ok ∙ c.in_ok-of.ensures ∙ cuts in
    let spans : c.in_ok-lists.lists.items ≡ spans_of (cut_points ranges) ranges = c.in_ok-lists.ensures ∙ ap (λ cs. spans_of cs ranges) first in
    let count : c.saturating_sub.result ≡ length c.deref-3.result.now - 1 = search rules in
    let same : c.saturating_sub.result ≡ length (cut_points ranges) - 1 = count ∙ ap (λ n. n - 1) (sym (length-map c.deref-3.result.now (λ cut. cut.now)) ∙ ap length cuts) in
    let made : arc_value c.in_ok-spans.spans ≡ listed (length (cut_points ranges) - 1) (spans_of (cut_points ranges) ranges) = c.in_ok-spans.ensures.ok ∙ c.in_ok-new.ensures ∙ (λ j. listed (same j) (spans j)) in
    c.with_spans.ensures
    ∙ c.in_ok-fragments.ensures
    ∙ (λ j. covered (with_seqs (pieces (texts j)) (made j)))
    ∙ ap covered (spanned (cut_points ranges) (sorted_set bytes_cmp nat_list_cmp_total (flat_map (λ r. r.begin ∷ r.end ∷ []) (filter has_keys ranges))) ranges)
