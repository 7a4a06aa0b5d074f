use Rattle.std.proofs.Common.{rules, ◌≡◌, ◌<◌, ◌++◌, ℕ, List, [], ltb, Some, None, sym, ap, ◌∙◌, subst}
use Rattle.std.specs.Prelude.{Option, OnOk}
use Rattle.std.specs.List.{AllByRecursion, cons_option, slice_get}
use Rattle.std.specs.Option.{option_to_list}
use Rattle.std.proofs.lemmas.List.{append-nil}
use Rattle.uc_run_entry.specs.declared.entry.Entry.{Entry}
use Rattle.uc_run_entry.specs.declared.entry.What.TheVariants.{Put}
use Rattle.uc_run_entry.specs.Lookup.{above_newest}
use Rattle.uc_run_entry.specs.Packed.{what_of}
use Rattle.uc_compact.specs.Choice.{point_for}
use Rattle.uc_compact.specs.Output.{greatest, what_kept}
use Rattle.uc_compact.proofs.Onward.{point_is, stood}
use Rattle.uc_compact.proofs.OnTop.{put_stays}
use Rattle.uc_compact.proofs.kept_points.push_point_for.Goals as goal

pub returns-clause-pushed : goal.returns-clause-pushed
returns-clause-pushed g c =
    let m = g.O.Operator.meaning in
    let key = c.args.key.now in
    let value = c.in-Put.value.now in
    let range = option_to_list c.args.range in
    let p : Entry = c.in-Some.newest.now in
    let ps = c.args.points.now in
    let first : slice_get ps 0 ≡ Some p = search rules in
    let says : p.what ≡ Put value = search rules in
    let below : AllByRecursion (λ n. n < p.seq) range = subst (λ (s : ℕ). AllByRecursion (λ n. n < s) range) c.seq-seq.ensures.value (c.is_below.ensures.0 c.if-is_below.true) in
    let pushed : Entry = record { key = key; seq = c.seq-seq.result; what = Put value } in
    let own : Entry = record { key = key; seq = p.seq; what = p.what } in
    let same : pushed ≡ own = λ i. record { key = key; seq = c.seq-seq.ensures.value i; what = sym says i } in
    let made : Some pushed ≡ point_for m c.args.bottom key ps range =
    ap (λ (q : Entry). Some q) same
    ∙ ap (stood m key p.seq) (sym (put_stays m p value says c.args.bottom (ltb p.seq (greatest range)) ps range first below))
    ∙ point_is m key c.args.bottom ps range p first c.requires.fall c.requires.from_one in
    subst (λ (o : Option Entry). OnOk c.push.result (c.push.new.self ≡ c.args.kept.now ++ cons_option o [])) made c.push.ensures.pushed

pub returns-in-None-clause-pushed : goal.returns-in-None-clause-pushed
returns-in-None-clause-pushed g c =
    let m = g.O.Operator.meaning in
    let key = c.args.key.now in
    let range = option_to_list c.args.range in
    let p : Entry = c.in-Some.newest.now in
    let ps = c.args.points.now in
    let kept : List Entry = c.args.kept.now in
    let first : slice_get ps 0 ≡ Some p = search rules in
    let none : None ≡ what_kept m c.args.bottom (above_newest m ps range) (ltb p.seq (greatest range)) = search rules in
    let made : None ≡ point_for m c.args.bottom key ps range = ap (stood m key p.seq) none ∙ point_is m key c.args.bottom ps range p first c.requires.fall c.requires.from_one in
    sym (append-nil kept) ∙ ap (λ (o : Option Entry). kept ++ cons_option o []) made

pub returns-in-Some-2-clause-pushed : goal.returns-in-Some-2-clause-pushed
returns-in-Some-2-clause-pushed g c =
    let m = g.O.Operator.meaning in
    let key = c.args.key.now in
    let range = option_to_list c.args.range in
    let p : Entry = c.in-Some.newest.now in
    let ps = c.args.points.now in
    let first : slice_get ps 0 ≡ Some p = search rules in
    let some : Some c.in-Some-2.what ≡ what_kept m c.args.bottom (above_newest m ps range) (ltb p.seq (greatest range)) = search rules in
    let pushed : Entry = record { key = key; seq = c.seq-seq.result; what = what_of c.of.result } in
    let own : Entry = record { key = key; seq = p.seq; what = c.in-Some-2.what } in
    let same : pushed ≡ own = λ i. record { key = key; seq = c.seq-seq.ensures.value i; what = c.of.ensures i } in
    let made : Some pushed ≡ point_for m c.args.bottom key ps range =
    ap (λ (q : Entry). Some q) same
    ∙ ap (stood m key p.seq) some
    ∙ point_is m key c.args.bottom ps range p first c.requires.fall c.requires.from_one in
    subst (λ (o : Option Entry). OnOk c.push-in-Some-2.result (c.push-in-Some-2.new.self ≡ c.args.kept.now ++ cons_option o [])) made c.push-in-Some-2.ensures.pushed
