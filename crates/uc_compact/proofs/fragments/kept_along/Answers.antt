use Rattle.std.proofs.Common.{rules, ◌≡◌, ℕ, ◌+◌, ◌-◌, ◌<◌, List, [], ◌∷◌, ◌++◌, length, refl, sym, ap, ◌∙◌, arith}
use Rattle.std.specs.Option.{option_copied}
use Rattle.std.specs.Prelude.{Some, None}
use Rattle.std.proofs.lemmas.List.{length-append}
use Rattle.uc_run_entry.specs.Cutting.{pieces}
use Rattle.uc_run_entry.specs.Fragment.{Fragment}
use Rattle.uc_run_entry.specs.Run.{Contents}
use Rattle.uc_run_entry.specs.Spanning.{covered, with_seqs}
use Rattle.uc_compact.specs.NextCut.{ends_in, least_above}
use Rattle.uc_compact.specs.Pieces.{kept_over}
use Rattle.uc_compact.proofs.KeptPieces.{kept_of, piece_more, no_more, all_kept, made_more}
use Rattle.uc_compact.proofs.NextCuts.{above, cuts_in, next_cut_is, no_cut_is, first_piece}
use Rattle.uc_compact.proofs.fragments.kept_along.Goals as goal

pub loop-end-init : goal.loop-end-init
loop-end-init c =
    let k = c.args.keeping.now in
    let runs = c.args.fronts.now in
    let none : c.in_ok-kept.kept ≡ [] = c.in_ok-kept.ensures in
    let one : c.push.new.self ≡ [] ∷ [] = c.in_ok-push.ensures.pushed ∙ ap (λ (cs : List (List ℕ)). cs ++ [] ∷ []) c.in_ok-cuts.ensures in
    record {
      same = refl;
      before = [];
      cuts = one;
      long = ap length none ∙ sym (ap (λ (cs : List (List ℕ)). length cs - 1) one);
      made = (λ j. covered (with_seqs (pieces (one j)) (none j)) ++ kept_of k runs (pieces ([] ∷ above [] (cuts_in runs)))) ∙ first_piece k runs;
    }

pub loop-end-smaller : goal.loop-end-smaller
loop-end-smaller c =
    let runs = c.args.fronts.now in
    let begin = c.loop-end.begin.now in
    let end = c.in-Some.end.now in
    let found : least_above begin (ends_in runs) ≡ Some end =
    ap (λ (rs : List Contents). least_above begin (ends_in rs)) (sym c.loop-end.invariant.same) ∙ sym c.next_cut.ensures.least ∙ ap option_copied c.in-Some.is in
    let step : above begin (cuts_in runs) ≡ end ∷ above end (cuts_in runs) = next_cut_is begin (ends_in runs) end found in
    let long : length (above begin (cuts_in runs)) ≡ length (end ∷ above end (cuts_in runs)) = ap length step in
    omega (arith, long)

pub loop-end-preserved : goal.loop-end-preserved
loop-end-preserved c =
    let k = c.args.keeping.now in
    let runs = c.args.fronts.now in
    let begin = c.loop-end.begin.now in
    let end = c.in-Some.end.now in
    let cuts = c.loop-end.cuts in
    let kept = c.loop-end.kept in
    let made = covered (with_seqs (pieces cuts) kept) in
    let found : least_above begin (ends_in runs) ≡ Some end =
    ap (λ (rs : List Contents). least_above begin (ends_in rs)) (sym c.loop-end.invariant.same) ∙ sym c.next_cut.ensures.least ∙ ap option_copied c.in-Some.is in
    let step : above begin (cuts_in runs) ≡ end ∷ above end (cuts_in runs) = next_cut_is begin (ends_in runs) end found in
    let same : c.next_cut.new.fronts ≡ runs = c.next_cut.ensures.same ∙ c.loop-end.invariant.same in
    let so_far = ap (λ (cs : List (List ℕ)). made ++ kept_of k runs (pieces (begin ∷ cs))) (sym step) ∙ c.loop-end.invariant.made in
    let listed : c.push_kept.new.kept ≡ kept ++ kept_over k runs begin ∷ [] =
    c.in_ok-push_kept.ensures.pushed ∙ ap (λ (rs : List Contents). kept ++ kept_over k rs begin ∷ []) same in
    let cut : c.push-in-Some.new.self ≡ cuts ++ end ∷ [] = c.in_ok-push-2.ensures.pushed in
    let pushed : covered (with_seqs (pieces c.push-in-Some.new.self) c.push_kept.new.kept) ≡ made ++ kept_of k runs ((begin, end) ∷ []) =
    (λ j. covered (with_seqs (pieces (cut j)) (listed j))) ∙ made_more k runs c.loop-end.invariant.before begin end cuts kept c.loop-end.invariant.cuts c.loop-end.invariant.long in
    let lists : length c.push_kept.new.kept ≡ length kept + 1 = ap length listed ∙ length-append kept (kept_over k runs begin ∷ []) in
    let texts : length c.push-in-Some.new.self ≡ length cuts + 1 = ap length cut ∙ length-append cuts (end ∷ []) in
    let some : length cuts ≡ length c.loop-end.invariant.before + 1 = ap length c.loop-end.invariant.cuts ∙ length-append c.loop-end.invariant.before (begin ∷ []) in
    let long : length kept ≡ length cuts - 1 = c.loop-end.invariant.long in
    record {
      same = c.in_ok-push_kept.ensures.same ∙ same;
      before = cuts;
      cuts = cut;
      long = omega (arith, lists, texts, some, long);
      made = piece_more k runs made _ (begin, end) (pieces (end ∷ above end (cuts_in runs))) so_far _ pushed;
    }

pub returns-clause-kept : goal.returns-clause-kept
returns-clause-kept c =
    let k = c.args.keeping.now in
    let runs = c.args.fronts.now in
    let begin = c.loop-end.begin.now in
    let made = covered (with_seqs (pieces c.loop-end.cuts) c.loop-end.kept) in
    let none : least_above begin (ends_in runs) ≡ None =
    ap (λ (rs : List Contents). least_above begin (ends_in rs)) (sym c.loop-end.invariant.same) ∙ sym c.next_cut.ensures.least ∙ ap option_copied c.in_default.is in
    no_more k runs made _ (ap (λ (cs : List (List ℕ)). made ++ kept_of k runs (pieces (begin ∷ cs))) (sym (no_cut_is begin (ends_in runs) none)) ∙ c.loop-end.invariant.made)
    ∙ all_kept k runs (cuts_in runs)

pub returns-clause-long : goal.returns-clause-long
returns-clause-long c = c.loop-end.invariant.long
