use Rattle.std.proofs.Common.{◌≡◌, List, map, ap, ◌∙◌, subst}
use Rattle.std.specs.Prelude.{option_map}
use Rattle.uc_run_entry.specs.Cutting.{fragments_of}
use Rattle.uc_run_entry.specs.Run.{Contents}
use Rattle.uc_compact.specs.Choice.{seqs_over}
use Rattle.uc_compact.specs.Inputs.{ranges_of}
use Rattle.uc_compact.specs.Pieces.{AreOver}
use Rattle.uc_compact.proofs.Gathered.{lent_over, together_are}
use Rattle.uc_compact.proofs.Pushing.{one_key, next, came, one_key_by, made_by}
use Rattle.uc_compact.proofs.points.push_groups.Goals as goal

pub push_kept_points-requires-clause-of_one_key : goal.push_kept_points-requires-clause-of_one_key
push_kept_points-requires-clause-of_one_key g c =
    let m = g.O.Operator.meaning in
    let key = c.in-Some.key.now in
    let runs = c.args.fronts.now in
    let cut = fragments_of (ranges_of runs) in
    let points = c.next_into.new.points.items in
    let lists = map (λ seqs. seqs.now) c.deref.result.now in
    let here : AreOver key runs lists =
    lent_over (λ seqs. seqs.now) key runs c.lists_over.new.lists.items c.deref.result.now c.deref.ensures.value
    (subst (λ (rs : List Contents). AreOver key rs (map (λ seqs. seqs.now) c.lists_over.new.lists.items)) c.loop-lists.invariant.0 c.in_ok-lists_over.ensures.lists) in
    let over : c.new-seqs.result ≡ seqs_over key cut = c.new-seqs.ensures ∙ together_are key runs lists here in
    one_key_by cut key points c.deref-in-Some.result.now c.new-seqs.result c.deref-in-Some.ensures.value over
    (one_key m c.args.keeping.now cut c.args.kept.now c.args.groups.now c.loop-lists.groups c.loop-lists.kept c.loop-lists.invariant.1 _ c.next_into.new.self
    (came c.loop-lists.groups (option_map (λ k. k.now) c.in_ok-key.field-0) key points c.next_into.new.self c.in_ok-key.ensures.comes (ap (option_map (λ k. k.now)) c.in-Some.is)))

pub loop-lists-preserved : goal.loop-lists-preserved
loop-lists-preserved g c =
    let m = g.O.Operator.meaning in
    let key = c.in-Some.key.now in
    let runs = c.args.fronts.now in
    let cut = fragments_of (ranges_of runs) in
    let points = c.next_into.new.points.items in
    let lists = map (λ seqs. seqs.now) c.deref.result.now in
    let here : AreOver key runs lists =
    lent_over (λ seqs. seqs.now) key runs c.lists_over.new.lists.items c.deref.result.now c.deref.ensures.value
    (subst (λ (rs : List Contents). AreOver key rs (map (λ seqs. seqs.now) c.lists_over.new.lists.items)) c.loop-lists.invariant.0 c.in_ok-lists_over.ensures.lists) in
    let over : c.new-seqs.result ≡ seqs_over key cut = c.new-seqs.ensures ∙ together_are key runs lists here in (
      c.in_ok-lists_over.ensures.same ∙ c.loop-lists.invariant.0,
      next m c.args.keeping.now cut c.args.kept.now c.args.groups.now c.loop-lists.groups c.loop-lists.kept c.loop-lists.invariant.1 _ c.next_into.new.self c.push_kept_points.new.kept
          (came c.loop-lists.groups (option_map (λ k. k.now) c.in_ok-key.field-0) key points c.next_into.new.self c.in_ok-key.ensures.comes (ap (option_map (λ k. k.now)) c.in-Some.is))
          (made_by m c.args.keeping.now cut key points c.deref-in-Some.result.now c.loop-lists.kept c.push_kept_points.new.kept c.new-seqs.result c.deref-in-Some.ensures.value over c.in_ok-push_kept_points.ensures.pushed),
    )
