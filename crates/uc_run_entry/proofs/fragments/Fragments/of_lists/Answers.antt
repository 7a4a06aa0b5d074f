use Rattle.std.proofs.Common.{rules, ◌≡◌, ◌∷◌, [], ◌++◌, ◌+◌, ◌-◌, ◌<◌, ◌≤◌, length, get_or, eqb, ap, sym, ◌∙◌, arith}
use Rattle.std.specs.Arc.{arc_value}
use Rattle.std.proofs.lemmas.List.{take_all}
use Rattle.uc_run_entry.specs.Cutting.{pieces}
use Rattle.uc_run_entry.specs.Fragment.{fragment_between}
use Rattle.uc_run_entry.specs.Spanning as spanning
use Rattle.uc_run_entry.specs.Spanning.{with_seqs}
use Rattle.uc_run_entry.proofs.Covered.{piece_pushed, piece_left, length-all}
use Rattle.uc_run_entry.proofs.fragments.Fragments.of_lists.Goals.{then-not-is_empty+in_ok-seqs+in_ok-clone+in_ok-push, else-not-is_empty}
use Rattle.uc_run_entry.proofs.fragments.Fragments.of_lists.Goals as goal

pub new-requires : goal.new-requires
new-requires c =
    let within : c.loop-piece.piece < length (arc_value c.args.lists.now) = search rules in
    let same : arc_value c.in_ok-clone.field-0 ≡ arc_value c.args.cuts.now = search rules in
    rw same (omega (arith, within, c.requires))

pub loop-piece-preserved : goal.loop-piece-preserved
loop-piece-preserved c =
    let l = c.loop-piece in
    let cuts = arc_value c.args.cuts.now in
    let lists = arc_value c.args.lists.now in
    let within : l.piece < length lists = search rules in
    let empty : c.is_empty.result ≡ eqb (length (get_or lists l.piece [])) 0 = search rules in
    elim c.if-not-is_empty.branch [
      | then-not-is_empty+in_ok-seqs+in_ok-clone+in_ok-push w ↦
          piece_pushed cuts lists c.requires l.piece within l.list.items l.invariant c.if-not-is_empty.list.items
          (ap (λ list. list.items) w.list-is ∙ w.in_ok-push.ensures.items
          ∙ ap (λ f. l.list.items ++ f ∷ []) (w.new.ensures ∙ (λ j. fragment_between ((let copy : arc_value w.in_ok-clone.field-0 ≡ cuts = search rules in copy) j) l.piece (w.in_ok-seqs.ensures j)))) (sym empty ∙ search rules)
      | else-not-is_empty w ↦ ap (λ list. list.items) w.list-is ∙ piece_left cuts lists c.requires l.piece within l.list.items l.invariant (sym empty ∙ search rules)
    ]

pub returns : goal.returns
returns c =
    let l = c.loop-piece in
    let cuts = arc_value c.args.cuts.now in
    let lists = arc_value c.args.lists.now in
    let past : length lists ≤ l.piece = search rules in
    c.from.ensures ∙ l.invariant ∙ ap spanning.covered (take_all l.piece (with_seqs (pieces cuts) lists) (omega (arith, past, length-all cuts lists c.requires)))
