use Rattle.std.proofs.Common.{rules, ◌≡◌, ◌∷◌, [], ◌++◌, ◌+◌, ◌-◌, ◌<◌, ◌≤◌, length, get_or, eqb, ap, sym, ◌∙◌, arith}
use Rattle.std.specs.Arc.{arc_value}
use Rattle.std.proofs.lemmas.List.{take_all}
use Rattle.uc_run_entry.specs.Cutting.{pieces}
use Rattle.uc_run_entry.specs.Fragment.{fragment_between}
use Rattle.uc_run_entry.specs.Spanning as spanning
use Rattle.uc_run_entry.specs.Spanning.{with_seqs}
use Rattle.uc_run_entry.proofs.Covered.{piece_pushed, piece_left, length-all}
use Rattle.uc_run_entry.proofs.cutting.covered.Goals.{then-not-is_empty+in_ok-clone+in_ok-push, else-not-is_empty+in-One-1, else-not-is_empty+in-Few-1, else-not-is_empty+in-Shared-1}
use Rattle.uc_run_entry.proofs.cutting.covered.Goals as goal

pub new-requires : goal.new-requires
new-requires c =
    let within : c.loop-piece.piece < length (arc_value c.args.spans.now) = search rules in
    let same : arc_value c.in_ok-clone.field-0 ≡ arc_value c.args.cuts.now = search rules in
    rw same (omega (arith, within, c.requires.pieces))

pub loop-piece-preserved : goal.loop-piece-preserved
loop-piece-preserved c =
    let l = c.loop-piece in
    let cuts = arc_value c.args.cuts.now in
    let lists = arc_value c.args.spans.now in
    let within : l.piece < length lists = search rules in
    let seqs : c.in_ok-seqs.seqs ≡ get_or lists l.piece [] = c.in_ok-seqs.ensures in
    let empty : c.is_empty.result ≡ eqb (length (get_or lists l.piece [])) 0 = c.is_empty.ensures ∙ ap (λ seqs. eqb (length seqs) 0) seqs in
    elim c.if-not-is_empty.branch [
      | then-not-is_empty+in_ok-clone+in_ok-push w ↦
          piece_pushed cuts lists c.requires.pieces l.piece within l.fragments.items l.invariant c.if-not-is_empty.fragments.items
          (ap (λ fragments. fragments.items) w.fragments-is ∙ w.in_ok-push.ensures.items
          ∙ ap (λ f. l.fragments.items ++ f ∷ []) (w.new.ensures ∙ (λ j. fragment_between ((let copy : arc_value w.in_ok-clone.field-0 ≡ cuts = search rules in copy) j) l.piece (seqs j)))) (sym empty ∙ search rules)
      | else-not-is_empty+in-One-1 w ↦ ap (λ fragments. fragments.items) w.fragments-is ∙ piece_left cuts lists c.requires.pieces l.piece within l.fragments.items l.invariant (sym empty ∙ search rules)
      | else-not-is_empty+in-Few-1 w ↦ ap (λ fragments. fragments.items) w.fragments-is ∙ piece_left cuts lists c.requires.pieces l.piece within l.fragments.items l.invariant (sym empty ∙ search rules)
      | else-not-is_empty+in-Shared-1 w ↦ ap (λ fragments. fragments.items) w.fragments-is ∙ piece_left cuts lists c.requires.pieces l.piece within l.fragments.items l.invariant (sym empty ∙ search rules)
    ]

pub returns : goal.returns
returns c =
    let l = c.loop-piece in
    let cuts = arc_value c.args.cuts.now in
    let lists = arc_value c.args.spans.now in
    let past : length lists ≤ l.piece = search rules in
    l.invariant ∙ ap spanning.covered (take_all l.piece (with_seqs (pieces cuts) lists) (omega (arith, past, length-all cuts lists c.requires.pieces)))
