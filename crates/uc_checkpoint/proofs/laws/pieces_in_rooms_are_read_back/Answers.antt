use Rattle.std.proofs.Common.{◌≡◌, ℕ, List, ◌++◌, ⊎_elim, take, drop, sym, ap, subst, ◌∙◌, arith}
use Rattle.std.proofs.Math.Seq.{take-append_seam}
use Rattle.uc_checkpoint.specs.Checkpoints.{Progress, IsLaidOut}
use Rattle.uc_checkpoint.proofs.laws.pieces_in_rooms_are_read_back.Goals as goal

pub returns : goal.returns
returns g c s log room room' most size old new laid piece fits =
    let m = g.O.Operator.meaning in
    let next = c.pieces_are_read_back.ensures.goes_on s log piece.bytes old piece.behind laid piece.piece in
    ⊎_elim
    (λ shown.
    let whole = ap (λ (n : ℕ). take n (piece.bytes ++ drop size room)) piece.size_is ∙ take-append_seam piece.bytes (drop size room) in
    let same : take size room' ≡ piece.bytes = ap (take size) shown.1 ∙ whole in
    let moved = subst (λ (p : Progress). IsLaidOut m s (log ++ piece.bytes) p) (sym shown.2) next in
    subst (λ (bytes : List ℕ). IsLaidOut m s (log ++ bytes) new) (sym same) moved)
    (λ lacks. absurd (omega (arith, lacks.0, fits)))
    piece.laid
