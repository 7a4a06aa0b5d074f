use Rattle.std.proofs.Common.{◌≡◌, ◌+◌, length, sym, ap, ◌∙◌, arith, refl, List, ℕ}
use Rattle.std.specs.Int.{w64, to_le_bytes}
use Rattle.uc_rows.specs.Laying.{laid_at}
use Rattle.uc_rows.proofs.LaidTwice.{laid_twice}
use Rattle.uc_rows.proofs.laying.lay_text.Goals as goal

pub returns : goal.returns
returns c =
    let text = c.args.text.now in
    let bytes = to_le_bytes w64 (length text) in
    let eight : length bytes ≡ 8 = refl in
    let room = c.args.room.now in
    let place : laid_at (c.args.at + 8) text (laid_at c.args.at bytes room) ≡ laid_at (c.args.at + length bytes) text (laid_at c.args.at bytes room) =
    ap (λ (n : ℕ). laid_at (c.args.at + n) text (laid_at c.args.at bytes room)) (sym eight) in
    c.lay_part-2.ensures
    ∙ ap (λ (r : List ℕ). laid_at (c.args.at + 8) text r) c.lay_part.ensures
    ∙ ap (λ (b : List ℕ). laid_at (c.args.at + 8) text (laid_at c.args.at b room)) c.to_le_bytes.ensures
    ∙ place
    ∙ laid_twice room bytes text c.args.at (omega (arith, c.requires, eight))
