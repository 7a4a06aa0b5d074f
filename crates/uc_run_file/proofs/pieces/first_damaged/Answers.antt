use Rattle.std.proofs.Common.{◌≡◌, ◌<◌, ◌∙◌, length, take, sym, ap, arith}
use Rattle.std.proofs.lemmas.Bool.{false≢true}
use Rattle.uc_run_file.specs.Pieces.{pieces_of}
use Rattle.uc_run_file.proofs.PieceSums.{none_sound, one_sound, all_sound, damaged_there}
use Rattle.uc_run_file.proofs.pieces.first_damaged.Goals as goal

pub loop-piece-init : goal.loop-piece-init
loop-piece-init c = none_sound c.args.bytes.now c.args.table.now

pub returns-then-not-is_sum : goal.returns-then-not-is_sum
returns-then-not-is_sum c =
    let there : c.loop-piece.piece < pieces_of (length c.args.bytes.now) = omega (arith, c.loop-piece-test.true, c.pieces_of-piece-end.ensures) in
    damaged_there c.args.bytes.now c.loop-piece.rest.now c.args.table.now c.loop-piece.sums.now c.split_front.result.0.now c.split_front-in-loop-piece.result.0.now c.loop-piece.piece c.piece_len-then-not-is_sum.result
    c.loop-piece.invariant there c.piece_len-then-not-is_sum.ensures.len c.split_front.ensures.front (c.split_front-in-loop-piece.ensures.front ∙ ap (λ n. take n c.loop-piece.rest.now) (c.piece_len.ensures.len ∙ sym c.piece_len-then-not-is_sum.ensures.len))
    (λ e. false≢true (sym c.if-not-is_sum.true ∙ c.is_sum.ensures.1 e))

pub loop-piece-preserved : goal.loop-piece-preserved
loop-piece-preserved c =
    one_sound c.args.bytes.now c.loop-piece.rest.now c.split_front-in-loop-piece.result.1.now c.args.table.now c.loop-piece.sums.now c.split_front.result.0.now c.split_front.result.1.now c.split_front-in-loop-piece.result.0.now
    c.loop-piece.piece c.piece_len.result c.loop-piece.invariant c.piece_len.ensures.len c.split_front.ensures.front c.split_front.ensures.rest c.split_front-in-loop-piece.ensures.front c.split_front-in-loop-piece.ensures.rest
    (c.is_sum.ensures.0 c.if-not-is_sum.false)

pub returns : goal.returns
returns c =
    let all : c.loop-piece.piece ≡ pieces_of (length c.args.bytes.now) = omega (arith, c.loop-piece-test.false, c.pieces_of-piece-end.ensures, c.loop-piece.auto.piece-end) in
    all_sound c.args.bytes.now c.loop-piece.rest.now c.args.table.now c.loop-piece.sums.now c.loop-piece.piece c.loop-piece.invariant c.requires all
