use Rattle.std.proofs.Common.{◌≡◌, ◌∙◌, List, ℕ, take, drop, get_or, sym, ap}
use Rattle.std.specs.Prelude.{sum, Option}
use Rattle.uc_engine.specs.EngineViews.{value_seen}
use Rattle.uc_c.proofs.Cutting.{found_more}
use Rattle.uc_c.proofs.many.find.Goals as goal

pub loop-length-preserved : goal.loop-length-preserved
loop-length-preserved g c =
    let i = c.loop-length.length-index in
    let lengths = c.args.key_lengths.now in
    let n = get_or lengths i 0 in
    let before = c.loop-length.invariant in
    let value : List ℕ → Option (List ℕ) = value_seen (g.R.Readable.viewed c.args.source.now) in
    let found : c.in_ok-get_ref.field-0 ≡ value (take n (drop (sum (take i lengths)) c.args.keys.now)) = c.in_ok-get_ref.ensures ∙ ap value (c.split_at.ensures.front ∙ ap (take n) before.left) in
    let more = found_more value lengths i c.args.keys.now c.loop-length-test.true in
    record {
      left = c.split_at.ensures.back ∙ ap (drop n) before.left ∙ sym more.0;
      lengths = c.in_ok-push_value.ensures.lengths ∙ rw (before.lengths, found) (sym more.1);
      bytes = c.in_ok-push_value.ensures.bytes ∙ rw (c.in_ok-read_ahead.ensures, before.bytes, found) (sym more.2);
    }
