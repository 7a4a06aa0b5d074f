use Rattle.std.proofs.Common.{◌≡◌, ◌∙◌, ◌<◌, ◌∷◌, ◌++◌, [], List, ℕ, ap, get_or, arith}
use Rattle.uc_mixed.specs.Parts.{length_back, backward}
use Rattle.uc_mixed.proofs.Cutting.{few_bytes, four_bytes, long_none, number_of_four}
use Rattle.uc_mixed.proofs.part.long_length_at_end.Goals as goal

pub returns-then-bytes-lt4 : goal.returns-then-bytes-lt4
returns-then-bytes-lt4 c = few_bytes c.args.bytes.now c.if-bytes-lt4.true

pub returns-then-length-lt-LONG : goal.returns-then-length-lt-LONG
returns-then-length-lt-LONG c =
    let rest = c.split_at.result.0.now in
    let four = c.split_at.result.1.now in
    let whole : c.args.bytes.now ≡ rest ++ four = c.split_at.ensures.by_index.0 in
    let places = let e = c.split_at.ensures.back_len in four_bytes four (omega (arith, e)) in
    let small : number_of_four (get_or four 0 0) (get_or four 1 0) (get_or four 2 0) (get_or four 3 0) < 255 =
    let a = c.from.ensures in let b = c.from-2.ensures in let d = c.from-3.ensures in let e = c.from-4.ensures in let lt = c.if-length-lt-LONG.true in omega (arith, a, b, d, e, lt) in
    ap (λ (l : List ℕ). length_back (backward (l ++ 255 ∷ []))) (whole ∙ ap (λ (l : List ℕ). rest ++ l) places)
    ∙ long_none rest (get_or four 0 0) (get_or four 1 0) (get_or four 2 0) (get_or four 3 0) small
