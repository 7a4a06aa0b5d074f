use Rattle.std.proofs.Common.{◌≡◌, ◌+◌, ◌-◌, ◌++◌, List, ℕ, length, take, drop, ap, ◌∙◌, arith, rules}
use Rattle.uc_mixed.proofs.Placed.{kept_last}
use Rattle.uc_mixed.proofs.combining.keep_last.Goals as goal

pub returns : goal.returns
returns c =
    let bytes = c.args.bytes.items in
    let others = c.args.others.now in
    let cut = c.saturating_sub-cut.result in
    let whole : c.extend_from_slice.new.self.items ≡ bytes ++ others = search rules in
    let place : cut ≡ (length (bytes ++ others) - c.args.start) - c.args.count = let l = ap length whole in let a = c.len.ensures in let b = c.saturating_sub-cut.ensures in let v = c.extend_from_slice.new.self.ok.0 in omega (arith, l, a, b, v) in
    c.without.ensures
    ∙ ap (λ (l : List ℕ). take c.args.start l ++ drop (c.args.start + cut) l) whole
    ∙ kept_last bytes others c.args.start cut c.args.count c.requires place
