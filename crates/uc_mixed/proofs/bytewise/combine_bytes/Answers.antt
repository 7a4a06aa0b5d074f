use Rattle.std.proofs.Common.{◌≡◌, ℕ, ◌+◌, ◌-◌, ◌++◌, ◌≤◌, length, arith, List, take, drop, replicate, ap, ◌∙◌, zero, length-append, length-drop}
use Rattle.std.proofs.lemmas.List.{take_rest}
use Rattle.uc_mixed.specs.ByteFunctions.{function_of}
use Rattle.uc_mixed.specs.Bytewise.{bytewise}
use Rattle.uc_mixed.proofs.Padding.{tail_written, padded_split}
use Rattle.uc_mixed.proofs.bytewise.combine_bytes.Goals as goal

pub returns : goal.returns
returns c =
    let f = function_of c.args.function in
    let start = c.args.start in
    let bytes = c.args.bytes.items in
    let others = c.args.others.now in
    let items = c.in_ok-bytes.bytes.items in
    let old = c.deref_mut.result.now in
    let same : old ≡ items = c.deref_mut.ensures.value in
    let padded : items ≡ bytes ++ replicate ((start + length others) - length bytes) 0 = c.in_ok-bytes.ensures in
    let within : start ≤ length old = let a = ap length (same ∙ padded) in let b = length-append bytes (replicate ((start + length others) - length bytes) zero) in let r = c.requires in omega (arith, a, b, r) in
    let size : length c.combine_slice.new.bytes ≡ length old - start = let a = c.combine_slice.auto.bytes in let r = take_rest old start in let s = ap length r in let d = length-drop start old in omega (arith, a, s, d) in
    tail_written old items c.combine_slice.new.bytes start c.in_ok-bytes.bytes.len same within size c.in_ok-bytes.bytes.ok.0
    ∙ ap (λ (l : List ℕ). take start items ++ l) (c.combine_slice.ensures ∙ ap (λ (l : List ℕ). bytewise f l others) (take_rest old start ∙ ap (drop start) same))
    ∙ ap (λ (l : List ℕ). take start l ++ bytewise f (drop start l) others) padded
    ∙ padded_split f bytes others start ((start + length others) - length bytes) c.requires (let r = c.requires in omega (arith, r))
