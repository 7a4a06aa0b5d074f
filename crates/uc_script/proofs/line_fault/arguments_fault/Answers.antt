use Rattle.std.proofs.Common.{rules, ◌≡◌, ℕ, ◌+◌, ◌<◌, ◌≤◌, List, length, drop, sym, ◌∙◌}
use Rattle.std.specs.Option.{option_copied, option_map}
use Rattle.uc_script.specs.Faults.{arguments_fault, fields_after}
use Rattle.uc_script.specs.Words.{kinds}
use Rattle.uc_script.specs.declared.fault.LineFault.TheVariants.{TooMany}
use Rattle.uc_script.proofs.Counted.{too_few, at_end}
use Rattle.uc_script.proofs.line_fault.arguments_fault.Goals as goal

pub returns-in_default : goal.returns-in_default
returns-in_default c =
    let word = c.args.word in
    let i = c.loop-place.place in
    let within : i < length (kinds word) = rw c.kinds-kind-items.ensures at c.loop-place-test.true in
    let so_far : arguments_fault word (i + 2) (drop i (kinds word)) (fields_after (option_copied c.loop-place.rest)) ≡ arguments_fault word 2 (kinds word) (fields_after (option_copied c.args.text)) = c.loop-place.invariant in
    sym (too_few word (i + 2) (kinds word) i within) ∙ (rw c.in_default.is at so_far)

pub returns : goal.returns
returns c =
    let word = c.args.word in
    let i = c.loop-place.place in
    let over : length (kinds word) ≤ i = rw c.kinds-kind-items.ensures at c.loop-place-test.false in
    let so_far : arguments_fault word (i + 2) (drop i (kinds word)) (fields_after (option_copied c.loop-place.rest)) ≡ arguments_fault word 2 (kinds word) (fields_after (option_copied c.args.text)) = c.loop-place.invariant in
    let said : c.map.result ≡ option_map (λ (text : List ℕ). TooMany word) (option_copied c.loop-place.rest) = search rules in
    said ∙ sym (at_end word (i + 2) (kinds word) i (option_copied c.loop-place.rest) over) ∙ so_far
