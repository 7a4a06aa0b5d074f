use Rattle.std.proofs.Common.{◌≡◌, ℕ, ◌+◌, ◌-◌, [], length, take, drop, sym, ap, ◌∙◌, arith, length-take, length-take-le, length-drop}
use Rattle.std.proofs.lemmas.List.{take_all, nil_from_length}
use Rattle.uc_script.proofs.Cuts.{lines_at, lines_whole, end_within}
use Rattle.uc_script.proofs.lines.next_line.Goals as goal

pub returns-in-Some-clause-cut : goal.returns-in-Some-clause-cut
returns-in-Some-clause-cut c =
    let text = c.args.text.now in
    let end = c.in-Some.end in
    let all : take (length text - (end + 1)) (drop (end + 1) text) ≡ drop (end + 1) text = take_all _ _ (omega (arith, length-drop (end + 1) text)) in
    rw all (lines_at text end (sym c.in-Some.ensures))

pub returns-in-None-clause-cut : goal.returns-in-None-clause-cut
returns-in-None-clause-cut c =
    let text = c.args.text.now in
    let none : take (length text - length text) (drop (length text) text) ≡ [] = nil_from_length _ (omega (arith, length-take (length text - length text) (drop (length text) text))) in
    rw none (lines_whole text c.requires (sym c.in-None.ensures))

pub returns-in-Some-clause-behind : goal.returns-in-Some-clause-behind
returns-in-Some-clause-behind c =
    let text = c.args.text.now in
    let end = c.in-Some.end in
    let all : take (length text - (end + 1)) (drop (end + 1) text) ≡ drop (end + 1) text = take_all _ _ (omega (arith, length-drop (end + 1) text)) in
    let size : length (take end text) ≡ end = length-take-le end text (omega (arith, end_within text end (sym c.in-Some.ensures))) in
    all ∙ ap (λ (n : ℕ). drop (n + 1) text) (sym size)

pub returns-in-None-clause-behind : goal.returns-in-None-clause-behind
returns-in-None-clause-behind c =
    let text = c.args.text.now in
    let none : take (length text - length text) (drop (length text) text) ≡ [] = nil_from_length _ (omega (arith, length-take (length text - length text) (drop (length text) text))) in
    none ∙ sym (nil_from_length (drop (length text + 1) text) (omega (arith, length-drop (length text + 1) text)))
