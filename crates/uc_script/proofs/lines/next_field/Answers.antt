use Rattle.std.proofs.Common.{◌≡◌, ◌+◌, ◌-◌, length, take, drop, sym, arith, length-drop}
use Rattle.std.proofs.lemmas.List.{take_all}
use Rattle.uc_script.proofs.Cuts.{fields_at, fields_whole}
use Rattle.uc_script.proofs.lines.next_field.Goals as goal

pub returns-in-Some : goal.returns-in-Some
returns-in-Some c =
    let line = c.args.line.now in
    let end = c.in-Some.end in
    let all : take (length line - (end + 1)) (drop (end + 1) line) ≡ drop (end + 1) line = take_all _ _ (omega (arith, length-drop (end + 1) line)) in
    rw all (fields_at line end (sym c.in-Some.ensures))

pub returns-in-None : goal.returns-in-None
returns-in-None c = fields_whole c.args.line.now (sym c.in-None.ensures)
