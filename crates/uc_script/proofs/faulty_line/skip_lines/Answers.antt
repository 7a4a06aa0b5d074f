use Rattle.std.proofs.Common.{rules, ◌≡◌, ◌||◌, ◌∷◌, Bool, drop, length, [], sym, ap, ◌∙◌, arith}
use Rattle.uc_script.specs.Lines.{lines_of}
use Rattle.uc_script.specs.Explanations.{says_open}
use Rattle.uc_script.proofs.Passing.{stands_at, passed_by, is_over, no_lines}
use Rattle.uc_script.proofs.faulty_line.skip_lines.Goals as goal
use Rattle.uc_script.proofs.faulty_line.skip_lines.Goals.{then-is_opened, else-is_opened}

pub returns-then-is_empty-clause-rest : goal.returns-then-is_empty-clause-rest
returns-then-is_empty-clause-rest c =
    let xs = lines_of c.args.text.now in
    let empty : length c.loop.rest.now ≡ 0 = search rules in
    let none : lines_of c.loop.rest.now ≡ [] = no_lines c.loop.rest.now empty in
    none ∙ sym (is_over xs c.loop.counter c.args.count (sym c.loop.invariant.rest ∙ none) (omega arith)).left

pub returns-then-is_empty-clause-opened : goal.returns-then-is_empty-clause-opened
returns-then-is_empty-clause-opened c =
    let xs = lines_of c.args.text.now in
    let empty : length c.loop.rest.now ≡ 0 = search rules in
    let none : lines_of c.loop.rest.now ≡ [] = no_lines c.loop.rest.now empty in
    let over = is_over xs c.loop.counter c.args.count (sym c.loop.invariant.rest ∙ none) (omega arith) in
    rw over.same c.loop.invariant.opened

pub loop-preserved : goal.loop-preserved
loop-preserved c =
    let xs = lines_of c.args.text.now in
    let i = c.loop.counter in
    let line = c.next_line.result.0.now in
    let behind = lines_of c.next_line.result.1.now in
    let left : drop i xs ≡ line ∷ behind = sym c.loop.invariant.rest ∙ c.next_line.ensures.cut in
    let next : c.if-is_opened.is_opened ≡ (c.loop.is_opened || says_open line) =
    elim c.if-is_opened.branch [
      | then-is_opened w ↦ w.is_opened-is ∙ w.if-is_opened.true ∙ sym (ap (λ (b : Bool). b || says_open line) w.if-is_opened.true)
      | else-is_opened w ↦ w.is_opened-is ∙ search rules ∙ sym (ap (λ (b : Bool). b || says_open line) w.if-is_opened.false)
    ] in
    record {
      rest = sym (stands_at xs i line behind left).behind;
      opened = passed_by says_open xs i line behind c.loop.is_opened c.if-is_opened.is_opened left c.loop.invariant.opened next;
    }
