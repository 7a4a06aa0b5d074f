use Rattle.std.proofs.Common.{rules, ◌≡◌, ◌++◌, ◌∷◌, map, refl}
use Rattle.std.proofs.lemmas.Result.{err_from_is_err_and}
use Rattle.uc_tool_io.specs.LogLines.{write_line}
use Rattle.uc_tool_io.proofs.Printing.{GoesOn, stops_next}
use Rattle.uc_tool_io.proofs.Gathering.{begins_empty, put_behind, written_out}
use Rattle.uc_tool_io.proofs.dump_run.print_writes.Goals as goal

pub loop-write-init : goal.loop-write-init
loop-write-init g c =
    let contents = g.W.Write.contents in
    rw (c.clear.ensures.items, c.into_iter-write-iterator.ensures.into_iter_gives) (begins_empty (map write_line c.args.writes) (contents c.args.writer.now))

pub loop-write-preserved-in-Continue-branch-2 : goal.loop-write-preserved-in-Continue-branch-2
loop-write-preserved-in-Continue-branch-2 g c =
    let contents = g.W.Write.contents in
    let l = c.loop-write in
    let all = map write_line c.args.writes in
    let rest = map write_line c.next.new.self in
    let line = write_line c.in-Some.write in
    let next : l.write-iterator ≡ c.in-Some.write ∷ c.next.new.self = search rules in
    let goes : GoesOn all (l.lines.items ∷ line ∷ rest) (contents c.args.writer.now) (contents l.writer) = rw next at l.invariant in
    let put = put_behind all rest (contents c.args.writer.now) (contents l.writer) l.lines.items line goes in
    let sent = rw c.in_ok-push_write.ensures at c.in_ok-print_lines.ensures.ok in
    rw c.in_ok-print_lines.ensures.empty (written_out all rest (contents c.args.writer.now) (contents l.writer) (l.lines.items ++ line) put (contents c.print_lines.new.writer) sent)

pub returns-in_err-print_lines : goal.returns-in_err-print_lines
returns-in_err-print_lines g c =
    let contents = g.W.Write.contents in
    let l = c.loop-write in
    let all = map write_line c.args.writes in
    let rest = map write_line c.next.new.self in
    let line = write_line c.in-Some.write in
    let next : l.write-iterator ≡ c.in-Some.write ∷ c.next.new.self = search rules in
    let goes : GoesOn all (l.lines.items ∷ line ∷ rest) (contents c.args.writer.now) (contents l.writer) = rw next at l.invariant in
    let put = put_behind all rest (contents c.args.writer.now) (contents l.writer) l.lines.items line goes in
    let front = rw c.in_ok-push_write.ensures at c.in_err-print_lines.ensures.err in
    let p = err_from_is_err_and c.from_residual-in_err-print_lines.result c.from_residual-in_err-print_lines.ensures.1 in
    rw (p.1, p.2, c.in_err-print_lines.ensures.device) (stops_next all ((l.lines.items ++ line) ∷ rest) (contents c.args.writer.now) (contents l.writer) put (l.lines.items ++ line) rest refl (contents c.print_lines.new.writer) front)

pub loop-write-preserved : goal.loop-write-preserved
loop-write-preserved g c =
    let contents = g.W.Write.contents in
    let l = c.loop-write in
    let all = map write_line c.args.writes in
    let rest = map write_line c.next.new.self in
    let line = write_line c.in-Some.write in
    let next : l.write-iterator ≡ c.in-Some.write ∷ c.next.new.self = search rules in
    let goes : GoesOn all (l.lines.items ∷ line ∷ rest) (contents c.args.writer.now) (contents l.writer) = rw next at l.invariant in
    rw c.in_ok-push_write.ensures (put_behind all rest (contents c.args.writer.now) (contents l.writer) l.lines.items line goes)
