use Rattle.std.proofs.Common.{rules, ◌<◌, ◌^◌, List, length, sym, ap, ◌∙◌, arith}
use Rattle.uc_run_entry.specs.declared.entry.Entry.{Entry}
use Rattle.uc_run_points.proofs.EntriesAgain.{length-entries_from}
use Rattle.uc_run_points.proofs.Grown.{count_small}
use Rattle.uc_run_points.proofs.points.Points.len.Goals as goal

pub returns-clause-count : goal.returns-clause-count
returns-clause-count c =
    sym (length-entries_from c.self.inside.count c.self.inside.bytes.items) ∙ ap (λ (es : List Entry). length es) c.self.view_is

pub returns-clause-bound : goal.returns-clause-bound
returns-clause-bound c =
    let small = count_small c.self.inside.count c.self.inside.bytes.items c.self.invariant.spelled in
    let few : length c.self.inside.bytes.items < 2 ^ 63 = search rules in
    omega (arith, small, few)
