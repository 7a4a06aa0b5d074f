use Rattle.std.proofs.Common.{rules, ◌≡◌, ◌+◌, ◌-◌, length, arith, ap, ◌∙◌}
use Rattle.uc_run_entry.specs.Lists.{cut}
use Rattle.uc_run_entry.proofs.Flat.{length-cut}
use Rattle.uc_run_entry.proofs.lists.Lists.len.Goals as goal

pub returns : goal.returns
returns g c =
    let starts = c.self.inside.starts.items in
    let items = c.self.inside.items.items in
    let more : length (cut starts items) + 1 ≡ length starts = length-cut starts items (length items) c.self.invariant in
    let count : c.len.result ≡ length starts = search rules in
    let less : c.saturating_sub.result ≡ c.len.result - 1 = search rules in
    let same : c.saturating_sub.result ≡ length (cut starts items) = omega (arith, more, count, less) in
    same ∙ ap (λ lists. length lists) c.self.view_is
