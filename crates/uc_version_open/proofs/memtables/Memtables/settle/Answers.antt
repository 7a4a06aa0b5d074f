use Rattle.std.proofs.Common.{rules, ◌≡◌, ◌∙◌, map, length, sym, subst, ap}
use Rattle.std.proofs.lemmas.List.{length-map}
use Rattle.uc_run.specs.Flush.{flushed}
use Rattle.uc_version_open.specs.Lending.{StandsAt}
use Rattle.uc_version_open.specs.Progress.{Flushing}
use Rattle.uc_version_open.proofs.Placed.{settled_runs}
use Rattle.uc_version_open.proofs.memtables.Memtables.settle.Goals as goal

pub returns : goal.returns
returns c =
    let held = c.self.inside in
    let runs = held.runs.items in
    let full = map flushed held.full.items in
    let made = c.args.made.items in
    let stands = subst (StandsAt c.args.older made) (sym (ap (λ (f : Flushing). f.runs) c.self.view_is)) c.requires in
    let few : length runs ≡ c.args.older = search rules in
    let many : length held.lent ≡ length made = search rules in
    let none = ap (map flushed) c.none.ensures in
    let settled = settled_runs c.args.older runs (map flushed held.lent) full made c.append.new.self.items (map flushed c.none.result) stands few (length-map held.lent flushed ∙ many) c.in_ok-append.ensures.items none in
    (λ i. record { runs = settled i; newest = held.newest }) ∙ c.self.view_is
