use Rattle.std.proofs.Common.{ℕ, filter, sym, ◌∙◌}
use Rattle.std.specs.Prelude.{nat_le}
use Rattle.std.specs.List.{flat_map}
use Rattle.uc_run_entry.specs.Fragment.{Fragment}
use Rattle.uc_run_entry.specs.Run.{covers}
use Rattle.uc_run.proofs.PutFirst.{put_first_does}
use Rattle.uc_run.proofs.lookup.effect_found.Goals as goal

pub returns-in-Some : goal.returns-in-Some
returns-in-Some g c =
    let at = c.args.at in
    let key = c.args.key.now in
    let seqs = filter (λ (seq : ℕ). nat_le seq at) (flat_map (λ (f : Fragment). f.seqs) (filter (λ f. covers f key) c.args.fragments.now)) in
    c.put.ensures
    ∙ sym (put_first_does g.O.Operator.meaning key at c.args.points.now seqs c.newest_over-newest.result c.in-Some.value.now c.newest_over-newest.ensures c.in-Some.ensures)
