use Rattle.std.proofs.Common.{◌≡◌, ◌≢◌, ◌+◌, ◌-◌, ◌∙◌, ◌++◌, List, Some, false, length, take, drop, ap, sym, subst, arith, ℕ}
use Rattle.std.specs.List.{AllByRecursion}
use Rattle.std.proofs.lemmas.List.{take-append-drop}
use Rattle.uc_run.specs.Cursors.{Standing}
use Rattle.uc_run.specs.Heads.{next_key}
use Rattle.uc_query_read.specs.Walks.{passed, StandsAt, IsOfRun}
use Rattle.uc_query_read.proofs.Hiding.{all_taken}
use Rattle.uc_query_read.proofs.Oldest.{all_stay, last_moved}
use Rattle.uc_query_read.proofs.passing.pass_oldest.Goals as goal

pub returns-in-Some-clause-cursors : goal.returns-in-Some-clause-cursors
returns-in-Some-clause-cursors c =
    let key = c.args.key.now in
    let cursors = c.args.cursors.now in
    let last = c.in-Some.last in
    let whole : last + 1 ≡ length cursors = omega (arith, c.in-Some.ensures) in
    let same : length cursors - 1 ≡ last = omega (arith, whole) in
    let alone = subst (λ (n : ℕ). AllByRecursion (λ s. next_key s ≢ Some key) (take n cursors)) same c.requires.alone in
    let stay = all_stay key c.keys_at_places_are_next.ensures (take last cursors) (all_taken IsOfRun last cursors c.requires.of_runs) (all_taken (StandsAt key false) last cursors c.requires.stand) alone in
    last_moved (passed key) cursors cursors last _ c.pass.new.self whole
    (sym (take-append-drop last cursors) ∙ ap (λ (cs : List Standing). cs ++ drop last cursors) stay) c.pass.ensures
