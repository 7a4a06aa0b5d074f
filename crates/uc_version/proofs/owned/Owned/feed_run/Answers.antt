use Rattle.std.proofs.Common.{refl, sym, ◌∙◌, subst, inr}
use Rattle.std.specs.Arc.{arc_value}
use Rattle.std.specs.Prelude.{None, ◌≡◌}
use Rattle.uc_version_state.specs.Feeds.{feed_refusal}
use Rattle.uc_version.specs.Owners.{Owner}
use Rattle.uc_version.specs.Feeding.{MakesRun, Shows}
use Rattle.uc_version.proofs.RunFed.{not_refused}
use Rattle.uc_version.proofs.owned.Owned.feed_run.Goals as goal

pub version_with_run-requires : goal.version_with_run-requires
version_with_run-requires g c =
    let v = c.self.inside.version in
    let ws = c.requires.0 in
    let makes : MakesRun v (arc_value c.args.run.now) c.args.last ws = subst (λ (o : Owner). MakesRun o.version (arc_value c.args.run.now) c.args.last ws) (sym c.self.view_is) c.requires.1 in
    (ws, makes, not_refused c.small_writes_fill_one_memtable.ensures v (arc_value c.args.run.now) c.args.last ws makes (sym c.run_refusal.ensures ∙ c.in_default.is))

pub show_run-requires : goal.show_run-requires
show_run-requires g c =
    let v = c.self.inside.version in
    let ws = c.requires.0 in
    let makes : MakesRun v (arc_value c.args.run.now) c.args.last ws = subst (λ (o : Owner). MakesRun o.version (arc_value c.args.run.now) c.args.last ws) (sym c.self.view_is) c.requires.1 in
    let shows : Shows v c.in-Ok.next ws = record {
      rising = makes.rising;
      none = not_refused c.small_writes_fill_one_memtable.ensures v (arc_value c.args.run.now) c.args.last ws makes (sym c.run_refusal.ensures ∙ c.in_default.is);
      one = c.small_writes_fill_one_memtable.ensures v.limit ws makes.some makes.small;
      next_is = c.in-Ok.ensures ws makes;
    } in
    (ws, subst (λ (o : Owner). Shows o.version c.in-Ok.next ws) c.self.view_is shows)

pub returns-in-Ok-clause-ok : goal.returns-in-Ok-clause-ok
returns-in-Ok-clause-ok g c = λ ws makes'.
    let v = c.self.inside.version in
    let makes : MakesRun v (arc_value c.args.run.now) c.args.last ws = subst (λ (o : Owner). MakesRun o.version (arc_value c.args.run.now) c.args.last ws) (sym c.self.view_is) makes' in
    let none : feed_refusal v ws ≡ None = not_refused c.small_writes_fill_one_memtable.ensures v (arc_value c.args.run.now) c.args.last ws makes (sym c.run_refusal.ensures ∙ c.in_default.is) in
    let shows : Shows v c.in-Ok.next ws = record {
      rising = makes.rising;
      none = none;
      one = c.small_writes_fill_one_memtable.ensures v.limit ws makes.some makes.small;
      next_is = c.in-Ok.ensures ws makes;
    } in
    (subst (λ (o : Owner). feed_refusal o.version ws ≡ None) c.self.view_is none, c.show_run.ensures ws (subst (λ (o : Owner). Shows o.version c.in-Ok.next ws) c.self.view_is shows))

pub returns-in-Err-clause-err : goal.returns-in-Err-clause-err
returns-in-Err-clause-err g c = λ ws makes'.
    let v = c.self.inside.version in
    let makes : MakesRun v (arc_value c.args.run.now) c.args.last ws = subst (λ (o : Owner). MakesRun o.version (arc_value c.args.run.now) c.args.last ws) (sym c.self.view_is) makes' in
    let none = not_refused c.small_writes_fill_one_memtable.ensures v (arc_value c.args.run.now) c.args.last ws makes (sym c.run_refusal.ensures ∙ c.in_default.is) in
    inr (subst (λ (o : Owner). feed_refusal o.version ws ≡ None) c.self.view_is none, refl)
