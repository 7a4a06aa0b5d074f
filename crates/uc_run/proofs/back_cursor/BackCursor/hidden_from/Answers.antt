use Rattle.std.proofs.Common.{List, filter, option_map, ap, ◌∙◌}
use Rattle.uc_run_entry.specs.Fragment.{Fragment}
use Rattle.uc_run_entry.specs.Run.{covers}
use Rattle.uc_run.specs.BackCursors.{hidden_from}
use Rattle.uc_run.specs.Cursors.{Standing}
use Rattle.uc_run.proofs.Hiding.{same_hiding}
use Rattle.uc_run.proofs.back_cursor.BackCursor.hidden_from.Goals as goal

pub returns : goal.returns
returns c =
    let key = c.args.key.now in
    let run = c.self.inside.run.now in
    let same = c.fragments_near-over.ensures.covering ∙ ap (λ (fs : List Fragment). filter (λ f. covers f key) fs) c.fragments-fragments.ensures in
    c.begin_of_hiding.ensures
    ∙ ap (option_map (λ (f : Fragment). f.begin)) (same_hiding c.args.at key c.fragments_near-over.result.now run.fragments same)
    ∙ ap (λ (s : Standing). hidden_from s.run key c.args.at) c.self.view_is
