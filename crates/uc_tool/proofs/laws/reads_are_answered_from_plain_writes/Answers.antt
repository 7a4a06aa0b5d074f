use Rattle.std.proofs.Common.{◌≡◌, ◌+◌, length, ap, sym, ◌∙◌, subst, arith}
use Rattle.uc_batch.proofs.Rises.{rising-numbered}
use Rattle.uc_version_state.specs.Openings.{opened}
use Rattle.uc_version_state.specs.Histories.{known_at_first}
use Rattle.uc_version.specs.Owners.{unclaimed}
use Rattle.uc_query.specs.Running.{run_of, unnamed}
use Rattle.uc_tool.specs.Play.{FitLogs, calls_of, opening_of, unless_refused, played}
use Rattle.uc_tool.proofs.Judged.{script_fits}
use Rattle.uc_tool.proofs.ReadAnswers.{last_is_count, none_is_back}
use Rattle.uc_tool.proofs.laws.reads_are_answered_from_plain_writes.Goals as goal

pub returns : goal.returns
returns g c = λ options input script short read fine.
    let m = g.O.Operator.meaning in
    let o = opening_of options script in
    let version = opened o in
    let fits = script_fits c.a_script_names_no_more_than_it_has.ensures.all input short script read in
    let rising = rising-numbered 0 1 script.ops (omega arith) fits.0.few in
    let count : length script.ops ≡ version.last = sym (last_is_count 0 script.ops ∙ omega arith) in
    let feeds : FitLogs (version.last + 1) script.calls = subst (λ n. FitLogs (n + 1) script.calls) count fits.1 in
    let asked = calls_of version.last (version.last + 1) script.calls in
    let answered = c.replies_are_answered_from_plain_writes.ensures options script rising fine feeds in
    record {
      replies = (run_of m (unnamed (unclaimed version options)) asked).replies;
      prints = ap (played m options) read ∙ ap (unless_refused m o script.calls) fine;
      answered = answered;
      none_back = none_is_back m version.last script.calls (run_of m (unnamed (unclaimed version options)) asked).replies (known_at_first o) (version.last + 1) (omega arith) answered;
    }
