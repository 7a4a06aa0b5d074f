use Rattle.std.proofs.Common.{◌≡◌, ◌+◌, ◌-◌, ◌%◌, ◌++◌, eqb, List, [], ◌∷◌, length, take, refl, ap, ◌∙◌, subst, arith}
use Rattle.std.proofs.lemmas.List.{take_all}
use mathlib.Core.List.{IsPrefix}
use Rattle.uc_run_entry.specs.declared.entry.Entry.{Entry}
use Rattle.uc_run_points.specs.Spelling.{entries_from}
use Rattle.uc_run_points.specs.Starts.{AreStarts}
use Rattle.uc_run_points.proofs.EntriesAgain.{length-entries_from}
use Rattle.uc_run_points.proofs.Grown.{rest_within, rest_after, starts_more, begins_with}
use Rattle.uc_run_points.proofs.points.push_starts.Goals as goal

pub overflow_sub-bytes : goal.overflow_sub-bytes
overflow_sub-bytes c = rest_within c.args.count c.args.bytes.now c.requires.spelled c.loop-number.number c.loop-number-test.true c.loop-number.rest.now c.loop-number.invariant.rest

pub loop-number-preserved : goal.loop-number-preserved
loop-number-preserved c =
    let count = c.args.count in
    let bytes = c.args.bytes.now in
    let k = c.loop-number.number in
    let rest = c.loop-number.rest.now in
    let spelled = c.requires.spelled in
    let lt = c.loop-number-test.true in
    let is = c.loop-number.invariant.rest in
    let begins : IsPrefix c.args.starts.now.items c.push_start.new.starts.items =
    begins_with (eqb ((c.args.place + k) % 4) 0) c.args.starts.now.items c.loop-number.starts.items ((c.args.offset + (length bytes - length rest)) ∷ []) c.push_start.new.starts.items c.loop-number.invariant.begins c.in_ok-push_start.ensures.pushed in
    record {
      rest = c.read_entry.ensures.rest ∙ rest_after count bytes spelled k lt rest is;
      starts = λ es at text are.
          starts_more count bytes spelled k lt rest is es c.loop-number.starts.items c.push_start.new.starts.items c.args.place c.args.offset (c.args.offset + (length bytes - length rest)) at text refl
          (c.loop-number.invariant.starts es at text are) c.in_ok-push_start.ensures.pushed;
      begins = begins;
    }

pub returns-clause-pushed : goal.returns-clause-pushed
returns-clause-pushed c = λ es at text are.
    let fs = entries_from c.args.count c.args.bytes.now in
    let all : take c.loop-number.number fs ≡ fs = take_all c.loop-number.number fs (let l = length-entries_from c.args.count c.args.bytes.now in omega (arith, l, c.loop-number-test.false)) in
    subst (λ (xs : List Entry). AreStarts xs c.loop-number.starts.items) (ap (λ (xs : List Entry). es ++ xs) all) (c.loop-number.invariant.starts es at text are)
