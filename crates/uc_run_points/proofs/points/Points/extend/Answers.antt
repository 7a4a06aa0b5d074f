use Rattle.std.proofs.Common.{rules, ◌≡◌, ◌+◌, ◌<◌, ◌^◌, ◌++◌, List, ℕ, length, sym, ap, ◌∙◌, subst, arith}
use Rattle.uc_run_entry.specs.declared.entry.Entry.{Entry}
use Rattle.uc_run_points.specs.Spelling.{entries_text, entries_from, AreSpelled}
use Rattle.uc_run_points.specs.Starts.{AreStarts}
use Rattle.uc_run_points.proofs.EntriesAgain.{length-entries_from}
use Rattle.uc_run_points.proofs.Grown.{count_small, entries_joined, spelled_joined}
use Rattle.uc_run_points.proofs.points.Points.extend.Goals as goal

pub push_starts-pushed-requires-clause-place : goal.push_starts-pushed-requires-clause-place
push_starts-pushed-requires-clause-place c =
    let a = count_small c.self.inside.count c.self.inside.bytes.items c.self.invariant.spelled in
    let b = count_small c.points.inside.count c.points.inside.bytes.items c.points.invariant.spelled in
    let few : length c.self.inside.bytes.items < 2 ^ 63 = search rules in
    let less : length c.points.inside.bytes.items < 2 ^ 63 = search rules in
    omega (arith, a, b, few, less)

pub overflow_add-self : goal.overflow_add-self
overflow_add-self c =
    let a = count_small c.self.inside.count c.self.inside.bytes.items c.self.invariant.spelled in
    let b = count_small c.points.inside.count c.points.inside.bytes.items c.points.invariant.spelled in
    let few : length c.self.inside.bytes.items < 2 ^ 63 = search rules in
    let less : length c.points.inside.bytes.items < 2 ^ 63 = search rules in
    let small : c.self.inside.count + c.points.inside.count < 2 ^ 64 = omega (arith, a, b, few, less) in
    search (rules, small)

pub invariant_of-self-2 : goal.invariant_of-self-2
invariant_of-self-2 c =
    let n = c.self.inside.count in
    let m = c.points.inside.count in
    let bytes = c.self.inside.bytes.items in
    let others = c.points.inside.bytes.items in
    let es = entries_from n bytes in
    let fs = entries_from m others in
    let grown : c.extend_from_slice.new.self.items ≡ bytes ++ others = c.in_ok-extend_from_slice.ensures.items ∙ ap (λ (xs : List ℕ). bytes ++ xs) c.deref.ensures.value in
    let all : entries_from (n + m) c.extend_from_slice.new.self.items ≡ es ++ fs = ap (entries_from (n + m)) grown ∙ entries_joined n m bytes others c.self.invariant.spelled c.points.invariant.spelled in
    let offset : length (entries_text es) ≡ c.len-offset.result = ap (λ (xs : List ℕ). length xs) (sym c.self.invariant.spelled.spelled) ∙ (let l : length bytes ≡ c.len-offset.result = search rules in l) in
    let starts : AreStarts (es ++ entries_from m c.deref-2.result.now) c.push_starts-pushed.new.starts.items = c.in_default.ensures.pushed es (length-entries_from n bytes) offset c.self.invariant.starts in
    record {
      spelled = subst (AreSpelled (n + m)) (sym grown) (spelled_joined n m bytes others c.self.invariant.spelled c.points.invariant.spelled);
      starts =
          subst (λ (xs : List Entry). AreStarts xs c.push_starts-pushed.new.starts.items) (sym all)
          (subst (λ (xs : List ℕ). AreStarts (es ++ entries_from m xs) c.push_starts-pushed.new.starts.items) c.deref-2.ensures.value starts);
    }

pub returns-clause-pushed : goal.returns-clause-pushed
returns-clause-pushed c =
    let n = c.self.inside.count in
    let m = c.points.inside.count in
    let bytes = c.self.inside.bytes.items in
    let others = c.points.inside.bytes.items in
    let grown : c.extend_from_slice.new.self.items ≡ bytes ++ others = c.in_ok-extend_from_slice.ensures.items ∙ ap (λ (xs : List ℕ). bytes ++ xs) c.deref.ensures.value in
    ap (entries_from (n + m)) grown ∙ entries_joined n m bytes others c.self.invariant.spelled c.points.invariant.spelled
    ∙ ap (λ (xs : List Entry). xs ++ entries_from m others) c.self.view_is
    ∙ ap (λ (xs : List Entry). c.args.self.now ++ xs) c.points.view_is
