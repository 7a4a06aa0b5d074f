use Rattle.std.proofs.Common.{rules, ◌≡◌, ◌+◌, ◌%◌, ◌≤◌, cond, eqb, List, [], ◌∷◌, ◌++◌, length, refl, sym, ap, ◌∙◌, subst}
use Rattle.uc_run_entry.specs.declared.entry.Entry.{Entry}
use Rattle.uc_run_entry.specs.Packed.{what_of}
use Rattle.uc_run_points.specs.Spelling.{entry_text, entries_text, entries_from, AreSpelled, Fits}
use Rattle.uc_run_points.specs.Starts.{AreStarts}
use Rattle.uc_run_points.proofs.EntriesAgain.{length-entries_from}
use Rattle.uc_run_points.proofs.Grown.{entries_pushed, spelled_pushed, starts_pushed, count_grows}
use Rattle.uc_run_points.proofs.points.Points.push.Goals as goal

pub overflow_add-self : goal.overflow_add-self
overflow_add-self c =
    let e : Entry = record { key = c.args.key.now; seq = c.args.seq; what = what_of c.args.what } in
    let grown : c.append_entry.new.bytes.items ≡ c.self.inside.bytes.items ++ entry_text e = c.in_ok-append_entry.ensures.pushed in
    let more : c.self.inside.count + 1 ≤ length c.append_entry.new.bytes.items = count_grows c.self.inside.count c.self.inside.bytes.items c.self.invariant.spelled e c.append_entry.new.bytes.items grown in
    search (rules, more)

pub invariant_of-self-2 : goal.invariant_of-self-2
invariant_of-self-2 c =
    let e : Entry = record { key = c.args.key.now; seq = c.args.seq; what = what_of c.args.what } in
    let count = c.self.inside.count in
    let bytes = c.self.inside.bytes.items in
    let starts = c.self.inside.starts.items in
    let es = entries_from count bytes in
    let spelled = c.self.invariant.spelled in
    let fits : Fits e = c.in_ok-append_entry.ensures.fits in
    let grown : c.append_entry.new.bytes.items ≡ bytes ++ entry_text e = c.in_ok-append_entry.ensures.pushed in
    let all : entries_from (count + 1) c.append_entry.new.bytes.items ≡ es ++ e ∷ [] = ap (entries_from (count + 1)) grown ∙ entries_pushed count bytes spelled e fits in
    let offset : c.len-offset.result ≡ length (entries_text es) = search rules in
    let started : c.push_start.new.starts.items ≡ cond (eqb (length es % 4) 0) (starts ++ length (entries_text es) ∷ []) starts =
    c.in_default.ensures.pushed
    ∙ ap (λ n. cond (eqb (count % 4) 0) (starts ++ n ∷ []) starts) offset
    ∙ ap (λ n. cond (eqb (n % 4) 0) (starts ++ length (entries_text es) ∷ []) starts) (sym (length-entries_from count bytes)) in
    record {
      spelled = subst (AreSpelled (count + 1)) (sym grown) (spelled_pushed count bytes spelled e fits);
      starts =
          subst (λ (xs : List Entry). AreStarts xs c.push_start.new.starts.items) (sym all)
          (subst (AreStarts (es ++ e ∷ [])) (sym started) (starts_pushed es e starts c.self.invariant.starts (eqb (length es % 4) 0) refl));
    }

pub returns-clause-pushed : goal.returns-clause-pushed
returns-clause-pushed c =
    let e : Entry = record { key = c.args.key.now; seq = c.args.seq; what = what_of c.args.what } in
    let count = c.self.inside.count in
    let bytes = c.self.inside.bytes.items in
    ap (entries_from (count + 1)) c.in_ok-append_entry.ensures.pushed
    ∙ entries_pushed count bytes c.self.invariant.spelled e c.in_ok-append_entry.ensures.fits
    ∙ ap (λ (xs : List Entry). xs ++ e ∷ []) c.self.view_is
