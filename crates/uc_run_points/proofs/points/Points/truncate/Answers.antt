use Rattle.std.proofs.Common.{◌≡◌, ℕ, ◌+◌, ◌/◌, ◌≤◌, List, length, take, sym, ap, ◌∙◌, subst, arith}
use Rattle.std.specs.Int.{div_ceil}
use Rattle.uc_run_entry.specs.declared.entry.Entry.{Entry}
use Rattle.uc_run_points.specs.Spelling.{entries_text, entries_from, AreSpelled}
use Rattle.uc_run_points.specs.Starts.{AreStarts}
use Rattle.uc_run_points.proofs.EntriesAgain.{length-entries_from}
use Rattle.uc_run_points.proofs.Grown.{entries_cut, spelled_cut, starts_cut}
use Rattle.uc_run_points.proofs.points.Points.truncate.Goals as goal

ceil : (n : ℕ) → div_ceil n 4 ≡ (n + 3) / 4
ceil n = grind arith

pub invariant_of-self : goal.invariant_of-self
invariant_of-self c =
    let count = c.self.inside.count in
    let bytes = c.self.inside.bytes.items in
    let es = entries_from count bytes in
    let n = c.args.count in
    let long = length-entries_from count bytes in
    let le : n ≤ length es = subst (λ (xs : List Entry). n ≤ length xs) (sym c.self.view_is) c.requires.count in
    let within : n ≤ count = omega (arith, le, long) in
    let size : c.args.size ≡ length (entries_text (take n es)) = c.requires.size ∙ ap (λ (xs : List Entry). length (entries_text (take n xs))) (sym c.self.view_is) in
    let kept : c.truncate.new.self.items ≡ take (length (entries_text (take n es))) bytes = c.truncate.ensures.items ∙ ap (λ k. take k bytes) size in
    let quarters : c.div_ceil.result ≡ (n + 3) / 4 = c.div_ceil.ensures ∙ ceil n in
    let starts : c.truncate-2.new.self.items ≡ take ((n + 3) / 4) c.self.inside.starts.items = c.truncate-2.ensures.items ∙ ap (λ k. take k c.self.inside.starts.items) quarters in
    record {
      spelled = subst (AreSpelled n) (sym kept) (spelled_cut count bytes c.self.invariant.spelled n within);
      starts =
          subst (λ (xs : List Entry). AreStarts xs c.truncate-2.new.self.items)
          (sym (ap (entries_from n) kept ∙ entries_cut count bytes c.self.invariant.spelled n within))
          (subst (AreStarts (take n es)) (sym starts) (starts_cut es c.self.inside.starts.items c.self.invariant.starts n le));
    }

pub returns : goal.returns
returns c =
    let count = c.self.inside.count in
    let bytes = c.self.inside.bytes.items in
    let es = entries_from count bytes in
    let n = c.args.count in
    let long = length-entries_from count bytes in
    let le : n ≤ length es = subst (λ (xs : List Entry). n ≤ length xs) (sym c.self.view_is) c.requires.count in
    let within : n ≤ count = omega (arith, le, long) in
    let size : c.args.size ≡ length (entries_text (take n es)) = c.requires.size ∙ ap (λ (xs : List Entry). length (entries_text (take n xs))) (sym c.self.view_is) in
    let kept : c.truncate.new.self.items ≡ take (length (entries_text (take n es))) bytes = c.truncate.ensures.items ∙ ap (λ k. take k bytes) size in
    ap (entries_from n) kept ∙ entries_cut count bytes c.self.invariant.spelled n within ∙ ap (λ (xs : List Entry). take n xs) c.self.view_is
