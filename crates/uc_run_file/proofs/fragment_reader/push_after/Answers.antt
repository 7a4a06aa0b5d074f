use Rattle.std.proofs.Common.{ap, ◌∙◌, [], ◌∷◌, ◌++◌, List, ℕ}
use Rattle.uc_run_file.proofs.FragmentText.{after_head, fragment_pushed}
use Rattle.uc_run_file.proofs.fragment_reader.push_after.Goals as goal

pub returns-in-None : goal.returns-in-None
returns-in-None c =
    let h = rw c.in-None.is at c.in_ok-read_numbers.ensures.read in
    record { read = λ bytes head f rest b. let is = after_head bytes c.args.head.begin.now c.args.head.end.now c.args.head.rest.now c.args.head.count head f rest b in h f.seqs rest is.0 b.fits.seqs is.1 }

pub returns-in_ok-push-in-Some-3 : goal.returns-in_ok-push-in-Some-3
returns-in_ok-push-in-Some-3 c =
    let h = rw c.in-Some.is at c.in_ok-read_numbers.ensures.read in
    let seqs = c.read_numbers.new.numbers.items in
    record {
      read = λ bytes head.
          fragment_pushed bytes c.args.head.begin.now c.args.head.end.now c.args.head.rest.now c.in-Some.rest.now seqs c.args.ends.now c.push.new.self c.push-in-Some.new.self c.args.lists.now c.push-in-Some-2.new.self
          c.args.head.count head h.0 h.1 h.2 c.in_ok-push-in-Some.ensures.pushed c.in_ok-push-in-Some-2.ensures.pushed
          (c.in_ok-push-in-Some-3.ensures.pushed ∙ ap (λ (xs : List ℕ). c.args.lists.now ++ xs ∷ []) c.deref.ensures.value);
    }
