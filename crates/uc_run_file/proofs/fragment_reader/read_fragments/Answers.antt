use Rattle.std.proofs.Common.{◌∙◌, ℕ, List, length, ap, arith}
use Rattle.std.proofs.lemmas.List.{length-map}
use Rattle.uc_run_entry.specs.Fragment.{Fragment}
use Rattle.uc_run_file.proofs.FragmentText.{many_ends}
use Rattle.uc_run_file.proofs.fragment_reader.read_fragments.Goals as goal

pub fragments_of-requires : goal.fragments_of-requires
fragments_of-requires c =
    let is = rw c.in-None.is at c.in_ok-offset.ensures in
    let fs : List Fragment = is.fragments in
    omega (arith, ap (λ (xs : List (List ℕ)). length xs) (c.in_ok-ends-in-None.ensures.ok ∙ is.ends_are), ap (λ (xs : List (List ℕ)). length xs) (c.in_ok-lists-in-None.ensures.ok ∙ is.lists_are), many_ends fs, length-map fs (λ (f : Fragment). f.seqs))
