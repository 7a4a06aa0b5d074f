-- The sequences of a fragment.
use Rattle.std.specs.Prelude.{ℕ, Bool, List, [], ◌∷◌, nat_eq}
use lib.Pointwise.{pointwise}
use Rattle.uc_run_entry.specs.declared.seqs.Kind.{Kind}
use Rattle.uc_run_entry.specs.declared.seqs.Kind.TheVariants.{One, Few, Shared}

-- the list that they are
abbrev pub seqs_of : Kind → List ℕ
seqs_of (One seq) = seq ∷ []
seqs_of (Few list) = list
seqs_of (Shared share) = share

-- whether two lists are equal
abbrev pub same_seqs : List ℕ → List ℕ → Bool
same_seqs = pointwise nat_eq
