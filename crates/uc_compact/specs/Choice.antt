-- The output for one key, by its points and the range deletions over it, both the newest first.
use Rattle.std.specs.Prelude.{◌≢◌, ℕ, ◌<◌, Bool, List, Option, None, option_map, map, filter, filter_map, nat_lt, if◌then◌else◌}
use Rattle.std.specs.List.{AllByRecursion, flat_map}
use Rattle.std.specs.List.Sorted.{IsStrictlySortedBy}
use Rattle.std.specs.Ordering.{nat_cmp}
use Rattle.uc_oper.specs.Operation.{Operation}
use Rattle.uc_bytes.specs.Bytes.{same_bytes}
use Rattle.uc_run_entry.specs.declared.entry.Entry.{Entry}
use Rattle.uc_run_entry.specs.Fragment.{Fragment}
use Rattle.uc_run_entry.specs.Lookup.{above_newest}
use Rattle.uc_run_entry.specs.Order.{IsFalling}
use Rattle.uc_run_entry.specs.Run.{covers}
use Rattle.uc_compact.specs.Stripes.{is_in, stripes, Keeping, is_bottom}
use Rattle.uc_compact.specs.Output.{greatest, what_kept}

-- the point that replaces points of the key in one stripe, given the sequences of that stripe's range deletions over it
abbrev pub point_for : Operation → Bool → List ℕ → List Entry → List ℕ → Option Entry
point_for m bottom key points seqs =
    if nat_lt 0 (greatest (map (λ p. p.seq) points))
    then option_map (λ what. record { key = key; seq = greatest (map (λ p. p.seq) points); what = what })
    (what_kept m bottom (above_newest m points seqs) (nat_lt (greatest (map (λ p. p.seq) points)) (greatest seqs)))
    else None

-- one for each stripe
abbrev pub points_for : Operation → Keeping → List ℕ → List Entry → List ℕ → List Entry
points_for m k key points seqs = filter_map (λ s. point_for m (is_bottom k s) key (filter (λ p. is_in s p.seq) points) (filter (is_in s) seqs)) (stripes k.keeps)

-- the points of a key among some
abbrev pub points_named : List ℕ → List Entry → List Entry
points_named key points = filter (λ p. same_bytes p.key key) points

-- the sequences of the range deletions over a key
abbrev pub seqs_over : List ℕ → List Fragment → List ℕ
seqs_over key fragments = flat_map (λ f. f.seqs) (filter (λ f. covers f key) fragments)

-- points by falling sequence
abbrev pub PointsFall : List Entry → Type 0
PointsFall points = IsStrictlySortedBy (λ p q. nat_cmp q.seq p.seq) points

-- the points of one key and the range deletions over it: both the newest first, from sequence 1 on, and no sequence is
-- in both
pub record AreOfOneKey (points : List Entry) (seqs : List ℕ) : Type 0 where
  pub points_fall : PointsFall points
  pub seqs_fall : IsFalling seqs
  pub points_from_one : AllByRecursion (λ p. 0 < p.seq) points
  pub seqs_from_one : AllByRecursion (λ n. 0 < n) seqs
  pub apart : AllByRecursion (λ p. AllByRecursion (λ n. n ≢ p.seq) seqs) points
