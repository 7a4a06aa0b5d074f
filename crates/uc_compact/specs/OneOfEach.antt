-- Number of entries of a run for each key, fragment and stripe.
use Rattle.std.specs.Prelude.{◌≡◌, ℕ, ◌≤◌, true, ◌&&◌, List, [], filter, length}
use Rattle.std.specs.List.{AllByRecursion}
use Rattle.uc_bytes.specs.Bytes.{same_bytes}
use Rattle.uc_run_entry.specs.Run.{Contents}
use Rattle.uc_compact.specs.Stripes.{is_in, stripes, Keeping, is_bottom}
use Rattle.uc_compact.specs.Values.{IsPut}

-- in each stripe of some keeps at most one point of a key, and of each fragment at most one sequence
pub record HasOneOfEach (keeps : List ℕ) (run : Contents) : Type 0 where
  pub points : (key : List ℕ) → AllByRecursion (λ s. length (filter (λ p. is_in s p.seq && same_bytes p.key key) run.points) ≤ 1) (stripes keeps)
  pub fragments : AllByRecursion (λ s. AllByRecursion (λ f. length (filter (is_in s) f.seqs) ≤ 1) run.fragments) (stripes keeps)

-- in the bottom stripe no points but puts, and of no fragment a sequence
pub record HasValuesAlone (k : Keeping) (run : Contents) : Type 0 where
  pub points : (key : List ℕ) → AllByRecursion (λ s. is_bottom k s ≡ true → AllByRecursion (λ p. IsPut p.what) (filter (λ p. is_in s p.seq && same_bytes p.key key) run.points)) (stripes k.keeps)
  pub fragments : AllByRecursion (λ s. is_bottom k s ≡ true → AllByRecursion (λ f. filter (is_in s) f.seqs ≡ []) run.fragments) (stripes k.keeps)
