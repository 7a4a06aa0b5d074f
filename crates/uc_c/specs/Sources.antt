-- Where a look-up is answered, as the number that C sees.
use Rattle.std.specs.Prelude.{◌≡◌, ℕ, ℤ, ◌⊎◌}
use Rattle.uc_live.specs.declared.lookup_source.LookupSource.{LookupSource}
use Rattle.uc_live.specs.declared.lookup_source.LookupSource.TheVariants as sources
use Rattle.uc_c.specs.declared.sources.TheConstants.{MEMTABLE, FILTERS, RUNS}
use Rattle.uc_c.specs.declared.status.TheConstants.{OK, OUT_OF_MEMORY}

abbrev pub number_of : LookupSource → ℕ
number_of sources.Memtable = MEMTABLE
number_of sources.Filters = FILTERS
number_of sources.Runs = RUNS

-- the source is stored, or allocation failed
abbrev pub TellsSource : ℤ → LookupSource → ℕ → Type 0
TellsSource status source number = (status ≡ OUT_OF_MEMORY) ⊎ ((status ≡ OK) × (number ≡ number_of source))
