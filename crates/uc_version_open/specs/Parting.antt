-- A split list of a log's writes: the first ones are in a store that is being opened, the others come after them.
use Rattle.std.specs.Prelude.{◌≡◌, ℕ, ◌-◌, ◌<◌, List, length, take, drop}
use Rattle.uc_bytes.specs.declared.write.Write.{Write}
use Rattle.uc_batch.specs.Rising.{IsRising}
use Rattle.uc_version_state.specs.declared.options.Options.{Options}
use Rattle.uc_version_open.specs.Progress.{Progress, progress_of}

-- the writes read up to now, of which the store takes at most `most`: its state, the number that it still takes, and the writes
-- after those
pub record IsParted (options : Options) (most : ℕ) (writes : List Write) (opener : Progress) (left : ℕ) (behind : List Write) : Type 0 where
  pub taken : opener ≡ progress_of options (take most writes)
  pub few : left ≡ most - length writes
  pub kept : behind ≡ drop most writes

-- writes that rise from the last one that came, which the store has taken if it takes more
pub record ComeNext (opener : Progress) (left : ℕ) (writes : List Write) : Type 0 where
  pub from : ℕ
  pub rising : IsRising from writes
  pub last : 0 < left → opener.last ≡ from
