use Rattle.std.proofs.Common.{◌<◌, map}
use Rattle.std.specs.Prelude.{vec_len}
use Rattle.std.specs.List.Sorted.{IsStrictlySortedBy}
use Rattle.uc_bytes.specs.Bytes.{bytes_cmp}
use Rattle.uc_compact.proofs.cuts.cut_keys.Given as goal

pub record Cut (l : goal.Live-loop-part) : Type 0 where
  pub rise : IsStrictlySortedBy bytes_cmp (map (λ cut. cut.now) l.cuts.items)
  pub count : vec_len l.cuts < l.part

abbrev pub invariant-loop-part : goal.invariant-loop-part
invariant-loop-part l = Cut l
