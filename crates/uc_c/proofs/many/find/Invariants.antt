use Rattle.std.proofs.Common.{◌≡◌, take, drop, map}
use Rattle.std.specs.Prelude.{sum}
use Rattle.uc_engine.specs.EngineViews.{value_seen}
use Rattle.uc_c.specs.Many.{length_told, values_bytes, values_of}
use Rattle.uc_c.proofs.many.find.Given as goal

abbrev pub invariant-loop-length : goal.invariant-loop-length
invariant-loop-length g l = record {
  left : l.left ≡ drop (sum (take l.length-index l.key_lengths)) l.keys;
  lengths : l.lengths.items ≡ map length_told (values_of (value_seen (g.R.Readable.viewed l.source)) (take l.length-index l.key_lengths) l.keys);
  bytes : l.bytes.items ≡ values_bytes (values_of (value_seen (g.R.Readable.viewed l.source)) (take l.length-index l.key_lengths) l.keys);
}
