-- The output of a compaction, key by key and stripe by stripe (RocksDB wiki, "Universal Compaction", "Merge Operator",
-- "DeleteRange").
use Rattle.std.specs.Prelude.{ℕ, max, Bool, true, ◌&&◌, List, [], Option, Some, None, option_map, length, map, fold, filter, filter_map, nat_lt, if◌then◌else◌}
use Rattle.std.specs.List.{flat_map}
use Rattle.std.specs.BTreeSet.{insert_key}
use Rattle.uc_bytes.specs.Bytes.{bytes_cmp, same_bytes}
use Rattle.uc_oper.specs.Operation.{Operation}
use Rattle.uc_oper.specs.Composition.{applied}
use Rattle.uc_oper.specs.declared.effect.Effect.{Effect}
use Rattle.uc_oper.specs.declared.effect.Effect.TheVariants.{Keep, Fold, Set}
use Rattle.uc_model.specs.Meaning.{effect_within}
use Rattle.uc_run_entry.specs.declared.entry.Entry.{Entry}
use Rattle.uc_run_entry.specs.declared.entry.What.{What}
use Rattle.uc_run_entry.specs.declared.entry.What.TheVariants.{Put, Delete, Merge}
use Rattle.uc_run_entry.specs.Fragment.{Fragment}
use Rattle.uc_run_entry.specs.Run.{Contents}
use Rattle.uc_run_entry.specs.Cutting.{range_covers, fragments_of}
use Rattle.uc_compact.specs.Stripes.{Stripe, is_in, stripes, Keeping, is_bottom}
use Rattle.uc_compact.specs.Inputs.{Compaction, high_of, low_of, writes_of, points_of, ranges_of, keeping_of}

-- the greatest of some sequences, or 0 if there is none
abbrev pub greatest : List ℕ → ℕ
greatest seqs = fold max 0 seqs

-- the sequence of the newest point of the key in the stripe
abbrev pub newest_point : Compaction → List ℕ → Stripe → ℕ
newest_point c key s = greatest (map (λ p. p.seq) (filter (λ p. is_in s p.seq && same_bytes p.key key) (points_of c.inputs)))

-- the sequence of the newest range deletion over the key in the stripe
abbrev pub newest_range : Compaction → List ℕ → Stripe → ℕ
newest_range c key s = greatest (map (λ r. r.seq) (filter (λ r. is_in s r.seq && range_covers r key) (ranges_of c.inputs)))

-- what the stripe's writes together do to the key
abbrev pub effect_in : Operation → Compaction → List ℕ → Stripe → Effect
effect_in m c key s = effect_within m (writes_of c.inputs) key s.above s.upto

-- The point that replaces an effect. No value needs no point if something else clears the key.
abbrev pub what_of : Effect → Bool → Option What
what_of Keep cleared = None
what_of (Fold operand) cleared = Some (Merge operand)
what_of (Set (Some value)) cleared = Some (Put value)
what_of (Set None) cleared = if cleared then None else Some Delete

-- The point that replaces a stripe's effect. A range deletion above the newest point clears the key alone. In the bottom stripe,
-- below which there is nothing, the effect becomes the value that it makes of none.
abbrev pub what_kept : Operation → Bool → Effect → Bool → Option What
what_kept m bottom effect cleared = if bottom then what_of (Set (applied m effect None)) true else what_of effect cleared

-- a key's point of a stripe, with the sequence of the newest; none if the stripe has no point of the key
abbrev pub point_kept : Operation → Compaction → List ℕ → Stripe → Option Entry
point_kept m c key s =
    if nat_lt 0 (newest_point c key s)
    then option_map (λ what. record { key = key; seq = newest_point c key s; what = what })
    (what_kept m (is_bottom (keeping_of c) s) (effect_in m c key s) (nat_lt (newest_point c key s) (newest_range c key s)))
    else None

-- the keys of the inputs' points, in order, each once
abbrev pub keys_of : Compaction → List (List ℕ)
keys_of c = fold (insert_key bytes_cmp) [] (map (λ p. p.key) (points_of c.inputs))

-- for each key and each stripe, the newest first, at most one point
abbrev pub points_kept : Operation → Compaction → List Entry
points_kept m c = flat_map (λ key. filter_map (point_kept m c key) (stripes c.keeps)) (keys_of c)

-- the greatest of some sequences that is in the stripe; none for the bottom stripe, where nothing is left to clear
abbrev pub seq_kept : Keeping → List ℕ → Stripe → Option ℕ
seq_kept k seqs s =
    if is_bottom k s then None
    else if nat_lt 0 (greatest (filter (is_in s) seqs)) then Some (greatest (filter (is_in s) seqs)) else None

-- for each stripe, the newest first, at most one of some sequences
abbrev pub seqs_kept : Keeping → List ℕ → List ℕ
seqs_kept k seqs = filter_map (seq_kept k seqs) (stripes k.keeps)

abbrev pub fragment_kept : Keeping → Fragment → Fragment
fragment_kept k f = record { begin = f.begin; end = f.end; seqs = seqs_kept k f.seqs }

-- the pieces between neighbouring ends of all the inputs' range deletions, each with its kept sequences; a piece
-- without any is left out, and pieces with equal sequences aren't joined
abbrev pub fragments_kept : Compaction → List Fragment
fragments_kept c = filter (λ f. nat_lt 0 (length f.seqs)) (map (fragment_kept (keeping_of c)) (fragments_of (ranges_of c.inputs)))

-- the run that a compaction makes
abbrev pub output_of : Operation → Compaction → Contents
output_of m c = record { low = low_of c.inputs; high = high_of c.inputs; points = points_kept m c; fragments = fragments_kept c }
