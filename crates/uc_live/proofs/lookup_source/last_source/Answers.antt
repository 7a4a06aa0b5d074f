use Rattle.std.proofs.Common.{Bool, List, sym, ap, ◌∙◌}
use Rattle.std.specs.Prelude.{if◌then◌else◌}
use Rattle.uc_compact.specs.Inputs.{writes_of}
use Rattle.uc_version_state.specs.Versions.{PlacedRun, contents_of}
use Rattle.uc_live.specs.Sources.{is_seen_among}
use Rattle.uc_live.specs.Views.{Seen}
use Rattle.uc_live.specs.declared.lookup_source.LookupSource.TheVariants.{Runs, Filters}
use Rattle.uc_live.proofs.Sourced.{memtable_told, rest_told}
use Rattle.uc_live.proofs.lookup_source.last_source.Goals as goal

pub returns-then-decided : goal.returns-then-decided
returns-then-decided g c =
    let s : Seen = record { version = c.args.version.now; gathered = c.args.gathered.now.shown } in
    memtable_told s c.args.key.now c.new-key.result c.last_sequence-last.result c.new-key.ensures c.last_sequence-last.ensures c.in_ok-decided.decided c.in_ok-decided.ensures c.if-decided.true

pub returns-then-seen : goal.returns-then-seen
returns-then-seen g c =
    let s : Seen = record { version = c.args.version.now; gathered = c.args.gathered.now.shown } in
    sym (ap (λ (b : Bool). if b then Runs else Filters) c.if-seen.true)
    ∙ rest_told s c.args.key.now c.new-key.result c.last_sequence-last.result c.new-key.ensures c.last_sequence-last.ensures c.in_ok-decided.decided c.in_ok-seen.seen c.in_ok-decided.ensures (c.in_ok-seen.ensures ∙ ap (λ (runs : List PlacedRun). is_seen_among (writes_of (contents_of runs)) c.new-key.result c.last_sequence-last.result) c.runs.ensures) c.if-decided.false

pub returns : goal.returns
returns g c =
    let s : Seen = record { version = c.args.version.now; gathered = c.args.gathered.now.shown } in
    sym (ap (λ (b : Bool). if b then Runs else Filters) c.if-seen.false)
    ∙ rest_told s c.args.key.now c.new-key.result c.last_sequence-last.result c.new-key.ensures c.last_sequence-last.ensures c.in_ok-decided.decided c.in_ok-seen.seen c.in_ok-decided.ensures (c.in_ok-seen.ensures ∙ ap (λ (runs : List PlacedRun). is_seen_among (writes_of (contents_of runs)) c.new-key.result c.last_sequence-last.result) c.runs.ensures) c.if-decided.false
