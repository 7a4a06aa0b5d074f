-- How a view is held.
use Rattle.std.specs.Prelude.{◌≡◌, ◌≢◌, [], IfSome}
use Rattle.std.specs.Arc.{arc_value}
use Rattle.uc_batch.specs.Rising.{IsRising}
use Rattle.uc_run.specs.Flush.{flushed}
use Rattle.uc_live.specs.Views.{Seen}
use Rattle.uc_live.specs.declared.view.View.TheInside.{Inside}

abbrev pub seen : {O : Type 0} → Inside O → Seen
seen i = let parts = arc_value i.parts in record { version = parts.version; gathered = parts.gathered.shown }

pub record IsSeen {O : Type 0} (i : Inside O) : Type 0 where
  -- writes in memtables are newer than the runs
  pub rising : IsRising (arc_value i.parts).version.last (arc_value i.parts).gathered.shown
  -- what was sorted is its run
  pub sorted_is : IfSome i.sorted (λ run. ((arc_value i.parts).gathered.shown ≢ []) × (arc_value run ≡ flushed (arc_value i.parts).gathered.shown))
