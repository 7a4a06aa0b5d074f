-- Memtables that aren't full when a write comes.
use Rattle.std.proofs.Common.{◌≡◌, ◌*◌, ◌<◌, true, List, [], ◌++◌, sym, ap, subst}
use Rattle.std.specs.Prelude.{count_by}
use Rattle.uc_bytes.specs.declared.write.Write.{Write}
use Rattle.uc_run.specs.Size.{memtable_size}
use Rattle.uc_memtable.specs.Labels.{deletes_range}
use Rattle.uc_live.specs.declared.live_options.TheConstants.{MOST_RANGES}
use Rattle.uc_live.specs.declared.live_options.LiveOptions.{LiveOptions}
use Rattle.uc_live.specs.LiveOptions.{are_good}
use Rattle.uc_live.specs.LiveFlushes.{FillFewer, HasRoom, HadRoom}
use Rattle.uc_live.specs.Lives.{Live, committed}
use Rattle.uc_live.proofs.Taken.{some_room}

-- prepared writes are taken after those in memtables
pub took_room : (mid new : Live) (ws : List Write) → HasRoom mid → mid.prepared ≡ ws → new ≡ committed mid → HadRoom new ws
took_room mid new ws room waits is = subst (λ (l : Live). HadRoom l ws) (sym is) (mid.gathered, ap (λ (us : List Write). mid.gathered ++ us) waits, room)

-- no writes fill none
pub none_fill : (o : LiveOptions) (l : Live) → l.options ≡ o → are_good o ≡ true → FillFewer l []
none_fill o l same good =
    let few = some_room o good in (
      subst (λ (p : LiveOptions). memtable_size [] < p.store.memtable * p.max_write_buffer_number) (sym same) few.0,
      subst (λ (p : LiveOptions). count_by deletes_range [] < MOST_RANGES * p.max_write_buffer_number) (sym same) few.1,
    )
