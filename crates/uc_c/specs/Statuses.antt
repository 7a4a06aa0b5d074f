-- Which status says which error.
use Rattle.std.specs.Prelude.{◌≡◌, ℤ}
use Rattle.uc_batch.specs.declared.error.BatchError.{BatchError}
use Rattle.uc_batch.specs.declared.error.BatchError.TheVariants as faults
use Rattle.uc_batch.specs.declared.push_error.PushError.{PushError}
use Rattle.uc_batch.specs.declared.push_error.PushError.TheVariants as pushes
use Rattle.uc_live.specs.declared.open_error.LiveOpenError.{LiveOpenError}
use Rattle.uc_live.specs.declared.open_error.LiveOpenError.TheVariants as opens
use Rattle.uc_live.specs.declared.room_error.RoomError.{RoomError}
use Rattle.uc_live.specs.declared.room_error.RoomError.TheVariants as rooms
use Rattle.uc_live.specs.declared.write_error.WriteError.{WriteError}
use Rattle.uc_live.specs.declared.write_error.WriteError.TheVariants as writes
use Rattle.uc_c.specs.declared.status.TheConstants.{OUT_OF_MEMORY, BAD_OPTION, IDS_SPENT, SEQUENCES_SPENT, TOO_LONG, NOT_A_BATCH, SEQUENCE_BACK, BATCH_FULL, RUNS_CLAIMED}

abbrev pub RoomSays : RoomError → ℤ → Type 0
RoomSays rooms.IdsSpent status = status ≡ IDS_SPENT
RoomSays rooms.RunsClaimed status = status ≡ RUNS_CLAIMED
RoomSays rooms.Memory status = status ≡ OUT_OF_MEMORY

abbrev pub OpenSays : LiveOpenError → ℤ → Type 0
OpenSays opens.BadOption status = status ≡ BAD_OPTION
OpenSays (opens.NoRoom error) status = RoomSays error status

abbrev pub BatchSays : BatchError → ℤ → Type 0
BatchSays (faults.SequenceBack last) status = status ≡ SEQUENCE_BACK
BatchSays fault status = status ≡ NOT_A_BATCH

abbrev pub WriteSays : WriteError → ℤ → Type 0
WriteSays (writes.Faulty fault) status = BatchSays fault status
WriteSays writes.SequencesSpent status = status ≡ SEQUENCES_SPENT
WriteSays writes.TooLong status = status ≡ TOO_LONG
WriteSays (writes.NoRoom error) status = RoomSays error status

-- Collected operations are a valid batch, so the write fails only if too few sequence numbers are left.
abbrev pub GatheredSays : WriteError → ℤ → Type 0
GatheredSays (writes.NoRoom error) status = RoomSays error status
GatheredSays error status = status ≡ SEQUENCES_SPENT

abbrev pub PushSays : PushError → ℤ → Type 0
PushSays pushes.TooLong status = status ≡ TOO_LONG
PushSays pushes.Full status = status ≡ BATCH_FULL
PushSays pushes.Memory status = status ≡ OUT_OF_MEMORY
