-- A log of a folder as its bytes.
use Rattle.std.specs.Prelude.{◌≡◌, ℕ, true, List, ◌++◌}
use Rattle.uc_folder.specs.Device.{File, first_whole, are_whole}
use Rattle.uc_logrec.specs.Log.{payloads_of}
use Rattle.uc_logrec.specs.Walk.{Walks}

-- These are the bytes that were written to a log: the batches of its records, also of those that are lost, and none of them torn. The
-- first `synced` bytes have those that are on the device for certain.
pub record AreBytesOf (f : File) (written : List ℕ) (synced : ℕ) : Type 0 where
  pub whole : are_whole (f.kept ++ (f.waiting ++ f.lost)) ≡ true
  pub batches : payloads_of written ≡ first_whole (f.kept ++ (f.waiting ++ f.lost))
  pub kept : Walks written (first_whole f.kept) synced
