use Rattle.std.proofs.Common.{refl}
use Rattle.uc_logrec.specs.Log.{reading_of}
use Rattle.uc_logrec.proofs.log_reader.LogReader.new.Goals as goal

pub returns : goal.returns
unfolding reading_of
returns c = refl
