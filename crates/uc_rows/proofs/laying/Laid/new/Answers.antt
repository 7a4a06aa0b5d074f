use Rattle.uc_rows.proofs.LaidMore.{none_laid}
use Rattle.uc_rows.proofs.laying.Laid.new.Goals as goal

pub returns : goal.returns
returns c room = none_laid room
