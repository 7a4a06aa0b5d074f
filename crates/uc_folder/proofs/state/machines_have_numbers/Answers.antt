use Rattle.uc_folder.proofs.Numbered.{machine_read}
use Rattle.uc_folder.proofs.state.machines_have_numbers.Goals as goal

pub returns : goal.returns
returns c = λ m log count. machine_read m log count
