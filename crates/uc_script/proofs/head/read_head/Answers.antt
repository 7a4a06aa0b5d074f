use Rattle.uc_script.proofs.HeadRead.{head_is_read}
use Rattle.uc_script.proofs.head.read_head.Goals as goal

pub returns-clause-read : goal.returns-clause-read
returns-clause-read c = head_is_read c.args.text.now c.read_lines.result c.read_lines.ensures.read
