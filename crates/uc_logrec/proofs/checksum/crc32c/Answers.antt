use Rattle.std.proofs.Common.{◌∙◌, sym}
use Rattle.uc_logrec.proofs.Checksums.{crc_of-extended}
use Rattle.uc_logrec.proofs.checksum.crc32c.Goals as goal

pub returns : goal.returns
returns c = c.extend.ensures.exact ∙ sym (crc_of-extended c.args.bytes.now)
