use Rattle.std.proofs.Common.{◌≡◌, ◌-◌, ◌∙◌, arith}
use Rattle.uc_logrec.specs.Crc.{extended}
use Rattle.uc_logrec.proofs.Checksums.{extended_by, extended-append}
use Rattle.uc_logrec.proofs.Words.{chunked}
use Rattle.uc_logrec.proofs.checksum.extend.Goals as goal

exact : (c : goal.After-shift_in_bytes) → 4294967295 - c.shift_in_bytes.result ≡ extended c.args.crc c.args.bytes.now
exact c =
    extended_by c.args.crc c.shift_in_bytes.result c.args.bytes.now (omega arith) (omega arith)
    (chunked c.args.bytes.now _ _ (4294967295 - c.args.crc) c.shift_in_words.result c.shift_in_bytes.result
    c.as_chunks.ensures.front c.as_chunks.ensures.back c.shift_in_words.ensures c.shift_in_bytes.ensures)

pub returns-clause-exact : goal.returns-clause-exact
returns-clause-exact c = exact c

pub returns-clause-continues : goal.returns-clause-continues
returns-clause-continues c = λ front e. exact c ∙ extended-append c.args.crc front c.args.bytes.now e
