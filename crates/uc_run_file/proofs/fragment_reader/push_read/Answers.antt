use Rattle.std.proofs.Common.{length, ◌++◌}
use Rattle.uc_run_file.specs.Spelling.{numbers_text}
use Rattle.uc_run_file.proofs.FragmentText.{head_there}
use Rattle.uc_run_file.proofs.fragment_reader.push_read.Goals as goal

pub returns-in-None : goal.returns-in-None
returns-in-None c = record { read = λ f rest b. c.in-None.ensures.none f.begin f.end (length f.seqs) (numbers_text f.seqs ++ rest) (head_there c.args.bytes.now f rest b) }

pub returns-in_ok-found-in-Some : goal.returns-in_ok-found-in-Some
returns-in_ok-found-in-Some c = record { read = c.in_ok-found-in-Some.ensures.read c.args.bytes.now c.in-Some.ensures.some }
