use Rattle.std.proofs.Common.{◌≡◌, ◌∙◌, ◌<◌, ◌^◌, List, ℕ, length, take, sym, subst, rules}
use Rattle.uc_run_points.specs.Faults as entries
use Rattle.uc_run_points.specs.Spelling.{entries_text}
use Rattle.uc_run_file.specs.Files.{AreParts}
use Rattle.uc_run_file.proofs.FilesRead.{no_point_fault, is_a_run, refused}
use Rattle.uc_run_file.proofs.reading.read_run.Goals as goal

pub returns-in-Err-Fault-clause-fault : goal.returns-in-Err-Fault-clause-fault
returns-in-Err-Fault-clause-fault c =
    let small : length c.args.file.items < 2 ^ 64 = search rules in
    let p = c.in_ok-parts.parts in
    let file = c.args.file.items in
    let parts = subst (λ (xs : List ℕ). AreParts xs p.points_len p.fragments p.footer) c.deref.ensures.value c.in_ok-parts.ensures.parts in
    let at = subst (λ (xs : List ℕ). entries.IsFaultAt xs c.in-Err-Fault.offset) c.truncate.ensures.items (rw c.in-Err-Fault.field-0-is at c.in-Err-Fault.ensures.fault) in
    ((λ r is e. no_point_fault file small r is e p.points_len p.fragments p.footer parts c.in-Err-Fault.offset at), record { len = p.points_len; fault = subst (λ (n : ℕ). entries.IsFaultAt (take p.points_len file) n) (sym c.in-Err-Fault.offset-is) at })

pub returns-in-Ok-clause-fault : goal.returns-in-Ok-clause-fault
returns-in-Ok-clause-fault c =
    let small : length c.args.file.items < 2 ^ 64 = search rules in
    let p = c.in_ok-parts.parts in
    let file = c.args.file.items in
    let parts = subst (λ (xs : List ℕ). AreParts xs p.points_len p.fragments p.footer) c.deref.ensures.value c.in_ok-parts.ensures.parts in
    let spelled : take p.points_len file ≡ entries_text c.in-Ok.points = sym c.truncate.ensures.items ∙ c.in-Ok.ensures.points in
    refused file c.in-Ok.points p.fragments p.footer c.in-Err.error
    (λ h. λ r is e. is_a_run file small r is e p.points_len p.fragments p.footer parts c.in-Ok.points c.in-Ok.ensures.fits spelled h) c.in-Err.ensures.fault
