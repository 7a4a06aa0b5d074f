use Rattle.std.proofs.Common.{◌≡◌, ◌≤◌, List, ℕ, length, Ok, sym, subst}
use Rattle.uc_script.specs.Head.{head_of}
use Rattle.uc_script.specs.HeadReading.{seen}
use Rattle.uc_script.specs.declared.head.Head.{Head as Found}
use Rattle.uc_tool_ask.proofs.Fronts.{read_in_front}
use Rattle.uc_tool_ask.proofs.parted_input.part_input.Goals as goal

pub returns-in-Ok-clause-read : goal.returns-in-Ok-clause-read
returns-in-Ok-clause-read c =
    let front = c.loop-head.front.items in
    let found = c.in-Ok.head in
    let text : c.deref.result.now ≡ front = c.deref.ensures.value in
    let within : found.size ≤ length front = subst (λ (bytes : List ℕ). found.size ≤ length bytes) text c.in-Ok.ensures.within in
    let is : head_of front ≡ Ok (seen front found) = subst (λ (bytes : List ℕ). head_of bytes ≡ Ok (seen bytes found)) text c.in-Ok.ensures.read in
    let whole = read_in_front front c.loop-head.rest found within c.args.input c.loop-head.invariant.whole is c.what_follows_a_head_changes_nothing.ensures in
    subst (λ (head : Found). head_of c.args.input ≡ Ok (seen c.args.input head)) (sym c.in_ok-part_front-in-Ok.ensures.head) whole
