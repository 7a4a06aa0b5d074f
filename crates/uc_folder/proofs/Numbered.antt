-- A machine's numbers are read as that machine.
use Rattle.std.proofs.Common.{◌≡◌, ◌<◌, ◌^◌, Bool, true, false, cond, ltb, ◌&&◌, refl, ap, ◌∙◌}
use Rattle.std.specs.Prelude.{Some, None}
use Rattle.std.proofs.lemmas.Bool.{lt-ltb}
use Rattle.uc_folder.specs.declared.machine.Machine.{Machine}
use Rattle.uc_folder.specs.declared.phases.Writer.{Writer}
use Rattle.uc_folder.specs.declared.phases.Writer.TheVariants.{Making}
use Rattle.uc_folder.specs.declared.phases.NextLog.{NextLog}
use Rattle.uc_folder.specs.declared.phases.NextLog.TheVariants.{Absent}
use Rattle.uc_folder.specs.declared.phases.Checkpointer.{Checkpointer}
use Rattle.uc_folder.specs.declared.phases.Checkpointer.TheVariants.{Idle}
use Rattle.uc_folder.specs.States.{writer_code, writer_at, writer_top, writer_sealed, writer_of, next_code, next_of, checkpointer_code, checkpointer_number, checkpointer_part, checkpointer_of, state_of, with_phases, machine_of}

writer_read : (w : Writer) → writer_of (writer_code w) (writer_at w) (writer_top w) (writer_sealed w) ≡ Some w
writer_read Making = refl
writer_read w = refl

next_read : (n : NextLog) → next_of (next_code n) ≡ Some n
next_read Absent = refl
next_read n = refl

checkpointer_read : (c : Checkpointer) → checkpointer_of (checkpointer_code c) (checkpointer_number c) (checkpointer_part c) ≡ Some c
checkpointer_read Idle = refl
checkpointer_read c = refl

both_true : (a b : Bool) → a ≡ true → b ≡ true → (a && b) ≡ true
both_true true b e f = f
both_true false b e f = e

pub machine_read : (m : Machine) → m.log < 2 ^ 63 → m.count < 2 ^ 63 → machine_of (state_of m) ≡ Some m
machine_read m log count =
    let s = state_of m in
    let small : (ltb m.log (2 ^ 63) && ltb m.count (2 ^ 63)) ≡ true = both_true (ltb m.log (2 ^ 63)) (ltb m.count (2 ^ 63)) (lt-ltb m.log (2 ^ 63) log) (lt-ltb m.count (2 ^ 63) count) in
    ap (λ (b : Bool). cond b (with_phases s (writer_of s.writer s.at s.top s.is_sealed) (next_of s.next) (checkpointer_of s.checkpointer s.number s.part)) None) small
    ∙ (ap (λ w. with_phases s w (next_of s.next) (checkpointer_of s.checkpointer s.number s.part)) (writer_read m.writer)
    ∙ (ap (λ n. with_phases s (Some m.writer) n (checkpointer_of s.checkpointer s.number s.part)) (next_read m.next)
    ∙ ap (λ c. with_phases s (Some m.writer) (Some m.next) c) (checkpointer_read m.checkpointer)))
