use Rattle.std.proofs.Common.{◌≡◌, ◌-◌, ◌<◌, true, false, refl, sym, ap, ◌∙◌, subst, arith}
use Rattle.std.proofs.lemmas.Bool.{false≢true}
use Rattle.std.proofs.lemmas.Option.{get_or_from_slice_get}
use Rattle.uc_run_entry.specs.declared.entry.Entry.{Entry}
use Rattle.uc_run_entry.specs.Seek.{is_passed, seek_place}
use Rattle.uc_run.proofs.LastKey.{back_ends, back_more}
use Rattle.uc_run.proofs.Passing.{seek_point}
use Rattle.uc_run.proofs.back_cursor.place_before.Goals as goal

pub returns-then-is_passed : goal.returns-then-is_passed
returns-then-is_passed c =
    let points = c.args.points.now in
    let key = c.args.key.now in
    let place = c.args.place in
    let passed = c.loop-passed.passed in
    let last : Entry = c.in-Some.last in
    let lt : passed < place = omega (arith, c.loop-passed-test.true, c.min-passed-end.ensures) in
    let passes : is_passed key false last.key ≡ true = ap (is_passed key false) (sym c.key.ensures) ∙ sym c.is_passed.ensures ∙ c.if-is_passed.true in
    let there = sym (get_or_from_slice_get points (place - passed - 1) last last (sym c.in-Some.ensures)) in
    back_ends (λ (p : Entry). is_passed key false p.key ≡ true) (λ (p : Entry). is_passed key false p.key ≡ false) (λ p yes_it_does fails. false≢true (sym fails ∙ yes_it_does))
    points place passed (seek_place points key false) last c.requires.within lt (seek_point points key false c.requires.sorted (seek_place points key false) refl) c.loop-passed.invariant
    (subst (λ (p : Entry). is_passed key false p.key ≡ true) there passes)

pub loop-passed-preserved : goal.loop-passed-preserved
loop-passed-preserved c =
    let points = c.args.points.now in
    let key = c.args.key.now in
    let place = c.args.place in
    let passed = c.loop-passed.passed in
    let last : Entry = c.in-Some.last in
    let lt : passed < place = omega (arith, c.loop-passed-test.true, c.min-passed-end.ensures) in
    let fails : is_passed key false last.key ≡ false = ap (is_passed key false) (sym c.key.ensures) ∙ sym c.is_passed.ensures ∙ c.if-is_passed.false in
    back_more (λ (p : Entry). is_passed key false p.key ≡ false) points place passed last lt (sym c.in-Some.ensures) fails c.loop-passed.invariant
