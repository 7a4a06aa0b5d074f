use Rattle.std.proofs.Common.{ℕ, List, subst, sym}
use Rattle.std.proofs.lemmas.Bool.{false≢true}
use Rattle.uc_logrec.specs.declared.log_reader.Next.{Next}
use Rattle.uc_logrec.specs.Position.{LiesIn, LeadsIn}
use Rattle.uc_log_crash.proofs.Blank.{nothing_lies}
use Rattle.uc_log_crash.proofs.Told.{told_there}
use Rattle.uc_log_crash.proofs.telling.tells.Goals as goal

pub returns-then-is_blank : goal.returns-then-is_blank
returns-then-is_blank c = (
  λ never. absurd (false≢true never),
  λ told. absurd (nothing_lies c.args.log.now told.payload c.args.offset told.after (c.is_blank.ensures.fits c.if-is_blank.true) (c.is_blank.ensures.blank c.if-is_blank.true) told.lies),
)

pub returns-in-Whole : goal.returns-in-Whole
returns-in-Whole c =
    told_there c.args.log.now c.in-Whole.payload.now c.args.end c.args.last c.args.offset c.in_ok-next.field-0-1 c.says_beyond.result
    (subst (λ (next : Next). LeadsIn next c.next_payload.new.joined.items c.args.log.now c.args.offset c.in_ok-next.field-0-1) c.in-Whole.is c.in_ok-next.ensures)
    c.says_beyond.ensures

pub returns-in-Joined : goal.returns-in-Joined
returns-in-Joined c =
    let lies : LiesIn c.next_payload.new.joined.items c.args.log.now c.args.offset c.in_ok-next.field-0-1 =
    subst (λ (next : Next). LeadsIn next c.next_payload.new.joined.items c.args.log.now c.args.offset c.in_ok-next.field-0-1) c.in-Joined.is c.in_ok-next.ensures in
    told_there c.args.log.now c.deref.result.now c.args.end c.args.last c.args.offset c.in_ok-next.field-0-1 c.says_beyond-in-Joined.result
    (subst (λ (payload : List ℕ). LiesIn payload c.args.log.now c.args.offset c.in_ok-next.field-0-1) (sym c.deref.ensures.value) lies)
    c.says_beyond-in-Joined.ensures
