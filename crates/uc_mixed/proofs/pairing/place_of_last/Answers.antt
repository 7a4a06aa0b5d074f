use Rattle.std.proofs.Common.{◌∙◌, sym}
use Rattle.uc_mixed.proofs.Placed.{place_same, place_other}
use Rattle.uc_mixed.proofs.pairing.place_of_last.Goals as goal

pub returns-then-is : goal.returns-then-is
returns-then-is c =
    let part = c.in-Some.part in
    place_same c.args.older.now part.rest.now part.payload.now part.kind c.args.kind c.in-Some.ensures c.requires (sym c.is.ensures ∙ c.if-is.true)

pub returns-else-is : goal.returns-else-is
returns-else-is c =
    let part = c.in-Some.part in
    place_other c.args.older.now part.rest.now part.payload.now part.kind c.args.kind c.in-Some.ensures c.requires (sym c.is.ensures ∙ c.if-is.false)
