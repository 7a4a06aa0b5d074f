use Rattle.uc_batch.proofs.Passing.{passes_whole, passes_joined}
use Rattle.uc_batch.proofs.payload.read_in.Goals as goal

pub returns-in-Whole : goal.returns-in-Whole
returns-in-Whole c =
    let leads = rw (c.in-Whole.is, c.split_at.ensures.back) at c.in_ok-next.ensures.leads in
    let last = rw (c.in-Whole.is, c.split_at.ensures.back) at c.in_ok-next.ensures.last in
    passes_whole c.in-Whole.payload.now c.next_payload_at.new.joined.items c.args.piece.now c.in_ok-next.field-0-2.now c.args.at c.args.place c.in_ok-next.behind c.requires.within leads last

pub returns-in-Joined : goal.returns-in-Joined
returns-in-Joined c =
    let leads = rw (c.in-Joined.is, c.split_at.ensures.back) at c.in_ok-next.ensures.leads in
    passes_joined c.next_payload_at.new.joined.items c.args.piece.now c.in_ok-next.field-0-2.now c.args.at c.args.place c.in_ok-next.behind c.requires.within leads
