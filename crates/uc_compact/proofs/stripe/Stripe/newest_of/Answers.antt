use Rattle.std.proofs.Common.{ltb, filter, ap, ◌∙◌}
use Rattle.std.specs.Prelude.{Option}
use Rattle.std.specs.List.{slice_get}
use Rattle.std.specs.Option.{option_to_list}
use Rattle.uc_compact.specs.Stripes.{Stripe, is_in}
use Rattle.uc_compact.proofs.Newest.{newest_in}
use Rattle.uc_compact.proofs.stripe.Stripe.newest_of.Goals as goal

pub returns : goal.returns
returns c =
    let s = c.self.inside in
    c.above.ensures
    ∙ ap (λ (o : Option _). slice_get (filter (λ n. ltb s.above n) (option_to_list o)) 0) c.newest_at_or_below.ensures
    ∙ newest_in (record { above = s.above; upto = s.upto }) c.args.seqs.now c.recall_falling.ensures
    ∙ ap (λ (t : Stripe). slice_get (filter (is_in t) c.args.seqs.now) 0) c.self.view_is
