use Rattle.uc_compact.proofs.Parted.{one_stripe}
use Rattle.uc_compact.proofs.laws.sequences_have_one_stripe.Goals as goal

pub returns : goal.returns
returns c = λ keeps seq rise some below. one_stripe keeps seq rise some below
