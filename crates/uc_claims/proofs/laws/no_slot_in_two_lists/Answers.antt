use Rattle.uc_claims.proofs.Moves.{apart, small_words}
use Rattle.uc_claims.proofs.laws.no_slot_in_two_lists.Goals as goal

pub returns : goal.returns
returns c = record { apart = apart; words = small_words }
