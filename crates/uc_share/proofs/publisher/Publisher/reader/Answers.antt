use Rattle.uc_share.proofs.Showing.{admits}
use Rattle.uc_share.proofs.publisher.Publisher.reader.Goals as goal

pub reader-requires : goal.reader-requires
reader-requires g c = admits g.O.Operator.meaning g.N.Name.keeps_stay g.N.Name.book g.N.Name.base
