use Rattle.std.proofs.Common.{◌≡◌, ℕ, ◌<◌, List, ◌++◌, length, ap, ◌∙◌, subst, sym}
use Rattle.uc_batch.specs.Pieces.{bytes_of}
use Rattle.uc_batch.proofs.Joining.{bytes_of-push, AreFilled-push}
use Rattle.uc_batch.proofs.pieces.push_piece.Goals as goal

pub returns-clause-ok : goal.returns-clause-ok
returns-clause-ok c =
    let is : c.extend_from_slice.new.self.items ≡ c.args.bytes.now = c.in_ok-extend_from_slice.ensures.items ∙ ap (λ (l : List ℕ). l ++ c.args.bytes.now) c.in_ok-piece.ensures.items in
    rw (c.in_ok-push_back.ensures.items) (bytes_of-push c.args.pieces.now.items c.extend_from_slice.new.self ∙ ap (λ (l : List ℕ). bytes_of c.args.pieces.now.items ++ l) is)

pub returns-clause-filled : goal.returns-clause-filled
returns-clause-filled c some filled =
    let is : c.extend_from_slice.new.self.items ≡ c.args.bytes.now = c.in_ok-extend_from_slice.ensures.items ∙ ap (λ (l : List ℕ). l ++ c.args.bytes.now) c.in_ok-piece.ensures.items in
    rw (c.in_ok-push_back.ensures.items) (AreFilled-push c.args.pieces.now.items c.extend_from_slice.new.self filled (subst (λ (l : List ℕ). 0 < length l) (sym is) some))
