use Rattle.std.proofs.Common.{◌≡◌, ◌+◌, List, ℕ, take, drop, Option, None, subst, ◌∙◌, arith}
use Rattle.std.proofs.lemmas.Result.{IfOk-weaker}
use Rattle.uc_live.specs.Views.{Seen, writes_of, last}
use Rattle.uc_query_read.specs.Answers.{rows_of, named_keys}
use Rattle.uc_checkpoint.specs.Checkpoints.{Progress, all_rows, piece_size}
use Rattle.uc_checkpoint.specs.HeldCheckpoints.{Parts, IsPage, Splits}
use Rattle.uc_checkpoint.specs.declared.checkpoint.Page.{Page}
use Rattle.uc_checkpoint.proofs.Parted.{AreFirstRows, AreDetermined, every_rises, scan_shows_left}
use Rattle.uc_checkpoint.proofs.Paged.{page_split}
use Rattle.uc_checkpoint.proofs.checkpoint.Checkpoint.page.Goals as goal

pub returns-clause-page : goal.returns-clause-page
returns-clause-page g c =
    let m = g.O.Operator.meaning in
    let i = c.self.inside in
    let s : Seen = i.view in
    let all = all_rows m s in
    let most = c.clamp-most.result in
    let key = c.in-Some.next in
    let first : AreFirstRows m (writes_of s) (last s) = λ low limit. c.scan_rows_are_first.ensures (writes_of s) low None (last s) limit in
    let once : AreDetermined m (writes_of s) (last s) = λ low limit rows others a b. c.scan_rows_are_determined.ensures (writes_of s) low None (last s) limit rows others a b in
    let parts = subst (λ (o : Option (List ℕ)). Parts o i.rows all) c.in-Some.is c.self.invariant.parts in
    let left = scan_shows_left m (writes_of s) (last s) key i.rows (most + 1) first once parts in
    let first_from = λ (low : List ℕ). take (most + 1) (rows_of m (writes_of s) (last s) (named_keys (writes_of s) low None)) in
    let rows = c.in_ok-rows.rows in
    let scanned : rows ≡ first_from c.as_slice.result.now = c.in_ok-rows.ensures in
    let from_key : rows ≡ first_from key = subst (λ (low : List ℕ). rows ≡ first_from low) c.as_slice.ensures scanned in
    let shown : rows ≡ take (most + 1) (drop i.rows all) = ◌∙◌ {b = first_from key} from_key left in
    let page_is = λ (page : Page) (splits : Splits most rows (take page.count page.rows) page.next).
    subst (λ (p : Progress). IsPage (all_rows m p.seen) p.rows (piece_size c.args.most) (take page.count page.rows) page.next) c.self.view_is
    (subst (λ (n : ℕ). IsPage all i.rows n (take page.count page.rows) page.next) c.clamp-most.ensures
    (page_split all i.rows most rows (take page.count page.rows) page.next (every_rises m (writes_of s) (last s) first) c.self.invariant.within (omega (arith, c.clamp-most.ensures)) (omega (arith, c.clamp-most.ensures)) shown splits)) in
    IfOk-weaker c.split.result (λ page. Splits most rows (take page.count page.rows) page.next) _ page_is c.split.ensures.splits
