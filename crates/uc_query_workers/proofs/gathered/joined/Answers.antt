use Rattle.std.proofs.Common.{◌≡◌, ◌≢◌, ◌≤◌, ◌<◌, ◌*◌, Some, slice_get, length, ap, sym, subst, arith, rules}
use Rattle.std.specs.List.{All, AllZip}
use Rattle.std.proofs.lemmas.List.{take_all}
use Rattle.std.proofs.lemmas.List.Elements.{recursion_from_All}
use Rattle.uc_query_workers.specs.Drawing.{StandsIn}
use Rattle.uc_query_workers.specs.declared.drawn.Drawn.{Drawn}
use Rattle.uc_query_workers.proofs.Pieced.{none_answered, one_more}
use Rattle.uc_query_workers.proofs.Shares.{one_is_first, one_answered, one_taken}
use Rattle.uc_query_workers.proofs.gathered.joined.Goals as goal

pub loop-number-init : goal.loop-number-init
loop-number-init c = record {
  left = c.requires.drawn;
  answered = none_answered _ _ _ (grind arith) (search rules);
}

pub holder-place-requires : goal.holder-place-requires
holder-place-requires c = λ none.
    let others = subst (All (λ (d : Drawn). slice_get d.numbers.items 0 ≢ Some c.loop-number.number)) c.deref.ensures.value none in
    one_is_first (StandsIn c.args.batch.now c.args.draws.items) c.args.batch.now c.loop-number.number c.args.pieces c.loop-number.draws.items c.loop-number.invariant.left c.loop-number-test.true (recursion_from_All (λ (d : Drawn). slice_get d.numbers.items 0 ≢ Some c.loop-number.number) c.loop-number.draws.items others)

pub loop-number-preserved : goal.loop-number-preserved
loop-number-preserved c =
    let batch = c.args.batch.now in
    let number = c.loop-number.number in
    let place = c.holder-place.result in
    let draws = c.loop-number.draws.items in
    let taken = c.index_mut.result.now in
    let rest = c.take_first.new.drawn in
    let left = c.loop-number.invariant.left in
    let first : slice_get taken.numbers.items 0 ≡ Some number = search rules in
    let within : place < length draws = search rules in
    let answered = one_answered (StandsIn batch c.args.draws.items) batch number c.args.pieces _ place draws taken rest left within c.index_mut.ensures.value first (ap length c.piece_of.ensures) c.loop-number.all.items c.take_first.new.all.items c.in_ok-take_first.ensures.all in
    record {
      left = one_taken (StandsIn batch c.args.draws.items) batch number c.args.pieces _ place draws taken rest left within c.index_mut.ensures.value first (ap length c.piece_of.ensures) c.loop-number-test.true c.in_ok-take_first.ensures.numbers c.in_ok-take_first.ensures.answers;
      answered = one_more (StandsIn batch c.args.draws.items) batch.queries batch.piece number c.loop-number.all.items c.take_first.new.all.items c.loop-number.invariant.answered answered;
    }

pub returns : goal.returns
returns c = subst (λ queries. AllZip (StandsIn c.args.batch.now c.args.draws.items) queries c.loop-number.all.items)
    (take_all _ c.args.batch.now.queries (let covers = c.requires.numbers.0 in let here : c.loop-number.number ≡ c.args.pieces = omega arith in subst (λ n. length c.args.batch.now.queries ≤ n * c.args.batch.now.piece) (sym here) covers))
    c.loop-number.invariant.answered
