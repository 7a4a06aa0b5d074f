use Rattle.std.proofs.Common.{◌≢◌, ℕ, eqb, true, false, refl, not, IsTrue, subst}
use Rattle.std.specs.Prelude.{◌↔◌}
use Rattle.std.specs.List.{AllByRecursion}
use Rattle.uc_run_entry.proofs.SeqsFall.{among_by, not_among}
use Rattle.uc_compact.proofs.Apart.{apart_by}
use Rattle.uc_compact.proofs.checking.is_apart.Goals as goal

pub returns-in-None : goal.returns-in-None
returns-in-None c =
    subst (λ (seq : ℕ). IsTrue true ↔ AllByRecursion (λ n. n ≢ seq) c.args.seqs.now) c.seq-seq.ensures.value
    (apart_by c.seq-seq.result c.args.seqs.now false (not_among c.seq-seq.result c.args.seqs.now c.recall_falling.ensures c.in-None.ensures))

pub returns-in-Some : goal.returns-in-Some
returns-in-Some c =
    let same = eqb c.in-Some.newest c.seq-seq.result in
    subst (λ (seq : ℕ). IsTrue (not same) ↔ AllByRecursion (λ n. n ≢ seq) c.args.seqs.now) c.seq-seq.ensures.value
    (apart_by c.seq-seq.result c.args.seqs.now same (among_by c.seq-seq.result c.in-Some.newest c.args.seqs.now same c.recall_falling.ensures c.in-Some.ensures refl))
