use Rattle.std.proofs.Common.{◌≡◌, IsTrue, List, [], ◌∷◌, ℕ, refl, sym, subst}
use Rattle.std.specs.Prelude.{◌↔◌, Contains}
use Rattle.uc_run_entry.specs.Order.{IsFalling}
use Rattle.uc_run_entry.proofs.Covering.{covering}
use Rattle.uc_run_entry.proofs.Apart.{apart_by, apart_alone, covering_falls}
use Rattle.uc_run_file.proofs.judging.is_apart.Goals as goal

pub has_seq-requires : goal.has_seq-requires
has_seq-requires c =
    let one : covering c.args.point.now.key c.args.fragments.now ≡ c.in-Some.fragment.now ∷ [] =
    subst (λ (k : List ℕ). covering k c.args.fragments.now ≡ c.in-Some.fragment.now ∷ []) c.key.ensures c.in-Some.ensures.some in
    subst (λ (seqs : List ℕ). IsFalling seqs) (sym c.seqs.ensures) (covering_falls c.args.point.now c.args.fragments.now c.in-Some.fragment.now one c.requires.falling)

pub returns-in-None : goal.returns-in-None
returns-in-None c = (
  (λ _. apart_alone c.args.point.now c.args.fragments.now (subst (λ (k : List ℕ). covering k c.args.fragments.now ≡ []) c.key.ensures c.in-None.ensures.none)),
  (λ _. refl),
)

pub returns-in-Some : goal.returns-in-Some
returns-in-Some c =
    apart_by c.args.point.now c.args.fragments.now c.in-Some.fragment.now c.has_seq.result
    (subst (λ (k : List ℕ). covering k c.args.fragments.now ≡ c.in-Some.fragment.now ∷ []) c.key.ensures c.in-Some.ensures.some)
    (subst (λ (n : ℕ). IsTrue c.has_seq.result ↔ Contains c.in-Some.fragment.now.seqs n) c.seq.ensures.value
    (subst (λ (seqs : List ℕ). IsTrue c.has_seq.result ↔ Contains seqs c.seq.result) c.seqs.ensures c.has_seq.ensures))
