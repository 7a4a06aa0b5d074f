use Rattle.std.proofs.Common.{rules, ◌≡◌, ℕ, true, false, List, Bor, sym, ap, ◌∙◌, subst, option_map, filter, []}
use Rattle.std.specs.List.{AllByRecursion}
use Rattle.uc_run_entry.specs.Fragment.{Fragment}
use Rattle.uc_run_entry.specs.Order.{IsFalling}
use Rattle.uc_run_entry.specs.Run.{covers}
use Rattle.uc_run_entry.proofs.Points.{all-filtered}
use Rattle.uc_run.proofs.Hiding.{seen, none_hides, one_hides}
use Rattle.uc_run.proofs.near.hiding_fragment.Goals as goal

pub returns-in_err-fragment : goal.returns-in_err-fragment
returns-in_err-fragment c =
    let none : filter (λ f. covers f c.args.key.now) c.args.fragments.now ≡ [] = search rules in
    ap (option_map (λ (f : Bor Fragment). f.now)) c.from_residual.ensures ∙ sym (none_hides c.args.at c.args.key.now c.args.fragments.now none)

pub is_any_by-requires : goal.is_any_by-requires
is_any_by-requires c =
    let all = all-filtered (λ f. IsFalling f.seqs) (λ g. covers g c.args.key.now) c.args.fragments.now c.requires.falling in
    let one = subst (AllByRecursion (λ (f : Fragment). IsFalling f.seqs)) c.in_ok-fragment.ensures.some all in
    subst (λ (seqs : List ℕ). IsFalling seqs) (sym c.seqs.ensures) one.0

pub returns-then-is_any_by : goal.returns-then-is_any_by
returns-then-is_any_by c =
    let fragment = c.in_ok-fragment.fragment.now in
    let passes : seen c.args.at fragment.seqs ≡ true = ap (seen c.args.at) (sym c.seqs.ensures) ∙ sym c.is_any_by.ensures ∙ c.if-is_any_by.true in
    sym (one_hides c.args.at c.args.key.now c.args.fragments.now fragment true c.in_ok-fragment.ensures.some passes)

pub returns-else-is_any_by : goal.returns-else-is_any_by
returns-else-is_any_by c =
    let fragment = c.in_ok-fragment.fragment.now in
    let fails : seen c.args.at fragment.seqs ≡ false = ap (seen c.args.at) (sym c.seqs.ensures) ∙ sym c.is_any_by.ensures ∙ c.if-is_any_by.false in
    sym (one_hides c.args.at c.args.key.now c.args.fragments.now fragment false c.in_ok-fragment.ensures.some fails)
