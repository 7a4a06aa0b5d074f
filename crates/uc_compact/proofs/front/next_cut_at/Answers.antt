use Rattle.std.proofs.Common.{◌≡◌, ℕ, List, Option, Some, None, cond, sym, ap, ◌∙◌, subst}
use Rattle.std.specs.Prelude.{MatchOption}
use Rattle.std.specs.Ordering.{is_le}
use Rattle.uc_bytes.specs.Bytes.{bytes_cmp}
use Rattle.uc_run_entry.specs.Fragment.{Fragment}
use Rattle.uc_compact.specs.NextCut.{ends_of, least_above}
use Rattle.uc_compact.proofs.NextCuts.{next_there}
use Rattle.uc_compact.proofs.front.next_cut_at.Goals as goal
use denote.Ref.{Bor}

pub returns-in-None : goal.returns-in-None
returns-in-None c =
    let key = c.args.key.now in
    let fs = c.args.fragments.now in
    sym (subst (λ (r : Option (Bor Fragment)). MatchOption r (least_above key (ends_of fs) ≡ None) (λ x. least_above key (ends_of fs) ≡ Some (cond (is_le (bytes_cmp x.now.begin key)) x.now.end x.now.begin))) c.in-None.is
    (next_there key fs c.args.place c.requires.order c.requires.first c.get.result c.get.ensures.lookup.3))

pub returns-then-begins_by : goal.returns-then-begins_by
returns-then-begins_by c =
    let key = c.args.key.now in
    let fs = c.args.fragments.now in
    let f = c.in-Some.fragment.now in
    ap (λ (x : List ℕ). Some x) c.end_of.ensures
    ∙ ap (λ b. Some (cond b f.end f.begin)) (sym c.if-begins_by.true ∙ c.begins_by.ensures)
    ∙ sym (subst (λ (r : Option (Bor Fragment)). MatchOption r (least_above key (ends_of fs) ≡ None) (λ x. least_above key (ends_of fs) ≡ Some (cond (is_le (bytes_cmp x.now.begin key)) x.now.end x.now.begin))) c.in-Some.is
    (next_there key fs c.args.place c.requires.order c.requires.first c.get.result c.get.ensures.lookup.3))

pub returns-else-begins_by : goal.returns-else-begins_by
returns-else-begins_by c =
    let key = c.args.key.now in
    let fs = c.args.fragments.now in
    let f = c.in-Some.fragment.now in
    ap (λ (x : List ℕ). Some x) c.begin_of.ensures
    ∙ ap (λ b. Some (cond b f.end f.begin)) (sym c.if-begins_by.false ∙ c.begins_by.ensures)
    ∙ sym (subst (λ (r : Option (Bor Fragment)). MatchOption r (least_above key (ends_of fs) ≡ None) (λ x. least_above key (ends_of fs) ≡ Some (cond (is_le (bytes_cmp x.now.begin key)) x.now.end x.now.begin))) c.in-Some.is
    (next_there key fs c.args.place c.requires.order c.requires.first c.get.result c.get.ensures.lookup.3))
