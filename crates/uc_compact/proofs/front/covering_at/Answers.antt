use Rattle.std.proofs.Common.{◌≡◌, [], ◌∷◌, Option, cond, sym, ap, ◌∙◌, subst}
use Rattle.std.specs.Prelude.{MatchOption}
use Rattle.std.specs.Ordering.{is_le}
use Rattle.uc_bytes.specs.Bytes.{bytes_cmp}
use Rattle.uc_run_entry.specs.Fragment.{Fragment}
use Rattle.uc_run_entry.proofs.Covering.{covering}
use Rattle.uc_compact.proofs.FirstAbove.{found_there}
use Rattle.uc_compact.proofs.front.covering_at.Goals as goal
use denote.Ref.{Bor}

pub returns-in-None-clause-none : goal.returns-in-None-clause-none
returns-in-None-clause-none c =
    let key = c.args.key.now in
    let fs = c.args.fragments.now in
    subst (λ (r : Option (Bor Fragment)). MatchOption r (covering key fs ≡ []) (λ x. covering key fs ≡ cond (is_le (bytes_cmp x.now.begin key)) (x.now ∷ []) [])) c.in-None.is
    (found_there key fs c.requires.order c.args.place c.requires.first c.get.result c.get.ensures.lookup.3)

pub returns-then-begins_by-clause-some : goal.returns-then-begins_by-clause-some
returns-then-begins_by-clause-some c =
    let key = c.args.key.now in
    let fs = c.args.fragments.now in
    subst (λ (r : Option (Bor Fragment)). MatchOption r (covering key fs ≡ []) (λ x. covering key fs ≡ cond (is_le (bytes_cmp x.now.begin key)) (x.now ∷ []) [])) c.in-Some.is
    (found_there key fs c.requires.order c.args.place c.requires.first c.get.result c.get.ensures.lookup.3)
    ∙ ap (λ b. cond b (c.in-Some.fragment.now ∷ []) []) (sym c.begins_by.ensures ∙ c.if-begins_by.true)

pub returns-else-begins_by-clause-none : goal.returns-else-begins_by-clause-none
returns-else-begins_by-clause-none c =
    let key = c.args.key.now in
    let fs = c.args.fragments.now in
    subst (λ (r : Option (Bor Fragment)). MatchOption r (covering key fs ≡ []) (λ x. covering key fs ≡ cond (is_le (bytes_cmp x.now.begin key)) (x.now ∷ []) [])) c.in-Some.is
    (found_there key fs c.requires.order c.args.place c.requires.first c.get.result c.get.ensures.lookup.3)
    ∙ ap (λ b. cond b (c.in-Some.fragment.now ∷ []) []) (sym c.begins_by.ensures ∙ c.if-begins_by.false)
