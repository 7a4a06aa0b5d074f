use Rattle.std.proofs.Common.{rules, ◌≡◌, ℕ, ◌<◌, Option, List, true, false, eqb, length, sym, ◌∙◌, subst}
use Rattle.std.proofs.lemmas.Iterator.{YieldsList-from_slice, IsFirst-from_position}
use Rattle.std.specs.Option.{MatchOption}
use Rattle.std.specs.List.{AllWithin, HoldsAt}
use Rattle.std.specs.Prelude.{remove}
use Rattle.uc_live.specs.Snapshots.{is_among, without_one}
use Rattle.uc_live.proofs.Keeping.{not_within, without_none, removed_first}
use Rattle.uc_live.proofs.snapshots.take_one.Goals as goal

none_found : (c : goal.In-None) → AllWithin (λ s. eqb s c.args.seq ≡ false) c.deref.result.now 0 (length c.deref.result.now)
none_found c =
    let seq = c.args.seq in
    let seqs = c.deref.result.now in
    let first = IsFirst-from_position _ _ c.position.result (λ s. eqb s seq ≡ true) (λ s. eqb s seq ≡ false) c.position.ensures.ran (YieldsList-from_slice _ c.iter.ensures.rest) (λ x q k. search rules) (λ x q k. search rules) in
    subst (λ (r : Option ℕ). MatchOption r (AllWithin (λ s. eqb s seq ≡ false) seqs 0 (length seqs)) (λ i. (i < length seqs) × HoldsAt (λ s. eqb s seq ≡ true) seqs i × AllWithin (λ s. eqb s seq ≡ false) seqs 0 i)) c.in-None.is first

none_there : (c : goal.In-None) → is_among c.args.seq c.args.seqs.now.items ≡ false
none_there c = subst (λ (seqs : List ℕ). is_among c.args.seq seqs ≡ false) c.deref.ensures.value (not_within c.args.seq c.deref.result.now (none_found c))

pub returns-in-None-clause-found : goal.returns-in-None-clause-found
returns-in-None-clause-found c = sym (none_there c)

pub returns-in-None-clause-rest : goal.returns-in-None-clause-rest
returns-in-None-clause-rest c = sym (without_none c.args.seq c.args.seqs.now.items (none_there c))

pub returns-in-Some-clause-rest : goal.returns-in-Some-clause-rest
returns-in-Some-clause-rest c =
    let seq = c.args.seq in
    let seqs = c.deref.result.now in
    let first = IsFirst-from_position _ _ c.position.result (λ s. eqb s seq ≡ true) (λ s. eqb s seq ≡ false) c.position.ensures.ran (YieldsList-from_slice _ c.iter.ensures.rest) (λ x q k. search rules) (λ x q k. search rules) in
    let here = subst (λ (r : Option ℕ). MatchOption r (AllWithin (λ s. eqb s seq ≡ false) seqs 0 (length seqs)) (λ i. (i < length seqs) × HoldsAt (λ s. eqb s seq ≡ true) seqs i × AllWithin (λ s. eqb s seq ≡ false) seqs 0 i)) c.in-Some.is first in
    c.remove.ensures.items ∙ subst (λ (ss : List ℕ). remove ss c.in-Some.place ≡ without_one seq ss) c.deref.ensures.value (removed_first seq seqs c.in-Some.place here.0 here.1 here.2)
