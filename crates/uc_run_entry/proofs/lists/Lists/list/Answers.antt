use Rattle.std.proofs.Common.{rules, ◌≡◌, ℕ, ◌+◌, ◌-◌, ◌^◌, ◌<◌, length, get_or, take, drop, arith, ap, sym, ◌∙◌, subst, List, []}
use Rattle.uc_run_entry.specs.Lists.{cut}
use Rattle.uc_run_entry.proofs.Flat.{lies_at, LiesAt, length-cut}
use Rattle.uc_run_entry.proofs.lists.Lists.list.Goals as goal

pub part-requires : goal.part-requires
part-requires g c =
    let starts : List ℕ = c.self.inside.starts.items in
    let items = c.self.inside.items.items in
    let within : c.args.number < length (cut starts items) = subst (λ xss. c.args.number < length xss) (sym c.self.view_is) c.requires in
    let at : LiesAt starts items c.args.number = lies_at starts items c.self.invariant c.args.number within in
    let e : c.deref.result.now ≡ starts = c.deref.ensures.value in
    let f : c.deref-2.result.now ≡ items = c.deref-2.ensures.value in
    record {
      within = rw e at.within;
      order = rw e at.order;
      bound = rw (e, f) at.bound;
    }

pub returns-clause-list : goal.returns-clause-list
returns-clause-list g c =
    let starts : List ℕ = c.self.inside.starts.items in
    let items = c.self.inside.items.items in
    let within : c.args.number < length (cut starts items) = subst (λ xss. c.args.number < length xss) (sym c.self.view_is) c.requires in
    let at : LiesAt starts items c.args.number = lies_at starts items c.self.invariant c.args.number within in
    let e : c.deref.result.now ≡ starts = c.deref.ensures.value in
    let f : c.deref-2.result.now ≡ items = c.deref-2.ensures.value in
    c.part.ensures
    ∙ ap (λ (xs : List ℕ). take (get_or xs (c.args.number + 1) 0 - get_or xs c.args.number 0) (drop (get_or xs c.args.number 0) c.deref-2.result.now)) e
    ∙ ap (λ xs. take (get_or starts (c.args.number + 1) 0 - get_or starts c.args.number 0) (drop (get_or starts c.args.number 0) xs)) f
    ∙ sym at.part
    ∙ ap (λ xss. get_or xss c.args.number []) c.self.view_is

pub returns-clause-few : goal.returns-clause-few
returns-clause-few g c =
    let many : length c.args.self.now ≡ length (cut c.self.inside.starts.items c.self.inside.items.items) = ap (λ xss. length xss) (sym c.self.view_is) in
    let more : length (cut c.self.inside.starts.items c.self.inside.items.items) + 1 ≡ length c.self.inside.starts.items = length-cut c.self.inside.starts.items c.self.inside.items.items (length c.self.inside.items.items) c.self.invariant in
    let small : length c.self.inside.starts.items < 2 ^ 64 = first_of (omega arith, search rules) in
    omega (arith, many, more, small)
