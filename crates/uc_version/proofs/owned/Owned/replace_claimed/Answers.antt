use Rattle.std.proofs.Common.{◌≡◌, ◌≤◌, ℕ, List, length, sym, ap, ◌∙◌, subst}
use Rattle.std.specs.Prelude.{All, Contains, Option, Some}
use Rattle.std.specs.Arc.{arc_value}
use Rattle.uc_claims.specs.Claims.{times}
use Rattle.uc_claims.specs.Holding.{Holding, AreDistinct, without}
use Rattle.uc_claims.specs.declared.table.TheConstants.{MOST_SLOTS}
use Rattle.uc_run_entry.specs.Run.{Contents}
use Rattle.uc_version_state.specs.Versions.{PlacedRun, Stored, IsVersion, slots_of}
use Rattle.uc_version_state.specs.Installs.{replaced}
use Rattle.uc_version.specs.declared.held_stretch.HeldStretch.{HeldStretch}
use Rattle.uc_version.specs.Owners.{Owner, claimed_slots}
use Rattle.uc_version.specs.Claiming.{Claim, held_by}
use Rattle.uc_version.specs.Installing.{stretch_in, stretch_of, MayReplace, after_install, install_of}
use Rattle.uc_version.specs.HeldOwners.{owner, IsOwned}
use Rattle.uc_version_compact.proofs.Few.{few_part}
use Rattle.uc_version_compact.proofs.PartSlots.{part_distinct}
use Rattle.uc_version.proofs.Taking.{all_held, stands}
use Rattle.uc_version.proofs.Legal.{is_legal, is_replaced, install_is}
use Rattle.uc_version.proofs.Moving.{after, slots_after, owner_after}
use Rattle.uc_version.proofs.owned.Owned.replace_claimed.Goals as goal

pub give_slots-requires-clause-few : goal.give_slots-requires-clause-few
give_slots-requires-clause-few g c =
    let h = c.held_stretch-held.result in
    subst (λ (ps : List PlacedRun). length ps ≤ MOST_SLOTS) (sym c.held_runs.ensures) (few_part c.self.inside.version c.self.invariant.owner_is.version h.first h.count)

pub give_slots-requires-clause-distinct : goal.give_slots-requires-clause-distinct
give_slots-requires-clause-distinct g c =
    let h = c.held_stretch-held.result in
    subst (λ (ps : List PlacedRun). AreDistinct (slots_of ps)) (sym c.held_runs.ensures) (part_distinct c.self.inside.version c.self.invariant.owner_is.version h.first h.count)

pub give_slots-requires-clause-held : goal.give_slots-requires-clause-held
give_slots-requires-clause-held g c =
    let i = c.self.invariant in
    let number = c.claim.inside.number in
    let held_is = subst (λ (claim : Claim). held_by c.self.inside.claims claim.number ≡ Some c.held_stretch-held.result) (sym c.claim.view_is) c.held_stretch-held.ensures in
    subst (λ (ps : List PlacedRun). All (Contains c.self.inside.held.slots) (slots_of ps)) (sym c.held_runs.ensures)
    (all_held (owner c.self.inside) i.owner_is c.self.inside.held.slots i.slots number c.held_stretch-held.result held_is)

pub replace-requires-clause-version : goal.replace-requires-clause-version
replace-requires-clause-version g c =
    let i = c.self.invariant in
    let h = c.held_stretch-held.result in
    let v = c.self.inside.version in
    let m = g.O.Operator.meaning in
    let number = c.claim.inside.number in
    let held_is = subst (λ (claim : Claim). held_by c.self.inside.claims claim.number ≡ Some h) (sym c.claim.view_is) c.held_stretch-held.ensures in
    let there = stands (owner c.self.inside) i.owner_is c.self.inside.held.slots i.slots number h held_is in
    let asked = subst (λ (p : Owner). MayReplace p.version (stretch_of p c.args.claim) c.args.made) (sym c.self.view_is) c.requires.may in
    let may = subst (λ (s : HeldStretch). MayReplace v s c.args.made) (ap stretch_in c.held_stretch-held.ensures) asked in
    let legal = is_legal m v i.owner_is.version h there.0 there.1 c.args.made c.recall_standing.ensures.stand may in
    let is = is_replaced m v i.owner_is.version h there.0 there.1 c.args.made c.recall_standing.ensures.stand may in
    subst (λ (run : Contents). IsVersion (replaced h.first h.count run v)) (sym c.into_output.ensures)
    (subst IsVersion is (c.install_gives_a_version.ensures v (install_of m v h c.args.made) i.owner_is.version legal))

pub invariant_of-self : goal.invariant_of-self
invariant_of-self g c =
    let i = c.self.invariant in
    let h = c.held_stretch-held.result in
    let v = c.self.inside.version in
    let m = g.O.Operator.meaning in
    let o = owner c.self.inside in
    let slots = c.self.inside.held.slots in
    let number = c.claim.inside.number in
    let run = arc_value c.into_output.result in
    let held_is = subst (λ (claim : Claim). held_by c.self.inside.claims claim.number ≡ Some h) (sym c.claim.view_is) c.held_stretch-held.ensures in
    let there = stands o i.owner_is slots i.slots number h held_is in
    let asked = subst (λ (p : Owner). MayReplace p.version (stretch_of p c.args.claim) c.args.made) (sym c.self.view_is) c.requires.may in
    let may = subst (λ (s : HeldStretch). MayReplace v s c.args.made) (ap stretch_in c.held_stretch-held.ensures) asked in
    let legal = is_legal m v i.owner_is.version h there.0 there.1 c.args.made c.recall_standing.ensures.stand may in
    let is = is_replaced m v i.owner_is.version h there.0 there.1 c.args.made c.recall_standing.ensures.stand may in
    let version = subst (λ (r : Contents). IsVersion (replaced h.first h.count r v)) (sym c.into_output.ensures) (subst IsVersion is (c.install_gives_a_version.ensures v (install_of m v h c.args.made) i.owner_is.version legal)) in
    subst (λ (w : Stored). IsOwned (record c.self.inside { version = w; held = c.give_slots.new.held; claims = c.move_up.new.claims })) (sym c.replace.ensures)
    (subst (λ (x : Holding). IsOwned (record c.self.inside { version = replaced h.first h.count run v; held = x; claims = c.move_up.new.claims })) (sym c.give_slots.ensures)
    (subst (λ (cs : List (Option HeldStretch)). IsOwned (record c.self.inside { version = replaced h.first h.count run v; held = record c.self.inside.held { slots = without (slots_of c.held_runs.result.now) slots }; claims = cs })) (sym c.move_up.ensures)
    (record {
      owner_is = owner_after o i.owner_is slots i.slots number h held_is run version;
      count = i.count;
      table = i.table;
      whole = i.whole;
      slots = subst (λ (ps : List PlacedRun). (k : ℕ) → times k (without (slots_of ps) slots) ≡ times k (claimed_slots (after o i.owner_is slots i.slots number h held_is run))) (sym c.held_runs.ensures) (slots_after o i.owner_is slots i.slots number h held_is run);
    })))

pub returns-clause-id : goal.returns-clause-id
returns-clause-id g c = subst (λ (p : Owner). c.next_id-id.result ≡ p.version.next_id) c.self.view_is c.next_id-id.ensures

pub returns-clause-after : goal.returns-clause-after
returns-clause-after g c =
    let h = c.held_stretch-held.result in
    let v = c.self.inside.version in
    let o = owner c.self.inside in
    let m = g.O.Operator.meaning in
    let stretch = ap stretch_in c.held_stretch-held.ensures in
    let version = c.replace.ensures ∙ ap (λ (run : Contents). replaced h.first h.count run v) c.into_output.ensures in
    let number = ap (λ (claim : Claim). claim.number) c.claim.view_is in
    let left = install_is m o c.args.claim c.args.made h c.claim.inside.number c.replace.new.self c.move_up.new.claims stretch number version c.move_up.ensures in
    subst (λ (p : Owner). record o { version = c.replace.new.self; claims = c.move_up.new.claims } ≡ after_install m p c.args.claim c.args.made) c.self.view_is left
