use Rattle.std.proofs.Common.{◌≡◌, ℕ, true, false, List, Some, drop, sym, ap, ◌∙◌, subst}
use Rattle.std.proofs.lemmas.Option.{IfSome_then}
use Rattle.uc_oper.specs.declared.effect.Effect.TheVariants.{Set}
use Rattle.uc_model.specs.Meaning.{effect_on}
use Rattle.uc_run_entry.specs.declared.entry.Entry.{Entry}
use Rattle.uc_run_entry.specs.PlainList.{plain_list}
use Rattle.uc_run_entry.specs.Seek.{seek_place}
use Rattle.uc_run.specs.Cursors.{Standing, standing, has_ranges}
use Rattle.uc_run.specs.Heads.{next_key}
use Rattle.uc_run.specs.Lone.{lone_put}
use Rattle.uc_run.specs.Places.{place_of}
use Rattle.uc_run.proofs.LonePuts.{lone_sets, lone_ends, told, both_told, place_after, rest_moved}
use Rattle.uc_run.proofs.cursor.Cursor.next_put.Goals as goal

pub invariant_of-self : goal.invariant_of-self
invariant_of-self g c =
    let k = c.self.inside in
    let e = c.next_lone_put.ensures in
    rest_moved k.run.now.points k.ahead c.next_lone_put.new.points c.args.at c.self.invariant (λ value. value.now) c.next_lone_put.result e.value e.passes e.stays

pub returns-clause-puts : goal.returns-clause-puts
returns-clause-puts g c =
    let m = g.O.Operator.meaning in
    let at = c.args.at in
    let s = standing c.self.inside in
    IfSome_then c.next_lone_put.result (told (λ value. value.now) c.next_lone_put.result (lone_put c.self.inside.ahead at) c.next_lone_put.ensures.value)
    (λ value lone.
    subst (λ (t : Standing). (key : List ℕ) → next_key t ≡ Some key → t.place ≡ seek_place t.run.points key false → has_ranges t ≡ false → effect_on m (plain_list t.run) key at ≡ Set (Some value.now)) c.self.view_is
    (λ key next from none.
    lone_sets s.run s.place at key value.now c.recall.ensures next (ap (λ (es : List Entry). lone_put es at) (sym c.self.invariant) ∙ lone) m c.plain_list_does_what_is_found.ensures from none))

pub returns-clause-passes : goal.returns-clause-passes
returns-clause-passes g c =
    let at = c.args.at in
    let s = standing c.self.inside in
    let ahead = c.self.inside.ahead in
    let new = c.next_lone_put.new.points in
    both_told c.next_lone_put.result
    (λ value (lone : lone_put ahead at ≡ Some value.now) (passes : new ≡ drop 1 ahead).
    subst (λ (t : Standing). (key : List ℕ) → next_key t ≡ Some key → ◌≡◌ {A = Standing} (record { run = s.run; place = place_of s.run.points new }) (record { run = t.run; place = seek_place t.run.points key true })) c.self.view_is
    (λ key next.
    ap {B = Standing} (λ (n : ℕ). record { run = s.run; place = n })
    (place_after s.run.points ahead new at c.self.invariant value.now lone passes
    ∙ lone_ends s.run s.place at key value.now c.recall.ensures next (ap (λ (es : List Entry). lone_put es at) (sym c.self.invariant) ∙ lone))))
    (told (λ value. value.now) c.next_lone_put.result (lone_put ahead at) c.next_lone_put.ensures.value) c.next_lone_put.ensures.passes
