use Rattle.std.proofs.Common.{◌≡◌, ℕ, true, false, List, Some, sym, ap, ◌∙◌, subst}
use Rattle.uc_oper.specs.declared.effect.Effect.TheVariants.{Set}
use Rattle.uc_model.specs.Meaning.{effect_on}
use Rattle.uc_run_entry.specs.declared.entry.Entry.{Entry}
use Rattle.uc_run_entry.specs.PlainList.{plain_list}
use Rattle.uc_run_entry.specs.Seek.{seek_place}
use Rattle.uc_run.specs.BackCursors.{last_key}
use Rattle.uc_run.specs.Cursors.{Standing, has_ranges}
use Rattle.uc_run.specs.HeldBackCursors.{standing}
use Rattle.uc_run.specs.Lone.{lone_put_before}
use Rattle.uc_run.proofs.LonePuts.{lone_begins, lone_before_sets}
use Rattle.uc_run.proofs.back_cursor.BackCursor.prev_put.Goals as goal

pub returns-clause-puts : goal.returns-clause-puts
returns-clause-puts g c =
    let m = g.O.Operator.meaning in
    let at = c.args.at in
    let value = c.in-Some.value.now in
    let s = standing c.self.inside in
    let lone : lone_put_before s.run.points s.place at ≡ Some value = ap (λ (es : List Entry). lone_put_before es s.place at) (sym c.entries.ensures) ∙ sym c.in-Some.ensures.value in
    subst (λ (t : Standing). (key : List ℕ) → last_key t ≡ Some key → t.place ≡ seek_place t.run.points key true → has_ranges t ≡ false → effect_on m (plain_list t.run) key at ≡ Set (Some value)) c.self.view_is
    (λ key last from none. lone_before_sets s.run s.place at key value c.recall.ensures last lone m c.plain_list_does_what_is_found.ensures from none)

pub returns-clause-passes : goal.returns-clause-passes
returns-clause-passes g c =
    let at = c.args.at in
    let value = c.in-Some.value.now in
    let s = standing c.self.inside in
    let lone : lone_put_before s.run.points s.place at ≡ Some value = ap (λ (es : List Entry). lone_put_before es s.place at) (sym c.entries.ensures) ∙ sym c.in-Some.ensures.value in
    let place = c.saturating_sub-self-inside.result in
    subst (λ (t : Standing). (key : List ℕ) → last_key t ≡ Some key → ◌≡◌ {A = Standing} (record { run = s.run; place = place }) (record { run = t.run; place = seek_place t.run.points key false })) c.self.view_is
    (λ key last.
    ap {B = Standing} (λ (n : ℕ). record { run = s.run; place = n }) (c.saturating_sub-self-inside.ensures ∙ lone_begins s.run s.place at key value c.recall.ensures last lone))
