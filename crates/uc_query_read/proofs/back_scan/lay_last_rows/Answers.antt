use Rattle.std.proofs.Common.{◌≡◌, ℕ, ◌++◌, ◌∷◌, [], List, Some, Option, Bor, false, length, take, sym, ap, ◌∙◌, subst, option_map, arith}
use Rattle.std.specs.Prelude.{IfSome, reverse}
use Rattle.std.proofs.lemmas.List.{take_at}
use Rattle.uc_compact.specs.Inputs.{writes_of, points_of}
use Rattle.uc_run_entry.specs.Run.{Contents}
use Rattle.uc_version_state.specs.Versions.{contents_of}
use Rattle.uc_model.specs.Meaning.{value_of}
use Rattle.uc_rows.specs.Laying.{AreLaid}
use Rattle.uc_query_read.specs.Ahead.{Comes, keys_ahead}
use Rattle.uc_query_read.specs.Answers.{rows_of}
use Rattle.uc_query_read.specs.Walks.{Walk}
use Rattle.uc_query_read.proofs.FirstRows.{all_rows}
use Rattle.uc_query_read.proofs.LaidRows.{Row, AreRest, one_more, still_few}
use Rattle.uc_query_read.proofs.back_scan.lay_last_rows.Goals as goal
use Rattle.uc_query_read.proofs.back_scan.lay_last_rows.Goals.{else-loop-laid-test, then-loop-laid-test+in_default+in_ok-key+in_default-2}

pub loop-laid-init : goal.loop-laid-init
loop-laid-init g c =
    let ws = writes_of (contents_of c.args.runs.now) in
    record {
      rows = [];
      laid = c.new-laid.ensures c.args.room.now;
      few = omega arith;
      runs = ap (λ (w : Walk). w.runs) c.in_ok-walk.ensures;
      whole = ap (λ (w : Walk). take c.args.limit (rows_of g.O.Operator.meaning ws c.args.at w.keys)) c.in_ok-walk.ensures;
    }

pub loop-laid-preserved-in-Some : goal.loop-laid-preserved-in-Some
loop-laid-preserved-in-Some g c =
    let m = g.O.Operator.meaning in
    let at = c.args.at in
    let limit = c.args.limit in
    let ws = writes_of (contents_of c.args.runs.now) in
    let all = rows_of m ws at (reverse (keys_ahead (points_of (contents_of c.args.runs.now)) c.args.low.now false c.args.high.now)) in
    let inv = c.loop-laid.invariant in
    let key = c.in-Some.key.now in
    let value = c.in-Some.value.now in
    let has : value_of m ws key at ≡ Some value = subst (λ (runs : List Contents). value_of m (writes_of runs) key at ≡ Some value) inv.runs c.in-Some.ensures.value in
    record {
      rows = inv.rows ++ (key, value) ∷ [];
      laid = c.in_ok-add.ensures inv.rows c.args.room.now inv.laid;
      few = still_few m ws at limit all inv.rows key value c.loop-laid.laid.rows inv.laid.count c.loop-laid-test.true;
      runs = c.in-Some.ensures.runs ∙ inv.runs;
      whole = one_more m ws at limit all inv.rows key value c.loop-laid.walk.keys c.next_alone.new.self.keys c.in-Some.ensures.comes has inv.whole;
    }

pub loop-laid-preserved-in-Continue-branch-5 : goal.loop-laid-preserved-in-Continue-branch-5
loop-laid-preserved-in-Continue-branch-5 g c =
    let m = g.O.Operator.meaning in
    let at = c.args.at in
    let limit = c.args.limit in
    let ws = writes_of (contents_of c.args.runs.now) in
    let all = rows_of m ws at (reverse (keys_ahead (points_of (contents_of c.args.runs.now)) c.args.low.now false c.args.high.now)) in
    let inv = c.loop-laid.invariant in
    let key = c.in-Some-2.key.now in
    let value = c.in-Some-found.value in
    let stays = c.in_default.ensures.stays in
    let runs : c.next_alone.new.self.runs ≡ contents_of c.args.runs.now = ap (λ (w : Walk). w.runs) stays ∙ inv.runs in
    let whole : AreRest m ws at limit all inv.rows c.next_alone.new.self.keys = subst (λ (w : Walk). AreRest m ws at limit all inv.rows w.keys) (sym stays) inv.whole in
    let comes : Comes c.next_alone.new.self.keys (Some key) c.next.new.self.keys =
    subst (λ (row : Option (Bor (List ℕ) × Option (List ℕ))). Comes c.next_alone.new.self.keys (option_map (λ r. r.0.now) row) c.next.new.self.keys) c.in-Some-2.is c.in_ok-key.ensures.comes in
    let found : c.in-Some-2.found ≡ value_of m (writes_of c.next_alone.new.self.runs) key at =
    subst (λ (row : Option (Bor (List ℕ) × Option (List ℕ))). IfSome row (λ r. r.1 ≡ value_of m (writes_of c.next_alone.new.self.runs) r.0.now at)) c.in-Some-2.is c.in_ok-key.ensures.value in
    let is : value_of m (writes_of c.next_alone.new.self.runs) key at ≡ Some value = sym found ∙ c.in-Some-found.is in
    let has : value_of m ws key at ≡ Some value = subst (λ (r : List Contents). value_of m (writes_of r) key at ≡ Some value) runs is in
    record {
      rows = inv.rows ++ (key, value) ∷ [];
      laid = c.in_ok-add_row-in-Some-found.ensures inv.rows c.args.room.now inv.laid;
      few = still_few m ws at limit all inv.rows key value c.loop-laid.laid.rows inv.laid.count c.loop-laid-test.true;
      runs = c.in_ok-key.ensures.runs ∙ runs;
      whole = one_more m ws at limit all inv.rows key value c.next_alone.new.self.keys c.next.new.self.keys comes has whole;
    }

pub returns : goal.returns
returns g c =
    let m = g.O.Operator.meaning in
    let at = c.args.at in
    let limit = c.args.limit in
    let ws = writes_of (contents_of c.args.runs.now) in
    let all = rows_of m ws at (reverse (keys_ahead (points_of (contents_of c.args.runs.now)) c.args.low.now false c.args.high.now)) in
    let inv = c.loop-laid.invariant in
    let rows : inv.rows ≡ take limit all = elim c.loop-laid-test.branch [
      | else-loop-laid-test w ↦
          let long : length inv.rows ≡ limit = omega (arith, inv.few, inv.laid.count, w.loop-laid-test.false) in
          sym (take_at inv.rows (rows_of m ws at c.loop-laid.walk.keys) limit long) ∙ inv.whole
      | then-loop-laid-test+in_default+in_ok-key+in_default-2 w ↦
          let whole : AreRest m ws at limit all inv.rows w.next_alone.new.self.keys = subst (λ (k : Walk). AreRest m ws at limit all inv.rows k.keys) (sym w.in_default.ensures.stays) inv.whole in
          all_rows m ws at limit inv.rows all w.next_alone.new.self.keys w.next.new.self.keys _ inv.few w.in_ok-key.ensures.comes
          (ap (option_map (λ r. r.0.now)) w.in_default-2.is) whole
    ] in
    subst (λ (r : List Row). AreLaid r c.args.room.now c.loop-laid.room c.loop-laid.laid) rows inv.laid
