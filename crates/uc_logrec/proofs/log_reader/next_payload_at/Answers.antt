use Rattle.std.proofs.Common.{◌≡◌, ℕ, ◌+◌, ◌-◌, ◌≤◌, [], refl, ap, length, drop, Err, arith, rules}
use Rattle.uc_logrec.specs.Steps.{Complete, Open, Refused, fragments_of, open_in}
use Rattle.uc_logrec.specs.Format.{header_place}
use Rattle.uc_logrec.specs.Position.{ahead_at}
use Rattle.uc_logrec.proofs.Ahead.{payload_comes}
use Rattle.uc_logrec.proofs.Locality.{CompletesAlone-start, follows, opens_alone, comes_alone}
use Rattle.uc_logrec.proofs.Reading.{Completes-here, here, stops, goes_there, found_there, behind_there, still_within, still_behind, last_there}
use Rattle.uc_logrec.proofs.log_reader.next_payload_at.Goals as goal

pub loop-found-init : goal.loop-found-init
loop-found-init c =
    let none : 0 ≡ c.args.place - c.args.place = omega arith in
    record {
      completes = Completes-here c.args.place c.args.left.now;
      within = refl;
      later = omega arith;
      alone = CompletesAlone-start c.args.place c.args.left.now;
      behind = ap (λ (n : ℕ). drop n c.args.left.now) none;
    }

pub returns-in-Err-clause-leads : goal.returns-in-Err-clause-leads
returns-in-Err-clause-leads c =
    let l = c.loop-found in
    let skipped = c.skip_trailer-offset in
    let e = found_there l.place l.left.now skipped.result.0 skipped.result.1.now (Err c.in-Err.stop) skipped.ensures.place skipped.ensures.rest c.in-Err.ensures.none in
    rw (c.ending_at-ending.ensures l.joined.items, skipped.ensures.place) (stops (ahead_at c.args.place c.args.left.now) [] (open_in l.unfinished l.joined.items) l.place l.left.now c.in-Err.stop l.invariant.completes e)

pub returns-in-Refused-clause-leads : goal.returns-in-Refused-clause-leads
returns-in-Refused-clause-leads c =
    let l = c.loop-found in
    let skipped = c.skip_trailer-offset in
    let found = c.in-Ok.found in
    let len = length found.0.fragment.now in
    let rest = skipped.result.1.now in
    rw skipped.ensures.place (goes_there (ahead_at c.args.place c.args.left.now) [] (open_in l.unfinished l.joined.items) l.place l.left.now skipped.result.0 rest found.0.fragment.now found.0.kind len (Refused c.in-Refused.fault) l.invariant.completes skipped.ensures.place skipped.ensures.rest c.in-Ok.ensures.found c.in-Ok.ensures.within c.in-Ok.ensures.fragment (rw c.in-Refused.is at c.in_ok-step_at.ensures))

pub returns-in-Whole-clause-leads : goal.returns-in-Whole-clause-leads
returns-in-Whole-clause-leads c =
    let l = c.loop-found in
    let skipped = c.skip_trailer-offset in
    let found = c.in-Ok.found in
    let len = length found.0.fragment.now in
    let rest = skipped.result.1.now in
    let fits : 7 + len ≤ length (here l.place l.left.now) = rw (← skipped.ensures.rest) c.in-Ok.ensures.within in
    let after = behind_there l.place l.left.now rest found.1.now len skipped.ensures.rest c.in-Ok.ensures.behind in
    let later : l.place ≤ header_place l.place = search rules in
    rw (after, skipped.ensures.place) (
      payload_comes (ahead_at c.args.place c.args.left.now) found.0.fragment.now _ _ (goes_there (ahead_at c.args.place c.args.left.now) [] (open_in l.unfinished l.joined.items) l.place l.left.now skipped.result.0 rest found.0.fragment.now found.0.kind len (Complete found.0.fragment.now) l.invariant.completes skipped.ensures.place skipped.ensures.rest c.in-Ok.ensures.found c.in-Ok.ensures.within c.in-Ok.ensures.fragment (rw c.in-Whole.is at c.in_ok-step_at.ensures)),
      omega (arith, later, l.invariant.later),
      still_within l.place l.left.now len (c.args.place + length c.args.left.now) fits l.invariant.within,
      comes_alone c.args.place c.args.left.now (open_in l.unfinished l.joined.items) l.place l.left.now found.0.kind len found.0.fragment.now (follows c.args.place c.args.left.now (open_in l.unfinished l.joined.items) l.place l.left.now skipped.result.0 rest found.0.fragment.now found.0.kind len (Complete found.0.fragment.now) l.invariant.later l.invariant.behind l.invariant.alone skipped.ensures.place skipped.ensures.rest c.in-Ok.ensures.found c.in-Ok.ensures.within c.in-Ok.ensures.fragment (rw c.in-Whole.is at c.in_ok-step_at.ensures)),
    )

pub returns-in-Joined-clause-leads : goal.returns-in-Joined-clause-leads
returns-in-Joined-clause-leads c =
    let l = c.loop-found in
    let skipped = c.skip_trailer-offset in
    let found = c.in-Ok.found in
    let len = length found.0.fragment.now in
    let rest = skipped.result.1.now in
    let fits : 7 + len ≤ length (here l.place l.left.now) = rw (← skipped.ensures.rest) c.in-Ok.ensures.within in
    let after = behind_there l.place l.left.now rest found.1.now len skipped.ensures.rest c.in-Ok.ensures.behind in
    let later : l.place ≤ header_place l.place = search rules in
    rw (after, skipped.ensures.place) (
      payload_comes (ahead_at c.args.place c.args.left.now) c.step_at.new.joined.items _ _ (goes_there (ahead_at c.args.place c.args.left.now) [] (open_in l.unfinished l.joined.items) l.place l.left.now skipped.result.0 rest found.0.fragment.now found.0.kind len (Complete c.step_at.new.joined.items) l.invariant.completes skipped.ensures.place skipped.ensures.rest c.in-Ok.ensures.found c.in-Ok.ensures.within c.in-Ok.ensures.fragment (rw c.in-Joined.is at c.in_ok-step_at.ensures)),
      omega (arith, later, l.invariant.later),
      still_within l.place l.left.now len (c.args.place + length c.args.left.now) fits l.invariant.within,
      comes_alone c.args.place c.args.left.now (open_in l.unfinished l.joined.items) l.place l.left.now found.0.kind len c.step_at.new.joined.items (follows c.args.place c.args.left.now (open_in l.unfinished l.joined.items) l.place l.left.now skipped.result.0 rest found.0.fragment.now found.0.kind len (Complete c.step_at.new.joined.items) l.invariant.later l.invariant.behind l.invariant.alone skipped.ensures.place skipped.ensures.rest c.in-Ok.ensures.found c.in-Ok.ensures.within c.in-Ok.ensures.fragment (rw c.in-Joined.is at c.in_ok-step_at.ensures)),
    )

pub loop-found-preserved : goal.loop-found-preserved
loop-found-preserved c =
    let l = c.loop-found in
    let skipped = c.skip_trailer-offset in
    let found = c.in-Ok.found in
    let len = length found.0.fragment.now in
    let rest = skipped.result.1.now in
    let fits : 7 + len ≤ length (here l.place l.left.now) = rw (← skipped.ensures.rest) c.in-Ok.ensures.within in
    let after = behind_there l.place l.left.now rest found.1.now len skipped.ensures.rest c.in-Ok.ensures.behind in
    let later : l.place ≤ header_place l.place = search rules in
    rw (after, skipped.ensures.place) (record {
      completes = goes_there (ahead_at c.args.place c.args.left.now) [] (open_in l.unfinished l.joined.items) l.place l.left.now skipped.result.0 rest found.0.fragment.now found.0.kind len (Open (fragments_of c.in-Open.open c.step_at.new.joined.items)) l.invariant.completes skipped.ensures.place skipped.ensures.rest c.in-Ok.ensures.found c.in-Ok.ensures.within c.in-Ok.ensures.fragment (rw c.in-Open.is at c.in_ok-step_at.ensures);
      within = still_within l.place l.left.now len (c.args.place + length c.args.left.now) fits l.invariant.within;
      later = omega (arith, later, l.invariant.later);
      alone = opens_alone c.args.place c.args.left.now (open_in l.unfinished l.joined.items) l.place l.left.now found.0.kind len (fragments_of c.in-Open.open c.step_at.new.joined.items) (follows c.args.place c.args.left.now (open_in l.unfinished l.joined.items) l.place l.left.now skipped.result.0 rest found.0.fragment.now found.0.kind len (Open (fragments_of c.in-Open.open c.step_at.new.joined.items)) l.invariant.later l.invariant.behind l.invariant.alone skipped.ensures.place skipped.ensures.rest c.in-Ok.ensures.found c.in-Ok.ensures.within c.in-Ok.ensures.fragment (rw c.in-Open.is at c.in_ok-step_at.ensures));
      behind = still_behind c.args.place l.place c.args.left.now l.left.now len l.invariant.later l.invariant.behind;
    })

pub returns-in-Refused-clause-behind : goal.returns-in-Refused-clause-behind
returns-in-Refused-clause-behind c =
    let l = c.loop-found in
    let skipped = c.skip_trailer-offset in
    let found = c.in-Ok.found in
    let len = length found.0.fragment.now in
    let after = behind_there l.place l.left.now skipped.result.1.now found.1.now len skipped.ensures.rest c.in-Ok.ensures.behind in
    rw (after, skipped.ensures.place) (still_behind c.args.place l.place c.args.left.now l.left.now len l.invariant.later l.invariant.behind)

pub returns-in-Whole-clause-behind : goal.returns-in-Whole-clause-behind
returns-in-Whole-clause-behind c =
    let l = c.loop-found in
    let skipped = c.skip_trailer-offset in
    let found = c.in-Ok.found in
    let len = length found.0.fragment.now in
    let after = behind_there l.place l.left.now skipped.result.1.now found.1.now len skipped.ensures.rest c.in-Ok.ensures.behind in
    rw (after, skipped.ensures.place) (still_behind c.args.place l.place c.args.left.now l.left.now len l.invariant.later l.invariant.behind)

pub returns-in-Joined-clause-behind : goal.returns-in-Joined-clause-behind
returns-in-Joined-clause-behind c =
    let l = c.loop-found in
    let skipped = c.skip_trailer-offset in
    let found = c.in-Ok.found in
    let len = length found.0.fragment.now in
    let after = behind_there l.place l.left.now skipped.result.1.now found.1.now len skipped.ensures.rest c.in-Ok.ensures.behind in
    rw (after, skipped.ensures.place) (still_behind c.args.place l.place c.args.left.now l.left.now len l.invariant.later l.invariant.behind)

pub returns-in-Whole-clause-last : goal.returns-in-Whole-clause-last
returns-in-Whole-clause-last c =
    let l = c.loop-found in
    let skipped = c.skip_trailer-offset in
    let found = c.in-Ok.found in
    last_there c.args.place l.place skipped.result.0 _ c.args.left.now l.left.now skipped.result.1.now found.0.fragment.now l.invariant.later l.invariant.behind skipped.ensures.place skipped.ensures.rest c.in-Ok.ensures.fragment c.in-Ok.ensures.within refl
