-- Runs among others, at a given place.
use Rattle.std.proofs.Common.{◌≡◌, ℕ, List, [], ◌∷◌, ◌++◌, length, Some, None, Option, refl, sym, ap, ◌∙◌, append_assoc, Bool, true, false, cond, map, arith}
use Rattle.std.proofs.lemmas.List.{map-append, append-nil}
use Rattle.uc_bytes.specs.declared.write.Write.{Write}
use Rattle.uc_run_entry.specs.Run.{Contents}
use Rattle.uc_run.specs.Flush.{flushed}
use Rattle.uc_version_open.specs.Lending.{StandsAt, StandsIn}
use Rattle.uc_version_open.specs.Progress.{Flushing}
use Rattle.uc_version_open.specs.Steps.{is_full, is_spent, begun, grown, with_write, held_with}

-- more runs after them
stands_before : (place : ℕ) (part whole more : List Contents) → StandsAt place part whole → StandsAt place part (whole ++ more)
stands_before place part whole more s = record {
  before = s.before;
  after = s.after ++ more;
  whole_is = ap (λ (rs : List Contents). rs ++ more) s.whole_is ∙ append_assoc s.before (part ++ s.after) more ∙ ap (λ (rs : List Contents). s.before ++ rs) (append_assoc part s.after more);
  place_is = s.place_is;
}

stands-full : (place : ℕ) (part : List Contents) (f : Flushing) (w : Write) (full : Bool) → StandsAt place part f.runs → StandsAt place part (cond full (begun f w) (grown f w)).runs
stands-full place part f w true s = stands_before place part f.runs (flushed f.newest ∷ []) s
stands-full place part f w false s = s

stands-spent : (place : ℕ) (part : List Contents) (f : Flushing) (spent : Bool) → StandsAt place part f.runs → StandsIn place part (cond spent None (Some f))
stands-spent place part f true s = tt
stands-spent place part f false s = s

-- a write more
pub stands_with : (limit place : ℕ) (part : List Contents) (held : Option Flushing) (w : Write) → StandsIn place part held → StandsIn place part (held_with limit held w)
stands_with limit place part None w s = tt
stands_with limit place part (Some f) w s = stands-spent place part (with_write limit f w) (is_spent limit f) (stands-full place part f w (is_full limit f) s)

-- two lists whose fronts are as long: the fronts are the same, and the rests
same_front : (xs ys vs bs : List Contents) → length xs ≡ length vs → xs ++ ys ≡ vs ++ bs → (xs ≡ vs) × (ys ≡ bs)
same_front [] ys [] bs long e = (refl, e)
same_front [] ys (v ∷ vs) bs long e = absurd cc
same_front (x ∷ xs) ys [] bs long e = absurd cc
same_front (x ∷ xs) ys (v ∷ vs) bs long e =
    let heads : x ≡ v = cc in
    let tails : xs ++ ys ≡ vs ++ bs = cc in
    let longs : length xs ≡ length vs = omega (arith, long) in
    let rest = same_front xs ys vs bs longs tails in
    (cc, rest.1)

-- the runs of the lent memtables, in place of them
pub settled : (place : ℕ) (runs lent full made : List Contents) → StandsAt place made ((runs ++ lent) ++ full) → length runs ≡ place → length lent ≡ length made → made ≡ lent
settled place runs lent full made s few many =
    let whole : runs ++ (lent ++ full) ≡ s.before ++ (made ++ s.after) = sym (append_assoc runs lent full) ∙ s.whole_is in
    let behind = (same_front runs (lent ++ full) s.before (made ++ s.after) (few ∙ sym s.place_is) whole).1 in
    sym (same_front lent full made s.after many behind).0

pub settled_runs : (place : ℕ) (runs lent full made runs' lent' : List Contents) → StandsAt place made ((runs ++ lent) ++ full) → length runs ≡ place → length lent ≡ length made →
    runs' ≡ runs ++ made → lent' ≡ [] → (runs' ++ lent') ++ full ≡ (runs ++ lent) ++ full
settled_runs place runs lent full made runs' lent' s few many all none =
    ap (λ (rs : List Contents). (runs' ++ rs) ++ full) none
    ∙ ap (λ (rs : List Contents). rs ++ full) (append-nil runs' ∙ all ∙ ap (λ (rs : List Contents). runs ++ rs) (settled place runs lent full made s few many))

-- the places of the lent ones
pub stands_behind : (place : ℕ) (runs lent full : List Contents) → place ≡ length runs → StandsAt place lent ((runs ++ lent) ++ full)
stands_behind place runs lent full e = record { before = runs; after = full; whole_is = append_assoc runs lent full; place_is = sym e }

in_turn : (runs : List Contents) (lent full : List (List Write)) → (runs ++ map flushed lent) ++ map flushed full ≡ runs ++ map flushed (lent ++ full)
in_turn runs lent full = append_assoc runs (map flushed lent) (map flushed full) ∙ ap (λ (rs : List Contents). runs ++ rs) (sym (map-append flushed lent full))

-- the same memtables, of which others are lent
pub same_runs : (runs : List Contents) (lent full lent' full' : List (List Write)) → lent' ++ full' ≡ lent ++ full →
    (runs ++ map flushed lent') ++ map flushed full' ≡ (runs ++ map flushed lent) ++ map flushed full
same_runs runs lent full lent' full' e =
    in_turn runs lent' full' ∙ ap (λ (ms : List (List Write)). runs ++ map flushed ms) e ∙ sym (in_turn runs lent full)
