-- Facts about the writes that follow from the source of a lookup.
use Rattle.std.proofs.Common.{◌≡◌, ◌≢◌, ℕ, ◌≤◌, Bool, true, false, cond, ◌&&◌, leb, List, [], ◌∷◌, filter, map, refl, sym, ap, ◌∙◌}
use Rattle.std.specs.Prelude.{◌||◌, ◌↔◌, IsTrue, IsPermutation, if◌then◌else◌}
use Rattle.std.specs.List.{AllByRecursion, list_any, flat_map}
use Rattle.std.proofs.lemmas.Bool.{false≢true, le-leb}
use Rattle.std.proofs.lemmas.List.Folds.{list_any-append}
use Rattle.std.proofs.lemmas.List.Sorted.{list_any-IsPermutation}
use Rattle.uc_bytes.specs.declared.op.Op.TheVariants.{Put, Delete, Merge}
use Rattle.uc_model.specs.Meaning.{is_seen, touches_key}
use Rattle.uc_run_entry.specs.Run.{Contents}
use Rattle.uc_run_entry.specs.declared.entry.Entry.{Entry}
use Rattle.uc_run_entry.specs.declared.entry.What.{What}
use Rattle.uc_run_entry.specs.declared.entry.What.TheVariants as what
use Rattle.uc_run_entry.specs.PlainList as plain
use Rattle.uc_run_entry.specs.PlainList.{op_of, point_write, fragment_writes, plain_list}
use Rattle.uc_compact.specs.Inputs.{writes_of}
use Rattle.uc_version_state.specs.Versions.{writes_in}
use Rattle.uc_live.specs.Sources.{is_decided_by, is_seen_among, source_of}
use Rattle.uc_live.specs.Views.{Seen, last}
use Rattle.uc_live.specs.declared.lookup_source.LookupSource.{LookupSource}
use Rattle.uc_live.specs.declared.lookup_source.LookupSource.TheVariants.{Memtable, Filters, Runs}

-- the source of an answer, by whether the writes in memtables decide and whether the runs have one
abbrev pub source_by : Bool → Bool → LookupSource
source_by decided seen = if decided then Memtable else if seen then Runs else Filters

pub memtable_decides : (decided seen : Bool) → source_by decided seen ≡ Memtable → decided ≡ true
memtable_decides true seen from = refl
memtable_decides false true from = absurd cc
memtable_decides false false from = absurd cc

pub filters_see_none : (decided seen : Bool) → source_by decided seen ≡ Filters → seen ≡ false
filters_see_none true seen from = absurd cc
filters_see_none false true from = absurd cc
filters_see_none false false from = refl

pub runs_see_one : (decided seen : Bool) → source_by decided seen ≡ Runs → seen ≡ true
runs_see_one true seen from = absurd cc
runs_see_one false true from = refl
runs_see_one false false from = absurd cc

-- the result of the lookup shows it
module _ (s : Seen) (key sought : List ℕ) (at : ℕ) (same : sought ≡ key) (now : at ≡ last s) where
  decided_now : (decided : Bool) → decided ≡ is_decided_by s.gathered sought at → decided ≡ is_decided_by s.gathered key (last s)
  decided_now decided is =
      is ∙ ap (λ (k : List ℕ). is_decided_by s.gathered k at) same ∙ ap (λ (n : ℕ). is_decided_by s.gathered key n) now

  pub memtable_told : (decided : Bool) → decided ≡ is_decided_by s.gathered sought at → decided ≡ true → Memtable ≡ source_of s key
  memtable_told decided is holds =
      sym (ap (λ b. source_by b (is_seen_among (writes_in s.version) key (last s))) (sym (decided_now decided is) ∙ holds))

  pub rest_told : (decided seen : Bool) → decided ≡ is_decided_by s.gathered sought at → seen ≡ is_seen_among (writes_in s.version) sought at → decided ≡ false → (if seen then Runs else Filters) ≡ source_of s key
  rest_told decided seen is sees fails =
      let older = writes_in s.version in
      sym (ap (λ b. source_by b seen) fails)
      ∙ ap (λ b. source_by b seen) (decided_now decided is)
      ∙ ap (source_by (is_decided_by s.gathered key (last s)))
      (sees ∙ ap (λ (k : List ℕ). is_seen_among older k at) same ∙ ap (λ (n : ℕ). is_seen_among older key n) now)

front_fails : (a b : Bool) → (a || b) ≡ false → a ≡ false
front_fails true b e = e
front_fails false b e = refl

back_fails : (a b : Bool) → (a || b) ≡ false → b ≡ false
back_fails true b e = absurd (false≢true (sym e))
back_fails false b e = e

both_fail : (a b : Bool) → a ≡ true → b ≡ true → (a && b) ≡ false → ⊥
both_fail true true is holds e = false≢true (sym e)
both_fail true false is holds e = false≢true holds
both_fail false b is holds e = false≢true is

module _ {X : Type 0} (test : X → Bool) where
  some_step : (x : X) (xs : List X) (b : Bool) → (list_any test xs ≡ true → filter test xs ≡ [] → ⊥) → (b || list_any test xs) ≡ true → cond b (x ∷ filter test xs) (filter test xs) ≡ [] → ⊥
  some_step x xs true others some none = absurd cc
  some_step x xs false others some none = others some none

  -- what passes a test is left where something does
  pub some_pass : (xs : List X) → list_any test xs ≡ true → filter test xs ≡ [] → ⊥
  some_pass [] some none = false≢true some
  some_pass (x ∷ xs) some none = some_step x xs (test x) (some_pass xs) some none

module _ (key : List ℕ) (at : ℕ)
    (put : (named value : List ℕ) → IsTrue (touches_key key (Put named value)) ↔ (named ≡ key))
    (delete : (named : List ℕ) → IsTrue (touches_key key (Delete named)) ↔ (named ≡ key))
    (merge : (named operand : List ℕ) → IsTrue (touches_key key (Merge named operand)) ↔ (named ≡ key))
    (same : (run : Contents) → IsPermutation (plain.writes_of run) (plain_list run)) where
  -- no point that a read may see has the key
  abbrev pub has_no_point : Contents → Type 0
  has_no_point run = AllByRecursion (λ p. p.seq ≤ at → p.key ≢ key) run.points

  point_touches : (named : List ℕ) (does : What) → named ≡ key → touches_key key (op_of named does) ≡ true
  point_touches named (what.Put value) is = (put named value).1 is
  point_touches named what.Delete is = (delete named).1 is
  point_touches named (what.Merge operand) is = (merge named operand).1 is

  unseen_points : (ps : List Entry) → list_any (is_seen key at) (map point_write ps) ≡ false → AllByRecursion (λ p. p.seq ≤ at → p.key ≢ key) ps
  unseen_points [] none = tt
  unseen_points (p ∷ ps) none =
      let seen = is_seen key at (point_write p) in
      let rest = list_any (is_seen key at) (map point_write ps) in (
        λ le is. both_fail (leb p.seq at) (touches_key key (op_of p.key p.what)) (le-leb p.seq at le) (point_touches p.key p.what is) (front_fails seen rest none),
        unseen_points ps (back_fails seen rest none),
      )

  unseen_run : (run : Contents) → list_any (is_seen key at) (plain_list run) ≡ false → has_no_point run
  unseen_run run none =
      let seen = is_seen key at in
      let points = map point_write run.points in
      let ranges = flat_map fragment_writes run.fragments in
      let any = list_any-append seen points ranges in
      let moved = list_any-IsPermutation seen (plain.writes_of run) (plain_list run) (same run) in
      unseen_points run.points (front_fails (list_any seen points) (list_any seen ranges) (sym any ∙ moved ∙ none))

  -- where a read sees no write of runs, none of their points has the key
  pub unseen_runs : (runs : List Contents) → list_any (is_seen key at) (writes_of runs) ≡ false → AllByRecursion has_no_point runs
  unseen_runs [] none = tt
  unseen_runs (newest ∷ older) none =
      let seen = is_seen key at in
      let both = sym (list_any-append seen (writes_of older) (plain_list newest)) ∙ none in
      let front = list_any seen (writes_of older) in
      let back = list_any seen (plain_list newest) in
      (unseen_run newest (back_fails front back both), unseen_runs older (front_fails front back both))
