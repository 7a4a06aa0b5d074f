-- Reading at a place depends on no byte after the record there.
use Rattle.std.proofs.Common.{◌≡◌, ℕ, ◌+◌, ◌-◌, ◌≤◌, false, eqb, List, [], ◌∷◌, ◌++◌, length, take, drop, Option, Some, None, Ok, sym, ap, subst, ◌∙◌, append_assoc, length-append, length-take, length-drop, arith}
use Rattle.std.proofs.Math.Seq.{take-add}
use Rattle.std.proofs.lemmas.List.{take_at, drop_at, drop-append-le, drop-take, length-take-le}
use Rattle.std.proofs.lemmas.List.Folds.{list_all_at}
use Rattle.uc_logrec.specs.declared.kind.Kind.{Kind}
use Rattle.uc_logrec.specs.Steps.{Fragments, StepWithData, Complete, Open}
use Rattle.uc_logrec.specs.Format.{room, header_place, kind_of, checksum_of, record_of}
use Rattle.uc_logrec.specs.Log.{step_at, with_payload}
use Rattle.uc_logrec.specs.Position.{ahead_at}
use Rattle.uc_logrec.proofs.Reading.{Completes, Completes-here, Goes, goes, here, behind, found_there, turned_there}
use Rattle.uc_logrec.proofs.Records.{IsRecord, record_stands, code_of_not_zero}
use Rattle.uc_logrec.proofs.Standing.{record_found, code_again}
use Rattle.uc_logrec.proofs.RoundTrip.{place_later}
use Rattle.uc_logrec.proofs.Ahead.{payload_comes}

-- ---- a record

-- a record's bytes, and others after them
abbrev followed : List ℕ → ℕ → List ℕ → List ℕ
followed rest len more = take (7 + len) rest ++ more

data_length : (rest : List ℕ) (len : ℕ) → 7 + len ≤ length rest → length (take len (drop 7 rest)) ≡ len
data_length rest len le = omega (arith, le, length-take len (drop 7 rest), length-drop 7 rest)

data_alone : (rest : List ℕ) (len : ℕ) (more : List ℕ) → 7 + len ≤ length rest → drop 7 (followed rest len more) ≡ take len (drop 7 rest) ++ more
data_alone rest len more le =
    drop-append-le 7 (take (7 + len) rest) more (omega (arith, length-take-le (7 + len) rest le))
    ∙ ap (λ (bs : List ℕ). bs ++ more) (drop-take 7 len rest)

fragment_alone : (rest : List ℕ) (len : ℕ) (more : List ℕ) → 7 + len ≤ length rest → take len (drop 7 (followed rest len more)) ≡ take len (drop 7 rest)
fragment_alone rest len more le = ap (take len) (data_alone rest len more le) ∙ take_at (take len (drop 7 rest)) more len (data_length rest len le)

rest_alone : (rest : List ℕ) (len : ℕ) (more : List ℕ) → 7 + len ≤ length rest → drop len (drop 7 (followed rest len more)) ≡ more
rest_alone rest len more le = ap (drop len) (data_alone rest len more le) ∙ drop_at (take len (drop 7 rest)) more len (data_length rest len le)

code_is_used : (code : ℕ) (kind : Kind) → kind_of code ≡ Some kind → eqb code 0 ≡ false
code_is_used code kind type = ap (λ (c : ℕ). eqb c 0) (code_again code kind type) ∙ code_of_not_zero kind

-- the header's bytes and the data's decide
decided : (space : ℕ) (rest : List ℕ) (kind : Kind) (len : ℕ) (more : List ℕ) → IsRecord space rest kind len → IsRecord space (take 7 rest ++ (take len (drop 7 rest) ++ more)) kind len
decided space [] kind len more r = absurd (omega (arith, r.header))
decided space (a ∷ []) kind len more r = absurd (omega (arith, r.header))
decided space (a ∷ b ∷ []) kind len more r = absurd (omega (arith, r.header))
decided space (a ∷ b ∷ c ∷ []) kind len more r = absurd (omega (arith, r.header))
decided space (a ∷ b ∷ c ∷ d ∷ []) kind len more r = absurd (omega (arith, r.header))
decided space (a ∷ b ∷ c ∷ d ∷ e ∷ []) kind len more r = absurd (omega (arith, r.header))
decided space (a ∷ b ∷ c ∷ d ∷ e ∷ f ∷ []) kind len more r = absurd (omega (arith, r.header))
decided space (a ∷ b ∷ c ∷ d ∷ e ∷ f ∷ g ∷ tail) kind len more r =
    let rest = a ∷ b ∷ c ∷ d ∷ e ∷ f ∷ g ∷ tail in
    let data_fits : length (take len tail) ≡ len = omega (arith, r.fits_log, length-take len tail) in
    record {
      used = list_all_at (λ byte. eqb byte 0) (a ∷ b ∷ c ∷ d ∷ e ∷ f ∷ g ∷ (take len tail ++ more)) 6 0 (omega arith) (code_is_used g kind r.type);
      header = omega arith;
      size = r.size;
      fits_block = r.fits_block;
      fits_log = omega (arith, data_fits, length-append (take len tail) more);
      intact = r.intact ∙ ap (checksum_of g) (sym (take_at (take len tail) more len data_fits));
      type = r.type;
    }

found_alone : (space : ℕ) (rest : List ℕ) (kind : Kind) (len : ℕ) (more : List ℕ) → record_of space rest ≡ Ok (kind, len) → record_of space (followed rest len more) ≡ Ok (kind, len)
found_alone space rest kind len more found =
    let parts : followed rest len more ≡ take 7 rest ++ (take len (drop 7 rest) ++ more) = ap (λ (bs : List ℕ). bs ++ more) (take-add 7 len rest) ∙ append_assoc (take 7 rest) (take len (drop 7 rest)) more in
    ap (record_of space) parts ∙ record_stands space (take 7 rest ++ (take len (drop 7 rest) ++ more)) kind len (decided space rest kind len more (record_found space rest kind len found))

-- ---- a payload's records from a first place on

-- its records so far are read whatever follows them
abbrev pub CompletesAlone : ℕ → List ℕ → Option Fragments → ℕ → Type 0
CompletesAlone first all unfinished offset = (more : List ℕ) → Completes (ahead_at first (take (offset - first) all ++ more)) [] unfinished offset more

-- none is read yet
pub CompletesAlone-start : (first : ℕ) (all : List ℕ) → CompletesAlone first all None first
CompletesAlone-start first all more =
    let none : 0 ≡ first - first = omega arith in
    subst (λ (n : ℕ). Completes (ahead_at first (take n all ++ more)) [] None first more) none (Completes-here first more)

-- the next record, after a trailer, and its effect
pub record Follows (first : ℕ) (all : List ℕ) (unfinished : Option Fragments) (offset : ℕ) (left : List ℕ) (kind : Kind) (len : ℕ) (turn : StepWithData) : Type 0 where
  pub later : first ≤ offset
  pub left_is : left ≡ drop (offset - first) all
  pub alone : CompletesAlone first all unfinished offset
  pub found : record_of (room (header_place offset)) (here offset left) ≡ Ok (kind, len)
  pub within : 7 + len ≤ length (here offset left)
  pub turns : turn ≡ step_at unfinished (header_place offset) kind (take len (drop 7 (here offset left)))

-- the bytes up to its end, and others after them
abbrev up_to : ℕ → List ℕ → ℕ → List ℕ → List ℕ
up_to offset left len more = take (header_place offset - offset + (7 + len)) left ++ more

here_alone : (offset : ℕ) (left : List ℕ) (len : ℕ) (more : List ℕ) → 7 + len ≤ length (here offset left) → here offset (up_to offset left len more) ≡ followed (here offset left) len more
here_alone offset left len more le =
    let skipped = header_place offset - offset in
    let enough : skipped ≤ length (take (skipped + (7 + len)) left) = omega (arith, le, length-drop skipped left, length-take (skipped + (7 + len)) left) in
    drop-append-le skipped (take (skipped + (7 + len)) left) more enough ∙ ap (λ (bs : List ℕ). bs ++ more) (drop-take skipped (7 + len) left)

text_alone : (first offset : ℕ) (all left : List ℕ) (len : ℕ) (more : List ℕ) → first ≤ offset → left ≡ drop (offset - first) all
    → take (header_place offset + 7 + len - first) all ++ more ≡ take (offset - first) all ++ up_to offset left len more
text_alone first offset all left len more le e =
    let before = offset - first in
    let added = header_place offset - offset + (7 + len) in
    let sum : header_place offset + 7 + len - first ≡ before + added = omega (arith, le, place_later offset) in
    ap (λ (n : ℕ). take n all ++ more) sum
    ∙ (ap (λ (bs : List ℕ). bs ++ more) (take-add before added all)
    ∙ (append_assoc (take before all) (take added (drop before all)) more ∙ ap (λ (bs : List ℕ). take before all ++ (take added bs ++ more)) (sym e)))

behind_alone : (offset : ℕ) (left : List ℕ) (len : ℕ) (more : List ℕ) → 7 + len ≤ length (here offset left) → behind offset (up_to offset left len more) len ≡ more
behind_alone offset left len more le = ap (λ (bs : List ℕ). drop len (drop 7 bs)) (here_alone offset left len more le) ∙ rest_alone (here offset left) len more le

goes_alone : (first : ℕ) (all : List ℕ) (unfinished : Option Fragments) (offset : ℕ) (left : List ℕ) (kind : Kind) (len : ℕ) (turn : StepWithData) → Follows first all unfinished offset left kind len turn
    → (more : List ℕ) → Goes (ahead_at first (take (header_place offset + 7 + len - first) all ++ more)) [] offset (up_to offset left len more) len turn
goes_alone first all unfinished offset left kind len turn f more =
    let text = take (header_place offset + 7 + len - first) all ++ more in
    let there = up_to offset left len more in
    let at = here_alone offset left len more f.within in
    let c : Completes (ahead_at first text) [] unfinished offset there = subst (λ (bs : List ℕ). Completes (ahead_at first bs) [] unfinished offset there) (sym (text_alone first offset all left len more f.later f.left_is)) (f.alone there) in
    let within : 7 + len ≤ length (followed (here offset left) len more) = omega (arith, length-append (take (7 + len) (here offset left)) more, length-take-le (7 + len) (here offset left) f.within) in
    let same : take len (drop 7 (here offset there)) ≡ take len (drop 7 (here offset left)) = ap (λ (bs : List ℕ). take len (drop 7 bs)) at ∙ fragment_alone (here offset left) len more f.within in
    goes (ahead_at first text) [] unfinished offset there kind len turn c
    (ap (record_of (room (header_place offset))) at ∙ found_alone (room (header_place offset)) (here offset left) kind len more f.found)
    (subst (λ (bs : List ℕ). 7 + len ≤ length bs) (sym at) within)
    (f.turns ∙ ap (step_at unfinished (header_place offset) kind) (sym same))

pub opens_alone : (first : ℕ) (all : List ℕ) (unfinished : Option Fragments) (offset : ℕ) (left : List ℕ) (kind : Kind) (len : ℕ) (fragments : Fragments) → Follows first all unfinished offset left kind len (Open fragments)
    → CompletesAlone first all (Some fragments) (header_place offset + 7 + len)
opens_alone first all unfinished offset left kind len fragments f more =
    let place = header_place offset + 7 + len in
    subst (λ (bs : List ℕ). Completes (ahead_at first (take (place - first) all ++ more)) [] (Some fragments) place bs) (behind_alone offset left len more f.within) (goes_alone first all unfinished offset left kind len (Open fragments) f more)

pub comes_alone : (first : ℕ) (all : List ℕ) (unfinished : Option Fragments) (offset : ℕ) (left : List ℕ) (kind : Kind) (len : ℕ) (payload : List ℕ) → Follows first all unfinished offset left kind len (Complete payload)
    → (more : List ℕ) → ahead_at first (take (header_place offset + 7 + len - first) all ++ more) ≡ with_payload payload (ahead_at (header_place offset + 7 + len) more)
comes_alone first all unfinished offset left kind len payload f more =
    let place = header_place offset + 7 + len in
    let text = take (place - first) all ++ more in
    payload_comes (ahead_at first text) payload place more (subst (λ (bs : List ℕ). Completes (ahead_at first text) (payload ∷ []) None place bs) (behind_alone offset left len more f.within) (goes_alone first all unfinished offset left kind len (Complete payload) f more))

-- a record that was found after a trailer, and its effect
pub follows : (first : ℕ) (all : List ℕ) (unfinished : Option Fragments) (offset : ℕ) (left : List ℕ) (place : ℕ) (rest fragment : List ℕ) (kind : Kind) (len : ℕ) (turn : StepWithData)
    → first ≤ offset → left ≡ drop (offset - first) all → CompletesAlone first all unfinished offset → place ≡ header_place offset → rest ≡ here offset left → record_of (room place) rest ≡ Ok (kind, len) → 7 + len ≤ length rest
    → fragment ≡ take len (drop 7 rest) → turn ≡ step_at unfinished place kind fragment → Follows first all unfinished offset left kind len turn
follows first all unfinished offset left place rest fragment kind len turn le e alone at from found within cut turns = record {
  later = le;
  left_is = e;
  alone = alone;
  found = found_there offset left place rest (Ok (kind, len)) at from found;
  within = subst (λ (bs : List ℕ). 7 + len ≤ length bs) from within;
  turns = turned_there unfinished offset left place rest fragment kind len turn at from cut turns;
}
