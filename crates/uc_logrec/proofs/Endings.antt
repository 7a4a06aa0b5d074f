-- The table of endings, against what is found at a place.
use Rattle.std.proofs.Common.{◌≡◌, ℕ, zero, suc, ◌-◌, ◌<◌, Bool, true, false, cond, not, ◌&&◌, ◌||◌, eqb, ltb, List, [], ◌∷◌, length, take, drop, Option, Some, None, is_some, is_none, Result, Ok, Err, refl, ap, arith}
use Rattle.std.specs.List.{list_all}
use Rattle.std.proofs.lemmas.Bool.{le-ltb, lt-ltb, ne_eqb}
use Rattle.uc_logrec.specs.declared.fault.LogFault.{LogFault}
use Rattle.uc_logrec.specs.declared.fault.LogFault.TheVariants.{BadLength, BadChecksum, UnsupportedType, MiddleAlone, LastAlone, FullInside, FirstInside}
use Rattle.uc_logrec.specs.declared.ending.Ending.{Ending}
use Rattle.uc_logrec.specs.declared.ending.Ending.TheVariants.{Fault}
use Rattle.uc_logrec.specs.declared.kind.Kind.{Kind}
use Rattle.uc_logrec.specs.declared.kind.Kind.TheVariants.{Full, First, Middle, Last}
use Rattle.uc_logrec.specs.declared.log_record.Stop.{Stop}
use Rattle.uc_logrec.specs.declared.log_record.Stop.TheVariants.{End, Cut, Bad}
use Rattle.uc_logrec.specs.Steps.{Fragments, Complete, Open, Refused}
use Rattle.uc_logrec.specs.Format.{room, kind_of, checksum_of, typed, stored_checksum, stored_length, stored_code, record_of}
use Rattle.uc_logrec.specs.Log.{step_at, ending_at}
use Rattle.uc_logrec.specs.Grammar.{over_at, cut_at, endings, first_row}

-- the place of an open payload's FIRST
abbrev pub first_place : Option Fragments → Option ℕ
first_place None = None
first_place (Some f) = Some f.start

-- the last rows, for a record of a kind
abbrev kind_row : Option Fragments → ℕ → Kind → Option Ending
kind_row None place Full = None
kind_row None place First = None
kind_row None place Middle = Some (Fault MiddleAlone place)
kind_row None place Last = Some (Fault LastAlone place)
kind_row (Some f) place Full = Some (Fault FullInside place)
kind_row (Some f) place First = Some (Fault FirstInside place)
kind_row (Some f) place Middle = None
kind_row (Some f) place Last = None

-- what the table says of what is found
abbrev pub row_of : Option Fragments → ℕ → Result (Kind × ℕ) Stop → Option Ending
row_of fragments place (Err stop) = Some (ending_at stop fragments place)
row_of fragments place (Ok found) = kind_row fragments place found.0

abbrev kind_rows : Option ℕ → ℕ → ℕ → List (Bool × Ending)
kind_rows open_at place code =
    (ltb code 1 || ltb 4 code, Fault UnsupportedType place)
    ∷ (eqb code 3 && is_none open_at, Fault MiddleAlone place)
    ∷ (eqb code 4 && is_none open_at, Fault LastAlone place)
    ∷ (eqb code 1 && is_some open_at, Fault FullInside place)
    ∷ (eqb code 2 && is_some open_at, Fault FirstInside place)
    ∷ []

over_is : (fragments : Option Fragments) (place : ℕ) → over_at (first_place fragments) ≡ ending_at End fragments place
over_is None place = refl
over_is (Some f) place = refl

cut_is : (fragments : Option Fragments) (place : ℕ) → cut_at (first_place fragments) place ≡ ending_at Cut fragments place
cut_is None place = refl
cut_is (Some f) place = refl

-- a type above 4
unsupported : (fragments : Option Fragments) (place code len : ℕ) → 4 < code → first_row (kind_rows (first_place fragments) place code) ≡ row_of fragments place (typed (kind_of code) len)
unsupported fragments place code len more =
    let a = lt-ltb 4 code more in
    let b = le-ltb code 1 (omega arith) in
    let e = ne_eqb code 1 (λ h. absurd (omega arith)) in
    let f = ne_eqb code 2 (λ h. absurd (omega arith)) in
    let g = ne_eqb code 3 (λ h. absurd (omega arith)) in
    let h = ne_eqb code 4 (λ h. absurd (omega arith)) in
    rw (a, b, e, f, g, h) refl

by_kind : (fragments : Option Fragments) (place code len : ℕ) → first_row (kind_rows (first_place fragments) place code) ≡ row_of fragments place (typed (kind_of code) len)
by_kind fragments place zero len = refl
by_kind None place (suc zero) len = refl
by_kind (Some f) place (suc zero) len = refl
by_kind None place (suc (suc zero)) len = refl
by_kind (Some f) place (suc (suc zero)) len = refl
by_kind None place (suc (suc (suc zero))) len = refl
by_kind (Some f) place (suc (suc (suc zero))) len = refl
by_kind None place (suc (suc (suc (suc zero)))) len = refl
by_kind (Some f) place (suc (suc (suc (suc zero)))) len = refl
by_kind fragments place (suc (suc (suc (suc (suc n))))) len = unsupported fragments place (suc (suc (suc (suc (suc n))))) len (omega arith)

-- over the tests of the rows
by_tests : (zeros header block log sum : Bool) (fragments : Option Fragments) (place code len : ℕ)
    → first_row ((zeros, over_at (first_place fragments)) ∷ (header, cut_at (first_place fragments) place) ∷ (block, Fault BadLength place) ∷ (log, cut_at (first_place fragments) place) ∷ (not sum, Fault BadChecksum place) ∷ kind_rows (first_place fragments) place code)
    ≡ row_of fragments place (cond zeros (Err End) (cond header (Err Cut) (cond block (Err (Bad BadLength)) (cond log (Err Cut) (cond sum (typed (kind_of code) len) (Err (Bad BadChecksum)))))))
by_tests true header block log sum fragments place code len = ap Some (over_is fragments place)
by_tests false true block log sum fragments place code len = ap Some (cut_is fragments place)
by_tests false false true log sum fragments place code len = refl
by_tests false false false true sum fragments place code len = ap Some (cut_is fragments place)
by_tests false false false false false fragments place code len = refl
by_tests false false false false true fragments place code len = by_kind fragments place code len

pub row_is : (fragments : Option Fragments) (place : ℕ) (rest : List ℕ) → first_row (endings (first_place fragments) place rest) ≡ row_of fragments place (record_of (room place) rest)
unfolding endings record_of
row_is fragments place rest =
    let len = stored_length rest in
    let code = stored_code rest in
    by_tests (list_all (λ byte. eqb byte 0) rest) (ltb (length rest) 7) (ltb (room place - 7) len) (ltb (length rest - 7) len) (eqb (stored_checksum rest) (checksum_of code (take len (drop 7 rest)))) fragments place code len

-- if a record is rejected
refused_none : (place : ℕ) (kind : Kind) (fragment : List ℕ) (fault : LogFault) → step_at None place kind fragment ≡ Refused fault → kind_row None place kind ≡ Some (Fault fault place)
refused_none place Full fragment fault e = absurd cc
refused_none place First fragment fault e = absurd cc
refused_none place Middle fragment fault e = let same : MiddleAlone ≡ fault = cc in ap (λ (f : LogFault). Some (Fault f place)) same
refused_none place Last fragment fault e = let same : LastAlone ≡ fault = cc in ap (λ (f : LogFault). Some (Fault f place)) same

refused_by_full : (lone : Bool) (place : ℕ) (fragment : List ℕ) (fault : LogFault) → cond lone (Complete fragment) (Refused FullInside) ≡ Refused fault → FullInside ≡ fault
refused_by_full true place fragment fault e = absurd cc
refused_by_full false place fragment fault e = cc

refused_by_first : (lone : Bool) (f : Fragments) (fault : LogFault) → cond lone (Open f) (Refused FirstInside) ≡ Refused fault → FirstInside ≡ fault
refused_by_first true f fault e = absurd cc
refused_by_first false f fault e = cc

refused_some : (f : Fragments) (place : ℕ) (kind : Kind) (fragment : List ℕ) (fault : LogFault) → step_at (Some f) place kind fragment ≡ Refused fault → kind_row (Some f) place kind ≡ Some (Fault fault place)
refused_some f place Full fragment fault e = ap (λ (x : LogFault). Some (Fault x place)) (refused_by_full f.is_empty_first place fragment fault e)
refused_some f place First fragment fault e = ap (λ (x : LogFault). Some (Fault x place)) (refused_by_first f.is_empty_first _ fault e)
refused_some f place Middle fragment fault e = absurd cc
refused_some f place Last fragment fault e = absurd cc

pub refused_row : (fragments : Option Fragments) (place : ℕ) (kind : Kind) (fragment : List ℕ) (len : ℕ) (fault : LogFault) → step_at fragments place kind fragment ≡ Refused fault → row_of fragments place (Ok (kind, len)) ≡ Some (Fault fault place)
refused_row None place kind fragment len fault e = refused_none place kind fragment fault e
refused_row (Some f) place kind fragment len fault e = refused_some f place kind fragment fault e
