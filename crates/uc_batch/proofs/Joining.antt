-- The bytes of pieces.
use Rattle.std.proofs.Common.{◌≡◌, ℕ, zero, suc, ◌+◌, ◌-◌, ◌<◌, ◌≤◌, List, [], ◌∷◌, ◌++◌, length, get_or, take, drop, Ok, Err, refl, ap, sym, subst, ◌∙◌, append_assoc, length-append, length-drop, arith}
use Rattle.std.specs.Prelude.{Result, is_ok, OnOk, OnErr, if◌then◌else◌}
use Rattle.std.specs.Global.{Vec}
use Rattle.std.proofs.Math.ListN.{set}
use Rattle.std.proofs.lemmas.List.{append-nil, nil_from_length, take-append-le, take-append-drop, drop_at, drop-drop}
use Rattle.uc_batch.specs.Pieces.{bytes_of, AreFilled}

pub bytes_of-append : (ps qs : List (Vec ℕ)) → bytes_of (ps ++ qs) ≡ bytes_of ps ++ bytes_of qs
bytes_of-append [] qs = refl
bytes_of-append (p ∷ ps) qs = ap (λ (l : List ℕ). p.items ++ l) (bytes_of-append ps qs) ∙ sym (append_assoc p.items (bytes_of ps) (bytes_of qs))

-- one piece more
pub bytes_of-push : (ps : List (Vec ℕ)) (p : Vec ℕ) → bytes_of (ps ++ p ∷ []) ≡ bytes_of ps ++ p.items
bytes_of-push ps p = bytes_of-append ps (p ∷ []) ∙ ap (λ (l : List ℕ). bytes_of ps ++ l) (append-nil p.items)

pub AreFilled-push : (ps : List (Vec ℕ)) (p : Vec ℕ) → AreFilled ps → 0 < length p.items → AreFilled (ps ++ p ∷ [])
AreFilled-push [] p filled some = (some, tt)
AreFilled-push (q ∷ ps) p filled some = (filled.0, AreFilled-push ps p filled.1 some)

-- ---- one piece written

-- the last piece, with more bytes
extended : (ps : List (Vec ℕ)) (last : ℕ) (old new : Vec ℕ) (more : List ℕ) → length ps ≡ suc last → old ≡ get_or ps last old → new.items ≡ old.items ++ more → bytes_of (set ps last new) ≡ bytes_of ps ++ more
extended [] last old new more long read e = absurd (omega arith)
extended (p ∷ ps) zero old new more long read e =
    let none : ps ≡ [] = nil_from_length ps (omega arith) in
    let is : new.items ≡ p.items ++ more = e ∙ ap (λ (v : Vec ℕ). v.items ++ more) read in
    subst (λ (l : List (Vec ℕ)). new.items ++ bytes_of l ≡ (p.items ++ bytes_of l) ++ more) (sym none) (append-nil new.items ∙ is ∙ ap (λ (l : List ℕ). l ++ more) (sym (append-nil p.items)))
extended (p ∷ ps) (suc last) old new more long read e =
    ap (λ (l : List ℕ). p.items ++ l) (extended ps last old new more (omega arith) read e) ∙ sym (append_assoc p.items (bytes_of ps) more)

-- a piece with the same bytes
unchanged : (ps : List (Vec ℕ)) (at : ℕ) (old new : Vec ℕ) → old ≡ get_or ps at old → new.items ≡ old.items → bytes_of (set ps at new) ≡ bytes_of ps
unchanged [] at old new read e = refl
unchanged (p ∷ ps) zero old new read e = ap (λ (l : List ℕ). l ++ bytes_of ps) (e ∙ ap (λ (v : Vec ℕ). v.items) read)
unchanged (p ∷ ps) (suc at) old new read e = ap (λ (l : List ℕ). p.items ++ l) (unchanged ps at old new read e)

pub AreFilled-set : (ps : List (Vec ℕ)) (at : ℕ) (old new : Vec ℕ) → old ≡ get_or ps at old → length old.items ≤ length new.items → AreFilled ps → AreFilled (set ps at new)
AreFilled-set [] at old new read le filled = tt
AreFilled-set (p ∷ ps) zero old new read le filled = (omega (arith, ap (λ (v : Vec ℕ). length v.items) read, filled.0), filled.1)
AreFilled-set (p ∷ ps) (suc at) old new read le filled = (filled.0, AreFilled-set ps at old new read le filled.1)

module _ {T E : Type 0} where
  pub extended_if_ok : (r : Result T E) (ps : List (Vec ℕ)) (last : ℕ) (old new : Vec ℕ) (more : List ℕ) → length ps ≡ suc last → old ≡ get_or ps last old → new.items ≡ (if is_ok r then old.items ++ more else old.items) → OnOk r (bytes_of (set ps last new) ≡ bytes_of ps ++ more)
  extended_if_ok (Ok x) ps last old new more long read e = extended ps last old new more long read e
  extended_if_ok (Err x) ps last old new more long read e = tt

  pub unchanged_if_err : (r : Result T E) (ps : List (Vec ℕ)) (last : ℕ) (old new : Vec ℕ) (more : List ℕ) → old ≡ get_or ps last old → new.items ≡ (if is_ok r then old.items ++ more else old.items) → OnErr r (bytes_of (set ps last new) ≡ bytes_of ps)
  unchanged_if_err (Ok x) ps last old new more read e = tt
  unchanged_if_err (Err x) ps last old new more read e = unchanged ps last old new read e

  pub no_shorter : (r : Result T E) (old new more : List ℕ) → new ≡ (if is_ok r then old ++ more else old) → length old ≤ length new
  no_shorter (Ok x) old new more e = omega (arith, ap length e, length-append old more)
  no_shorter (Err x) old new more e = omega (arith, ap length e)

-- ---- some bytes moved

-- the first bytes of the first piece, appended to others
pub moved_part : (ps : List (Vec ℕ)) (first : Vec ℕ) (old new left front : List ℕ) (most : ℕ) → 0 < length ps → first ≡ get_or ps 0 first → most ≤ length first.items → front ≡ take most first.items → new ≡ old ++ front → left ≡ drop most (bytes_of ps) → new ++ left ≡ old ++ bytes_of ps
moved_part [] first old new left front most some read le e f g = absurd (omega arith)
moved_part (p ∷ ps) first old new left front most some read le e f g =
    let within : most ≤ length p.items = subst (λ (v : Vec ℕ). most ≤ length v.items) read le in
    let part : front ≡ take most (p.items ++ bytes_of ps) = e ∙ ap (λ (v : Vec ℕ). take most v.items) read ∙ sym (take-append-le most p.items (bytes_of ps) within) in
    ap (λ (l : List ℕ). l ++ left) f ∙ append_assoc old front left ∙ ap (λ (l : List ℕ). old ++ l) (ap (λ (l : List ℕ). l ++ left) part ∙ ap (λ (l : List ℕ). take most (p.items ++ bytes_of ps) ++ l) g ∙ take-append-drop most (p.items ++ bytes_of ps))

-- ---- a piece passed over

drop_past : (front behind : List ℕ) (left : ℕ) → length front ≤ left → drop (left - length front) behind ≡ drop left (front ++ behind)
drop_past front behind left le =
    let whole : length front + (left - length front) ≡ left = omega arith in
    ap (drop (left - length front)) (sym (drop_at front behind (length front) refl))
    ∙ drop-drop (left - length front) (length front) (front ++ behind)
    ∙ ap (λ (n : ℕ). drop n (front ++ behind)) whole

-- the number of bytes left to skip after the end of a piece of this size
pub next_passed : (piece rest next behind all : List ℕ) (size at left : ℕ) → size ≡ length piece → size - at < left → rest ≡ next ++ behind → drop left (drop at piece ++ rest) ≡ all → drop (left - (size - at)) (next ++ behind) ≡ all
next_passed piece rest next behind all size at left long lt is same =
    let front = drop at piece in
    let many : size - at ≡ length front = omega (arith, length-drop at piece) in
    ap (λ (n : ℕ). drop (left - n) (next ++ behind)) many
    ∙ drop_past front (next ++ behind) left (omega (arith, many))
    ∙ ap (λ (l : List ℕ). drop left (front ++ l)) (sym is)
    ∙ same
