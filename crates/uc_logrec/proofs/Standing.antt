-- Records that stand in a log.
use Rattle.std.proofs.Common.{◌≡◌, ℕ, zero, suc, ◌+◌, ◌-◌, ◌≤◌, ◌<◌, Bool, true, false, cond, eqb, List, [], ◌∷◌, ◌++◌, length, take, drop, get_or, Option, Some, None, Result, Ok, Err, ◌⊎◌, inl, inr, refl, sym, ap, subst, ◌∙◌, append_assoc, length-take, length-drop, slice_index, arith}
use Rattle.std.specs.Int.{w16, w32, to_le_bytes, from_le_bytes}
use Rattle.std.proofs.lemmas.Bool.{ltb-false, eqb-true}
use Rattle.std.proofs.lemmas.List.{take-append-drop}
use Rattle.std.proofs.lemmas.Nat.{le_bytes_2, le_bytes_4}
use Rattle.uc_logrec.specs.declared.kind.Kind.{Kind}
use Rattle.uc_logrec.specs.declared.kind.Kind.TheVariants.{Full, First, Middle, Last}
use Rattle.uc_logrec.specs.declared.log_record.Stop.{Stop}
use Rattle.uc_logrec.specs.Format.{room, code_of, kind_of, checksum_of, typed, record_text, stored_checksum, stored_code, record_of}
use Rattle.uc_logrec.specs.Grammar.{LogRecord, next_place, past_trailer, Stand, place_behind, BeginSentence, AreBytes}
use Rattle.uc_logrec.proofs.Records.{IsRecord, record_again, fragment_again, behind_again}

-- ---- one record

-- a test that had to fail, and one that had to hold
unless : {A : Type 0} (b : Bool) (e : Stop) (y : Result A Stop) (x : A) → cond b (Err e) y ≡ Ok x → (b ≡ false) × (y ≡ Ok x)
unless true e y x h = absurd cc
unless false e y x h = (refl, h)

provided : {A : Type 0} (b : Bool) (e : Stop) (y : Result A Stop) (x : A) → cond b y (Err e) ≡ Ok x → (b ≡ true) × (y ≡ Ok x)
provided true e y x h = (refl, h)
provided false e y x h = absurd cc

typed_ok : (found : Option Kind) (len n : ℕ) (kind : Kind) → typed found len ≡ Ok (kind, n) → (found ≡ Some kind) × (len ≡ n)
typed_ok None len n kind h = absurd cc
typed_ok (Some other) len n kind h =
    let same : ◌≡◌ {A = Kind × ℕ} (other, len) (kind, n) = cc in
    (ap (λ (p : Kind × ℕ). Some p.0) same, ap (λ (p : Kind × ℕ). p.1) same)

-- what is found there is one
pub record_found : (space : ℕ) (rest : List ℕ) (kind : Kind) (len : ℕ) → record_of space rest ≡ Ok (kind, len) → IsRecord space rest kind len
unfolding record_of
record_found space rest kind len h =
    let used = unless _ _ _ _ h in
    let header = unless _ _ _ _ used.1 in
    let fits_block = unless _ _ _ _ header.1 in
    let fits_log = unless _ _ _ _ fits_block.1 in
    let intact = provided _ _ _ _ fits_log.1 in
    let type = typed_ok _ _ _ _ intact.1 in
    record {
      used = used.0;
      header = ltb-false _ _ header.0;
      size = type.1;
      fits_block = subst (λ (n : ℕ). n ≤ space - 7) type.1 (ltb-false _ _ fits_block.0);
      fits_log = subst (λ (n : ℕ). n ≤ length rest - 7) type.1 (ltb-false _ _ fits_log.0);
      intact = subst (λ (n : ℕ). stored_checksum rest ≡ checksum_of (stored_code rest) (take n (drop 7 rest))) type.1 (eqb-true _ _ intact.0);
      type = type.0;
    }

-- the bytes of a header
seven : (rest : List ℕ) → 7 ≤ length rest
    → rest ≡ (slice_index rest 0 ∷ slice_index rest 1 ∷ slice_index rest 2 ∷ slice_index rest 3 ∷ []) ++ ((slice_index rest 4 ∷ slice_index rest 5 ∷ []) ++ slice_index rest 6 ∷ drop 7 rest)
seven [] le = absurd (omega arith)
seven (a ∷ []) le = absurd (omega arith)
seven (a ∷ b ∷ []) le = absurd (omega arith)
seven (a ∷ b ∷ c ∷ []) le = absurd (omega arith)
seven (a ∷ b ∷ c ∷ d ∷ []) le = absurd (omega arith)
seven (a ∷ b ∷ c ∷ d ∷ e ∷ []) le = absurd (omega arith)
seven (a ∷ b ∷ c ∷ d ∷ e ∷ f ∷ []) le = absurd (omega arith)
seven (a ∷ b ∷ c ∷ d ∷ e ∷ f ∷ g ∷ rest) le = refl

two_bytes : (a b : ℕ) → a < 256 → b < 256 → (i : ℕ) → get_or (a ∷ b ∷ []) i 0 < 256
two_bytes a b p q zero = p
two_bytes a b p q (suc zero) = q
two_bytes a b p q (suc (suc i)) = omega arith

four_bytes : (a b c d : ℕ) → a < 256 → b < 256 → c < 256 → d < 256 → (i : ℕ) → get_or (a ∷ b ∷ c ∷ d ∷ []) i 0 < 256
four_bytes a b c d p q r s zero = p
four_bytes a b c d p q r s (suc zero) = q
four_bytes a b c d p q r s (suc (suc zero)) = r
four_bytes a b c d p q r s (suc (suc (suc zero))) = s
four_bytes a b c d p q r s (suc (suc (suc (suc i)))) = omega arith

kind_code : (b : Bool) (kind other : Kind) (n code : ℕ) (rest : Option Kind) → (b ≡ true → code ≡ code_of kind) → (rest ≡ Some other → code ≡ code_of other) → cond b (Some kind) rest ≡ Some other → code ≡ code_of other
kind_code true kind other n code rest here there h = let same : kind ≡ other = cc in here refl ∙ ap code_of same
kind_code false kind other n code rest here there h = there h

-- the type of a kind
pub code_again : (code : ℕ) (kind : Kind) → kind_of code ≡ Some kind → code ≡ code_of kind
code_again code kind =
    kind_code (eqb code 1) Full kind 1 code _ (eqb-true code 1)
    (kind_code (eqb code 2) First kind 2 code _ (eqb-true code 2)
    (kind_code (eqb code 3) Middle kind 3 code _ (eqb-true code 3)
    (kind_code (eqb code 4) Last kind 4 code None (eqb-true code 4) (λ h. absurd cc))))

regrouped : (a b fragment left : List ℕ) (code : ℕ) → a ++ (b ++ code ∷ (fragment ++ left)) ≡ a ++ b ++ code ∷ fragment ++ left
regrouped a b fragment left code = sym (append_assoc (a ++ b) (code ∷ fragment) left ∙ append_assoc a b ((code ∷ fragment) ++ left))

text_of : (header size fragment left : List ℕ) (code : ℕ) (kind : Kind) → to_le_bytes w32 (checksum_of (code_of kind) fragment) ≡ header → to_le_bytes w16 (length fragment) ≡ size → code ≡ code_of kind
    → header ++ (size ++ code ∷ (fragment ++ left)) ≡ record_text kind fragment ++ left
unfolding record_text
text_of header size fragment left code kind p q e =
    ap (λ (h : List ℕ). h ++ (size ++ code ∷ (fragment ++ left))) (sym p)
    ∙ (ap (λ (n : List ℕ). to_le_bytes w32 (checksum_of (code_of kind) fragment) ++ (n ++ code ∷ (fragment ++ left))) (sym q)
    ∙ (ap (λ (c : ℕ). to_le_bytes w32 (checksum_of (code_of kind) fragment) ++ (to_le_bytes w16 (length fragment) ++ c ∷ (fragment ++ left))) e
    ∙ regrouped (to_le_bytes w32 (checksum_of (code_of kind) fragment)) (to_le_bytes w16 (length fragment)) fragment left (code_of kind)))

-- the bytes of a record are its encoding
text_there : (space : ℕ) (rest : List ℕ) (kind : Kind) (len : ℕ) → AreBytes rest → IsRecord space rest kind len
    → rest ≡ record_text kind (take len (drop 7 rest)) ++ drop len (drop 7 rest)
text_there space rest kind len bytes r =
    let fragment = take len (drop 7 rest) in
    let header = slice_index rest 0 ∷ slice_index rest 1 ∷ slice_index rest 2 ∷ slice_index rest 3 ∷ [] in
    let size = slice_index rest 4 ∷ slice_index rest 5 ∷ [] in
    let code = code_again (stored_code rest) kind r.type in
    let sum : checksum_of (code_of kind) fragment ≡ from_le_bytes w32 header = sym (r.intact ∙ ap (λ (c : ℕ). checksum_of c fragment) code) in
    let len_is : length fragment ≡ len = omega (arith, length-take len (drop 7 rest), length-drop 7 rest, r.fits_log, r.header) in
    let first : to_le_bytes w32 (checksum_of (code_of kind) fragment) ≡ header = le_bytes_4 header _ refl (four_bytes _ _ _ _ (bytes 0) (bytes 1) (bytes 2) (bytes 3)) sum in
    let second : to_le_bytes w16 (length fragment) ≡ size = le_bytes_2 size _ refl (two_bytes _ _ (bytes 4) (bytes 5)) (len_is ∙ sym r.size) in
    let whole = text_of header size fragment (drop len (drop 7 rest)) (stored_code rest) kind first second code in
    seven rest r.header ∙ (ap (λ (t : List ℕ). header ++ (size ++ slice_index rest 6 ∷ t)) (sym (take-append-drop len (drop 7 rest))) ∙ whole)

room_small : (place : ℕ) → room place ≤ 32768
room_small place = omega arith

-- a record stands where one is found
pub stands_there : (place : ℕ) (rest : List ℕ) (kind : Kind) (len : ℕ) → AreBytes rest → 7 ≤ room place → record_of (room place) rest ≡ Ok (kind, len)
    → Stand place rest ((kind, take len (drop 7 rest)) ∷ []) (past_trailer place (kind, take len (drop 7 rest)) (drop len (drop 7 rest)))
stands_there place rest kind len bytes fits found =
    let r = record_found (room place) rest kind len found in
    (drop len (drop 7 rest), omega (arith, length-take len (drop 7 rest), length-drop 7 rest, r.fits_block, r.fits_log, r.header), text_there (room place) rest kind len bytes r, refl)

-- and is found where it stands
pub found_there : (place : ℕ) (rest : List ℕ) (found : LogRecord) (left : List ℕ) → 7 + length found.1 ≤ room place → rest ≡ record_text found.0 found.1 ++ left → record_of (room place) rest ≡ Ok (found.0, length found.1)
found_there place rest found left fits text = ap (record_of (room place)) text ∙ record_again (room place) found.0 found.1 left fits (room_small place)

pub fragment_there : (rest : List ℕ) (found : LogRecord) (left : List ℕ) → rest ≡ record_text found.0 found.1 ++ left → take (length found.1) (drop 7 rest) ≡ found.1
fragment_there rest found left text = ap (λ (r : List ℕ). take (length found.1) (drop 7 r)) text ∙ fragment_again found.0 found.1 left

pub left_there : (rest : List ℕ) (found : LogRecord) (left : List ℕ) → rest ≡ record_text found.0 found.1 ++ left → drop (length found.1) (drop 7 rest) ≡ left
left_there rest found left text = ap (λ (r : List ℕ). drop (length found.1) (drop 7 r)) text ∙ behind_again found.0 found.1 left

-- ---- one record at most stands at a place

-- a record, and what is left after it
abbrev Found : Type 0
Found = Kind × List ℕ × List ℕ

-- what is found in bytes with so much data
abbrev found_of : List ℕ → Kind × ℕ → Found
found_of rest at = (at.0, take at.1 (drop 7 rest), drop at.1 (drop 7 rest))

found_is : (rest : List ℕ) (found : LogRecord) (left : List ℕ) → rest ≡ record_text found.0 found.1 ++ left → found_of rest (found.0, length found.1) ≡ (found.0, found.1, left)
found_is rest found left text =
    ap (λ (fragment : List ℕ). let all : Found = (found.0, fragment, drop (length found.1) (drop 7 rest)) in all) (fragment_there rest found left text)
    ∙ ap (λ (behind : List ℕ). let all : Found = (found.0, found.1, behind) in all) (left_there rest found left text)

same_found : (place : ℕ) (rest : List ℕ) (a b : LogRecord) (left other : List ℕ) → 7 + length a.1 ≤ room place → rest ≡ record_text a.0 a.1 ++ left → 7 + length b.1 ≤ room place → rest ≡ record_text b.0 b.1 ++ other
    → ◌≡◌ {A = Found} (a.0, a.1, left) (b.0, b.1, other)
same_found place rest a b left other fits text fits_too text_too =
    let one = found_there place rest a left fits text in
    let two = found_there place rest b other fits_too text_too in
    let same : ◌≡◌ {A = Kind × ℕ} (a.0, length a.1) (b.0, length b.1) = cc in
    sym (found_is rest a left text) ∙ (ap (found_of rest) same ∙ found_is rest b other text_too)

-- of two rows of records from one place one begins the other
pub record Goes_on (place : ℕ) (records others : List LogRecord) (rest : List ℕ) : Type 0 where
  pub found : LogRecord
  pub more : List LogRecord
  pub others_are : others ≡ records ++ found ∷ more
  pub behind : List ℕ
  pub stand : Stand (place_behind place records) rest (found ∷ []) behind

compared_behind : (place : ℕ) (found : LogRecord) (records others : List LogRecord) (rest : List ℕ) → (length others ≤ length records) ⊎ Goes_on (next_place place found) records others rest
    → (length (found ∷ others) ≤ length (found ∷ records)) ⊎ Goes_on place (found ∷ records) (found ∷ others) rest
compared_behind place found records others rest (inl le) = inl (omega arith)
compared_behind place found records others rest (inr more) = inr (record { found = more.found; more = more.more; others_are = ap (λ (rs : List LogRecord). found ∷ rs) more.others_are; behind = more.behind; stand = more.stand })

pub compared : (records others : List LogRecord) (place : ℕ) (bytes rest left : List ℕ) → Stand place bytes records rest → Stand place bytes others left → (length others ≤ length records) ⊎ Goes_on place records others rest
compared [] [] place bytes rest left stand too = inl (omega arith)
compared [] (other ∷ others) place bytes rest left stand (behind, fits, text, stands) =
    inr (record { found = other; more = others; others_are = refl; behind = past_trailer place other behind; stand = (behind, fits, sym stand ∙ text, refl) })
compared (found ∷ records) [] place bytes rest left stand too = inl (omega arith)
compared (found ∷ records) (other ∷ others) place bytes rest left (behind, fits, text, stands) (behind_too, fits_too, text_too, stands_too) =
    let same = same_found place bytes other found behind_too behind fits_too text_too fits text in
    let there = subst (λ (f : Found). Stand (next_place place (f.0, f.1)) (past_trailer place (f.0, f.1) f.2) others left) same stands_too in
    let all = compared_behind place found records others rest (compared records others (next_place place found) (past_trailer place found behind) rest left stands there) in
    subst (λ (f : Found). (length ((f.0, f.1) ∷ others) ≤ length (found ∷ records)) ⊎ Goes_on place (found ∷ records) ((f.0, f.1) ∷ others) rest) (sym same) all

-- where none stands that may follow, no row is longer
pub none_longer : (bytes : List ℕ) (records : List LogRecord) (rest : List ℕ) → Stand 0 bytes records rest
    → ((found : LogRecord) (left : List ℕ) → Stand (place_behind 0 records) rest (found ∷ []) left → BeginSentence (records ++ found ∷ []) → ⊥)
    → (others : List LogRecord) (left : List ℕ) → Stand 0 bytes others left → BeginSentence others → length others ≤ length records
none_longer bytes records rest stand none others left too (more, groups, whole) =
    elim (compared records others 0 bytes rest left stand too) [
      | inl le ↦ le
      | inr on ↦
          let regrouped_records : (records ++ on.found ∷ []) ++ (on.more ++ more) ≡ others ++ more =
          append_assoc records (on.found ∷ []) (on.more ++ more) ∙ (sym (append_assoc records (on.found ∷ on.more) more) ∙ ap (λ (rs : List LogRecord). rs ++ more) (sym on.others_are)) in
          absurd (none on.found on.behind on.stand (on.more ++ more, groups, regrouped_records ∙ whole))
    ]

-- ---- rows of records, joined

pub Stand-append : (a b : List LogRecord) (place : ℕ) (bytes rest left : List ℕ) → Stand place bytes a rest → Stand (place_behind place a) rest b left → Stand place bytes (a ++ b) left
Stand-append [] b place bytes rest left stand behind = subst (λ (bs : List ℕ). Stand place bs b left) (sym stand) behind
Stand-append (found ∷ a) b place bytes rest left (after, fits, text, stands) behind = (after, fits, text, Stand-append a b (next_place place found) (past_trailer place found after) rest left stands behind)
