-- Numbers and entries that bytes encode, and bytes that encode none.
use Rattle.std.proofs.Common.{◌≡◌, ℕ, zero, suc, ◌+◌, ◌-◌, ◌*◌, ◌%◌, ◌^◌, ◌<◌, ◌≤◌, Bool, true, false, cond, eqb, ltb, List, [], ◌∷◌, ◌++◌, length, get_or, take, drop, refl, sym, ap, subst, ◌∙◌, append_assoc, length-append, le-ltb, replicate, arith}
use Rattle.std.specs.List.{AllByRecursion}
use Rattle.std.specs.Int.{w64, to_le_bytes, from_le_bytes, sum_through, byte_worth}
use Rattle.std.proofs.ByRecursion.{All-append}
use Rattle.std.proofs.lemmas.Bool.Decides.{nat_tests}
use Rattle.std.proofs.lemmas.List.{take_at, drop_at, take-append-drop, length-take-le, length-replicate, append-nil, length_push, drop_more, take_rest, drop-drop, length-drop, nil_from_length}
use Rattle.std.proofs.lemmas.Nat.{le_bytes_8}
use Rattle.uc_run_entry.specs.declared.entry.Entry.{Entry}
use Rattle.uc_run_entry.specs.declared.entry.What.{What}
use Rattle.uc_run_entry.specs.declared.entry.What.TheVariants.{Put, Delete, Merge}
use Rattle.uc_run_entry.specs.Packed.{tagged}
use Rattle.uc_run_points.specs.Numbers.{width_of, number_text}
use Rattle.uc_run_points.specs.Spelling.{tag_of, text_of, trailer_of, entry_of, entry_text, entries_text, entries_from, Fits, AreSpelled}
use Rattle.uc_run_points.specs.Starts.{AreStarts}
use Rattle.uc_run_points.specs.Faults.{Begins, IsWhole, IsFaultAt}
use Rattle.uc_run_points.proofs.NumbersAgain.{width_bound, low_again}
use Rattle.uc_run_points.proofs.EntriesAgain.{spelled_by, are_spelled, regrouped, trailer_fits}
use Rattle.uc_run_points.proofs.Grown.{number_some, entry_some, text_some, text_pushed, starts_pushed, starts_none}
use Rattle.uc_run_points.proofs.Unique.{numbers_apart}

abbrev pub IsBytes : List ℕ → Type 0
IsBytes bytes = (i : ℕ) → get_or bytes i 0 < 256

-- ---- numbers

pub number_short : (n : ℕ) → n < 248 → number_text n ≡ n ∷ []
unfolding number_text
number_short n lt = let t : ltb n 248 ≡ true = grind (arith, nat_tests) in ap (λ b. cond b (n ∷ []) ((247 + width_of n) ∷ take (width_of n) (to_le_bytes w64 n))) t

pub number_long : (n : ℕ) → 248 ≤ n → number_text n ≡ (247 + width_of n) ∷ take (width_of n) (to_le_bytes w64 n)
unfolding number_text
number_long n le = ap (λ b. cond b (n ∷ []) ((247 + width_of n) ∷ take (width_of n) (to_le_bytes w64 n))) (le-ltb n 248 le)

abbrev zeros : ℕ → List ℕ
zeros k = replicate k 0

abbrev at : List ℕ → ℕ → ℕ
at xs i = get_or xs i 0

zeros_get : (k i : ℕ) → at (zeros k) i ≡ at [] i
zeros_get zero i = refl
zeros_get (suc k) zero = refl
zeros_get (suc k) (suc i) = zeros_get k i

zeros_after : (xs : List ℕ) (k i : ℕ) → at (xs ++ zeros k) i ≡ at xs i
zeros_after [] k i = zeros_get k i
zeros_after (x ∷ xs) k zero = refl
zeros_after (x ∷ xs) k (suc i) = zeros_after xs k i

zeros_many : (k : ℕ) → length (zeros k) ≡ k
zeros_many k = let z : ℕ = 0 in length-replicate k z

-- the lowest bytes of the number that these bytes make are these bytes
low_bytes : (xs : List ℕ) → length xs ≤ 8 → IsBytes xs → take (length xs) (to_le_bytes w64 (from_le_bytes w64 xs)) ≡ xs
low_bytes xs le small =
    let k : ℕ = 8 - length xs in
    let ys : List ℕ = xs ++ zeros k in
    let long : length ys ≡ 8 = omega (arith, length-append xs (zeros k), zeros_many k, le) in
    let all : IsBytes ys = λ i. subst (λ (n : ℕ). n < 256) (sym (zeros_after xs k i)) (small i) in
    let same : from_le_bytes w64 xs ≡ from_le_bytes w64 ys = sym (ap (λ (f : ℕ → ℕ). sum_through (λ i. byte_worth i (f i)) 7) (λ j. λ i. zeros_after xs k i j)) in
    let e : to_le_bytes w64 (from_le_bytes w64 xs) ≡ ys = le_bytes_8 ys (from_le_bytes w64 xs) long all same in
    ap (take (length xs)) e ∙ take_at xs (zeros k) (length xs) refl

-- bytes are the first byte, and then those after it
pub first_and_rest : (bytes : List ℕ) → 1 ≤ length bytes → bytes ≡ get_or bytes 0 0 ∷ take (length bytes - 1) (drop 1 bytes)
first_and_rest bytes some = drop_more bytes 0 0 (omega (arith, some)) ∙ ap (λ (xs : List ℕ). get_or bytes 0 0 ∷ xs) (sym (take_rest bytes 1))

pub short_there : (bytes : List ℕ) (n : ℕ) → 1 ≤ length bytes → n ≡ get_or bytes 0 0 → n ≤ 247 → bytes ≡ number_text n ++ take (length bytes - 1) (drop 1 bytes)
short_there bytes n some is le =
    first_and_rest bytes some ∙ ap (λ (b : ℕ). b ∷ take (length bytes - 1) (drop 1 bytes)) (sym is)
    ∙ ap (λ (xs : List ℕ). xs ++ take (length bytes - 1) (drop 1 bytes)) (sym (number_short n (omega (arith, le))))

-- the properties of the bytes after the first byte of a longer number
pub record IsLong (b : ℕ) (after : List ℕ) (n : ℕ) : Type 0 where
  pub large : 248 ≤ n
  pub width : width_of n ≡ b - 247
  pub there : b - 247 ≤ length after
  pub number : from_le_bytes w64 (take (b - 247) after) ≡ n

pub same_cells : (b c : ℕ) (xs ys : List ℕ) → b ∷ xs ≡ c ∷ ys → (b ≡ c) × (xs ≡ ys)
same_cells b c xs ys e = (cc, cc)

known : (b : ℕ) (after : List ℕ) (n : ℕ) (rest : List ℕ) → n < 2 ^ 64 → 248 ≤ b → b ∷ after ≡ number_text n ++ rest → IsLong b after n
known b after n rest fits long eq = by (ltb n 248) refl
  where
    by : (t : Bool) → ltb n 248 ≡ t → IsLong b after n
    by true e =
        let lt : n < 248 = grind (arith, nat_tests) in
        let both = same_cells b n after rest (eq ∙ ap (λ (xs : List ℕ). xs ++ rest) (number_short n lt)) in
        absurd (omega (arith, both.0, lt, long))
    by false e =
        let le : 248 ≤ n = grind (arith, nat_tests) in
        let w : ℕ = width_of n in
        let low : List ℕ = take w (to_le_bytes w64 n) in
        let both = same_cells b (247 + w) after (low ++ rest) (eq ∙ ap (λ (xs : List ℕ). xs ++ rest) (number_long n le)) in
        let same : w ≡ b - 247 = omega (arith, both.0) in
        let small = width_bound n in
        let many : length low ≡ w = length-take-le w (to_le_bytes w64 n) small.1 in
        record {
          large = le;
          width = same;
          there = omega (arith, same, many, ap (λ (xs : List ℕ). length xs) both.1, length-append low rest);
          number = ap (λ (k : ℕ). from_le_bytes w64 (take k after)) (sym same) ∙ ap (λ (xs : List ℕ). from_le_bytes w64 (take w xs)) both.1
              ∙ ap (from_le_bytes w64) (take_at low rest w many) ∙ low_again n fits;
        }

-- the same properties, if the bytes are those of a slice
pub long_there : (bytes : List ℕ) (n : ℕ) (rest : List ℕ) → 1 ≤ length bytes → 247 < get_or bytes 0 0 → n < 2 ^ 64 → bytes ≡ number_text n ++ rest → IsLong (get_or bytes 0 0) (take (length bytes - 1) (drop 1 bytes)) n
long_there bytes n rest some long fits eq =
    known (get_or bytes 0 0) (take (length bytes - 1) (drop 1 bytes)) n rest fits (omega (arith, long)) (sym (first_and_rest bytes some) ∙ eq)

pub no_number : (n : ℕ) (bytes rest : List ℕ) → length bytes < 1 → bytes ≡ number_text n ++ rest → ⊥
no_number n bytes rest none eq = absurd (omega (arith, none, ap (λ (xs : List ℕ). length xs) eq, length-append (number_text n) rest, number_some n))

-- the bytes after the first `k` are bytes
drop_bytes : (k : ℕ) (bytes : List ℕ) → IsBytes bytes → IsBytes (drop k bytes)
drop_bytes zero bytes all = all
drop_bytes (suc k) [] all = all
drop_bytes (suc k) (b ∷ bytes) all = drop_bytes k bytes (λ i. all (suc i))

take_bytes : (k : ℕ) (bytes : List ℕ) → IsBytes bytes → (i : ℕ) → get_or (take k bytes) i 0 < 256
take_bytes zero bytes all i = omega arith
take_bytes (suc k) [] all i = omega arith
take_bytes (suc k) (b ∷ bytes) all zero = all 0
take_bytes (suc k) (b ∷ bytes) all (suc i) = take_bytes k bytes (λ j. all (suc j)) i

-- bytes with these properties begin with the encoding of the number
spelled_long : (b : ℕ) (after low rest : List ℕ) (n w : ℕ) → w ≡ b - 247 → 247 < b → b < 256 → IsBytes low → length low ≡ w → after ≡ low ++ rest → n ≡ from_le_bytes w64 low → 248 ≤ n → width_of n ≡ w → b ∷ after ≡ number_text n ++ rest
spelled_long b after low rest n w width long byte small many split number large is =
    let head : b ≡ 247 + width_of n = omega (arith, width, long, is) in
    let bytes : low ≡ take (width_of n) (to_le_bytes w64 n) =
    sym (low_bytes low (omega (arith, many, width, byte)) small) ∙ ap (λ (m : ℕ). take (length low) (to_le_bytes w64 m)) (sym number)
    ∙ ap (λ (k : ℕ). take k (to_le_bytes w64 n)) (many ∙ sym is) in
    ap (λ (xs : List ℕ). b ∷ xs) split ∙ ap (λ (c : ℕ). c ∷ (low ++ rest)) head
    ∙ ap (λ (xs : List ℕ). (247 + width_of n) ∷ (xs ++ rest)) bytes ∙ ap (λ (xs : List ℕ). xs ++ rest) (sym (number_long n large))

pub long_spelled : (bytes low rest : List ℕ) (n w : ℕ) → IsBytes bytes → 1 ≤ length bytes → 247 < get_or bytes 0 0 → w ≡ get_or bytes 0 0 - 247 → w ≤ length (take (length bytes - 1) (drop 1 bytes))
    → low ≡ take w (take (length bytes - 1) (drop 1 bytes)) → rest ≡ drop w (take (length bytes - 1) (drop 1 bytes)) → n ≡ from_le_bytes w64 low → 248 ≤ n → width_of n ≡ w → bytes ≡ number_text n ++ rest
long_spelled bytes low rest n w all some long width there front back number large is =
    let after : List ℕ = take (length bytes - 1) (drop 1 bytes) in
    let small : IsBytes low = subst IsBytes (sym front) (take_bytes w after (take_bytes (length bytes - 1) (drop 1 bytes) (drop_bytes 1 bytes all))) in
    let many : length low ≡ w = ap (λ (xs : List ℕ). length xs) front ∙ length-take-le w after there in
    let split : after ≡ low ++ rest = sym (take-append-drop w after) ∙ ap (λ (xs : List ℕ). xs ++ drop w after) (sym front) ∙ ap (λ (xs : List ℕ). low ++ xs) (sym back) in
    first_and_rest bytes some ∙ spelled_long (get_or bytes 0 0) after low rest n w width long (all 0) small many split number large is

-- ---- entries

pub two_numbers : (bytes rest more : List ℕ) (n m : ℕ) → n < 2 ^ 64 → m < 2 ^ 64 → bytes ≡ number_text n ++ rest → bytes ≡ number_text m ++ more → (n ≡ m) × (rest ≡ more)
two_numbers bytes rest more n m fits also e f = numbers_apart n m rest more fits also (sym e ∙ f)

-- the encoding of an entry in parts: its numbers, and the bytes after them
pub in_parts : (e : Entry) (bytes rest : List ℕ) → bytes ≡ entry_text e ++ rest → bytes ≡ number_text (length e.key) ++ (number_text (length (text_of e.what)) ++ (number_text (trailer_of e) ++ (e.key ++ (text_of e.what ++ rest))))
unfolding entry_text
in_parts e bytes rest eq = eq ∙ regrouped (number_text (length e.key)) (number_text (length (text_of e.what))) (number_text (trailer_of e)) e.key (text_of e.what) rest

-- the decoded numbers are those of any entry that is encoded here
pub record IsHeadOf (k t s : ℕ) (rest : List ℕ) (e : Entry) (after : List ℕ) : Type 0 where
  pub key : k ≡ length e.key
  pub text : t ≡ length (text_of e.what)
  pub trailer : s ≡ trailer_of e
  pub left : rest ≡ e.key ++ (text_of e.what ++ after)

pub same_head : (bytes rest : List ℕ) (k t s : ℕ) → k < 2 ^ 64 → t < 2 ^ 64 → s < 2 ^ 64 → bytes ≡ number_text k ++ (number_text t ++ (number_text s ++ rest)) → (after : List ℕ) → (b : Begins bytes after) → IsHeadOf k t s rest b.entry after
same_head bytes rest k t s fk ft fs eq after b =
    let e = b.entry in
    let parts = in_parts e bytes after b.spelled in
    let one = two_numbers bytes (number_text t ++ (number_text s ++ rest)) (number_text (length (text_of e.what)) ++ (number_text (trailer_of e) ++ (e.key ++ (text_of e.what ++ after)))) k (length e.key) fk b.fits.key eq parts in
    let two = numbers_apart t (length (text_of e.what)) (number_text s ++ rest) (number_text (trailer_of e) ++ (e.key ++ (text_of e.what ++ after))) ft b.fits.text one.1 in
    let three = numbers_apart s (trailer_of e) rest (e.key ++ (text_of e.what ++ after)) fs (trailer_fits e b.fits.seq) two.1 in
    record { key = one.0; text = two.0; trailer = three.0; left = three.1 }

tag_small : (w : What) → tag_of w < 3
tag_small (Put value) = omega arith
tag_small Delete = omega arith
tag_small (Merge operand) = omega arith

no_text : (w : What) → tag_of w ≡ 0 → length (text_of w) ≡ 0
no_text (Put value) e = absurd (omega (arith, e))
no_text Delete e = refl
no_text (Merge operand) e = absurd (omega (arith, e))

-- such a head is whole
pub whole_head : (k t s : ℕ) (rest : List ℕ) (e : Entry) (after : List ℕ) → IsHeadOf k t s rest e after → IsWhole k t s (length rest)
whole_head k t s rest e after is =
    let small : tag_of e.what < 3 = tag_small e.what in
    let trailer : s ≡ 4 * e.seq + tag_of e.what = is.trailer in
    let tag : s % 4 ≡ tag_of e.what = omega (arith, trailer, small) in
    record {
      tag = omega (arith, tag, small);
      none = λ z. omega (arith, is.text, no_text e.what (sym tag ∙ z));
      there = omega (arith, is.key, is.text, ap (λ (xs : List ℕ). length xs) is.left, length-append e.key (text_of e.what ++ after), length-append (text_of e.what) after);
    }

tag_again : (tag : ℕ) (text : List ℕ) → tag < 3 → tag_of (tagged tag text) ≡ tag
tag_again zero text lt = refl
tag_again (suc zero) text lt = refl
tag_again (suc (suc zero)) text lt = refl
tag_again (suc (suc (suc n))) text lt = absurd (omega (arith, lt))

text_again : (tag : ℕ) (text : List ℕ) → (tag ≡ 0 → length text ≡ 0) → text_of (tagged tag text) ≡ text
text_again zero text none = sym (nil_from_length text (none refl))
text_again (suc zero) text none = refl
text_again (suc (suc n)) text none = refl

-- bytes with a whole head begin with the encoding of an entry
pub head_begins : (bytes rest : List ℕ) (k t s : ℕ) → k < 2 ^ 64 → t < 2 ^ 64 → s < 2 ^ 64 → bytes ≡ number_text k ++ (number_text t ++ (number_text s ++ rest)) → IsWhole k t s (length rest) → Begins bytes (drop (k + t) rest)
unfolding entry_text
head_begins bytes rest k t s fk ft fs eq whole =
    let key : List ℕ = take k rest in
    let text : List ℕ = take t (drop k rest) in
    let e : Entry = entry_of s key text in
    let key_long : length key ≡ k = length-take-le k rest (omega (arith, whole.there)) in
    let text_long : length text ≡ t = length-take-le t (drop k rest) (omega (arith, whole.there, length-drop k rest)) in
    let said : text_of e.what ≡ text = text_again (s % 4) text (λ z. text_long ∙ whole.none z) in
    let said_long : length (text_of e.what) ≡ t = ap (λ (xs : List ℕ). length xs) said ∙ text_long in
    let tag : tag_of e.what ≡ s % 4 = tag_again (s % 4) text whole.tag in
    let trailer : trailer_of e ≡ s = omega (arith, tag) in
    let back : rest ≡ key ++ (text ++ drop (k + t) rest) =
    sym (take-append-drop k rest) ∙ ap (λ (xs : List ℕ). key ++ xs) (sym (take-append-drop t (drop k rest)) ∙ ap (λ (xs : List ℕ). text ++ xs) (drop-drop t k rest)) in
    record {
      entry = e;
      fits = record { key = omega (arith, key_long, fk); text = omega (arith, said_long, ft); seq = omega (arith, fs) };
      spelled =
          eq ∙ ap (λ (xs : List ℕ). number_text k ++ (number_text t ++ (number_text s ++ xs))) back
          ∙ ap (λ (n : ℕ). number_text n ++ (number_text t ++ (number_text s ++ (key ++ (text ++ drop (k + t) rest))))) (sym key_long)
          ∙ ap (λ (n : ℕ). number_text (length key) ++ (number_text n ++ (number_text s ++ (key ++ (text ++ drop (k + t) rest))))) (sym said_long)
          ∙ ap (λ (n : ℕ). number_text (length key) ++ (number_text (length (text_of e.what)) ++ (number_text n ++ (key ++ (text ++ drop (k + t) rest))))) (sym trailer)
          ∙ ap (λ (xs : List ℕ). number_text (length key) ++ (number_text (length (text_of e.what)) ++ (number_text (trailer_of e) ++ (key ++ (xs ++ drop (k + t) rest))))) (sym said)
          ∙ sym (regrouped (number_text (length key)) (number_text (length (text_of e.what))) (number_text (trailer_of e)) key (text_of e.what) (drop (k + t) rest));
    }

-- ---- the loop

-- the invariant of the loop: the bytes before the rest encode `count` entries
pub record IsRead (bytes rest : List ℕ) (count : ℕ) (starts : List ℕ) : Type 0 where
  pub entries : List Entry
  pub fits : AllByRecursion Fits entries
  pub spelled : bytes ≡ entries_text entries ++ rest
  pub many : length entries ≡ count
  pub places : AreStarts entries starts

pub none_read : (bytes starts : List ℕ) → starts ≡ [] → IsRead bytes bytes 0 starts
none_read bytes starts none = record { entries = []; fits = tt; spelled = refl; many = refl; places = subst (AreStarts []) (sym none) starts_none }

pub read_long : (bytes rest : List ℕ) (count : ℕ) (starts : List ℕ) → (is : IsRead bytes rest count starts) → length bytes ≡ length (entries_text is.entries) + length rest
read_long bytes rest count starts is = ap (λ (xs : List ℕ). length xs) is.spelled ∙ length-append (entries_text is.entries) rest

-- there are no more entries than bytes
pub read_few : (bytes rest : List ℕ) (count : ℕ) (starts : List ℕ) → IsRead bytes rest count starts → count + length rest ≤ length bytes
read_few bytes rest count starts is = omega (arith, is.many, text_some is.entries, read_long bytes rest count starts is)

pub one_read : (bytes rest after : List ℕ) (count offset : ℕ) (starts more : List ℕ) → offset ≡ length bytes - length rest → more ≡ cond (eqb (count % 4) 0) (starts ++ offset ∷ []) starts → IsRead bytes rest count starts → Begins rest after → IsRead bytes after (count + 1) more
one_read bytes rest after count offset starts more at is_more is b =
    let es = is.entries in
    let e = b.entry in
    let here : length (entries_text es) ≡ offset = omega (arith, at, read_long bytes rest count starts is) in
    let grown : cond (eqb (length es % 4) 0) (starts ++ length (entries_text es) ∷ []) starts ≡ more =
    ap (λ (n : ℕ). cond (eqb (n % 4) 0) (starts ++ length (entries_text es) ∷ []) starts) is.many
    ∙ ap (λ (n : ℕ). cond (eqb (count % 4) 0) (starts ++ n ∷ []) starts) here ∙ sym is_more in
    record {
      entries = es ++ e ∷ [];
      fits = All-append Fits es (e ∷ []) is.fits (b.fits, tt);
      spelled = is.spelled ∙ ap (λ (xs : List ℕ). entries_text es ++ xs) b.spelled ∙ sym (append_assoc (entries_text es) (entry_text e) after) ∙ ap (λ (xs : List ℕ). xs ++ after) (sym (text_pushed es e));
      many = length_push es e ∙ ap (λ (n : ℕ). n + 1) is.many;
      places = subst (AreStarts (es ++ e ∷ [])) grown (starts_pushed es e starts is.places (eqb (length es % 4) 0) refl);
    }

pub shorter : (rest after : List ℕ) → Begins rest after → length after < length rest
shorter rest after b = omega (arith, ap (λ (xs : List ℕ). length xs) b.spelled, length-append (entry_text b.entry) after, entry_some b.entry)

pub fault_there : (bytes rest : List ℕ) (count offset : ℕ) (starts : List ℕ) → offset ≡ length bytes - length rest → 0 < length rest → IsRead bytes rest count starts → ((after : List ℕ) → Begins rest after → ⊥) → IsFaultAt bytes offset
fault_there bytes rest count offset starts at some is none =
    let here : length (entries_text is.entries) ≡ offset = omega (arith, at, read_long bytes rest count starts is) in
    let left : drop offset bytes ≡ rest = ap (drop offset) is.spelled ∙ drop_at (entries_text is.entries) rest offset here in
    record {
      before = is.entries;
      fits = is.fits;
      spelled = is.spelled ∙ ap (λ (xs : List ℕ). entries_text is.entries ++ xs) (sym left);
      place = here;
      there = omega (arith, here, some, read_long bytes rest count starts is);
      none = λ after. subst (λ (xs : List ℕ). Begins xs after → ⊥) (sym left) (none after);
    }

module _ (bytes rest : List ℕ) (count : ℕ) (starts : List ℕ) (is : IsRead bytes rest count starts) (end : length rest ≡ 0) where
  whole : bytes ≡ entries_text is.entries
  whole = is.spelled ∙ ap (λ (xs : List ℕ). entries_text is.entries ++ xs) (nil_from_length rest end) ∙ append-nil (entries_text is.entries)

  pub all_spelled : AreSpelled count bytes
  all_spelled = are_spelled is.entries is.fits count (sym is.many) bytes whole

  pub all_starts : AreStarts (entries_from count bytes) starts
  all_starts = subst (λ (es : List Entry). AreStarts es starts) (sym (spelled_by is.entries is.fits count (sym is.many) bytes whole)) is.places
