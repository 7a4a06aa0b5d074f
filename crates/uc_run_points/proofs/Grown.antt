-- Points after one was appended, and after some were removed.
use Rattle.std.proofs.Common.{◌≡◌, ℕ, ◌+◌, ◌-◌, ◌*◌, ◌/◌, ◌%◌, ◌<◌, ◌≤◌, Bool, true, false, cond, eqb, ltb, List, [], ◌∷◌, ◌++◌, length, get_or, take, drop, refl, sym, ap, ◌∙◌, append_assoc, length-append, arith, subst}
use mathlib.Core.List.{IsPrefix}
use Rattle.std.specs.List.{AllByRecursion}
use Rattle.std.proofs.ByRecursion.{All-append, All-take, All-drop}
use Rattle.std.specs.Int.{w64, to_le_bytes}
use Rattle.std.proofs.lemmas.List.Elements.{All-from_recursion}
use Rattle.uc_run_entry.specs.declared.entry.What.TheVariants.{Delete}
use Rattle.std.proofs.lemmas.Bool.Decides.{nat_tests}
use Rattle.std.proofs.lemmas.List.{take_at, drop_at, append-nil, take-append-le, take-append-drop, take_more, drop_more, length_push, get_or_push, get_or_append_left, get_or-take, take-take, drop_all, length-drop, length-take-le}
use Rattle.uc_run_entry.specs.declared.entry.Entry.{Entry}
use Rattle.uc_run_points.specs.Spelling.{text_of, trailer_of, entry_text, entries_text, entries_from, Fits, AreSpelled, entry_from}
use Rattle.uc_run_points.specs.Numbers.{number_text, width_of}
use Rattle.uc_run_points.specs.Starts.{AreStarts}
use Rattle.uc_run_points.proofs.EntriesAgain.{entry_again, length-entries_from, spelled_by, are_spelled}

pub entries_text-append : (es fs : List Entry) → entries_text (es ++ fs) ≡ entries_text es ++ entries_text fs
entries_text-append [] fs = refl
entries_text-append (e ∷ es) fs = ap (λ (xs : List ℕ). entry_text e ++ xs) (entries_text-append es fs) ∙ sym (append_assoc (entry_text e) (entries_text es) (entries_text fs))

pub text_pushed : (es : List Entry) (e : Entry) → entries_text (es ++ e ∷ []) ≡ entries_text es ++ entry_text e
text_pushed es e = entries_text-append es (e ∷ []) ∙ ap (λ (xs : List ℕ). entries_text es ++ xs) (append-nil (entry_text e))

-- the encoding of entries, cut between two entries
pub text_cut : (n : ℕ) (es : List Entry) → entries_text es ≡ entries_text (take n es) ++ entries_text (drop n es)
text_cut n es = ap entries_text (sym (take-append-drop n es)) ∙ entries_text-append (take n es) (drop n es)

take_text : (n : ℕ) (es : List Entry) → take (length (entries_text (take n es))) (entries_text es) ≡ entries_text (take n es)
take_text n es =
    ap (take (length (entries_text (take n es)))) (text_cut n es) ∙ take_at (entries_text (take n es)) (entries_text (drop n es)) (length (entries_text (take n es))) refl

-- ---- one more entry

module _ (count : ℕ) (bytes : List ℕ) (spelled : AreSpelled count bytes) (e : Entry) (fits : Fits e) where
  abbrev es : List Entry
  es = entries_from count bytes

  many : count + 1 ≡ length (es ++ e ∷ [])
  many = let l : length (es ++ e ∷ []) ≡ length es + 1 = length_push es e in let c : length es ≡ count = length-entries_from count bytes in omega (arith, l, c)

  text : bytes ++ entry_text e ≡ entries_text (es ++ e ∷ [])
  text = ap (λ (xs : List ℕ). xs ++ entry_text e) spelled.spelled ∙ sym (text_pushed es e)

  all_fit : AllByRecursion Fits (es ++ e ∷ [])
  all_fit = All-append Fits es (e ∷ []) spelled.fits (fits, tt)

  pub entries_pushed : entries_from (count + 1) (bytes ++ entry_text e) ≡ es ++ e ∷ []
  entries_pushed = spelled_by (es ++ e ∷ []) all_fit (count + 1) many (bytes ++ entry_text e) text

  pub spelled_pushed : AreSpelled (count + 1) (bytes ++ entry_text e)
  spelled_pushed = are_spelled (es ++ e ∷ []) all_fit (count + 1) many (bytes ++ entry_text e) text

-- each entry takes at least one byte
pub number_some : (n : ℕ) → 0 < length (number_text n)
unfolding number_text
number_some n = by (ltb n 248)
  where
    by : (b : Bool) → 0 < length (cond b (n ∷ []) ((247 + width_of n) ∷ take (width_of n) (to_le_bytes w64 n)))
    by true = omega arith
    by false = omega arith

pub entry_some : (e : Entry) → 0 < length (entry_text e)
unfolding entry_text
entry_some e =
    let k = number_text (length e.key) in
    let t = number_text (length (text_of e.what)) in
    let s = number_text (trailer_of e) in
    let a = length-append (k ++ t ++ s ++ e.key) (text_of e.what) in
    let b = length-append (k ++ t ++ s) e.key in
    let c = length-append (k ++ t) s in
    let d = length-append k t in
    omega (arith, number_some (length e.key), a, b, c, d)

pub text_some : (es : List Entry) → length es ≤ length (entries_text es)
text_some [] = omega arith
text_some (e ∷ es) =
    let more = text_some es in
    let l = length-append (entry_text e) (entries_text es) in
    omega (arith, more, entry_some e, l)

pub count_small : (count : ℕ) (bytes : List ℕ) → AreSpelled count bytes → count ≤ length bytes
count_small count bytes spelled =
    let some = text_some (entries_from count bytes) in
    let same : length bytes ≡ length (entries_text (entries_from count bytes)) = ap (λ (xs : List ℕ). length xs) spelled.spelled in
    omega (arith, some, same, length-entries_from count bytes)

-- ---- the starts of quarters

module _ (es : List Entry) (e : Entry) where
  abbrev offset : ℕ
  offset = length (entries_text es)

  same_offset : (quarter : ℕ) → 4 * quarter ≤ length es → length (entries_text (take (4 * quarter) es)) ≡ length (entries_text (take (4 * quarter) (es ++ e ∷ [])))
  same_offset quarter l = ap (λ (xs : List Entry). length (entries_text xs)) (sym (take-append-le (4 * quarter) es (e ∷ []) l))

  pub starts_pushed : (starts : List ℕ) → AreStarts es starts → (b : Bool) → eqb (length es % 4) 0 ≡ b → AreStarts (es ++ e ∷ []) (cond b (starts ++ offset ∷ []) starts)
  starts_pushed starts are true t =
      let whole : length es % 4 ≡ 0 = grind (arith, nat_tests) in
      let more : length (es ++ e ∷ []) ≡ length es + 1 = length_push es e in
      let one : length (starts ++ offset ∷ []) ≡ length starts + 1 = length_push starts offset in
      let each : length starts ≡ (length es + 3) / 4 = are.each in
      record { each = omega (arith, each, more, one, whole); offsets = λ quarter l. by_last quarter l (ltb quarter (length starts)) refl }
    where
      by_last : (quarter : ℕ) → quarter < length (starts ++ offset ∷ []) → (c : Bool) → ltb quarter (length starts) ≡ c → get_or (starts ++ offset ∷ []) quarter 0 ≡ length (entries_text (take (4 * quarter) (es ++ e ∷ [])))
      by_last quarter l true u =
          let lt : quarter < length starts = grind (arith, nat_tests) in
          let each : length starts ≡ (length es + 3) / 4 = are.each in
          get_or_append_left starts (offset ∷ []) 0 quarter lt ∙ are.offsets quarter lt ∙ same_offset quarter (omega (arith, lt, each))
      by_last quarter l false u =
          let ge : length starts ≤ quarter = grind (arith, nat_tests) in
          let one : length (starts ++ offset ∷ []) ≡ length starts + 1 = length_push starts offset in
          let here : quarter ≡ length starts = omega (arith, ge, l, one) in
          let whole : length es % 4 ≡ 0 = grind (arith, nat_tests) in
          let each : length starts ≡ (length es + 3) / 4 = are.each in
          let all : 4 * quarter ≡ length es = omega (arith, here, whole, each) in
          get_or_push starts offset 0 quarter (sym here)
          ∙ ap (λ (xs : List Entry). length (entries_text xs)) (sym (take_at es (e ∷ []) (4 * quarter) (sym all)))
  starts_pushed starts are false t =
      let part : length es % 4 ≡ 0 → ⊥ = grind (arith, nat_tests) in
      let more : length (es ++ e ∷ []) ≡ length es + 1 = length_push es e in
      let each : length starts ≡ (length es + 3) / 4 = are.each in
      record {
        each = omega (arith, each, more, part);
        offsets = λ quarter l. are.offsets quarter l ∙ same_offset quarter (omega (arith, l, each));
      }

-- ---- from the first entry of a quarter on

module _ (count : ℕ) (bytes starts : List ℕ) (spelled : AreSpelled count bytes) (are : AreStarts (entries_from count bytes) starts) (quarter : ℕ) where
  abbrev entries : List Entry
  entries = entries_from count bytes

  long : length entries ≡ count
  long = length-entries_from count bytes

  pub none_there : length starts ≤ quarter → drop (4 * quarter) entries ≡ []
  none_there le = let each : length starts ≡ (length entries + 3) / 4 = are.each in drop_all (4 * quarter) entries (omega (arith, le, each))

  module _ (lt : quarter < length starts) where
    pub quarter_before : 4 * quarter < count
    quarter_before = let each : length starts ≡ (length entries + 3) / 4 = are.each in omega (arith, lt, each, long)

    at : get_or starts quarter 0 ≡ length (entries_text (take (4 * quarter) entries))
    at = are.offsets quarter lt

    cut : bytes ≡ entries_text (take (4 * quarter) entries) ++ entries_text (drop (4 * quarter) entries)
    cut = spelled.spelled ∙ text_cut (4 * quarter) entries

    pub start_within : get_or starts quarter 0 ≤ length bytes
    start_within =
        let l : length bytes ≡ length (entries_text (take (4 * quarter) entries)) + length (entries_text (drop (4 * quarter) entries)) = ap (λ (xs : List ℕ). length xs) cut ∙ length-append (entries_text (take (4 * quarter) entries)) (entries_text (drop (4 * quarter) entries)) in
        omega (arith, l, at)

    behind : drop (get_or starts quarter 0) bytes ≡ entries_text (drop (4 * quarter) entries)
    behind =
        ap (λ n. drop n bytes) at ∙ ap (drop (length (entries_text (take (4 * quarter) entries)))) cut
        ∙ drop_at (entries_text (take (4 * quarter) entries)) (entries_text (drop (4 * quarter) entries)) (length (entries_text (take (4 * quarter) entries))) refl

    pub quarter_there : entries_from (count - 4 * quarter) (drop (get_or starts quarter 0) bytes) ≡ drop (4 * quarter) entries
    quarter_there =
        let few : count - 4 * quarter ≡ length (drop (4 * quarter) entries) = let l = length-drop (4 * quarter) entries in omega (arith, l, long) in
        spelled_by (drop (4 * quarter) entries) (All-drop Fits (4 * quarter) entries spelled.fits) (count - 4 * quarter) few (drop (get_or starts quarter 0) bytes) behind

-- ---- fewer entries

module _ (count : ℕ) (bytes : List ℕ) (spelled : AreSpelled count bytes) (n : ℕ) (le : n ≤ count) where
  abbrev whole : List Entry
  whole = entries_from count bytes

  fewer : n ≡ length (take n whole)
  fewer = let l : length (take n whole) ≡ n = length-take-le n whole (let c = length-entries_from count bytes in omega (arith, le, c)) in sym l

  front : take (length (entries_text (take n whole))) bytes ≡ entries_text (take n whole)
  front = ap (take (length (entries_text (take n whole)))) spelled.spelled ∙ take_text n whole

  pub entries_cut : entries_from n (take (length (entries_text (take n whole))) bytes) ≡ take n whole
  entries_cut = spelled_by (take n whole) (All-take Fits n whole spelled.fits) n fewer (take (length (entries_text (take n whole))) bytes) front

  pub spelled_cut : AreSpelled n (take (length (entries_text (take n whole))) bytes)
  spelled_cut = are_spelled (take n whole) (All-take Fits n whole spelled.fits) n fewer (take (length (entries_text (take n whole))) bytes) front

pub starts_cut : (es : List Entry) (starts : List ℕ) → AreStarts es starts → (n : ℕ) → n ≤ length es → AreStarts (take n es) (take ((n + 3) / 4) starts)
starts_cut es starts are n le =
    let each : length starts ≡ (length es + 3) / 4 = are.each in
    let few : length (take n es) ≡ n = length-take-le n es le in
    let kept : length (take ((n + 3) / 4) starts) ≡ (n + 3) / 4 = length-take-le ((n + 3) / 4) starts (omega (arith, each, le)) in
    record {
      each = omega (arith, few, kept);
      offsets = λ quarter l.
          let lt : quarter < (n + 3) / 4 = omega (arith, l, kept) in
          get_or-take ((n + 3) / 4) starts quarter 0 lt ∙ are.offsets quarter (omega (arith, lt, each, le))
          ∙ ap (λ (xs : List Entry). length (entries_text xs)) (sym (take-take (4 * quarter) n es (omega (arith, lt))));
    }

pub starts_none : AreStarts [] []
starts_none = record { each = let e : 0 ≡ (0 + 3) / 4 = omega arith in e; offsets = λ quarter l. absurd (omega (arith, l)) }

pub count_grows : (count : ℕ) (bytes : List ℕ) → AreSpelled count bytes → (e : Entry) (grown : List ℕ) → grown ≡ bytes ++ entry_text e → count + 1 ≤ length grown
count_grows count bytes spelled e grown is =
    let l : length grown ≡ length bytes + length (entry_text e) = ap (λ (xs : List ℕ). length xs) is ∙ length-append bytes (entry_text e) in
    omega (arith, l, count_small count bytes spelled, entry_some e)

-- ---- the starts of many entries

-- the offset of an entry, if other entries come first
module _ (count : ℕ) (bytes : List ℕ) (spelled : AreSpelled count bytes) (k : ℕ) (lt : k < count) (rest : List ℕ) (is : rest ≡ entries_text (drop k (entries_from count bytes))) where
  abbrev fs : List Entry
  fs = entries_from count bytes

  abbrev any : Entry
  any = record { key = []; seq = 0; what = Delete }

  abbrev next : Entry
  next = get_or fs k any

  inside : k < length fs
  inside = let l = length-entries_from count bytes in omega (arith, lt, l)

  first : drop k fs ≡ next ∷ drop (k + 1) fs
  first = drop_more fs k any inside

  cut_there : length bytes ≡ length (entries_text (take k fs)) + length rest
  cut_there =
      ap (λ (xs : List ℕ). length xs) (spelled.spelled ∙ text_cut k fs) ∙ length-append (entries_text (take k fs)) (entries_text (drop k fs))
      ∙ ap (λ (xs : List ℕ). length (entries_text (take k fs)) + length xs) (sym is)

  pub rest_within : length rest ≤ length bytes
  rest_within = let l = cut_there in omega (arith, l)

  pub rest_after : (entry_from rest).1 ≡ entries_text (drop (k + 1) fs)
  rest_after =
      ap (λ (xs : List ℕ). (entry_from xs).1) (is ∙ ap entries_text first)
      ∙ ap (λ (q : Entry × List ℕ). q.1) (entry_again next (entries_text (drop (k + 1) fs)) (All-from_recursion Fits fs spelled.fits k any inside))

  pub starts_more : (before : List Entry) (starts more : List ℕ) (place size here : ℕ) → length before ≡ place → length (entries_text before) ≡ size → here ≡ size + (length bytes - length rest) → AreStarts (before ++ take k fs) starts →
      more ≡ cond (eqb ((place + k) % 4) 0) (starts ++ here ∷ []) starts → AreStarts (before ++ take (k + 1) fs) more
  starts_more before starts more place size here many long_text at_here are is_more =
      let so_far = before ++ take k fs in
      let long : length so_far ≡ place + k = let a = length-append before (take k fs) in let t = length-take-le k fs (omega (arith, inside)) in omega (arith, a, t, many) in
      let to_here : length (entries_text so_far) ≡ here =
      let e = ap (λ (xs : List ℕ). length xs) (entries_text-append before (take k fs)) ∙ length-append (entries_text before) (entries_text (take k fs)) in
      omega (arith, e, long_text, at_here, cut_there) in
      let one : so_far ++ next ∷ [] ≡ before ++ take (k + 1) fs = append_assoc before (take k fs) (next ∷ []) ∙ ap (λ (xs : List Entry). before ++ xs) (sym (take_more fs k any inside)) in
      let grown : cond (eqb (length so_far % 4) 0) (starts ++ length (entries_text so_far) ∷ []) starts ≡ more =
      ap (λ n. cond (eqb (n % 4) 0) (starts ++ length (entries_text so_far) ∷ []) starts) long
      ∙ ap (λ n. cond (eqb ((place + k) % 4) 0) (starts ++ n ∷ []) starts) to_here ∙ sym is_more in
      subst (λ (xs : List Entry). AreStarts xs more) one (subst (AreStarts (so_far ++ next ∷ [])) grown (starts_pushed so_far next starts are (eqb (length so_far % 4) 0) refl))

-- appending keeps a prefix
pub begins_with : (b : Bool) (xs ys ws zs : List ℕ) → IsPrefix xs ys → zs ≡ cond b (ys ++ ws) ys → IsPrefix xs zs
begins_with true xs ys ws zs h e = (h.0 ++ ws, sym (append_assoc xs h.0 ws) ∙ ap (λ (us : List ℕ). us ++ ws) h.1 ∙ sym e)
begins_with false xs ys ws zs h e = (h.0, h.1 ∙ sym e)

-- ---- one list of entries after another

module _ (n m : ℕ) (bytes others : List ℕ) (spelled : AreSpelled n bytes) (more : AreSpelled m others) where
  both_fit : AllByRecursion Fits (entries_from n bytes ++ entries_from m others)
  both_fit = All-append Fits (entries_from n bytes) (entries_from m others) spelled.fits more.fits

  both_long : n + m ≡ length (entries_from n bytes ++ entries_from m others)
  both_long =
      let l = length-append (entries_from n bytes) (entries_from m others) in
      omega (arith, l, length-entries_from n bytes, length-entries_from m others)

  both_text : bytes ++ others ≡ entries_text (entries_from n bytes ++ entries_from m others)
  both_text =
      ap (λ (xs : List ℕ). xs ++ others) spelled.spelled ∙ ap (λ (xs : List ℕ). entries_text (entries_from n bytes) ++ xs) more.spelled
      ∙ sym (entries_text-append (entries_from n bytes) (entries_from m others))

  pub entries_joined : entries_from (n + m) (bytes ++ others) ≡ entries_from n bytes ++ entries_from m others
  entries_joined = spelled_by (entries_from n bytes ++ entries_from m others) both_fit (n + m) both_long (bytes ++ others) both_text

  pub spelled_joined : AreSpelled (n + m) (bytes ++ others)
  spelled_joined = are_spelled (entries_from n bytes ++ entries_from m others) both_fit (n + m) both_long (bytes ++ others) both_text
