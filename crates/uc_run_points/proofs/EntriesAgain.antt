-- Decoding an encoded entry returns it.
use Rattle.std.proofs.Common.{◌≡◌, ℕ, zero, suc, ◌+◌, ◌*◌, ◌/◌, ◌%◌, ◌^◌, ◌<◌, List, [], ◌∷◌, ◌++◌, length, take, drop, refl, sym, ap, ◌∙◌, subst, append_assoc, arith}
use Rattle.std.specs.List.{AllByRecursion}
use Rattle.std.proofs.lemmas.List.{take_at, drop_at, append-nil}
use Rattle.uc_run_entry.specs.declared.entry.Entry.{Entry}
use Rattle.uc_run_entry.specs.declared.entry.What.{What}
use Rattle.uc_run_entry.specs.declared.entry.What.TheVariants.{Put, Delete, Merge}
use Rattle.uc_run_entry.specs.Packed.{tagged}
use Rattle.uc_run_points.specs.Numbers.{number_text, number_from}
use Rattle.uc_run_points.specs.Spelling.{tag_of, text_of, trailer_of, entry_text, entries_text, entry_of, entry_from, entries_from, Fits, AreSpelled}
use Rattle.uc_run_points.proofs.NumbersAgain.{number_again}

said_again : (w : What) → tagged (tag_of w) (text_of w) ≡ w
said_again (Put value) = refl
said_again Delete = refl
said_again (Merge operand) = refl

tag_small : (w : What) → tag_of w < 4
tag_small (Put value) = omega arith
tag_small Delete = omega arith
tag_small (Merge operand) = omega arith

unpacked_again : (e : Entry) → entry_of (trailer_of e) e.key (text_of e.what) ≡ e
unpacked_again e =
    let small : tag_of e.what < 4 = tag_small e.what in
    let seq : (4 * e.seq + tag_of e.what) / 4 ≡ e.seq = omega (arith, small) in
    let tag : (4 * e.seq + tag_of e.what) % 4 ≡ tag_of e.what = omega (arith, small) in
    λ i. record { key = e.key; seq = seq i; what = (ap (λ t. tagged t (text_of e.what)) tag ∙ said_again e.what) i }

pub trailer_fits : (e : Entry) → e.seq < 2 ^ 62 → trailer_of e < 2 ^ 64
trailer_fits e l = let small : tag_of e.what < 4 = tag_small e.what in omega (arith, small, l)

-- the entry at the front, computed from its three numbers
by_numbers : (bytes b c d : List ℕ) (k t s : ℕ) → number_from bytes ≡ (k, b) → number_from b ≡ (t, c) → number_from c ≡ (s, d) →
    entry_from bytes ≡ (entry_of s (take k d) (take t (drop k d)), drop t (drop k d))
unfolding entry_from
by_numbers bytes b c d k t s e f g =
    ap (λ (q : ℕ × List ℕ). let r = number_from q.1 in let u = number_from r.1 in (entry_of u.0 (take q.0 u.1) (take r.0 (drop q.0 u.1)), drop r.0 (drop q.0 u.1))) e
    ∙ ap (λ (r : ℕ × List ℕ). let u = number_from r.1 in (entry_of u.0 (take k u.1) (take r.0 (drop k u.1)), drop r.0 (drop k u.1))) f
    ∙ ap (λ (u : ℕ × List ℕ). (entry_of u.0 (take k u.1) (take t (drop k u.1)), drop t (drop k u.1))) g

pub regrouped : (a b c d e rest : List ℕ) → (a ++ b ++ c ++ d ++ e) ++ rest ≡ a ++ (b ++ (c ++ (d ++ (e ++ rest))))
regrouped a b c d e rest =
    append_assoc (a ++ b ++ c ++ d) e rest ∙ append_assoc (a ++ b ++ c) d (e ++ rest) ∙ append_assoc (a ++ b) c (d ++ (e ++ rest)) ∙ append_assoc a b (c ++ (d ++ (e ++ rest)))

pub entry_again : (e : Entry) (rest : List ℕ) → Fits e → entry_from (entry_text e ++ rest) ≡ (e, rest)
unfolding entry_text
entry_again e rest fits =
    let text = text_of e.what in
    let k = length e.key in
    let t = length text in
    let s = trailer_of e in
    let d = e.key ++ (text ++ rest) in
    let c = number_text s ++ d in
    let b = number_text t ++ c in
    let front : take k d ≡ e.key = take_at e.key (text ++ rest) k refl in
    let behind : drop k d ≡ text ++ rest = drop_at e.key (text ++ rest) k refl in
    ap entry_from (regrouped (number_text k) (number_text t) (number_text s) e.key text rest)
    ∙ by_numbers (number_text k ++ b) b c d k t s (number_again k b fits.key) (number_again t c fits.text) (number_again s d (trailer_fits e fits.seq))
    ∙ ap (λ (x : List ℕ). (entry_of s x (take t (drop k d)), drop t (drop k d))) front
    ∙ ap (λ (x : List ℕ). (entry_of s e.key (take t x), drop t x)) behind
    ∙ ap (λ (x : List ℕ). (entry_of s e.key x, drop t (text ++ rest))) (take_at text rest t refl)
    ∙ ap (λ (x : List ℕ). (entry_of s e.key text, x)) (drop_at text rest t refl)
    ∙ ap (λ (x : Entry). (x, rest)) (unpacked_again e)

pub entries_again : (es : List Entry) (rest : List ℕ) → AllByRecursion Fits es → entries_from (length es) (entries_text es ++ rest) ≡ es
unfolding entries_from
entries_again [] rest fits = refl
entries_again (e ∷ es) rest fits =
    let again : entry_from ((entry_text e ++ entries_text es) ++ rest) ≡ (e, entries_text es ++ rest) = ap entry_from (append_assoc (entry_text e) (entries_text es) rest) ∙ entry_again e (entries_text es ++ rest) fits.0 in
    ap (λ (q : Entry × List ℕ). q.0 ∷ entries_from (length es) q.1) again ∙ ap (λ (xs : List Entry). e ∷ xs) (entries_again es rest fits.1)

pub length-entries_from : (count : ℕ) (bytes : List ℕ) → length (entries_from count bytes) ≡ count
unfolding entries_from
length-entries_from zero bytes = refl
length-entries_from (suc count) bytes = ap suc (length-entries_from count (entry_from bytes).1)

-- decoding the encoding of entries returns the entries
pub spelled_by : (es : List Entry) → AllByRecursion Fits es → (count : ℕ) → count ≡ length es → (bytes : List ℕ) → bytes ≡ entries_text es → entries_from count bytes ≡ es
spelled_by es fits count many bytes e =
    ap (λ n. entries_from n bytes) many ∙ ap (entries_from (length es)) (e ∙ sym (append-nil (entries_text es))) ∙ entries_again es [] fits

pub are_spelled : (es : List Entry) → AllByRecursion Fits es → (count : ℕ) → count ≡ length es → (bytes : List ℕ) → bytes ≡ entries_text es → AreSpelled count bytes
are_spelled es fits count many bytes e =
    let same = spelled_by es fits count many bytes e in
    record { spelled = e ∙ ap entries_text (sym same); fits = subst (AllByRecursion Fits) (sym same) fits }
