-- Fragments that bytes spell.
use Rattle.std.proofs.Common.{◌≡◌, ℕ, zero, suc, ◌+◌, ◌-◌, ◌*◌, ◌^◌, ◌<◌, ◌≤◌, List, [], ◌∷◌, ◌++◌, length, get_or, take, drop, refl, sym, ap, subst, ◌∙◌, append_assoc, length-append, arith}
use Rattle.std.specs.List.{AllByRecursion}
use Rattle.std.proofs.ByRecursion.{All-append}
use Rattle.std.proofs.lemmas.List.{append-nil, drop_at, flat_map_more, map_push, nil_from_length, take_more}
use Rattle.uc_run_entry.specs.Fragment.{Fragment}
use Rattle.uc_run_points.specs.Numbers.{number_text}
use Rattle.uc_run_points.proofs.Unique.{numbers_apart}
use Rattle.uc_run_file.specs.Spelling.{string_text, numbers_text, fragment_text, fragments_text, Fits}
use Rattle.uc_run_file.specs.Faults.{Begins, IsHead, IsPushed, AreRead, IsFaultAt, ends_of, lists_of}
use Rattle.uc_run_file.proofs.StringText.{strings_apart, string_some}
use Rattle.uc_run_file.proofs.NumbersText.{numbers_alike}

regrouped : (a b c d rest : List ℕ) → (a ++ (b ++ (c ++ d))) ++ rest ≡ a ++ (b ++ (c ++ (d ++ rest)))
regrouped a b c d rest =
    append_assoc a (b ++ (c ++ d)) rest ∙ ap (λ (xs : List ℕ). a ++ xs) (append_assoc b (c ++ d) rest ∙ ap (λ (xs : List ℕ). b ++ xs) (append_assoc c d rest))

pub in_parts : (f : Fragment) (bytes rest : List ℕ) → bytes ≡ fragment_text f ++ rest → bytes ≡ string_text f.begin ++ (string_text f.end ++ (number_text (length f.seqs) ++ (numbers_text f.seqs ++ rest)))
unfolding fragment_text
in_parts f bytes rest e = e ∙ regrouped (string_text f.begin) (string_text f.end) (number_text (length f.seqs)) (numbers_text f.seqs) rest

pub from_parts : (f : Fragment) (bytes rest : List ℕ) → bytes ≡ string_text f.begin ++ (string_text f.end ++ (number_text (length f.seqs) ++ (numbers_text f.seqs ++ rest))) → bytes ≡ fragment_text f ++ rest
unfolding fragment_text
from_parts f bytes rest e = e ∙ sym (regrouped (string_text f.begin) (string_text f.end) (number_text (length f.seqs)) (numbers_text f.seqs) rest)

pub fragments_apart : (f g : Fragment) (xs ys : List ℕ) → Fits f → Fits g → fragment_text f ++ xs ≡ fragment_text g ++ ys → (f ≡ g) × (xs ≡ ys)
fragments_apart f g xs ys fits also e =
    let parts = sym (in_parts f (fragment_text f ++ xs) xs refl) ∙ e ∙ in_parts g (fragment_text g ++ ys) ys refl in
    let begins = strings_apart f.begin g.begin _ _ fits.begin also.begin parts in
    let ends = strings_apart f.end g.end _ _ fits.end also.end begins.1 in
    let counts = numbers_apart (length f.seqs) (length g.seqs) _ _ fits.count also.count ends.1 in
    let seqs = numbers_alike f.seqs g.seqs xs ys fits.seqs also.seqs counts.0 counts.1 in
    (λ i. record { begin = begins.0 i; end = ends.0 i; seqs = seqs.0 i }, seqs.1)

pub fragment_some : (f : Fragment) → 0 < length (fragment_text f)
unfolding fragment_text
fragment_some f = omega (arith, string_some f.begin, length-append (string_text f.begin) (string_text f.end ++ (number_text (length f.seqs) ++ numbers_text f.seqs)))

some_bytes : (f : Fragment) (xs : List ℕ) → [] ≡ fragment_text f ++ xs → ⊥
some_bytes f xs e =
    let l : 0 ≡ length (fragment_text f ++ xs) = ap (λ (bs : List ℕ). length bs) e in
    absurd (omega (arith, l, length-append (fragment_text f) xs, fragment_some f))

pub shorter : (bytes rest : List ℕ) (f : Fragment) → Begins bytes f rest → length rest < length bytes
shorter bytes rest f b = omega (arith, ap (λ (xs : List ℕ). length xs) b.spelled, length-append (fragment_text f) rest, fragment_some f)

pub fragments_alike : (fs gs : List Fragment) → AllByRecursion Fits fs → AllByRecursion Fits gs → fragments_text fs ≡ fragments_text gs → fs ≡ gs
fragments_alike [] [] fits also e = refl
fragments_alike [] (g ∷ gs) fits also e = absurd (some_bytes g (fragments_text gs) e)
fragments_alike (f ∷ fs) [] fits also e = absurd (some_bytes f (fragments_text fs) (sym e))
fragments_alike (f ∷ fs) (g ∷ gs) fits also e =
    let two = fragments_apart f g (fragments_text fs) (fragments_text gs) fits.0 also.0 e in
    let rest : fs ≡ gs = fragments_alike fs gs fits.1 also.1 two.1 in
    ap (λ (x : Fragment). x ∷ fs) two.0 ∙ ap (λ (xs : List Fragment). g ∷ xs) rest

none_so : (before fs : List Fragment) (rest : List ℕ) → AllByRecursion Fits before → AllByRecursion Fits fs → (rest ≡ [] → ⊥) → ((f : Fragment) (after : List ℕ) → Begins rest f after → ⊥) → fragments_text before ++ rest ≡ fragments_text fs → ⊥
none_so [] [] rest fits also some none e = some e
none_so [] (f ∷ fs) rest fits also some none e = none f (fragments_text fs) (record { fits = also.0; spelled = e })
none_so (b ∷ bs) [] rest fits also some none e = some_bytes b (fragments_text bs ++ rest) (sym e ∙ append_assoc (fragment_text b) (fragments_text bs) rest)
none_so (b ∷ bs) (f ∷ fs) rest fits also some none e =
    let two = fragments_apart b f (fragments_text bs ++ rest) (fragments_text fs) fits.0 also.0 (sym (append_assoc (fragment_text b) (fragments_text bs) rest) ∙ e) in
    none_so bs fs rest fits.1 also.1 some none two.1

no_rest : (bytes : List ℕ) (offset : ℕ) → offset < length bytes → drop offset bytes ≡ [] → ⊥
no_rest [] offset lt e = absurd (omega (arith, lt))
no_rest (b ∷ bs) zero lt e = absurd cc
no_rest (b ∷ bs) (suc n) lt e = no_rest bs n (omega (arith, lt)) e

pub no_spelling : (bytes : List ℕ) (offset : ℕ) (fs : List Fragment) → IsFaultAt bytes offset → AllByRecursion Fits fs → bytes ≡ fragments_text fs → ⊥
no_spelling bytes offset fs at also e =
    none_so at.before fs (drop offset bytes) at.fits also (no_rest bytes offset at.there) at.none (sym at.spelled ∙ e)

-- ---- the loop

pub none_read : (bytes : List ℕ) (ends lists : List (List ℕ)) → ends ≡ [] → lists ≡ [] → AreRead bytes bytes ends lists
none_read bytes ends lists e f = record { fragments = []; fits = tt; spelled = refl; ends_are = e; lists_are = f }

pub one_read : (bytes rest after : List ℕ) (ends more lists others : List (List ℕ)) → AreRead bytes rest ends lists → IsPushed rest after ends more lists others → AreRead bytes after more others
one_read bytes rest after ends more lists others is p =
    let fs = is.fragments in
    let f = p.fragment in
    record {
      fragments = fs ++ f ∷ [];
      fits = All-append Fits fs (f ∷ []) is.fits (p.begins.fits, tt);
      spelled = is.spelled ∙ ap (λ (xs : List ℕ). fragments_text fs ++ xs) p.begins.spelled ∙ sym (append_assoc (fragments_text fs) (fragment_text f) after) ∙ ap (λ (xs : List ℕ). xs ++ after) (flat_map_more fragment_text [] fs f);
      ends_are = p.ends_pushed ∙ ap (λ (xs : List (List ℕ)). xs ++ f.begin ∷ f.end ∷ []) is.ends_are ∙ flat_map_more (λ (g : Fragment). g.begin ∷ g.end ∷ []) [] fs f;
      lists_are = p.seqs_pushed ∙ ap (λ (xs : List (List ℕ)). xs ++ f.seqs ∷ []) is.lists_are ∙ sym (map_push (λ (g : Fragment). g.seqs) fs f);
    }

pub rest_after : (bytes rest after : List ℕ) (ends more lists others : List (List ℕ)) → IsPushed rest after ends more lists others → length after < length rest
rest_after bytes rest after ends more lists others p = shorter rest after p.fragment p.begins

pub read_long : (bytes rest : List ℕ) (ends lists : List (List ℕ)) → (is : AreRead bytes rest ends lists) → length bytes ≡ length (fragments_text is.fragments) + length rest
read_long bytes rest ends lists is = ap (λ (xs : List ℕ). length xs) is.spelled ∙ length-append (fragments_text is.fragments) rest

pub rest_within : (bytes rest : List ℕ) (ends lists : List (List ℕ)) → AreRead bytes rest ends lists → length rest ≤ length bytes
rest_within bytes rest ends lists is = omega (arith, read_long bytes rest ends lists is)

pub fault_there : (bytes rest : List ℕ) (ends lists : List (List ℕ)) → 0 < length rest → AreRead bytes rest ends lists → ((f : Fragment) (after : List ℕ) → Begins rest f after → ⊥) → IsFaultAt bytes (length bytes - length rest)
fault_there bytes rest ends lists some is none =
    let offset : ℕ = length bytes - length rest in
    let here : length (fragments_text is.fragments) ≡ offset = omega (arith, read_long bytes rest ends lists is) in
    let left : drop offset bytes ≡ rest = ap (drop offset) is.spelled ∙ drop_at (fragments_text is.fragments) rest offset here in
    record {
      before = is.fragments;
      fits = is.fits;
      spelled = is.spelled ∙ ap (λ (xs : List ℕ). fragments_text is.fragments ++ xs) (sym left);
      place = here;
      there = omega (arith, here, some, read_long bytes rest ends lists is);
      none = λ f after. subst (λ (xs : List ℕ). Begins xs f after → ⊥) (sym left) (none f after);
    }

pub all_read : (bytes rest : List ℕ) (ends lists : List (List ℕ)) → length rest ≡ 0 → AreRead bytes rest ends lists → AreRead bytes [] ends lists
all_read bytes rest ends lists none is = subst (λ (xs : List ℕ). AreRead bytes xs ends lists) (nil_from_length rest none) is

pub whole : (bytes : List ℕ) (ends lists : List (List ℕ)) → (is : AreRead bytes [] ends lists) → bytes ≡ fragments_text is.fragments
whole bytes ends lists is = is.spelled ∙ append-nil (fragments_text is.fragments)

-- ---- one fragment

abbrev pub made_of : List ℕ → List ℕ → List ℕ → Fragment
made_of begin end seqs = record { begin = begin; end = end; seqs = seqs }

pub begins_made : (bytes begin end after rest seqs : List ℕ) (count : ℕ) → IsHead bytes begin end count after → length seqs ≡ count → AllByRecursion (λ n. n < 2 ^ 64) seqs → after ≡ numbers_text seqs ++ rest → Begins bytes (made_of begin end seqs) rest
begins_made bytes begin end after rest seqs count h many below more =
    record {
      fits = record { begin = h.begin_fits; end = h.end_fits; count = omega (arith, many, h.count_fits); seqs = below };
      spelled = from_parts (made_of begin end seqs) bytes rest
          (h.spelled ∙ ap (λ (n : ℕ). string_text begin ++ (string_text end ++ (number_text n ++ after))) (sym many)
          ∙ ap (λ (xs : List ℕ). string_text begin ++ (string_text end ++ (number_text (length seqs) ++ xs))) more);
    }

-- a fragment that is spelled has the head that is read, and its sequences follow
pub after_head : (bytes begin end after : List ℕ) (count : ℕ) → IsHead bytes begin end count after → (f : Fragment) (rest : List ℕ) → Begins bytes f rest → (length f.seqs ≡ count) × (after ≡ numbers_text f.seqs ++ rest)
after_head bytes begin end after count h f rest b =
    let parts = sym h.spelled ∙ in_parts f bytes rest b.spelled in
    let begins = strings_apart begin f.begin _ _ h.begin_fits b.fits.begin parts in
    let ends = strings_apart end f.end _ _ h.end_fits b.fits.end begins.1 in
    let counts = numbers_apart count (length f.seqs) _ _ h.count_fits b.fits.count ends.1 in
    (sym counts.0, counts.1)

pub head_there : (bytes : List ℕ) (f : Fragment) (rest : List ℕ) → Begins bytes f rest → IsHead bytes f.begin f.end (length f.seqs) (numbers_text f.seqs ++ rest)
head_there bytes f rest b = record { spelled = in_parts f bytes rest b.spelled; begin_fits = b.fits.begin; end_fits = b.fits.end; count_fits = b.fits.count }

pub fragment_pushed : (bytes begin end after rest seqs : List ℕ) (ends one two lists others : List (List ℕ)) (count : ℕ) → IsHead bytes begin end count after → length seqs ≡ count → AllByRecursion (λ n. n < 2 ^ 64) seqs → after ≡ numbers_text seqs ++ rest
    → one ≡ ends ++ begin ∷ [] → two ≡ one ++ end ∷ [] → others ≡ lists ++ seqs ∷ [] → IsPushed bytes rest ends two lists others
fragment_pushed bytes begin end after rest seqs ends one two lists others count h many below more e f g =
    record {
      fragment = made_of begin end seqs;
      begins = begins_made bytes begin end after rest seqs count h many below more;
      ends_pushed = f ∙ ap (λ (xs : List (List ℕ)). xs ++ end ∷ []) e ∙ append_assoc ends (begin ∷ []) (end ∷ []);
      seqs_pushed = g;
    }

-- ---- fragments of their ends and sequences

pub many_ends : (fs : List Fragment) → length (ends_of fs) ≡ 2 * length fs
many_ends [] = refl
many_ends (f ∷ fs) = omega (arith, many_ends fs)

abbrev none : List ℕ
none = []

pub begin_there : (fs : List Fragment) (k : ℕ) (d : Fragment) → k < length fs → get_or (ends_of fs) (2 * k) none ≡ (get_or fs k d).begin
begin_there [] k d lt = absurd (omega (arith, lt))
begin_there (f ∷ fs) zero d lt = refl
begin_there (f ∷ fs) (suc k) d lt = let e : 2 * suc k ≡ suc (suc (2 * k)) = omega arith in ap (λ n. get_or (ends_of (f ∷ fs)) n none) e ∙ begin_there fs k d (omega (arith, lt))

pub end_there : (fs : List Fragment) (k : ℕ) (d : Fragment) → k < length fs → get_or (ends_of fs) (2 * k + 1) none ≡ (get_or fs k d).end
end_there [] k d lt = absurd (omega (arith, lt))
end_there (f ∷ fs) zero d lt = let e : 2 * 0 + 1 ≡ 1 = omega arith in ap (λ n. get_or (ends_of (f ∷ fs)) n none) e
end_there (f ∷ fs) (suc k) d lt = let e : 2 * suc k + 1 ≡ suc (suc (2 * k + 1)) = omega arith in ap (λ n. get_or (ends_of (f ∷ fs)) n none) e ∙ end_there fs k d (omega (arith, lt))

pub seqs_there : (fs : List Fragment) (k : ℕ) (d : Fragment) → k < length fs → get_or (lists_of fs) k none ≡ (get_or fs k d).seqs
seqs_there [] k d lt = absurd (omega (arith, lt))
seqs_there (f ∷ fs) zero d lt = refl
seqs_there (f ∷ fs) (suc k) d lt = seqs_there fs k d (omega (arith, lt))

-- one more is made
pub one_made : (fs made : List Fragment) (ends lists : List (List ℕ)) (k : ℕ) (f : Fragment) → k < length fs → ends ≡ ends_of fs → lists ≡ lists_of fs → made ≡ take k fs
    → f ≡ record { begin = get_or ends (2 * k) none; end = get_or ends (2 * k + 1) none; seqs = get_or lists k none } → made ++ f ∷ [] ≡ take (k + 1) fs
one_made fs made ends lists k f lt e g m is =
    let d : Fragment = get_or fs k f in
    let begin : get_or ends (2 * k) none ≡ d.begin = ap (λ (xs : List (List ℕ)). get_or xs (2 * k) none) e ∙ begin_there fs k f lt in
    let end : get_or ends (2 * k + 1) none ≡ d.end = ap (λ (xs : List (List ℕ)). get_or xs (2 * k + 1) none) e ∙ end_there fs k f lt in
    let seqs : get_or lists k none ≡ d.seqs = ap (λ (xs : List (List ℕ)). get_or xs k none) g ∙ seqs_there fs k f lt in
    let same : f ≡ d = is ∙ (λ i. record { begin = begin i; end = end i; seqs = seqs i }) in
    ap (λ (xs : List Fragment). xs ++ f ∷ []) m ∙ ap (λ (x : Fragment). take k fs ++ x ∷ []) same ∙ sym (take_more fs k f lt)
