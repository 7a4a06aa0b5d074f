-- Files that are read, and files that no run has.
use Rattle.std.proofs.Common.{◌≡◌, ℕ, ◌+◌, ◌-◌, ◌^◌, ◌<◌, ◌≤◌, List, [], ◌∷◌, ◌++◌, length, take, drop, refl, sym, ap, subst, ◌∙◌, append_assoc, length-append, arith}
use Rattle.std.specs.List.{AllByRecursion}
use Rattle.std.proofs.lemmas.List.{take_at, drop_at, length-take-le}
use Rattle.uc_run_entry.specs.declared.entry.Entry.{Entry}
use Rattle.uc_run_entry.specs.Fragment.{Fragment}
use Rattle.uc_run_entry.specs.Run.{Contents, IsRun, IsWithin, IsWhole}
use Rattle.uc_run_points.specs.Spelling as points
use Rattle.uc_run_points.specs.Spelling.{entry_text, entries_text, text_of, trailer_of}
use Rattle.uc_run_points.specs.Numbers.{number_text}
use Rattle.uc_run_points.specs.Faults as entries
use Rattle.uc_run_points.proofs.Grown.{number_some}
use Rattle.uc_run_points.proofs.Unique as unique
use Rattle.uc_run_file.specs.declared.footer.Footer.{Footer}
use Rattle.uc_run_file.specs.declared.run_fault.RunFileError.{RunFileError}
use Rattle.uc_run_file.specs.declared.run_fault.RunFileError.TheVariants.{Fault, Memory}
use Rattle.uc_run_file.specs.Spelling.{string_text, numbers_text, fragment_text, fragments_text, Fits}
use Rattle.uc_run_file.specs.Faults.{IsFaultAt}
use Rattle.uc_run_file.specs.Pieces.{table_of, IsDamagedAt}
use Rattle.uc_run_file.specs.Footers.{footer_text}
use Rattle.uc_run_file.specs.Files.{body_of, footer_of, tail_of, file_text, IsNoRun, IsRefusal, IsSplit, AreParts, AreRunOf, AreNoRun, IsRefusalOf}
use Rattle.uc_run_file.proofs.PieceSums.{no_damage}
use Rattle.uc_run_file.proofs.FragmentText.{fragments_alike, no_spelling}
use Rattle.uc_run_file.proofs.FileText.{footer_long, footer_read, footer_same, points_same, fragments_same, table_same}

-- ---- what has a place in a file fits

entry_long : (e : Entry) → length e.key + length (text_of e.what) ≤ length (entry_text e)
unfolding entry_text
entry_long e =
    let k = number_text (length e.key) in
    let t = number_text (length (text_of e.what)) in
    let s = number_text (trailer_of e) in
    omega (arith, length-append (k ++ t ++ s ++ e.key) (text_of e.what), length-append (k ++ t ++ s) e.key)

entry_fits : (low high : ℕ) (e : Entry) → high < 2 ^ 56 → IsWithin low high e.seq → length (entry_text e) < 2 ^ 64 → points.Fits e
entry_fits low high e below within small = record { key = omega (arith, entry_long e, small); text = omega (arith, entry_long e, small); seq = omega (arith, within.1, below) }

pub entries_fit : (low high : ℕ) (es : List Entry) → high < 2 ^ 56 → AllByRecursion (λ p. IsWithin low high p.seq) es → length (entries_text es) < 2 ^ 64 → AllByRecursion points.Fits es
entries_fit low high [] below within small = tt
entries_fit low high (e ∷ es) below within small =
    let l = length-append (entry_text e) (entries_text es) in
    (entry_fits low high e below within.0 (omega (arith, l, small)), entries_fit low high es below within.1 (omega (arith, l, small)))

numbers_long : (ns : List ℕ) → length ns ≤ length (numbers_text ns)
numbers_long [] = omega arith
numbers_long (n ∷ ns) = omega (arith, numbers_long ns, number_some n, length-append (number_text n) (numbers_text ns))

string_long : (s : List ℕ) → length s ≤ length (string_text s)
unfolding string_text
string_long s = omega (arith, length-append (number_text (length s)) s)

fragment_long : (f : Fragment) → length f.begin + length f.end + length f.seqs ≤ length (fragment_text f)
unfolding fragment_text
fragment_long f =
    let n = number_text (length f.seqs) in
    omega (arith, string_long f.begin, string_long f.end, numbers_long f.seqs, length-append (string_text f.begin) (string_text f.end ++ (n ++ numbers_text f.seqs)), length-append (string_text f.end) (n ++ numbers_text f.seqs), length-append n (numbers_text f.seqs))

seqs_fit : (low high : ℕ) (ns : List ℕ) → high < 2 ^ 56 → AllByRecursion (IsWithin low high) ns → AllByRecursion (λ n. n < 2 ^ 64) ns
seqs_fit low high [] below within = tt
seqs_fit low high (n ∷ ns) below within = (omega (arith, within.0.1, below), seqs_fit low high ns below within.1)

pub fragments_fit : (low high : ℕ) (fs : List Fragment) → high < 2 ^ 56 → AllByRecursion (IsWhole low high) fs → length (fragments_text fs) < 2 ^ 64 → AllByRecursion Fits fs
fragments_fit low high [] below whole small = tt
fragments_fit low high (f ∷ fs) below whole small =
    let l = length-append (fragment_text f) (fragments_text fs) in (
      record { begin = omega (arith, l, small, fragment_long f); end = omega (arith, l, small, fragment_long f); count = omega (arith, l, small, fragment_long f); seqs = seqs_fit low high f.seqs below whole.0.2 },
      fragments_fit low high fs below whole.1 (omega (arith, l, small)),
    )

-- ---- files of runs

module _ (file : List ℕ) (small : length file < 2 ^ 64) (c : Contents) (is : IsRun c.low c.high c.points c.fragments) (e : file ≡ file_text c) where
  long : length file ≡ length (entries_text c.points) + length (fragments_text c.fragments) + length (tail_of (body_of c) (footer_of c))
  long = ap (λ (xs : List ℕ). length xs) e ∙ length-append (body_of c) (tail_of (body_of c) (footer_of c))
      ∙ ap (λ (n : ℕ). n + length (tail_of (body_of c) (footer_of c))) (length-append (entries_text c.points) (fragments_text c.fragments))

  pub points_fit : AllByRecursion points.Fits c.points
  points_fit = entries_fit c.low c.high c.points is.below is.points_within (omega (arith, long, small))

  pub its_fragments_fit : AllByRecursion Fits c.fragments
  its_fragments_fit = fragments_fit c.low c.high c.fragments is.below is.whole (omega (arith, long, small))

  -- a file that is cut is cut into the run's parts
  module _ (points fragments table : List ℕ) (f : Footer) (split : IsSplit file points fragments table f) where
    joined : file ≡ (points ++ (fragments ++ table)) ++ footer_text f table
    joined = split.file_is ∙ ap (λ (xs : List ℕ). points ++ xs) (sym (append_assoc fragments table (footer_text f table))) ∙ sym (append_assoc points (fragments ++ table) (footer_text f table))

    front_long : length (points ++ (fragments ++ table)) ≡ length file - 64
    front_long = let l = ap (λ (xs : List ℕ). length xs) joined ∙ length-append (points ++ (fragments ++ table)) (footer_text f table) in omega (arith, l, footer_long f table)

    front_is : points ++ (fragments ++ table) ≡ take (length file - 64) file
    front_is = sym (ap (take (length file - 64)) joined ∙ take_at (points ++ (fragments ++ table)) (footer_text f table) (length file - 64) front_long)

    pub split_points : points ≡ entries_text c.points
    split_points = points_same file c e is small f split.read (points ++ (fragments ++ table)) (fragments ++ table) points fragments table (length points) (length fragments) front_is (sym split.points_are) (sym split.fragments_are)
        (sym (take_at points (fragments ++ table) (length points) refl)) (sym (drop_at points (fragments ++ table) (length points) refl)) (sym (take_at fragments table (length fragments) refl)) (sym (drop_at fragments table (length fragments) refl))

    pub split_fragments : fragments ≡ fragments_text c.fragments
    split_fragments = fragments_same file c e is small f split.read (points ++ (fragments ++ table)) (fragments ++ table) points fragments table (length points) (length fragments) front_is (sym split.points_are) (sym split.fragments_are)
        (sym (take_at points (fragments ++ table) (length points) refl)) (sym (drop_at points (fragments ++ table) (length points) refl)) (sym (take_at fragments table (length fragments) refl)) (sym (drop_at fragments table (length fragments) refl))

    pub split_table : table ≡ table_of (body_of c)
    split_table = table_same file c e is small f split.read (points ++ (fragments ++ table)) (fragments ++ table) points fragments table (length points) (length fragments) front_is (sym split.points_are) (sym split.fragments_are)
        (sym (take_at points (fragments ++ table) (length points) refl)) (sym (drop_at points (fragments ++ table) (length points) refl)) (sym (take_at fragments table (length fragments) refl)) (sym (drop_at fragments table (length fragments) refl))

    pub undamaged : (body : List ℕ) (offset : ℕ) → body ≡ points ++ fragments → IsDamagedAt body table offset → ⊥
    undamaged body offset at damaged =
        let same : body ≡ body_of c = at ∙ ap (λ (xs : List ℕ). xs ++ fragments) split_points ∙ ap (λ (xs : List ℕ). entries_text c.points ++ xs) split_fragments in
        no_damage body table offset damaged (split_table ∙ ap table_of (sym same))

    pub no_fault : (offset : ℕ) → IsFaultAt fragments offset → ⊥
    no_fault offset at = no_spelling fragments offset c.fragments at its_fragments_fit split_fragments

  -- a file of which all but the points is read
  module _ (len : ℕ) (fs : List Fragment) (f : Footer) (parts : AreParts file len fs f) where
    pub same_footer : f ≡ footer_of c
    same_footer = footer_same file c e is small f parts.read

    len_is : length (entries_text c.points) ≡ len
    len_is = sym (sym parts.points_are ∙ ap (λ (g : Footer). g.points_len) same_footer)

    whole : file ≡ entries_text c.points ++ (fragments_text c.fragments ++ tail_of (body_of c) (footer_of c))
    whole = e ∙ append_assoc (entries_text c.points) (fragments_text c.fragments) (tail_of (body_of c) (footer_of c))

    pub same_points : take len file ≡ entries_text c.points
    same_points = ap (take len) whole ∙ take_at (entries_text c.points) (fragments_text c.fragments ++ tail_of (body_of c) (footer_of c)) len len_is

    rest_is : fragments_text fs ++ tail_of (take len file ++ fragments_text fs) f ≡ fragments_text c.fragments ++ tail_of (body_of c) (footer_of c)
    rest_is =
        sym (ap (drop len) (parts.file_is ∙ append_assoc (take len file) (fragments_text fs) (tail_of (take len file ++ fragments_text fs) f))
        ∙ drop_at (take len file) (fragments_text fs ++ tail_of (take len file ++ fragments_text fs) f) len (length-take-le len file parts.within))
        ∙ ap (drop len) whole ∙ drop_at (entries_text c.points) (fragments_text c.fragments ++ tail_of (body_of c) (footer_of c)) len len_is

    many : length (fragments_text c.fragments) ≡ length (fragments_text fs)
    many = sym (sym parts.fragments_are ∙ ap (λ (g : Footer). g.fragments_len) same_footer)

    same_text : fragments_text fs ≡ fragments_text c.fragments
    same_text = sym (take_at (fragments_text fs) (tail_of (take len file ++ fragments_text fs) f) (length (fragments_text fs)) refl) ∙ ap (take (length (fragments_text fs))) rest_is
        ∙ take_at (fragments_text c.fragments) (tail_of (body_of c) (footer_of c)) (length (fragments_text fs)) many

    pub same_fragments : fs ≡ c.fragments
    same_fragments = fragments_alike fs c.fragments parts.fits its_fragments_fit same_text

    pub no_point_fault : (offset : ℕ) → entries.IsFaultAt (take len file) offset → ⊥
    no_point_fault offset at = unique.no_spelling (take len file) offset c.points at points_fit same_points

    pub is_a_run : (es : List Entry) → AllByRecursion points.Fits es → take len file ≡ entries_text es → AreNoRun es fs f → ⊥
    is_a_run es fits spelled none =
        let same : es ≡ c.points = unique.entries_alike es c.points fits points_fit (sym spelled ∙ same_points) in
        let g : Footer = footer_of c in
        subst (λ (h : Footer). AreNoRun es fs h → ⊥) (sym same_footer)
        (subst (λ (xs : List Entry). AreNoRun xs fs g → ⊥) (sym same)
        (subst (λ (xs : List Fragment). AreNoRun c.points xs g → ⊥) (sym same_fragments) (λ h. h is refl refl))) none

pub refused : (file : List ℕ) (es : List Entry) (fs : List Fragment) (f : Footer) (error : RunFileError) → (AreNoRun es fs f → IsNoRun file) → IsRefusalOf es fs f error → IsRefusal file error
refused file es fs f (Fault fault) go h = (go h.0, h.1 file)
refused file es fs f Memory go h = tt

-- what is read is the run's file
pub run_there : (file : List ℕ) (len : ℕ) (fs : List Fragment) (f : Footer) (es : List Entry) (run : Contents) → AreParts file len fs f → take len file ≡ entries_text es → AreRunOf es fs f run → file ≡ file_text run
run_there file len fs f es run parts spelled is =
    let made : Contents = record { low = f.low; high = f.high; points = es; fragments = fs } in
    let many : len ≡ length (entries_text es) = sym (length-take-le len file parts.within) ∙ ap (λ (xs : List ℕ). length xs) spelled in
    let footer : f ≡ footer_of made =
    λ i. record { points_len = (parts.points_are ∙ many) i; fragments_len = parts.fragments_are i; points = sym is.points_counted i; fragments = sym is.fragments_counted i; low = f.low; high = f.high } in
    parts.file_is ∙ ap (λ (xs : List ℕ). (xs ++ fragments_text fs) ++ tail_of (xs ++ fragments_text fs) f) spelled
    ∙ ap (λ (g : Footer). (entries_text es ++ fragments_text fs) ++ tail_of (entries_text es ++ fragments_text fs) g) footer
    ∙ ap file_text (sym is.is)

-- the bytes before the checksums
pub split_body : (file points fragments table : List ℕ) (f : Footer) → IsSplit file points fragments table f → take (length points + length fragments) file ≡ points ++ fragments
split_body file points fragments table f split =
    ap (take (length points + length fragments)) (split.file_is ∙ sym (append_assoc points fragments (table ++ footer_text f table)))
    ∙ take_at (points ++ fragments) (table ++ footer_text f table) (length points + length fragments) (length-append points fragments)

-- ---- each run has its own file

parts_there : (c : Contents) → IsRun c.low c.high c.points c.fragments → length (file_text c) < 2 ^ 64 → AreParts (file_text c) (length (entries_text c.points)) c.fragments (footer_of c)
parts_there c is small =
    let file : List ℕ = file_text c in
    let len : ℕ = length (entries_text c.points) in
    let whole : file ≡ entries_text c.points ++ (fragments_text c.fragments ++ tail_of (body_of c) (footer_of c)) = append_assoc (entries_text c.points) (fragments_text c.fragments) (tail_of (body_of c) (footer_of c)) in
    let front : take len file ≡ entries_text c.points = ap (take len) whole ∙ take_at (entries_text c.points) (fragments_text c.fragments ++ tail_of (body_of c) (footer_of c)) len refl in
    record {
      within = let l = ap (λ (xs : List ℕ). length xs) whole ∙ length-append (entries_text c.points) (fragments_text c.fragments ++ tail_of (body_of c) (footer_of c)) in omega (arith, l);
      file_is = ap (λ (xs : List ℕ). (xs ++ fragments_text c.fragments) ++ tail_of (xs ++ fragments_text c.fragments) (footer_of c)) (sym front);
      points_are = refl;
      fragments_are = refl;
      fits = its_fragments_fit file small c is refl;
      read = sym (footer_read file c refl is small);
    }

pub one_run : (c d : Contents) → IsRun c.low c.high c.points c.fragments → IsRun d.low d.high d.points d.fragments → length (file_text c) < 2 ^ 64 → file_text c ≡ file_text d → c ≡ d
one_run c d is also small e =
    let file : List ℕ = file_text c in
    let len : ℕ = length (entries_text c.points) in
    let parts = parts_there c is small in
    let footer = same_footer file small d also e len c.fragments (footer_of c) parts in
    let text : entries_text c.points ≡ entries_text d.points = sym (same_points file small c is refl len c.fragments (footer_of c) parts) ∙ same_points file small d also e len c.fragments (footer_of c) parts in
    let points = unique.entries_alike c.points d.points (points_fit file small c is refl) (points_fit file small d also e) text in
    let fragments = same_fragments file small d also e len c.fragments (footer_of c) parts in
    λ i. record { low = (footer i).low; high = (footer i).high; points = points i; fragments = fragments i }
