-- The bytes of files.
use Rattle.std.proofs.Common.{◌≡◌, ℕ, ◌+◌, ◌-◌, ◌*◌, ◌^◌, ◌<◌, ◌≤◌, List, [], ◌∷◌, ◌++◌, length, take, drop, refl, sym, ap, subst, ◌∙◌, append_assoc, length-append, arith}
use Rattle.std.proofs.lemmas.Nat.{from_le_bytes-to_le_bytes_8}
use Rattle.std.proofs.lemmas.List.{take_at, drop_at, take-append-drop, length-drop, length-take-le}
use Rattle.uc_logrec.specs.Crc.{crc_of}
use Rattle.uc_run_entry.specs.Fragment.{Fragment}
use Rattle.uc_run_entry.specs.Run.{Contents, IsRun}
use Rattle.uc_run_points.specs.Spelling.{entries_text}
use Rattle.uc_run_points.proofs.Grown.{text_some}
use Rattle.uc_run_file.specs.declared.footer.Footer.{Footer}
use Rattle.uc_run_file.specs.Words.{word_text, half_text, word_of}
use Rattle.uc_run_file.specs.Spelling.{fragment_text, fragments_text}
use Rattle.uc_run_file.specs.Pieces.{pieces_of, table_of}
use Rattle.uc_run_file.specs.Footers.{magic, fields_text, footer_text, footer_in}
use Rattle.uc_run_file.specs.Files.{body_of, footer_of, file_text, AreLens, IsSplit}
use Rattle.uc_run_file.proofs.PieceSums.{sums_long, half_long}
use Rattle.uc_run_file.proofs.FragmentText.{fragment_some}

-- ---- footers

word_again : (n : ℕ) (xs : List ℕ) → n < 2 ^ 64 → word_of (word_text n ++ xs) ≡ n
unfolding word_of word_text
word_again n xs fits = from_le_bytes-to_le_bytes_8 n fits

rest_again : (n : ℕ) (xs : List ℕ) → drop 8 (word_text n ++ xs) ≡ xs
unfolding word_text
rest_again n xs = refl

word_long : (n : ℕ) → length (word_text n) ≡ 8
unfolding word_text
word_long n = refl

magic_long : length magic ≡ 8
unfolding magic
magic_long = refl

pub record FitsFooter (f : Footer) : Type 0 where
  pub points_len : f.points_len < 2 ^ 64
  pub fragments_len : f.fragments_len < 2 ^ 64
  pub points : f.points < 2 ^ 64
  pub fragments : f.fragments < 2 ^ 64
  pub low : f.low < 2 ^ 64
  pub high : f.high < 2 ^ 64

parts_again : (f : Footer) (xs : List ℕ) → FitsFooter f →
    footer_in (word_text f.points_len ++ (word_text f.fragments_len ++ (word_text f.points ++ (word_text f.fragments ++ (word_text f.low ++ (word_text f.high ++ xs)))))) ≡ f
unfolding footer_in
parts_again f xs fits =
    let r6 : List ℕ = xs in
    let r5 : List ℕ = word_text f.high ++ r6 in
    let r4 : List ℕ = word_text f.low ++ r5 in
    let r3 : List ℕ = word_text f.fragments ++ r4 in
    let r2 : List ℕ = word_text f.points ++ r3 in
    let r1 : List ℕ = word_text f.fragments_len ++ r2 in
    let bytes : List ℕ = word_text f.points_len ++ r1 in
    let d1 : drop 8 bytes ≡ r1 = rest_again f.points_len r1 in
    let d2 : drop 8 (drop 8 bytes) ≡ r2 = ap (drop 8) d1 ∙ rest_again f.fragments_len r2 in
    let d3 : drop 8 (drop 8 (drop 8 bytes)) ≡ r3 = ap (drop 8) d2 ∙ rest_again f.points r3 in
    let d4 : drop 8 (drop 8 (drop 8 (drop 8 bytes))) ≡ r4 = ap (drop 8) d3 ∙ rest_again f.fragments r4 in
    let d5 : drop 8 (drop 8 (drop 8 (drop 8 (drop 8 bytes)))) ≡ r5 = ap (drop 8) d4 ∙ rest_again f.low r5 in
    let e0 = word_again f.points_len r1 fits.points_len in
    let e1 = ap word_of d1 ∙ word_again f.fragments_len r2 fits.fragments_len in
    let e2 = ap word_of d2 ∙ word_again f.points r3 fits.points in
    let e3 = ap word_of d3 ∙ word_again f.fragments r4 fits.fragments in
    let e4 = ap word_of d4 ∙ word_again f.low r5 fits.low in
    let e5 = ap word_of d5 ∙ word_again f.high r6 fits.high in
    λ i. record { points_len = e0 i; fragments_len = e1 i; points = e2 i; fragments = e3 i; low = e4 i; high = e5 i }

seven : (a b c d e f g x : List ℕ) → (a ++ (b ++ (c ++ (d ++ (e ++ (f ++ g)))))) ++ x ≡ a ++ (b ++ (c ++ (d ++ (e ++ (f ++ (g ++ x))))))
seven a b c d e f g x = simp append_assoc

fields_parts : (f : Footer) (xs : List ℕ) → fields_text f ++ xs ≡ word_text f.points_len ++ (word_text f.fragments_len ++ (word_text f.points ++ (word_text f.fragments ++ (word_text f.low ++ (word_text f.high ++ (half_text 1 ++ xs))))))
unfolding fields_text
fields_parts f xs = seven (word_text f.points_len) (word_text f.fragments_len) (word_text f.points) (word_text f.fragments) (word_text f.low) (word_text f.high) (half_text 1) xs

pub footer_again : (f : Footer) (table : List ℕ) → FitsFooter f → footer_in (footer_text f table) ≡ f
unfolding footer_text
footer_again f table fits =
    let xs : List ℕ = half_text (crc_of (table ++ fields_text f)) ++ magic in
    ap footer_in (fields_parts f xs) ∙ parts_again f (half_text 1 ++ xs) fits

fields_long : (f : Footer) → length (fields_text f) ≡ 52
unfolding fields_text
fields_long f =
    let g : List ℕ = half_text 1 in
    let r5 : List ℕ = word_text f.high ++ g in
    let r4 : List ℕ = word_text f.low ++ r5 in
    let r3 : List ℕ = word_text f.fragments ++ r4 in
    let r2 : List ℕ = word_text f.points ++ r3 in
    let r1 : List ℕ = word_text f.fragments_len ++ r2 in
    omega (
      arith,
      length-append (word_text f.points_len) r1,
      length-append (word_text f.fragments_len) r2,
      length-append (word_text f.points) r3,
      length-append (word_text f.fragments) r4,
      length-append (word_text f.low) r5,
      length-append (word_text f.high) g,
      word_long f.points_len,
      word_long f.fragments_len,
      word_long f.points,
      word_long f.fragments,
      word_long f.low,
      word_long f.high,
      half_long 1,
    )

pub footer_long : (f : Footer) (table : List ℕ) → length (footer_text f table) ≡ 64
unfolding footer_text
footer_long f table =
    let sum : List ℕ = half_text (crc_of (table ++ fields_text f)) in
    omega (arith, length-append (fields_text f) (sum ++ magic), length-append sum magic, fields_long f, half_long (crc_of (table ++ fields_text f)), magic_long)

-- ---- the parts of a run's bytes

module _ (file : List ℕ) (c : Contents) (e : file ≡ file_text c) where
  abbrev body : List ℕ
  body = body_of c

  abbrev table : List ℕ
  table = table_of body

  abbrev footer : Footer
  footer = footer_of c

  abbrev last : List ℕ
  last = footer_text footer table

  joined : file ≡ (body ++ table) ++ last
  joined = e ∙ sym (append_assoc body table last)

  long : length file ≡ length (body ++ table) + 64
  long = let l = ap (λ (xs : List ℕ). length xs) joined ∙ length-append (body ++ table) last in omega (arith, l, footer_long footer table)

  pub no_shorter : length file < 64 → ⊥
  no_shorter lt = absurd (omega (arith, lt, long))

  pub last_is : drop (length file - 64) file ≡ last
  last_is = ap (drop (length file - 64)) joined ∙ drop_at (body ++ table) last (length file - 64) (omega (arith, long))

  pub front_is : take (length file - 64) file ≡ body ++ table
  front_is = ap (take (length file - 64)) joined ∙ take_at (body ++ table) last (length file - 64) (omega (arith, long))

  pub body_long : length body ≡ length (entries_text c.points) + length (fragments_text c.fragments)
  body_long = length-append (entries_text c.points) (fragments_text c.fragments)

  pub lens : AreLens footer.points_len footer.fragments_len (length (body ++ table))
  lens =
      let p : ℕ = length (entries_text c.points) + length (fragments_text c.fragments) in
      let t : length table ≡ 4 * pieces_of p = sums_long (pieces_of (length body)) body ∙ ap (λ n. 4 * pieces_of n) body_long in
      omega (arith, length-append body table, body_long, t)

  body_within : length body ≤ length file
  body_within = omega (arith, long, length-append body table)

  fragments_some : (fs : List Fragment) → length fs ≤ length (fragments_text fs)
  fragments_some [] = omega arith
  fragments_some (f ∷ fs) = omega (arith, fragments_some fs, fragment_some f, length-append (fragment_text f) (fragments_text fs))

  pub footer_fits : IsRun c.low c.high c.points c.fragments → length file < 2 ^ 64 → FitsFooter footer
  footer_fits is small = record {
    points_len = omega (arith, small, body_within, body_long);
    fragments_len = omega (arith, small, body_within, body_long);
    points = omega (arith, small, body_within, body_long, text_some c.points);
    fragments = omega (arith, small, body_within, body_long, fragments_some c.fragments);
    low = omega (arith, is.range, is.below);
    high = omega (arith, is.below);
  }

  pub footer_read : IsRun c.low c.high c.points c.fragments → length file < 2 ^ 64 → footer_in (drop (length file - 64) file) ≡ footer
  footer_read is small = ap footer_in last_is ∙ footer_again footer table (footer_fits is small)

  -- what a footer that is read says
  module _ (is : IsRun c.low c.high c.points c.fragments) (small : length file < 2 ^ 64) (f : Footer) (read : f ≡ footer_in (drop (length file - 64) file)) where
    pub footer_same : f ≡ footer
    footer_same = read ∙ footer_read is small

    pub no_others : (front : List ℕ) → front ≡ take (length file - 64) file → (AreLens f.points_len f.fragments_len (length front) → ⊥) → ⊥
    no_others front at none =
        let same : front ≡ body ++ table = at ∙ front_is in
        none (subst (λ (g : Footer). AreLens g.points_len g.fragments_len (length front)) (sym footer_same) (subst (λ (xs : List ℕ). AreLens footer.points_len footer.fragments_len (length xs)) (sym same) lens))

    front_parts : body ++ table ≡ entries_text c.points ++ (fragments_text c.fragments ++ table)
    front_parts = append_assoc (entries_text c.points) (fragments_text c.fragments) table

    -- the parts of what stands before the footer
    module _ (front rest points fragments table' : List ℕ) (p q : ℕ) (at : front ≡ take (length file - 64) file) (p_is : p ≡ f.points_len) (q_is : q ≡ f.fragments_len)
        (points_are : points ≡ take p front) (rest_is : rest ≡ drop p front) (fragments_are : fragments ≡ take q rest) (table_is : table' ≡ drop q rest) where
      p_long : length (entries_text c.points) ≡ p
      p_long = sym (p_is ∙ ap (λ (g : Footer). g.points_len) footer_same)

      q_long : length (fragments_text c.fragments) ≡ q
      q_long = sym (q_is ∙ ap (λ (g : Footer). g.fragments_len) footer_same)

      whole : front ≡ entries_text c.points ++ (fragments_text c.fragments ++ table)
      whole = at ∙ front_is ∙ front_parts

      rest_same : rest ≡ fragments_text c.fragments ++ table
      rest_same = rest_is ∙ ap (drop p) whole ∙ drop_at (entries_text c.points) (fragments_text c.fragments ++ table) p p_long

      pub points_same : points ≡ entries_text c.points
      points_same = points_are ∙ ap (take p) whole ∙ take_at (entries_text c.points) (fragments_text c.fragments ++ table) p p_long

      pub fragments_same : fragments ≡ fragments_text c.fragments
      fragments_same = fragments_are ∙ ap (take q) rest_same ∙ take_at (fragments_text c.fragments) table q q_long

      pub table_same : table' ≡ table
      table_same = table_is ∙ ap (drop q) rest_same ∙ drop_at (fragments_text c.fragments) table q q_long

      pub same_last : footer_text f table' ≡ drop (length file - 64) file
      same_last = ap (λ (g : Footer). footer_text g table') footer_same ∙ ap (footer_text footer) table_same ∙ sym last_is

-- ---- a file that is cut

module _ (file front last rest points fragments table spelled : List ℕ) (f : Footer) (p q : ℕ) (enough : 64 ≤ length file) (front_at : front ≡ take (length file - 64) file) (last_at : last ≡ drop (length file - 64) file)
    (read : f ≡ footer_in last) (p_is : p ≡ f.points_len) (q_is : q ≡ f.fragments_len) (all : AreLens p q (length front))
    (points_are : points ≡ take p front) (rest_is : rest ≡ drop p front) (fragments_are : fragments ≡ take q rest) (table_is : table ≡ drop q rest) (spelled_is : spelled ≡ footer_text f table) where
  points_many : length points ≡ p
  points_many = ap (λ (xs : List ℕ). length xs) points_are ∙ length-take-le p front (omega (arith, all))

  rest_many : length rest ≡ length front - p
  rest_many = ap (λ (xs : List ℕ). length xs) rest_is ∙ length-drop p front

  fragments_many : length fragments ≡ q
  fragments_many = ap (λ (xs : List ℕ). length xs) fragments_are ∙ length-take-le q rest (omega (arith, all, rest_many))

  table_many : length table ≡ length rest - q
  table_many = ap (λ (xs : List ℕ). length xs) table_is ∙ length-drop q rest

  pub is_split : spelled ≡ last → IsSplit file points fragments table f
  is_split same = record {
    file_is = sym (take-append-drop (length file - 64) file) ∙ ap (λ (xs : List ℕ). xs ++ drop (length file - 64) file) (sym front_at) ∙ ap (λ (xs : List ℕ). front ++ xs) (sym last_at ∙ sym same ∙ spelled_is)
        ∙ ap (λ (xs : List ℕ). xs ++ footer_text f table) (sym (take-append-drop p front) ∙ ap (λ (xs : List ℕ). xs ++ drop p front) (sym points_are) ∙ ap (λ (xs : List ℕ). points ++ xs) (sym rest_is ∙ sym (take-append-drop q rest) ∙ ap (λ (xs : List ℕ). xs ++ drop q rest) (sym fragments_are) ∙ ap (λ (xs : List ℕ). fragments ++ xs) (sym table_is)))
        ∙ append_assoc points (fragments ++ table) (footer_text f table) ∙ ap (λ (xs : List ℕ). points ++ xs) (append_assoc fragments table (footer_text f table));
    points_are = sym p_is ∙ sym points_many;
    fragments_are = sym q_is ∙ sym fragments_many;
    table_is = let e : 4 * pieces_of (length points + length fragments) ≡ 4 * pieces_of (p + q) = ap (λ (n : ℕ). 4 * pieces_of n) (omega (arith, points_many, fragments_many)) in omega (arith, table_many, rest_many, all, e);
    read = read ∙ ap footer_in last_at;
  }
