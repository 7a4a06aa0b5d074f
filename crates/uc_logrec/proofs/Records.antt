-- The bytes of a record are read as that record, whatever follows them.
use Rattle.std.proofs.Common.{◌≡◌, ℕ, ◌+◌, ◌-◌, ◌^◌, ◌≤◌, ◌<◌, false, eqb, List, ◌++◌, length, take, drop, Some, Ok, refl, sym, ap, ◌∙◌, length-append, arith}
use Rattle.std.specs.List.{list_all}
use Rattle.std.proofs.lemmas.Bool.{le-ltb, eq-eqb}
use Rattle.std.proofs.lemmas.List.{take_at, drop_at}
use Rattle.std.proofs.lemmas.List.Folds.{list_all_at}
use Rattle.std.proofs.lemmas.Nat.{from_le_bytes-to_le_bytes_2, from_le_bytes-to_le_bytes_4}
use Rattle.uc_logrec.specs.Mask.{masked}
use Rattle.uc_logrec.specs.declared.kind.Kind.{Kind}
use Rattle.uc_logrec.specs.declared.kind.Kind.TheVariants.{Full, First, Middle, Last}
use Rattle.uc_logrec.specs.Format.{code_of, kind_of, checksum_of, stored_checksum, stored_length, stored_code, record_text, record_of}

-- a masked checksum fits four bytes
masked_fits : (n : ℕ) → masked n < 2 ^ 32
unfolding masked
masked_fits n = omega arith

kind_of-code_of : (kind : Kind) → kind_of (code_of kind) ≡ Some kind
kind_of-code_of Full = refl
kind_of-code_of First = refl
kind_of-code_of Middle = refl
kind_of-code_of Last = refl

-- no type is zero
pub code_of_not_zero : (kind : Kind) → eqb (code_of kind) 0 ≡ false
code_of_not_zero Full = refl
code_of_not_zero First = refl
code_of_not_zero Middle = refl
code_of_not_zero Last = refl

-- what makes a record of the bytes at a place
pub record IsRecord (space : ℕ) (rest : List ℕ) (kind : Kind) (len : ℕ) : Type 0 where
  pub used : list_all (λ byte. eqb byte 0) rest ≡ false
  pub header : 7 ≤ length rest
  pub size : stored_length rest ≡ len
  pub fits_block : len ≤ space - 7
  pub fits_log : len ≤ length rest - 7
  pub intact : stored_checksum rest ≡ checksum_of (stored_code rest) (take len (drop 7 rest))
  pub type : kind_of (stored_code rest) ≡ Some kind

pub record_stands : (space : ℕ) (rest : List ℕ) (kind : Kind) (len : ℕ) → IsRecord space rest kind len → record_of space rest ≡ Ok (kind, len)
unfolding record_of
record_stands space rest kind len r =
    let a : list_all (λ byte. eqb byte 0) rest ≡ false = r.used in
    rw (r.used, le-ltb (length rest) 7 r.header, r.size, le-ltb (space - 7) len r.fits_block, le-ltb (length rest - 7) len r.fits_log, eq-eqb _ _ r.intact, r.type) refl

text_is_record : (space : ℕ) (kind : Kind) (fragment after : List ℕ) → 7 + length fragment ≤ space → space ≤ 32768 → IsRecord space (record_text kind fragment ++ after) kind (length fragment)
unfolding record_text
text_is_record space kind fragment after room small = record {
  used = list_all_at (λ byte. eqb byte 0) (record_text kind fragment ++ after) 6 0 (omega arith) (code_of_not_zero kind);
  header = omega arith;
  size = from_le_bytes-to_le_bytes_2 (length fragment) (omega arith);
  fits_block = omega arith;
  fits_log = omega (arith, length-append fragment after);
  intact = from_le_bytes-to_le_bytes_4 (checksum_of (code_of kind) fragment) (masked_fits _) ∙ ap (checksum_of (code_of kind)) (sym (take_at fragment after (length fragment) refl));
  type = kind_of-code_of kind;
}

pub record_again : (space : ℕ) (kind : Kind) (fragment after : List ℕ) → 7 + length fragment ≤ space → space ≤ 32768 → record_of space (record_text kind fragment ++ after) ≡ Ok (kind, length fragment)
record_again space kind fragment after room small = record_stands space (record_text kind fragment ++ after) kind (length fragment) (text_is_record space kind fragment after room small)

pub length-record_text : (kind : Kind) (fragment : List ℕ) → length (record_text kind fragment) ≡ 7 + length fragment
unfolding record_text
length-record_text kind fragment = omega arith

-- its parts
pub fragment_again : (kind : Kind) (fragment after : List ℕ) → take (length fragment) (drop 7 (record_text kind fragment ++ after)) ≡ fragment
unfolding record_text
fragment_again kind fragment after = take_at fragment after (length fragment) refl

pub behind_again : (kind : Kind) (fragment after : List ℕ) → drop (length fragment) (drop 7 (record_text kind fragment ++ after)) ≡ after
unfolding record_text
behind_again kind fragment after = drop_at fragment after (length fragment) refl
