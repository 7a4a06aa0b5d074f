-- Passing over lines one by one.
use Rattle.std.proofs.Common.{◌≡◌, ℕ, ◌+◌, ◌<◌, ◌≤◌, Bool, true, false, suc, cond, eqb, ◌||◌, List, [], ◌∷◌, length, get_or, take, drop, refl, sym, ap, ◌∙◌, arith}
use Rattle.std.specs.List.{list_any, onto_first}
use Rattle.std.proofs.lemmas.Bool.{ne_eqb}
use Rattle.std.proofs.lemmas.List.{drop_more, drop_all, take_all, length-drop}
use Rattle.std.proofs.lemmas.List.Folds.{list_any_more}
use Rattle.uc_script.specs.Lines.{lines_of}

-- an element is in a list at this place, and these come after it
pub record StandsAt {X : Type 0} (xs : List X) (i : ℕ) (x : X) (ys : List X) : Type 0 where
  pub within : i < length xs
  pub here : get_or xs i x ≡ x
  pub behind : drop (i + 1) xs ≡ ys

pub stands_at : {X : Type 0} (xs : List X) (i : ℕ) (x : X) (ys : List X) → drop i xs ≡ x ∷ ys → StandsAt xs i x ys
stands_at xs i x ys left =
    let within : i < length xs = omega (arith, length-drop i xs, ap length left) in
    let more = drop_more xs i x within in
    record { within = within; here = cc; behind = cc }

-- whether some element passes a test, up to the next one
pub any_next : {X : Type 0} (p : X → Bool) (xs : List X) (i : ℕ) (x : X) (ys : List X) → StandsAt xs i x ys → list_any p (take (i + 1) xs) ≡ (list_any p (take i xs) || p x)
any_next p xs i x ys at = list_any_more p xs i x at.within ∙ ap (λ y. list_any p (take i xs) || p y) at.here

-- after a place where nothing is left there is nothing either
pub record IsOver {X : Type 0} (xs : List X) (i n : ℕ) : Type 0 where
  pub left : drop n xs ≡ []
  pub same : take n xs ≡ take i xs

pub is_over : {X : Type 0} (xs : List X) (i n : ℕ) → drop i xs ≡ [] → i ≤ n → IsOver xs i n
is_over xs i n none le =
    let short : length xs ≤ i = omega (arith, length-drop i xs, ap length none) in
    record { left = drop_all n xs (omega arith); same = take_all n xs (omega arith) ∙ sym (take_all i xs short) }

-- input with bytes has lines
some_line : (byte : ℕ) (lines : List (List ℕ)) → eqb (length (onto_first byte lines)) 0 ≡ false
some_line byte [] = refl
some_line byte (line ∷ lines) = ne_eqb (suc (length lines)) 0 (λ e. omega arith)

line_or_more : (b : Bool) (byte : ℕ) (lines : List (List ℕ)) → eqb (length (cond b ([] ∷ lines) (onto_first byte lines))) 0 ≡ false
line_or_more true byte lines = ne_eqb (suc (length lines)) 0 (λ e. omega arith)
line_or_more false byte lines = some_line byte lines

pub same_emptiness : (text : List ℕ) → eqb (length (lines_of text)) 0 ≡ eqb (length text) 0
same_emptiness [] = refl
same_emptiness (byte ∷ rest) = line_or_more (eqb byte 10) byte (lines_of rest) ∙ sym (ne_eqb (suc (length rest)) 0 (λ e. omega arith))

-- input without bytes has no lines
pub no_lines : (text : List ℕ) → length text ≡ 0 → lines_of text ≡ []
no_lines [] none = refl
no_lines (byte ∷ rest) none = absurd (omega arith)

-- whether some element has passed a test, one element on
pub passed_by : {X : Type 0} (p : X → Bool) (xs : List X) (i : ℕ) (x : X) (ys : List X) (old new : Bool) → drop i xs ≡ x ∷ ys → old ≡ list_any p (take i xs) → new ≡ (old || p x) → new ≡ list_any p (take (i + 1) xs)
passed_by p xs i x ys old new left was is = is ∙ ap (λ b. b || p x) was ∙ sym (any_next p xs i x ys (stands_at xs i x ys left))
