-- The queries of lines, with one line taken from the front.
use Rattle.std.proofs.Common.{◌≡◌, ℕ, List, [], ◌∷◌, ◌++◌, Option, Some, None, ap, ◌∙◌, sym}
use Rattle.std.specs.List.{cons_option, filter_map}
use Rattle.uc_script.specs.declared.query.Query.{Query}
use Rattle.uc_script.specs.Lines.{lines_of}
use Rattle.uc_script.specs.Head.{query_in, queries_in}
use Rattle.uc_script.proofs.Whole.{regroup}

queries_next : (text line rest : List ℕ) (o : Option Query) → lines_of text ≡ line ∷ lines_of rest → query_in line ≡ o → queries_in text ≡ cons_option o (queries_in rest)
queries_next text line rest o cut is = ap (filter_map query_in) cut ∙ ap (λ (q : Option Query). cons_option q (queries_in rest)) is

-- a line that names a query, which comes after those in front
pub queries-some : (front : List Query) (text line rest : List ℕ) (query : Query) → lines_of text ≡ line ∷ lines_of rest → Some query ≡ query_in line
    → (front ++ query ∷ []) ++ queries_in rest ≡ front ++ queries_in text
queries-some front text line rest query cut is =
    regroup front query (queries_in rest) ∙ ap (λ (xs : List Query). front ++ xs) (sym (queries_next text line rest (Some query) cut (sym is)))

-- a line that names none
pub queries-none : (front : List Query) (text line rest : List ℕ) → lines_of text ≡ line ∷ lines_of rest → None ≡ query_in line
    → front ++ queries_in rest ≡ front ++ queries_in text
queries-none front text line rest cut is = ap (λ (xs : List Query). front ++ xs) (sym (queries_next text line rest None cut (sym is)))
