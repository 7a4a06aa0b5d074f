-- Answers that stand piece by piece.
use Rattle.std.proofs.Common.{◌≡◌, ℕ, ◌+◌, ◌*◌, List, [], ◌∷◌, ◌++◌, length, map, take, drop, sym, ap, ◌∙◌, subst, arith}
use Rattle.std.specs.List.{AllZip, flat_map}
use Rattle.std.proofs.Math.Seq.{take-add}
use Rattle.std.proofs.lemmas.List.{append-nil, append_assoc}
use Rattle.std.proofs.lemmas.Slice.Zip.{AllZip-map}
use Rattle.uc_query_read.specs.declared.answer.Answer.{Answer}
use Rattle.uc_query_read.specs.declared.query.Query.{Query}
use Rattle.uc_query_workers.specs.Given.{Appended}
use Rattle.uc_query_workers.proofs.Zips.{each_mapped, all_weaker, all_append, all_front, all_behind}

flat_push : (piece_of : ℕ → List Query) (numbers : List ℕ) (n : ℕ) → flat_map piece_of (numbers ++ n ∷ []) ≡ flat_map piece_of numbers ++ piece_of n
flat_push piece_of [] n = append-nil (piece_of n)
flat_push piece_of (m ∷ numbers) n =
    ap (λ queries. piece_of m ++ queries) (flat_push piece_of numbers n)
    ∙ sym (append_assoc (piece_of m) (flat_map piece_of numbers) (piece_of n))

-- the results of one function for each query are appended to the answers
pub mapped_behind : (answer_to : Query → Answer) (queries : List Query) (before after : List Answer) → after ≡ before ++ map answer_to queries → Appended (λ query answer. answer ≡ answer_to query) queries before after
mapped_behind answer_to queries before after are = record {
  given = map answer_to queries;
  are = are;
  each = each_mapped answer_to queries;
}

-- what may be given in another way too
pub appended_weaker : (gives others : Query → Answer → Type 0) → ((query : Query) (answer : Answer) → gives query answer → others query answer) → (queries : List Query) (before after : List Answer) → Appended gives queries before after → Appended others queries before after
appended_weaker gives others weaker queries before after one = record {
  given = one.given;
  are = one.are;
  each = all_weaker gives others weaker queries one.given one.each;
}

module _ (gives : Query → Answer → Type 0) where
  -- the answers to more queries
  more_queries : (queries more : List Query) (before after : List Answer) → AllZip gives queries before → Appended gives more before after → AllZip gives (queries ++ more) after
  more_queries queries more before after all one =
      subst (AllZip gives (queries ++ more)) (sym one.are) (all_append gives queries more before one.given all one.each)

  -- the answers to one piece more
  pub numbers_more : (piece_of : ℕ → List Query) (numbers more : List ℕ) (n : ℕ) (before after : List Answer) → more ≡ numbers ++ n ∷ [] → AllZip gives (flat_map piece_of numbers) before → Appended gives (piece_of n) before after → AllZip gives (flat_map piece_of more) after
  numbers_more piece_of numbers more n before after is all one =
      subst (λ queries. AllZip gives queries after) (sym (ap (flat_map piece_of) is ∙ flat_push piece_of numbers n))
      (more_queries (flat_map piece_of numbers) (piece_of n) before after all one)

  -- the first piece's answers are appended to others
  pub first_taken : (piece others : List Query) (answers before after : List Answer) (count : ℕ) → AllZip gives (piece ++ others) answers → count ≡ length piece → after ≡ before ++ take count answers → Appended gives piece before after
  first_taken piece others answers before after count all count_is after_is = record {
    given = take (length piece) answers;
    are = after_is ∙ ap (λ n. before ++ take n answers) count_is;
    each = all_front gives piece others answers all;
  }

  pub others_left : (piece others : List Query) (answers rest : List Answer) (count : ℕ) → AllZip gives (piece ++ others) answers → count ≡ length piece → rest ≡ drop count answers → AllZip gives others rest
  others_left piece others answers rest count all count_is rest_is =
      subst (AllZip gives others) (sym (rest_is ∙ ap (λ n. drop n answers) count_is)) (all_behind gives piece others answers all)

  -- nothing is answered yet
  pub none_answered : (queries : List Query) (answers : List Answer) → queries ≡ [] → answers ≡ [] → AllZip gives queries answers
  none_answered queries answers empty none =
      subst (λ qs. AllZip gives qs answers) (sym empty) (subst (AllZip gives []) (sym none) tt)

  -- the answers to the pieces so far, and to one more
  pub one_more : (queries : List Query) (piece number : ℕ) (before after : List Answer) → AllZip gives (take (number * piece) queries) before → Appended gives (take piece (drop (number * piece) queries)) before after → AllZip gives (take ((number + 1) * piece) queries) after
  one_more queries piece number before after so_far one =
      let next = take piece (drop (number * piece) queries) in
      let joined : take (number * piece) queries ++ next ≡ take ((number + 1) * piece) queries = sym (take-add (number * piece) piece queries) ∙ ap (λ n. take n queries) (grind arith) in
      subst (λ qs. AllZip gives qs after) joined (more_queries (take (number * piece) queries) next before after so_far one)

  -- what one function gives to each query
  pub mapped : (answer_to : Query → Answer) → ((query : Query) (answer : Answer) → gives query answer → answer ≡ answer_to query) → (queries : List Query) (answers : List Answer) → AllZip gives queries answers → answers ≡ map answer_to queries
  mapped answer_to alike queries answers all =
      AllZip-map answer_to queries answers (all_weaker gives (λ query answer. answer ≡ answer_to query) alike queries answers all)
