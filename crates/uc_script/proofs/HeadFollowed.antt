-- A head that is read, whatever comes after it.
use Rattle.std.proofs.Common.{◌≡◌, ℕ, List, ◌∷◌, ◌++◌, Result, Ok, codes, sym, ◌∙◌, ap, append_assoc}
use Rattle.uc_script.specs.Head.{Head, bytes_of, head_of}
use Rattle.uc_script.specs.HeadCases.{ComesTo, asks, no_line, no_log, no_end}
use Rattle.uc_script.proofs.HeadJudged.{head_of-comes, head_of-alone}

-- longer input has the same outcome
followed : {text : List ℕ} {outcome : Result Head ℕ} → ComesTo text outcome → (more : List ℕ) (said : Head) → outcome ≡ Ok said → head_of (text ++ more) ≡ Ok said
followed (asks before log good) more said is =
    let same : (bytes_of before ++ (codes "log" ++ 10 ∷ log)) ++ more ≡ bytes_of before ++ (codes "log" ++ 10 ∷ (log ++ more)) = append_assoc (bytes_of before) (codes "log" ++ 10 ∷ log) more in
    ap head_of same ∙ (sym (head_of-alone _ _ (asks before (log ++ more) good)) ∙ is)
followed (no_line text before line rest good bad lines) more said is = absurd cc
followed (no_log text before good lines) more said is = absurd cc
followed (no_end before good) more said is = absurd cc

pub head_followed : (text more : List ℕ) (said : Head) → head_of text ≡ Ok said → head_of (text ++ more) ≡ Ok said
head_followed text more said is = followed (head_of-comes text) more said is
