-- The contents of the payload at an offset, if there is one.
use Rattle.std.proofs.Common.{◌≡◌, ◌↔◌, ℕ, ◌<◌, List, [], ◌∷◌, Some, Bool, IsTrue, sym, ap, ◌∙◌, subst}
use Rattle.uc_logrec.specs.Log.{Reading}
use Rattle.uc_logrec.specs.Position.{LiesIn}
use Rattle.uc_log_crash.specs.Marks.{mark_of, sequence_of, SaysBeyond, Tells}

abbrev first_of : List (List ℕ) → List ℕ
first_of [] = []
first_of (p ∷ ps) = p

-- one payload lies there
same_payload : (log : List ℕ) (offset a b : ℕ) (p q : List ℕ) → LiesIn p log offset a → LiesIn q log offset b → p ≡ q
same_payload log offset a b p q one other = ap (λ (r : Reading). first_of r.payloads) (sym one.comes ∙ other.comes)

Says : List ℕ → ℕ → ℕ → ℕ → Type 0
Says payload end last offset = (last < sequence_of payload) × SaysBeyond (mark_of payload) end offset

told_first : (log payload : List ℕ) (end last offset after : ℕ) → LiesIn payload log offset after → Says payload end last offset → Tells log end last offset
unfolding Says
told_first log payload end last offset after lies (later, (unsynced, mark, beyond)) = record { payload = payload; after = after; unsynced = unsynced; lies = lies; later = later; mark = mark; beyond = beyond }

said_by : (log payload : List ℕ) (end last offset after : ℕ) → LiesIn payload log offset after → Tells log end last offset → Says payload end last offset
unfolding Says
said_by log payload end last offset after lies told =
    let same : told.payload ≡ payload = same_payload log offset told.after after told.payload payload told.lies lies in
    (subst (λ (p : List ℕ). last < sequence_of p) same told.later, (told.unsynced, subst (λ (p : List ℕ). mark_of p ≡ Some told.unsynced) same told.mark, told.beyond))

pub told_there : (log payload : List ℕ) (end last offset after : ℕ) (b : Bool) → LiesIn payload log offset after → (IsTrue b ↔ ((last < sequence_of payload) × SaysBeyond (mark_of payload) end offset)) → (IsTrue b ↔ Tells log end last offset)
unfolding Says
told_there log payload end last offset after b lies said = (
  λ yes. told_first log payload end last offset after lies (said.0 yes),
  λ told. said.1 (said_by log payload end last offset after lies told),
)
