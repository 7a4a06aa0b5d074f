-- Replies that go out one after the other.
use Rattle.std.proofs.Common.{◌≡◌, ℕ, suc, List, [], ◌∷◌, ◌++◌, take, Option, Result, Ok, Err, ap, sym, ◌∙◌, subst, append_assoc}
use Rattle.std.specs.Io.KnownBytes.{Appends}
use Rattle.uc_tool_io.specs.Writing.{AppendsFront}
use Rattle.uc_tool_io.specs.Output.{joined, Stops, Prints}
use Rattle.uc_tool_io.specs.declared.run_error.RunError.{RunError}
use Rattle.uc_tool_io.specs.declared.run_error.RunError.TheVariants as run_error
use Rattle.uc_tool_io.proofs.Known.{appends_none, appends_more}

-- a prefix of one byte string is a prefix of that and more
pub front_of_first : (a b : Option (List ℕ)) (first rest : List ℕ) → AppendsFront a b first → AppendsFront a b (first ++ rest)
front_of_first a b first rest f = (f.0, (f.1.0 ++ rest, sym (append_assoc f.0 f.1.0 rest) ∙ ap (λ (l : List ℕ). l ++ rest) f.1.1), f.2)

-- after bytes that were written, a prefix of what follows is a prefix of both
pub front_behind : (a b c : Option (List ℕ)) (first rest : List ℕ) → Appends a b first → AppendsFront b c rest → AppendsFront a c (first ++ rest)
front_behind a b c first rest p f = (first ++ f.0, (f.1.0, append_assoc first f.0 f.1.0 ∙ ap (λ (l : List ℕ). first ++ l) f.1.1), appends_more a b c first f.0 p f.2)

-- one reply went out, and then there was an error
pub stops_more : (first : List ℕ) (rest : List (List ℕ)) (a b c : Option (List ℕ)) (e : RunError) → Appends a b first → Stops rest b c e → Stops (first ∷ rest) a c e
stops_more first rest a b c run_error.Memory p q = (suc q.0, appends_more a b c first (joined (take q.0 rest)) p q.1)
stops_more first rest a b c run_error.Device p q = front_behind a b c first (joined rest) p q

-- one reply, and then the others
pub prints_more : {X : Type 0} (first : List ℕ) (rest : List (List ℕ)) (a b c : Option (List ℕ)) (r : Result X RunError) → Appends a b first → Prints rest b c r → Prints (first ∷ rest) a c r
prints_more first rest a b c (Ok x) p q = appends_more a b c first (joined rest) p q
prints_more first rest a b c (Err e) p q = stops_more first rest a b c e p q

-- Whatever comes of the rest, from here on, comes of all the replies.
abbrev pub GoesOn : List (List ℕ) → List (List ℕ) → Option (List ℕ) → Option (List ℕ) → Type 0
GoesOn all rest old here = (new : Option (List ℕ)) (r : Result (Unit {0}) RunError) → Prints rest here new r → Prints all old new r

module _ (all pending : List (List ℕ)) (old here : Option (List ℕ)) (goes : GoesOn all pending old here) where
  -- memory ran out before the next reply
  pub no_memory : Stops all old here run_error.Memory
  no_memory = goes here (Err run_error.Memory) (0, appends_none here)

  -- nothing is to come
  pub all_printed : pending ≡ [] → Appends old here (joined all)
  all_printed none = goes here (Ok tt) (subst (λ (ys : List (List ℕ)). Appends here here (joined ys)) (sym none) (appends_none here))

  module _ (reply : List ℕ) (rest : List (List ℕ)) (next : pending ≡ reply ∷ rest) where
    -- the next reply went out
    pub goes_next : (after : Option (List ℕ)) → Appends here after reply → GoesOn all rest old after
    goes_next after p new r q = goes new r (subst (λ (ys : List (List ℕ)). Prints ys here new r) (sym next) (prints_more reply rest here after new r p q))

    -- the next reply went out in part
    pub stops_next : (after : Option (List ℕ)) → AppendsFront here after reply → Stops all old after run_error.Device
    stops_next after p = goes after (Err run_error.Device) (subst (λ (ys : List (List ℕ)). Stops ys here after run_error.Device) (sym next) (front_of_first here after reply (joined rest) p))

-- nothing was printed yet
pub begins : (all : List (List ℕ)) (old : Option (List ℕ)) → GoesOn all all old old
begins all old new r p = p
