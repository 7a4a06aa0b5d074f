-- The lines of a script by cases, and the outcome of each case.
use Rattle.std.specs.Prelude.{◌≡◌, ℕ, ◌+◌, List, ◌∷◌, ◌++◌, length, None, IsSome, IsTrue, IsFalse, [], Result, Ok, Err, filter_map}
use Rattle.std.specs.List.{AllByRecursion}
use Rattle.uc_script.specs.Script.{setup_line, call_line, says_open, change_in, keep_in, calls_from, lack_a_feed}
use Rattle.uc_script.specs.declared.script.Script.{Script}

-- Each line may come before `open`, and none is `open`.
abbrev pub AreSetup : List (List ℕ) → Type 0
AreSetup lines = AllByRecursion (λ line. IsSome (setup_line line) × IsFalse (says_open line)) lines

-- Each line may come after `open`.
abbrev pub AreCalls : List (List ℕ) → Type 0
AreCalls lines = AllByRecursion (λ line. IsSome (call_line line)) lines

-- A script is setup lines, an `open`, and lines in which a `feed` follows each change. Its calls are those of its lines, in order.
-- Otherwise the fault is the first line that isn't valid, or the one past the last if no `open` comes, or no `feed` after a change.
pub data ComesTo : List (List ℕ) → Result Script ℕ → Type 0 where
  asks : (before : List (List ℕ)) (opening : List ℕ) (after : List (List ℕ)) → AreSetup before → IsTrue (says_open opening) → AreCalls after → IsFalse (lack_a_feed after)
      → ComesTo (before ++ opening ∷ after) (Ok (record { ops = filter_map change_in before; keeps = filter_map keep_in before; calls = calls_from [] after }))
  no_setup : (before : List (List ℕ)) (line : List ℕ) (rest : List (List ℕ)) → AreSetup before → setup_line line ≡ None
      → ComesTo (before ++ line ∷ rest) (Err (length before + 1))
  no_open : (before : List (List ℕ)) → AreSetup before → ComesTo before (Err (length before + 1))
  no_call : (before : List (List ℕ)) (opening : List ℕ) (after : List (List ℕ)) (line : List ℕ) (rest : List (List ℕ)) → AreSetup before → IsTrue (says_open opening) → AreCalls after
      → call_line line ≡ None → ComesTo (before ++ opening ∷ (after ++ line ∷ rest)) (Err (length before + 1 + length after + 1))
  no_feed : (before : List (List ℕ)) (opening : List ℕ) (after : List (List ℕ)) → AreSetup before → IsTrue (says_open opening) → AreCalls after → IsTrue (lack_a_feed after)
      → ComesTo (before ++ opening ∷ after) (Err (length before + 1 + length after + 1))
