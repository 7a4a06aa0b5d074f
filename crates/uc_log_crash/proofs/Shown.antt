-- Reading the shown bytes of a log, compared with a walk through the written ones.
use Rattle.std.proofs.Common.{◌≡◌, ℕ, ◌+◌, ◌≤◌, List, [], ◌∷◌, ◌++◌, drop, sym, ap, subst, ◌∙◌, append_assoc, arith}
use Rattle.std.proofs.lemmas.List.{append-nil, take-append-drop}
use Rattle.uc_logrec.specs.Walk.{Walks, one_more, cut_and_added}
use Rattle.uc_log_crash.specs.Shown.{Shows, IsUnforged, ReadsOn, nothing, one_more as read_one}
use Rattle.uc_log_crash.specs.Marks.{Tells, AreTrue, AreOwn}

-- what is shown is the log, cut at the synced offset, and other bytes
pub is_cut : (written shown : List ℕ) (synced : ℕ) → Shows written synced shown → cut_and_added written synced (drop synced shown) ≡ shown
is_cut written shown synced shows = ap (λ (front : List ℕ). front ++ drop synced shown) (sym shows) ∙ take-append-drop synced shown

-- a walk never goes back
reads_onward : (shown : List ℕ) (before : List (List ℕ)) (from : ℕ) (found : List (List ℕ)) (end : ℕ) → ReadsOn shown before from found end → from ≤ end
reads_onward shown before from found end nothing = omega arith
reads_onward shown before from found end (read_one some offset payload after writes on lies next) = omega (arith, reads_onward shown before from some offset on, lies.later)

pub were_written : (written shown : List ℕ) (synced : ℕ) (before found : List (List ℕ)) (end : ℕ) → Walks written before synced → IsUnforged written synced shown → ReadsOn shown before synced found end → Walks written (before ++ found) end
were_written written shown synced before found end walk unforged nothing = subst (λ (ps : List (List ℕ)). Walks written ps synced) (sym (append-nil before)) walk
were_written written shown synced before found end walk unforged (read_one some offset payload after writes on lies next) =
    let so_far = were_written written shown synced before some offset walk unforged on in
    let own = unforged (before ++ some) offset after payload writes so_far (reads_onward shown before synced some offset on) lies next in
    subst (λ (ps : List (List ℕ)). Walks written ps after) (append_assoc before some (payload ∷ [])) (one_more (before ++ some) offset payload after so_far own)

-- a mark that is shown was written, and is true
pub none_tells : (written shown : List ℕ) (synced last end offset : ℕ) → AreTrue written synced → AreOwn written synced last shown → synced ≤ end → end ≤ offset → Tells shown end last offset → ⊥
none_tells written shown synced last end offset marks own le after told =
    let there = own told.payload offset told.after told.unsynced (omega (arith, le, after)) told.lies told.later told.mark in
    let most : offset ≤ synced + told.unsynced = marks told.payload offset told.after told.unsynced there told.mark in
    omega (arith, le, most, told.beyond)
