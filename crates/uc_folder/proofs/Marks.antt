-- Marks never exceed what is durable: so the state after a crash is never taken for damage.
use Rattle.std.proofs.Common.{◌≡◌, ℕ, zero, suc, ◌+◌, ◌≤◌, Bool, true, false, cond, not, ◌&&◌, ◌||◌, eqb, ltb, List, [], ◌∷◌, ◌++◌, append_assoc, length, take, drop, refl, sym, ap, ◌∙◌, subst, arith}
use Rattle.std.specs.Prelude.{⊤, Option, Some, None, max}
use Rattle.std.proofs.lemmas.Bool.{le-ltb, ltb-false}
use Rattle.std.proofs.lemmas.List.{append-nil, length-append}
use Rattle.uc_folder.specs.declared.action.Action.{Action}
use Rattle.uc_folder.specs.declared.action.Action.TheVariants.{Nothing, CreateLog, Append, SyncLog, CutLog, SyncNames, SetAside, CopyLog, SyncCopy, NameCopy, WriteBase, SyncBase, NameBase, RemoveLog, RemoveBase}
use Rattle.uc_folder.specs.Device.{Batch, Record, Whole, Torn, first_whole, whole_part, are_whole, tell_more, are_damaged, records_of, left_of, File, Entry, Device, Keep, crashed, crashed_file, crashed_name, empty_file, appended, synced, suspected, sealed, copied, changed, changed_name, change_log, stands_for, name_log, sync_names, cut, half_cut}
use Rattle.uc_folder.specs.Worlds.{Outcome, Done, NotDone, PartDone, DoneUntold, carried_out, begun, failed, untold, device_after}
use Rattle.uc_folder.proofs.Lists.{length_prefix, at_all}
use Rattle.uc_folder.proofs.Records.{first_prefix, part_whole, whole_take, whole_length}
use Rattle.uc_folder.proofs.Sound.{Each, each_crashed}
use Rattle.uc_folder.proofs.Writing.{all_parts, synced_file, synced_is, synced_all, synced_more}

-- ---- lists of records

or_parts : (a b : Bool) → (a || b) ≡ false → (a ≡ false) × (b ≡ false)
or_parts true b e = absurd (cc)
or_parts false b e = (refl, e)

tell_join : (n : ℕ) (rs ss : List Record) → tell_more n rs ≡ false → tell_more n ss ≡ false → tell_more n (rs ++ ss) ≡ false
tell_join n [] ss e f = f
tell_join n (Whole b mark ∷ rs) ss e f = let both = or_parts (ltb n mark) (tell_more n rs) e in ap (λ t. t || tell_more n (rs ++ ss)) both.0 ∙ tell_join n rs ss both.1 f
tell_join n (Torn ∷ rs) ss e f = tell_join n rs ss e f

tell_front : (n : ℕ) (rs ss : List Record) → tell_more n (rs ++ ss) ≡ false → tell_more n rs ≡ false
tell_front n [] ss e = refl
tell_front n (Whole b mark ∷ rs) ss e = let both = or_parts (ltb n mark) (tell_more n (rs ++ ss)) e in ap (λ t. t || tell_more n rs) both.0 ∙ tell_front n rs ss both.1
tell_front n (Torn ∷ rs) ss e = tell_front n rs ss e

tell_rest : (n : ℕ) (rs ss : List Record) → tell_more n (rs ++ ss) ≡ false → tell_more n ss ≡ false
tell_rest n [] ss e = e
tell_rest n (Whole b mark ∷ rs) ss e = tell_rest n rs ss (or_parts (ltb n mark) (tell_more n (rs ++ ss)) e).1
tell_rest n (Torn ∷ rs) ss e = tell_rest n rs ss e

tell_raised : (n m : ℕ) (rs : List Record) → n ≤ m → tell_more n rs ≡ false → tell_more m rs ≡ false
tell_raised n m [] le e = refl
tell_raised n m (Whole b mark ∷ rs) le e =
    let both = or_parts (ltb n mark) (tell_more n rs) e in
    let few : mark ≤ n = ltb-false n mark both.0 in
    ap (λ t. t || tell_more m rs) (le-ltb m mark (omega (arith, few, le))) ∙ tell_raised n m rs le both.1
tell_raised n m (Torn ∷ rs) le e = tell_raised n m rs le e

tell_taken : (n k : ℕ) (rs : List Record) → tell_more n rs ≡ false → tell_more n (take k rs) ≡ false
tell_taken n zero rs e = refl
tell_taken n (suc k) [] e = refl
tell_taken n (suc k) (Whole b mark ∷ rs) e = let both = or_parts (ltb n mark) (tell_more n rs) e in ap (λ t. t || tell_more n (take k rs)) both.0 ∙ tell_taken n k rs both.1
tell_taken n (suc k) (Torn ∷ rs) e = tell_taken n k rs e

tell_left : (n : ℕ) (whole : ℕ → Bool) (rs : List Record) → tell_more n rs ≡ false → tell_more n (left_of whole rs) ≡ false
tell_left n whole [] e = refl
tell_left n whole (Torn ∷ rs) e = by_test (tell_left n (λ k. whole (suc k)) rs e) (whole 0)
  where
    by_test : tell_more n (left_of (λ k. whole (suc k)) rs) ≡ false → (t : Bool) → tell_more n (cond t Torn Torn ∷ left_of (λ k. whole (suc k)) rs) ≡ false
    by_test rest true = rest
    by_test rest false = rest
tell_left n whole (Whole b mark ∷ rs) e = by_test (or_parts (ltb n mark) (tell_more n rs) e).0 (tell_left n (λ k. whole (suc k)) rs (or_parts (ltb n mark) (tell_more n rs) e).1) (whole 0)
  where
    by_test : ltb n mark ≡ false → tell_more n (left_of (λ k. whole (suc k)) rs) ≡ false → (t : Bool) → tell_more n (cond t (Whole b mark) Torn ∷ left_of (λ k. whole (suc k)) rs) ≡ false
    by_test first rest true = ap (λ t. t || tell_more n (left_of (λ k. whole (suc k)) rs)) first ∙ rest
    by_test first rest false = rest

-- ---- files

-- no mark exceeds what is durable
abbrev pub IsMarked : Option File → Type 0
IsMarked None = ⊤
IsMarked (Some f) = tell_more (length (first_whole f.kept)) (f.kept ++ (f.waiting ++ f.lost)) ≡ false

-- and none of those that are read
marked_read : (n : ℕ) (f : File) → tell_more n (f.kept ++ (f.waiting ++ f.lost)) ≡ false → tell_more n (f.kept ++ f.waiting) ≡ false
marked_read n f is = tell_front n (f.kept ++ f.waiting) f.lost (subst (λ l. tell_more n l ≡ false) (sym (append_assoc f.kept f.waiting f.lost)) is)

pub marked_crashed : (keep : Keep) (o : Option File) → IsMarked o → IsMarked (crashed_name keep o)
marked_crashed keep None is = tt
marked_crashed keep (Some f) is =
    let n = length (first_whole f.kept) in
    let m = length (first_whole (crashed_file keep f).kept) in
    let le : n ≤ m = length_prefix (first_whole f.kept) (first_whole (crashed_file keep f).kept) (first_prefix f.kept (left_of keep.whole (take keep.count (f.waiting ++ f.lost)))) in
    let left = tell_left n keep.whole (take keep.count (f.waiting ++ f.lost)) (tell_taken n keep.count (f.waiting ++ f.lost) (tell_rest n f.kept (f.waiting ++ f.lost) is)) in
    tell_join m (crashed_file keep f).kept [] (tell_raised n m (crashed_file keep f).kept le (tell_join n f.kept (left_of keep.whole (take keep.count (f.waiting ++ f.lost))) (tell_front n f.kept (f.waiting ++ f.lost) is) left)) refl

marked_appended : (r : Record) (f : File) → tell_more (length (first_whole f.kept)) (r ∷ []) ≡ false → IsMarked (Some f) → IsMarked (Some (appended r f))
marked_appended r f fine is =
    let n = length (first_whole f.kept) in
    let lost = tell_rest n f.waiting f.lost (tell_rest n f.kept (f.waiting ++ f.lost) is) in
    let waits = tell_front n f.waiting f.lost (tell_rest n f.kept (f.waiting ++ f.lost) is) in
    tell_join n f.kept ((f.waiting ++ r ∷ []) ++ f.lost) (tell_front n f.kept (f.waiting ++ f.lost) is) (tell_join n (f.waiting ++ r ∷ []) f.lost (tell_join n f.waiting (r ∷ []) waits fine) lost)

-- all records are there after a sync
synced_parts : (n : ℕ) (f : File) (fresh : f.suspect ≡ false) → (synced_file n f fresh).kept ++ ((synced_file n f fresh).waiting ++ f.lost) ≡ f.kept ++ (f.waiting ++ f.lost)
synced_parts n f fresh =
    let g = synced_file n f fresh in
    sym (append_assoc g.kept g.waiting f.lost) ∙ (ap (λ l. l ++ f.lost) (synced_all n f fresh) ∙ append_assoc f.kept f.waiting f.lost)

marked_synced : (n : ℕ) (f : File) → IsMarked (Some f) → IsMarked (Some (synced n f))
marked_synced n f is = by_test f.suspect refl
  where
    by_test : (b : Bool) → f.suspect ≡ b → IsMarked (Some (synced n f))
    by_test true e = subst (λ (t : Bool). IsMarked (Some (cond t f (record f { kept = (synced n (record f { suspect = false })).kept; waiting = (synced n (record f { suspect = false })).waiting })))) (sym e) is
    by_test false fresh =
        subst (λ g. IsMarked (Some g)) (sym (synced_is n f fresh))
        (let g = synced_file n f fresh in
        subst (λ rs. tell_more (length (first_whole g.kept)) rs ≡ false) (sym (synced_parts n f fresh))
        (tell_raised (length (first_whole f.kept)) (length (first_whole g.kept)) (f.kept ++ (f.waiting ++ f.lost)) (length_prefix (first_whole f.kept) (first_whole g.kept) (synced_more n f fresh)) is))

marked_cut : (n : ℕ) (f : File) → IsMarked (Some f) → IsMarked (Some (cut n f))
marked_cut n f is = by_test f.suspect refl
  where
    by_test : (b : Bool) → f.suspect ≡ b → IsMarked (Some (cut n f))
    by_test true e = subst (λ (t : Bool). IsMarked (Some (cond t f (record f { kept = (cut n (record f { suspect = false })).kept; waiting = []; lost = [] })))) (sym e) is
    by_test false fresh =
        let g = synced_file n f fresh in
        let m = length (first_whole g.kept) in
        let h : File = record { kept = g.kept; waiting = []; lost = []; suspect = f.suspect; past = f.past } in
        let same : cut n f ≡ h = ap (λ (t : Bool). cond t f h) fresh in
        let all = tell_raised (length (first_whole f.kept)) m (f.kept ++ f.waiting) (length_prefix (first_whole f.kept) (first_whole g.kept) (synced_more n f fresh)) (marked_read (length (first_whole f.kept)) f is) in
        subst (λ x. IsMarked (Some x)) (sym same) (tell_join m g.kept [] (tell_taken m (max n (length f.kept)) (f.kept ++ f.waiting) all) refl)

-- ---- places

-- no mark exceeds the number of records before its own, from a place on
abbrev pub ArePlaced : ℕ → List Record → Type 0
ArePlaced i [] = ⊤
ArePlaced i (Whole b mark ∷ rs) = (mark ≤ i) × ArePlaced (suc i) rs
ArePlaced i (Torn ∷ rs) = ArePlaced (suc i) rs

placed_join : (i k : ℕ) (rs ss : List Record) → k ≡ i + length rs → ArePlaced i rs → ArePlaced k ss → ArePlaced i (rs ++ ss)
placed_join i k [] ss e is then = let same : k ≡ i = omega (arith, e) in subst (λ n. ArePlaced n ss) same then
placed_join i k (Whole b mark ∷ rs) ss e is then = (is.0, placed_join (suc i) k rs ss (omega (arith, e)) is.1 then)
placed_join i k (Torn ∷ rs) ss e is then = placed_join (suc i) k rs ss (omega (arith, e)) is then

placed_front : (i : ℕ) (rs ss : List Record) → ArePlaced i (rs ++ ss) → ArePlaced i rs
placed_front i [] ss is = tt
placed_front i (Whole b mark ∷ rs) ss is = (is.0, placed_front (suc i) rs ss is.1)
placed_front i (Torn ∷ rs) ss is = placed_front (suc i) rs ss is

placed_rest : (i k : ℕ) (rs ss : List Record) → k ≡ i + length rs → ArePlaced i (rs ++ ss) → ArePlaced k ss
placed_rest i k [] ss e is = let same : i ≡ k = omega (arith, e) in subst (λ n. ArePlaced n ss) same is
placed_rest i k (Whole b mark ∷ rs) ss e is = placed_rest (suc i) k rs ss (omega (arith, e)) is.1
placed_rest i k (Torn ∷ rs) ss e is = placed_rest (suc i) k rs ss (omega (arith, e)) is

placed_taken : (i k : ℕ) (rs : List Record) → ArePlaced i rs → ArePlaced i (take k rs)
placed_taken i zero rs is = tt
placed_taken i (suc k) [] is = tt
placed_taken i (suc k) (Whole b mark ∷ rs) is = (is.0, placed_taken (suc i) k rs is.1)
placed_taken i (suc k) (Torn ∷ rs) is = placed_taken (suc i) k rs is

placed_part : (i : ℕ) (rs : List Record) → ArePlaced i rs → ArePlaced i (whole_part rs)
placed_part i [] is = tt
placed_part i (Whole b mark ∷ rs) is = (is.0, placed_part (suc i) rs is.1)
placed_part i (Torn ∷ rs) is = tt

placed_left : (i : ℕ) (whole : ℕ → Bool) (rs : List Record) → ArePlaced i rs → ArePlaced i (left_of whole rs)
placed_left i whole [] is = tt
placed_left i whole (Torn ∷ rs) is = by_test (placed_left (suc i) (λ k. whole (suc k)) rs is) (whole 0)
  where
    by_test : ArePlaced (suc i) (left_of (λ k. whole (suc k)) rs) → (t : Bool) → ArePlaced i (cond t Torn Torn ∷ left_of (λ k. whole (suc k)) rs)
    by_test rest true = rest
    by_test rest false = rest
placed_left i whole (Whole b mark ∷ rs) is = by_test is.0 (placed_left (suc i) (λ k. whole (suc k)) rs is.1) (whole 0)
  where
    by_test : mark ≤ i → ArePlaced (suc i) (left_of (λ k. whole (suc k)) rs) → (t : Bool) → ArePlaced i (cond t (Whole b mark) Torn ∷ left_of (λ k. whole (suc k)) rs)
    by_test le rest true = (le, rest)
    by_test le rest false = rest

-- so the first records tell of no others
placed_tells : (i n : ℕ) (rs : List Record) → i + length rs ≤ n → ArePlaced i rs → tell_more n rs ≡ false
placed_tells i n [] le is = refl
placed_tells i n (Whole b mark ∷ rs) le is = let few = is.0 in ap (λ t. t || tell_more n rs) (le-ltb n mark (omega (arith, few, le))) ∙ placed_tells (suc i) n rs (omega (arith, le)) is.1
placed_tells i n (Torn ∷ rs) le is = placed_tells (suc i) n rs (omega (arith, le)) is

first_short : (rs : List Record) → length (first_whole rs) ≤ length rs
first_short [] = omega arith
first_short (Whole b mark ∷ rs) = let le = first_short rs in omega (arith, le)
first_short (Torn ∷ rs) = omega arith

abbrev pub IsPlaced : Option File → Type 0
IsPlaced None = ⊤
IsPlaced (Some f) = ArePlaced 0 (f.kept ++ (f.waiting ++ f.lost))

placed_raised : (i k : ℕ) (rs : List Record) → i ≤ k → ArePlaced i rs → ArePlaced k rs
placed_raised i k [] le is = tt
placed_raised i k (Whole b mark ∷ rs) le is = (let few = is.0 in omega (arith, few, le), placed_raised (suc i) (suc k) rs (omega (arith, le)) is.1)
placed_raised i k (Torn ∷ rs) le is = placed_raised (suc i) (suc k) rs (omega (arith, le)) is

placed_read : (f : File) → IsPlaced (Some f) → ArePlaced 0 (f.kept ++ f.waiting)
placed_read f is = placed_front 0 (f.kept ++ f.waiting) f.lost (subst (ArePlaced 0) (sym (append_assoc f.kept f.waiting f.lost)) is)

placed_lost : (f : File) → IsPlaced (Some f) → ArePlaced (length (f.kept ++ f.waiting)) f.lost
placed_lost f is = placed_rest 0 (length (f.kept ++ f.waiting)) (f.kept ++ f.waiting) f.lost (omega arith) (subst (ArePlaced 0) (sym (append_assoc f.kept f.waiting f.lost)) is)

placed_crashed : (keep : Keep) (o : Option File) → IsPlaced o → IsPlaced (crashed_name keep o)
placed_crashed keep None is = tt
placed_crashed keep (Some f) is =
    let left = placed_left (length f.kept) keep.whole (take keep.count (f.waiting ++ f.lost)) (placed_taken (length f.kept) keep.count (f.waiting ++ f.lost) (placed_rest 0 (length f.kept) f.kept (f.waiting ++ f.lost) (omega arith) is)) in
    subst (ArePlaced 0) (sym (append-nil (crashed_file keep f).kept)) (placed_join 0 (length f.kept) f.kept (left_of keep.whole (take keep.count (f.waiting ++ f.lost))) (omega arith) (placed_front 0 f.kept (f.waiting ++ f.lost) is) left)

placed_appended : (r : Record) (f : File) → ArePlaced (length (f.kept ++ f.waiting)) (r ∷ []) → IsPlaced (Some f) → IsPlaced (Some (appended r f))
placed_appended r f fine is =
    let all = f.kept ++ f.waiting in
    let more = placed_join 0 (length all) all (r ∷ []) (omega arith) (placed_read f is) fine in
    let size = length-append all (r ∷ []) in
    let whole = placed_join 0 (length (all ++ r ∷ [])) (all ++ r ∷ []) f.lost (omega arith) more (placed_raised (length all) (length (all ++ r ∷ [])) f.lost (omega (arith, size)) (placed_lost f is)) in
    subst (ArePlaced 0) (append_assoc f.kept (f.waiting ++ r ∷ []) f.lost) (subst (λ l. ArePlaced 0 (l ++ f.lost)) (append_assoc f.kept f.waiting (r ∷ [])) whole)

placed_synced : (n : ℕ) (f : File) → IsPlaced (Some f) → IsPlaced (Some (synced n f))
placed_synced n f is = by_test f.suspect refl
  where
    by_test : (b : Bool) → f.suspect ≡ b → IsPlaced (Some (synced n f))
    by_test true e = subst (λ (t : Bool). IsPlaced (Some (cond t f (record f { kept = (synced n (record f { suspect = false })).kept; waiting = (synced n (record f { suspect = false })).waiting })))) (sym e) is
    by_test false fresh = subst (λ g. IsPlaced (Some g)) (sym (synced_is n f fresh)) (subst (ArePlaced 0) (sym (synced_parts n f fresh)) is)

placed_cut : (n : ℕ) (f : File) → IsPlaced (Some f) → IsPlaced (Some (cut n f))
placed_cut n f is = by_test f.suspect refl
  where
    by_test : (b : Bool) → f.suspect ≡ b → IsPlaced (Some (cut n f))
    by_test true e = subst (λ (t : Bool). IsPlaced (Some (cond t f (record f { kept = (cut n (record f { suspect = false })).kept; waiting = []; lost = [] })))) (sym e) is
    by_test false fresh =
        let g = synced_file n f fresh in
        let h : File = record { kept = g.kept; waiting = []; lost = []; suspect = f.suspect; past = f.past } in
        let same : cut n f ≡ h = ap (λ (t : Bool). cond t f h) fresh in
        subst (λ x. IsPlaced (Some x)) (sym same) (subst (ArePlaced 0) (sym (append-nil g.kept)) (placed_taken 0 (max n (length f.kept)) (f.kept ++ f.waiting) (placed_read f is)))

-- a cut of which only the sync fails takes no record from the device
half_cut_is : (P : Option File → Type 0) (n : ℕ) (f : File) → P (Some (suspected (cut n f))) →
    P (Some (record f { waiting = drop (length f.kept) (take (max n (length f.kept)) (f.kept ++ f.waiting)); lost = drop (max n (length f.kept)) (f.kept ++ f.waiting); suspect = true })) → P (Some (half_cut n f))
half_cut_is P n f whole half = by_test (f.suspect || eqb n 0)
  where
    by_test : (b : Bool) → P (Some (cond b (suspected (cut n f)) (record f { waiting = drop (length f.kept) (take (max n (length f.kept)) (f.kept ++ f.waiting)); lost = drop (max n (length f.kept)) (f.kept ++ f.waiting); suspect = true })))
    by_test true = whole
    by_test false = half

marked_half : (n : ℕ) (f : File) → IsMarked (Some f) → IsMarked (Some (half_cut n f))
marked_half n f is =
    half_cut_is IsMarked n f (marked_cut n f is)
    (subst (λ l. tell_more (length (first_whole f.kept)) l ≡ false) (sym (all_parts (max n (length f.kept)) f.kept f.waiting (omega arith))) (marked_read (length (first_whole f.kept)) f is))

placed_half : (n : ℕ) (f : File) → IsPlaced (Some f) → IsPlaced (Some (half_cut n f))
placed_half n f is =
    half_cut_is IsPlaced n f (placed_cut n f is) (subst (ArePlaced 0) (sym (all_parts (max n (length f.kept)) f.kept f.waiting (omega arith))) (placed_read f is))

placed_copied : (n : ℕ) (o : Option File) → IsPlaced o → ArePlaced 0 (take n (whole_part (records_of o)))
placed_copied n None is = placed_taken 0 n [] tt
placed_copied n (Some f) is = placed_taken 0 n (whole_part (f.kept ++ f.waiting)) (placed_part 0 (f.kept ++ f.waiting) (placed_read f is))

-- so no file is taken for a damaged one
pub marked_whole : (o : Option File) → IsMarked o → are_damaged (records_of o) ≡ false
marked_whole None is = refl
marked_whole (Some f) is =
    let n = length (first_whole f.kept) in
    let m = length (first_whole (f.kept ++ f.waiting)) in
    none (not (are_whole (f.kept ++ f.waiting))) (tell_more m (f.kept ++ f.waiting)) (tell_raised n m (f.kept ++ f.waiting) (length_prefix (first_whole f.kept) (first_whole (f.kept ++ f.waiting)) (first_prefix f.kept f.waiting)) (marked_read n f is))
  where
    none : (a b : Bool) → b ≡ false → (a && b) ≡ false
    none true b e = e
    none false b e = refl

-- ---- folders

-- of the copy, once all of it is on the device
abbrev pub IsCopyMarked : File → Type 0
IsCopyMarked f = tell_more (length (first_whole (f.kept ++ f.waiting))) (f.kept ++ f.waiting) ≡ false

pub record AreMarked (d : Device) : Type 0 where
  pub logs : (k : ℕ) → Each IsMarked (d.logs k)
  pub copy : IsCopyMarked d.copy
  pub placed : (k : ℕ) → Each IsPlaced (d.logs k)
  pub copy_placed : ArePlaced 0 (d.copy.kept ++ d.copy.waiting)

pub marks_crashed : (d : Device) (logs bases : ℕ → Keep) → AreMarked d → AreMarked (crashed logs bases d)
marks_crashed d logs bases are = record { logs = λ k. each_crashed IsMarked marked_crashed (logs k) (d.logs k) (are.logs k); copy = refl; placed = λ k. each_crashed IsPlaced placed_crashed (logs k) (d.logs k) (are.placed k); copy_placed = tt }

pub marks_changed : (n : ℕ) (change : File → File) (d : Device) → ((f : File) → (d.logs n).now ≡ Some f → IsMarked (Some f) → IsMarked (Some (change f))) →
    ((f : File) → (d.logs n).now ≡ Some f → IsPlaced (Some f) → IsPlaced (Some (change f))) → AreMarked d → AreMarked (change_log n change d)
marks_changed n change d stays places are = record {
  logs = λ k. at_all (λ i (e : Entry). Each IsMarked e) n (changed change (d.logs n)) d.logs k (λ e. (here (d.logs n).now refl (are.logs n).0, (are.logs n).1)) (λ ne. are.logs k);
  copy = are.copy;
  placed = λ k. at_all (λ i (e : Entry). Each IsPlaced e) n (changed change (d.logs n)) d.logs k (λ e. (there (d.logs n).now refl (are.placed n).0, (are.placed n).1)) (λ ne. are.placed k);
  copy_placed = are.copy_placed;
}
  where
    here : (o : Option File) → (d.logs n).now ≡ o → IsMarked o → IsMarked (changed_name change o)
    here None e is = tt
    here (Some f) e is = stays f e is

    there : (o : Option File) → (d.logs n).now ≡ o → IsPlaced o → IsPlaced (changed_name change o)
    there None e is = tt
    there (Some f) e is = places f e is

marks_named : (n : ℕ) (o : Option File) (d : Device) → IsMarked o → IsPlaced o → AreMarked d → AreMarked (name_log n o d)
marks_named n o d is placed are = record {
  logs = λ k. at_all (λ i (e : Entry). Each IsMarked e) n (stands_for o (d.logs n)) d.logs k (λ e. (is, ((are.logs n).0, (are.logs n).1))) (λ ne. are.logs k);
  copy = are.copy;
  placed = λ k. at_all (λ i (e : Entry). Each IsPlaced e) n (stands_for o (d.logs n)) d.logs k (λ e. (placed, ((are.placed n).0, (are.placed n).1))) (λ ne. are.placed k);
  copy_placed = are.copy_placed;
}

copied_marked : (n : ℕ) (o : Option File) → IsPlaced o → IsCopyMarked (copied n o)
copied_marked n o is =
    let rs = take n (whole_part (records_of o)) in
    let size = whole_length rs (whole_take n (whole_part (records_of o)) (part_whole (records_of o))) in
    placed_tells 0 (length (first_whole rs)) rs (omega (arith, size)) (placed_copied n o is)

sealed_marked : (f : File) → IsCopyMarked f → IsCopyMarked (sealed f)
sealed_marked f is = subst (λ rs. tell_more (length (first_whole rs)) rs ≡ false) (sym (append-nil (f.kept ++ f.waiting))) is

-- the condition of an operation
abbrev pub IsFine : Device → Action → Type 0
IsFine d (Append k mark) = (f : File) → (d.logs k).now ≡ Some f → mark ≤ length (first_whole f.kept)
IsFine d (NameCopy k) = (d.copy.waiting ≡ []) × (d.copy.lost ≡ [])
IsFine d a = ⊤

pub marks_synced : (d : Device) → AreMarked d → AreMarked (sync_names d)
marks_synced d are = record { logs = λ k. ((are.logs k).0, tt); copy = are.copy; placed = λ k. ((are.placed k).0, tt); copy_placed = are.copy_placed }

done_marked : (batch : Batch) (parts : ℕ → List Batch) (d : Device) (a : Action) → IsFine d a → AreMarked d → AreMarked (carried_out batch parts d a)
done_marked batch parts d Nothing fine are = are
done_marked batch parts d (CreateLog k) fine are = marks_named k (Some empty_file) d refl tt are
done_marked batch parts d (Append k mark) fine are =
    marks_changed k (appended (Whole batch mark)) d (λ f e is. marked_appended (Whole batch mark) f (let le = fine f e in ap (λ t. t || false) (le-ltb (length (first_whole f.kept)) mark le)) is)
    (λ f e is. placed_appended (Whole batch mark) f (let le = fine f e in let few = first_short f.kept in let all = length-append f.kept f.waiting in (omega (arith, le, few, all), tt)) is) are
done_marked batch parts d (SyncLog k n) fine are = marks_changed k (synced n) d (λ f e is. marked_synced n f is) (λ f e is. placed_synced n f is) are
done_marked batch parts d (CutLog k n) fine are = marks_changed k (cut n) d (λ f e is. marked_cut n f is) (λ f e is. placed_cut n f is) are
done_marked batch parts d SyncNames fine are = marks_synced d are
done_marked batch parts d (SetAside k) fine are = are
done_marked batch parts d (CopyLog k n) fine are = record { logs = are.logs; copy = copied_marked n (d.logs k).now (are.placed k).0; placed = are.placed; copy_placed = placed_copied n (d.logs k).now (are.placed k).0 }
done_marked batch parts d SyncCopy fine are =
    record { logs = are.logs; copy = sealed_marked d.copy are.copy; placed = are.placed; copy_placed = subst (ArePlaced 0) (sym (append-nil (d.copy.kept ++ d.copy.waiting))) are.copy_placed }
done_marked batch parts d (NameCopy k) fine are =
    let none : d.copy.kept ++ d.copy.waiting ≡ d.copy.kept = ap (λ l. d.copy.kept ++ l) fine.0 ∙ append-nil d.copy.kept in
    let same : d.copy.kept ++ d.copy.waiting ≡ d.copy.kept ++ (d.copy.waiting ++ d.copy.lost) =
    sym (append-nil (d.copy.kept ++ d.copy.waiting)) ∙ (ap (λ l. (d.copy.kept ++ d.copy.waiting) ++ l) (sym fine.1) ∙ append_assoc d.copy.kept d.copy.waiting d.copy.lost) in
    marks_named k (Some d.copy) d
    (subst (λ rs. tell_more (length (first_whole d.copy.kept)) rs ≡ false) same (subst (λ rs. tell_more (length (first_whole rs)) (d.copy.kept ++ d.copy.waiting) ≡ false) none are.copy))
    (subst (ArePlaced 0) same are.copy_placed) are
done_marked batch parts d (WriteBase n past) fine are = record { logs = are.logs; copy = are.copy; placed = are.placed; copy_placed = are.copy_placed }
done_marked batch parts d SyncBase fine are = record { logs = are.logs; copy = are.copy; placed = are.placed; copy_placed = are.copy_placed }
done_marked batch parts d (NameBase n past) fine are = record { logs = are.logs; copy = are.copy; placed = are.placed; copy_placed = are.copy_placed }
done_marked batch parts d (RemoveLog k) fine are = marks_named k None d tt tt are
done_marked batch parts d (RemoveBase k) fine are = record { logs = are.logs; copy = are.copy; placed = are.placed; copy_placed = are.copy_placed }

failed_marked : (d : Device) (a : Action) → AreMarked d → AreMarked (failed d a)
failed_marked d (SyncLog k n) are = marks_changed k suspected d (λ f e is. is) (λ f e is. is) are
failed_marked d (CutLog k n) are = marks_changed k suspected d (λ f e is. is) (λ f e is. is) are
failed_marked d a are = are

begun_marked : (d : Device) (a : Action) → AreMarked d → AreMarked (begun d a)
begun_marked d (Append k mark) are = marks_changed k (appended Torn) d (λ f e is. marked_appended Torn f refl is) (λ f e is. placed_appended Torn f tt is) are
begun_marked d (SyncLog k n) are = marks_changed k suspected d (λ f e is. is) (λ f e is. is) are
begun_marked d (CutLog k n) are = marks_changed k suspected d (λ f e is. is) (λ f e is. is) are
begun_marked d a are = are

untold_marked : (batch : Batch) (parts : ℕ → List Batch) (d : Device) (a : Action) → IsFine d a → AreMarked d → AreMarked (untold batch parts d a)
untold_marked batch parts d (CutLog k n) fine are = marks_changed k (half_cut n) d (λ f e is. marked_half n f is) (λ f e is. placed_half n f is) are
untold_marked batch parts d (SyncLog k n) fine are = failed_marked (carried_out batch parts d (SyncLog k n)) (SyncLog k n) (done_marked batch parts d (SyncLog k n) fine are)
untold_marked batch parts d a fine are = failed_marked (carried_out batch parts d a) a (done_marked batch parts d a fine are)

pub marks_after : (o : Outcome) (batch : Batch) (parts : ℕ → List Batch) (d : Device) (a : Action) → IsFine d a → AreMarked d → AreMarked (device_after o batch parts d a)
marks_after Done batch parts d a fine are = done_marked batch parts d a fine are
marks_after NotDone batch parts d a fine are = failed_marked d a are
marks_after PartDone batch parts d a fine are = begun_marked d a are
marks_after DoneUntold batch parts d a fine are = untold_marked batch parts d a fine are

pub marks_reread : (n : ℕ) (keep : Keep) (d : Device) → AreMarked d → AreMarked (change_log n (crashed_file keep) d)
marks_reread n keep d are = marks_changed n (crashed_file keep) d (λ f e is. marked_crashed keep (Some f) is) (λ f e is. placed_crashed keep (Some f) is) are

-- a name stands for one file
pub same_file : (n : ℕ) (o : Option File) (f g : File) → o ≡ Some f → o ≡ Some g → n ≤ length (first_whole f.kept) → n ≤ length (first_whole g.kept)
same_file n o f g e e' le = subst (λ (x : Option File). n ≤ length (kept_of x)) (sym e ∙ e') le
  where
    kept_of : Option File → List Batch
    kept_of None = []
    kept_of (Some h) = first_whole h.kept
