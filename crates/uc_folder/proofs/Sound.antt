-- The folder between any two operations, whatever the machine does: a crash leaves one that can be opened.
use Rattle.std.proofs.Common.{length, ◌≡◌, ℕ, ◌<◌, ◌≤◌, true, false, ◌⊎◌, inl, inr, ⊎_elim, List, [], ◌∷◌, ◌++◌, get_or, take, refl, sym, ap, ◌∙◌, subst}
use Rattle.std.specs.Prelude.{⊤, Option, Some, None}
use Rattle.std.specs.List.{AllByRecursion}
use Rattle.std.proofs.lemmas.List.{append-nil}
use Rattle.uc_folder.specs.Device.{Batch, first_whole, are_whole, left_of, File, Entry, Device, Keep, first_number, crashed, crashed_file, crashed_name, crashed_entry, is_cut, is_used, upto}
use Rattle.uc_folder.specs.Worlds.{IsPrefixOf}
use Rattle.uc_folder.proofs.Lists.{prefix_refl, prefix_trans, prefix_under, prefix_of_nil, all_at, all_weaker}
use Rattle.uc_folder.proofs.Records.{first_prefix, left_prefix, take_none}

-- ---- the files of a name

-- a file has just these batches, all on the device
pub record IsWhole (xs : List Batch) (f : File) : Type 0 where
  pub kept : first_whole f.kept ≡ xs
  pub whole : are_whole f.kept ≡ true
  pub waiting : f.waiting ≡ []
  pub lost : f.lost ≡ []

-- A base of a number: what the logs before that have, and the beginning of that log's. All of it is on the device in the logs, too.
pub record IsBaseFile (all before own : List Batch) (f : File) : Type 0 where
  pub front : List Batch
  pub file : IsWhole (before ++ front) f
  pub past : f.past ≡ length front
  pub part : IsPrefixOf front own
  pub firm : IsPrefixOf (before ++ front) all

-- a base of a number, up to the log that is written
abbrev pub IsBase : List Batch → (ℕ → List Batch) → ℕ → ℕ → Option File → Type 0
IsBase firm parts log k None = ⊤
IsBase firm parts log k (Some f) = (k ≤ log) × IsBaseFile firm (upto parts k) (parts k) f

abbrev pub IsThere : Option File → Type 0
IsThere None = ⊥
IsThere (Some f) = ⊤

abbrev pub IsGone : Option File → Type 0
IsGone None = ⊤
IsGone (Some f) = ⊥

-- an older log
abbrev pub IsLog : List Batch → Option File → Type 0
IsLog part None = ⊥
IsLog part (Some f) = IsWhole part f

-- nothing, or a file of which nothing is read
abbrev pub IsUnused : Option File → Type 0
IsUnused None = ⊤
IsUnused (Some f) = first_whole (f.kept ++ (f.waiting ++ f.lost)) ≡ []

-- The log that is written, after what came before it. Records that are lost are among those that were submitted.
abbrev pub IsLast : List Batch → List Batch → List Batch → Option File → Type 0
IsLast firm before part None = IsPrefixOf firm before
IsLast firm before part (Some f) = IsPrefixOf (first_whole (f.kept ++ (f.waiting ++ f.lost))) part × IsPrefixOf firm (before ++ first_whole f.kept)

-- the batches that may be read of a file for which the name of a log stood before: none, if the log is gone
abbrev pub spared : Option File → List Batch → List Batch
spared None part = []
spared (Some f) part = part

-- whatever a crash leaves of a name
abbrev pub Each : (Option File → Type 0) → Entry → Type 0
Each P e = P e.now × AllByRecursion P e.before

-- The base of the number `sure` is there after each crash. The logs from there to the one that is written are whole and on
-- the device. That one has a beginning of its part. What is firm is there after each crash: all that was acknowledged, and all that a base has.
pub record Sound (d : Device) (log sure : ℕ) (parts : ℕ → List Batch) (firm : List Batch) : Type 0 where
  pub bases : (k : ℕ) → Each (IsBase firm parts log k) (d.bases k)
  pub newer : (k : ℕ) → sure ≤ k → IsGone (d.bases k).now → AllByRecursion IsGone (d.bases k).before
  pub there : (sure ≡ first_number) ⊎ Each IsThere (d.bases sure)
  pub first : first_number ≤ sure
  pub reached : sure ≤ log
  pub older : (k : ℕ) → sure ≤ k → k < log → IsLog (parts k) (d.logs k).now × ((d.logs k).before ≡ [])
  pub last : IsLast firm (upto parts log) (parts log) (d.logs log).now
  pub spare : AllByRecursion (IsLast firm (upto parts log) (spared (d.logs log).now (parts log))) (d.logs log).before
  pub begun : first_number < log → Each IsThere (d.logs log)
  pub cut : is_cut (d.logs log).now ≡ true → is_used (d.logs log).now ≡ true
  pub later : (k : ℕ) → log < k → Each IsUnused (d.logs k)
  pub named : log ≤ d.names
  pub stands : IsPrefixOf (upto parts log) firm
  pub none : parts 0 ≡ []

-- ---- a crash

-- a fact of each file that a name may stand for, which stays if a crash takes from it, holds of the file that a crash leaves
pub each_crashed : (P : Option File → Type 0) → ((keep : Keep) (o : Option File) → P o → P (crashed_name keep o)) → (keep : Keep) (e : Entry) → Each P e → Each P (crashed_entry keep e)
each_crashed P stays keep e each = (stays keep (get_or (e.now ∷ e.before) keep.which e.now) (all_at P (e.now ∷ e.before) keep.which e.now each.0 (each.0, each.1)), tt)

pub whole_crashed : (xs : List Batch) (keep : Keep) (f : File) → IsWhole xs f → IsWhole xs (crashed_file keep f)
whole_crashed xs keep f is =
    let rest : f.waiting ++ f.lost ≡ [] = ap (λ l. l ++ f.lost) is.waiting ∙ is.lost in
    let none : left_of keep.whole (take keep.count (f.waiting ++ f.lost)) ≡ [] = ap (λ l. left_of keep.whole (take keep.count l)) rest ∙ ap (left_of keep.whole) (take_none keep.count) in
    let same : f.kept ++ left_of keep.whole (take keep.count (f.waiting ++ f.lost)) ≡ f.kept = ap (λ l. f.kept ++ l) none ∙ append-nil f.kept in
    record { kept = ap first_whole same ∙ is.kept; whole = ap are_whole same ∙ is.whole; waiting = refl; lost = refl }

pub base_crashed : (firm : List Batch) (parts : ℕ → List Batch) (log k : ℕ) (keep : Keep) (o : Option File) → IsBase firm parts log k o → IsBase firm parts log k (crashed_name keep o)
base_crashed firm parts log k keep None is = tt
base_crashed firm parts log k keep (Some f) is =
    (is.0, record { front = is.1.front; file = whole_crashed (upto parts k ++ is.1.front) keep f is.1.file; past = is.1.past; part = is.1.part; firm = is.1.firm })

pub there_crashed : (keep : Keep) (o : Option File) → IsThere o → IsThere (crashed_name keep o)
there_crashed keep None is = is
there_crashed keep (Some f) is = tt

log_crashed : (part : List Batch) (keep : Keep) (o : Option File) → IsLog part o → IsLog part (crashed_name keep o)
log_crashed part keep None is = is
log_crashed part keep (Some f) is = whole_crashed part keep f is

-- no more is read after a crash
crashed_reads : (keep : Keep) (f : File) → IsPrefixOf (first_whole ((crashed_file keep f).kept ++ [])) (first_whole (f.kept ++ (f.waiting ++ f.lost)))
crashed_reads keep f =
    subst (λ l. IsPrefixOf (first_whole l) (first_whole (f.kept ++ (f.waiting ++ f.lost)))) (sym (append-nil (crashed_file keep f).kept)) (left_prefix f.kept (f.waiting ++ f.lost) keep.whole keep.count)

unused_crashed : (keep : Keep) (o : Option File) → IsUnused o → IsUnused (crashed_name keep o)
unused_crashed keep None is = tt
unused_crashed keep (Some f) is =
    prefix_of_nil (first_whole ((crashed_file keep f).kept ++ [])) (subst (IsPrefixOf (first_whole ((crashed_file keep f).kept ++ []))) is (crashed_reads keep f))

pub last_crashed : (firm before part : List Batch) (keep : Keep) (o : Option File) → IsLast firm before part o → IsLast firm before part (crashed_name keep o)
last_crashed firm before part keep None is = is
last_crashed firm before part keep (Some f) is = (
  prefix_trans (first_whole ((crashed_file keep f).kept ++ [])) (first_whole (f.kept ++ (f.waiting ++ f.lost))) part (crashed_reads keep f) is.0,
  prefix_trans firm (before ++ first_whole f.kept) (before ++ first_whole (crashed_file keep f).kept) is.1
      (prefix_under before (first_whole f.kept) (first_whole (crashed_file keep f).kept) (first_prefix f.kept (left_of keep.whole (take keep.count (f.waiting ++ f.lost))))),
)

pub last_weaker : (firm before part more : List Batch) → IsPrefixOf part more → (o : Option File) → IsLast firm before part o → IsLast firm before more o
last_weaker firm before part more le None is = is
last_weaker firm before part more le (Some f) is = (prefix_trans (first_whole (f.kept ++ (f.waiting ++ f.lost))) part more is.0 le, is.1)

pub spared_part : (part : List Batch) (o : Option File) → IsPrefixOf (spared o part) part
spared_part part None = (part, refl)
spared_part part (Some f) = prefix_refl part

-- a file that a log may have been before may also be the log
pub last_each : (firm before part : List Batch) (e : Entry) → IsLast firm before part e.now → AllByRecursion (IsLast firm before (spared e.now part)) e.before → Each (IsLast firm before part) e
last_each firm before part e now spare =
    (now, all_weaker (IsLast firm before (spared e.now part)) (IsLast firm before part) (last_weaker firm before (spared e.now part) part (spared_part part e.now)) e.before spare)

older_crashed : (part : List Batch) (keep : Keep) (e : Entry) → IsLog part e.now × (e.before ≡ []) → IsLog part (crashed_entry keep e).now × ((crashed_entry keep e).before ≡ [])
older_crashed part keep e is = ((each_crashed (IsLog part) (log_crashed part) keep e (is.0, subst (AllByRecursion (IsLog part)) (sym is.1) tt)).0, refl)

-- after a crash no record is lost
pub uncut_name : (keep : Keep) (o : Option File) → is_cut (crashed_name keep o) ≡ false
uncut_name keep None = refl
uncut_name keep (Some f) = refl

module _ (d : Device) (log sure : ℕ) (parts : ℕ → List Batch) (firm : List Batch) (sound : Sound d log sure parts firm) where
  pub crash_sound : (logs bases : ℕ → Keep) → Sound (crashed logs bases d) log sure parts firm
  crash_sound logs bases = record {
    bases = λ k. each_crashed (IsBase firm parts log k) (base_crashed firm parts log k) (bases k) (d.bases k) (sound.bases k);
    newer = λ k le gone. tt;
    there = ⊎_elim (λ (e : sure ≡ first_number). inl e) (λ (is : Each IsThere (d.bases sure)). inr (each_crashed IsThere there_crashed (bases sure) (d.bases sure) is)) sound.there;
    first = sound.first;
    reached = sound.reached;
    older = λ k le lt. older_crashed (parts k) (logs k) (d.logs k) (sound.older k le lt);
    last = (each_crashed (IsLast firm (upto parts log) (parts log)) (last_crashed firm (upto parts log) (parts log)) (logs log) (d.logs log) (last_each firm (upto parts log) (parts log) (d.logs log) sound.last sound.spare)).0;
    spare = tt;
    begun = λ lt. each_crashed IsThere there_crashed (logs log) (d.logs log) (sound.begun lt);
    cut = λ e. absurd (let x : true ≡ false = sym e ∙ uncut_name (logs log) (get_or ((d.logs log).now ∷ (d.logs log).before) (logs log).which (d.logs log).now) in cc);
    later = λ k lt. each_crashed IsUnused unused_crashed (logs k) (d.logs k) (sound.later k lt);
    named = sound.named;
    stands = sound.stands;
    none = sound.none;
  }
