-- The writer's steps have this in common: another phase, and another folder.
use Rattle.std.proofs.Common.{◌≡◌, ℕ, zero, suc, ◌<◌, ◌≤◌, Bool, true, false, cond, List, [], ◌∷◌, ◌++◌, append_assoc, length, take, drop, refl, sym, ap, ◌∙◌, subst, arith}
use Rattle.std.specs.Prelude.{Option, Some, None, max}
use Rattle.std.specs.List.{AllByRecursion}
use Rattle.std.proofs.lemmas.List.{take-append-le, take-append-drop, length-append}
use Rattle.uc_folder.specs.declared.machine.Machine.{Machine}
use Rattle.uc_folder.specs.declared.phases.Writer.{Writer}
use Rattle.uc_folder.specs.declared.phases.Writer.TheVariants.{Making, Founding, Naming, Clearing, SettingAside, Copying, SealingCopy, Replacing, Settling, Ready, Appending, Mending, Syncing, Both, Spoiled, Closing, Failed}
use Rattle.uc_folder.specs.declared.phases.NextLog.{NextLog}
use Rattle.uc_folder.specs.declared.phases.Checkpointer.{Checkpointer}
use Rattle.uc_folder.specs.declared.phases.Checkpointer.TheVariants.{Idle, Writing, Sealing, Renaming, Fixing, RemovingLog, RemovingBase}
use Rattle.uc_folder.specs.Device.{Batch, Record, first_whole, File, Entry, Device, first_number, content, is_cut, is_used, upto, at, synced, changed, changed_name, change_log}
use Rattle.uc_folder.specs.Worlds.{World, IsPrefixOf, first_of}
use Rattle.uc_folder.proofs.Lists.{prefix_refl, prefix_trans, prefix_take, prefix_of_nil, upto_same, at_here}
use Rattle.uc_folder.proofs.Records.{first_take}
use Rattle.uc_folder.proofs.Sound.{Sound, IsWhole, IsThere, IsLast, spared, Each}
use Rattle.uc_folder.proofs.Holding.{IsRead, IsOpen, IsCopy, IsAppended, IsMendable, FitsWriter, Attempt, FitsCheckpointer, Keeps}
use Rattle.uc_folder.proofs.Opening.{whole_content, plain_last, uncut}
use Rattle.uc_folder.proofs.Changes.{parts_grow, entry_sound}

abbrev pub world : Device → Machine → Writer → Checkpointer → (ℕ → List Batch) → Batch → List Batch → World
world d m w c parts batch acked = record {
  device = d;
  machine = record m { writer = w; checkpointer = c };
  parts = parts;
  batch = batch;
  acked = acked;
}

-- ---- lists

pub take_length : {A : Type 0} (xs : List A) → take (length xs) xs ≡ xs
take_length [] = refl
take_length (x ∷ xs) = ap (λ l. x ∷ l) (take_length xs)

pub take_counted : {A : Type 0} (n : ℕ) (xs : List A) → n ≡ length xs → take n xs ≡ xs
take_counted n xs e = ap (λ i. take i xs) e ∙ take_length xs

pub take_twice : (a b : ℕ) (xs : List Batch) → a ≤ b → take a (take b xs) ≡ take a xs
take_twice zero b xs le = refl
take_twice (suc a) zero xs le = absurd (omega (arith, le))
take_twice (suc a) (suc b) [] le = refl
take_twice (suc a) (suc b) (x ∷ xs) le = ap (λ l. x ∷ l) (take_twice a b xs (omega (arith, le)))

pub drop_length : {A : Type 0} (xs : List A) → drop (length xs) xs ≡ []
drop_length [] = refl
drop_length (x ∷ xs) = drop_length xs

pub take_more : (a b : ℕ) (xs : List Batch) → a ≤ b → IsPrefixOf (take a xs) (take b xs)
take_more zero b xs le = (take b xs, refl)
take_more (suc a) zero xs le = absurd (omega (arith, le))
take_more (suc a) (suc b) [] le = ([], refl)
take_more (suc a) (suc b) (x ∷ xs) le = let p = take_more a b xs (omega (arith, le)) in (p.0, ap (λ l. x ∷ l) p.1)

pub take_within : (a b : ℕ) (rs : List Record) → a ≤ b → take a (take b rs) ≡ take a rs
take_within zero b rs le = refl
take_within (suc a) zero rs le = absurd (omega (arith, le))
take_within (suc a) (suc b) [] le = refl
take_within (suc a) (suc b) (r ∷ rs) le = ap (λ l. r ∷ l) (take_within a b rs (omega (arith, le)))

-- the first records of a file, in its two parts
pub taken_parts : (n : ℕ) (kept waiting : List Record) → length kept ≤ n → kept ++ drop (length kept) (take n (kept ++ waiting)) ≡ take n (kept ++ waiting)
taken_parts n kept waiting le =
    let same : take (length kept) (take n (kept ++ waiting)) ≡ kept = take_within (length kept) n (kept ++ waiting) le ∙ (take-append-le (length kept) kept waiting (omega arith) ∙ take_length kept) in
    ap (λ l. l ++ drop (length kept) (take n (kept ++ waiting))) (sym same) ∙ take-append-drop (length kept) (take n (kept ++ waiting))

pub all_parts : (n : ℕ) (kept waiting : List Record) → length kept ≤ n → kept ++ (drop (length kept) (take n (kept ++ waiting)) ++ drop n (kept ++ waiting)) ≡ kept ++ waiting
all_parts n kept waiting le =
    sym (append_assoc kept (drop (length kept) (take n (kept ++ waiting))) (drop n (kept ++ waiting)))
    ∙ (ap (λ l. l ++ drop n (kept ++ waiting)) (taken_parts n kept waiting le) ∙ take-append-drop n (kept ++ waiting))

-- ---- the checkpointer, while the writer does something

attempt_moves : (log next base : ℕ) (p q : ℕ → List Batch) (firm more : List Batch) (n past : ℕ) → log ≤ next → ((k : ℕ) → k < log → q k ≡ p k) → IsPrefixOf (p log) (q log) → IsPrefixOf firm more → Attempt log base p firm n past →
    Attempt next base q more n past × (first_of p n past ≡ first_of q n past)
attempt_moves log next base p q firm more n past le same part grows is =
    let to = is.to in
    let size = is.size in
    let bit = parts_grow p q log same part n to in
    let len = length-append (p n) bit.0 in
    let all = ap length bit.1 in
    let before : upto p n ≡ upto q n = sym (upto_same q p n (λ k lt. same k (omega (arith, lt, to)))) in
    let first : take past (p n) ≡ take past (q n) = sym (take-append-le past (p n) bit.0 size) ∙ ap (take past) bit.1 in
    let rows : first_of p n past ≡ first_of q n past = ap (λ l. l ++ take past (p n)) before ∙ ap (λ l. upto q n ++ l) first in
    (record { from = is.from; to = omega (arith, to, le); size = omega (arith, size, len, all); firmly = subst (λ l. IsPrefixOf l more) rows (prefix_trans (first_of p n past) firm more is.firmly grows) }, rows)

pub checkpointer_moves : (d e : Device) (log next base sure : ℕ) (p q : ℕ → List Batch) (firm more : List Batch) (c : Checkpointer) → e.partial ≡ d.partial → ((k : ℕ) → (e.bases k).now ≡ (d.bases k).now) →
    ((n past : ℕ) → Attempt log base p firm n past → Attempt next base q more n past × (first_of p n past ≡ first_of q n past)) → FitsCheckpointer d log base sure p firm c → FitsCheckpointer e next base sure q more c
checkpointer_moves d e log next base sure p q firm more Idle partial bases moves fits = tt
checkpointer_moves d e log next base sure p q firm more (Writing n past) partial bases moves fits = (moves n past fits).0
checkpointer_moves d e log next base sure p q firm more (Sealing n past) partial bases moves fits =
    let both = moves n past fits.0 in
    (both.0, subst (IsCopy (first_of q n past)) (sym partial) (subst (λ xs. IsCopy xs d.partial) both.1 fits.1), ap (λ (f : File). f.past) partial ∙ fits.2)
checkpointer_moves d e log next base sure p q firm more (Renaming n past) partial bases moves fits =
    let both = moves n past fits.0 in
    (both.0, subst (IsWhole (first_of q n past)) (sym partial) (subst (λ xs. IsWhole xs d.partial) both.1 fits.1), ap (λ (f : File). f.past) partial ∙ fits.2)
checkpointer_moves d e log next base sure p q firm more (Fixing n past) partial bases moves fits = ((moves n past fits.0).0, subst IsThere (sym (bases n)) fits.1)
checkpointer_moves d e log next base sure p q firm more (RemovingLog k) partial bases moves fits = fits
checkpointer_moves d e log next base sure p q firm more (RemovingBase k) partial bases moves fits = fits

pub checkpointer_stays : (d e : Device) (log next base sure : ℕ) (p q : ℕ → List Batch) (firm more : List Batch) (c : Checkpointer) → log ≤ next → e.partial ≡ d.partial → ((k : ℕ) → (e.bases k).now ≡ (d.bases k).now) → ((k : ℕ) → k < log → q k ≡ p k) → IsPrefixOf (p log) (q log) →
    IsPrefixOf firm more → FitsCheckpointer d log base sure p firm c → FitsCheckpointer e next base sure q more c
checkpointer_stays d e log next base sure p q firm more c le partial bases same part grows fits =
    checkpointer_moves d e log next base sure p q firm more c partial bases (λ n past is. attempt_moves log next base p q firm more n past le same part grows is) fits

-- ---- the log

pub read_file : (count : ℕ) (part : List Batch) (o : Option File) → IsRead count part o → (f : File) × (o ≡ Some f) × (take count (first_whole (f.kept ++ f.waiting)) ≡ take count part)
read_file count part None is = absurd is
read_file count part (Some f) is = (f, refl, is)

-- no record is lost
pub none_lost : (f : File) → f.lost ≡ [] → is_cut (Some f) ≡ true → is_used (Some f) ≡ true
none_lost f e c = absurd (let x : true ≡ false = sym c ∙ uncut f e in cc)

pub plain : (firm before part : List Batch) (f : File) → f.lost ≡ [] → IsPrefixOf (first_whole (f.kept ++ f.waiting)) part → IsPrefixOf firm (before ++ first_whole f.kept) → IsLast firm before part (Some f)
plain firm before part f e le has = (subst (λ l. IsPrefixOf l part) (sym (plain_last f e)) le, has)

pub open_content : (count synced : ℕ) (firm before part : List Batch) (e : Entry) → IsOpen count synced firm before part e → content e.now ≡ part
open_content count synced firm before part e is = ap content is.now ∙ is.all

-- all that was appended is read, in each phase
none_answered : (n : ℕ) (part xs : List Batch) → part ≡ [] → IsPrefixOf (take n part) xs
none_answered n part xs e = subst (λ l. IsPrefixOf l xs) (sym (prefix_of_nil (take n part) (subst (IsPrefixOf (take n part)) e (prefix_take n part)))) (xs, refl)

read_answered : (n : ℕ) (part : List Batch) (o : Option File) → IsRead n part o → IsPrefixOf (take n part) (content o)
read_answered n part None is = absurd is
read_answered n part (Some f) is = subst (λ l. IsPrefixOf l (content (Some f))) is (prefix_take n (content (Some f)))

pub open_answered : (n count synced : ℕ) (firm before part : List Batch) (e : Entry) → IsOpen count synced firm before part e → IsPrefixOf (take n part) (content e.now)
open_answered n count synced firm before part e is = subst (IsPrefixOf (take n part)) (sym (open_content count synced firm before part e is)) (prefix_take n part)

appended_answered : (count synced : ℕ) (firm before part : List Batch) (batch : Batch) (e : Entry) → IsAppended count synced firm before part batch e → IsPrefixOf (take count part) (content e.now)
appended_answered count synced firm before part batch e is =
    let front = is.0 in
    let counted = is.2.counted in
    let first : take count part ≡ front = ap (take count) (sym is.1) ∙ (take-append-le count front (batch ∷ []) (omega (arith, counted)) ∙ take_counted count front counted) in
    subst (λ l. IsPrefixOf l (content e.now)) (sym first) (subst (IsPrefixOf front) (sym (open_content count synced firm before front e is.2)) (prefix_refl front))

mendable_answered : (count synced : ℕ) (firm before part : List Batch) (batch : Batch) (e : Entry) (front : List Batch) → front ++ batch ∷ [] ≡ part → IsMendable count synced firm before front e → IsPrefixOf (take count part) (content e.now)
mendable_answered count synced firm before part batch e front all is =
    let counted = is.counted in
    let records = is.file.kept ++ is.file.waiting in
    let first : take count part ≡ front = ap (take count) (sym all) ∙ (take-append-le count front (batch ∷ []) (omega (arith, counted)) ∙ take_counted count front counted) in
    let read : front ≡ take count (first_whole records) = sym is.all ∙ first_take count records in
    subst (λ l. IsPrefixOf l (content e.now)) (sym (first ∙ read)) (subst (IsPrefixOf (take count (first_whole records))) (sym (ap content is.now)) (prefix_take count (first_whole records)))

pub answered_in : (d : Device) (log count synced base : ℕ) (firm before part : List Batch) (batch : Batch) (w : Writer) → FitsWriter d log count synced base firm before part batch w → IsPrefixOf (take count part) (content (d.logs log).now)
answered_in d log count synced base firm before part batch Making fits = none_answered count part (content (d.logs log).now) fits.1
answered_in d log count synced base firm before part batch Founding fits = none_answered count part (content (d.logs log).now) fits.1
answered_in d log count synced base firm before part batch (Naming top sealed) fits = absurd fits
answered_in d log count synced base firm before part batch (Clearing k top sealed) fits = read_answered count part (d.logs log).now fits.0.read
answered_in d log count synced base firm before part batch SettingAside fits = read_answered count part (d.logs log).now fits.read
answered_in d log count synced base firm before part batch Copying fits = read_answered count part (d.logs log).now fits.read
answered_in d log count synced base firm before part batch SealingCopy fits = read_answered count part (d.logs log).now fits.0.read
answered_in d log count synced base firm before part batch Replacing fits = read_answered count part (d.logs log).now fits.0.read
answered_in d log count synced base firm before part batch Settling fits =
    subst (IsPrefixOf (take count part)) (sym (ap content fits.now ∙ whole_content (take count part) fits.file fits.is)) (prefix_refl (take count part))
answered_in d log count synced base firm before part batch Ready fits = open_answered count count synced firm before part (d.logs log) fits
answered_in d log count synced base firm before part batch Appending fits = appended_answered count synced firm before part batch (d.logs log) fits
answered_in d log count synced base firm before part batch Mending fits = mendable_answered count synced firm before part batch (d.logs log) fits.0 fits.1 fits.2
answered_in d log count synced base firm before part batch (Syncing n) fits = open_answered count count synced firm before part (d.logs log) fits.0
answered_in d log count synced base firm before part batch (Both n) fits = appended_answered count synced firm before part batch (d.logs log) fits.0
answered_in d log count synced base firm before part batch (Spoiled n) fits = mendable_answered count synced firm before part batch (d.logs log) fits.0.0 fits.0.1 fits.0.2
answered_in d log count synced base firm before part batch Closing fits = open_answered count count synced firm before part (d.logs log) fits
answered_in d log count synced base firm before part batch Failed fits = fits

-- ---- steps

module _ (d : Device) (m : Machine) (c : Checkpointer) (parts : ℕ → List Batch) (batch : Batch) (acked : List Batch) where
  abbrev pub inside : Writer → World
  inside w = world d m w c parts batch acked

  -- the writer does something else, and another folder has what the checkpointer needs
  pub moved : (e : Device) (over count synced : ℕ) (q : ℕ → List Batch) (b : Batch) (told more : List Batch) (w v : Writer) → e.partial ≡ d.partial → ((k : ℕ) → (e.bases k).now ≡ (d.bases k).now) → m.log ≤ over → ((k : ℕ) → k < m.log → q k ≡ parts k) → IsPrefixOf (parts m.log) (q m.log) →
      (keeps : Keeps (inside w)) → IsPrefixOf keeps.firm more → Sound e over keeps.sure q more → IsPrefixOf told more → FitsWriter e over count synced m.base more (upto q over) (q over) b v →
      Keeps (world e (record m { log = over; count = count; synced = synced }) v c q b told)
  moved e over count synced q b told more w v partial bases le same part keeps grows sound has fits = record {
    sure = keeps.sure;
    firm = more;
    sound = sound;
    acked_is = has;
    under = keeps.under;
    writer = fits;
    checkpointer = checkpointer_stays d e m.log over m.base keeps.sure parts q keeps.firm more c le partial bases same part grows keeps.checkpointer;
  }

  -- nothing is known of the next log
  pub with_next : (next : NextLog) (w : Writer) → Keeps (inside w) → Keeps (world d (record m { next = next }) w c parts batch acked)
  with_next next w keeps = record { sure = keeps.sure; firm = keeps.firm; sound = keeps.sound; acked_is = keeps.acked_is; under = keeps.under; writer = keeps.writer; checkpointer = keeps.checkpointer }

  -- all that is firm stays
  pub stepped : (e : Device) (count synced : ℕ) (w v : Writer) → e.partial ≡ d.partial → ((k : ℕ) → (e.bases k).now ≡ (d.bases k).now) → (keeps : Keeps (inside w)) → Sound e m.log keeps.sure parts keeps.firm →
      FitsWriter e m.log count synced m.base keeps.firm (upto parts m.log) (parts m.log) batch v → Keeps (world e (record m { count = count; synced = synced }) v c parts batch acked)
  stepped e count synced w v partial bases keeps sound fits =
      moved e m.log count synced parts batch acked keeps.firm w v partial bases (omega arith) (λ k lt. refl) (prefix_refl (parts m.log)) keeps (prefix_refl keeps.firm) sound keeps.acked_is fits

  -- the folder is as it was
  pub waits : (w v : Writer) (keeps : Keeps (inside w)) → FitsWriter d m.log m.count m.synced m.base keeps.firm (upto parts m.log) (parts m.log) batch v → Keeps (inside v)
  waits w v keeps fits = stepped d m.count m.synced w v refl (λ k. refl) keeps keeps.sound fits

  pub fails : (w : Writer) → Keeps (inside w) → Keeps (inside Failed)
  fails w keeps = waits w Failed keeps (answered_in d m.log m.count m.synced m.base keeps.firm (upto parts m.log) (parts m.log) batch w keeps.writer)

  -- the log's entry is another one
  abbrev pub with_entry : Entry → ℕ → Device
  with_entry e top = record { logs = at m.log e d.logs; bases = d.bases; copy = d.copy; partial = d.partial; names = top }

  pub edited : (count synced : ℕ) (w v : Writer) (e : Entry) (top : ℕ) (keeps : Keeps (inside w)) → m.log ≤ top → IsLast keeps.firm (upto parts m.log) (parts m.log) e.now → AllByRecursion (IsLast keeps.firm (upto parts m.log) (spared e.now (parts m.log))) e.before → (first_number < m.log → Each IsThere e) → (is_cut e.now ≡ true → is_used e.now ≡ true) →
      FitsWriter (with_entry e top) m.log count synced m.base keeps.firm (upto parts m.log) (parts m.log) batch v → Keeps (world (with_entry e top) (record m { count = count; synced = synced }) v c parts batch acked)
  edited count synced w v e top keeps le last spare begun cut fits =
      stepped (with_entry e top) count synced w v refl (λ k. refl) keeps (entry_sound d m.log keeps.sure parts keeps.firm keeps.sound e top le last spare begun cut) fits

  -- the same, for one file of which no other may stand there
  abbrev pub with_file : (File → File) → Device
  with_file change = change_log m.log change d

  pub filed : (count synced : ℕ) (w v : Writer) (change : File → File) (f : File) → (d.logs m.log).now ≡ Some f → (d.logs m.log).before ≡ [] → (keeps : Keeps (inside w)) → IsLast keeps.firm (upto parts m.log) (parts m.log) (Some (change f)) → (is_cut (Some (change f)) ≡ true → is_used (Some (change f)) ≡ true) →
      FitsWriter (with_file change) m.log count synced m.base keeps.firm (upto parts m.log) (parts m.log) batch v → Keeps (world (with_file change) (record m { count = count; synced = synced }) v c parts batch acked)
  filed count synced w v change f is named keeps last cut fits =
      edited count synced w v (changed change (d.logs m.log)) d.names keeps keeps.sound.named
      (subst (IsLast keeps.firm (upto parts m.log) (parts m.log)) (sym (ap (changed_name change) is)) last)
      (subst (AllByRecursion (IsLast keeps.firm (upto parts m.log) (spared (changed_name change (d.logs m.log).now) (parts m.log)))) (sym named) tt)
      (λ lt. (subst IsThere (sym (ap (changed_name change) is)) tt, (keeps.sound.begun lt).1))
      (subst (λ (o : Option File). is_cut o ≡ true → is_used o ≡ true) (sym (ap (changed_name change) is)) cut) fits

  pub last_of : (w : Writer) (f : File) → (d.logs m.log).now ≡ Some f → (keeps : Keeps (inside w)) → IsLast keeps.firm (upto parts m.log) (parts m.log) (Some f)
  last_of w f is keeps = subst (IsLast keeps.firm (upto parts m.log) (parts m.log)) is keeps.sound.last

  -- the log's entry then
  pub here : (change : File → File) (f : File) → (d.logs m.log).now ≡ Some f → ((with_file change).logs m.log).now ≡ Some (change f)
  here change f is = ap (λ (e : Entry). e.now) (at_here m.log (changed change (d.logs m.log)) d.logs) ∙ ap (changed_name change) is

  pub here_before : (change : File → File) → ((with_file change).logs m.log).before ≡ (d.logs m.log).before
  here_before change = ap (λ (e : Entry). e.before) (at_here m.log (changed change (d.logs m.log)) d.logs)

-- ---- a file that is synced

module _ (n : ℕ) (f : File) (fresh : f.suspect ≡ false) where
  abbrev pub most : ℕ
  most = max n (length f.kept)

  abbrev pub synced_file : File
  synced_file = record { kept = take most (f.kept ++ f.waiting); waiting = drop most (f.kept ++ f.waiting); lost = f.lost; suspect = f.suspect; past = f.past }

  pub synced_is : synced n f ≡ synced_file
  synced_is = ap (λ (b : Bool). cond b f synced_file) fresh

  pub synced_all : synced_file.kept ++ synced_file.waiting ≡ f.kept ++ f.waiting
  synced_all = take-append-drop most (f.kept ++ f.waiting)

  pub synced_first : first_whole synced_file.kept ≡ take most (first_whole (f.kept ++ f.waiting))
  synced_first = first_take most (f.kept ++ f.waiting)

  -- no less is on the device than before
  pub synced_more : IsPrefixOf (first_whole f.kept) (first_whole synced_file.kept)
  synced_more =
      let size = length f.kept in
      let old : f.kept ≡ take size (f.kept ++ f.waiting) = sym (take-append-le size f.kept f.waiting (omega arith) ∙ take_length f.kept) in
      let same : first_whole f.kept ≡ take size (first_whole (f.kept ++ f.waiting)) = ap first_whole old ∙ first_take size (f.kept ++ f.waiting) in
      subst (λ l. IsPrefixOf l (first_whole synced_file.kept)) (sym same)
      (subst (IsPrefixOf (take size (first_whole (f.kept ++ f.waiting)))) (sym synced_first) (take_more size most (first_whole (f.kept ++ f.waiting)) (omega arith)))
