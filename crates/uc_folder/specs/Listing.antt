-- The names in a directory, and the files that opening reads by them.
use Rattle.std.specs.Prelude.{ℕ, ◌≡◌, ◌≤◌, ◌<◌, Bool, true, false, List, Option, Some, None, Result, Ok, Err, fold, ◌==◌, ◌&&◌, max, min, if◌then◌else◌}
use Rattle.std.specs.List.{list_any}
use Rattle.uc_folder.specs.declared.listing.Base.{Base}
use Rattle.uc_folder.specs.declared.listing.Listed.{Listed}
use Rattle.uc_folder.specs.declared.listing.Found.{Found}
use Rattle.uc_folder.specs.declared.listing.Missing.{Missing}
use Rattle.uc_folder.specs.Device.{Device, first_number, is_there, is_used, past_of}

-- the number of the newest base, or that of the first log
abbrev pub base_in : List Base → ℕ
base_in bases = fold (λ most (b : Base). max most b.number) first_number bases

-- of several bases of a number, the one that has most of the log of that number
abbrev pub past_in : ℕ → List Base → ℕ
past_in n bases = fold (λ most (b : Base). if b.number == n then max most b.past else most) 0 bases

-- the last log that has a batch, and none before the base's
abbrev pub log_in : ℕ → List Listed → ℕ
log_in base logs = fold (λ most (l : Listed). if l.is_used then max most l.number else most) base logs

abbrev pub is_listed : ℕ → List Listed → Bool
is_listed n logs = list_any (λ (l : Listed). l.number == n) logs

-- the greatest number of a log
abbrev pub top_in : ℕ → List Listed → ℕ
top_in log logs = fold (λ most (l : Listed). max most l.number) log logs

-- the least number
abbrev pub least_in : ℕ → List Base → List Listed → ℕ
least_in base bases logs = fold (λ least (l : Listed). min least l.number) (fold (λ least (b : Base). min least b.number) base bases) logs

abbrev pub found_of : List Base → List Listed → Found
found_of bases logs = record {
  base = base_in bases;
  past = past_in (base_in bases) bases;
  least = least_in (base_in bases) bases logs;
  log = log_in (base_in bases) logs;
  is_there = is_listed (log_in (base_in bases) logs) logs;
  top = top_in (log_in (base_in bases) logs) logs;
}

-- The files that opening finds: each log from the base's number on is listed, up to the current one. Only the first log may be
-- missing, if no batch is in it.
abbrev pub AreFound : List Base → List Listed → Found → Type 0
AreFound bases logs f = (f ≡ found_of bases logs) × ((k : ℕ) → f.base ≤ k → k < f.log → is_listed k logs ≡ true) × (first_number < f.log → f.is_there ≡ true)

-- None of these is listed.
abbrev pub IsLacking : List Base → List Listed → ℕ → Type 0
IsLacking bases logs n = (base_in bases ≤ n) × (n ≤ log_in (base_in bases) logs) × (first_number < log_in (base_in bases) logs) × (is_listed n logs ≡ false)

-- the result of opening by names
abbrev pub IsFoundIn : List Base → List Listed → Result Found Missing → Type 0
IsFoundIn bases logs (Ok f) = AreFound bases logs f
IsFoundIn bases logs (Err m) = IsLacking bases logs m.0

-- the first number from one up to below another one that no log has
abbrev pub IsMissingIn : ℕ → ℕ → List Listed → Option ℕ → Type 0
IsMissingIn from to logs (Some k) = (from ≤ k) × (k < to) × (is_listed k logs ≡ false)
IsMissingIn from to logs None = (k : ℕ) → from ≤ k → k < to → is_listed k logs ≡ true

-- the names in a directory: its bases and logs, in any order
pub record IsListing (d : Device) (bases : List Base) (logs : List Listed) : Type 0 where
  pub bases_are : (k : ℕ) → list_any (λ (b : Base). b.number == k) bases ≡ is_there (d.bases k).now
  pub pasts_are : (k : ℕ) → past_in k bases ≡ past_of (d.bases k).now
  pub logs_are : (k : ℕ) → is_listed k logs ≡ is_there (d.logs k).now
  pub used_are : (k : ℕ) → list_any (λ (l : Listed). l.number == k && l.is_used) logs ≡ is_used (d.logs k).now
