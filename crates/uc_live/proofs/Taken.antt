-- The writes that a live store has taken, and its answers.
use Rattle.std.proofs.Common.{◌≡◌, ℕ, ◌+◌, ◌*◌, ◌<◌, ◌≤◌, Bool, true, false, ◌&&◌, List, [], ◌∷◌, ◌++◌, length, take, fold, Option, ◌⊎◌, append_assoc, refl, sym, ap, ◌∙◌, subst, arith}
use Rattle.std.specs.Prelude.{Contains, if◌then◌else◌, nat_le, count_by, reverse}
use Rattle.std.specs.List.{flat_map}
use Rattle.std.proofs.lemmas.Bool.{eq-eqb, leb-true}
use Rattle.std.proofs.Math.Nat.{mul-pos}
use Rattle.std.proofs.lemmas.List.{append-nil, take_all}
use Rattle.uc_bytes.specs.declared.write.Write.{Write}
use Rattle.uc_oper.specs.Operation.{Operation}
use Rattle.uc_oper.specs.Composition.{applied}
use Rattle.uc_batch.specs.Rising.{last_of}
use Rattle.uc_batch.proofs.Rises.{last_of-append}
use Rattle.uc_model.specs.Meaning.{effect_on, value_of}
use Rattle.uc_run.specs.Size.{memtable_size}
use Rattle.uc_memtable.specs.Labels.{deletes_range}
use Rattle.uc_query_read.specs.Answers.{answer_of, first_rows, named_keys, rows_of, Reads, is_protected}
use Rattle.uc_query_read.specs.declared.query.Query.{Query}
use Rattle.uc_query_read.specs.declared.query.Query.TheVariants.{Scan}
use Rattle.uc_query_read.specs.Query.{at_of}
use Rattle.uc_query_read.specs.declared.answer.Answer.{Answer}
use Rattle.uc_query_read.specs.declared.answer.Answer.TheVariants.{Rows, NotProtected}
use Rattle.uc_version_state.specs.Versions.{Stored, writes_in}
use Rattle.uc_version_state.specs.Options as store
use Rattle.uc_version_state.specs.Openings.{opened}
use Rattle.uc_version_state.specs.Snapshots.{released}
use Rattle.uc_version_state.specs.Histories.{History, IsLegal, MayFollow, after, version_after, writes_brought, writes_given}
use Rattle.uc_version_state.specs.declared.event.Event.{Event}
use Rattle.uc_version_state.specs.declared.event.Event.TheVariants.{Kept, Released}
use Rattle.uc_live.specs.declared.live_options.LiveOptions.{LiveOptions}
use Rattle.uc_version_state.specs.declared.options.TheConstants.{GREATEST_FIRST_ID}
use Rattle.uc_live.specs.declared.live_options.TheConstants.{GREATEST_STOP, MOST_RANGES}
use Rattle.uc_live.specs.LiveOptions.{are_good, version_options}
use Rattle.uc_live.specs.Lives as lives
use Rattle.uc_live.specs.Lives.{Live, created, empty_opening}
use Rattle.uc_live.specs.Going.{GoesOn}
use Rattle.uc_live.specs.Snapshots.{TakesSnapshot, with_snapshot, without_one, is_among, without_snapshot}
use Rattle.uc_live.specs.Coming.{HasTaken}
use Rattle.uc_live.proofs.Going.{follow-append, after-append, brought-append}

-- ---- a store that begins

pub and_front : (a b : Bool) → (a && b) ≡ true → a ≡ true
and_front true b h = refl
and_front false b h = h

others_good : (a b c d e f x : Bool) → ((a && b && c && d && e && f) && x) ≡ true → (true && b && c && d && e && f) ≡ true
others_good true b c d e f x h = and_front (true && b && c && d && e && f) x h
others_good false b c d e f x h = absurd cc

and_last : (a b : Bool) → (a && b) ≡ true → b ≡ true
and_last true b h = h
and_last false b h = absurd cc

first_of_six : (a b c d e f : Bool) → (a && b && c && d && e && f) ≡ true → a ≡ true
first_of_six true b c d e f h = refl
first_of_six false b c d e f h = absurd cc

pub version_options_good : (o : LiveOptions) → are_good o ≡ true → store.are_good (version_options o) ≡ true
version_options_good o good =
    let s = o.store in
    others_good (nat_le 1 s.memtable) (nat_le 1 s.trigger) (nat_le 2 s.least) (nat_le s.least s.greatest) (nat_le 1 s.first_id) (nat_le s.first_id GREATEST_FIRST_ID)
    (nat_le s.trigger o.stop_trigger && (nat_le o.stop_trigger GREATEST_STOP && nat_le 1 o.max_write_buffer_number)) good

-- memtables hold at least a byte, and a range deletion
pub some_room : (o : LiveOptions) → are_good o ≡ true →
    (memtable_size [] < o.store.memtable * o.max_write_buffer_number) × (count_by deletes_range [] < MOST_RANGES * o.max_write_buffer_number)
some_room o good =
    let s = o.store in
    let limits = nat_le s.trigger o.stop_trigger && (nat_le o.stop_trigger GREATEST_STOP && nat_le 1 o.max_write_buffer_number) in
    let stores = and_front (store.are_good s) limits good in
    let size = first_of_six (nat_le 1 s.memtable) (nat_le 1 s.trigger) (nat_le 2 s.least) (nat_le s.least s.greatest) (nat_le 1 s.first_id) (nat_le s.first_id GREATEST_FIRST_ID) stores in
    let stops = and_last (nat_le o.stop_trigger GREATEST_STOP) (nat_le 1 o.max_write_buffer_number) (and_last (nat_le s.trigger o.stop_trigger) (nat_le o.stop_trigger GREATEST_STOP && nat_le 1 o.max_write_buffer_number) (and_last (store.are_good s) limits good)) in
    let some = leb-true 1 s.memtable size in
    let one = leb-true 1 o.max_write_buffer_number stops in
    let above : 0 < s.memtable * o.max_write_buffer_number = mul-pos (omega (arith, some)) (omega (arith, one)) in
    let ranges : 0 < MOST_RANGES * o.max_write_buffer_number = mul-pos (omega arith) (omega (arith, one)) in
    (omega (arith, above), ranges)

pub created_taken : (m : Operation) (o : LiveOptions) → are_good o ≡ true → HasTaken m (created o) []
created_taken m o good = record {
  history = record { opening = empty_opening o; events = Released 0 ∷ [] };
  legal = record {
    opens = record { rising = tt; options_good = version_options_good o good; keeps_below = tt; few = omega arith };
    follow = ((0, omega arith, refl), tt);
  };
  version = refl;
  writes = refl;
}

module _ (m : Operation) where
  -- ---- later states of a store

  -- events happened
  pub taken_then : (old new : Live) (before ws : List Write) (events : List Event) → HasTaken m old before → MayFollow m old.version events → new.version ≡ fold after old.version events →
      flat_map writes_brought events ++ new.gathered ≡ old.gathered ++ ws → HasTaken m new (before ++ ws)
  taken_then old new before ws fs taken follow version writes =
      let o = taken.history.opening in
      let es = taken.history.events in
      let given = flat_map writes_brought es in
      let more = flat_map writes_brought fs in
      record {
        history = record { opening = o; events = es ++ fs };
        legal = record {
          opens = taken.legal.opens;
          follow = follow-append m (opened o) es fs taken.legal.follow (subst (λ (v : Stored). MayFollow m v fs) taken.version follow);
        };
        version = version ∙ ap (λ (v : Stored). fold after v fs) taken.version ∙ sym (after-append (opened o) es fs);
        writes =
            ap (λ (us : List Write). (o.writes ++ us) ++ new.gathered) (brought-append es fs)
            ∙ ap (λ (us : List Write). us ++ new.gathered) (sym (append_assoc o.writes given more))
            ∙ append_assoc (o.writes ++ given) more new.gathered
            ∙ ap (λ (us : List Write). (o.writes ++ given) ++ us) writes
            ∙ sym (append_assoc (o.writes ++ given) old.gathered ws)
            ∙ ap (λ (us : List Write). us ++ ws) taken.writes;
      }

  pub taken_on : (old new : Live) (before ws : List Write) → HasTaken m old before → GoesOn m old new ws → HasTaken m new (before ++ ws)
  taken_on old new before ws taken on = taken_then old new before ws on.0.events taken on.0.follow on.0.version on.0.writes

  -- no write came
  pub same_writes : (l : Live) (ws : List Write) → HasTaken m l (ws ++ []) → HasTaken m l ws
  same_writes l ws taken = subst (λ (us : List Write). HasTaken m l us) (append-nil ws) taken

  pub taken_snapshot : (old new : Live) (before : List Write) (seq : ℕ) → HasTaken m old before → TakesSnapshot m old new seq → HasTaken m new before
  taken_snapshot old new before seq taken takes =
      let flushed = takes.flushed in
      let until = same_writes flushed before (taken_on old flushed before [] taken takes.goes_on) in
      let with = taken_then flushed (with_snapshot flushed) before [] (Kept ∷ []) until (tt, tt) refl (sym (append-nil flushed.gathered)) in
      subst (λ (l : Live). HasTaken m l before) (sym takes.after) (same_writes (with_snapshot flushed) before with)

  released_or_not : (l : Live) (before : List Write) (seq : ℕ) (rest : List ℕ) (b : Bool) → HasTaken m l before → Contains l.version.keeps seq →
      HasTaken m (record l { version = if b then l.version else released seq l.version; snapshots = rest }) before
  released_or_not l before seq rest true taken there =
      record { history = taken.history; legal = taken.legal; version = taken.version; writes = taken.writes }
  released_or_not l before seq rest false taken there =
      let new = record l { version = released seq l.version; snapshots = rest } in
      same_writes new before (taken_then l new before [] (Released seq ∷ []) taken (there, tt) refl (sym (append-nil l.gathered)))

  pub taken_release : (l : Live) (before : List Write) (seq : ℕ) → HasTaken m l before → Contains l.version.keeps seq → HasTaken m (without_snapshot seq l) before
  taken_release l before seq taken there =
      let rest = without_one seq l.snapshots in
      released_or_not l before seq rest (is_among seq rest) taken there

  -- ---- what it answers

  pub last_taken : (l : Live) (ws : List Write) → HasTaken m l ws → ((h : History) → IsLegal m h → last_of 0 (writes_given h) ≡ (version_after h).last) → lives.last l ≡ last_of 0 ws
  last_taken l ws taken says =
      let h = taken.history in
      ap (λ (v : Stored). last_of v.last l.gathered) taken.version
      ∙ ap (λ (n : ℕ). last_of n l.gathered) (sym (says h taken.legal))
      ∙ sym (last_of-append 0 (writes_given h) l.gathered)
      ∙ ap (λ (us : List Write). last_of 0 us) taken.writes

  -- a key's value at a keep, or at the last sequence or above
  pub value_taken : (l : Live) (ws : List Write) (key : List ℕ) (at : ℕ) → HasTaken m l ws → Contains l.version.keeps at ⊎ (l.version.last ≤ at) →
      ((h : History) (key : List ℕ) (at : ℕ) → IsLegal m h → Contains (version_after h).keeps at ⊎ ((version_after h).last ≤ at) → value_of m (writes_in (version_after h)) key at ≡ value_of m (writes_given h) key at) →
      ((older newer : List Write) (key : List ℕ) (at : ℕ) → value_of m (older ++ newer) key at ≡ applied m (effect_on m newer key at) (value_of m older key at)) →
      value_of m (lives.writes_of l) key at ≡ value_of m ws key at
  value_taken l ws key at taken read keep continues =
      let h = taken.history in
      let newer = l.gathered in
      let read_there = subst (λ (v : Stored). Contains v.keeps at ⊎ (v.last ≤ at)) taken.version read in
      ap (λ (v : Stored). value_of m (writes_in v ++ newer) key at) taken.version
      ∙ continues (writes_in (version_after h)) newer key at
      ∙ ap (λ (value : Option (List ℕ)). applied m (effect_on m newer key at) value) (keep h key at taken.legal read_there)
      ∙ sym (continues (writes_given h) newer key at)
      ∙ ap (λ (us : List Write). value_of m us key at) taken.writes

  -- ---- rows without keeps

  rows_in : Answer → List (List ℕ × List ℕ)
  rows_in (Rows rows) = rows
  rows_in answer = []

  rows_answered : (xs ys : List (List ℕ × List ℕ)) (at : ℕ) (b : Bool) → b ≡ true → (if b then Rows xs else NotProtected at) ≡ (if b then Rows ys else NotProtected at) → xs ≡ ys
  rows_answered xs ys at true is e = cc
  rows_answered xs ys at false is e = absurd cc

  alone : (at : ℕ) → is_protected (at ∷ []) at ≡ true
  alone at = rw (eq-eqb at at refl) refl

  -- if writes give each key one value at a sequence, a scan there has the same rows
  pub rows_alike : (writes others : List Write) (low : List ℕ) (high : Option (List ℕ)) (at limit : ℕ) →
      ((writes others : List Write) (keeps : List ℕ) (query : Query) → (Contains keeps (at_of query) → (key : List ℕ) → Reads query key → value_of m writes key (at_of query) ≡ value_of m others key (at_of query)) → answer_of m writes keeps query ≡ answer_of m others keeps query) →
      ((key : List ℕ) → value_of m writes key at ≡ value_of m others key at) →
      first_rows m writes at limit (named_keys writes low high) ≡ first_rows m others at limit (named_keys others low high)
  rows_alike writes others low high at limit equal alike =
      rows_answered (first_rows m writes at limit (named_keys writes low high)) (first_rows m others at limit (named_keys others low high)) at (is_protected (at ∷ []) at) (alone at)
      (equal writes others (at ∷ []) (Scan low high at limit) (λ there key reads. alike key))

  -- and so against the order of keys
  pub rows_back_alike : (writes others : List Write) (low : List ℕ) (high : Option (List ℕ)) (at limit : ℕ) →
      ((writes others : List Write) (keeps : List ℕ) (query : Query) → (Contains keeps (at_of query) → (key : List ℕ) → Reads query key → value_of m writes key (at_of query) ≡ value_of m others key (at_of query)) → answer_of m writes keeps query ≡ answer_of m others keeps query) →
      ((writes : List Write) (low : List ℕ) (high : Option (List ℕ)) (at limit : ℕ) → first_rows m writes at limit (reverse (named_keys writes low high)) ≡ take limit (reverse (rows_of m writes at (named_keys writes low high)))) →
      ((key : List ℕ) → value_of m writes key at ≡ value_of m others key at) →
      first_rows m writes at limit (reverse (named_keys writes low high)) ≡ first_rows m others at limit (reverse (named_keys others low high))
  rows_back_alike writes others low high at limit equal turned alike =
      let ours = rows_of m writes at (named_keys writes low high) in
      let theirs = rows_of m others at (named_keys others low high) in
      let most = length ours + length theirs in
      let same : ours ≡ theirs = sym (take_all most ours (omega arith)) ∙ rows_alike writes others low high at most equal alike ∙ take_all most theirs (omega arith) in
      turned writes low high at limit ∙ ap (λ (rows : List (List ℕ × List ℕ)). take limit (reverse rows)) same ∙ sym (turned others low high at limit)
