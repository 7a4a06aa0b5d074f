-- Each operation leaves a folder that a crash may take.
use Rattle.std.proofs.Common.{◌≡◌, ℕ, suc, ◌<◌, ◌≤◌, true, false, ◌⊎◌, inl, inr, ⊎_elim, List, [], ◌++◌, refl, sym, ◌∙◌, subst, arith}
use Rattle.std.specs.Prelude.{Option, Some, None}
use Rattle.std.specs.List.{AllByRecursion}
use Rattle.std.proofs.lemmas.Bool.{cases_eq, cases_lt}
use Rattle.uc_folder.specs.Device.{Batch, is_cut, is_used, first_whole, File, Entry, Device, Keep, first_number, upto, at, changed, changed_name, change_log, crashed_file, stands_for, name_log, name_base, sync_names}
use Rattle.uc_folder.specs.Worlds.{IsPrefixOf}
use Rattle.uc_folder.proofs.Lists.{prefix_refl, prefix_trans, prefix_onto, upto_same, at_all, at_here, at_other, all_weaker, prefix_cancel}
use Rattle.uc_folder.proofs.Sound.{IsWhole, IsBaseFile, IsBase, IsThere, IsGone, IsLog, IsUnused, IsLast, spared, Each, Sound, last_crashed}
use Rattle.uc_folder.proofs.Opening.{sound_firm}

-- a base stays one, where more is firm, and where a log has more
base_moves : (firm more : List Batch) (p q : ℕ → List Batch) (log over k : ℕ) → IsPrefixOf firm more → (k ≤ log → k ≤ over) → (k ≤ log → upto p k ≡ upto q k) → (k ≤ log → IsPrefixOf (p k) (q k)) → (o : Option File) → IsBase firm p log k o → IsBase more q over k o
base_moves firm more p q log over k grows le same part None is = tt
base_moves firm more p q log over k grows le same part (Some f) is = (
  le is.0,
  record {
    front = is.1.front;
    file = subst (λ before. IsWhole (before ++ is.1.front) f) (same is.0) is.1.file;
    past = is.1.past;
    part = prefix_trans is.1.front (p k) (q k) is.1.part (part is.0);
    firm = subst (λ before. IsPrefixOf (before ++ is.1.front) more) (same is.0) (prefix_trans (upto p k ++ is.1.front) firm more is.1.firm grows);
  },
)

each_moves : (firm more : List Batch) (p q : ℕ → List Batch) (log over k : ℕ) → IsPrefixOf firm more → (k ≤ log → k ≤ over) → (k ≤ log → upto p k ≡ upto q k) → (k ≤ log → IsPrefixOf (p k) (q k)) → (e : Entry) → Each (IsBase firm p log k) e → Each (IsBase more q over k) e
each_moves firm more p q log over k grows le same part e is =
    let step = base_moves firm more p q log over k grows le same part in (step e.now is.0, all_weaker (IsBase firm p log k) (IsBase more q over k) step e.before is.1)

-- each log has what it had, or more
pub parts_grow : (p q : ℕ → List Batch) (log : ℕ) → ((k : ℕ) → k < log → q k ≡ p k) → IsPrefixOf (p log) (q log) → (k : ℕ) → k ≤ log → IsPrefixOf (p k) (q k)
parts_grow p q log same more k le =
    ⊎_elim (λ (lt : k < log). subst (IsPrefixOf (p k)) (sym (same k lt)) (prefix_refl (p k)))
    (λ (ge : log ≤ k). let e : log ≡ k = omega (arith, le, ge) in subst (λ i. IsPrefixOf (p i) (q i)) e more) (cases_lt k log)

module _ (d : Device) (log sure : ℕ) (parts : ℕ → List Batch) (firm : List Batch) (sound : Sound d log sure parts firm) where
  -- ---- the log that is written

  pub entry_sound : (e : Entry) (top : ℕ) → log ≤ top → IsLast firm (upto parts log) (parts log) e.now → AllByRecursion (IsLast firm (upto parts log) (spared e.now (parts log))) e.before → (first_number < log → Each IsThere e) → (is_cut e.now ≡ true → is_used e.now ≡ true) →
      Sound (record { logs = at log e d.logs; bases = d.bases; copy = d.copy; partial = d.partial; names = top }) log sure parts firm
  entry_sound e top le last spare begun cut = record {
    bases = sound.bases;
    newer = sound.newer;
    there = sound.there;
    first = sound.first;
    reached = sound.reached;
    older = λ k l lt. subst (λ (x : Entry). IsLog (parts k) x.now × (x.before ≡ [])) (sym (at_other log e d.logs k (omega (arith, lt)))) (sound.older k l lt);
    last = subst (λ (x : Entry). IsLast firm (upto parts log) (parts log) x.now) (sym (at_here log e d.logs)) last;
    spare = subst (λ (x : Entry). AllByRecursion (IsLast firm (upto parts log) (spared x.now (parts log))) x.before) (sym (at_here log e d.logs)) spare;
    begun = λ lt. subst (Each IsThere) (sym (at_here log e d.logs)) (begun lt);
    cut = subst (λ (x : Entry). is_cut x.now ≡ true → is_used x.now ≡ true) (sym (at_here log e d.logs)) cut;
    later = λ k lt. subst (Each IsUnused) (sym (at_other log e d.logs k (omega (arith, lt)))) (sound.later k lt);
    named = le;
    stands = sound.stands;
    none = sound.none;
  }

  -- of its file only what is on the device
  pub reread_sound : (keep : Keep) → Sound (change_log log (crashed_file keep) d) log sure parts firm
  reread_sound keep =
      entry_sound (changed (crashed_file keep) (d.logs log)) d.names sound.named (now keep (d.logs log).now sound.last)
      (subst (λ own. AllByRecursion (IsLast firm (upto parts log) own) (d.logs log).before) (same keep (d.logs log).now) sound.spare)
      (λ lt. (there keep (d.logs log).now (sound.begun lt).0, (sound.begun lt).1))
      (λ c. absurd (let x : true ≡ false = sym c ∙ whole keep (d.logs log).now in cc))
    where
      whole : (keep : Keep) (o : Option File) → is_cut (changed_name (crashed_file keep) o) ≡ false
      whole keep None = refl
      whole keep (Some f) = refl

      now : (keep : Keep) (o : Option File) → IsLast firm (upto parts log) (parts log) o → IsLast firm (upto parts log) (parts log) (changed_name (crashed_file keep) o)
      now keep None is = is
      now keep (Some f) is = last_crashed firm (upto parts log) (parts log) keep (Some f) is

      same : (keep : Keep) (o : Option File) → spared o (parts log) ≡ spared (changed_name (crashed_file keep) o) (parts log)
      same keep None = refl
      same keep (Some f) = refl

      there : (keep : Keep) (o : Option File) → IsThere o → IsThere (changed_name (crashed_file keep) o)
      there keep None is = is
      there keep (Some f) is = is

  -- more is submitted, or acknowledged
  pub submitted_sound : (q : ℕ → List Batch) (more : List Batch) → ((k : ℕ) → k < log → q k ≡ parts k) → IsPrefixOf (parts log) (q log) → IsPrefixOf firm more → IsLast more (upto parts log) (q log) (d.logs log).now →
      AllByRecursion (IsLast more (upto parts log) (spared (d.logs log).now (q log))) (d.logs log).before → Sound d log sure q more
  submitted_sound q more same part grows last spare =
      let before : (k : ℕ) → k ≤ log → upto parts k ≡ upto q k = λ k le. sym (upto_same q parts k (λ i lt. same i (omega (arith, lt, le)))) in
      record {
        bases = λ k. each_moves firm more parts q log log k grows (λ l. l) (before k) (parts_grow parts q log same part k) (d.bases k) (sound.bases k);
        newer = sound.newer;
        there = sound.there;
        first = sound.first;
        reached = sound.reached;
        older = λ k l lt. subst (λ part. IsLog part (d.logs k).now × ((d.logs k).before ≡ [])) (sym (same k lt)) (sound.older k l lt);
        last = subst (λ b. IsLast more b (q log) (d.logs log).now) (before log (omega arith)) last;
        spare = subst (λ b. AllByRecursion (IsLast more b (spared (d.logs log).now (q log))) (d.logs log).before) (before log (omega arith)) spare;
        begun = sound.begun;
        cut = sound.cut;
        later = sound.later;
        named = sound.named;
        stands = subst (λ l. IsPrefixOf l more) (before log (omega arith)) (prefix_trans (upto parts log) firm more sound.stands grows);
        none = same 0 (let a = sound.first in let b = sound.reached in omega (arith, a, b)) ∙ sound.none;
      }

  -- less is said to be firm
  pub lowered_sound : (less : List Batch) → IsPrefixOf less firm → IsPrefixOf (upto parts log) less → ((k : ℕ) → Each (IsBase less parts log k) (d.bases k)) → Sound d log sure parts less
  lowered_sound less le stands bases = record {
    bases = bases;
    newer = sound.newer;
    there = sound.there;
    first = sound.first;
    reached = sound.reached;
    older = sound.older;
    last = lower (parts log) (d.logs log).now sound.last;
    spare = all_weaker (IsLast firm (upto parts log) (spared (d.logs log).now (parts log))) (IsLast less (upto parts log) (spared (d.logs log).now (parts log))) (lower (spared (d.logs log).now (parts log))) (d.logs log).before sound.spare;
    begun = sound.begun;
    cut = sound.cut;
    later = sound.later;
    named = sound.named;
    stands = stands;
    none = sound.none;
  }
    where
      lower : (own : List Batch) (o : Option File) → IsLast firm (upto parts log) own o → IsLast less (upto parts log) own o
      lower own None is = prefix_trans less firm (upto parts log) le is
      lower own (Some f) is = (is.0, prefix_trans less firm (upto parts log ++ first_whole f.kept) le is.1)

  -- the last batch of the log is taken back, which isn't firm
  pub shrunk_sound : (q : ℕ → List Batch) → ((k : ℕ) → k < log → q k ≡ parts k) → IsPrefixOf firm (upto parts log ++ q log) → IsLast firm (upto parts log) (q log) (d.logs log).now →
      AllByRecursion (IsLast firm (upto parts log) (spared (d.logs log).now (q log))) (d.logs log).before → Sound d log sure q firm
  shrunk_sound q same all last spare = record {
    bases = λ k. (base k (d.bases k).now (sound.bases k).0, all_weaker (IsBase firm parts log k) (IsBase firm q log k) (base k) (d.bases k).before (sound.bases k).1);
    newer = sound.newer;
    there = sound.there;
    first = sound.first;
    reached = sound.reached;
    older = λ k l lt. subst (λ part. IsLog part (d.logs k).now × ((d.logs k).before ≡ [])) (sym (same k lt)) (sound.older k l lt);
    last = subst (λ b. IsLast firm b (q log) (d.logs log).now) (before log (omega arith)) last;
    spare = subst (λ b. AllByRecursion (IsLast firm b (spared (d.logs log).now (q log))) (d.logs log).before) (before log (omega arith)) spare;
    begun = sound.begun;
    cut = sound.cut;
    later = sound.later;
    named = sound.named;
    stands = subst (λ l. IsPrefixOf l firm) (before log (omega arith)) sound.stands;
    none = same 0 (let a = sound.first in let b = sound.reached in omega (arith, a, b)) ∙ sound.none;
  }
    where
      before : (k : ℕ) → k ≤ log → upto parts k ≡ upto q k
      before k le = sym (upto_same q parts k (λ i lt. same i (omega (arith, lt, le))))

      front : (k : ℕ) → k ≤ log → (xs : List Batch) → IsPrefixOf xs (parts k) → IsPrefixOf (upto parts k ++ xs) firm → IsPrefixOf xs (q k)
      front k le xs begins firmly =
          ⊎_elim
          (λ (lt : k < log). subst (IsPrefixOf xs) (sym (same k lt)) begins)
          (λ (ge : log ≤ k).
          let e : log ≡ k = omega (arith, le, ge) in
          subst (λ i. IsPrefixOf xs (q i)) e
          (prefix_cancel (upto parts log) xs (q log) (prefix_trans (upto parts log ++ xs) firm (upto parts log ++ q log) (subst (λ i. IsPrefixOf (upto parts i ++ xs) firm) (sym e) firmly) all)))
          (cases_lt k log)

      base : (k : ℕ) (o : Option File) → IsBase firm parts log k o → IsBase firm q log k o
      base k None is = tt
      base k (Some f) is = (
        is.0,
        record {
          front = is.1.front;
          file = subst (λ b. IsWhole (b ++ is.1.front) f) (before k is.0) is.1.file;
          past = is.1.past;
          part = front k is.0 is.1.front is.1.part is.1.firm;
          firm = subst (λ b. IsPrefixOf (b ++ is.1.front) firm) (before k is.0) is.1.firm;
        },
      )

  -- ---- the next log, and others after it

  pub later_sound : (n : ℕ) (o : Option File) → log < n → IsUnused o → Sound (name_log n o d) log sure parts firm
  later_sound n o lt unused = record {
    bases = sound.bases;
    newer = sound.newer;
    there = sound.there;
    first = sound.first;
    reached = sound.reached;
    older = λ k l lt'. subst (λ (x : Entry). IsLog (parts k) x.now × (x.before ≡ [])) (sym (other k (omega (arith, lt, lt')))) (sound.older k l lt');
    last = subst (λ (x : Entry). IsLast firm (upto parts log) (parts log) x.now) (sym (other log (omega (arith, lt)))) sound.last;
    spare = subst (λ (x : Entry). AllByRecursion (IsLast firm (upto parts log) (spared x.now (parts log))) x.before) (sym (other log (omega (arith, lt)))) sound.spare;
    begun = λ z. subst (Each IsThere) (sym (other log (omega (arith, lt)))) (sound.begun z);
    cut = subst (λ (x : Entry). is_cut x.now ≡ true → is_used x.now ≡ true) (sym (other log (omega (arith, lt)))) sound.cut;
    later = λ k lt'. at_all (λ i (x : Entry). Each IsUnused x) n (stands_for o (d.logs n)) d.logs k
        (λ e. (unused, ((sound.later n lt).0, (sound.later n lt).1)))
        (λ ne. sound.later k lt');
    named = let le = sound.named in omega (arith, le);
    stands = sound.stands;
    none = sound.none;
  }
    where
      other : (k : ℕ) → (k ≡ n → ⊥) → at n (stands_for o (d.logs n)) d.logs k ≡ d.logs k
      other k ne = at_other n (stands_for o (d.logs n)) d.logs k ne

  unused_last : (more before part : List Batch) → IsPrefixOf more before → (o : Option File) → IsUnused o → IsLast more before part o
  unused_last more before part has None is = has
  unused_last more before part has (Some f) is = (subst (λ l. IsPrefixOf l part) (sym is) (part, refl), prefix_onto more before (first_whole f.kept) has)

  pub switched_sound : (n : ℕ) → n ≡ suc log → IsLog (parts log) (d.logs log).now → (d.logs log).before ≡ [] → Each IsThere (d.logs n) → is_cut (d.logs n).now ≡ false → n ≤ d.names → Sound d n sure (at n [] parts) (upto parts log ++ parts log)
  switched_sound n e whole named there fresh top = record {
    bases = λ k. each_moves firm (upto parts log ++ parts log) parts (at n [] parts) log n k (sound_firm d log sure parts firm sound) (λ l. omega (arith, l, e)) (λ l. before k (omega (arith, l, e)))
        (λ l. subst (IsPrefixOf (parts k)) (sym (at_other n [] parts k (omega (arith, l, e)))) (prefix_refl (parts k))) (d.bases k) (sound.bases k);
    newer = sound.newer;
    there = sound.there;
    first = sound.first;
    reached = let le = sound.reached in omega (arith, le, e);
    older = λ k l lt.
        subst (λ part. IsLog part (d.logs k).now × ((d.logs k).before ≡ [])) (sym (at_other n [] parts k (omega (arith, lt))))
        (⊎_elim (λ (s : k ≡ log). subst (λ i. IsLog (parts i) (d.logs i).now × ((d.logs i).before ≡ [])) (sym s) (whole, named)) (λ (ne : k ≡ log → ⊥). sound.older k l (omega (arith, ne, lt, e))) (cases_eq k log));
    last = unused_last (upto parts log ++ parts log) (upto (at n [] parts) n) (at n [] parts n) has (d.logs n).now (sound.later n above).0;
    spare = all_weaker IsUnused (IsLast (upto parts log ++ parts log) (upto (at n [] parts) n) (spared (d.logs n).now (at n [] parts n))) (unused_last (upto parts log ++ parts log) (upto (at n [] parts) n) (spared (d.logs n).now (at n [] parts n)) has) (d.logs n).before (sound.later n above).1;
    begun = λ z. there;
    cut = λ c. absurd (let x : true ≡ false = sym c ∙ fresh in cc);
    later = λ k lt. sound.later k (omega (arith, lt, e));
    named = top;
    stands = subst (λ l. IsPrefixOf l (upto parts log ++ parts log)) (before n (omega arith)) (subst (λ i. IsPrefixOf (upto parts i) (upto parts log ++ parts log)) (sym e) (prefix_refl (upto parts log ++ parts log)));
    none = at_other n [] parts 0 (omega (arith, e)) ∙ sound.none;
  }
    where
      above : log < n
      above = omega (arith, e)

      before : (k : ℕ) → k ≤ n → upto parts k ≡ upto (at n [] parts) k
      before k le = sym (upto_same (at n [] parts) parts k (λ i lt. at_other n [] parts i (omega (arith, lt, le))))

      has : IsPrefixOf (upto parts log ++ parts log) (upto (at n [] parts) n)
      has = subst (IsPrefixOf (upto parts log ++ parts log)) (before n (omega arith)) (subst (λ i. IsPrefixOf (upto parts log ++ parts log) (upto parts i)) (sym e) (prefix_refl (upto parts log ++ parts log)))

  -- ---- names

  pub named_sound : Sound (sync_names d) log sure parts firm
  named_sound = record {
    bases = λ k. ((sound.bases k).0, tt);
    newer = λ k le gone. tt;
    there = ⊎_elim (λ (e : sure ≡ first_number). inl e) (λ (is : Each IsThere (d.bases sure)). inr (is.0, tt)) sound.there;
    first = sound.first;
    reached = sound.reached;
    older = λ k le lt. ((sound.older k le lt).0, refl);
    last = sound.last;
    spare = tt;
    begun = λ lt. ((sound.begun lt).0, tt);
    cut = sound.cut;
    later = λ k lt. ((sound.later k lt).0, tt);
    named = sound.named;
    stands = sound.stands;
    none = sound.none;
  }

  -- another base is there after each crash
  pub raised_sound : (n : ℕ) → sure ≤ n → n ≤ log → (n ≡ first_number) ⊎ Each IsThere (d.bases n) → Sound d log n parts firm
  raised_sound n le le' is = record {
    bases = sound.bases;
    newer = λ k l gone. sound.newer k (omega (arith, le, l)) gone;
    there = is;
    first = let a = sound.first in omega (arith, a, le);
    reached = le';
    older = λ k l lt. sound.older k (omega (arith, le, l)) lt;
    last = sound.last;
    spare = sound.spare;
    begun = sound.begun;
    cut = sound.cut;
    later = sound.later;
    named = sound.named;
    stands = sound.stands;
    none = sound.none;
  }

  -- ---- bases

  pub based_sound : (n : ℕ) → n ≤ log → IsBaseFile firm (upto parts n) (parts n) d.partial → Sound (name_base n (Some d.partial) d) log sure parts firm
  based_sound n le whole = record {
    bases = λ k. at_all (λ i (x : Entry). Each (IsBase firm parts log i) x) n (stands_for (Some d.partial) (d.bases n)) d.bases k
        (λ s. subst (λ i. Each (IsBase firm parts log i) (stands_for (Some d.partial) (d.bases n))) (sym s) ((le, whole), ((sound.bases n).0, (sound.bases n).1)))
        (λ ne. sound.bases k);
    newer = λ k l. at_all (λ i (x : Entry). IsGone x.now → AllByRecursion IsGone x.before) n (stands_for (Some d.partial) (d.bases n)) d.bases k (λ s gone. absurd gone) (λ ne. sound.newer k l);
    there = ⊎_elim (λ (z : sure ≡ first_number). inl z)
        (λ (is : Each IsThere (d.bases sure)). inr (at_all (λ i (x : Entry). Each IsThere x) n (stands_for (Some d.partial) (d.bases n)) d.bases sure
        (λ s. let same : Each IsThere (d.bases n) = subst (λ i. Each IsThere (d.bases i)) s is in (tt, (same.0, same.1))) (λ ne. is)))
        sound.there;
    first = sound.first;
    reached = sound.reached;
    older = sound.older;
    last = sound.last;
    spare = sound.spare;
    begun = sound.begun;
    cut = sound.cut;
    later = sound.later;
    named = sound.named;
    stands = sound.stands;
    none = sound.none;
  }

  -- files with temporary names aren't read
  pub aside_sound : (copy partial : File) → Sound (record d { copy = copy; partial = partial }) log sure parts firm
  aside_sound copy partial = record {
    bases = sound.bases;
    newer = sound.newer;
    there = sound.there;
    first = sound.first;
    reached = sound.reached;
    older = sound.older;
    last = sound.last;
    spare = sound.spare;
    begun = sound.begun;
    cut = sound.cut;
    later = sound.later;
    named = sound.named;
    stands = sound.stands;
    none = sound.none;
  }

  -- ---- removals

  pub log_removed_sound : (n : ℕ) → n < sure → Sound (name_log n None d) log sure parts firm
  log_removed_sound n lt = record {
    bases = sound.bases;
    newer = sound.newer;
    there = sound.there;
    first = sound.first;
    reached = sound.reached;
    older = λ k le lt'. subst (λ (x : Entry). IsLog (parts k) x.now × (x.before ≡ [])) (sym (at_other n (stands_for None (d.logs n)) d.logs k (omega (arith, lt, le)))) (sound.older k le lt');
    last = subst (λ (x : Entry). IsLast firm (upto parts log) (parts log) x.now) (sym (at_other n (stands_for None (d.logs n)) d.logs log (let r = sound.reached in omega (arith, r, lt)))) sound.last;
    spare = subst (λ (x : Entry). AllByRecursion (IsLast firm (upto parts log) (spared x.now (parts log))) x.before) (sym (at_other n (stands_for None (d.logs n)) d.logs log (let r = sound.reached in omega (arith, r, lt)))) sound.spare;
    begun = λ z. subst (Each IsThere) (sym (at_other n (stands_for None (d.logs n)) d.logs log (let r = sound.reached in omega (arith, r, lt)))) (sound.begun z);
    cut = subst (λ (x : Entry). is_cut x.now ≡ true → is_used x.now ≡ true) (sym (at_other n (stands_for None (d.logs n)) d.logs log (let r = sound.reached in omega (arith, r, lt)))) sound.cut;
    later = λ k lt'. subst (Each IsUnused) (sym (at_other n (stands_for None (d.logs n)) d.logs k (let r = sound.reached in omega (arith, r, lt, lt')))) (sound.later k lt');
    named = let le = sound.named in omega (arith, le);
    stands = sound.stands;
    none = sound.none;
  }

  pub base_removed_sound : (n : ℕ) → n < sure → Sound (name_base n None d) log sure parts firm
  base_removed_sound n lt = record {
    bases = λ k. at_all (λ i (x : Entry). Each (IsBase firm parts log i) x) n (stands_for None (d.bases n)) d.bases k
        (λ s. subst (λ i. Each (IsBase firm parts log i) (stands_for None (d.bases n))) (sym s) (tt, ((sound.bases n).0, (sound.bases n).1)))
        (λ ne. sound.bases k);
    newer = λ k l. at_all (λ i (x : Entry). IsGone x.now → AllByRecursion IsGone x.before) n (stands_for None (d.bases n)) d.bases k
        (λ s. absurd (omega (arith, s, l, lt))) (λ ne. sound.newer k l);
    there = ⊎_elim (λ (z : sure ≡ first_number). inl z)
        (λ (is : Each IsThere (d.bases sure)). inr (subst (Each IsThere) (sym (at_other n (stands_for None (d.bases n)) d.bases sure (omega (arith, lt)))) is))
        sound.there;
    first = sound.first;
    reached = sound.reached;
    older = sound.older;
    last = sound.last;
    spare = sound.spare;
    begun = sound.begun;
    cut = sound.cut;
    later = sound.later;
    named = sound.named;
    stands = sound.stands;
    none = sound.none;
  }
