-- The least key of several runs' points is the least of each run's least ones.
use Rattle.std.proofs.Common.{◌≡◌, ℕ, ◌+◌, ◌<◌, Bool, true, false, cond, List, [], ◌∷◌, ◌++◌, length, get_or, take, map, Option, Some, None, Contains, refl, sym, ap, ◌∙◌, subst, append_assoc}
use Rattle.std.specs.List.{AllByRecursion}
use Rattle.std.specs.Ordering.{is_lt, is_le}
use Rattle.std.proofs.lemmas.Bool.{false≢true}
use Rattle.std.proofs.lemmas.List.{append-nil, map-append, take_more}
use Rattle.std.proofs.lemmas.List.Elements.{Contains-append_left, Contains-append_right}
use Rattle.uc_bytes.specs.Bytes.{bytes_cmp}
use Rattle.uc_run_entry.specs.declared.entry.Entry.{Entry}
use Rattle.uc_run_entry.specs.Run.{Contents}
use Rattle.uc_run_entry.specs.Seek.{is_passed}
use Rattle.uc_run.specs.NextKey.{IsLeastKey, IsNextKey}
use Rattle.uc_run.specs.Heads.{lesser_of}
use Rattle.uc_compact.proofs.Keys.{lt_of, le_of_not, le_trans, le_of_lt}
use Rattle.uc_compact.specs.Inputs.{points_of}
use Rattle.uc_compact.proofs.NestedLists.{all-append, all-map}

module _ (low : List ℕ) (strict : Bool) where
  abbrev keys : List Entry → List (List ℕ)
  keys ps = map (λ p. p.key) ps

  abbrev IsFrom : List ℕ → Entry → Type 0
  IsFrom key p = is_passed low strict p.key ≡ false → is_le (bytes_cmp key p.key) ≡ true

  pub in_front : (ps qs : List Entry) (key : List ℕ) → Contains (keys ps) key → Contains (keys (ps ++ qs)) key
  in_front ps qs key c =
      subst (λ (ks : List (List ℕ)). Contains ks key) (sym (map-append (λ (p : Entry). p.key) ps qs)) (Contains-append_left (keys ps) (keys qs) key c)

  pub behind : (ps qs : List Entry) (key : List ℕ) → Contains (keys qs) key → Contains (keys (ps ++ qs)) key
  behind ps qs key c =
      subst (λ (ks : List (List ℕ)). Contains ks key) (sym (map-append (λ (p : Entry). p.key) ps qs)) (Contains-append_right (keys ps) (keys qs) key c)

  pub passed_from : (key : List ℕ) (ps : List Entry) → AllByRecursion (λ p. is_passed low strict p.key ≡ true) ps → AllByRecursion (IsFrom key) ps
  passed_from key ps h =
      all-map (λ (p : Entry). is_passed low strict p.key ≡ true) (IsFrom key) (λ p passed ahead. absurd (false≢true (sym ahead ∙ passed))) ps h

  pub lower : (key other : List ℕ) (ps : List Entry) → is_le (bytes_cmp other key) ≡ true → AllByRecursion (IsFrom key) ps → AllByRecursion (IsFrom other) ps
  lower key other ps le h = all-map (IsFrom key) (IsFrom other) (λ p from ahead. le_trans other key p.key le (from ahead)) ps h

  least_by : (ps qs : List Entry) (key other : List ℕ) (b : Bool) → is_lt (bytes_cmp other key) ≡ b → IsLeastKey ps low strict key → IsLeastKey qs low strict other → IsNextKey (ps ++ qs) low strict (cond b (Some other) (Some key))
  least_by ps qs key other true e h k = record {
    of_a_point = behind ps qs other k.of_a_point;
    not_passed = k.not_passed;
    least = all-append (IsFrom other) ps qs (lower key other ps (le_of_lt other key (lt_of other key e)) h.least) k.least;
  }
  least_by ps qs key other false e h k = record {
    of_a_point = in_front ps qs key h.of_a_point;
    not_passed = h.not_passed;
    least = all-append (IsFrom key) ps qs h.least (lower other key qs (le_of_not other key e) k.least);
  }

  least_of_both : (ps qs : List Entry) (one other : Option (List ℕ)) → IsNextKey ps low strict one → IsNextKey qs low strict other → IsNextKey (ps ++ qs) low strict (lesser_of one other)
  least_of_both ps qs None None h k = all-append (λ (p : Entry). is_passed low strict p.key ≡ true) ps qs h k
  least_of_both ps qs None (Some other) h k = record {
    of_a_point = behind ps qs other k.of_a_point;
    not_passed = k.not_passed;
    least = all-append (IsFrom other) ps qs (passed_from other ps h) k.least;
  }
  least_of_both ps qs (Some key) None h k = record {
    of_a_point = in_front ps qs key h.of_a_point;
    not_passed = h.not_passed;
    least = all-append (IsFrom key) ps qs h.least (passed_from key qs k);
  }
  least_of_both ps qs (Some key) (Some other) h k = least_by ps qs key other (is_lt (bytes_cmp other key)) refl h k

  module _ {X : Type 0} (run_of : X → Contents) where
    abbrev points_in : List X → List Entry
    points_in runs = points_of (map run_of runs)

    pub points-more : (runs : List X) (r : X) → points_in (runs ++ r ∷ []) ≡ points_in runs ++ (run_of r).points
    points-more [] r = append-nil (run_of r).points
    points-more (x ∷ xs) r =
        ap (λ (ps : List Entry). (run_of x).points ++ ps) (points-more xs r) ∙ sym (append_assoc (run_of x).points (points_in xs) (run_of r).points)

    -- one run more
    pub least_step : (runs : List X) (i : ℕ) (r : X) (least own next : Option (List ℕ)) → i < length runs → r ≡ get_or runs i r → IsNextKey (points_in (take i runs)) low strict least → IsNextKey (run_of r).points low strict own → next ≡ lesser_of least own →
        IsNextKey (points_in (take (i + 1) runs)) low strict next
    least_step runs i r least own next lt is h k made =
        let more : points_in (take (i + 1) runs) ≡ points_in (take i runs) ++ (run_of r).points =
        ap points_in (take_more runs i r lt ∙ ap (λ (x : X). take i runs ++ x ∷ []) (sym is))
        ∙ points-more (take i runs) r in
        subst (λ (ps : List Entry). IsNextKey ps low strict next) (sym more)
        (subst (IsNextKey (points_in (take i runs) ++ (run_of r).points) low strict) (sym made) (least_of_both (points_in (take i runs)) (run_of r).points least own h k))
