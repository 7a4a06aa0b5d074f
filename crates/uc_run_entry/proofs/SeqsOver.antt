-- The sequences of the fragments over a key are those of the ranges over it.
use Rattle.std.proofs.Common.{◌≡◌, ℕ, ◌<◌, Bool, true, false, cond, ltb, arith, List, [], ◌∷◌, ◌++◌, length, map, filter, ◌⊎◌, inl, inr, refl, sym, ap, ◌∙◌, subst}
use Rattle.std.specs.Prelude.{◌&&◌}
use Rattle.std.specs.List.{AllByRecursion, flat_map}
use Rattle.std.specs.declared.cmp.Ordering.{Ordering}
use Rattle.std.specs.declared.cmp.Ordering.TheVariants.{Less, Equal, Greater}
use Rattle.std.specs.BTreeMap.Comparable.{le_lt_trans}
use Rattle.std.specs.Ordering.{is_lt, is_le}
use Rattle.std.proofs.lemmas.Bool.{false≢true}
use Rattle.std.proofs.lemmas.Bool.Decides.{nat_tests}
use Rattle.std.proofs.lemmas.List.{append-nil}
use Rattle.std.proofs.lemmas.Cmp.{nat_list_cmp_total}
use Rattle.std.proofs.lemmas.Map.Lookups.{exact_bytes}
use Rattle.uc_bytes.specs.Bytes.{bytes_cmp}
use Rattle.uc_run_entry.specs.Fragment.{Fragment}
use Rattle.uc_run_entry.specs.Run.{covers}
use Rattle.uc_run_entry.specs.Cutting.{RangeOf, Piece, has_keys, range_covers, spans, cut_points, pieces, falling, fragment_over, fragments_of}
use Rattle.uc_run_entry.proofs.Sets.{sorted_set, all_back}
use Rattle.uc_run_entry.proofs.Over.{is_in, IsAtOrBefore, IsBehind, Around, Outside, stands, one_side, lt_of, le_lt, lt_le}

passed : {X : Type 0} (test : X → Bool) (x : X) (kept : List X) (b : Bool) → test x ≡ b → AllByRecursion (λ y. test y ≡ true) kept → AllByRecursion (λ y. test y ≡ true) (cond b (x ∷ kept) kept)
passed test x kept true e h = (e, h)
passed test x kept false e h = h

all_pass : {X : Type 0} (test : X → Bool) (xs : List X) → AllByRecursion (λ x. test x ≡ true) (filter test xs)
all_pass test [] = tt
all_pass test (x ∷ xs) = passed test x (filter test xs) (test x) refl (all_pass test xs)

pub same_bool : (a b : Bool) → (a ≡ true → b ≡ true) → (b ≡ true → a ≡ true) → a ≡ b
same_bool true b to back = sym (to refl)
same_bool false true to back = back refl
same_bool false false to back = refl

both : (a b : Bool) → a ≡ true → b ≡ true → (a && b) ≡ true
both true b e f = f
both false b e f = absurd (false≢true e)

left_of : (a b : Bool) → (a && b) ≡ true → a ≡ true
left_of true b e = refl
left_of false b e = absurd (false≢true e)

right_of : (a b : Bool) → (a && b) ≡ true → b ≡ true
right_of true b e = e
right_of false b e = absurd (false≢true e)

le_trans : (x y z : List ℕ) → is_le (bytes_cmp x y) ≡ true → is_le (bytes_cmp y z) ≡ true → is_le (bytes_cmp x z) ≡ true
le_trans x y z e f = by (bytes_cmp y z) refl f
  where
    by : (o : Ordering) → bytes_cmp y z ≡ o → is_le o ≡ true → is_le (bytes_cmp x z) ≡ true
    by Less g h = ap is_le (le_lt_trans nat_list_cmp_total x y z e g)
    by Equal g h = sym (ap (λ (w : List ℕ). is_le (bytes_cmp x w)) (exact_bytes y z g)) ∙ e
    by Greater g h = absurd (false≢true h)

-- what holds of all cut points holds of both ends of each range that covers a key
ends_first : (P : List ℕ → Type 0) (r : RangeOf) (rs : List RangeOf) (b : Bool) → has_keys r ≡ b → AllByRecursion P (flat_map (λ r. r.begin ∷ r.end ∷ []) (cond b (r ∷ filter has_keys rs) (filter has_keys rs))) → (AllByRecursion P (flat_map (λ r. r.begin ∷ r.end ∷ []) (filter has_keys rs)) → AllByRecursion (λ r. has_keys r ≡ true → P r.begin × P r.end) rs) → AllByRecursion (λ r. has_keys r ≡ true → P r.begin × P r.end) (r ∷ rs)
ends_first P r rs true e h rest = ((λ _. (h.0, h.1.0)), rest h.1.1)
ends_first P r rs false e h rest = ((λ t. absurd (false≢true (sym e ∙ t))), rest h)

all_ends : (P : List ℕ → Type 0) (rs : List RangeOf) → AllByRecursion P (flat_map (λ r. r.begin ∷ r.end ∷ []) (filter has_keys rs)) → AllByRecursion (λ r. has_keys r ≡ true → P r.begin × P r.end) rs
all_ends P [] h = tt
all_ends P (r ∷ rs) h = ends_first P r rs (has_keys r) refl h (all_ends P rs)

module _ (key : List ℕ) (ranges : List RangeOf) where
  cuts_hold : (P : List ℕ → Type 0) → AllByRecursion P (cut_points ranges) → AllByRecursion (λ r. has_keys r ≡ true → P r.begin × P r.end) ranges
  cuts_hold P h = all_ends P ranges (all_back bytes_cmp exact_bytes P (flat_map (λ r. r.begin ∷ r.end ∷ []) (filter has_keys ranges)) h)

  -- a range that covers a key has keys
  covers_has_keys : (r : RangeOf) → range_covers r key ≡ true → has_keys r ≡ true
  covers_has_keys r e =
      ap is_lt (le_lt key r.begin key r.end (left_of (is_le (bytes_cmp r.begin key)) (is_lt (bytes_cmp key r.end)) e) (lt_of key key r.end (right_of (is_le (bytes_cmp r.begin key)) (is_lt (bytes_cmp key r.end)) e)))

  module _ (p : Piece) (here : is_in key p ≡ true) where
    from : is_le (bytes_cmp p.0 key) ≡ true
    from = left_of (is_le (bytes_cmp p.0 key)) (is_lt (bytes_cmp key p.1)) here

    below : bytes_cmp key p.1 ≡ Less
    below = lt_of key key p.1 (right_of (is_le (bytes_cmp p.0 key)) (is_lt (bytes_cmp key p.1)) here)

    -- a range over the piece covers the key
    spans_covers : (r : RangeOf) → spans p r ≡ true → range_covers r key ≡ true
    spans_covers r e =
        let first : is_le (bytes_cmp r.begin p.0) ≡ true = left_of (is_le (bytes_cmp r.begin p.0)) (is_le (bytes_cmp p.1 r.end)) e in
        let last : is_le (bytes_cmp p.1 r.end) ≡ true = right_of (is_le (bytes_cmp r.begin p.0)) (is_le (bytes_cmp p.1 r.end)) e in
        both (is_le (bytes_cmp r.begin key)) (is_lt (bytes_cmp key r.end)) (le_trans r.begin p.0 key first from) (ap is_lt (lt_le key key p.1 r.end below (bytes_cmp p.1 r.end) refl last))

    -- and the other way round, where no cut lies within the piece
    covers_spans : (r : RangeOf) → (IsAtOrBefore key r.begin → is_le (bytes_cmp r.begin p.0) ≡ true) → (IsBehind key r.end → is_le (bytes_cmp p.1 r.end) ≡ true) → range_covers r key ≡ true → spans p r ≡ true
    covers_spans r before behind e =
        both (is_le (bytes_cmp r.begin p.0)) (is_le (bytes_cmp p.1 r.end)) (before (left_of (is_le (bytes_cmp r.begin key)) (is_lt (bytes_cmp key r.end)) e)) (behind (right_of (is_le (bytes_cmp r.begin key)) (is_lt (bytes_cmp key r.end)) e))

  -- so the ranges over the key are those over its piece
  same_filter : (p : Piece) → is_in key p ≡ true → (rs : List RangeOf) → AllByRecursion (λ r. has_keys r ≡ true → (IsAtOrBefore key r.begin → is_le (bytes_cmp r.begin p.0) ≡ true) × (IsBehind key r.end → is_le (bytes_cmp p.1 r.end) ≡ true)) rs → filter (spans p) rs ≡ filter (λ r. range_covers r key) rs
  same_filter p here [] h = refl
  same_filter p here (r ∷ rs) h =
      let same : spans p r ≡ range_covers r key = same_bool (spans p r) (range_covers r key) (spans_covers p here r) (λ c. let ends = h.0 (covers_has_keys r c) in covers_spans p here r ends.0 ends.1 c) in
      ap (λ b. cond b (r ∷ filter (spans p) rs) (filter (spans p) rs)) same
      ∙ ap (λ (ss : List RangeOf). cond (range_covers r key) (r ∷ ss) ss) (same_filter p here rs h.1)

  -- where all cuts are on one side of the key, no range covers it
  none_covers : (rs : List RangeOf) → AllByRecursion (λ r. has_keys r ≡ true → range_covers r key ≡ true → ⊥) rs → filter (λ r. range_covers r key) rs ≡ []
  none_covers [] h = refl
  none_covers (r ∷ rs) h = ap (λ b. cond b (r ∷ filter (λ s. range_covers s key) rs) (filter (λ s. range_covers s key) rs)) (same_bool (range_covers r key) false (λ c. absurd (h.0 (covers_has_keys r c) c)) (λ e. absurd (false≢true e))) ∙ none_covers rs h.1

  -- ---- the fragments over the key

  abbrev seqs_of : List Fragment → List ℕ
  seqs_of fs = flat_map (λ (f : Fragment). f.seqs) fs

  no_seqs : (seqs : List ℕ) → ltb 0 (length seqs) ≡ false → seqs ≡ []
  no_seqs [] e = refl
  no_seqs (n ∷ ns) e =
      let l : 0 < length (n ∷ ns) = omega arith in
      let t : ltb 0 (length (n ∷ ns)) ≡ true = grind (arith, nat_tests) in
      absurd (false≢true (sym e ∙ t))

  kept_seqs : (p : Piece) (ps : List Piece) (b c : Bool) → ltb 0 (length (fragment_over ranges p).seqs) ≡ b → is_in key p ≡ c →
      seqs_of (filter (λ f. covers f key) (filter (λ f. ltb 0 (length f.seqs)) (map (fragment_over ranges) ps))) ≡ seqs_of (map (fragment_over ranges) (filter (is_in key) ps)) →
      seqs_of (filter (λ f. covers f key) (cond b (fragment_over ranges p ∷ filter (λ f. ltb 0 (length f.seqs)) (map (fragment_over ranges) ps)) (filter (λ f. ltb 0 (length f.seqs)) (map (fragment_over ranges) ps)))) ≡ seqs_of (map (fragment_over ranges) (cond c (p ∷ filter (is_in key) ps) (filter (is_in key) ps)))
  kept_seqs p ps true true e f rest =
      ap (λ b. seqs_of (cond b (fragment_over ranges p ∷ filter (λ f. covers f key) (filter (λ f. ltb 0 (length f.seqs)) (map (fragment_over ranges) ps))) (filter (λ f. covers f key) (filter (λ f. ltb 0 (length f.seqs)) (map (fragment_over ranges) ps))))) f
      ∙ ap (λ (ns : List ℕ). (fragment_over ranges p).seqs ++ ns) rest
  kept_seqs p ps true false e f rest =
      ap (λ b. seqs_of (cond b (fragment_over ranges p ∷ filter (λ f. covers f key) (filter (λ f. ltb 0 (length f.seqs)) (map (fragment_over ranges) ps))) (filter (λ f. covers f key) (filter (λ f. ltb 0 (length f.seqs)) (map (fragment_over ranges) ps))))) f
      ∙ rest
  kept_seqs p ps false true e f rest = rest ∙ ap (λ (ns : List ℕ). ns ++ seqs_of (map (fragment_over ranges) (filter (is_in key) ps))) (sym (no_seqs (fragment_over ranges p).seqs e))
  kept_seqs p ps false false e f rest = rest

  over_pieces : (ps : List Piece) → seqs_of (filter (λ f. covers f key) (filter (λ f. ltb 0 (length f.seqs)) (map (fragment_over ranges) ps))) ≡ seqs_of (map (fragment_over ranges) (filter (is_in key) ps))
  over_pieces [] = refl
  over_pieces (p ∷ ps) = kept_seqs p ps (ltb 0 (length (fragment_over ranges p).seqs)) (is_in key p) refl refl (over_pieces ps)

  only_in : (p : Piece) (ps : List Piece) → filter (is_in key) ps ≡ p ∷ [] → is_in key p ≡ true
  only_in p ps e = (subst (AllByRecursion (λ q. is_in key q ≡ true)) e (all_pass (is_in key) ps)).0

  all_rs : {P Q : RangeOf → Type 0} → ((r : RangeOf) → P r → Q r) → (rs : List RangeOf) → AllByRecursion P rs → AllByRecursion Q rs
  all_rs f [] h = tt
  all_rs f (r ∷ rs) h = (f r h.0, all_rs f rs h.1)

  all_two : (P Q : List ℕ → Type 0) (cs : List (List ℕ)) → AllByRecursion P cs → AllByRecursion Q cs → AllByRecursion (λ c. P c × Q c) cs
  all_two P Q [] h k = tt
  all_two P Q (c ∷ cs) h k = ((h.0, k.0), all_two P Q cs h.1 k.1)

  ends_of : (p : Piece) → Around key (cut_points ranges) p → AllByRecursion (λ r. has_keys r ≡ true → (IsAtOrBefore key r.begin → is_le (bytes_cmp r.begin p.0) ≡ true) × (IsBehind key r.end → is_le (bytes_cmp p.1 r.end) ≡ true)) ranges
  ends_of p around =
      all_rs (λ r h k. ((h k).0.0, (h k).1.1)) ranges
      (cuts_hold (λ c. (IsAtOrBefore key c → is_le (bytes_cmp c p.0) ≡ true) × (IsBehind key c → is_le (bytes_cmp p.1 c) ≡ true))
      (all_two (λ c. IsAtOrBefore key c → is_le (bytes_cmp c p.0) ≡ true) (λ c. IsBehind key c → is_le (bytes_cmp p.1 c) ≡ true) (cut_points ranges) around.before around.behind))

  apart_from : AllByRecursion (IsBehind key) (cut_points ranges) ⊎ AllByRecursion (IsAtOrBefore key) (cut_points ranges) → AllByRecursion (λ r. has_keys r ≡ true → range_covers r key ≡ true → ⊥) ranges
  apart_from (inl behind) = all_rs (λ r h k c. one_side key r.begin (left_of (is_le (bytes_cmp r.begin key)) (is_lt (bytes_cmp key r.end)) c) (h k).0) ranges (cuts_hold (IsBehind key) behind)
  apart_from (inr before) = all_rs (λ r h k c. one_side key r.end (h k).1 (right_of (is_le (bytes_cmp r.begin key)) (is_lt (bytes_cmp key r.end)) c)) ranges (cuts_hold (IsAtOrBefore key) before)

  by_place : ((p : Piece) × Around key (cut_points ranges) p) ⊎ Outside key (cut_points ranges) → seqs_of (filter (λ f. covers f key) (fragments_of ranges)) ≡ falling (map (λ r. r.seq) (filter (λ r. range_covers r key) ranges))
  by_place (inl around) =
      let p : Piece = around.0 in
      let here : is_in key p ≡ true = only_in p (pieces (cut_points ranges)) around.1.only in
      over_pieces (pieces (cut_points ranges))
      ∙ ap (λ (ps : List Piece). seqs_of (map (fragment_over ranges) ps)) around.1.only
      ∙ append-nil (fragment_over ranges p).seqs
      ∙ ap (λ (rs : List RangeOf). falling (map (λ r. r.seq) rs)) (same_filter p here ranges (ends_of p around.1))
  by_place (inr outside) =
      over_pieces (pieces (cut_points ranges))
      ∙ ap (λ (ps : List Piece). seqs_of (map (fragment_over ranges) ps)) outside.none
      ∙ sym (ap (λ (rs : List RangeOf). falling (map (λ r. r.seq) rs)) (none_covers ranges (apart_from outside.sides)))

  pub seqs_over_key : seqs_of (filter (λ f. covers f key) (fragments_of ranges)) ≡ falling (map (λ r. r.seq) (filter (λ r. range_covers r key) ranges))
  seqs_over_key = by_place (stands key (cut_points ranges) (sorted_set bytes_cmp nat_list_cmp_total (flat_map (λ r. r.begin ∷ r.end ∷ []) (filter has_keys ranges))))
