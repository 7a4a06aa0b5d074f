-- The cut points of one range more.
use Rattle.std.proofs.Common.{◌≡◌, ℕ, ◌+◌, ◌<◌, Bool, true, false, cond, List, [], ◌∷◌, ◌++◌, length, get_or, take, map, fold, filter, refl, sym, ap, ◌∙◌}
use Rattle.std.specs.List.{flat_map}
use Rattle.std.specs.declared.cmp.Ordering.{Ordering}
use Rattle.std.specs.declared.cmp.Ordering.TheVariants.{Less, Equal, Greater}
use Rattle.std.specs.Ordering.{match_ordering}
use Rattle.std.specs.BTreeSet.{insert_key}
use Rattle.std.proofs.lemmas.List.{append-nil, take_more}
use Rattle.std.proofs.lemmas.List.Elements.{filter-append}
use Rattle.std.proofs.lemmas.List.Sums.{fold-append}
use Rattle.std.proofs.lemmas.Grind.{flat_map-append}
use Rattle.uc_bytes.specs.Bytes.{bytes_cmp}
use Rattle.uc_run_entry.specs.Cutting.{RangeOf, has_keys, cut_points}
use denote.Ref.{Bor}

abbrev ends : RangeOf → List (List ℕ)
ends r = r.begin ∷ r.end ∷ []

abbrev pub insert : List (List ℕ) → List ℕ → List (List ℕ)
insert cuts cut = insert_key bytes_cmp cuts cut

abbrev pub seen : List (Bor (List ℕ)) → List (List ℕ)
seen cuts = map (λ c. c.now) cuts

abbrev pub insert_seen : List (Bor (List ℕ)) → Bor (List ℕ) → List (Bor (List ℕ))
insert_seen cuts cut = insert_key (λ x y. bytes_cmp x.now y.now) cuts cut

seen_placed : (k x : Bor (List ℕ)) (xs put : List (Bor (List ℕ))) (o : Ordering) →
    seen (match_ordering o (k ∷ x ∷ xs) (x ∷ xs) (x ∷ put)) ≡ match_ordering o (k.now ∷ x.now ∷ seen xs) (x.now ∷ seen xs) (x.now ∷ seen put)
seen_placed k x xs put Less = refl
seen_placed k x xs put Equal = refl
seen_placed k x xs put Greater = refl

-- an insertion of a borrowed key
pub seen_inserted : (cuts : List (Bor (List ℕ))) (cut : Bor (List ℕ)) → seen (insert_seen cuts cut) ≡ insert (seen cuts) cut.now
seen_inserted [] k = refl
seen_inserted (x ∷ xs) k =
    seen_placed k x xs (insert_seen xs k) (bytes_cmp k.now x.now)
    ∙ ap (λ (put : List (List ℕ)). match_ordering (bytes_cmp k.now x.now) (k.now ∷ x.now ∷ seen xs) (x.now ∷ seen xs) (x.now ∷ put)) (seen_inserted xs k)

ends_more : (rs : List RangeOf) (r : RangeOf) (b : Bool) → fold insert [] (flat_map ends (filter has_keys rs ++ cond b (r ∷ []) [])) ≡ cond b (insert (insert (cut_points rs) r.begin) r.end) (cut_points rs)
ends_more rs r true = ap (fold insert []) (flat_map-append ends (filter has_keys rs) (r ∷ [])) ∙ fold-append insert [] (flat_map ends (filter has_keys rs)) (r.begin ∷ r.end ∷ [])
ends_more rs r false = ap (λ (ss : List RangeOf). fold insert [] (flat_map ends ss)) (append-nil (filter has_keys rs))

cut_more : (rs : List RangeOf) (i : ℕ) (r : RangeOf) → i < length rs → r ≡ get_or rs i r → cond (has_keys r) (insert (insert (cut_points (take i rs)) r.begin) r.end) (cut_points (take i rs)) ≡ cut_points (take (i + 1) rs)
cut_more rs i r lt is =
    sym (ends_more (take i rs) r (has_keys r))
    ∙ ap (λ (ss : List RangeOf). fold insert [] (flat_map ends ss)) (sym (filter-append has_keys (take i rs) (r ∷ [])))
    ∙ ap cut_points (ap (λ (s : RangeOf). take i rs ++ s ∷ []) is ∙ sym (take_more rs i r lt))

module _ (rs : List RangeOf) (i : ℕ) (r : RangeOf) (lt : i < length rs) (is : r ≡ get_or rs i r) (old : List (Bor (List ℕ))) (so_far : seen old ≡ cut_points (take i rs)) where
  -- both ends of a range that has keys
  pub cut_both : (mid new : List (Bor (List ℕ))) (begin end : Bor (List ℕ)) → mid ≡ insert_seen old begin → new ≡ insert_seen mid end → begin.now ≡ r.begin → end.now ≡ r.end → has_keys r ≡ true → seen new ≡ cut_points (take (i + 1) rs)
  cut_both mid new begin end first second from to keys =
      ap seen second
      ∙ seen_inserted mid end
      ∙ ap (λ (cuts : List (List ℕ)). insert cuts end.now) (ap seen first ∙ seen_inserted old begin)
      ∙ (λ j. insert (insert (so_far j) (from j)) (to j))
      ∙ ap (λ b. cond b (insert (insert (cut_points (take i rs)) r.begin) r.end) (cut_points (take i rs))) (sym keys)
      ∙ cut_more rs i r lt is

  -- nothing of another
  pub cut_none : has_keys r ≡ false → seen old ≡ cut_points (take (i + 1) rs)
  cut_none none =
      so_far
      ∙ ap (λ b. cond b (insert (insert (cut_points (take i rs)) r.begin) r.end) (cut_points (take i rs))) (sym none)
      ∙ cut_more rs i r lt is
