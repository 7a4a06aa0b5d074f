-- The kept parts of the pieces between neighbouring cut points, one after the other.
use Rattle.std.proofs.Common.{◌≡◌, ℕ, ◌-◌, ◌<◌, Bool, true, false, cond, eqb, ltb, List, [], ◌∷◌, ◌++◌, length, map, filter, refl, sym, ap, ◌∙◌, arith}
use Rattle.std.specs.Prelude.{Option, Some, None, filter_map}
use Rattle.std.specs.List.{cons_option}
use Rattle.std.proofs.lemmas.Bool.{false≢true}
use Rattle.std.proofs.lemmas.Bool.Decides.{nat_tests}
use Rattle.std.proofs.lemmas.List.{append-nil, append_assoc}
use Rattle.std.proofs.lemmas.List.Elements.{filter-append}
use Rattle.uc_run_entry.specs.Fragment.{Fragment}
use Rattle.uc_run_entry.specs.Cutting.{Piece, pieces}
use Rattle.uc_run_entry.specs.Run.{Contents}
use Rattle.uc_run_entry.specs.Spanning.{covered, with_seqs}
use Rattle.uc_run_entry.proofs.Spanned.{length-pieces}
use Rattle.uc_compact.specs.Stripes.{Stripe, Keeping, stripes, is_bottom}
use Rattle.uc_compact.specs.Output.{greatest, seq_kept, seqs_kept, fragment_kept}
use Rattle.uc_compact.specs.Pieces.{AreOver, kept_over, piece_over, pieces_over}
use Rattle.uc_compact.specs.Together.{together}

abbrev some_of : List Fragment → List Fragment
some_of fs = filter (λ (f : Fragment). ltb 0 (length f.seqs)) fs

no_seqs : (ns : List ℕ) → ltb 0 (length ns) ≡ false → ns ≡ []
no_seqs [] e = refl
no_seqs (n ∷ ns) e =
    let l : 0 < length (n ∷ ns) = omega arith in
    let t : ltb 0 (length (n ∷ ns)) ≡ true = grind (arith, nat_tests) in
    absurd (false≢true (sym e ∙ t))

pieces_more : (before : List (List ℕ)) (begin end : List ℕ) → pieces (before ++ begin ∷ end ∷ []) ≡ pieces (before ++ begin ∷ []) ++ (begin, end) ∷ []
pieces_more [] begin end = refl
pieces_more (first ∷ []) begin end = refl
pieces_more (first ∷ second ∷ before) begin end = ap (λ (ps : List Piece). (first, second) ∷ ps) (pieces_more (second ∷ before) begin end)

with_seqs_more : (ps : List Piece) (lists : List (List ℕ)) (p : Piece) (seqs : List ℕ) → length lists ≡ length ps → with_seqs (ps ++ p ∷ []) (lists ++ seqs ∷ []) ≡ with_seqs ps lists ++ record { begin = p.0; end = p.1; seqs = seqs } ∷ []
with_seqs_more [] [] p seqs e = refl
with_seqs_more [] (first ∷ lists) p seqs e = absurd (omega (arith, e))
with_seqs_more (q ∷ ps) [] p seqs e = absurd (omega (arith, e))
with_seqs_more (q ∷ ps) (first ∷ lists) p seqs e = ap (λ (fs : List Fragment). record { begin = q.0; end = q.1; seqs = first } ∷ fs) (with_seqs_more ps lists p seqs (omega (arith, e)))

module _ (k : Keeping) where
  none_in : (us : List Stripe) → filter_map (seq_kept k []) us ≡ []
  none_in [] = refl
  none_in (s ∷ us) = ap (λ (o : Option ℕ). cons_option o (filter_map (seq_kept k []) us)) (none (is_bottom k s)) ∙ none_in us
    where
      none : (b : Bool) → cond b None (cond (ltb 0 (greatest [])) (Some (greatest [])) None) ≡ None
      none true = refl
      none false = refl

  -- of no sequences none are kept
  pub kept_of_none : (ns : List ℕ) → ns ≡ [] → seqs_kept k ns ≡ []
  kept_of_none ns e = ap (seqs_kept k) e ∙ none_in (stripes k.keeps)

  put_some : (f : Fragment) (fs : List Fragment) (b : Bool) → ltb 0 (length f.seqs) ≡ b → some_of (map (fragment_kept k) (some_of fs)) ≡ some_of (map (fragment_kept k) fs) →
      some_of (map (fragment_kept k) (cond b (f ∷ some_of fs) (some_of fs))) ≡ cond (ltb 0 (length (seqs_kept k f.seqs))) (fragment_kept k f ∷ some_of (map (fragment_kept k) fs)) (some_of (map (fragment_kept k) fs))
  put_some f fs true e rest = ap (λ (gs : List Fragment). cond (ltb 0 (length (seqs_kept k f.seqs))) (fragment_kept k f ∷ gs) gs) rest
  put_some f fs false e rest =
      rest
      ∙ ap (λ (ns : List ℕ). cond (ltb 0 (length ns)) (fragment_kept k f ∷ some_of (map (fragment_kept k) fs)) (some_of (map (fragment_kept k) fs))) (sym (kept_of_none f.seqs (no_seqs f.seqs e)))

  -- so it is all the same whether they were left out before
  kept_of_some : (fs : List Fragment) → some_of (map (fragment_kept k) (some_of fs)) ≡ some_of (map (fragment_kept k) fs)
  kept_of_some [] = refl
  kept_of_some (f ∷ fs) = put_some f fs (ltb 0 (length f.seqs)) refl (kept_of_some fs)

  module _ (runs : List Contents) where
    abbrev pub kept_of : List Piece → List Fragment
    kept_of ps = filter (λ (f : Fragment). ltb 0 (length f.seqs)) (map (fragment_kept k) (map (piece_over runs) ps))

    pub all_kept : (cuts : List (List ℕ)) → kept_of (pieces cuts) ≡ filter (λ (f : Fragment). ltb 0 (length f.seqs)) (map (fragment_kept k) (pieces_over runs cuts))
    all_kept cuts = sym (kept_of_some (map (piece_over runs) (pieces cuts)))

    put_first : (f : Fragment) (fs : List Fragment) (b : Bool) → cond b (f ∷ fs) fs ≡ cond b (f ∷ []) [] ++ fs
    put_first f fs true = refl
    put_first f fs false = refl

    module _ (made all : List Fragment) (p : Piece) (ps : List Piece) (so_far : made ++ kept_of (p ∷ ps) ≡ all) where
      pub piece_more : (more : List Fragment) → more ≡ made ++ kept_of (p ∷ []) → more ++ kept_of ps ≡ all
      piece_more more grown =
          ap (λ (fs : List Fragment). fs ++ kept_of ps) grown
          ∙ append_assoc made (kept_of (p ∷ [])) (kept_of ps)
          ∙ ap (λ (fs : List Fragment). made ++ fs) (sym (put_first (fragment_kept k (piece_over runs p)) (kept_of ps) (ltb 0 (length (fragment_kept k (piece_over runs p)).seqs))))
          ∙ so_far

    pub no_more : (made all : List Fragment) → made ++ kept_of [] ≡ all → made ≡ all
    no_more made all so_far = sym (append-nil made) ∙ so_far

    -- a piece by the sequences over it
    module _ (begin end : List ℕ) (lists : List (List ℕ)) (over : AreOver begin runs lists) (seqs kept : List ℕ) (are : seqs ≡ together lists) (made : kept ≡ seqs_kept k seqs) where
      abbrev here : Fragment
      here = fragment_kept k (piece_over runs (begin, end))

      kept_are : kept ≡ (fragment_kept k (piece_over runs (begin, end))).seqs
      kept_are = made ∙ ap (seqs_kept k) (are ∙ ap together over.are)

      pub none_kept : length kept ≡ 0 → [] ≡ kept_of ((begin, end) ∷ [])
      none_kept none =
          let t : ltb 0 (length kept) ≡ false = grind (arith, nat_tests) in
          ap (λ b. cond b (here ∷ []) []) (sym (ap (λ (ns : List ℕ). ltb 0 (length ns)) (sym kept_are) ∙ t))

    -- the pieces by their lists
    pub made_more : (before : List (List ℕ)) (begin end : List ℕ) (cuts : List (List ℕ)) (kept : List (List ℕ)) → cuts ≡ before ++ begin ∷ [] → length kept ≡ length cuts - 1 →
        covered (with_seqs (pieces (cuts ++ end ∷ [])) (kept ++ kept_over k runs begin ∷ [])) ≡ covered (with_seqs (pieces cuts) kept) ++ kept_of ((begin, end) ∷ [])
    made_more before begin end cuts kept are long =
        let more : pieces (cuts ++ end ∷ []) ≡ pieces cuts ++ (begin, end) ∷ [] =
        ap (λ (cs : List (List ℕ)). pieces (cs ++ end ∷ [])) are ∙ ap pieces (append_assoc before (begin ∷ []) (end ∷ [])) ∙ pieces_more before begin end ∙ ap (λ (cs : List (List ℕ)). pieces cs ++ (begin, end) ∷ []) (sym are) in
        ap (λ (ps : List Piece). covered (with_seqs ps (kept ++ kept_over k runs begin ∷ []))) more
        ∙ ap covered (with_seqs_more (pieces cuts) kept (begin, end) (kept_over k runs begin) (long ∙ sym (length-pieces cuts)))
        ∙ filter-append (λ (f : Fragment). ltb 0 (length f.seqs)) (with_seqs (pieces cuts) kept) (fragment_kept k (piece_over runs (begin, end)) ∷ [])
