-- The records of a written log, one after the other.
use Rattle.std.proofs.Common.{◌≡◌, ℕ, zero, suc, ◌+◌, ◌-◌, ◌%◌, ◌≤◌, ◌<◌, List, [], ◌∷◌, ◌++◌, length, map, take, drop, inl, inr, refl, sym, ap, subst, ◌∙◌, append_assoc, length-append, length-take, length-drop, arith}
use Rattle.std.specs.List.{concat, AllByRecursion}
use Rattle.std.proofs.lemmas.Bool.{cases_lt}
use Rattle.std.proofs.lemmas.List.{take-append-drop}
use Rattle.std.proofs.Math.Seq.{drop-nil}
use Rattle.uc_logrec.specs.declared.kind.Kind.TheVariants.{Full, First, Middle, Last}
use Rattle.uc_logrec.specs.Format.{room, header_place, record_text}
use Rattle.uc_logrec.specs.Log.{trailer, blocks_text, rest_text, records_text, payload_text, text_from}
use Rattle.uc_logrec.specs.Grammar.{LogRecord, Stand, place_behind, Group, Whole, Pieces, group_records, payload_of, sentence}
use Rattle.uc_logrec.specs.Layout.{FillsBlocks, AllFillBlocks, IsLaidOut}
use Rattle.uc_logrec.proofs.Reading.{here}
use Rattle.uc_logrec.proofs.Records.{length-record_text}
use Rattle.uc_logrec.proofs.Writing.{blocks_text-last, blocks_text-middle, records_text-full, records_text-pieces}
use Rattle.uc_logrec.proofs.RoundTrip.{place_here, header_fits, past_trailer, length-trailer}
use Rattle.uc_logrec.proofs.Standing.{Stand-append}

-- ---- a record, and what comes after it

-- a record that fills its block: the next one comes directly after it
full_stands : (place next : ℕ) (found : LogRecord) (left : List ℕ) (records : List LogRecord) (rest : List ℕ) → 7 + length found.1 ≡ room place → next ≡ place + 7 + length found.1 → next % 32768 ≡ 0 → Stand next left records rest → Stand place (record_text found.0 found.1 ++ left) (found ∷ records) rest
full_stands place next found left records rest fills at start stand =
    let behind = place + 7 + length found.1 in
    let same : header_place behind ≡ behind = place_here behind (omega (arith, at)) in
    let none : behind - behind ≡ 0 = omega arith in
    let there : Stand behind (drop (behind - behind) left) records rest = rw none (subst (λ (p : ℕ). Stand p left records rest) at stand) in
    (left, omega (arith, fills), refl, subst (λ (p : ℕ). Stand p (drop (p - behind) left) records rest) (sym same) there)

-- the place after it
full_behind : (place next : ℕ) (found : LogRecord) (records : List LogRecord) → next ≡ place + 7 + length found.1 → next % 32768 ≡ 0 → place_behind place (found ∷ records) ≡ place_behind next records
full_behind place next found records at start =
    let same : header_place (place + 7 + length found.1) ≡ next = place_here (place + 7 + length found.1) (omega (arith, at)) ∙ sym at in
    ap (λ (p : ℕ). place_behind p records) same

-- the last record of a payload
last_stands : (place there : ℕ) (found : LogRecord) (left : List ℕ) → 7 + length found.1 ≤ room place → there ≡ place + 7 + length found.1 → Stand place (record_text found.0 found.1 ++ left) (found ∷ []) (here there left)
last_stands place there found left fits at = (left, fits, refl, ap (λ (p : ℕ). here p left) (sym at))

-- ---- MIDDLEs and a LAST

abbrev middle_records : List (List ℕ) → List LogRecord
middle_records middles = map (λ fragment. (Middle, fragment)) middles

abbrev with_last : List (List ℕ) → List ℕ → List LogRecord
with_last middles last = middle_records middles ++ (Last, last) ∷ []

record Blocks (place : ℕ) (payload text left : List ℕ) : Type 0 where
  middles : List (List ℕ)
  last : List ℕ
  there : ℕ
  payload_is : concat middles ++ last ≡ payload
  full : AllByRecursion (λ middle. 7 + length middle ≡ 32768) middles
  data_left : 0 < length last
  there_is : there ≡ place + length text
  behind_is : place_behind place (with_last middles last) ≡ header_place there
  stand : Stand place (text ++ left) (with_last middles last) (here there left)

one_last : (place : ℕ) (payload left : List ℕ) → place % 32768 ≡ 0 → 0 < length payload → length payload ≤ 32761 → Blocks place payload (record_text Last payload) left
one_last place payload left start some short = record {
  middles = [];
  last = payload;
  there = place + 7 + length payload;
  payload_is = refl;
  full = tt;
  data_left = some;
  there_is = omega (arith, length-record_text Last payload);
  behind_is = refl;
  stand = last_stands place (place + 7 + length payload) (Last, payload) left (omega arith) refl;
}

one_middle : (place : ℕ) (fragment payload text left : List ℕ) → place % 32768 ≡ 0 → length fragment ≡ 32761 → Blocks (place + 32768) payload text left → Blocks place (fragment ++ payload) (record_text Middle fragment ++ text) left
one_middle place fragment payload text left start full behind = record {
  middles = fragment ∷ behind.middles;
  last = behind.last;
  there = behind.there;
  payload_is = append_assoc fragment (concat behind.middles) behind.last ∙ ap (λ (l : List ℕ). fragment ++ l) behind.payload_is;
  full = (omega (arith, full), behind.full);
  data_left = behind.data_left;
  there_is = omega (arith, behind.there_is, full, length-append (record_text Middle fragment) text, length-record_text Middle fragment);
  behind_is = full_behind place (place + 32768) (Middle, fragment) (with_last behind.middles behind.last) (omega (arith, full)) (omega arith) ∙ behind.behind_is;
  stand = subst (λ (bytes : List ℕ). Stand place bytes ((Middle, fragment) ∷ with_last behind.middles behind.last) (here behind.there left)) (sym (append_assoc (record_text Middle fragment) text left))
      (full_stands place (place + 32768) (Middle, fragment) (text ++ left) (with_last behind.middles behind.last) (here behind.there left) (omega (arith, full)) (omega (arith, full)) (omega arith) behind.stand);
}

blocks_stand : (blocks place : ℕ) (payload left : List ℕ) → place % 32768 ≡ 0 → 0 < length payload → length payload < blocks → Blocks place payload (blocks_text blocks payload) left
blocks_stand zero place payload left start some enough = absurd (omega arith)
blocks_stand (suc blocks) place payload left start some enough =
    elim (cases_lt 32761 (length payload)) [
      | inl long ↦
          let fragment = take 32761 payload in
          let rest = drop 32761 payload in
          let behind = blocks_stand blocks (place + 32768) rest left (omega arith) (omega (arith, length-drop 32761 payload)) (omega (arith, length-drop 32761 payload)) in
          let all = one_middle place fragment rest (blocks_text blocks rest) left start (omega (arith, length-take 32761 payload)) behind in
          subst (λ (t : List ℕ). Blocks place payload t left) (sym (blocks_text-middle blocks payload long)) (subst (λ (p : List ℕ). Blocks place p (record_text Middle fragment ++ blocks_text blocks rest) left) (take-append-drop 32761 payload) all)
      | inr short ↦ subst (λ (t : List ℕ). Blocks place payload t left) (sym (blocks_text-last blocks payload short)) (one_last place payload left start some short)
    ]

-- ---- a payload

record Laid (place : ℕ) (payload text left : List ℕ) : Type 0 where
  group : Group
  there : ℕ
  payload_is : payload_of group ≡ payload
  fills : FillsBlocks place group
  there_is : there ≡ place + length text
  behind_is : place_behind place (group_records group) ≡ header_place there
  stand : Stand place (text ++ left) (group_records group) (here there left)

laid_whole : (place : ℕ) (payload left : List ℕ) → 7 ≤ room place → length payload ≤ room place - 7 → Laid place payload (record_text Full payload) left
laid_whole place payload left fits short = record {
  group = Whole 0 payload;
  there = place + 7 + length payload;
  payload_is = refl;
  fills = refl;
  there_is = omega (arith, length-record_text Full payload);
  behind_is = refl;
  stand = last_stands place (place + 7 + length payload) (Full, payload) left (omega arith) refl;
}

laid_pieces : (place : ℕ) (fragment rest left : List ℕ) → 7 ≤ room place → length fragment ≡ room place - 7 → 0 < length rest → Laid place (fragment ++ rest) (record_text First fragment ++ rest_text rest) left
laid_pieces place fragment rest left fits full some =
    let next = place + 7 + length fragment in
    let start : next % 32768 ≡ 0 = omega arith in
    let fills : 7 + length fragment ≡ room place = omega (arith, full) in
    let b = blocks_stand (suc (length rest)) next rest left start some (omega arith) in
    let found : LogRecord = (First, fragment) in
    record {
      group = Pieces 0 fragment b.middles b.last;
      there = b.there;
      payload_is = append_assoc fragment (concat b.middles) b.last ∙ ap (λ (l : List ℕ). fragment ++ l) b.payload_is;
      fills = (refl, fills, b.full, b.data_left);
      there_is = omega (arith, b.there_is, length-append (record_text First fragment) (rest_text rest), length-record_text First fragment);
      behind_is = full_behind place next found (with_last b.middles b.last) refl start ∙ b.behind_is;
      stand = subst (λ (bytes : List ℕ). Stand place bytes (found ∷ with_last b.middles b.last) (here b.there left)) (sym (append_assoc (record_text First fragment) (rest_text rest) left))
          (full_stands place next found (rest_text rest ++ left) (with_last b.middles b.last) (here b.there left) fills refl start b.stand);
    }

laid_payload : (place : ℕ) (payload left : List ℕ) → 7 ≤ room place → Laid place payload (records_text place payload) left
laid_payload place payload left fits =
    elim (cases_lt (room place - 7) (length payload)) [
      | inl long ↦
          let most = room place - 7 in
          let all = laid_pieces place (take most payload) (drop most payload) left fits (omega (arith, length-take most payload)) (omega (arith, length-drop most payload)) in
          subst (λ (t : List ℕ). Laid place payload t left) (sym (records_text-pieces place payload long)) (subst (λ (p : List ℕ). Laid place p (record_text First (take most payload) ++ rest_text (drop most payload)) left) (take-append-drop most payload) all)
      | inr short ↦ subst (λ (t : List ℕ). Laid place payload t left) (sym (records_text-full place payload short)) (laid_whole place payload left fits short)
    ]

-- ---- a log

record LaidFrom (offset : ℕ) (payloads : List (List ℕ)) : Type 0 where
  groups : List Group
  payloads_are : map payload_of groups ≡ payloads
  stand : Stand (header_place offset) (here offset (text_from offset payloads)) (sentence groups) []
  fill : AllFillBlocks (header_place offset) groups

laid_next : (offset : ℕ) (payload : List ℕ) (payloads : List (List ℕ)) (left : List ℕ) (laid : Laid (header_place offset) payload (records_text (header_place offset) payload) left) → left ≡ text_from laid.there payloads → LaidFrom laid.there payloads
    → here offset (payload_text offset payload ++ left) ≡ records_text (header_place offset) payload ++ left → text_from offset (payload ∷ payloads) ≡ payload_text offset payload ++ left → LaidFrom offset (payload ∷ payloads)
laid_next offset payload payloads left laid same others bytes text = record {
  groups = laid.group ∷ others.groups;
  payloads_are = ap (λ (p : List ℕ). p ∷ map payload_of others.groups) laid.payload_is ∙ ap (λ (ps : List (List ℕ)). payload ∷ ps) others.payloads_are;
  stand = subst (λ (bs : List ℕ). Stand (header_place offset) bs (sentence (laid.group ∷ others.groups)) []) (sym (ap (here offset) text ∙ bytes))
      (Stand-append (group_records laid.group) (sentence others.groups) (header_place offset) (records_text (header_place offset) payload ++ left) (here laid.there left) [] laid.stand
      (subst (λ (p : ℕ). Stand p (here laid.there left) (sentence others.groups) []) (sym laid.behind_is) (subst (λ (t : List ℕ). Stand (header_place laid.there) (here laid.there t) (sentence others.groups) []) (sym same) others.stand)));
  fill = (laid.fills, subst (λ (p : ℕ). AllFillBlocks p others.groups) (sym laid.behind_is) others.fill);
}

laid_from : (payloads : List (List ℕ)) (offset : ℕ) → LaidFrom offset payloads
unfolding text_from
laid_from [] offset = record { groups = []; payloads_are = refl; stand = drop-nil {A = ℕ} (header_place offset - offset); fill = tt }
laid_from (payload ∷ payloads) offset =
    let place = header_place offset in
    let records = records_text place payload in
    let next = offset + length (payload_text offset payload) in
    let left = text_from next payloads in
    let laid = laid_payload place payload left (header_fits offset) in
    let at : next ≡ laid.there = omega (arith, laid.there_is, length-append (trailer offset) records, length-trailer offset) in
    let bytes : here offset (payload_text offset payload ++ left) ≡ records ++ left = ap (here offset) (append_assoc (trailer offset) records left) ∙ past_trailer offset (records ++ left) in
    laid_next offset payload payloads left laid (ap (λ (o : ℕ). text_from o payloads) at) (laid_from payloads laid.there) bytes refl

pub is_laid_out : (payloads : List (List ℕ)) → IsLaidOut payloads
is_laid_out payloads =
    let all = laid_from payloads 0 in
    record { groups = all.groups; payloads_are = all.payloads_are; stand = all.stand; fill = all.fill }
