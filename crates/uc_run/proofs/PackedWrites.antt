-- Writes that slots and an arena hold, when they grow and when they are cut.
use Rattle.std.proofs.Common.{◌≡◌, ℕ, zero, suc, ◌+◌, ◌-◌, ◌/◌, ◌%◌, ◌^◌, ◌<◌, ◌≤◌, List, [], ◌∷◌, ◌++◌, Some, None, length, take, drop, refl, add-one, ap, sym, ◌∙◌, subst, arith}
use Rattle.std.specs.List.{slice_get}
use Rattle.std.proofs.Math.Seq.{drop-append_seam, take-append_seam}
use Rattle.std.proofs.lemmas.List.{drop-append-le, take-append-le, take-append-drop, length-drop, length-take-le, length-append, take_all}
use Rattle.uc_bytes.specs.declared.op.Op.{Op}
use Rattle.uc_bytes.specs.declared.op_ref.OpKind.{OpKind}
use Rattle.uc_bytes.specs.declared.op_ref.OpKind.TheVariants.{Put, Delete, Merge, DeleteRange}
use Rattle.uc_bytes.specs.declared.write.Write.{Write}
use Rattle.uc_bytes.specs.Borrowed.{op_of}
use Rattle.uc_run_points.specs.Numbers.{number_from}
use Rattle.uc_run_points.proofs.NumbersAgain.{number_again}
use Rattle.uc_run.specs.declared.slot.Slot.{Slot}
use Rattle.uc_run.specs.Slots.{kind_of, kind_number, trailer_of, bytes_of, write_of, end_before, slot_writes, AreInOrder, Grows}

-- ---- a write that was packed is read again

abbrev written : ℕ → OpKind → List ℕ → List ℕ → Write
written seq kind first second = record { seq = seq; op = op_of kind first second }

kind_again : (kind : OpKind) → kind_of (kind_number kind) ≡ kind
kind_again Put = refl
kind_again Delete = refl
kind_again Merge = refl
kind_again DeleteRange = refl

kind_below : (kind : OpKind) → kind_number kind < 4
kind_below Put = omega arith
kind_below Delete = omega arith
kind_below Merge = omega arith
kind_below DeleteRange = omega arith

-- a write that a number and the bytes after it encode
abbrev told : ℕ → OpKind → ℕ × List ℕ → Write
told seq kind len = written seq kind (take len.0 len.1) (drop len.0 len.1)

pub write_again : (seq : ℕ) (kind : OpKind) (first second : List ℕ) → length first < 2 ^ 64 → write_of (trailer_of seq kind) (bytes_of first second) ≡ written seq kind first second
write_again seq kind first second fits =
    let below : kind_number kind < 4 = kind_below kind in
    let high : trailer_of seq kind / 4 ≡ seq = omega arith in
    let low : trailer_of seq kind % 4 ≡ kind_number kind = omega arith in
    ap (λ (n : ℕ). told n (kind_of (trailer_of seq kind % 4)) (number_from (bytes_of first second))) high
    ∙ ap (λ (n : ℕ). told seq (kind_of n) (number_from (bytes_of first second))) low
    ∙ ap (λ (k : OpKind). told seq k (number_from (bytes_of first second))) (kind_again kind)
    ∙ ap (told seq kind) (number_again (length first) (first ++ second) fits)
    ∙ ap (λ (xs : List ℕ). written seq kind xs (drop (length first) (first ++ second))) (take-append_seam first second)
    ∙ ap (written seq kind first) (drop-append_seam first second)

-- ---- where bytes end

-- those of each slot end where later ones do, or before
pub ends_rise : (room : ℕ) (slots : List Slot) (n : ℕ) → AreInOrder room slots → end_before room slots ≤ end_before room (drop n slots)
ends_rise room [] zero order = omega arith
ends_rise room [] (suc n) order = omega arith
ends_rise room (s ∷ slots) zero order = omega arith
ends_rise room (s ∷ slots) (suc n) order =
    let here : s.start ≤ end_before room slots = order.0 in
    let later : end_before room slots ≤ end_before room (drop n slots) = ends_rise room slots n order.1 in
    omega arith

pub ends_within : (room : ℕ) (slots : List Slot) → AreInOrder room slots → end_before room slots ≤ room
ends_within room [] order = omega arith
ends_within room (s ∷ slots) order =
    let here : s.start ≤ end_before room slots = order.0 in
    let later : end_before room slots ≤ room = ends_within room slots order.1 in
    omega arith

pub behind_in_order : (room : ℕ) (slots : List Slot) (n : ℕ) → AreInOrder room slots → AreInOrder room (drop n slots)
behind_in_order room [] zero order = tt
behind_in_order room [] (suc n) order = tt
behind_in_order room (s ∷ slots) zero order = order
behind_in_order room (s ∷ slots) (suc n) order = behind_in_order room slots n order.1

pub end_within : (room : ℕ) (slots : List Slot) (n : ℕ) → AreInOrder room slots → end_before room (drop n slots) ≤ room
end_within room slots n order = ends_within room (drop n slots) (behind_in_order room slots n order)

pub end_at_next : (room : ℕ) (slots : List Slot) (n : ℕ) (s : Slot) → slice_get slots n ≡ Some s → s.start ≡ end_before room (drop n slots)
end_at_next room [] zero s is = cc
end_at_next room [] (suc n) s is = cc
end_at_next room (x ∷ slots) zero s is = cc
end_at_next room (x ∷ slots) (suc n) s is = end_at_next room slots n s is

pub end_at_room : (room : ℕ) (slots : List Slot) (n : ℕ) → slice_get slots n ≡ None → room ≡ end_before room (drop n slots)
end_at_room room [] zero is = refl
end_at_room room [] (suc n) is = refl
end_at_room room (x ∷ slots) zero is = cc
end_at_room room (x ∷ slots) (suc n) is = end_at_room room slots n is

-- a slot's bytes end after their start
pub start_within : (room : ℕ) (slots : List Slot) (n : ℕ) (s : Slot) → AreInOrder room slots → slice_get slots n ≡ Some s → s.start ≤ end_before room (drop (suc n) slots)
start_within room [] n s order is = cc
start_within room (x ∷ slots) zero s order is =
    let same : x ≡ s = cc in
    subst (λ (y : Slot). y.start ≤ end_before room slots) same order.0
start_within room (x ∷ slots) (suc n) s order is = start_within room slots n s order.1 is

-- ---- one of the writes

pub length-writes : (text : List ℕ) (slots : List Slot) → length (slot_writes text slots) ≡ length slots
length-writes text [] = refl
length-writes text (s ∷ slots) = ap suc (length-writes text slots)

pub write_there : (text : List ℕ) (slots : List Slot) (n : ℕ) (s : Slot) → slice_get slots n ≡ Some s → slice_get (slot_writes text slots) n ≡ Some (write_of s.trailer (take (end_before (length text) (drop (suc n) slots) - s.start) (drop s.start text)))
write_there text [] n s is = cc
write_there text (x ∷ slots) zero s is = cc
write_there text (x ∷ slots) (suc n) s is = write_there text slots n s is

-- a slot as it was read, and where its bytes end
module _ (text : List ℕ) (slots : List Slot) (n : ℕ) (s : Slot) (start end : ℕ) (is : slice_get slots n ≡ Some s) (starts : start ≡ s.start) (ends : end ≡ end_before (length text) (drop (n + 1) slots)) where
  end_is : end ≡ end_before (length text) (drop (suc n) slots)
  end_is = ends ∙ ap (λ (k : ℕ). end_before (length text) (drop k slots)) (add-one n)

  pub starts_before : AreInOrder (length text) slots → start ≤ end
  starts_before order =
      let within : s.start ≤ end_before (length text) (drop (suc n) slots) = start_within (length text) slots n s order is in
      omega (arith, end_is, starts)

  pub ends_inside : AreInOrder (length text) slots → end ≤ length text
  ends_inside order =
      let within : end_before (length text) (drop (suc n) slots) ≤ length text = end_within (length text) slots (suc n) order in
      omega (arith, end_is)

  pub read_there : (w : Write) → w ≡ write_of s.trailer (take (end - start) (drop start text)) → slice_get (slot_writes text slots) n ≡ Some w
  read_there w told =
      write_there text slots n s is
      ∙ ap Some (sym (told ∙ ap (λ (k : ℕ). write_of s.trailer (take (end - k) (drop k text))) starts ∙ ap (λ (k : ℕ). write_of s.trailer (take (k - s.start) (drop s.start text))) end_is))

-- ---- the first writes

-- a part of some bytes that more bytes follow
part_kept : (text more : List ℕ) (start len : ℕ) → start + len ≤ length text → take len (drop start (text ++ more)) ≡ take len (drop start text)
part_kept text more start len le =
    let room : length (drop start text) ≡ length text - start = length-drop start text in
    ap (take len) (drop-append-le start text more (omega (arith, le))) ∙ take-append-le len (drop start text) more (omega (arith, le, room))

-- a part of some bytes that were cut after it
part_of_first : (text : List ℕ) (end start len : ℕ) → end ≤ length text → start + len ≤ end → take len (drop start (take end text)) ≡ take len (drop start text)
part_of_first text end start len within le =
    let long : length (take end text) ≡ end = length-take-le end text within in
    sym (part_kept (take end text) (drop end text) start len (omega arith))
    ∙ ap (λ (t : List ℕ). take len (drop start t)) (take-append-drop end text)

-- where the bytes before the first slots end, in an arena that is cut after them
end_kept : (room end : ℕ) (slots : List Slot) (n : ℕ) → end ≡ end_before room (drop n slots) → end_before end (take n slots) ≡ end_before room slots
end_kept room end [] zero is = is
end_kept room end [] (suc n) is = is
end_kept room end (s ∷ slots) zero is = is
end_kept room end (s ∷ slots) (suc n) is = refl

pub first_in_order : (room end : ℕ) (slots : List Slot) (n : ℕ) → AreInOrder room slots → end ≡ end_before room (drop n slots) → AreInOrder end (take n slots)
first_in_order room end [] zero order is = tt
first_in_order room end [] (suc n) order is = tt
first_in_order room end (s ∷ slots) zero order is = tt
first_in_order room end (s ∷ slots) (suc n) order is =
    (subst (λ (e : ℕ). s.start ≤ e) (sym (end_kept room end slots n is)) order.0, first_in_order room end slots n order.1 is)

module _ (text : List ℕ) (end : ℕ) (within : end ≤ length text) where
  pub first_writes : (slots : List Slot) (n : ℕ) → AreInOrder (length text) slots → end ≡ end_before (length text) (drop n slots) → slot_writes (take end text) (take n slots) ≡ take n (slot_writes text slots)
  first_writes [] zero order is = refl
  first_writes [] (suc n) order is = refl
  first_writes (s ∷ slots) zero order is = refl
  first_writes (s ∷ slots) (suc n) order is =
      let long : length (take end text) ≡ end = length-take-le end text within in
      let same : end_before (length (take end text)) (take n slots) ≡ end_before (length text) slots =
      ap (λ (e : ℕ). end_before e (take n slots)) long ∙ end_kept (length text) end slots n is in
      let start : s.start ≤ end_before (length text) slots = order.0 in
      let le : end_before (length text) slots ≤ end_before (length text) (drop n slots) = ends_rise (length text) slots n order.1 in
      let bytes : take (end_before (length text) slots - s.start) (drop s.start (take end text)) ≡ take (end_before (length text) slots - s.start) (drop s.start text) =
      part_of_first text end s.start (end_before (length text) slots - s.start) within (omega arith) in
      ap (λ (e : ℕ). write_of s.trailer (take (e - s.start) (drop s.start (take end text))) ∷ slot_writes (take end text) (take n slots)) same
      ∙ ap (λ (xs : List ℕ). write_of s.trailer xs ∷ slot_writes (take end text) (take n slots)) bytes
      ∙ ap (λ (ws : List Write). write_of s.trailer (take (end_before (length text) slots - s.start) (drop s.start text)) ∷ ws) (first_writes slots n order.1 is)

-- an arena and slots that are cut
pub cut_writes : (text front : List ℕ) (slots first : List Slot) (n end : ℕ) → front ≡ take end text → first ≡ take n slots → end ≡ end_before (length text) (drop n slots) → AreInOrder (length text) slots → slot_writes front first ≡ take n (slot_writes text slots)
cut_writes text front slots first n end text_is slots_are is order =
    let within : end_before (length text) (drop n slots) ≤ length text = end_within (length text) slots n order in
    ap (λ (t : List ℕ). slot_writes t first) text_is
    ∙ ap (slot_writes (take end text)) slots_are
    ∙ first_writes text end (omega arith) slots n order is

pub cut_order : (text front : List ℕ) (slots first : List Slot) (n end : ℕ) → front ≡ take end text → first ≡ take n slots → end ≡ end_before (length text) (drop n slots) → AreInOrder (length text) slots → AreInOrder (length front) first
cut_order text front slots first n end text_is slots_are is order =
    let within : end_before (length text) (drop n slots) ≤ length text = end_within (length text) slots n order in
    let long : length front ≡ end = ap length text_is ∙ length-take-le end text (omega arith) in
    subst (λ (e : ℕ). AreInOrder e first) (sym long) (subst (AreInOrder end) (sym slots_are) (first_in_order (length text) end slots n order is))

-- ---- one more write

module _ (text more : List ℕ) (trailer : ℕ) where
  abbrev added : List Slot
  added = record { trailer = trailer; start = length text } ∷ []

  end_grown : (slots : List Slot) → end_before (length (text ++ more)) (slots ++ added) ≡ end_before (length text) slots
  end_grown [] = refl
  end_grown (s ∷ slots) = refl

  grown_in_order : (slots : List Slot) → AreInOrder (length text) slots → AreInOrder (length (text ++ more)) (slots ++ added)
  grown_in_order [] order =
      let long : length (text ++ more) ≡ length text + length more = length-append text more in
      (omega arith, tt)
  grown_in_order (s ∷ slots) order =
      (subst (λ (e : ℕ). s.start ≤ e) (sym (end_grown slots)) order.0, grown_in_order slots order.1)

  grown_writes : (slots : List Slot) → AreInOrder (length text) slots → slot_writes (text ++ more) (slots ++ added) ≡ slot_writes text slots ++ write_of trailer more ∷ []
  grown_writes [] order =
      let long : length (text ++ more) ≡ length text + length more = length-append text more in
      let all : take (length (text ++ more) - length text) more ≡ more = take_all (length (text ++ more) - length text) more (omega arith) in
      ap (λ (xs : List ℕ). write_of trailer (take (length (text ++ more) - length text) xs) ∷ []) (drop-append_seam text more)
      ∙ ap (λ (xs : List ℕ). write_of trailer xs ∷ []) all
  grown_writes (s ∷ slots) order =
      let end = end_before (length text) slots in
      let start : s.start ≤ end_before (length text) slots = order.0 in
      let within : end_before (length text) slots ≤ length text = ends_within (length text) slots order.1 in
      ap (λ (e : ℕ). write_of s.trailer (take (e - s.start) (drop s.start (text ++ more))) ∷ slot_writes (text ++ more) (slots ++ added)) (end_grown slots)
      ∙ ap (λ (xs : List ℕ). write_of s.trailer xs ∷ slot_writes (text ++ more) (slots ++ added)) (part_kept text more s.start (end - s.start) (omega arith))
      ∙ ap (λ (ws : List Write). write_of s.trailer (take (end - s.start) (drop s.start text)) ∷ ws) (grown_writes slots order.1)

pub grown : (text more : List ℕ) (slots slots_more : List Slot) (w : Write) → Grows text more slots slots_more w → AreInOrder (length text) slots → slot_writes more slots_more ≡ slot_writes text slots ++ w ∷ []
grown text more slots slots_more w g order =
    ap (λ (t : List ℕ). slot_writes t slots_more) g.bytes
    ∙ ap (λ (xs : List Slot). slot_writes (text ++ bytes_of g.first g.second) xs) g.slots_are
    ∙ grown_writes text (bytes_of g.first g.second) (trailer_of w.seq g.kind) slots order
    ∙ ap (λ (v : Write). slot_writes text slots ++ v ∷ []) (write_again w.seq g.kind g.first g.second g.fits)
    ∙ ap (λ (o : Op). slot_writes text slots ++ record { seq = w.seq; op = o } ∷ []) g.op

pub grown_order : (text more : List ℕ) (slots slots_more : List Slot) (w : Write) → Grows text more slots slots_more w → AreInOrder (length text) slots → AreInOrder (length more) slots_more
grown_order text more slots slots_more w g order =
    subst (λ (t : List ℕ). AreInOrder (length t) slots_more) (sym g.bytes)
    (subst (λ (xs : List Slot). AreInOrder (length (text ++ bytes_of g.first g.second)) xs) (sym g.slots_are)
    (grown_in_order text (bytes_of g.first g.second) (trailer_of w.seq g.kind) slots order))
