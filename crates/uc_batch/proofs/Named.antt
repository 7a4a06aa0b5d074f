-- Reading a batch never says that memory ran out.
use Rattle.std.proofs.Common.{◌≡◌, ◌≢◌, ℕ, zero, suc, ◌+◌, ◌-◌, ◌*◌, ◌^◌, Bool, true, false, cond, ltb, leb, eqb, List, [], ◌∷◌, ◌++◌, length, take, drop, Option, Some, None, option_to_list, Result, Ok, Err, ap, sym, ◌∙◌}
use Rattle.std.specs.Prelude.{◌&&◌}
use Rattle.std.specs.Int.{w32, w64, from_le_bytes}
use Rattle.uc_bytes.specs.declared.op.Op.{Op}
use Rattle.uc_bytes.specs.declared.op.Op.TheVariants as op
use Rattle.uc_bytes.specs.declared.write.Write.{Write}
use Rattle.uc_batch.specs.declared.error.BatchError.{BatchError}
use Rattle.uc_batch.specs.declared.error.BatchError.TheVariants as faults
use Rattle.uc_batch.specs.declared.tag.Form.{Form}
use Rattle.uc_batch.specs.declared.tag.Form.TheVariants as form
use Rattle.uc_batch.specs.declared.tag.Layout.{Layout}
use Rattle.uc_batch.specs.Tag.{layout_at}
use Rattle.uc_batch.specs.Reads.{◌>>=◌}
use Rattle.uc_batch.specs.Varint.{varint_from}
use Rattle.uc_batch.specs.Records.{string_at, strings_at, family_at, body_at, after_family, laid_out, record_at, records_from, operations}
use Rattle.uc_logrec.specs.declared.ending.Ending.{Ending}
use Rattle.uc_logrec.specs.declared.ending.Ending.TheVariants as endings
use Rattle.uc_logrec.specs.Log.{payloads_of, ending_of}
use Rattle.uc_batch.specs.declared.ended.Ended.{Ended}
use Rattle.uc_batch.specs.declared.ended.Ended.TheVariants as ends
use Rattle.uc_batch.specs.Rising.{last_of}
use Rattle.uc_batch.specs.Log.{Batches, after_batch, batches_of, ended_at, log_writes}
use Rattle.uc_batch.specs.Batch.{numbered, counted_of, judged, batch_of}

-- it is a value, or the fault of something that stands there
abbrev pub IsNamed : {A : Type 0} → Result A BatchError → Type 0
IsNamed r = r ≢ Err faults.Memory

bound : {A B : Type 0} (r : Result A BatchError) (f : A → Result B BatchError) → IsNamed r → ((x : A) → IsNamed (f x)) → IsNamed (r >>= f)
bound (Ok x) f p q = q x
bound {A} (Err e) f p q = λ h. let same : e ≡ faults.Memory = cc in p (ap (λ (x : BatchError). Err x) same)

either : {A : Type 0} (b : Bool) (x y : Result A BatchError) → IsNamed x → IsNamed y → IsNamed (cond b x y)
either true x y p q = p
either false x y p q = q

fine : {A : Type 0} (x : A) → ◌≢◌ {A = Result A BatchError} (Ok x) (Err faults.Memory)
fine x = λ h. cc

varint_named : (more start here : ℕ) (bytes : List ℕ) → IsNamed (varint_from more start here bytes)
unfolding varint_from
varint_named more start here [] = λ h. cc
varint_named zero start here (b ∷ rest) = either (ltb b 16) (Ok (b, rest)) (Err (faults.BadVarint here)) (λ h. cc) (λ h. cc)
varint_named (suc more) start here (b ∷ rest) =
    either (ltb b 128) (Ok (b, rest)) (varint_from more start here rest >>= λ high. Ok ((b - 128) + 128 * high.0, high.1)) (λ h. cc)
    (bound (varint_from more start here rest) (λ high. Ok ((b - 128) + 128 * high.0, high.1)) (varint_named more start here rest) (λ x h. cc))

string_named : (total start : ℕ) (bytes : List ℕ) → IsNamed (string_at total start bytes)
unfolding string_at
string_named total start bytes =
    bound (varint_from 4 start (total - length bytes) bytes) (λ n. cond (ltb (length n.1) n.0) (Err (faults.Cut start)) (Ok (take n.0 n.1, drop n.0 n.1))) (varint_named 4 start (total - length bytes) bytes)
    (λ n. either (ltb (length n.1) n.0) (Err (faults.Cut start)) (Ok (take n.0 n.1, drop n.0 n.1)) (λ h. cc) (λ h. cc))

strings_named : (total start : ℕ) (bytes : List ℕ) → IsNamed (strings_at total start bytes)
unfolding strings_at
strings_named total start bytes =
    bound (string_at total start bytes) (λ first. string_at total start first.1 >>= λ second. Ok ((first.0, second.0), second.1)) (string_named total start bytes)
    (λ first. bound (string_at total start first.1) (λ second. Ok ((first.0, second.0), second.1)) (string_named total start first.1) (λ x h. cc))

of_string : (make : List ℕ → Option Op) (total start : ℕ) (bytes : List ℕ) → IsNamed {A = Option Op × List ℕ} (string_at total start bytes >>= λ one. Ok (make one.0, one.1))
of_string make total start bytes = bound (string_at total start bytes) (λ one. Ok (make one.0, one.1)) (string_named total start bytes) (λ x h. cc)

of_strings : (make : List ℕ → List ℕ → Op) (total start : ℕ) (bytes : List ℕ) → IsNamed {A = Option Op × List ℕ} (strings_at total start bytes >>= λ two. Ok (Some (make two.0.0 two.0.1), two.1))
of_strings make total start bytes = bound (strings_at total start bytes) (λ two. Ok (Some (make two.0.0 two.0.1), two.1)) (strings_named total start bytes) (λ x h. cc)

body_named : (f : Form) (total start : ℕ) (bytes : List ℕ) → IsNamed (body_at f total start bytes)
unfolding body_at
body_named form.Deletion total start bytes = of_string (λ key. Some (op.Delete key)) total start bytes
body_named form.Value total start bytes = of_strings op.Put total start bytes
body_named form.Merge total start bytes = of_strings op.Merge total start bytes
body_named form.LogData total start bytes = of_string (λ _. None) total start bytes
body_named form.Noop total start bytes = λ h. cc
body_named form.RangeDeletion total start bytes = of_strings op.DeleteRange total start bytes

family_named : (has : Bool) (total start : ℕ) (bytes : List ℕ) → IsNamed (after_family has total start bytes)
unfolding after_family family_at
family_named false total start bytes = λ h. cc
family_named true total start bytes =
    bound (varint_from 4 start (total - length bytes) bytes) (λ id. cond (eqb id.0 0) (Ok id.1) (Err (faults.OtherFamily id.0))) (varint_named 4 start (total - length bytes) bytes)
    (λ id. either (eqb id.0 0) (Ok id.1) (Err (faults.OtherFamily id.0)) (λ h. cc) (λ h. cc))

laid_out_named : (layout : Option Layout) (tag total start : ℕ) (bytes : List ℕ) → IsNamed (laid_out layout tag total start bytes)
unfolding laid_out
laid_out_named None tag total start bytes = λ h. cc
laid_out_named (Some layout) tag total start bytes =
    bound (after_family layout.has_family total start bytes) (λ rest. body_at layout.form total start rest) (family_named layout.has_family total start bytes) (λ rest. body_named layout.form total start rest)

record_named : (total : ℕ) (bytes : List ℕ) → IsNamed (record_at total bytes)
unfolding record_at
record_named total [] = λ h. cc
record_named total (b ∷ bytes) = laid_out_named (layout_at b) b total (total - length (b ∷ bytes)) bytes

records_named : (most total : ℕ) (bytes : List ℕ) → IsNamed (records_from most total bytes)
unfolding records_from
records_named most total [] = λ h. cc
records_named zero total (b ∷ bytes) = λ h. cc
records_named (suc most) total (b ∷ bytes) =
    bound (record_at total (b ∷ bytes)) (λ first. records_from most total first.1 >>= λ others. Ok (option_to_list first.0 ++ others)) (record_named total (b ∷ bytes))
    (λ first. bound (records_from most total first.1) (λ others. Ok (option_to_list first.0 ++ others)) (records_named most total first.1) (λ x h. cc))

counted_named : (seq count total : ℕ) (body : List ℕ) → IsNamed (counted_of seq count total body)
unfolding counted_of
counted_named seq count total body =
    bound (operations total body) (λ ops. cond (eqb (length ops) count) (Ok (numbered seq ops)) (Err faults.WrongCount)) (records_named (length body) total body)
    (λ ops. either (eqb (length ops) count) (Ok (numbered seq ops)) (Err faults.WrongCount) (λ h. cc) (λ h. cc))

judged_named : (last seq count : ℕ) → IsNamed (judged last seq count)
unfolding judged
judged_named last seq count =
    either (ltb 0 count && leb seq last) (Err (faults.SequenceBack last)) (cond (ltb 0 count && ltb (2 ^ 56) (seq + count)) (Err faults.SequenceTooLarge) (Ok seq)) (λ h. cc)
    (either (ltb 0 count && ltb (2 ^ 56) (seq + count)) (Err faults.SequenceTooLarge) (Ok seq) (λ h. cc) (λ h. cc))

pub batch_named : (last : ℕ) (bytes : List ℕ) → IsNamed (batch_of last bytes)
unfolding batch_of
batch_named last bytes =
    let seq = from_le_bytes w64 (take 8 bytes) in
    let count = from_le_bytes w32 (take 4 (drop 8 bytes)) in
    either (ltb (length bytes) 12) (Err faults.TooShort) (judged last seq count >>= λ s. counted_of s count (length bytes) (drop 12 bytes)) (λ h. cc)
    (bound (judged last seq count) (λ s. counted_of s count (length bytes) (drop 12 bytes)) (judged_named last seq count) (λ s. counted_named s count (length bytes) (drop 12 bytes)))

-- ---- a log

refused_after : (go : ℕ → Batches) (last number n : ℕ) (r : Result (List Write) BatchError) → IsNamed r → ((used : ℕ) → (go used).refused ≢ Some (n, faults.Memory)) → (after_batch go last number r).refused ≢ Some (n, faults.Memory)
refused_after go last number n (Ok writes) p q = q (last_of last writes)
refused_after go last number n (Err e) p q = λ h.
    let pair : ◌≡◌ {A = ℕ × BatchError} (number, e) (n, faults.Memory) = cc in
    p (ap (λ (x : ℕ × BatchError). Err x.1) pair)

refused_named : (payloads : List (List ℕ)) (last number n : ℕ) → (batches_of last number payloads).refused ≢ Some (n, faults.Memory)
refused_named [] last number n = λ h. cc
refused_named (payload ∷ payloads) last number n =
    refused_after (λ used. batches_of used (number + 1) payloads) last number n (batch_of last payload) (batch_named last payload) (λ used. refused_named payloads used (number + 1) n)

ended_named : (refused : Option (ℕ × BatchError)) (ending : Ending) (n : ℕ) → refused ≢ Some (n, faults.Memory) → ended_at refused ending ≢ ends.BatchFault n faults.Memory
ended_named None endings.Clean n p = λ h. cc
ended_named None (endings.Torn offset) n p = λ h. cc
ended_named None (endings.Fault fault offset) n p = λ h. cc
ended_named (Some refused) ending n p = λ h.
    let number : refused.0 ≡ n = cc in
    let fault : refused.1 ≡ faults.Memory = cc in
    p (ap (λ (k : ℕ). Some (k, refused.1)) number ∙ ap (λ (e : BatchError). Some (n, e)) fault)

-- no log is rejected because of a failed allocation
pub log_named : (log : List ℕ) (ended : Ended) (number : ℕ) (fault : BatchError) → ended ≡ (log_writes log).ended → ended ≡ ends.BatchFault number fault → fault ≢ faults.Memory
log_named log ended number fault e f = λ h.
    ended_named (batches_of 0 1 (payloads_of log)).refused (ending_of log) number (refused_named (payloads_of log) 0 1 number) (sym e ∙ f ∙ ap (ends.BatchFault number) h)
