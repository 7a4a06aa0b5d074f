-- Once a directory is open for writes, exactly the batches that opening kept are there.
use Rattle.std.proofs.Common.{◌≡◌, ℕ, ◌+◌, Bool, true, false, cond, ltb, ◌&&◌, List, [], ◌∷◌, ◌++◌, length, take, refl, sym, ap, ◌∙◌, subst, arith}
use Rattle.std.specs.Prelude.{⊤, Option, Some, None}
use Rattle.std.proofs.lemmas.List.{append-nil, length-append}
use Rattle.uc_folder.specs.declared.machine.Machine.{Machine}
use Rattle.uc_folder.specs.declared.listing.Found.{Found}
use Rattle.uc_folder.specs.declared.phases.Writer.{Writer}
use Rattle.uc_folder.specs.declared.phases.Writer.TheVariants.{Clearing, SettingAside, Copying, SealingCopy, Replacing, Settling, Ready, Failed}
use Rattle.uc_folder.specs.declared.phases.Checkpointer.{Checkpointer}
use Rattle.uc_folder.specs.Device.{Batch, File, Device, Keep, upto, at, last_log, is_there, crashed, recovered}
use Rattle.uc_folder.specs.Steps.{opened}
use Rattle.uc_folder.specs.Worlds.{World, IsPrefixOf, IsDone, submitted, answered, Outcome, Done, NotDone, PartDone, DoneUntold, Event, Writes, writes, found, is_settled, keeps_all, begun_by, count_read, opens, happens, run, start}
use Rattle.uc_folder.proofs.Lists.{at_here, at_other, upto_same}
use Rattle.uc_folder.proofs.Writing.{world}
use Rattle.uc_folder.proofs.Reopening.{kept_is}
use Rattle.uc_folder.proofs.Histories.{crash_acked, crash_prefix}

-- ---- from an opening to the first request

-- what is known in each phase: the batches that are kept, and then that no others are there
abbrev IsGiven : List Batch → List Batch → List Batch → List Batch → Writer → Type 0
IsGiven xs told all acked (Clearing k top sealed) = told ≡ xs
IsGiven xs told all acked SettingAside = told ≡ xs
IsGiven xs told all acked Copying = told ≡ xs
IsGiven xs told all acked SealingCopy = told ≡ xs
IsGiven xs told all acked Replacing = told ≡ xs
IsGiven xs told all acked Settling = told ≡ xs
IsGiven xs told all acked Ready = (all ≡ xs) × (acked ≡ xs)
IsGiven xs told all acked Failed = ⊤
IsGiven xs told all acked w = ⊥

abbrev IsGivenIn : List Batch → World → Type 0
IsGivenIn xs w = IsGiven xs (answered w) (submitted w) w.acked w.machine.writer

given_cleared : (xs told all acked : List Batch) (b sealed : Bool) (k top : ℕ) → told ≡ xs → IsGiven xs told all acked (cond b (Clearing k top sealed) (cond sealed Settling SettingAside))
given_cleared xs told all acked true sealed k top e = e
given_cleared xs told all acked false true k top e = e
given_cleared xs told all acked false false k top e = e

module _ (xs : List Batch) (d : Device) (m : Machine) (c : Checkpointer) (parts : ℕ → List Batch) (batch : Batch) (acked : List Batch) where
  abbrev inside : Writer → World
  inside w = world d m w c parts batch acked

  given_settled : answered (inside Settling) ≡ xs → IsGivenIn xs (happens (inside Settling) (Writes Done))
  given_settled e =
      let kept = take m.count (parts m.log) in
      let before : upto (at m.log kept parts) m.log ≡ upto parts m.log = upto_same (at m.log kept parts) parts m.log (λ k lt. at_other m.log kept parts k (omega (arith, lt))) in
      (ap (λ l. l ++ at m.log kept parts m.log) before ∙ (ap (λ l. upto parts m.log ++ l) (at_here m.log kept parts) ∙ e), e)

  given_writes : (w : Writer) (o : Outcome) → IsGivenIn xs (inside w) → IsGivenIn xs (happens (inside w) (Writes o))
  given_writes (Clearing k top sealed) Done is = given_cleared xs (answered (inside Settling)) (submitted (inside Settling)) acked (ltb k top) sealed (k + 1) top is
  given_writes (Clearing k top sealed) NotDone is = tt
  given_writes (Clearing k top sealed) PartDone is = tt
  given_writes (Clearing k top sealed) DoneUntold is = tt
  given_writes SettingAside Done is = is
  given_writes SettingAside NotDone is = tt
  given_writes SettingAside PartDone is = tt
  given_writes SettingAside DoneUntold is = tt
  given_writes Copying Done is = is
  given_writes Copying NotDone is = tt
  given_writes Copying PartDone is = tt
  given_writes Copying DoneUntold is = tt
  given_writes SealingCopy Done is = is
  given_writes SealingCopy NotDone is = tt
  given_writes SealingCopy PartDone is = tt
  given_writes SealingCopy DoneUntold is = tt
  given_writes Replacing Done is = is
  given_writes Replacing NotDone is = tt
  given_writes Replacing PartDone is = tt
  given_writes Replacing DoneUntold is = tt
  given_writes Settling Done is = given_settled is
  given_writes Settling NotDone is = tt
  given_writes Settling PartDone is = tt
  given_writes Settling DoneUntold is = tt
  given_writes Ready Done is = is
  given_writes Ready NotDone is = is
  given_writes Ready PartDone is = is
  given_writes Ready DoneUntold is = is
  given_writes Failed Done is = is
  given_writes Failed NotDone is = is
  given_writes Failed PartDone is = is
  given_writes Failed DoneUntold is = is
  given_writes w o is = absurd is

given_run : (xs : List Batch) (os : List Outcome) (w : World) → IsGivenIn xs w → IsGivenIn xs (run (writes os) w)
given_run xs [] w is = is
given_run xs (o ∷ os) w is = given_run xs os (happens w (Writes o)) (given_writes xs w.device w.machine w.machine.checkpointer w.parts w.batch w.acked w.machine.writer o is)

-- the phase in which a machine begins if the log is there
begun_given : (xs told all acked : List Batch) (o : Option File) (there : Bool) (f : Found) (count : ℕ) (sealed : Bool) → is_there o ≡ true → f.is_there ≡ there → is_there o ≡ there → told ≡ xs → IsGiven xs told all acked (begun_by o (opened f count sealed)).writer
begun_given xs told all acked None there f count sealed is same e given = absurd (cc)
begun_given xs told all acked (Some g) false f count sealed is same e given = absurd (cc)
begun_given xs told all acked (Some g) true f count sealed is same e given =
    subst (λ (b : Bool). IsGiven xs told all acked (begun_by (Some g) (opened (record f { is_there = b }) count sealed)).writer) (sym same) (given_cleared xs told all acked (ltb f.log f.top) sealed (f.log + 1) f.top given)

opens_given : (w : World) (least top : ℕ) (sealed : Bool) (keep : Option ℕ) → is_there (w.device.logs (last_log w.device)).now ≡ true → IsGivenIn (answered (opens least top sealed keep w)) (opens least top sealed keep w)
opens_given w least top sealed keep is =
    let d = w.device in
    let here = (d.logs (last_log d)).now in
    let v = opens least top sealed keep w in
    begun_given (answered v) (answered v) (submitted v) v.acked here (is_there here) (found d least top) (count_read d keep) (sealed && (is_settled here && keeps_all keep)) is refl refl refl

given_done : (xs : List Batch) (w : World) → w.machine.writer ≡ Ready → IsGivenIn xs w → IsDone xs w
given_done xs w e is = subst (IsGiven xs (answered w) (submitted w) w.acked) e is

pub opens_done : (w : World) (least top : ℕ) (sealed : Bool) (keep : Option ℕ) (os : List Outcome) → is_there (w.device.logs (last_log w.device)).now ≡ true → (run (writes os) (opens least top sealed keep w)).machine.writer ≡ Ready →
    IsDone (answered (opens least top sealed keep w)) (run (writes os) (opens least top sealed keep w))
opens_done w least top sealed keep os is ready =
    let v = opens least top sealed keep w in given_done (answered v) (run (writes os) v) ready (given_run (answered v) os v (opens_given w least top sealed keep is))

-- ---- the batches that are kept

pub acked_is : (w : World) (least top keep : ℕ) (sealed : Bool) → (opens least top sealed (Some keep) w).acked ≡ take (length (answered (opens least top sealed (Some keep) w))) w.acked
acked_is w least top keep sealed = ap (λ l. take (length l) w.acked) (sym (kept_is w least top sealed (Some keep)))

-- ---- a crash after that

both_same : (xs ys : List Batch) → IsPrefixOf xs ys → IsPrefixOf ys xs → ys ≡ xs
both_same xs ys p q =
    let one = length-append xs p.0 in
    let two = length-append ys q.0 in
    let first = ap length p.1 in
    let second = ap length q.1 in
    let none : p.0 ≡ [] = empty p.0 (omega (arith, one, two, first, second)) in
    sym p.1 ∙ (ap (λ l. xs ++ l) none ∙ append-nil xs)
  where
    empty : (zs : List Batch) → length zs ≡ 0 → zs ≡ []
    empty [] e = refl
    empty (z ∷ zs) e = absurd (omega (arith, e))

pub crash_done : (es : List Event) (xs : List Batch) (logs bases : ℕ → Keep) → IsDone xs (run es start) → recovered (crashed logs bases (run es start).device) ≡ xs
crash_done es xs logs bases is =
    let w = run es start in
    both_same xs (recovered (crashed logs bases w.device)) (subst (λ l. IsPrefixOf l (recovered (crashed logs bases w.device))) is.1 (crash_acked es logs bases))
    (subst (IsPrefixOf (recovered (crashed logs bases w.device))) is.0 (crash_prefix es logs bases))
