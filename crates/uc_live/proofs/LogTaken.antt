-- A store that takes the batches of a log.
use Rattle.std.proofs.Common.{◌≡◌, List, [], ◌++◌, append_assoc, refl, sym, ap, ◌∙◌, subst}
use Rattle.std.proofs.lemmas.List.{append-nil}
use Rattle.uc_bytes.specs.declared.write.Write.{Write}
use Rattle.uc_oper.specs.Operation.{Operation}
use Rattle.uc_batch.specs.Rising.{IsRising, last_of}
use Rattle.uc_batch.specs.WriteLog.{WriteLog}
use Rattle.uc_batch.specs.Position.{BatchPosition, BatchComesFirst, nothing_ahead}
use Rattle.uc_batch.specs.declared.ended.Ended.{Ended}
use Rattle.uc_batch.proofs.Rises.{last_of-append}
use Rattle.uc_live.specs.Lives.{Live, last, committed}
use Rattle.uc_live.specs.Going.{GoesOn}
use Rattle.uc_live.specs.Writing.{Prepares}
use Rattle.uc_live.proofs.Going.{goes_nowhere, goes_on, commits}
use Rattle.uc_live.proofs.Last.{last_follows}

-- The store has taken what came first of a log, and the rest is ahead of the reader.
pub record HasRead (m : Operation) (start now : Live) (whole : WriteLog) (at : BatchPosition) : Type 0 where
  pub done : List Write
  pub goes_on : GoesOn m start now done
  pub none : now.prepared ≡ []
  pub last_is : last now ≡ at.last
  pub list : whole.list ≡ done ++ at.ahead.list
  pub ended : whole.ended ≡ at.ahead.ended

pub none_read : (m : Operation) (start : Live) (at : BatchPosition) → start.prepared ≡ [] → last start ≡ at.last → HasRead m start start at.ahead at
none_read m start at none last_is = record { done = []; goes_on = goes_nowhere m start; none = none; last_is = last_is; list = refl; ended = refl }

module _ (m : Operation) (start now : Live) (whole : WriteLog) (old new : BatchPosition) (has : HasRead m start now whole old) where
  module _ (comes : BatchComesFirst old new) (ws : List Write) (ws_is : ws ≡ new.batch) where
    pub next_rises : IsRising (last now) ws
    next_rises = subst (λ n. IsRising n ws) (sym has.last_is) (subst (λ (us : List Write). IsRising old.last us) (sym ws_is) comes.rising)

    pub one_read : (mid after : Live) → Prepares m now mid ws → after ≡ committed mid → HasRead m start after whole new
    one_read mid after prepares e =
        let on : GoesOn m now (committed mid) ws = commits m now mid ws prepares in
        let last_now : last (committed mid) ≡ new.last =
        last_follows m now.version (committed mid).version now.gathered (committed mid).gathered ws on.0
        ∙ last_of-append now.version.last now.gathered ws
        ∙ ap (λ n. last_of n ws) has.last_is
        ∙ ap (last_of old.last) ws_is
        ∙ sym comes.last in
        let rest : old.ahead.list ≡ ws ++ new.ahead.list =
        ap (λ (l : WriteLog). l.list) comes.first ∙ ap (λ (us : List Write). us ++ new.ahead.list) (sym ws_is) in
        subst (λ (l : Live). HasRead m start l whole new) (sym e) (record {
          done = has.done ++ ws;
          goes_on = goes_on m start now (committed mid) has.done ws has.goes_on on;
          none = refl;
          last_is = last_now;
          list = has.list ∙ ap (λ (us : List Write). has.done ++ us) rest ∙ sym (append_assoc has.done ws new.ahead.list);
          ended = has.ended ∙ ap (λ (l : WriteLog). l.ended) comes.first;
        })

  -- the log ends
  pub all_read : (ended : Ended) → old.ahead ≡ nothing_ahead ended → GoesOn m start now whole.list
  all_read ended nothing =
      let all : has.done ≡ whole.list =
      sym (has.list ∙ ap (λ (l : WriteLog). has.done ++ l.list) nothing ∙ append-nil has.done) in
      subst (λ (us : List Write). GoesOn m start now us) all has.goes_on

  pub ends : (ended : Ended) → old.ahead ≡ nothing_ahead ended → ended ≡ whole.ended
  ends ended nothing = sym (has.ended ∙ ap (λ (l : WriteLog). l.ended) nothing)
