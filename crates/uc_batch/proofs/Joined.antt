-- Reading a log's batches one after the other, as a loop does.
use Rattle.std.proofs.Common.{◌≡◌, ℕ, List, [], ◌++◌, ap, sym, ◌∙◌, subst, append_assoc}
use Rattle.std.proofs.lemmas.List.{append-nil}
use Rattle.uc_bytes.specs.declared.write.Write.{Write}
use Rattle.uc_batch.specs.declared.ended.Ended.{Ended}
use Rattle.uc_batch.specs.Rising.{IsRising, last_of}
use Rattle.uc_batch.specs.WriteLog.{WriteLog}
use Rattle.uc_batch.specs.Position.{BatchPosition, BatchComesFirst, with_batch, nothing_ahead}
use Rattle.uc_batch.proofs.Rises.{rising-append, last_of-append}

-- So far these writes were read, and the others are ahead.
pub record JoinsOn (all : WriteLog) (position : BatchPosition) (writes : List Write) : Type 0 where
  pub whole : all ≡ with_batch writes position.ahead
  pub last_is : position.last ≡ last_of 0 writes
  pub rising : IsRising 0 writes

pub begins : (all : WriteLog) (position : BatchPosition) → position.ahead ≡ all → position.last ≡ 0 → JoinsOn all position []
begins all position ahead last = record { whole = sym ahead; last_is = last; rising = tt }

-- after one more batch
pub joins : (all : WriteLog) (old new : BatchPosition) (writes : List Write) → JoinsOn all old writes → BatchComesFirst old new → JoinsOn all new (writes ++ new.batch)
joins all old new writes so_far comes = record {
  whole = so_far.whole ∙ (ap (with_batch writes) comes.first ∙ ap (λ (ws : List Write). record { list = ws; ended = new.ahead.ended }) (sym (append_assoc writes new.batch new.ahead.list)));
  last_is = comes.last ∙ (ap (λ (n : ℕ). last_of n new.batch) so_far.last_is ∙ sym (last_of-append 0 writes new.batch));
  rising = rising-append 0 writes new.batch so_far.rising (subst (λ (n : ℕ). IsRising n new.batch) so_far.last_is comes.rising);
}

module _ (all : WriteLog) (position : BatchPosition) (writes : List Write) (ended : Ended) (so_far : JoinsOn all position writes) (end : position.ahead ≡ nothing_ahead ended) where
  ends : all ≡ record { list = writes; ended = ended }
  ends = so_far.whole ∙ (ap (with_batch writes) end ∙ ap (λ (ws : List Write). record { list = ws; ended = ended }) (append-nil writes))

  pub ends_writes : writes ≡ all.list
  ends_writes = sym (ap (λ (l : WriteLog). l.list) ends)

  pub ends_ended : ended ≡ all.ended
  ends_ended = sym (ap (λ (l : WriteLog). l.ended) ends)
