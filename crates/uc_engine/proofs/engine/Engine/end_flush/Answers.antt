use Rattle.std.proofs.Common.{◌≡◌, sym, ap, ◌∙◌, subst}
use Rattle.uc_live.specs.declared.flush_end.FlushEnd.{FlushEnd}
use Rattle.uc_live.specs.Lives.{Live}
use Rattle.uc_live.specs.LiveFlushes.{FlushTask, EndsFlush}
use Rattle.uc_engine.specs.declared.operator_kind.OperatorKind.{OperatorKind}
use Rattle.uc_engine.specs.declared.operator_kind.OperatorKind.TheVariants as kinds
use Rattle.uc_engine.specs.declared.engine.AnyStore.{AnyStore}
use Rattle.uc_engine.specs.declared.engine.Engine.TheInside.{Inside}
use Rattle.uc_engine.specs.Engines.{Engined}
use Rattle.uc_engine.specs.HeldEngines.{engined, live_of}
use Rattle.uc_engine.proofs.engine.Engine.end_flush.Goals.{in-Append, in-Counter, in-Maximum, in-Tail, in-Mixed}
use Rattle.uc_engine.proofs.engine.Engine.end_flush.Goals as goal

-- what a store tells of its flush job, its engine tells
told : (kind : OperatorKind) (old new new' : Live) (now : Engined) (job : FlushTask) (end end' : FlushEnd) → record { kind = kind; live = old } ≡ now → new' ≡ new → end' ≡ end →
    EndsFlush job old new end → EndsFlush job now.live new' end'
told kind old new new' now job end end' engine stores ends ended =
    subst (λ (e : Engined). EndsFlush job e.live new' end') engine
    (subst (λ (l : Live). EndsFlush job old l end') (sym stores)
    (subst (λ (e : FlushEnd). EndsFlush job old new e) (sym ends) ended))

pub returns-clause-ended : goal.returns-clause-ended
returns-clause-ended c =
    let now = c.args.self.now in
    let job = c.args.job.now in
    let new = live_of c.match-self.self-inside.store in
    let end = c.match-self.result in
    elim c.match-self.branch [
      | in-Append w ↦ told kinds.Append w.in-Append.store w.end_flush.new.self new now job w.end_flush.result end
          (sym (ap (λ (s : AnyStore). engined (record { store = s })) w.in-Append.is) ∙ c.self.view_is)
          (ap (λ (i : Inside). live_of i.store) w.self-inside-is) w.result-is w.end_flush.ensures.ended
      | in-Counter w ↦ told kinds.Counter w.in-Counter.store w.end_flush-in-Counter.new.self new now job w.end_flush-in-Counter.result end
          (sym (ap (λ (s : AnyStore). engined (record { store = s })) w.in-Counter.is) ∙ c.self.view_is)
          (ap (λ (i : Inside). live_of i.store) w.self-inside-is) w.result-is w.end_flush-in-Counter.ensures.ended
      | in-Maximum w ↦ told kinds.Maximum w.in-Maximum.store w.end_flush-in-Maximum.new.self new now job w.end_flush-in-Maximum.result end
          (sym (ap (λ (s : AnyStore). engined (record { store = s })) w.in-Maximum.is) ∙ c.self.view_is)
          (ap (λ (i : Inside). live_of i.store) w.self-inside-is) w.result-is w.end_flush-in-Maximum.ensures.ended
      | in-Tail w ↦ told kinds.Tail w.in-Tail.store w.end_flush-in-Tail.new.self new now job w.end_flush-in-Tail.result end
          (sym (ap (λ (s : AnyStore). engined (record { store = s })) w.in-Tail.is) ∙ c.self.view_is)
          (ap (λ (i : Inside). live_of i.store) w.self-inside-is) w.result-is w.end_flush-in-Tail.ensures.ended
      | in-Mixed w ↦ told kinds.Mixed w.in-Mixed.store w.end_flush-in-Mixed.new.self new now job w.end_flush-in-Mixed.result end
          (sym (ap (λ (s : AnyStore). engined (record { store = s })) w.in-Mixed.is) ∙ c.self.view_is)
          (ap (λ (i : Inside). live_of i.store) w.self-inside-is) w.result-is w.end_flush-in-Mixed.ensures.ended
    ]
