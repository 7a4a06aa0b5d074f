use Rattle.std.proofs.Common.{◌≡◌, sym, ap, ◌∙◌, subst}
use Rattle.uc_version.specs.declared.job_end.JobEnd.{JobEnd}
use Rattle.uc_version.specs.Jobs.{Task}
use Rattle.uc_live.specs.Lives.{Live}
use Rattle.uc_live.specs.LiveJobs.{EndsJob}
use Rattle.uc_engine.specs.declared.operator_kind.OperatorKind.{OperatorKind}
use Rattle.uc_engine.specs.declared.operator_kind.OperatorKind.TheVariants as kinds
use Rattle.uc_engine.specs.declared.engine.AnyStore.{AnyStore}
use Rattle.uc_engine.specs.declared.engine.Engine.TheInside.{Inside}
use Rattle.uc_engine.specs.Engines.{Engined, meaning_of}
use Rattle.uc_engine.specs.HeldEngines.{engined, live_of}
use Rattle.uc_engine.specs.EngineJobs.{EngineTask}
use Rattle.uc_engine.specs.HeldEngineJobs.{task_of}
use Rattle.uc_engine.proofs.engine.Engine.end_job.Goals.{in-Append-Append, in-Counter-Counter, in-Maximum-Maximum, in-Tail-Tail, in-Mixed-Mixed}
use Rattle.uc_engine.proofs.engine.Engine.end_job.Goals as goal

-- what a store tells of its job, its engine tells
told : (kind : OperatorKind) (old new new' : Live) (now : Engined) (job job' : Task) (end end' : JobEnd) → record { kind = kind; live = old } ≡ now → job ≡ job' → new' ≡ new → end' ≡ end →
    EndsJob (meaning_of kind) job old new end → EndsJob (meaning_of now.kind) job' now.live new' end'
told kind old new new' now job job' end end' engine jobs stores ends ended =
    subst (λ (e : Engined). EndsJob (meaning_of e.kind) job' e.live new' end') engine
    (subst (λ (t : Task). EndsJob (meaning_of kind) t old new' end') jobs
    (subst (λ (l : Live). EndsJob (meaning_of kind) job old l end') (sym stores)
    (subst (λ (e : JobEnd). EndsJob (meaning_of kind) job old new e) (sym ends) ended)))

pub returns-clause-ended : goal.returns-clause-ended
returns-clause-ended c =
    let now = c.args.self.now in
    let job = c.args.job.now.task in
    let new = live_of c.match-self.self-inside.store in
    let end = c.match-self.result in
    elim c.match-self.branch [
      | in-Append-Append w ↦ told kinds.Append w.in-Append-Append.store w.end_job.new.self new now w.in-Append-Append.job job w.end_job.result end
          (sym (ap (λ (s : AnyStore). engined (record { store = s })) w.in-Append-Append.is-0) ∙ c.self.view_is) (sym (ap task_of w.in-Append-Append.is-1) ∙ ap (λ (t : EngineTask). t.task) c.job.view_is)
          (ap (λ (i : Inside). live_of i.store) w.self-inside-is) w.result-is w.end_job.ensures.ended
      | in-Counter-Counter w ↦ told kinds.Counter w.in-Counter-Counter.store w.end_job-in-Counter-Counter.new.self new now w.in-Counter-Counter.job job w.end_job-in-Counter-Counter.result end
          (sym (ap (λ (s : AnyStore). engined (record { store = s })) w.in-Counter-Counter.is-0) ∙ c.self.view_is) (sym (ap task_of w.in-Counter-Counter.is-1) ∙ ap (λ (t : EngineTask). t.task) c.job.view_is)
          (ap (λ (i : Inside). live_of i.store) w.self-inside-is) w.result-is w.end_job-in-Counter-Counter.ensures.ended
      | in-Maximum-Maximum w ↦ told kinds.Maximum w.in-Maximum-Maximum.store w.end_job-in-Maximum-Maximum.new.self new now w.in-Maximum-Maximum.job job w.end_job-in-Maximum-Maximum.result end
          (sym (ap (λ (s : AnyStore). engined (record { store = s })) w.in-Maximum-Maximum.is-0) ∙ c.self.view_is) (sym (ap task_of w.in-Maximum-Maximum.is-1) ∙ ap (λ (t : EngineTask). t.task) c.job.view_is)
          (ap (λ (i : Inside). live_of i.store) w.self-inside-is) w.result-is w.end_job-in-Maximum-Maximum.ensures.ended
      | in-Tail-Tail w ↦ told kinds.Tail w.in-Tail-Tail.store w.end_job-in-Tail-Tail.new.self new now w.in-Tail-Tail.job job w.end_job-in-Tail-Tail.result end
          (sym (ap (λ (s : AnyStore). engined (record { store = s })) w.in-Tail-Tail.is-0) ∙ c.self.view_is) (sym (ap task_of w.in-Tail-Tail.is-1) ∙ ap (λ (t : EngineTask). t.task) c.job.view_is)
          (ap (λ (i : Inside). live_of i.store) w.self-inside-is) w.result-is w.end_job-in-Tail-Tail.ensures.ended
      | in-Mixed-Mixed w ↦ told kinds.Mixed w.in-Mixed-Mixed.store w.end_job-in-Mixed-Mixed.new.self new now w.in-Mixed-Mixed.job job w.end_job-in-Mixed-Mixed.result end
          (sym (ap (λ (s : AnyStore). engined (record { store = s })) w.in-Mixed-Mixed.is-0) ∙ c.self.view_is) (sym (ap task_of w.in-Mixed-Mixed.is-1) ∙ ap (λ (t : EngineTask). t.task) c.job.view_is)
          (ap (λ (i : Inside). live_of i.store) w.self-inside-is) w.result-is w.end_job-in-Mixed-Mixed.ensures.ended
    ]
