-- `into_loose` compares the address with null, and hands on what it owns.
use Rattle.std.proofs.Common.{◌≡◌, List, [], ◌∷◌, ◌++◌, refl, sym, subst, ap, ◌∙◌, lit<}
use mir.Val.{Val, vptr, vcons, vnil}
use base.Logic.{SProp, ent, emp, id⊢}
use base.Fml.{ftrue}
use prog.Wp.{WpFn}
use types.Kit.{‵, raw, ◌⊛◌, at_ret, ◌$◌, ◌∵◌, !, qed, by, move, keep, split, fsplit, fjoin, suffices, use0, use1}
use types.Match.{live}
use types.Run.{stop, fld, lit, of_opd, bin, no_more, and_then, first, branches, skips, exec, returns, returns_within, enter}
use types.ByLocal.{alloc_all, pass_all, free_all, look_at, get, get_in, sets, env}
use types.Part.{agg, sub, whole}
use contract.Monad.{fact, fact_i}
use contract.Running.{tables}
use denote.Exit.{yes}
use denote.Param.{layout}
use denote.RattleType.{RattleType, owns}
use denote.RawPtr.{Ptr, block_ptr, null_ptr, ptr_val, tests_null}
use denote.Signature.{types_at, type_at, plain}
use denote.Steps.{nothing}
use denote.Triple.Walked.{Stays, stay_dropped, walk_of, Goes-dropped}
use Rattle.core.proofs.alloc.Shapes.{after}
use Rattle.core.proofs.atomic.Steps.{Ptr-Good}
use Rattle.core.proofs.cell.Inside.{Good}
use Rattle.core.proofs.option.Made.{Some-of, none_of}
use Rattle.std.proofs.alloc.Global.TheLaws as heap_laws
use Rattle.std.proofs.raw_atomic.Walks.{proved_at, leaves}
use Rattle.std.specs.Prelude.{Some, None}
use Rattle.std.specs.contracts.impls.GlobalAllocator.TheImpl.{ghosts}
use Rattle.std_alloc.proofs.ResultValues.{and_tt}
use Rattle.uc_handle.proofs.Values.{both, Loose, loose_good, loose_in}
use Rattle.uc_handle.proofs.Addresses.{Z, handle_good, handle_out, either}
use Rattle.uc_run_file.specs.contracts.RunFile.{the_row as R}
use Rattle.uc_handle.specs.contracts.run_file_handle.RunFileHandle.{the_row as RunFileHandle, the_type}
use Rattle.uc_handle.specs.contracts.run_file_handle.RunFileHandle.into_loose as f
use Rattle.uc_handle.specs.contracts.run_file_handle.RunFileHandle.into_loose.Key.{name as #self}
use Rattle.uc_handle.proofs.run_file_handle.RunFileHandle.into_loose.Statement.{statement}
use Rattle.uc_handle.proofs.run_file_handle.RunFileHandle.into_loose.Code as code

abbrev Lr : RattleType
Lr = Loose R Z heap_laws.the_row_laws ghosts

abbrev stayed : Stays f.ended.signature.params f.ended.kept
stayed = (stay_dropped (plain (λ _. RunFileHandle)) yes, tt)

pub into_loose_spec : {M : Type 1} → statement M
into_loose_spec 𝓤 𝓛 𝓜 𝓡 wired =
    let H = 𝓛.H in let 𝓣 = tables 𝓤 H 𝓜 𝓡 𝓡.env in let c = f.clauses 𝓛 𝓜.mem 𝓡.returns in let fn = code.function in let LZ = heap_laws.the_row_laws in let Out : RattleType = type_at f.signature.result tt in
    proved_at 𝓛 f.ended stayed c 𝓜 𝓡 (Goes-dropped 𝓛 0 (plain (λ _. RunFileHandle)) yes (λ κs x w. refl), tt) #self fn (code.unfolded 𝓤 H 𝓜 𝓡 wired) (λ z are.
    let d = z.0.3.0 in let Post : Val → SProp 𝓤 = (walk_of 𝓛 f.ended stayed c).post z in let Run : List Val → SProp 𝓤 = λ ws. WpFn 𝓤 H 𝓣.C 𝓣.Λ fn ws Post in
    qed 𝓛 ((‵ ftrue ⊛ ‵ (owns (types_at f.signature.params z.0.0) z.0.3 z.0.4)) ∷ raw ((c z.0.0 z.0.3).requires z.1) ∷ []) ∵ split ! $ move ! (1 ∷ []) $ fsplit ! $
    handle_out R the_type.name ! d.at d.alloc d.held z.0.4.0 (λ h ws fits. either R ! d.alloc d.at d.held
    (λ is none. let w : Val = both (ptr_val null_ptr) h in let told : z.0.4.0 ≡ w ∷ [] = ws ∙ ap (λ (p : Ptr). both (ptr_val p) h ∷ []) is in
    suffices ! (Run (w ∷ [])) (subst (λ (us : List Val). ent 𝓤 (Run (w ∷ [])) (Run us)) (sym (λ i. told i ++ [])) (id⊢ 𝓤 (Run (w ∷ [])))) $
    enter ! 𝓣.C 𝓣.Λ fn (w ∷ []) Post $ alloc_all ! (λ l. pass_all ! refl (handle_good null_ptr h fits, tt) $
    sets ! (of_opd ! (get_in ! (fld ! refl (stop !)) (sub ! 0 refl (whole !)))) refl (Ptr-Good null_ptr) $ sets ! (of_opd ! (get_in ! (fld ! refl (stop !)) (sub ! 1 refl (whole !)))) refl fits $
    sets ! (bin ! (get ! refl) (lit ! tt) tt) refl (tt, tt) $ first ! $ branches ! (get ! refl)
    (λ _. sets ! (agg ! (and_then ! (lit ! tt) (no_more !))) refl (tt, (record { fits = lit< tt }, tt)) $
    returns_within ! Post refl (look_at ! 0 refl) $ free_all ! refl $ use0 𝓛 (‵ (Out.own_val None (live 0 vnil ∷ []))) (none_of 𝓛 Lr) $
    use0 𝓛 (raw (fact 𝓤 (None ≡ d.held))) (fact_i 𝓤 (None ≡ d.held) (emp 𝓤) (sym none)) $ nothing ! $ nothing ! $ fjoin ! $
    keep ! (5 ∷ 0 ∷ 2 ∷ 1 ∷ []) $ by ! (leaves 𝓛 f.ended stayed c z (live 0 vnil) None (tt, tt) (tt, tt)))
    (λ wrong. absurd wrong)))
    (λ b o x is some can. let w : Val = both (vptr b o) h in let told : z.0.4.0 ≡ w ∷ [] = ws ∙ ap (λ (p : Ptr). both (ptr_val p) h ∷ []) is in
    let typed = loose_good R Z LZ ghosts b o h fits in let v₁ : Val = live 1 (vcons w vnil) in let r : Lr.Denot = record { at = block_ptr b o; alloc = d.alloc; value = x } in
    let good : Good (layout Out) v₁ = (and_tt _ typed.0, (record { fits = lit< tt }, (typed.1, tt))) in
    suffices ! (Run (w ∷ [])) (subst (λ (us : List Val). ent 𝓤 (Run (w ∷ [])) (Run us)) (sym (λ i. told i ++ [])) (id⊢ 𝓤 (Run (w ∷ [])))) $
    enter ! 𝓣.C 𝓣.Λ fn (w ∷ []) Post $ alloc_all ! (λ l. pass_all ! refl (handle_good (block_ptr b o) h fits, tt) $ let Ev = env fn.locals l in
    sets ! (of_opd ! (get_in ! (fld ! refl (stop !)) (sub ! 0 refl (whole !)))) refl (tt, tt) $ sets ! (of_opd ! (get_in ! (fld ! refl (stop !)) (sub ! 1 refl (whole !)))) refl fits $
    sets ! (bin ! (get ! refl) (lit ! tt) (tests_null (block_ptr b o) can)) refl (tt, tt) $ first ! $ branches ! (get ! refl) (λ wrong. absurd wrong) (λ _.
    skips ! $ exec ! 𝓣.C 𝓣.Λ Ev (after 4 fn.body) (at_ret Ev Post) $
    sets ! (agg ! (and_then ! (get ! refl) (and_then ! (get ! refl) (no_more !)))) refl typed $ sets ! (agg ! (and_then ! (lit ! tt) (and_then ! (get ! refl) (no_more !)))) refl good $
    returns ! (look_at ! 0 refl) $ free_all ! refl $ loose_in R Z LZ ghosts ! b o h d.alloc x $
    use1 𝓛 (‵ (Out.own_val (Some r) (v₁ ∷ []))) (Some-of 𝓛 Lr r w) $
    use0 𝓛 (raw (fact 𝓤 (Some x ≡ d.held))) (fact_i 𝓤 (Some x ≡ d.held) (emp 𝓤) (sym some)) $ nothing ! $ nothing ! $ fjoin ! $
    keep ! (4 ∷ 0 ∷ 2 ∷ 1 ∷ []) $ by ! (leaves 𝓛 f.ended stayed c z v₁ (Some r) (tt, tt) (tt, tt)))))))
