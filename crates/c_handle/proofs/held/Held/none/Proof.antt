-- `none` makes a null pointer, which owns nothing.
use Rattle.std.proofs.Common.{◌≡◌, List, [], ◌∷◌, ◌++◌, refl, sym, subst, Option, None}
use mir.Val.{Val}
use base.Logic.{SProp, ent, emp, id⊢}
use base.Fml.{ftrue}
use prog.Wp.{WpFn}
use types.Kit.{‵, raw, ◌⊛◌, ◌$◌, ◌∵◌, !, qed, by, keep, drop, split, fsplit, fjoin, suffices, use0}
use types.Run.{lit, no_more, and_then, returns, enter}
use types.ByLocal.{alloc_all, pass_all, free_all, look_at, get, sets}
use types.Part.{agg}
use contract.Monad.{fact, fact_i}
use contract.Running.{tables}
use denote.Exit.{yes}
use denote.RattleType.{owns}
use denote.Signature.{types_at, plain}
use denote.RawPtr.{null_ptr}
use denote.Steps.{nothing}
use denote.Triple.Walked.{Stays, stay_dropped, Goes-dropped, walk_of}
use Rattle.core.proofs.alloc.Calls.{handle_tells}
use Rattle.std.proofs.raw_atomic.Walks.{proved_at, leaves}
use Rattle.c_handle.proofs.AsHeld.{Z, heap, address, null_typed, held_together}
use Rattle.c_handle.specs.contracts.kept.Kept.{the_row as R}
use Rattle.c_handle.specs.contracts.held.Held.none.{ended, clauses}
use Rattle.c_handle.specs.contracts.held.Held.none.Key.{name as own_name}
use Rattle.c_handle.proofs.held.Held.none.Statement.{statement}
use Rattle.c_handle.proofs.held.Held.none.Code as code

pub none_spec : {M : Type 1} → statement M
none_spec 𝓤 𝓛 𝓜 𝓡 wired =
    let H = 𝓛.H in let tabs = tables 𝓤 H 𝓜 𝓡 𝓡.env in let said = clauses 𝓛 𝓜.mem 𝓡.returns in let fn = code.function in
    let stay : Stays ended.signature.params ended.kept = (stay_dropped (plain (λ _. Z)) yes, tt) in
    proved_at 𝓛 ended stay said 𝓜 𝓡 (Goes-dropped 𝓛 0 (plain (λ _. Z)) yes (λ κs x f. refl), tt) own_name fn (code.unfolded 𝓤 H 𝓜 𝓡 wired) (λ z are.
    let a = z.0.3.0 in let Nothing : Option R.Denot = None in let Post : Val → SProp 𝓤 = (walk_of 𝓛 ended stay said).post z in let Run : List Val → SProp 𝓤 = λ ws. WpFn 𝓤 H tabs.C tabs.Λ fn ws Post in
    qed 𝓛 ((‵ ftrue ⊛ ‵ (owns (types_at ended.signature.params tt) z.0.3 z.0.4)) ∷ raw (emp 𝓤) ∷ []) ∵ split ! $ drop ! $ fsplit ! $
    handle_tells heap ! a z.0.4.0 (λ h is_h fits. nothing ! $ held_together ! null_ptr h a Nothing $
    suffices ! (Run (h ∷ [])) (subst (λ (us : List Val). ent 𝓤 (Run (h ∷ [])) (Run us)) (sym (λ i. is_h i ++ [])) (id⊢ 𝓤 (Run (h ∷ [])))) $
    enter ! tabs.C tabs.Λ fn (h ∷ []) Post $ alloc_all ! (λ l. pass_all ! refl (fits, tt) $
    sets ! (agg ! (and_then ! (lit ! tt) (and_then ! (get ! refl) (no_more !)))) refl (null_typed h fits) $
    use0 𝓛 (raw (fact 𝓤 (Nothing ≡ Nothing))) (fact_i 𝓤 (Nothing ≡ Nothing) (emp 𝓤) refl) $ nothing ! $ nothing ! $ fjoin ! $ nothing ! $
    returns ! (look_at ! 0 refl) $ free_all ! refl $ keep ! (0 ∷ 1 ∷ 3 ∷ 2 ∷ []) $
    by ! (leaves 𝓛 ended stay said z (address null_ptr h) (record { at = null_ptr; alloc = a; value = Nothing }) (tt, tt) (tt, tt)))))
