-- `into_loose` hands on the box that the pointer stands for.
use Rattle.std.proofs.Common.{◌≡◌, List, [], ◌∷◌, ◌++◌, refl, sym, subst, Some}
use mir.Val.{Val}
use base.Logic.{SProp, ent, emp, id⊢}
use base.Fml.{ftrue}
use prog.Wp.{WpFn}
use types.Kit.{‵, raw, ◌⊛◌, ◌$◌, ◌∵◌, !, qed, by, move, keep, drop, split, fsplit, fjoin, suffices, use0}
use types.Run.{stop, fld, of_opd, no_more, and_then, returns, enter}
use types.ByLocal.{alloc_all, pass_all, free_all, look_at, get, get_in, sets}
use types.Part.{agg, sub, whole}
use contract.Monad.{fact, fact_i}
use contract.Running.{tables}
use denote.Exit.{yes}
use denote.RattleType.{owns}
use denote.Signature.{types_at}
use denote.RawPtr.{block_ptr}
use denote.Steps.{nothing, heard}
use denote.Triple.Walked.{Stays, stay_dropped, Goes-dropped, walk_of}
use Rattle.std.proofs.raw_atomic.Walks.{proved_at, leaves}
use Rattle.std.specs.Prelude.{is_some, true}
use Rattle.std_heap.specs.contracts.GlobalAllocator.TheImpl.{ghosts}
use Rattle.std_heap.proofs.Global.TheLaws.{the_row_laws as heap_laws}
use Rattle.c_handle.proofs.Words.{word, is_typed, put_together}
use Rattle.c_handle.proofs.AsHeld.{Z, OfHeld, address, in_block_typed, held_apart}
use Rattle.c_handle.specs.contracts.kept.Kept.{the_row as R}
use Rattle.c_handle.specs.contracts.held.Held.into_loose.{ended, clauses}
use Rattle.c_handle.specs.contracts.held.Held.into_loose.Key.{name as own_name}
use Rattle.c_handle.proofs.held.Held.into_loose.Statement.{statement}
use Rattle.c_handle.proofs.held.Held.into_loose.Code as code

pub into_loose_spec : {M : Type 1} → statement M
into_loose_spec 𝓤 𝓛 𝓜 𝓡 wired =
    let H = 𝓛.H in let tabs = tables 𝓤 H 𝓜 𝓡 𝓡.env in let said = clauses 𝓛 𝓜.mem 𝓡.returns in let fn = code.function in
    let stay : Stays ended.signature.params ended.kept = (stay_dropped OfHeld yes, tt) in
    proved_at 𝓛 ended stay said 𝓜 𝓡 (Goes-dropped 𝓛 0 OfHeld yes (λ κs x f. refl), tt) own_name fn (code.unfolded 𝓤 H 𝓜 𝓡 wired) (λ z are.
    let v = z.0.3.0 in let Post : Val → SProp 𝓤 = (walk_of 𝓛 ended stay said).post z in let Run : List Val → SProp 𝓤 = λ ws. WpFn 𝓤 H tabs.C tabs.Λ fn ws Post in
    qed 𝓛 ((‵ ftrue ⊛ ‵ (owns (types_at ended.signature.params tt) z.0.3 z.0.4)) ∷ raw (fact 𝓤 (is_some v.value ≡ true)) ∷ []) ∵ move ! (1 ∷ []) $ heard ! (is_some v.value ≡ true) (λ is_there. split ! $ drop ! $ fsplit ! $
    held_apart ! v z.0.4.0 is_there (λ x b o h is_x e ws fits.
    let p = block_ptr b o in let w : Val = address p h in let made = is_typed R Z heap_laws ghosts h b o fits in
    put_together R Z heap_laws ghosts ! h b o v.alloc x $
    suffices ! (Run (w ∷ [])) (subst (λ (us : List Val). ent 𝓤 (Run (w ∷ [])) (Run us)) (sym (λ i. ws i ++ [])) (id⊢ 𝓤 (Run (w ∷ [])))) $
    enter ! tabs.C tabs.Λ fn (w ∷ []) Post $ alloc_all ! (λ l. pass_all ! refl (in_block_typed b o h fits, tt) $
    sets ! (of_opd ! (get_in ! (fld ! refl (stop !)) (sub ! 0 refl (whole !)))) refl (tt, tt) $ sets ! (of_opd ! (get_in ! (fld ! refl (stop !)) (sub ! 1 refl (whole !)))) refl fits $
    sets ! (of_opd ! (get ! refl)) refl (tt, tt) $ sets ! (agg ! (and_then ! (get ! refl) (and_then ! (get ! refl) (no_more !)))) refl made $
    use0 𝓛 (raw (fact 𝓤 (v.value ≡ Some x))) (fact_i 𝓤 (v.value ≡ Some x) (emp 𝓤) is_x) $ nothing ! $ nothing ! $ fjoin ! $ nothing ! $
    returns ! (look_at ! 0 refl) $ free_all ! refl $ keep ! (0 ∷ 1 ∷ 3 ∷ 2 ∷ []) $
    by ! (leaves 𝓛 ended stay said z (word h b o) (record { alloc = v.alloc; at = p; value = x }) (tt, tt) (tt, tt))))))
