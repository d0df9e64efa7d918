-- The machine value of a `Held`: an address, and the allocator's. Assumes `Logic`.
use Rattle.std.proofs.Common.{◌≡◌, ℕ, List, [], ◌∷◌, ◌++◌, refl, ap, ◌∙◌, lit<, Option, Some, None, true, false}
use Rattle.std.specs.Prelude.{is_some}
use mathlib.Core.Bool.{◌&&◌}
use lib.Dec.{T}
use seplogic.Ra.Ura.{Ura}
use mir.Syntax.{impl, tnil, dnil}
use mir.Raw.{raw as bare}
use mir.Val.{Val, vstruct, vcons, vnil, of_list, has_ty, WT}
use base.Logic.{never, fst∗}
use types.Logic.{Logic, sem}
use types.Kit.{Item, Goal, Seq, Step, step, ‵, ◌$◌, move, drop, fsplit, fjoin, fpick, fpack, feq_i, feq_l}
use denote.RattleType.{RattleType, Valss}
use denote.Builtin.{RawPtr}
use denote.Memory.{lone}
use denote.RawPtr.{Ptr, block_ptr, null_ptr, ptr_val, in_a_block}
use denote.Signature.{Slot, plain}
use denote.Steps.{nothing}
use denote.Param.{layout}
use denote.Struct.Struct.{within}
use denote.Struct.Owning.{shape, to}
use Rattle.core.proofs.alloc.Calls.{Al, handle_tells}
use Rattle.core.proofs.cell.Inside.{Good}
use Rattle.std_alloc.specs.Box.Ownership.{box_owns}
use Rattle.std_alloc.proofs.ResultValues.{and_tt}
use Rattle.std_heap.specs.contracts.Global as Heap
use Rattle.std_heap.specs.contracts.GlobalAllocator.TheImpl.{ghosts, dict}
use Rattle.std_heap.proofs.Global.TheLaws.{the_row_laws as heap_laws}
use Rattle.c_handle.specs.Owned.{owned}
use Rattle.c_handle.specs.contracts.kept.Kept.{the_row as R}
use Rattle.c_handle.specs.contracts.loose.Loose as Loose
use Rattle.c_handle.specs.contracts.held.Held as Held

abbrev pub Z : RattleType
Z = Heap.the_row

abbrev pub heap : Al
heap = record { row = Z; laws = heap_laws; g = ghosts; d = dict; drops = impl [] tnil dnil }

abbrev pub OfLoose : Slot 0
OfLoose = plain (λ _. Loose.the_row R Z ghosts)

abbrev pub OfHeld : Slot 0
OfHeld = plain (λ _. Held.the_row)

abbrev pub address : Ptr → Val → Val
address p h = vstruct (vcons (ptr_val p) (vcons h vnil))

pub in_block_typed : (b o : ℕ) (h : Val) → Good (layout Z) h → T (has_ty (layout Z) h && true) × WT (address (block_ptr b o) h)
in_block_typed b o h fits = (and_tt (has_ty (layout Z) h) fits.0, (tt, (fits.1, tt)))

pub null_typed : (h : Val) → Good (layout Z) h → T (has_ty (layout Z) h && true) × WT (address null_ptr h)
null_typed h fits = (and_tt (has_ty (layout Z) h) fits.0, (record { fits = lit< tt }, (fits.1, tt)))

module _ {M : Type 1} {𝓤 : Ura M} {𝓛 : Logic 𝓤} {K : Type 0} {Γ : List (Item 𝓤)} {G : Goal 𝓤 𝓛.H} where
  there : K → (a : Z.Denot) (p : Ptr) (v : Option R.Denot) → is_some v ≡ true
      → ((x : R.Denot) → v ≡ Some x → Seq K 𝓛 (‵ (box_owns (ghosts.dealloc_token a) R p x) ∷ Γ) G) → Seq K 𝓛 (‵ (owned a p v) ∷ Γ) G
  there t a p None e rest = absurd (let f : false ≡ true = e in (cc))
  there t a p (Some x) e rest = rest x refl

module _ {M : Type 1} {𝓤 : Ura M} {𝓛 : Logic 𝓤} {K : Type 0} {Γ : List (Item 𝓤)} {G : Goal 𝓤 𝓛.H} where
  pub held_apart : K → (d : Held.the_row.Denot) (vs : List Val) → is_some d.value ≡ true
      → ((x : R.Denot) (b o : ℕ) (h : Val) → d.value ≡ Some x → d.at ≡ block_ptr b o → vs ≡ address (block_ptr b o) h ∷ [] → Good (layout Z) h
      → Seq K 𝓛 (‵ (box_owns (ghosts.dealloc_token d.alloc) R (block_ptr b o) x) ∷ ‵ (Z.own_val d.alloc (h ∷ [])) ∷ Γ) G)
      → Seq K 𝓛 (‵ (Held.the_row.own_val d vs) ∷ Γ) G
  held_apart t d vs is_there rest =
      fsplit t $ fpick t (λ parts. fsplit t $ feq_l t (λ whole. fsplit t $ feq_l t (λ is_at. fsplit t $ handle_tells heap t d.alloc parts.1.0 (λ h is_h fits. move t (1 ∷ []) $ drop t $ move t (1 ∷ []) $
      there t d.alloc d.at d.value is_there (λ x is_x.
      in_a_block t d.at (λ p. box_owns (ghosts.dealloc_token d.alloc) R p x) (fst∗ 𝓤 (never 𝓤) (sem 𝓛 (ghosts.dealloc_token d.alloc (bare (lone R.mir)) null_ptr))) (λ b o in_block.
      rest x b o h is_x in_block (whole ∙ (λ i. vstruct (of_list ((is_at ∙ ap (λ (p : Ptr). ptr_val p ∷ []) in_block) i ++ (is_h i ++ []))) ∷ [])) fits))))))

  pub held_together : K → (p : Ptr) (h : Val) (a : Z.Denot) (v : Option R.Denot)
      → Step K 𝓛 (‵ (Held.the_row.own_val (record { at = p; alloc = a; value = v }) (address p h ∷ [])) ∷ Γ) G (‵ (owned a p v) ∷ ‵ (Z.own_val a (h ∷ [])) ∷ Γ) G
  held_together t p h a v = step (λ s. let at : List Val = ptr_val p ∷ [] in let whole : List Val = address p h ∷ [] in let made : Held.the_row.Denot = record { at = p; alloc = a; value = v } in
      nothing t $ move t (2 ∷ 0 ∷ []) $ fjoin t $ feq_i t (List Val) at at refl $ fjoin t $ feq_i t (List Val) whole whole refl $ fjoin t $
      fpack t (Valss (RawPtr ∷ Z ∷ [])) (within (shape Held.the_type) (to Held.the_type made) whole) (at, (h ∷ [], tt)) $ fjoin t $ s)
