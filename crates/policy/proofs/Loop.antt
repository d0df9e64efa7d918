-- The reader does what reading says.
use Rattle.std.proofs.Common.{◌≡◌, ℕ, suc, ◌-◌, ◌+◌, ◌≤◌, ◌<◌, true, false, List, [], ◌∷◌, ◌++◌, Result, Ok, Err, refl, sym, ap, ◌∙◌, subst, append_assoc, arith}
use Rattle.policy.specs.declared.fault.PolicyFault.{PolicyFault}
use Rattle.policy.specs.declared.fault.PolicyFault.TheVariants.{Memory, TooLarge, Syntax, Role, Threshold, TooDeep}
use Rattle.policy.specs.declared.token.Word.{Word}
use Rattle.policy.specs.Tree.{Tree}
use Rattle.policy.specs.Fault.{Fault, depth_fault, size_fault}
use Rattle.policy.specs.Reading.{◌>>=◌, Read, Reader, Asked, head_at, separator_at, after_member, members_by, expression_by, gate_by, gate_at, made, closed}
use Rattle.policy.specs.Outcome.{Refuses, Gives}

-- ---- steps

pub bind_refused : {A B : Type 0} (e : PolicyFault) (r : Result A Fault) (f : A → Result B Fault) → Refuses e r
    → Refuses e (r >>= f)
bind_refused Memory r f h = tt
bind_refused TooLarge r f h = ap (λ x. x >>= f) h
bind_refused (Syntax at) r f h = ap (λ x. x >>= f) h
bind_refused (Role at) r f h = ap (λ x. x >>= f) h
bind_refused (Threshold at) r f h = ap (λ x. x >>= f) h
bind_refused (TooDeep at) r f h = ap (λ x. x >>= f) h

pub refused_by : {A : Type 0} (e : PolicyFault) (r s : Result A Fault) → r ≡ s → Refuses e s → Refuses e r
refused_by e r s h k = subst (Refuses e) (sym h) k

pub bind_is : {A B : Type 0} (r : Result A Fault) (x : A) (f : A → Result B Fault) → r ≡ Ok x → (r >>= f) ≡ f x
bind_is r x f h = ap (λ y. y >>= f) h

-- ---- gates

pub gate_none : (d : ℕ) (w : Word) (k : ℕ) (bytes : List ℕ) → d ≡ 0 → gate_at d w k bytes ≡ Err depth_fault
unfolding gate_at
gate_none d w k bytes e = rw e refl

pub gate_some : (d e : ℕ) (w : Word) (k : ℕ) (bytes : List ℕ) → d ≡ suc e
    → gate_at d w k bytes ≡ gate_by (gate_at e) w k bytes
unfolding gate_at
gate_some d e w k bytes h = rw h refl

module _ (d d' : ℕ) (less : d ≡ suc d') (w : Word) (k k' : ℕ) (same : k' ≡ k) (bytes : List ℕ) where
  pub gate_head_refused : (e : PolicyFault) → Refuses e (head_at w bytes) → Refuses e (gate_at d w k bytes)
  unfolding gate_by
  gate_head_refused e h =
      refused_by e (gate_at d w k bytes) (gate_by (gate_at d') w k bytes) (gate_some d d' w k bytes less) (bind_refused e (head_at w bytes) _ h)

  pub gate_is : (a : Asked) (rest : List ℕ) → head_at w bytes ≡ Ok (a, rest)
      → gate_at d w k bytes ≡ (members_by (expression_by (gate_at d')) 257 k' rest >>= λ members. closed a members)
  unfolding gate_by
  gate_is a rest h =
      gate_some d d' w k bytes less ∙ bind_is (head_at w bytes) (a, rest) _ h ∙ ap (λ n. members_by (expression_by (gate_at d')) 257 n rest >>= λ members. closed a members) (sym same)

  pub gate_members_refused : (e : PolicyFault) (a : Asked) (rest : List ℕ) → head_at w bytes ≡ Ok (a, rest)
      → Refuses e (members_by (expression_by (gate_at d')) 257 k' rest) → Refuses e (gate_at d w k bytes)
  gate_members_refused e a rest h m =
      refused_by e (gate_at d w k bytes) _ (gate_is a rest h) (bind_refused e (members_by (expression_by (gate_at d')) 257 k' rest) _ m)

  pub gate_closed : (a : Asked) (rest : List ℕ) (members : Read (List Tree)) (r : Result Tree PolicyFault)
      → head_at w bytes ≡ Ok (a, rest) → members_by (expression_by (gate_at d')) 257 k' rest ≡ Ok members
      → Gives (λ e. e) r (made a members.value)
      → Gives (λ e. record { value = e; principals = members.principals; rest = members.rest }) r (gate_at d w k bytes)
  gate_closed a rest members (Ok t) h m c =
      gate_is a rest h ∙ bind_is (members_by (expression_by (gate_at d')) 257 k' rest) members _ m ∙ bind_is (made a members.value) t _ c
  gate_closed a rest members (Err e) h m c =
      refused_by e (gate_at d w k bytes) (closed a members) (gate_is a rest h ∙ bind_is (members_by (expression_by (gate_at d')) 257 k' rest) members _ m) (bind_refused e (made a members.value) _ c)

-- ---- members

-- what was read before, and what is still read
abbrev pub with_front : List Tree → Result (Read (List Tree)) Fault → Result (Read (List Tree)) Fault
with_front front read = read >>= λ ms. Ok (record ms { value = front ++ ms.value })

front_refused : (e : PolicyFault) (front : List Tree) (r : Result (Read (List Tree)) Fault) (total : Result (Read (List Tree)) Fault)
    → with_front front r ≡ total → Refuses e r → Refuses e total
front_refused e front r total h k = refused_by e total (with_front front r) (sym h) (bind_refused e r _ k)

regroup : (front : List Tree) (t : Tree) (r : Result (Read (List Tree)) Fault)
    → with_front front (r >>= λ ms. Ok (record ms { value = t ∷ ms.value })) ≡ with_front (front ++ t ∷ []) r
regroup front t (Ok ms) = ap (λ (ts : List Tree). Ok (record ms { value = ts })) (simp append_assoc)
regroup front t (Err f) = refl

module _ (ex : Reader Tree) (front : List Tree) (i k : ℕ) (bytes : List ℕ) (total : Result (Read (List Tree)) Fault) (so_far : with_front front (members_by ex (257 - i) k bytes) ≡ total) where
  members_is : i < 257
      → members_by ex (257 - i) k bytes ≡ (ex k bytes >>= λ first. separator_at first.rest >>= λ next. after_member (members_by ex (257 - (i + 1))) first next.0 next.1)
  unfolding members_by
  members_is lt = let n : 257 - i ≡ suc (257 - (i + 1)) = omega arith in rw n refl

  pub member_refused : i < 257 → (e : PolicyFault) → Refuses e (ex k bytes) → Refuses e total
  member_refused lt e h =
      front_refused e front (members_by ex (257 - i) k bytes) total so_far (refused_by e (members_by ex (257 - i) k bytes) _ (members_is lt) (bind_refused e (ex k bytes) _ h))

  pub separator_refused : i < 257 → (e : PolicyFault) (first : Read Tree) → ex k bytes ≡ Ok first
      → Refuses e (separator_at first.rest) → Refuses e total
  separator_refused lt e first f h =
      front_refused e front (members_by ex (257 - i) k bytes) total so_far (refused_by e (members_by ex (257 - i) k bytes) _ (members_is lt ∙ bind_is (ex k bytes) first _ f) (bind_refused e (separator_at first.rest) _ h))

  pub members_end : i < 257 → (first : Read Tree) (rest : List ℕ) → ex k bytes ≡ Ok first
      → separator_at first.rest ≡ Ok (false, rest)
      → total ≡ Ok (record { value = front ++ first.value ∷ []; principals = first.principals; rest = rest })
  members_end lt first rest f s =
      sym so_far ∙ ap (with_front front) (members_is lt ∙ bind_is (ex k bytes) first _ f ∙ bind_is (separator_at first.rest) (false, rest) _ s)

  pub members_go_on : i < 257 → (first : Read Tree) (rest : List ℕ) → ex k bytes ≡ Ok first
      → separator_at first.rest ≡ Ok (true, rest)
      → with_front (front ++ first.value ∷ []) (members_by ex (257 - (i + 1)) first.principals rest) ≡ total
  members_go_on lt first rest f s =
      sym (regroup front first.value (members_by ex (257 - (i + 1)) first.principals rest)) ∙ sym (ap (with_front front) (members_is lt ∙ bind_is (ex k bytes) first _ f ∙ bind_is (separator_at first.rest) (true, rest) _ s)) ∙ so_far

  pub members_full : 257 ≤ i → total ≡ Err size_fault
  unfolding members_by
  members_full le =
      let n : 257 - i ≡ 0 = omega arith in let z : members_by ex (257 - i) k bytes ≡ Err size_fault = rw n refl in sym so_far ∙ ap (with_front front) z
