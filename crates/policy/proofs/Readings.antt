-- What reading answers is what the grammar says, in both directions.
use Rattle.std.proofs.Common.{◌≡◌, ◌≢◌, ℕ, ◌≤◌, ◌<◌, Bool, true, false, cond, List, [], ◌∷◌, ◌++◌, length, Some, Result, Ok, Err, refl, sym, ap, ◌∙◌, subst, inl, inr, arith}
use Rattle.std.specs.Prelude.{nat_lt, IfSome, ◌⊎◌}
use Rattle.std.specs.Result.{result_ok}
use Rattle.std.proofs.lemmas.Bool.Decides.{nat_tests}
use Rattle.std.proofs.lemmas.List.{append-nil}
use Rattle.policy.specs.declared.fault.PolicyFault.{PolicyFault}
use Rattle.policy.specs.declared.fault.PolicyFault.TheVariants.{Memory, TooLarge, Syntax, Role, Threshold, TooDeep}
use Rattle.policy.specs.Tree.{Tree}
use Rattle.policy.specs.Token.{Token, ended, Spaced}
use Rattle.policy.specs.Lexing.{token_at}
use Rattle.policy.specs.Grammar.{Spells, IsPolicy}
use Rattle.policy.specs.Fault.{Fault, syntax_fault, role_fault, threshold_fault, depth_fault, size_fault, first, HasFault, too_long, fails, goes_on}
use Rattle.policy.specs.Reading.{◌>>=◌, Read, expression_by, gate_at, last_token, policy_at}
use Rattle.policy.specs.Meaning.{policy_of}
use Rattle.policy.specs.Outcome.{Refuses}
use Rattle.policy.specs.Kind.{kind_of, IsOfKind}
use Rattle.policy.proofs.Spaces.{first_is, all_spaced}
use Rattle.policy.proofs.Loop.{bind_is}
use Rattle.policy.proofs.Complete.{expression_complete}
use Rattle.policy.proofs.Sound.{ExpressionRead, ExpressionOutcome, whole_outcome}
use Rattle.policy.proofs.Faults.{bind_fault, fails_exact}

abbrev PolicyOutcome : List ℕ → Result Tree Fault → Type 0
PolicyOutcome bytes (Ok t) = IsPolicy bytes t
PolicyOutcome bytes (Err f) = HasFault bytes f

module _ (bytes : List ℕ) (short : length bytes ≤ 4096) (ts : List Token) (sp : Spaced ts bytes) where
  end_case : (read : Read Tree) (r : ExpressionRead 0 0 ts read) (post : List Token) → post ≡ r.post
      → PolicyOutcome bytes (last_token read.value (first post))
  end_case read r [] e =
      let all : ts ≡ r.pre = r.parts ∙ ap (λ (x : List Token). r.pre ++ x) (sym e) ∙ append-nil r.pre in
      record {
        tokens = ts;
        spaced = sp;
        spells = subst (λ (x : List Token). Spells read.value x) (sym all) r.spells;
        short = short;
        few = omega (arith, r.few, r.principals);
        flat = omega (arith, r.flat);
      }
  end_case read r (ended ∷ post) e = absurd (subst (λ (x : List Token). Spaced x read.rest) (sym e) r.spaced)
  end_case read r (t ∷ post) e =
      goes_on (t ∷ post) short (subst (λ (x : List Token). Spaced x bytes) (r.parts ∙ ap (λ (x : List Token). r.pre ++ x) (sym e)) sp) r.spells (record { few = omega (arith, r.few, r.principals); flat = r.flat }) (λ h. absurd cc)

  read_case : (o : Result (Read Tree) Fault) → ExpressionOutcome 0 0 ts o
      → PolicyOutcome bytes (o >>= λ read. last_token read.value (token_at read.rest).0)
  read_case (Ok read) r =
      subst (λ (t : Token). PolicyOutcome bytes (last_token read.value t)) (sym (first_is r.post read.rest r.spaced)) (end_case read r r.post refl)
  read_case (Err f) r = fails short sp r

policy_case : (bytes : List ℕ) (b : Bool) → nat_lt 4096 (length bytes) ≡ b
    → PolicyOutcome bytes (cond b (Err size_fault) (expression_by (gate_at 32) 0 bytes >>= λ read. last_token read.value (token_at read.rest).0))
policy_case bytes true e = let h : 4096 < length bytes = grind (arith, nat_tests) in too_long h
policy_case bytes false e =
    let h : length bytes ≤ 4096 = grind (arith, nat_tests) in
    let s = all_spaced bytes in
    read_case bytes h s.0 s.1 (expression_by (gate_at 32) 0 bytes) (whole_outcome s.0 bytes s.1)

policy_outcome : (bytes : List ℕ) → PolicyOutcome bytes (policy_at bytes)
unfolding policy_at
policy_outcome bytes = policy_case bytes (nat_lt 4096 (length bytes)) refl

pub law_found : (bytes : List ℕ) (t : Tree) → policy_at bytes ≡ Ok t → IsPolicy bytes t
law_found bytes t e = subst (PolicyOutcome bytes) e (policy_outcome bytes)

pub law_fault : (bytes : List ℕ) (f : Fault) → policy_at bytes ≡ Err f → HasFault bytes f
law_fault bytes f e = subst (PolicyOutcome bytes) e (policy_outcome bytes)

-- ---- the other direction

short_is : (bytes : List ℕ) → length bytes ≤ 4096
    → policy_at bytes ≡ (expression_by (gate_at 32) 0 bytes >>= λ read. last_token read.value (token_at read.rest).0)
unfolding policy_at
short_is bytes short = let e : nat_lt 4096 (length bytes) ≡ false = grind (arith, nat_tests) in rw e refl

not_last : (t : Tree) (ts us : List Token) (rest : List ℕ) → ts ≡ us → us ≢ [] → Spaced ts rest
    → last_token t (first ts) ≡ Err syntax_fault
not_last t [] us rest e h sp = absurd (h (sym e))
not_last t (ended ∷ ts) us rest e h sp = absurd sp
not_last t (x ∷ ts) us rest e h sp = refl

pub law_only : (bytes : List ℕ) (t : Tree) → IsPolicy bytes t → policy_at bytes ≡ Ok t
law_only bytes t p =
    let r = expression_complete p.spells 32 0 [] bytes p.flat (omega (arith, p.few)) (subst (λ (x : List Token). Spaced x bytes) (sym (append-nil p.tokens)) p.spaced) in
    short_is bytes p.short ∙ bind_is (expression_by (gate_at 32) 0 bytes) _ _ r.is ∙ ap (λ (x : Token). last_token t x) (first_is [] r.rest r.spaced)

pub law_only_fault : {bytes : List ℕ} {f : Fault} → HasFault bytes f → policy_at bytes ≡ Err f
unfolding policy_at
law_only_fault (too_long {text} long) =
    let e : nat_lt 4096 (length text) ≡ true = grind (arith, nat_tests) in rw e refl
law_only_fault (fails {text} {ts} {f} short sp h) =
    short_is text short ∙ bind_fault (expression_by (gate_at 32) 0 text) f _ (fails_exact h 32 text refl (omega arith) sp)
law_only_fault (goes_on {text} {t} {ts} us short sp s keeps more) =
    let r = expression_complete s 32 0 us text (omega (arith, keeps.flat)) keeps.few sp in
    short_is text short ∙ bind_is (expression_by (gate_at 32) 0 text) _ _ r.is ∙ ap (λ (x : Token). last_token t x) (first_is us r.rest r.spaced) ∙ not_last t us us r.rest refl more r.spaced

-- ---- the tree alone

ok_of : (r : Result Tree Fault) (t : Tree) → result_ok r ≡ Some t → r ≡ Ok t
ok_of (Ok s) t e = let same : s ≡ t = cc in ap Ok same
ok_of (Err f) t e = absurd cc

pub law_policy : (bytes : List ℕ) (t : Tree) → policy_of bytes ≡ Some t → policy_at bytes ≡ Ok t
law_policy bytes t e = ok_of (policy_at bytes) t e

-- ---- what a refusal says

pub refused_kind : (e : PolicyFault) (bytes : List ℕ) → Refuses e (policy_at bytes)
    → IfSome (kind_of e) (HasFault bytes)
refused_kind Memory bytes h = tt
refused_kind TooLarge bytes h = law_fault bytes size_fault h
refused_kind (Syntax at) bytes h = law_fault bytes syntax_fault h
refused_kind (Role at) bytes h = law_fault bytes role_fault h
refused_kind (Threshold at) bytes h = law_fault bytes threshold_fault h
refused_kind (TooDeep at) bytes h = law_fault bytes depth_fault h

same_kind : (e : PolicyFault) (f : Fault) → Refuses {Y = Tree} e (Err f) → IsOfKind f e
same_kind Memory f h = inr refl
same_kind TooLarge f h = let k : f ≡ size_fault = cc in inl (ap Some (sym k))
same_kind (Syntax at) f h = let k : f ≡ syntax_fault = cc in inl (ap Some (sym k))
same_kind (Role at) f h = let k : f ≡ role_fault = cc in inl (ap Some (sym k))
same_kind (Threshold at) f h = let k : f ≡ threshold_fault = cc in inl (ap Some (sym k))
same_kind (TooDeep at) f h = let k : f ≡ depth_fault = cc in inl (ap Some (sym k))

pub refused_fault : (e : PolicyFault) (bytes : List ℕ) (f : Fault) → HasFault bytes f → Refuses e (policy_at bytes)
    → IsOfKind f e
refused_fault e bytes f has h = same_kind e f (subst (Refuses e) (law_only_fault has) h)

no_refusal : (e : PolicyFault) (t : Tree) → Refuses e (Ok t) → e ≡ Memory
no_refusal Memory t h = refl
no_refusal TooLarge t h = absurd cc
no_refusal (Syntax at) t h = absurd cc
no_refusal (Role at) t h = absurd cc
no_refusal (Threshold at) t h = absurd cc
no_refusal (TooDeep at) t h = absurd cc

pub refused_policy : (e : PolicyFault) (bytes : List ℕ) (t : Tree) → IsPolicy bytes t → Refuses e (policy_at bytes)
    → e ≡ Memory
refused_policy e bytes t p h = no_refusal e t (subst (Refuses e) (law_only bytes t p) h)

-- ---- a text has one reading

tree_of : (read : Result Tree Fault) (s t : Tree) → read ≡ Ok s → read ≡ Ok t → s ≡ t
tree_of read s t d e = let k : Ok s ≡ read = sym d in cc

fault_of : (read : Result Tree Fault) (f g : Fault) → read ≡ Err f → read ≡ Err g → f ≡ g
fault_of read f g d e = let k : Err f ≡ read = sym d in cc

both_of : (read : Result Tree Fault) (t : Tree) (f : Fault) → read ≡ Ok t → read ≡ Err f → ⊥
both_of read t f d e = absurd cc

pub one_tree : (bytes : List ℕ) (s t : Tree) → IsPolicy bytes s → IsPolicy bytes t → s ≡ t
one_tree bytes s t p q = tree_of (policy_at bytes) s t (law_only bytes s p) (law_only bytes t q)

pub one_fault : (bytes : List ℕ) (f g : Fault) → HasFault bytes f → HasFault bytes g → f ≡ g
one_fault bytes f g h k = fault_of (policy_at bytes) f g (law_only_fault h) (law_only_fault k)

pub tree_or_fault : (bytes : List ℕ) (t : Tree) (f : Fault) → IsPolicy bytes t → HasFault bytes f → ⊥
tree_or_fault bytes t f p h = both_of (policy_at bytes) t f (law_only bytes t p) (law_only_fault h)

pub reading_or_fault : (bytes : List ℕ) → ((t : Tree) × IsPolicy bytes t) ⊎ ((f : Fault) × HasFault bytes f)
reading_or_fault bytes = by_answer (policy_at bytes) (policy_outcome bytes)
  where
    by_answer : (r : Result Tree Fault) → PolicyOutcome bytes r
        → ((t : Tree) × IsPolicy bytes t) ⊎ ((f : Fault) × HasFault bytes f)
    by_answer (Ok t) p = inl (t, p)
    by_answer (Err f) h = inr (f, h)
