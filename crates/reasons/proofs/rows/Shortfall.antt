-- What signers lack.
use Rattle.std.proofs.Common.{◌≡◌, inl, inr, ℕ, true, false, List, [], ◌∷◌, map, Option, Some, None, refl}
use Rattle.std.specs.Prelude.{codes}
use Rattle.transaction.specs.declared.identity.Identity.{Identity}
use Rattle.transaction.specs.declared.identity.Role.{Role}
use Rattle.transaction.specs.declared.identity.Role.TheVariants as role
use Rattle.transaction.specs.declared.transaction.Endorsement.{Endorsement}
use Rattle.policy.specs.declared.tree.PolicyRole.{PolicyRole}
use Rattle.policy.specs.declared.tree.PolicyRole.TheVariants.{Member, Admin, Peer}
use Rattle.policy.specs.declared.tree.Principal.{Principal}
use Rattle.policy.specs.Tree.{Tree, principal, gate, none, more}
use Rattle.policy_eval.specs.Evaluation.{none_used}
use Rattle.policy_eval.specs.Evaluating.{is_satisfied}
use Rattle.reasons.specs.Missing.{Misses, FirstMisses}
use Rattle.reasons.specs.Reordered.{IsReordered, AsksWideLast}
use Rattle.reasons.specs.Shortfall.{refused_of, missing_from, wide_last, shortfall_of}
use Rattle.rules.proofs.rows.Shared.{p0, p1, q0, both_of}

abbrev org1 : List ℕ
org1 = codes "Org1"

abbrev org2 : List ℕ
org2 = codes "Org2"

abbrev who : List ℕ → Role → List ℕ → Identity
who org r label = record { org = org; role = r; label = label }

-- clients of Org1 and Org2
abbrev c0 : Identity
c0 = who org1 role.Client (codes "c0")

abbrev d0 : Identity
d0 = who org2 role.Client (codes "d0")

-- ---- refused endorsers

abbrev by : List Identity → List Endorsement
by endorsers = map (λ e. record { endorser = e; signature = [] }) endorsers

-- each once, at its first place; one of whose signatures one is accepted isn't refused
pub refused_once : refused_of (by (q0 ∷ p0 ∷ c0 ∷ q0 ∷ p0 ∷ [])) (p0 ∷ []) ≡ q0 ∷ c0 ∷ []
refused_once = refl

pub none_refused : refused_of (by (p0 ∷ q0 ∷ p0 ∷ [])) (p0 ∷ q0 ∷ []) ≡ []
none_refused = refl

-- ---- missing principals

abbrev asks : List ℕ → PolicyRole → Tree
asks org r = principal org r

abbrev one_of : Tree → Tree → Tree
one_of s t = gate 1 (more s (more t none))

abbrev missing : Tree → List Identity → Option Principal
missing policy signers = missing_from policy signers (none_used signers)

abbrev says : List ℕ → PolicyRole → Option Principal
says org r = Some (record { org = org; role = r })

pub the_second_is_missing : missing (both_of (asks org1 Peer) (asks org2 Peer)) (p0 ∷ p1 ∷ []) ≡ says org2 Peer
the_second_is_missing = refl

pub the_first_of_two : missing (both_of (asks org1 Peer) (asks org2 Peer)) (c0 ∷ []) ≡ says org1 Peer
the_first_of_two = refl

pub none_is_missing : missing (both_of (asks org1 Peer) (asks org2 Peer)) (q0 ∷ p0 ∷ []) ≡ None
none_is_missing = refl

-- a gate that is satisfied misses nobody, also where one of its members takes no signer
pub not_in_a_gate_that_holds : missing (both_of (one_of (asks org1 Admin) (asks org1 Peer)) (asks org2 Peer)) (p0 ∷ []) ≡ says org2 Peer
not_in_a_gate_that_holds = refl

-- in a gate inside
pub in_the_first_gate_that_fails : missing (both_of (asks org2 Peer) (both_of (asks org1 Peer) (asks org1 Admin))) (q0 ∷ p0 ∷ []) ≡ says org1 Admin
in_the_first_gate_that_fails = refl

-- the gate before it holds, and keeps both
pub after_one_that_held : missing (both_of (one_of (asks org1 Peer) (asks org1 Peer)) (asks org1 Peer)) (p0 ∷ p1 ∷ []) ≡ says org1 Peer
after_one_that_held = refl

-- by the rule: the principal itself, and behind a member that took its signer
pub itself_by_the_rule : Misses (asks org1 Peer) (c0 ∷ []) (none_used (c0 ∷ [])) (record { org = org1; role = Peer })
itself_by_the_rule = (refl, refl)

pub the_second_by_the_rule : FirstMisses (more (asks org1 Peer) (more (asks org2 Peer) none)) (p0 ∷ p1 ∷ []) (none_used (p0 ∷ p1 ∷ [])) (record { org = org2; role = Peer })
the_second_by_the_rule = inr (true ∷ false ∷ [], (0, refl, refl), inl (refl, refl))

-- ---- another order

pub in_another_order : IsReordered (both_of (asks org1 Member) (asks org1 Peer)) (both_of (asks org1 Peer) (asks org1 Member))
in_another_order =
    (more (asks org1 Peer) (more (asks org1 Member) none), refl, (asks org1 Member, more (asks org1 Peer) none, refl, (asks org1 Peer, none, refl, refl, inl (refl, refl)), inr (none, refl, inl (refl, refl))))

pub any_role_last : AsksWideLast (both_of (asks org1 Peer) (asks org1 Member))
any_role_last = (tt, (λ e. absurd cc), (tt, (λ e. tt), tt))

pub wide_ones_go_last : wide_last (gate 2 (more (asks org1 Member) (more (asks org1 Peer) (more (asks org2 Member) (more (one_of (asks org1 Member) (asks org2 Peer)) none)))))
    ≡ gate 2 (more (asks org1 Peer) (more (one_of (asks org2 Peer) (asks org1 Member)) (more (asks org1 Member) (more (asks org2 Member) none))))
wide_ones_go_last = refl

-- the peer is taken as any member, and then the client is no peer
pub taken_too_early : is_satisfied (both_of (asks org1 Member) (asks org1 Peer)) (p0 ∷ c0 ∷ []) ≡ false
taken_too_early = refl

pub enough_in_another_order : is_satisfied (wide_last (both_of (asks org1 Member) (asks org1 Peer))) (p0 ∷ c0 ∷ []) ≡ true
enough_in_another_order = refl

pub not_enough_in_any : is_satisfied (wide_last (both_of (asks org1 Member) (asks org1 Peer))) (p0 ∷ d0 ∷ []) ≡ false
not_enough_in_any = refl

-- ---- all of it

abbrev any_and_a_peer : Tree
any_and_a_peer = both_of (asks org1 Member) (asks org1 Peer)

pub what_is_lacking : shortfall_of (by (p0 ∷ q0 ∷ c0 ∷ [])) (p0 ∷ c0 ∷ []) any_and_a_peer
    ≡ record { policy = any_and_a_peer; signers = p0 ∷ c0 ∷ []; refused = q0 ∷ []; missing = says org1 Peer; another_order = true }
what_is_lacking = refl
