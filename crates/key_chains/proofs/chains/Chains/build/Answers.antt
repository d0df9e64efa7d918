use Rattle.std.proofs.Common.{◌≡◌, ℕ, suc, ◌+◌, ◌<◌, length, map, ap, subst, ◌∙◌, arith}
use Rattle.std.proofs.lemmas.List.{length-map}
use Rattle.candidates.specs.Seen.{seen}
use Rattle.rules.specs.State.{is_among}
use Rattle.key_chains.specs.Job.{written_by}
use Rattle.key_chains.specs.Built.{IsBuilt}
use Rattle.key_chains.proofs.BlockKeys.{candidate_is, numbers_all}
use Rattle.key_chains.proofs.chains.Chains.build.Goals as goal

pub add-requires-clause-numbers : goal.add-requires-clause-numbers
add-requires-clause-numbers c k among =
    let cs = map seen c.args.candidates.now in
    let lt : c.loop-i.i < length cs = omega (arith, c.loop-i-test.true, length-map c.args.candidates.now seen) in
    numbers_all cs c.loop-i.i c.loop-i.chains.keys c.loop-i.invariant.keys lt k (ap (λ x. is_among k (written_by x)) (candidate_is c.args.candidates.now c.loop-i.i c.index-candidates-i.result c.loop-i-test.true c.index-candidates-i.is) ∙ among)

pub loop-i-preserved : goal.loop-i-preserved
loop-i-preserved c =
    let one : suc c.loop-i.i ≡ c.loop-i.i + 1 = omega arith in
    subst (λ (n : ℕ). IsBuilt (map seen c.args.candidates.now) n n 0 c.add.new.self) one
    (c.in_ok-add.ensures.built (map seen c.args.candidates.now) (candidate_is c.args.candidates.now c.loop-i.i c.index-candidates-i.result c.loop-i-test.true c.index-candidates-i.is) c.loop-i.invariant)

pub returns : goal.returns
returns c =
    let all : c.loop-i.i ≡ length c.args.candidates.now = omega (arith, c.loop-i-test.false, c.loop-i.auto.i-end) in
    subst (λ (n : ℕ). IsBuilt (map seen c.args.candidates.now) n n 0 c.loop-i.chains) all c.loop-i.invariant
