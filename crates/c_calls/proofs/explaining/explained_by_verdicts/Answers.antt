use Rattle.std.proofs.Common.{ℕ, List, MatchResult, subst}
use Rattle.rules.specs.Linked.{IsRefused}
use Rattle.verdicts.specs.declared.verdict.Verdict.{Verdict}
use Rattle.verdicts.specs.Said.{accepted_by}
use Rattle.ledger.specs.Contents.{Contents}
use Rattle.reason_lists.specs.Explained.{AreNextListed}
use Rattle.c_calls.proofs.explaining.explained_by_verdicts.Goals as goal

-- the table is of these verdicts and their pool, and the ledger is the handle's
pub returns : goal.returns
returns c =
    let explained : Contents → List ℕ → List Verdict → Type 0 = λ l pool verdicts. MatchResult c.explained.result (AreNextListed l.channel (accepted_by pool verdicts) l.world c.args.block.now) (IsRefused l.world c.args.block.now) in
    subst (λ (l : Contents). explained l c.args.pool.now c.args.verdicts.now) c.get.ensures
    (subst (λ (verdicts : List Verdict). explained c.get.result.now c.args.pool.now verdicts) c.in_ok-table.ensures.verdicts
    (subst (λ (pool : List ℕ). explained c.get.result.now pool c.in_ok-table.table.verdicts.now) c.in_ok-table.ensures.pool c.explained.ensures))
