use Rattle.std.proofs.Common.{rules}
use Rattle.commit.specs.Running.{RunsTo}
use Rattle.commit.proofs.Collected.{all_collected}
use Rattle.commit.proofs.Telling.{RunsTelling-kept}
use Rattle.commit.proofs.collecting.collect_all.Goals as goal

pub returns-clause-runs : goal.returns-clause-runs
returns-clause-runs g c =
    let told = c.run_all.ensures.told in
    let f' = c.run_all.new.tell in
    let same = RunsTelling-kept _ (λ p. p.0.ghost_name) (λ p a b q s. s.met.1.1) _ _ _ _ _ f' _ told in
    let all = all_collected _ (λ p. p.0.now) (λ p a b q s. search rules) _ _ _ _ _ f' _ c.requires.none c.requires.len c.requires.room told in
    let runs : RunsTo c.args.context.now.channel.now (g.V.Verify.accepts c.args.context.now.verifier.now) c.args.published.now c.args.blocks.now f'.0.now.items c.run_all.new.published = all in
    search rules
