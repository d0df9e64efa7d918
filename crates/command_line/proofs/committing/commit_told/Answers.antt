use Rattle.std.proofs.Common.{rules}
use Rattle.commit.proofs.Telling.{RunsTelling-kept}
use Rattle.command_line.proofs.Telling.{are_handed_in, when_all}
use Rattle.command_line.proofs.committing.commit_told.Goals as goal

pub returns-then-all : goal.returns-then-all
returns-then-all g c =
    let run = c.in_ok-all.ensures.told in
    let f' = c.run_telling.new.tell in
    let same_told = RunsTelling-kept _ (λ p. p.0.ghost_name) (λ p a b q s. s.met.1.1.0) _ _ _ _ _ f' _ run in
    let same_out = RunsTelling-kept _ (λ p. p.1.ghost_name) (λ p a b q s. s.met.1.1.1) _ _ _ _ _ f' _ run in
    let handed = are_handed_in _ (λ p. p.0.now) (λ p. g.W.Write.contents p.1.now) (λ p a q s. search rules) _ _ _ _ _ f' c.requires.fits c.requires.done c.requires.last c.requires.status (when_all _ _ _ _ _ _ f' _ c.if-all.true run) in
    search rules
