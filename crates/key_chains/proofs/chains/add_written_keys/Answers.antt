use Rattle.std.proofs.Common.{List, ◌++◌, sym, ap, ◌∙◌}
use Rattle.std.proofs.lemmas.List.{append-nil}
use Rattle.rules.specs.State.{StateKey}
use Rattle.candidates.specs.declared.candidate.Candidate.{Candidate}
use Rattle.candidates.specs.Seen.{seen}
use Rattle.key_chains.specs.Job.{written_by}
use Rattle.key_chains.proofs.Flagged.{no_keys}
use Rattle.key_chains.proofs.chains.add_written_keys.Goals as goal

pub returns-in-Flagged : goal.returns-in-Flagged
returns-in-Flagged c =
    sym (append-nil c.args.keys.now.items) ∙ ap (λ (ks : List StateKey). c.args.keys.now.items ++ ks) (sym (ap (λ (x : Candidate). written_by (seen x)) c.in-Flagged.is ∙ no_keys))

pub returns-in-Updates : goal.returns-in-Updates
returns-in-Updates c =
    sym (append-nil c.args.keys.now.items) ∙ ap (λ (ks : List StateKey). c.args.keys.now.items ++ ks) (sym (ap (λ (x : Candidate). written_by (seen x)) c.in-Updates.is ∙ no_keys))
