use Rattle.std.proofs.Common.{rules, ◌≡◌, ◌∙◌, ap, map, refl}
use Rattle.std.specs.Prelude.{codes, unwrap_or}
use Rattle.std.proofs.lemmas.Result.{IfOk-weaker}
use Rattle.clap.specs.Words.{all_of, found_of, rows_of}
use Rattle.clap.proofs.WalkLemmas.{raw_values-rows}
use Rattle.cli_words.proofs.Getters.{all_given}
use Rattle.cli_words.proofs.paths.blocks_of.Goals as goal

pub returns : goal.returns
returns c =
    let read = all_given c.get_strs.result _ (all_of (codes "blocks") (rows_of (found_of c.args.matches.now))) refl
    (c.get_strs.ensures ∙ raw_values-rows (found_of c.args.matches.now) (codes "blocks")) in
    IfOk-weaker c.from_slice.result _ _ (λ v h. ap (map (λ s. s.now)) (h ∙ ap (λ s. s.now) c.unwrap_or-blocks.ensures) ∙ read) c.from_slice.ensures.items
