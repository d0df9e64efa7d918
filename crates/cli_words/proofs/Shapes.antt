-- A command with more arguments.
use Rattle.std.proofs.Common.{◌≡◌, ◌∙◌, refl, sym, ap, List, [], ◌∷◌, ◌++◌, map, append-nil, append_assoc}
use Rattle.std.specs.Prelude.{fold}
use Rattle.clap.specs.Words.{App}
use Rattle.cli_words.specs.declared.arguments.Argument.{Argument}
use Rattle.cli_words.specs.Rules.{added_to, rule_for}

pub argument_rules : (a : App) (xs : List Argument) → fold added_to a xs ≡ record a { top = record a.top { rules = a.top.rules ++ map rule_for xs } }
argument_rules a [] = ap (λ rules. record a { top = record a.top { rules = rules } }) (sym (append-nil a.top.rules))
argument_rules a (x ∷ xs) =
    argument_rules (added_to a x) xs
    ∙ ap (λ rules. record a { top = record a.top { rules = rules } }) (append_assoc a.top.rules (rule_for x ∷ []) (map rule_for xs))
