use Rattle.std.proofs.Common.{◌≡◌, ◌∙◌, ◌∷◌, refl, sym, subst}
use Rattle.std.specs.Prelude.{codes, IfOk, IfSome}
use Rattle.cli_words.specs.Words.{Asks}
use Rattle.cli_words.proofs.Rows.{same}
use Rattle.cli_words.proofs.command.Asked.of_subcommand.Goals as goal

pub returns-then-eq : goal.returns-then-eq
returns-then-eq c front words h =
    let is : c.args.name.now ≡ codes "get" = same c.args.name.now (codes "get") (sym c.eq.ensures ∙ c.if-eq.true) in
    subst (λ t. IfOk c.get.result (λ o. IfSome o (Asks (front ∷ t ∷ words)))) (sym is) (c.get.ensures front words (h.get is))

pub returns-then-eq-2 : goal.returns-then-eq-2
returns-then-eq-2 c front words h =
    let is : c.args.name.now ≡ codes "history" = same c.args.name.now (codes "history") (sym c.eq-2.ensures ∙ c.if-eq-2.true) in
    subst (λ t. IfOk c.history.result (λ o. IfSome o (Asks (front ∷ t ∷ words)))) (sym is) (c.history.ensures front words (h.history is))

pub returns-then-eq-3 : goal.returns-then-eq-3
returns-then-eq-3 c front words h =
    let is : c.args.name.now ≡ codes "definition" = same c.args.name.now (codes "definition") (sym c.eq-3.ensures ∙ c.if-eq-3.true) in
    subst (λ t. IfOk c.definition.result (λ o. IfSome o (Asks (front ∷ t ∷ words)))) (sym is) (c.definition.ensures front words (h.definition is))

pub returns : goal.returns
returns c front words h = c.of_other.ensures front c.args.name.now words
