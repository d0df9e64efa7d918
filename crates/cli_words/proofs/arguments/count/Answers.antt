use Rattle.std.proofs.Common.{rules, arith, ◌≡◌, ◌∙◌, refl, sym, ap, ap₂, subst, pos, Some, Option}
use Rattle.std.specs.Range.{range_inclusive_start, range_inclusive_end}
use Rattle.clap.specs.Values.{signed_between}
use Rattle.clap.specs.Words.{Rule, rule_of}
use Rattle.clap.specs.declared.builder.value_parser.ValueParser.{ValueParser}
use Rattle.clap.specs.declared.builder.value_parser.ValueParser.TheVariants as parser
use Rattle.std.specs.Int.{int_max, int_min}
use Rattle.cli_words.specs.Program.{option_rule}
use Rattle.cli_words.proofs.Parsers.{between}
use Rattle.cli_words.proofs.arguments.count.Goals as goal

pub returns-clause-rule : goal.returns-clause-rule
returns-clause-rule c =
    let given = c.value_parser-2.ensures.given in
    let start : range_inclusive_start c.new.result ≡ pos c.args.least = search rules in
    let last : range_inclusive_end c.new.result ≡ pos c.args.most = search rules in
    let made = rw c.value_parser.ensures at c.range.ensures in
    let is : c.range.result ≡ parser.Signed (pos c.args.least) (pos c.args.most) =
    made ∙ ap₂ (λ a b. signed_between (int_max (pos 0) a) (int_min (pos 65535) b)) start last ∙ between c.args.least c.args.most (omega arith) (omega arith) in
    let set : c.value_parser-2.result.value_parser ≡ Some (parser.Signed (pos c.args.least) (pos c.args.most)) = given.1 ∙ ap Some (given.2 ∙ is) in
    ap rule_of c.value_parser-2.ensures.others ∙ ap₂ (λ (r : Rule) (p : Option ValueParser). record r { parser = p }) c.option.ensures.rule set
