use Rattle.std.proofs.Common.{◌≡◌, subst, Option}
use Rattle.std.specs.Prelude.{codes, IfSome}
use Rattle.clap.specs.Words.{first_of, found_of, rows_of}
use Rattle.cli_words.specs.Items.{given}
use Rattle.cli_words.specs.Words.{IsLedger}
use Rattle.cli_words.proofs.Getters.{given_once}
use Rattle.cli_words.proofs.keyed.KeyedQuery.from_matches.Goals as goal

pub returns : goal.returns
returns c items h = record {
  ledger = subst (λ o. IfSome o (IsLedger items)) c.in-Some.is (c.in_ok-paths.ensures items h.of.ledger);
  namespace = given_once (given (codes "ns") items) (first_of (codes "ns") (rows_of (found_of c.args.matches.now))) c.in-Some-Some.namespace.now c.in-Some-Some.ensures h.of.namespace;
  key = given_once (given (codes "key") items) (first_of (codes "key") (rows_of (found_of c.args.matches.now))) c.in-Some-Some.key.now c.in-Some-Some.ensures' h.key;
}
