use Rattle.std.proofs.Common.{◌≡◌, ◌++◌, drop}
use Rattle.std.specs.Prelude.{map}
use Rattle.std.specs.List.{AllByRecursion}
use Rattle.transaction.specs.Grammar.{IsIdentity}
use Rattle.drafts.specs.DraftItem.{endorsement_by}
use Rattle.drafts.proofs.signing.endorse_all.Given as goal

abbrev pub invariant-loop-endorser : goal.invariant-loop-endorser
invariant-loop-endorser l = record {
  body : l.message.items ≡ l.fn.body.items;
  all : l.all.items ++ map (endorsement_by l.keys l.fn.body.items) (drop l.endorser-index l.endorsers) ≡ map (endorsement_by l.keys l.fn.body.items) l.endorsers;
  left : AllByRecursion IsIdentity (drop l.endorser-index l.endorsers);
}
