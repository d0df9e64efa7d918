use Rattle.std.proofs.Common.{refl}
use Rattle.std.proofs.lemmas.Result.{on_ok_weaker}
use Rattle.ledger_commands.proofs.Adding.{kept_too}
use Rattle.ledger_commands.proofs.definition.DefinitionOfQuestion.tell.Goals as goal

pub returns : goal.returns
returns g c = on_ok_weaker c.write.result (λ is. (_, refl, kept_too (g.W.Write.contents c.args._out.now) c.args.kept.now.items c.write.new.out.items _ is)) c.write.ensures
