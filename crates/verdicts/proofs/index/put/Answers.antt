use Rattle.verdicts.proofs.Putting.{asked, one_more}
use Rattle.verdicts.proofs.index.put.Goals as goal

pub returns : goal.returns
returns c = λ identity message signature.
    one_more c.args.accepted.now.keys c.insert.new.self.keys c.args.signed identity message signature (c.in_ok-insert.ensures.updates.0 (asked c.args.signed identity message signature))
