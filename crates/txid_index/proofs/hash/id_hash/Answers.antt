use Rattle.std.proofs.Common.{ap, ◌∙◌}
use Rattle.std.specs.Prelude.{◌%◌}
use Rattle.std.specs.Hash.FoldHasher.{write, finish}
use Rattle.txid_index.specs.Hash.{id_hash}
use Rattle.txid_index.proofs.hash.id_hash.Goals as goal

pub returns : goal.returns
unfolding id_hash
returns c = ap (λ n. n % 4294967296) (c.finish.ensures ∙ ap finish (c.write.ensures ∙ (λ i. write (c.default-hasher.ensures i) c.args.id.now)))
