use Rattle.std.proofs.Common.{ap, ◌∙◌}
use Rattle.std.specs.Prelude.{◌%◌}
use Rattle.std.specs.Hash.FoldHasher.{write, finish}
use Rattle.history_index.specs.Hash.{key_hash}
use Rattle.history_index.proofs.hash.key_hash.Goals as goal

pub returns : goal.returns
unfolding key_hash
returns c =
    ap (λ n. n % 4294967296) (c.finish.ensures
    ∙ ap finish (c.write-2.ensures ∙ (λ i. write (c.write.ensures i) (c.as_slice-2.ensures.value i)) ∙ (λ i. write (write (c.default-hasher.ensures i) (c.as_slice.ensures.value i)) c.args.key.now)))
