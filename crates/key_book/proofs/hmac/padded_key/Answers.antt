use Rattle.std.proofs.Common.{◌++◌, List, ℕ, ap, ◌∙◌, drop, replicate, length}
use Rattle.std.proofs.lemmas.List.{drop-replicate}
use Rattle.key_book.proofs.hmac.padded_key.Goals as goal

pub returns : goal.returns
returns c =
    let zeros = replicate 64 0 in
    let n = length c.args.key.now in
    ap (λ (front : List ℕ). front ++ drop n zeros) c.copy_from_slice.ensures.after ∙ ap (λ (rest : List ℕ). c.args.key.now ++ rest) (drop-replicate n 64 0)
