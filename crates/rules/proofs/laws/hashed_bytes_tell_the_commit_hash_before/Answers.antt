use Rattle.std.proofs.Common.{sym, ◌∙◌}
use Rattle.rules.specs.CommitBytes.{commit_bytes}
use Rattle.rules.proofs.CommitBytes.{commits_told, same_front}
use Rattle.rules.proofs.laws.hashed_bytes_tell_the_commit_hash_before.Goals as goal

pub returns : goal.returns
returns c = λ p q a b first second room also same.
    let parts = same_front p q (commit_bytes a) (commit_bytes b) (first ∙ sym second) same in
    let told = commits_told a b room also parts.1 in
    (parts.0, told.0, told.1, told.2, told.3, told.4)
