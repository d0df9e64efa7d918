-- The commit hash of a block, by its parts. A step between the definition and the code: no public contract cites this.
use Rattle.std.specs.Prelude.{ℕ, List, [], ◌∷◌, ◌++◌, Option, slice_get}
use Rattle.byteorder.specs.Endian.{big_bytes}
use Rattle.header_hash.specs.Hashes.{commit_hash_of}
use Rattle.policy.specs.Tree.{Tree}
use Rattle.transaction.specs.Grammar.{listed, optional}
use Rattle.transaction.specs.declared.block_version.BlockVersion.{BlockVersion}
use Rattle.rules.specs.CommitBytes.{commit_hash_before, definition_bytes, version_number}
use Rattle.rules.specs.Flags.{number_of}
use Rattle.rules.specs.declared.flag.Flag.{Flag}

-- behind a block with this commit hash, or none; where these are the spelled rows that differ, and these the definitions
abbrev pub hash_by_parts : Option (List ℕ) → BlockVersion → ℕ → List Flag → List ℕ → List (List ℕ × Tree) → List ℕ
hash_by_parts last version number flags update definitions =
    commit_hash_of (commit_hash_before last)
    (version_number version ∷ (big_bytes 8 number ++ (listed 4 (λ f. number_of f ∷ []) flags ++ (update ++ optional definition_bytes (slice_get definitions 0)))))
