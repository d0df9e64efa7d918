use Rattle.std.proofs.Common.{◌≡◌, ◌++◌, ◌∷◌, [], take}
use Rattle.std.specs.List.{flat_map}
use Rattle.rules.specs.Flags.{number_of}
use Rattle.next_block.proofs.commit_hash.put_numbers.Given as goal

abbrev pub invariant-loop-flag : goal.invariant-loop-flag
invariant-loop-flag l = l.out.items ≡ l.fn.out.items ++ flat_map (λ f. number_of f ∷ []) (take l.flag-index l.flags)
