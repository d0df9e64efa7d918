-- How many transactions have a flag.
use Rattle.std.specs.Prelude.{ℕ, ◌==◌, List}
use Rattle.std.specs.List.{count_by}
use Rattle.rules.specs.declared.flag.Flag.{Flag}
use Rattle.rules.specs.Flags.{number_of}
use Rattle.reasons.specs.declared.reason.Reason.{Reason}
use Rattle.reasons.specs.Reason.{flag_of}

-- of transactions with these reasons
abbrev pub with_flag : Flag → List Reason → ℕ
with_flag flag reasons = count_by (λ r. number_of (flag_of r) == number_of flag) reasons
