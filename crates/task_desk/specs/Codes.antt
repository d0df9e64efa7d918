-- Statuses as numbers. No public contract cites this.
use Rattle.std.specs.Prelude.{ℕ, ◌-◌, ◌<◌, ◌==◌, if◌then◌else◌, ⊤}
use Rattle.task_desk.specs.declared.status.Status.{Status}
use Rattle.task_desk.specs.declared.status.Status.TheVariants.{Ready, Handed, Out, Parked, Done}

abbrev pub status_of : ℕ → Status
status_of code =
    if code == 0 then Ready else
    (if code == 1 then Handed else
    (if code == 2 then Out else
    (if code == 3 then Done else Parked (code - 4))))

-- it has a number of 16 bits
abbrev pub HasCode : Status → Type 0
HasCode (Parked h) = h < 8192
HasCode _ = ⊤
