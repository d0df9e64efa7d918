-- What is written of an answer: the lines that were kept and its end, or a fault.
use Rattle.std.proofs.Common.{◌≡◌, ◌++◌, ◌∙◌, ◌⊎◌, inl, inr, ℕ, List, [], Option, Some, None, Result, Ok, Err, true≢false, sym, ap, append_assoc}
use Rattle.std.proofs.lemmas.List.{append-nil}
use Rattle.std.specs.Prelude.{IfErr, IfOk, IfSome, IsSome, MatchResult, OnOk}
use Rattle.std.specs.Io.KnownBytes.{Appends, Keeps}
use Rattle.ledger_commands.specs.Kept.{Adds}
use Rattle.ledger_commands.specs.Querying.{IfTold}
use Rattle.cli_words.specs.declared.line.Query.{Query}
use Rattle.cli_words.specs.declared.line.Query.TheVariants as asks

-- text that was added where nothing was kept, and what of it was kept written after it, and more
pub added_whole : (a b c : Option (List ℕ)) (first kept text more : List ℕ) → first ≡ [] → Adds a first b kept text → Appends b c (kept ++ more) → Appends a c (text ++ more)
added_whole None b c first kept text more none added written = tt
added_whole (Some x) None c first kept text more none added written = absurd added
added_whole (Some x) (Some y) None first kept text more none added written = absurd written
added_whole (Some x) (Some y) (Some z) first kept text more none added written =
    written ∙ (sym (append_assoc y kept more) ∙ (ap (λ l. l ++ more) (added ∙ ap (λ l. l ++ text) (ap (λ l. x ++ l) none ∙ append-nil x)) ∙ append_assoc x text more))

-- what is written behind what stays
pub still_appended : (a b c : Option (List ℕ)) (text : List ℕ) → Keeps a b → Appends b c text → Appends a c text
still_appended None b c text kept written = tt
still_appended (Some x) None c text kept written = absurd kept
still_appended (Some x) (Some y) None text kept written = absurd written
still_appended (Some x) (Some y) (Some z) text kept written = written ∙ ap (λ l. l ++ text) kept

-- two texts, one after the other
pub two_written : (a b c d : Option (List ℕ)) (first second : List ℕ) → Appends a b first → Appends b c second → Keeps c d → Appends a d (first ++ second)
two_written None b c d first second one other kept = tt
two_written (Some x) None c d first second one other kept = absurd one
two_written (Some x) (Some y) None d first second one other kept = absurd other
two_written (Some x) (Some y) (Some z) None first second one other kept = absurd kept
two_written (Some x) (Some y) (Some z) (Some u) first second one other kept =
    kept ∙ (other ∙ (ap (λ l. l ++ second) one ∙ append_assoc x first second))

module _ {Fault AtFault : Type 0} (at_fault : Fault → Option AtFault) (Told : List ℕ → Type 0) (Has : ℕ → Type 0) (fault_text : List ℕ → List ℕ) (end_text : ℕ → List ℕ) where
  abbrev Faulty : Option (List ℕ) → Option (List ℕ) → Type 0
  Faulty before now = (text : List ℕ) × (status : ℕ) × Appends before now (fault_text text ++ end_text status)

  abbrev Answered : Option (List ℕ) → Option (List ℕ) → Type 0
  Answered before now = (text : List ℕ) × Told text × ((status : ℕ) × Has status × Appends before now (text ++ end_text status))

  abbrev Ended : Result ℕ Fault → List ℕ → Option (List ℕ) → Option (List ℕ) → Type 0
  Ended ended kept before now = MatchResult ended (λ status. Appends before now (kept ++ end_text status)) (λ fault. IsSome (at_fault fault) × Faulty before now)

  pub there : (o : Option AtFault) (P : Type 0) → IsSome o → IfSome o (λ what. P) → P
  there None P some h = absurd (true≢false (sym some))
  there (Some what) P some h = h

  pub answered : (before mid now : Option (List ℕ)) (ended : Result ℕ Fault) (first kept : List ℕ) → first ≡ []
      → OnOk ended ((text : List ℕ) × Told text × Adds before first mid kept text) → IfOk ended Has → IfErr ended (λ fault. IfSome (at_fault fault) (λ what. Keeps before mid))
      → Ended ended kept mid now → Answered before now ⊎ Faulty before now
  answered before mid now (Ok status) first kept none told has err written =
      inl (told.0, told.1, (status, has, added_whole before mid now first kept told.0 (end_text status) none told.2 written))
  answered before mid now (Err fault) first kept none told has err written =
      let same : Keeps before mid = there (at_fault fault) (Keeps before mid) written.0 err in
      inr (written.1.0, written.1.1, still_appended before mid now (fault_text written.1.0 ++ end_text written.1.1) same written.1.2)

  -- of a query of which something is said
  pub told_for : (query : Query) (before mid now : Option (List ℕ)) (ended : Result ℕ Fault) (first kept : List ℕ) → first ≡ []
      → OnOk ended (IfTold query ((text : List ℕ) × Told text × Adds before first mid kept text)) → IfOk ended Has → IfErr ended (λ fault. IfSome (at_fault fault) (λ what. Keeps before mid))
      → Ended ended kept mid now → IfTold query (Answered before now) ⊎ Faulty before now
  told_for (asks.Explain words) before mid now ended first kept none told has err written = inl tt
  told_for (asks.Conflicts words) before mid now ended first kept none told has err written = inl tt
  told_for asks.Height before mid now ended first kept none told has err written = answered before mid now ended first kept none told has err written
  told_for (asks.Get words) before mid now ended first kept none told has err written = answered before mid now ended first kept none told has err written
  told_for (asks.Scan words) before mid now ended first kept none told has err written = answered before mid now ended first kept none told has err written
  told_for (asks.History words) before mid now ended first kept none told has err written = answered before mid now ended first kept none told has err written
  told_for (asks.Definition chaincode) before mid now ended first kept none told has err written = answered before mid now ended first kept none told has err written

pub if_told : (query : Query) {P Q : Type 0} → (P → Q) → IfTold query P → IfTold query Q
if_told (asks.Explain words) f told = tt
if_told (asks.Conflicts words) f told = tt
if_told asks.Height f told = f told
if_told (asks.Get words) f told = f told
if_told (asks.Scan words) f told = f told
if_told (asks.History words) f told = f told
if_told (asks.Definition chaincode) f told = f told
