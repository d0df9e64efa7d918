-- From what was told, what is printed by the definitions.
use Rattle.std.proofs.Common.{◌≡◌, ◌++◌, ◌∷◌, ◌≤◌, ◌∙◌, ℕ, suc, max, List, [], Option, Some, None, option_map, option_and_then, Result, Ok, Err, IsSome, map, length, refl, sym, ap, subst, arith}
use Rattle.std.specs.List.{AllByRecursion}
use Rattle.std.specs.Io.KnownBytes.{Appends}
use Rattle.channel.specs.Configuration.{Configuration}
use Rattle.key_book.specs.Book.{accepts}
use Rattle.key_book.specs.Entry.{Entry}
use Rattle.policy_eval.specs.Accepts.{Accepts}
use Rattle.rules.specs.declared.delta.Delta.{Delta}
use Rattle.rules.specs.Chain.{Chain}
use Rattle.rules.specs.World.{empty_world, height_of}
use Rattle.query.specs.declared.receipt.Receipt.{Receipt}
use Rattle.query.specs.Published.{applied_all}
use Rattle.commit.specs.declared.not_committed.NotCommitted.{NotCommitted}
use Rattle.commit.specs.declared.not_committed.NotCommitted.TheVariants.{Refused, MemoryInCommit, Stopped}
use Rattle.commit.specs.Committing.{Committing, Runs, answer_in, world_of}
use Rattle.commit.proofs.Chains.{run_is_chain}
use Rattle.cli_lines.proofs.Written.{then_whole}
use Rattle.cli_lines.specs.declared.refusal.Refusal.{Refusal}
use Rattle.cli_lines.specs.BlockLines.{refusal_of}
use Rattle.ledger_commands.specs.Asking.{AreTold, status_for, submissions}
use Rattle.command_line.specs.declared.lines.Style.{Style}
use Rattle.command_line.specs.Handing.{IsAllTold, known_list, last_receipt, worst_of}
use Rattle.command_line.specs.Lines.{answer_lines, lines_behind}
use Rattle.command_line.specs.Printed.{IsPrintedFor, block_lines, lines_for, reader_lines}
use Rattle.command_line.proofs.Heights.{height_behind}

abbrev Answer : Type 0
Answer = Result Receipt NotCommitted

lines-for : (style : Style) (place : ℕ) (answer : Answer) → answer_lines style place answer ≡ lines_for style place (answer_in answer)
lines-for style place (Ok r) = refl
lines-for style place (Err (Refused refused)) = refl
lines-for style place (Err MemoryInCommit) = refl
lines-for style place (Err Stopped) = refl

all-lines : (style : Style) (before : ℕ) (answers : List Answer) → lines_behind style before answers ≡ block_lines style before (map answer_in answers)
all-lines style before [] = refl
all-lines style before (answer ∷ answers) =
    ap (λ l. l ++ lines_behind style (suc before) answers) (lines-for style (suc before) answer)
    ∙ ap (λ l. lines_for style (suc before) (answer_in answer) ++ l) (all-lines style (suc before) answers)

-- ---- the status

told-by : (so_far : ℕ) (why : Option Refusal) (answers : List Answer) (end : ℕ)
    → option_and_then (λ status. worst_of (max so_far status) answers) (option_map (λ refusal. 1) why) ≡ Some end → IsSome why × (worst_of (max so_far 1) answers ≡ Some end)
told-by so_far None answers end h = absurd cc
told-by so_far (Some why) answers end h = (refl, h)

-- after a refused block
stays : (answers : List Answer) (end : ℕ) → worst_of 1 answers ≡ Some end → (end ≡ 1) × AreTold (map answer_in answers)
stays [] end h = (cc, tt)
stays (Ok r ∷ answers) end h = stays answers end h
stays (Err (Refused refused) ∷ answers) end h =
    let one = told-by 1 (refusal_of refused) answers end h in
    let rest = stays answers end one.1 in (rest.0, (one.0, rest.1))
stays (Err MemoryInCommit ∷ answers) end h = absurd cc
stays (Err Stopped ∷ answers) end h = absurd cc

ends : (answers : List Answer) (end : ℕ) → worst_of 0 answers ≡ Some end → (end ≡ status_for (map answer_in answers)) × AreTold (map answer_in answers)
ends [] end h = (cc, tt)
ends (Ok r ∷ answers) end h = ends answers end h
ends (Err (Refused refused) ∷ answers) end h =
    let one = told-by 0 (refusal_of refused) answers end h in
    let rest = stays answers end one.1 in (rest.0, (one.0, rest.1))
ends (Err MemoryInCommit ∷ answers) end h = absurd cc
ends (Err Stopped ∷ answers) end h = absurd cc

-- ---- the last receipt knows all that was published

module _ (accepts : Accepts) where
  known : (old new : Committing) (blocks : List (List ℕ)) (answers : List Answer) (before : Option Receipt)
      → Runs accepts old blocks answers new → known_list before ≡ old.list → known_list (last_receipt before answers) ≡ new.list
  known old new [] [] before runs same = same ∙ sym (ap (λ (c : Committing). c.list) runs)
  known old new [] (answer ∷ answers) before runs same = absurd runs
  known old new (bytes ∷ blocks) [] before runs same = absurd runs
  known old new (bytes ∷ blocks) (Ok r ∷ answers) before runs same = known runs.0 new blocks answers (Some r) runs.2 (ap (λ b. b.list) runs.1.told)
  known old new (bytes ∷ blocks) (Err (Refused refused) ∷ answers) before runs same = known runs.0 new blocks answers before runs.2 (same ∙ sym (ap (λ (c : Committing). c.list) runs.1.2))
  known old new (bytes ∷ blocks) (Err MemoryInCommit ∷ answers) before runs same = known runs.0 new blocks answers before runs.2 (same ∙ sym (ap (λ (c : Committing). c.list) runs.1.2))
  known old new (bytes ∷ blocks) (Err Stopped ∷ answers) before runs same = known runs.0 new blocks answers before runs.2 (same ∙ sym (ap (λ (c : Committing). c.list) runs.1.1))

-- ---- all

pub record IsPrintedBehind (style : Style) (readers : ℕ) (channel : Configuration) (keys : List Entry) (blocks : List (List ℕ)) (before : Option (List ℕ)) (status : ℕ) (now : Option (List ℕ)) : Type 0 where
  pub text : List ℕ
  pub printed_for : IsPrintedFor style readers channel keys blocks text status
  pub written : Appends before now text

pub is_printed : (channel : Configuration) (keys : List Entry) (style : Style) (readers : ℕ) (old new : Committing) (before now : Option (List ℕ)) (blocks : List (List ℕ)) (status : ℕ)
    → old.channel ≡ channel → old.list ≡ [] → IsAllTold (accepts keys) style readers old before blocks status new now → IsPrintedBehind style readers channel keys blocks before status now
is_printed channel keys style readers old new before now blocks status at_channel empty all =
    let told = all.handed.answers in
    let answers = map answer_in told in
    let strings = submissions (accepts keys) blocks in
    let ended = ends told all.committed.status all.handed.is_status in
    let list : known_list all.committed.last ≡ new.list = ap known_list all.handed.is_last ∙ known (accepts keys) old new blocks told None all.handed.runs (sym empty) in
    let counted = height_behind (empty_world new.channel.definitions) new.list in
    let lengths : length (known_list all.committed.last) ≡ length new.list = ap length list in
    let height : length (known_list all.committed.last) ≡ height_of (world_of new) = omega (arith, counted, lengths) in
    record {
      text = block_lines style 0 answers ++ reader_lines style.format 0 all.read.heights;
      printed_for = record {
        answers = answers;
        world = world_of new;
        chain = subst (λ (c : Configuration). Chain c (empty_world c.definitions) strings answers (world_of new)) at_channel
            (subst (λ (ds : List Delta). Chain old.channel (applied_all (empty_world old.channel.definitions) ds) strings answers (world_of new)) empty
            (run_is_chain (accepts keys) old new blocks told all.handed.runs));
        told = ended.1;
        heights = all.read.heights;
        each = all.read.each;
        reached = subst (λ n. AllByRecursion (λ h. n ≤ h) all.read.heights) height all.read.reached;
        is_text = refl;
        is_status = all.is_status ∙ ended.0;
      };
      written = then_whole before all.between now (lines_behind style 0 told) (reader_lines style.format 0 all.read.heights) (block_lines style 0 answers ++ reader_lines style.format 0 all.read.heights)
          all.handed.printed all.read.printed (ap (λ l. l ++ reader_lines style.format 0 all.read.heights) (all-lines style 0 told));
    }
