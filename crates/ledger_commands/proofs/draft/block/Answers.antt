use Rattle.std.proofs.Common.{inr}
use Rattle.std.proofs.lemmas.Result.{IfErr-weaker}
use Rattle.std.specs.Str.{IsUtf8}
use Rattle.drafts.specs.Drafted.{IsDrafted}
use Rattle.command_files.proofs.Failing.{because}
use Rattle.ledger_commands.specs.Drafting.{IsDraftOf}
use Rattle.ledger_commands.proofs.Outcomes.{if_both}
use Rattle.ledger_commands.proofs.draft.block.Goals as goal

pub returns-clause-ok : goal.returns-clause-ok
returns-clause-ok g c =
    let channel = c.in_ok-configuration.configuration.channel in
    let keys = c.in_ok-configuration.configuration.keys in
    let words = c.args.words.now in
    let previous = c.in_ok-previous.previous in
    let script = c.in_ok-script.script in
    if_both (λ block. IsUtf8 script) (IsDrafted keys channel.name words.version previous script) (IsDraftOf (g.F.Files.holds c.args.files.now) words) c.drafted.result c.drafted.ensures.utf8 c.drafted.ensures.drafted (λ block utf8 drafted. record {
      channel = channel;
      keys = keys;
      configured = c.in_ok-configuration.ensures.ok;
      previous = previous;
      is_previous = c.in_ok-previous.ensures.previous;
      script = script;
      held = c.in_ok-script.ensures.ok;
      utf8 = utf8;
      drafted = drafted;
    })

pub returns-clause-err : goal.returns-clause-err
returns-clause-err g c =
    let channel = c.in_ok-configuration.configuration.channel in
    let keys = c.in_ok-configuration.configuration.keys in
    IfErr-weaker c.drafted.result _ _ (λ fault. because _ _ (λ what fails. inr (inr (inr (record {
      channel = channel;
      keys = keys;
      configured = c.in_ok-configuration.ensures.ok;
      previous = c.in_ok-previous.previous;
      is_previous = c.in_ok-previous.ensures.previous;
      script = c.in_ok-script.script;
      held = c.in_ok-script.ensures.ok;
      fails = fails;
    })))) fault) c.drafted.ensures.err
