use Rattle.std.proofs.Common.{ℕ, ◌≤◌, List, length, sym, ◌∙◌, ap, subst}
use Rattle.std.specs.List.{AllByRecursion}
use Rattle.transaction.specs.declared.block_version.BlockVersion.TheVariants.{V2}
use Rattle.block.specs.Grammar.{IsTx}
use Rattle.scripts.specs.declared.script.Item.{Item}
use Rattle.scripts.specs.declared.script.Script.{Script}
use Rattle.scripts.specs.Within.{IsItem}
use Rattle.drafts.specs.Drafted.{MakesAll}
use Rattle.drafts.proofs.Items.{txs_short, all_made_in}
use Rattle.drafts.proofs.drafting.draft_txs.Goals as goal

pub returns-clause-made : goal.returns-clause-made
returns-clause-made c =
    let version = c.args.version in
    let keys = c.args.keys.now in
    let channel = c.args.channel.now in
    let script = c.in_ok-script.script in
    let said = c.in_ok-script.ensures.said in
    let made = subst (λ (items : List Item). MakesAll V2 keys channel items c.in_ok-txs.txs.items) c.as_slice.ensures c.in_ok-txs.ensures.makes in
    let all = all_made_in version keys channel script.items c.in_ok-txs.txs.items c.in_ok-script.ensures.within.each made in
    record {
      whole = sym (ap (λ (s : Script). s.fault) said) ∙ c.in-None.is;
      makes =
          subst (λ (s : Script). MakesAll version keys channel s.items c.from_vec.result) said
          (subst (λ (txs : List (List ℕ)). MakesAll version keys channel script.items txs) (sym c.from_vec.ensures) all);
    }

pub returns-clause-count : goal.returns-clause-count
returns-clause-count c =
    let within = subst (λ (items : List Item). AllByRecursion (IsItem c.args.version c.args.keys.now) items) (sym c.as_slice.ensures) c.in_ok-script.ensures.within.each in
    let short = txs_short c.args.version c.args.keys.now c.args.channel.now c.as_slice.result.now c.in_ok-txs.txs.items within c.in_ok-txs.ensures.ok in
    let as_many = ap length c.from_vec.ensures ∙ short.0 ∙ ap length c.as_slice.ensures in
    subst (λ (n : ℕ). n ≤ 4096) (sym as_many) c.in_ok-script.ensures.within.count

pub returns-clause-each : goal.returns-clause-each
returns-clause-each c =
    let within = subst (λ (items : List Item). AllByRecursion (IsItem c.args.version c.args.keys.now) items) (sym c.as_slice.ensures) c.in_ok-script.ensures.within.each in
    let short = txs_short c.args.version c.args.keys.now c.args.channel.now c.as_slice.result.now c.in_ok-txs.txs.items within c.in_ok-txs.ensures.ok in
    subst (λ (txs : List (List ℕ)). AllByRecursion IsTx txs) (sym c.from_vec.ensures) short.1
