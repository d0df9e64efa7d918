use Rattle.std.proofs.Common.{List, Option, get_or, sym, ap, ◌∙◌, Bor}
use Rattle.std.specs.Prelude.{slice_get, flat_map}
use Rattle.std.specs.Option.{option_copied}
use Rattle.std.specs.FinMap.{get}
use Rattle.std.proofs.Math.ListN.{get_or-map}
use Rattle.rules.specs.declared.row.Row.{Row}
use Rattle.rules.specs.State.{StateKey}
use Rattle.rules.specs.Candidate.{Candidate}
use Rattle.rules.specs.Job.{Job}
use Rattle.candidates.specs.Written.{keys_in_order}
use Rattle.key_chains.specs.Job.{written_by}
use Rattle.key_chains.proofs.LookUps.{at_key}
use Rattle.key_chains.proofs.job.Job.row_of.Goals as goal

pub returns : goal.returns
returns c k here =
    let number = c.args.number in
    let found = c.index.result.now in
    let same_keys = c.self.invariant.1.keys ∙ ap (λ (cs : List Candidate). keys_in_order (flat_map written_by cs)) (ap (λ (j : Job). j.candidates) c.self.view_is) in
    ap (λ (row : Option (Bor Row)). option_copied row) c.index.ensures
    ∙ sym (get_or-map option_copied c.self.inside.rows.written.rows.items number found)
    ∙ ap (λ (rows : List (Option Row)). get_or rows number (option_copied found)) c.self.invariant.0.1
    ∙ at_key (get c.self.inside.state.now.state) c.self.inside.chains.keys number (option_copied found) k (ap (λ (keys : List StateKey). slice_get keys number) same_keys ∙ here)
    ∙ ap (λ (j : Job). get j.state k) c.self.view_is
