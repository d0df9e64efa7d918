use Rattle.std.proofs.Common.{◌≡◌, ℕ, ◌-◌, List, length, ap, map, sym, ◌∙◌}
use Rattle.std.proofs.lemmas.List.{with_items_is}
use Rattle.task_desk.specs.Codes.{status_of}
use Rattle.task_desk.specs.Runs.{with_run}
use Rattle.task_desk.proofs.InRuns.{run-map, run-length}
use Rattle.task_desk.proofs.status_list.StatusList.set_run.Goals as goal

pub returns : goal.returns
returns c =
    let codes = c.self.inside.codes in
    let from = c.args.run.from in
    let count = c.args.run.end - from in
    let put : c.put_run.new.codes ≡ with_run c.code_of-code.result codes.items from count =
    c.put_run.ensures ∙ ap (λ (xs : List ℕ). with_run c.code_of-code.result xs from count) c.as_mut_slice.ensures.value in
    let long : length c.put_run.new.codes ≡ codes.len = ap (λ (xs : List ℕ). length xs) put ∙ run-length c.code_of-code.result codes.items from count ∙ sym codes.ok.0 in
    ap (map status_of) (with_items_is codes c.put_run.new.codes long ∙ put)
    ∙ run-map status_of c.code_of-code.result codes.items from count
    ∙ (λ k. with_run (c.code_of-code.ensures k) (c.self.view_is k) from count)
