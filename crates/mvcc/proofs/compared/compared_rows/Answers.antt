use Rattle.std.proofs.Common.{ℕ, List, ◌∷◌, [], ◌++◌, map, sym, ap, subst, ◌∙◌}
use Rattle.std.specs.List.{list_any}
use Rattle.rules.specs.declared.row.Row.{Row}
use Rattle.rules.specs.State.{StateKey}
use Rattle.rules.specs.Ranges.{is_compared}
use Rattle.mvcc.proofs.RowsStop.{still_stop}
use Rattle.mvcc.proofs.ComparedKeys.{AreTaken, next_taken, all_taken, rest_uncompared}
use Rattle.mvcc.proofs.compared.compared_rows.Goals as goal

abbrev keys_of : List (StateKey × Row) → List (List ℕ)
keys_of es = map (λ e. e.0.1) es

pub returns-then-not-is_compared : goal.returns-then-not-is_compared
returns-then-not-is_compared c =
    all_taken c.args.range.now (keys_of c.args.rows) c.loop-row.keys.items (keys_of c.loop-row.row-iterator)
    (rest_uncompared c.args.range.now (keys_of c.loop-row.row-iterator) (keys_of c.next.new.self) c.in-Some.row.now.0.1 (ap keys_of c.in-Some.ensures.steps) c.loop-row.invariant.stop
    (ap (is_compared c.args.range.now) (sym c.key-key.ensures) ∙ sym c.is_compared.ensures ∙ c.if-not-is_compared.true))
    c.loop-row.invariant.taken

pub loop-row-preserved : goal.loop-row-preserved
loop-row-preserved c =
    let first = ap keys_of c.in-Some.ensures.steps in
    record {
      stop = still_stop c.args.range.now (keys_of c.loop-row.row-iterator) (keys_of c.next.new.self) c.in-Some.row.now.0.1 first c.loop-row.invariant.stop;
      taken = subst (λ (keys : List (List ℕ)). AreTaken c.args.range.now (keys_of c.args.rows) keys (keys_of c.next.new.self)) (sym (c.in_ok-push.ensures.items ∙ ap (λ (k : List ℕ). c.loop-row.keys.items ++ k ∷ []) c.key-key.ensures))
          (next_taken c.args.range.now (keys_of c.args.rows) c.loop-row.keys.items (keys_of c.loop-row.row-iterator) (keys_of c.next.new.self) c.in-Some.row.now.0.1 first c.loop-row.invariant.taken);
    }

pub returns : goal.returns
returns c =
    all_taken c.args.range.now (keys_of c.args.rows) c.loop-row.keys.items (keys_of c.loop-row.row-iterator)
    (ap (λ (es : List (StateKey × Row)). list_any (is_compared c.args.range.now) (keys_of es)) c.in-None.ensures.steps.0)
    c.loop-row.invariant.taken
