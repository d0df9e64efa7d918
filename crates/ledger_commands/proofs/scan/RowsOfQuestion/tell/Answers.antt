use Rattle.std.proofs.Common.{◌≡◌, ◌∷◌, ◌∙◌, ◌++◌, ◌-◌, ℕ, suc, Bool, true, cond, List, sym, ap, subst, arith}
use Rattle.std.specs.List.{filter}
use Rattle.std.specs.FinMap.{entries}
use Rattle.cli_lines.specs.RowLines.{row_line}
use Rattle.rules.specs.declared.row.Row.{Row}
use Rattle.rules.specs.Ranges.{is_within, rows_where}
use Rattle.rules.specs.State.{StateKey}
use Rattle.ledger_commands.specs.Asking.{rows_text}
use Rattle.ledger_commands.specs.Kept.{Adds}
use Rattle.ledger_commands.proofs.Adding.{line_added}
use Rattle.ledger_commands.proofs.Bounds.{narrowed}
use Rattle.ledger_commands.proofs.Scanned.{up_to, one}
use Rattle.ledger_commands.proofs.scan.RowsOfQuestion.tell.Goals as goal

pub loop-keyed-init : goal.loop-keyed-init
loop-keyed-init g c now left added =
    let self = c.args.self.now in
    let given : c.into_iter-keyed-iterator.result ≡ rows_where c.args.world.now.state self.namespace (is_within c.first.result c.last.result) =
    cc (c.into_iter-keyed-iterator.ensures.into_iter_gives, c.range-keyed-items.ensures, c.state.ensures, c.lend.ensures) in
    let all = ap (filter (λ (e : StateKey × Row). is_within self.bounds.start self.bounds.end e.0.1)) given
    ∙ narrowed 1024 self.namespace self.bounds.start self.bounds.end c.first.result c.last.result c.first.ensures c.last.ensures (entries c.args.world.now.state) in
    subst (λ (rows : List (StateKey × Row)). Adds (g.W.Write.contents c.args.out.now) c.args.kept.now.items now left (rows_text c.args.format (up_to self.limit rows))) all added

pub loop-keyed-preserved : goal.loop-keyed-preserved
loop-keyed-preserved g c now left added =
    let bounds = c.args.self.now.bounds in
    let format = c.args.format in
    let before = g.W.Write.contents c.loop-keyed.out in
    let row = c.in-Some.keyed.now in
    let rest = filter (λ (e : StateKey × Row). is_within bounds.start bounds.end e.0.1) c.next.new.self in
    let within : is_within bounds.start bounds.end row.0.1 ≡ true = cc (c.if-not-has.false, c.has.ensures, c.as_slice.ensures.value, c.key-key.ensures) in
    let taken : filter (λ (e : StateKey × Row). is_within bounds.start bounds.end e.0.1) c.loop-keyed.keyed-iterator ≡ row ∷ rest =
    ap (filter (λ (e : StateKey × Row). is_within bounds.start bounds.end e.0.1)) c.in-Some.ensures.steps ∙ ap (λ (b : Bool). cond b (row ∷ rest) rest) within in
    let some = c.if-left-eq0.false in
    let counted : suc (c.loop-keyed.left - 1) ≡ c.loop-keyed.left = omega (arith, some) in
    let longer = line_added before (g.W.Write.contents c.write_many.new.out) now c.loop-keyed.kept.items c.write_row.new.out.items c.write_many.new.kept.items left (row_line format row.0.1 row.1) (rows_text format (up_to (c.loop-keyed.left - 1) rest))
    (cc (c.in_ok-write_row.ensures, c.as_slice-in-loop-keyed.ensures.value, c.key-key.ensures, c.row.ensures)) c.in_ok-write_many.ensures added in
    let whole : rows_text format (up_to c.loop-keyed.left (filter (λ (e : StateKey × Row). is_within bounds.start bounds.end e.0.1) c.loop-keyed.keyed-iterator)) ≡ row_line format row.0.1 row.1 ++ rows_text format (up_to (c.loop-keyed.left - 1) rest) =
    ap (λ (rows : List (StateKey × Row)). rows_text format (up_to c.loop-keyed.left rows)) taken
    ∙ ap (λ (n : ℕ). rows_text format (up_to n (row ∷ rest))) (sym counted) ∙ one format (c.loop-keyed.left - 1) row rest in
    c.loop-keyed.invariant now left (subst (Adds before c.loop-keyed.kept.items now left) (sym whole) longer)
