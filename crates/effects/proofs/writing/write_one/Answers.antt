use Rattle.std.proofs.Common.{◌≡◌, ◌++◌, ◌<◌, List, Option, None, length, sym, ap, subst, ◌∙◌, arith}
use Rattle.std.specs.Prelude.{option_map, unwrap_or, slice_set}
use Rattle.std.specs.FinMap.{get}
use Rattle.std.specs.Option.{option_copied}
use Rattle.std.proofs.lemmas.Option.{slice_get_within}
use Rattle.std.proofs.lemmas.List.{get_or_read, length-map}
use Rattle.rules.specs.declared.row.Row.{Row}
use Rattle.rules.specs.State.{set_at}
use Rattle.rules.specs.Delta.{entries_in}
use Rattle.key_chains.specs.Job.{keys_of}
use Rattle.effects.specs.Rows.{ShowRows, AreRealRows, change_of_row, row_in, rows_in}
use Rattle.effects.specs.WrittenRow.{row_written, with_write}
use Rattle.effects.proofs.Kept.{set_in, row_at, keys_one_more}
use Rattle.effects.proofs.Places.{shows_one_more, change_stands, real_one_more}
use Rattle.effects.proofs.writing.write_one.Goals as goal

pub returns-clause-rows : goal.returns-clause-rows
returns-clause-rows c s shows =
    let k = c.args.written.now.key in
    let ws = c.args.all.now.rows.items in
    let row_kept = c.in_ok-effect.effect.row in
    let row : Option Row = option_map (λ p. p.1) row_kept in
    let before : option_copied c.row_of-before.result ≡ get c.args.job.now.state k = c.row_of-before.ensures k c.requires.place in
    let below : c.args.number < length ws = omega (arith, slice_get_within (keys_of c.args.job.now) c.args.number k c.requires.place, c.requires.count) in
    let read = get_or_read ws c.args.number c.index.result.now below c.index.ensures None in
    let is : row ≡ row_written c.args.writer.now.version c.args.written.now (get s k) =
    c.in_ok-effect.ensures.row
    ∙ ap (row_written c.args.writer.now.version c.args.written.now) (c.row_now-now.ensures ∙ ap (unwrap_or (row_in c.index.result.now)) before
    ∙ ap (λ x. unwrap_or (row_in x) (get c.args.job.now.state k)) read ∙ ap (λ x. unwrap_or x (get c.args.job.now.state k)) (sym (row_at ws c.args.number))
    ∙ shows c.args.number k c.requires.place) in
    let written : row_in c.change_of_row.result ≡ change_of_row (get c.args.job.now.state k) row = c.change_of_row.ensures.row ∙ ap (λ b. change_of_row b row) before in
    subst (λ (rs : List (Option (Option Row))). ShowRows c.args.job.now rs (with_write c.args.writer.now.version s c.args.written.now)) (sym (set_in ws c.args.number c.change_of_row.result))
    (subst (λ (r : Option Row). ShowRows c.args.job.now (slice_set (rows_in ws) c.args.number (row_in c.change_of_row.result)) (set_at s k r)) is
    (shows_one_more c.args.job.now (rows_in ws) s c.args.number k row (row_in c.change_of_row.result) (ap (λ x. unwrap_or x (get c.args.job.now.state k)) written ∙ change_stands (get c.args.job.now.state k) row)
    c.requires.rising c.requires.place (omega (arith, below, length-map ws row_in)) shows))

pub returns-clause-real : goal.returns-clause-real
returns-clause-real c real =
    let k = c.args.written.now.key in
    let ws = c.args.all.now.rows.items in
    let row : Option Row = option_map (λ p. p.1) c.in_ok-effect.effect.row in
    let before : option_copied c.row_of-before.result ≡ get c.args.job.now.state k = c.row_of-before.ensures k c.requires.place in
    let below : c.args.number < length ws = omega (arith, slice_get_within (keys_of c.args.job.now) c.args.number k c.requires.place, c.requires.count) in
    let written : row_in c.change_of_row.result ≡ change_of_row (get c.args.job.now.state k) row = c.change_of_row.ensures.row ∙ ap (λ b. change_of_row b row) before in
    subst (λ (rs : List (Option (Option Row))). AreRealRows c.args.job.now rs) (sym (set_in ws c.args.number c.change_of_row.result))
    (subst (λ (w : Option (Option Row)). AreRealRows c.args.job.now (slice_set (rows_in ws) c.args.number w)) (sym written)
    (real_one_more c.args.job.now (rows_in ws) c.args.number k row c.requires.place (omega (arith, below, length-map ws row_in)) real))

pub returns-clause-keys : goal.returns-clause-keys
returns-clause-keys c keys =
    let k = c.args.written.now.key in
    keys_one_more (keys_of c.args.job.now) c.args.all.now.rows.items c.args.number k c.in_ok-effect.effect.row c.change_of_row.result c.requires.place
    (omega (arith, slice_get_within (keys_of c.args.job.now) c.args.number k c.requires.place, c.requires.count)) c.in_ok-effect.ensures.key c.change_of_row.ensures.kept keys

pub returns-clause-entries : goal.returns-clause-entries
returns-clause-entries c = c.in_ok-add_entry.ensures ∙ ap (λ l. entries_in c.args.all.now.entries.items ++ l) c.in_ok-effect.ensures.entry

pub row_of-before-requires : goal.row_of-before-requires
row_of-before-requires c = slice_get_within (keys_of c.args.job.now) c.args.number c.args.written.now.key c.requires.place
