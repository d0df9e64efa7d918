use Rattle.std.proofs.Common.{◌≡◌, ℕ, List, OnOk, subst}
use Rattle.std.specs.Io.KnownBytes.{Appends}
use Rattle.conflicts.specs.KeyCounts.{total_of}
use Rattle.cli_lines.specs.ConflictLines.{key_members}
use Rattle.cli_lines.proofs.conflict_lines.write_key_object.Goals as goal

pub returns : goal.returns
returns g c =
    let line = c.args.line.now in
    let namespace : c.as_slice-namespace.result.now ≡ line.0.0 = cc in
    let key : c.as_slice-key.result.now ≡ line.0.1 = cc in
    let counts : c.counts-counts.result.now ≡ line.1 = cc in
    let total : c.total.result ≡ total_of c.counts-counts.result.now = c.total.ensures in
    let Writes : List ℕ → Type 0 = λ text. OnOk c.write_key_members.result (Appends (g.W.Write.contents c.args.out.now) (g.W.Write.contents c.write_key_members.new.out) text) in
    subst (λ n. Writes (key_members line.0.0 line.0.1 (total_of n) n)) counts
    (subst (λ t. Writes (key_members line.0.0 line.0.1 t c.counts-counts.result.now)) total
    (subst (λ k. Writes (key_members line.0.0 k c.total.result c.counts-counts.result.now)) key
    (subst (λ n. Writes (key_members n c.as_slice-key.result.now c.total.result c.counts-counts.result.now)) namespace c.write_key_members.ensures)))
