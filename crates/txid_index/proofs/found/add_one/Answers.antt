use Rattle.std.proofs.Common.{◌≡◌, true, Some, sym, ap, ◌∙◌}
use Rattle.std.specs.Str.{bytes_eq}
use Rattle.rules.specs.declared.delta.NewUse.{NewUse}
use Rattle.txid_index.specs.Found.{first_at}
use Rattle.txid_index.specs.Lists.{use_in}
use Rattle.txid_index.proofs.Finding.{not_false, there_with, with_first, with_none, with_other}
use Rattle.txid_index.proofs.found.add_one.Goals as goal

pub used-requires : goal.used-requires
used-requires c = c.requires.there c.id_hash-hash.result c.in-Some.first (sym (c.copied.ensures ∙ c.get.ensures.value) ∙ c.in-Some.is)

pub returns-in-None-clause-index : goal.returns-in-None-clause-index
returns-in-None-clause-index c uses index =
    with_first c.args.lists.now c.args.firsts.now.entries c.keep_first.new.firsts.entries c.args.place c.id_hash-hash.result c.keep_first.ensures.kept c.args.others.now.entries uses c.args.used.now index
    c.requires.here.1 c.id_hash-hash.ensures (sym (c.copied.ensures ∙ c.get.ensures.value) ∙ c.in-None.is)

pub returns-in-None-clause-there : goal.returns-in-None-clause-there
returns-in-None-clause-there c =
    there_with c.args.lists.now c.args.firsts.now.entries c.keep_first.new.firsts.entries c.args.place c.id_hash-hash.result c.keep_first.ensures.kept c.requires.there c.requires.here.0

pub returns-then-ne-clause-index : goal.returns-then-ne-clause-index
returns-then-ne-clause-index c uses index =
    let at : first_at c.args.firsts.now.entries c.id_hash-hash.result ≡ Some c.in-Some.first = sym (c.copied.ensures ∙ c.get.ensures.value) ∙ c.in-Some.is in
    with_other c.args.lists.now c.args.firsts.now.entries c.args.others.now.entries uses c.args.used.now c.in-Some.first index
    (ap (first_at c.args.firsts.now.entries) (sym c.id_hash-hash.ensures) ∙ at) c.keep_other.new.others.entries c.keep_other.ensures.kept

pub returns-else-ne-clause-index : goal.returns-else-ne-clause-index
returns-else-ne-clause-index c uses index =
    let at : first_at c.args.firsts.now.entries c.id_hash-hash.result ≡ Some c.in-Some.first = sym (c.copied.ensures ∙ c.get.ensures.value) ∙ c.in-Some.is in
    let same : bytes_eq (use_in c.args.lists.now c.in-Some.first).id c.args.used.now.id ≡ true =
    ap (λ (x : NewUse). bytes_eq x.id c.args.used.now.id) (sym c.used.ensures) ∙ not_false (bytes_eq c.used.result.now.id c.args.used.now.id) (sym c.ne.ensures ∙ c.if-ne.false) in
    with_none c.args.lists.now c.args.firsts.now.entries c.args.others.now.entries uses c.args.used.now c.in-Some.first index
    (ap (first_at c.args.firsts.now.entries) (sym c.id_hash-hash.ensures) ∙ at) same
