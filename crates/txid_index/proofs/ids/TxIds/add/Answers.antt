use Rattle.std.proofs.Common.{◌≡◌, List, [], ◌∷◌, ◌++◌, length, get_or, sym, ap, subst, ◌∙◌, arith}
use Rattle.std.proofs.lemmas.Bool.{eqb-true}
use Rattle.std.proofs.lemmas.List.{nil_from_length}
use Rattle.rules.specs.declared.delta.NewUse.{NewUse}
use Rattle.rules.specs.Delta.{uses_in}
use Rattle.rules.specs.FirstUses.{with_uses}
use Rattle.rules.proofs.IdUses.{with_uses-none}
use Rattle.txid_index.specs.Ids.{Ids}
use Rattle.txid_index.specs.Found.{IsIndex}
use Rattle.txid_index.specs.Lists.{uses_of, AreThere}
use Rattle.txid_index.proofs.Adding.{there_more, index_more, last_is, is_last, uses_more}
use Rattle.txid_index.proofs.ids.TxIds.add.Goals as goal

pub returns-then-is_empty : goal.returns-then-is_empty
returns-then-is_empty c =
    let none : c.get.result.now ≡ [] = nil_from_length c.get.result.now (eqb-true (length c.get.result.now) 0 (sym c.is_empty.ensures ∙ c.if-is_empty.true)) in
    sym (with_uses-none c.args.self.now.uses) ∙ ap (λ (us : List NewUse). with_uses c.args.self.now.uses (uses_in us)) (sym none ∙ c.get.ensures)

pub add_all-requires-clause-there : goal.add_all-requires-clause-there
add_all-requires-clause-there c =
    subst (λ (lists : List (List NewUse)). AreThere lists c.self.inside.firsts.entries) (sym (c.as_slice.ensures.value ∙ c.push_reserved.ensures.items))
    (there_more c.self.inside.lists.items (c.args.uses ∷ []) c.self.inside.firsts.entries c.self.invariant.1)

pub add_all-requires-clause-list : goal.add_all-requires-clause-list
add_all-requires-clause-list c =
    let lists : c.as_slice.result.now ≡ c.self.inside.lists.items ++ c.args.uses ∷ [] = c.as_slice.ensures.value ∙ c.push_reserved.ensures.items in
    let read : c.as_slice-2.result.now ≡ c.index.result.now = c.as_slice-2.ensures ∙ c.get-2.ensures in
    is_last c.self.inside.lists.items c.as_slice.result.now c.args.uses c.as_slice-2.result.now c.len-list.result (omega (arith, c.len-list.ensures, c.self.inside.lists.ok.0)) lists
    (read ∙ c.index.ensures ∙ (λ i. get_or (sym c.as_slice.ensures.value i) c.len-list.result (sym read i)))

pub invariant_of-self : goal.invariant_of-self
invariant_of-self c =
    let items = c.push_reserved.ensures.items in
    let list : c.as_slice-2.result.now ≡ c.args.uses =
    c.as_slice-2.ensures ∙ c.get-2.ensures
    ∙ last_is c.self.inside.lists.items c.push_reserved.new.self.items c.args.uses c.index.result.now c.len-list.result (omega (arith, c.len-list.ensures, c.self.inside.lists.ok.0)) items c.index.ensures in
    let before = index_more c.self.inside.lists.items (c.args.uses ∷ []) c.self.inside.firsts.entries c.self.inside.others.entries (uses_of c.self.inside.lists.items) c.self.invariant.1 c.self.invariant.0 in
    let after = c.add_all.ensures.index (uses_of c.self.inside.lists.items)
    (subst (λ (ls : List (List NewUse)). IsIndex ls c.self.inside.firsts.entries c.self.inside.others.entries (uses_of c.self.inside.lists.items)) (sym (c.as_slice.ensures.value ∙ items)) before) in
    let uses : with_uses (uses_of c.self.inside.lists.items) (uses_in c.as_slice-2.result.now) ≡ uses_of c.push_reserved.new.self.items =
    ap (λ (us : List NewUse). with_uses (uses_of c.self.inside.lists.items) (uses_in us)) list ∙ sym (uses_more c.self.inside.lists.items c.args.uses) ∙ ap uses_of (sym items) in (
      subst (IsIndex c.push_reserved.new.self.items c.add_all.new.firsts.entries c.add_all.new.others.entries) uses
          (subst (λ (ls : List (List NewUse)). IsIndex ls c.add_all.new.firsts.entries c.add_all.new.others.entries (with_uses (uses_of c.self.inside.lists.items) (uses_in c.as_slice-2.result.now)))
          c.as_slice.ensures.value after),
      subst (λ (ls : List (List NewUse)). AreThere ls c.add_all.new.firsts.entries) c.as_slice.ensures.value c.add_all.ensures.there,
      omega arith,
      omega arith,
      omega arith,
      λ some. absurd (omega (arith, some)),
      λ some. absurd (omega (arith, some)),
    )

pub returns : goal.returns
returns c =
    ap uses_of c.push_reserved.ensures.items
    ∙ uses_more c.self.inside.lists.items c.args.uses
    ∙ ap (λ (i : Ids). with_uses i.uses (uses_in c.args.uses)) c.self.view_is
