use Rattle.std.proofs.Common.{◌≡◌, ◌+◌, ◌<◌, ◌≤◌, List, [], ◌∷◌, ◌++◌, length, replicate, sym, ap, subst, ◌∙◌, arith}
use Rattle.std.proofs.lemmas.Bool.{eqb-true, eqb-false}
use Rattle.std.proofs.lemmas.List.{nil_from_length, length-append, length-replicate}
use Rattle.rules.specs.declared.delta.NewEntry.{NewEntry}
use Rattle.rules.specs.Delta.{entries_in}
use Rattle.rules.specs.History.{with_entries}
use Rattle.rules.proofs.HistoryEntries.{with_entries-none}
use Rattle.history_index.specs.declared.lists.Listed.{Listed}
use Rattle.history_index.specs.Index.{Index}
use Rattle.history_index.specs.Lists.{all_entries, hashes_of, history_of, AreIn}
use Rattle.history_index.proofs.Standing.{all_in, hashes_more, history_more}
use Rattle.history_index.proofs.index.HistoryIndex.add.Goals as goal

pub returns-then-is_empty : goal.returns-then-is_empty
returns-then-is_empty c =
    let none : c.get.result.now ≡ [] = nil_from_length c.get.result.now (eqb-true (length c.get.result.now) 0 (sym c.is_empty.ensures ∙ c.if-is_empty.true)) in
    record {
      history = sym (with_entries-none c.args.self.now.history) ∙ ap (λ (es : List NewEntry). with_entries c.args.self.now.history (entries_in es)) (sym none ∙ c.get.ensures);
    }

pub invariant_of-self : goal.invariant_of-self
invariant_of-self c =
    let lists = c.self.inside.lists.items in
    let list_of = c.self.inside.list_of.items in
    let entries = c.args.entries in
    let listed : Listed = record { first = c.len-first.result; entries = entries } in
    let given : c.as_slice.result.now ≡ entries = c.as_slice.ensures ∙ c.get-2.ensures in
    let first : c.len-first.result ≡ length list_of = omega (arith, c.len-first.ensures, c.self.inside.list_of.ok.0) in
    let list : c.len-list.result ≡ length lists = omega (arith, c.len-list.ensures, c.self.inside.lists.ok.0) in
    let room : length entries ≤ c.self.inside.room = omega (arith, c.requires, ap (λ (i : Index). i.room) c.self.view_is) in
    let differs : ¬ (length c.get.result.now ≡ 0) = eqb-false (length c.get.result.now) 0 (sym c.is_empty.ensures ∙ c.if-is_empty.false) in
    let some : 0 < length entries = omega (arith, differs, ap length c.get.ensures) in
    let numbers : c.add_all.new.list_of.items ≡ list_of ++ replicate (length entries) (length lists) = c.add_all.ensures.list_of ∙ (λ i. list_of ++ replicate (length (given i)) (list i)) in
    let long : length c.add_all.new.list_of.items ≡ length list_of + length entries =
    ap length numbers ∙ length-append list_of (replicate (length entries) (length lists)) ∙ ap (λ n. length list_of + n) (length-replicate (length entries) (length lists)) in (
      subst (λ (ls : List Listed). AreIn ls c.add_all.new.list_of.items) (sym c.push_reserved.ensures.items)
          (subst (AreIn (lists ++ listed ∷ [])) (sym numbers) (all_in lists listed list_of c.self.invariant.0 first)),
      c.add_all.ensures.index
          ∙ (λ i. c.self.invariant.1 i ++ hashes_of (given i))
          ∙ sym (hashes_more lists listed)
          ∙ ap (λ (ls : List Listed). hashes_of (all_entries ls)) (sym c.push_reserved.ensures.items),
      omega (arith, c.add_all.new.list_of.ok),
      omega arith,
      omega (arith, long, room, c.self.invariant.4, c.add_all.new.list_of.ok.0, c.self.inside.list_of.ok.0),
      λ none. absurd (omega (arith, none)),
      omega (arith, long, some, c.self.invariant.6, c.push_reserved.ensures.len, c.add_all.new.list_of.ok.0, c.self.inside.list_of.ok.0),
    )

pub returns : goal.returns
returns c =
    let listed : Listed = record { first = c.len-first.result; entries = c.args.entries } in
    record {
      history =
          ap (λ (ls : List Listed). history_of (all_entries ls)) c.push_reserved.ensures.items
          ∙ history_more c.self.inside.lists.items listed
          ∙ ap (λ (i : Index). with_entries i.history (entries_in c.args.entries)) c.self.view_is;
    }
