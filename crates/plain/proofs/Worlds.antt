-- What lists of changes, entries, uses and definitions make: one change, one use, one definition, and longer lists.
use Rattle.std.proofs.Common.{◌≡◌, ℕ, suc, ◌+◌, ◌<◌, ◌≤◌, Bool, true, false, cond, List, [], ◌∷◌, ◌++◌, length, take, drop, get_or, Some, None, refl, sym, ap, ◌∙◌, drop-cons, add-one}
use Rattle.std.specs.Prelude.{if◌then◌else◌}
use Rattle.std.specs.FinMap.{get, find, insert, empty, get-empty}
use Rattle.std.specs.Option.{option_or}
use Rattle.std.specs.Str.{bytes_eq}
use Rattle.values.specs.Order.{bytes_cmp}
use Rattle.std.proofs.lemmas.List.{drop_all, take_more, map_push, map-append}
use Rattle.rules.specs.declared.delta.Change.{Change}
use Rattle.rules.specs.declared.delta.NewEntry.{NewEntry}
use Rattle.rules.specs.declared.delta.NewUse.{NewUse}
use Rattle.rules.specs.declared.delta.NewDefinition.{NewDefinition}
use Rattle.rules.specs.declared.first_use.FirstUse.{FirstUse}
use Rattle.rules.specs.declared.row.Row.{Row}
use Rattle.policy.specs.Tree.{Tree}
use Rattle.policy.specs.Policies.{Policies}
use Rattle.rules.specs.State.{State, StateKey, key_cmp, is_same_key, with_changes}
use Rattle.rules.specs.FirstUses.{with_uses}
use Rattle.rules.specs.History.{with_entries}
use Rattle.rules.specs.Definitions.{with_definitions}
use Rattle.rules.specs.Delta.{change_of, changes_in, entries_in, uses_in, definitions_in}
use Rattle.rules.proofs.Keys.{bytes_ties}
use Rattle.rules.proofs.Changes.{get-set_at, with_changes-none, with_changes-append, with_changes-push}
use Rattle.rules.proofs.HistoryEntries.{with_entries-none, with_entries-append}
use Rattle.rules.proofs.IdUses.{get-with_uses, with_uses-none, with_uses-append}
use Rattle.plain.specs.Held.{held_after, made_of, nothing_but}

-- the row of a key after one change more
pub one_change : (s : State) (changes : List Change) (i : ℕ) (c : Change) (k : StateKey) → i < length changes → c ≡ get_or changes i c
    → get (with_changes s (changes_in (take (i + 1) changes))) k ≡ (if is_same_key k (change_of c).0 then (change_of c).1 else get (with_changes s (changes_in (take i changes))) k)
one_change s changes i c k lt is =
    ap (λ (cs : List Change). get (with_changes s (changes_in cs)) k) (take_more changes i c lt ∙ ap (λ (x : Change). take i changes ++ x ∷ []) (sym is))
    ∙ ap (λ l. get (with_changes s l) k) (map_push change_of (take i changes) c)
    ∙ ap (λ (t : State). get t k) (with_changes-push s (changes_in (take i changes)) (change_of c))
    ∙ get-set_at (with_changes s (changes_in (take i changes))) (change_of c).0 (change_of c).1 k

-- no lists hold nothing
pub no_lists : (definitions : Policies) → made_of definitions [] [] [] ≡ nothing_but definitions
no_lists definitions = λ i. record { state = with_changes-none {X = Row} empty i; history = with_entries-none empty i; first_uses = with_uses-none empty i; definitions = definitions }

-- what more values, behind those of the code's lists, and other definitions make
pub held_more : (before after : Policies) (cs ds all : List Change) (es fs all_entries : List NewEntry) (us vs all_uses : List NewUse) (news : List (List ℕ × Tree))
    → all ≡ cs ++ ds → all_entries ≡ es ++ fs → all_uses ≡ us ++ vs → after ≡ with_definitions before news
    → made_of after (changes_in all) (entries_in all_entries) (uses_in all_uses)
    ≡ held_after (made_of before (changes_in cs) (entries_in es) (uses_in us)) (changes_in ds) (entries_in fs) (uses_in vs) news
held_more before after cs ds all es fs all_entries us vs all_uses news changes entries uses definitions = λ i. record {
  state = (ap (λ l. with_changes empty (changes_in l)) changes ∙ ap (with_changes empty) (map-append change_of cs ds) ∙ with_changes-append empty (changes_in cs) (changes_in ds)) i;
  history = (ap (λ l. with_entries empty (entries_in l)) entries ∙ ap (with_entries empty) (map-append (λ e. (e.key, e.entry)) es fs) ∙ with_entries-append empty (entries_in es) (entries_in fs)) i;
  first_uses = (ap (λ l. with_uses empty (uses_in l)) uses ∙ ap (with_uses empty) (map-append (λ u. (u.id, u.first_use)) us vs) ∙ with_uses-append empty (uses_in us) (uses_in vs)) i;
  definitions = definitions i;
}

-- no row is there without changes
pub no_row : (k : StateKey) → get (with_changes {X = Row} empty []) k ≡ None
no_row k = ap (λ (s : State). get s k) (with_changes-none empty) ∙ get-empty key_cmp k

-- ---- uses of ids

-- the use at place i, or those behind it
pub next_use : (us : List NewUse) (i : ℕ) (id : List ℕ) (d : NewUse) → i < length us
    → find bytes_cmp id (uses_in (drop i us)) ≡ (if bytes_eq id (get_or us i d).id then Some (get_or us i d).first_use else find bytes_cmp id (uses_in (drop (i + 1) us)))
next_use us i id d lt =
    ap (λ (l : List NewUse). find bytes_cmp id (uses_in l)) (drop-cons us i d lt)
    ∙ ap (λ (b : Bool). cond b (Some (get_or us i d).first_use) (find bytes_cmp id (uses_in (drop (suc i) us)))) (bytes_ties id (get_or us i d).id)
    ∙ ap (λ (k : ℕ). cond (bytes_eq id (get_or us i d).id) (Some (get_or us i d).first_use) (find bytes_cmp id (uses_in (drop k us)))) (sym (add-one i))

-- what the uses say of an id
pub first_use_of : (us : List (List ℕ × FirstUse)) (id : List ℕ) → get (with_uses empty us) id ≡ find bytes_cmp id us
first_use_of us id = get-with_uses empty us id ∙ ap (λ o. option_or o (find bytes_cmp id us)) (get-empty bytes_cmp id)

pub this_use : (us : List NewUse) (i : ℕ) (id : List ℕ) (d : NewUse) → i < length us → bytes_eq id (get_or us i d).id ≡ true → find bytes_cmp id (uses_in (drop i us)) ≡ Some (get_or us i d).first_use
this_use us i id d lt same = next_use us i id d lt ∙ rw same refl

pub later_use : (us : List NewUse) (i : ℕ) (id : List ℕ) (d : NewUse) → i < length us → bytes_eq id (get_or us i d).id ≡ false → find bytes_cmp id (uses_in (drop i us)) ≡ find bytes_cmp id (uses_in (drop (i + 1) us))
later_use us i id d lt other = next_use us i id d lt ∙ rw other refl

-- ---- definitions

-- none is left at the end
pub last_definition : (m : Policies) (ds : List NewDefinition) (i : ℕ) → length ds ≤ i → with_definitions m (definitions_in (drop i ds)) ≡ m
unfolding with_definitions
last_definition m ds i end = ap (λ (l : List NewDefinition). with_definitions m (definitions_in l)) (drop_all i ds end)

-- the definition at place i, and then those behind it
pub next_definition : (m : Policies) (ds : List NewDefinition) (i : ℕ) (d : NewDefinition) → i < length ds → d ≡ get_or ds i d
    → with_definitions m (definitions_in (drop i ds)) ≡ with_definitions (insert m d.chaincode d.policy) (definitions_in (drop (i + 1) ds))
unfolding with_definitions
next_definition m ds i d lt is =
    ap (λ (l : List NewDefinition). with_definitions m (definitions_in l))
    (drop-cons ds i d lt ∙ ap (λ (k : ℕ). get_or ds i d ∷ drop k ds) (sym (add-one i)) ∙ ap (λ (x : NewDefinition). x ∷ drop (i + 1) ds) (sym is))
