-- The transactions of a script, one more at a time, and their limits.
use Rattle.std.proofs.Common.{◌≡◌, ℕ, ◌+◌, ◌<◌, ◌≤◌, suc, Bool, true, false, cond, List, [], ◌∷◌, ◌++◌, length, Result, Ok, Err, ap, refl, sym, ◌∙◌, subst, take, drop, get_or, arith}
use Rattle.std.specs.Prelude.{IfOk, nat_lt}
use Rattle.std.specs.List.{AllByRecursion}
use Rattle.std.proofs.lemmas.Bool.Decides.{nat_tests}
use Rattle.std.proofs.lemmas.List.{take_more, drop_more}
use Rattle.transaction.specs.Items.{SpellsItem}
use Rattle.transaction.specs.declared.transaction.Endorsement.{Endorsement}
use Rattle.transaction.specs.Limits.{max_tx_bytes}
use Rattle.transaction.specs.declared.block_version.BlockVersion.{BlockVersion}
use Rattle.transaction.specs.declared.block_version.BlockVersion.TheVariants.{V1, V2}
use Rattle.block.specs.Grammar.{IsTx}
use Rattle.key_book.specs.Entry.{Entry}
use Rattle.scripts.specs.declared.draft.Content.{Content}
use Rattle.scripts.specs.declared.draft.Content.TheVariants as content
use Rattle.scripts.specs.declared.script.Item.{Item}
use Rattle.scripts.specs.declared.script.Item.TheVariants.{Raw, Drafted}
use Rattle.scripts.specs.Draft.{Draft}
use Rattle.scripts.specs.Within.{IsOf, IsItem}
use Rattle.drafts.specs.declared.fault.DraftFault.{DraftFault}
use Rattle.drafts.specs.declared.fault.DraftFault.TheVariants.{Line}
use Rattle.drafts.specs.DraftItem.{item_whole_bytes, with_content, drafted_item, endorsements_of, endorsed, signed_by, item_signed_bytes}
use Rattle.drafts.specs.Drafted.{Makes, MakesAll}
use Rattle.drafts.specs.DraftBlock.{◌>>=◌, item_bytes, items_bytes}

-- what was read, with the bytes before it
abbrev pub behind : List (List ℕ) → Result (List (List ℕ)) DraftFault → Result (List (List ℕ)) DraftFault
behind front txs = txs >>= λ more. Ok (front ++ more)

not_below : (a b : ℕ) → nat_lt a b ≡ false → b ≤ a
not_below a b test = grind (arith, nat_tests)

short_when : (b : Bool) (line : ℕ) (bytes : List ℕ) → nat_lt max_tx_bytes (length bytes) ≡ b → IfOk (cond b (Err (Line line)) (Ok bytes)) IsTx
short_when true line bytes test = tt
short_when false line bytes test = not_below max_tx_bytes (length bytes) test

item_short : (version : BlockVersion) (keys : List Entry) (channel : List ℕ) (item : Item) → IsItem version keys item → IfOk (item_bytes keys channel item) IsTx
item_short version keys channel (Raw bytes) h = h
item_short version keys channel (Drafted draft) h =
    let bytes = item_whole_bytes (drafted_item keys channel draft) in short_when (nat_lt max_tx_bytes (length bytes)) draft.line bytes refl

AreShort : ℕ → List (List ℕ) → Type 0
AreShort n txs = (length txs ≡ n) × AllByRecursion IsTx txs

one_more : (first : Result (List ℕ) DraftFault) (others : Result (List (List ℕ)) DraftFault) (n : ℕ) → IfOk first IsTx → IfOk others (AreShort n)
    → IfOk (first >>= λ f. others >>= λ o. Ok (f ∷ o)) (AreShort (suc n))
unfolding AreShort
one_more (Err fault) others n f o = tt
one_more (Ok first) (Err fault) n f o = tt
one_more (Ok first) (Ok others) n f o = (ap suc o.0, (f, o.1))

items_short : (version : BlockVersion) (keys : List Entry) (channel : List ℕ) (items : List Item) → AllByRecursion (IsItem version keys) items → IfOk (items_bytes keys channel items) (AreShort (length items))
unfolding AreShort
items_short version keys channel [] all = (refl, tt)
items_short version keys channel (item ∷ more) all =
    one_more (item_bytes keys channel item) (items_bytes keys channel more) (length more) (item_short version keys channel item all.0) (items_short version keys channel more all.1)

-- there are as many as items, and none is too long
pub txs_short : (version : BlockVersion) (keys : List Entry) (channel : List ℕ) (items : List Item) (txs : List (List ℕ)) → AllByRecursion (IsItem version keys) items → items_bytes keys channel items ≡ Ok txs
    → (length txs ≡ length items) × AllByRecursion IsTx txs
unfolding AreShort
txs_short version keys channel items txs all is =
    subst (λ (r : Result (List (List ℕ)) DraftFault). IfOk r (AreShort (length items))) is (items_short version keys channel items all)

-- one item more, with the transaction that it makes
pub makes_one_more : (version : BlockVersion) (keys : List Entry) (channel : List ℕ) (items : List Item) (txs : List (List ℕ)) (item : Item) (tx : List ℕ) → MakesAll version keys channel items txs
    → Makes version keys channel item tx → MakesAll version keys channel (items ++ item ∷ []) (txs ++ tx ∷ [])
makes_one_more version keys channel [] [] item tx all here = (here, tt)
makes_one_more version keys channel [] (other ∷ txs) item tx all here = absurd all
makes_one_more version keys channel (first ∷ items) [] item tx all here = absurd all
makes_one_more version keys channel (first ∷ items) (other ∷ txs) item tx all here = (all.0, makes_one_more version keys channel items txs item tx all.1 here)

pub makes_next : (version : BlockVersion) (keys : List Entry) (channel : List ℕ) (items : List Item) (i : ℕ) (txs new : List (List ℕ)) (item : Item) (tx : List ℕ) → i < length items → item ≡ get_or items i item
    → MakesAll version keys channel (take i items) txs → Makes version keys channel item tx → new ≡ txs ++ tx ∷ [] → MakesAll version keys channel (take (i + 1) items) new
makes_next version keys channel items i txs new item tx below is all here longer =
    let one = makes_one_more version keys channel (take i items) txs item tx all here in
    let parts : take (i + 1) items ≡ take i items ++ item ∷ [] =
    take_more items i item below ∙ ap (λ (x : Item). take i items ++ x ∷ []) (sym is) in
    subst (λ (front : List Item). MakesAll version keys channel front new) (sym parts) (subst (λ (t : List (List ℕ)). MakesAll version keys channel (take i items ++ item ∷ []) t) (sym longer) one)

-- those that are left after one more
pub left_next : (version : BlockVersion) (keys : List Entry) (items : List Item) (i : ℕ) (item : Item) → i < length items → AllByRecursion (IsItem version keys) (drop i items) → AllByRecursion (IsItem version keys) (drop (i + 1) items)
left_next version keys items i item below all =
    let parts : AllByRecursion (IsItem version keys) (get_or items i item ∷ drop (i + 1) items) = subst (AllByRecursion (IsItem version keys)) (drop_more items i item below) all in
    parts.1

-- ---- versions

-- what a block of version 1 can have one of version 2 can have
of_any : (version : BlockVersion) (asked : Content) → IsOf version asked → IsOf V2 asked
of_any version (content.Tx namespaces) kind = tt
of_any V1 (content.Update policy) kind = absurd kind
of_any V2 (content.Update policy) kind = tt

item_of_any : (version : BlockVersion) (keys : List Entry) (item : Item) → IsItem version keys item → IsItem V2 keys item
item_of_any version keys (Raw bytes) h = h
item_of_any version keys (Drafted draft) h =
    record { limits = h.limits; kind = of_any version draft.content h.kind; creator_signs = h.creator_signs; endorsers_sign = h.endorsers_sign }

pub items_of_any : (version : BlockVersion) (keys : List Entry) (items : List Item) → AllByRecursion (IsItem version keys) items → AllByRecursion (IsItem V2 keys) items
items_of_any version keys [] all = tt
items_of_any version keys (item ∷ more) all = (item_of_any version keys item all.0, items_of_any version keys more all.1)

spelled_in : (version : BlockVersion) (channel : List ℕ) (draft : Draft) (es : List Endorsement) (s : List ℕ) (asked : Content) (bytes : List ℕ) → IsOf version asked
    → SpellsItem V2 bytes (with_content channel draft es s asked) → SpellsItem version bytes (with_content channel draft es s asked)
spelled_in version channel draft es s (content.Tx namespaces) bytes kind spelled = spelled
spelled_in V1 channel draft es s (content.Update policy) bytes kind spelled = absurd kind
spelled_in V2 channel draft es s (content.Update policy) bytes kind spelled = spelled

makes_in : (version : BlockVersion) (keys : List Entry) (channel : List ℕ) (item : Item) (tx : List ℕ) → IsItem version keys item → Makes V2 keys channel item tx → Makes version keys channel item tx
makes_in version keys channel (Raw bytes) tx h made = made
makes_in version keys channel (Drafted draft) tx h made =
    let endorsements = endorsements_of keys channel draft in
    let signature = signed_by keys draft.creator (item_signed_bytes (endorsed keys channel draft)) in
    spelled_in version channel draft endorsements signature draft.content tx h.kind made

-- what a script makes is encoded in its block's version
pub all_made_in : (version : BlockVersion) (keys : List Entry) (channel : List ℕ) (items : List Item) (txs : List (List ℕ)) → AllByRecursion (IsItem version keys) items
    → MakesAll V2 keys channel items txs → MakesAll version keys channel items txs
all_made_in version keys channel [] [] all made = tt
all_made_in version keys channel [] (tx ∷ txs) all made = absurd made
all_made_in version keys channel (item ∷ items) [] all made = absurd made
all_made_in version keys channel (item ∷ items) (tx ∷ txs) all made =
    (makes_in version keys channel item tx all.0 made.0, all_made_in version keys channel items txs all.1 made.1)
