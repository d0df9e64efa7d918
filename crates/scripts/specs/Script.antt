-- What a script says, line by line, where its block has this version.
use Rattle.std.specs.Prelude.{ℕ, ◌||◌, ◌&&◌, nat_lt, Bool, if◌then◌else◌, List, [], ◌∷◌, ◌++◌, length, map, codes, Option, Some, None, option_map, option_and_then, is_some}
use Rattle.std.specs.Option.{option_to_list}
use Rattle.std.specs.Str.{bytes_eq}
use Rattle.text_lines.specs.Lines.{Statement, statements, first_part}
use Rattle.transaction.specs.Combined.{◌>>=◌}
use Rattle.transaction.specs.Limits.{max_endorsements}
use Rattle.transaction.specs.declared.block_version.BlockVersion.{BlockVersion}
use Rattle.transaction.specs.declared.identity.Identity.{Identity}
use Rattle.transaction.specs.declared.transaction.KeyVersion.{KeyVersion}
use Rattle.transaction.specs.declared.transaction.Range.{Range}
use Rattle.transaction.specs.declared.transaction.NsSet.{NsSet}
use Rattle.block.specs.Limits.{max_txs}
use Rattle.key_book.specs.Entry as book
use Rattle.key_book.specs.Book.{key_in_book}
use Rattle.scripts.specs.declared.draft.Content.{Content}
use Rattle.scripts.specs.declared.draft.Content.TheVariants as content
use Rattle.scripts.specs.declared.saying.Entry.{Entry}
use Rattle.scripts.specs.declared.saying.Entry.TheVariants.{Read, Range as RangeLine, Found, Write, Policy}
use Rattle.scripts.specs.declared.saying.Saying.{Saying}
use Rattle.scripts.specs.declared.saying.Saying.TheVariants.{Begins, Raw as RawLine, Namespace, Adds, Endorse}
use Rattle.scripts.specs.declared.script.Item.{Item}
use Rattle.scripts.specs.declared.script.Item.TheVariants.{Raw, Drafted}
use Rattle.scripts.specs.declared.script.Script.{Script}
use Rattle.scripts.specs.declared.so_far.SoFar.{SoFar}
use Rattle.scripts.specs.Draft.{Draft}
use Rattle.scripts.specs.Limits.{max_list, with_one}
use Rattle.scripts.specs.Says.{is_update, says}

-- ---- one transaction, or one update

-- a list whose last item is changed, or none where there is no item or it can't be changed so
abbrev pub with_last : {A : Type 0} → (A → Option A) → List A → Option (List A)
with_last change [] = None
with_last change (x ∷ []) = option_map (λ y. y ∷ []) (change x)
with_last change (x ∷ y ∷ more) = option_map (λ changed. x ∷ changed) (with_last change (y ∷ more))

abbrev pub with_result : KeyVersion → Range → Option Range
with_result found range = option_map (λ results. record range { results = results }) (with_one max_list range.results found)

-- A namespace with one line more: a result is one of its last range.
abbrev pub with_entry : Entry → NsSet → Option NsSet
with_entry (Read read) ns = option_map (λ reads. record ns { reads = reads }) (with_one max_list ns.reads read)
with_entry (RangeLine range) ns = option_map (λ ranges. record ns { ranges = ranges }) (with_one max_list ns.ranges range)
with_entry (Found found) ns = option_map (λ ranges. record ns { ranges = ranges }) (with_last (with_result found) ns.ranges)
with_entry (Write write) ns = option_map (λ writes. record ns { writes = writes }) (with_one max_list ns.writes write)
with_entry (Policy write) ns = option_map (λ writes. record ns { policy_writes = writes }) (with_one max_list ns.policy_writes write)

abbrev pub empty_namespace : List ℕ → NsSet
empty_namespace name = record { name = name; reads = []; ranges = []; writes = []; policy_writes = [] }

-- the namespaces with one more, which is open from then on
abbrev pub one_namespace_more : List ℕ → List NsSet → Option (List NsSet)
one_namespace_more name namespaces = with_one max_list namespaces (empty_namespace name)

-- the namespaces with one line more in the one that is open, the last
abbrev pub one_entry_more : Entry → List NsSet → Option (List NsSet)
one_entry_more entry namespaces = with_last (with_entry entry) namespaces

-- a transaction's namespaces changed, or none where they can't be changed so; an update has none
abbrev pub in_namespaces : (List NsSet → Option (List NsSet)) → Content → Option Content
in_namespaces change (content.Tx namespaces) = option_map content.Tx (change namespaces)
in_namespaces change (content.Update policy) = None

abbrev pub with_content : (Content → Option Content) → Draft → Option Draft
with_content change draft = option_map (λ changed. record draft { content = changed }) (change draft.content)

abbrev pub with_namespace : List ℕ → Draft → Option Draft
with_namespace name draft = with_content (in_namespaces (one_namespace_more name)) draft

abbrev pub with_addition : Entry → Draft → Option Draft
with_addition entry draft = with_content (in_namespaces (one_entry_more entry)) draft

abbrev pub with_endorser : Identity → Draft → Option Draft
with_endorser endorser draft = option_map (λ endorsers. record draft { endorsers = endorsers }) (with_one max_endorsements draft.endorsers endorser)

-- ---- all of them

-- Of `SoFar`: the items that ended, and the transaction or update that is open, or none.
abbrev pub nothing_said : SoFar
nothing_said = record { items = []; drafting = None }

-- what is said once the one that is open has ended
abbrev pub ended : SoFar → SoFar
ended so_far = record { items = so_far.items ++ map Drafted (option_to_list so_far.drafting); drafting = None }

-- `tx`, `raw` and `update` end the transaction or update before them, also where the rest of the line is faulty
abbrev pub ends_before : BlockVersion → List ℕ → Bool
ends_before version line =
    bytes_eq (first_part line) (codes "tx") || bytes_eq (first_part line) (codes "raw") || is_update version (first_part line)

-- what is said before a line
abbrev pub before : BlockVersion → List ℕ → SoFar → SoFar
before version line so_far = if ends_before version line then ended so_far else so_far

-- the one that is open changed, or none where there is none or it can't be changed so
abbrev pub in_open : (Draft → Option Draft) → SoFar → Option SoFar
in_open change so_far = option_map (λ draft. record { items = so_far.items; drafting = Some draft }) (option_and_then change so_far.drafting)

-- who signs is in the book
abbrev pub can_sign : List book.Entry → Identity → Bool
can_sign keys identity = is_some (key_in_book identity keys)

-- a transaction or an update begins, where its creator is in the book
abbrev pub with_draft : List book.Entry → Draft → SoFar → Option SoFar
with_draft keys draft so_far =
    if can_sign keys draft.creator && nat_lt (length so_far.items) max_txs then Some (record { items = so_far.items; drafting = Some draft }) else None

abbrev pub with_raw : List ℕ → SoFar → Option SoFar
with_raw bytes so_far = option_map (λ items. record { items = items; drafting = None }) (with_one max_txs so_far.items (Raw bytes))

-- the one that is open has an endorser more, where that one is in the book
abbrev pub with_signer : List book.Entry → Identity → SoFar → Option SoFar
with_signer keys endorser so_far = if can_sign keys endorser then in_open (with_endorser endorser) so_far else None

-- what is said with line n, or none where nothing is open for it, its signer isn't in the book, or a list has the most
-- items already
abbrev pub said_by : List book.Entry → ℕ → SoFar → Saying → Option SoFar
said_by keys n so_far (Begins creator nonce chaincode asked) =
    with_draft keys (record { line = n; creator = creator; nonce = nonce; chaincode = chaincode; content = asked; endorsers = [] }) so_far
said_by keys n so_far (RawLine bytes) = with_raw bytes so_far
said_by keys n so_far (Namespace name) = in_open (with_namespace name) so_far
said_by keys n so_far (Adds entry) = in_open (with_addition entry) so_far
said_by keys n so_far (Endorse endorser) = with_signer keys endorser so_far

-- what is said with line n, or none where the line is faulty
abbrev pub said_with : BlockVersion → List book.Entry → ℕ → SoFar → List ℕ → Option SoFar
said_with version keys n so_far line = says version line >>= said_by keys n so_far

-- goes on with what is said, or stops at faulty line n, before which these items ended
abbrev pub or_stops : (SoFar → Script) → ℕ → List Item → Option SoFar → Script
or_stops go n items None = record { items = items; fault = Some n }
or_stops go n items (Some so_far) = go so_far

-- The items that end before the first faulty line, and that line; where no line is faulty, all items.
abbrev pub script_from : BlockVersion → List book.Entry → SoFar → List Statement → Script
script_from version keys so_far [] = record { items = (ended so_far).items; fault = None }
script_from version keys so_far (s ∷ more) =
    or_stops (λ next. script_from version keys next more) s.line (before version s.bytes so_far).items
    (said_with version keys s.line (before version s.bytes so_far) s.bytes)

-- what a text says, where these are the keys of those who sign
abbrev pub script_of : BlockVersion → List book.Entry → List ℕ → Script
script_of version keys text = script_from version keys nothing_said (statements text)
