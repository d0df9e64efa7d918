-- What a script says is within its limits.
use Rattle.std.proofs.Common.{◌≡◌, ℕ, ◌+◌, ◌<◌, ◌≤◌, ◌&&◌, Bool, true, false, cond, List, [], ◌∷◌, ◌++◌, length, Option, Some, None, Result, Ok, Err, refl, sym, subst, arith, length-append}
use Rattle.std.specs.Prelude.{IsTrue, IfSome, IfOk, option_and_then, nat_lt}
use Rattle.std.specs.List.{AllByRecursion}
use Rattle.std.specs.Option.{option_to_list}
use Rattle.std.proofs.lemmas.Bool.{and_parts}
use Rattle.text_lines.specs.Lines.{Statement, statements}
use Rattle.values.specs.Name.{is_name}
use Rattle.transaction.specs.Grammar.{IsIdentity, IsResult, IsRange, IsNsSet, AreItems}
use Rattle.transaction.specs.Limits.{max_endorsements}
use Rattle.transaction.specs.declared.block_version.BlockVersion.{BlockVersion}
use Rattle.transaction.specs.declared.identity.Identity.{Identity}
use Rattle.transaction.specs.declared.transaction.KeyVersion.{KeyVersion}
use Rattle.transaction.specs.declared.transaction.Range.{Range}
use Rattle.transaction.specs.declared.transaction.NsSet.{NsSet}
use Rattle.block.specs.Limits.{max_txs}
use Rattle.key_book.specs.Entry as book
use Rattle.scripts.specs.declared.draft.Content.{Content}
use Rattle.scripts.specs.declared.draft.Content.TheVariants as content
use Rattle.scripts.specs.declared.saying.Entry.{Entry}
use Rattle.scripts.specs.declared.saying.Entry.TheVariants as entry
use Rattle.scripts.specs.declared.saying.Saying.{Saying}
use Rattle.scripts.specs.declared.saying.Saying.TheVariants as saying
use Rattle.scripts.specs.declared.script.Item.{Item}
use Rattle.scripts.specs.declared.script.Item.TheVariants.{Raw, Drafted}
use Rattle.scripts.specs.declared.script.Script.{Script}
use Rattle.scripts.specs.declared.so_far.SoFar.{SoFar}
use Rattle.scripts.specs.Draft.{Draft}
use Rattle.scripts.specs.Limits.{max_list, with_one}
use Rattle.scripts.specs.Says.{says}
use Rattle.scripts.specs.Script as spec
use Rattle.scripts.specs.Within.{IsContent, IsOf, IsDraft, IsItem, AreDrafted}
use Rattle.scripts.proofs.SayingLimits.{kept, mapped, below, IsEntry, IsSaying, says_within}

-- ---- lists

all_append : {A : Type 0} (P : A → Type 0) (xs ys : List A) → AllByRecursion P xs → AllByRecursion P ys → AllByRecursion P (xs ++ ys)
all_append P [] ys first second = second
all_append P (x ∷ xs) ys first second = (first.0, all_append P xs ys first.1 second)

one_longer : {A : Type 0} (xs : List A) (x : A) (most : ℕ) → length xs < most → length (xs ++ x ∷ []) ≤ most
one_longer xs x most h = omega (arith, length-append xs (x ∷ []))

-- at most so many, each within its limits
AreFew : {A : Type 0} → ℕ → (A → Type 0) → List A → Type 0
AreFew most P xs = (length xs ≤ most) × AllByRecursion P xs

with_one_within : {A : Type 0} (P : A → Type 0) (most : ℕ) (xs : List A) (x : A) → AllByRecursion P xs → P x → IfSome (with_one most xs x) (AreFew most P)
unfolding AreFew
with_one_within P most xs x all here =
    kept (nat_lt (length xs) most) (xs ++ x ∷ []) (AreFew most P)
    (λ test. (one_longer xs x most (below (length xs) most test), all_append P xs (x ∷ []) all (here, tt)))

AreAsMany : {A : Type 0} → (A → Type 0) → List A → List A → Type 0
AreAsMany P xs ys = (length ys ≡ length xs) × AllByRecursion P ys

with_last_within : {A : Type 0} (P : A → Type 0) (f : A → Option A) (xs : List A) → ((x : A) → P x → IfSome (f x) P) → AllByRecursion P xs → IfSome (spec.with_last f xs) (AreAsMany P xs)
unfolding AreAsMany
with_last_within P f [] to all = tt
with_last_within P f (x ∷ []) to all = mapped (λ y. y ∷ []) (f x) P (AreAsMany P (x ∷ [])) (λ y h. (refl, (h, tt))) (to x all.0)
with_last_within P f (x ∷ y ∷ more) to all =
    mapped (λ changed. x ∷ changed) (spec.with_last f (y ∷ more)) (AreAsMany P (y ∷ more)) (AreAsMany P (x ∷ y ∷ more)) (λ ys h. (cc, (all.0, h.1)))
    (with_last_within P f (y ∷ more) to all.1)

listed : {A : Type 0} (P : A → Type 0) (xs : List A) → AreFew max_list P xs → AreItems P xs
unfolding AreFew
listed P xs few = (omega arith, few.1)

as_many : {A : Type 0} (P : A → Type 0) (xs ys : List A) → AreItems P xs → AreAsMany P xs ys → AreItems P ys
unfolding AreAsMany
as_many P xs ys items many = (omega arith, many.1)

if_some : {A : Type 0} (o : Option A) (P Q : A → Type 0) → ((x : A) → P x → Q x) → IfSome o P → IfSome o Q
if_some None P Q to h = tt
if_some (Some x) P Q to h = to x h

-- ---- one transaction, or one update

with_result_within : (found : KeyVersion) (range : Range) → IsResult found → IsRange range → IfSome (spec.with_result found range) IsRange
with_result_within found range f r =
    mapped (λ results. record range { results = results }) (with_one max_list range.results found) (AreFew max_list IsResult) IsRange
    (λ results few. record { start = r.start; end = r.end; results = listed IsResult results few })
    (with_one_within IsResult max_list range.results found r.results.1 f)

with_entry_within : (e : Entry) (ns : NsSet) → IsEntry e → IsNsSet ns → IfSome (spec.with_entry e ns) IsNsSet
with_entry_within (entry.Read read) ns e n =
    mapped (λ reads. record ns { reads = reads }) (with_one max_list ns.reads read) (AreFew max_list _) IsNsSet
    (λ reads few. record { name = n.name; reads = listed _ reads few; ranges = n.ranges; writes = n.writes; policy_writes = n.policy_writes })
    (with_one_within _ max_list ns.reads read n.reads.1 e)
with_entry_within (entry.Range range) ns e n =
    mapped (λ ranges. record ns { ranges = ranges }) (with_one max_list ns.ranges range) (AreFew max_list IsRange) IsNsSet
    (λ ranges few. record { name = n.name; reads = n.reads; ranges = listed IsRange ranges few; writes = n.writes; policy_writes = n.policy_writes })
    (with_one_within IsRange max_list ns.ranges range n.ranges.1 e)
with_entry_within (entry.Found found) ns e n =
    mapped (λ ranges. record ns { ranges = ranges }) (spec.with_last (spec.with_result found) ns.ranges) (AreAsMany IsRange ns.ranges) IsNsSet
    (λ ranges many. record { name = n.name; reads = n.reads; ranges = as_many IsRange ns.ranges ranges n.ranges many; writes = n.writes; policy_writes = n.policy_writes })
    (with_last_within IsRange (spec.with_result found) ns.ranges (λ range r. with_result_within found range e r) n.ranges.1)
with_entry_within (entry.Write write) ns e n =
    mapped (λ writes. record ns { writes = writes }) (with_one max_list ns.writes write) (AreFew max_list _) IsNsSet
    (λ writes few. record { name = n.name; reads = n.reads; ranges = n.ranges; writes = listed _ writes few; policy_writes = n.policy_writes })
    (with_one_within _ max_list ns.writes write n.writes.1 e)
with_entry_within (entry.Policy write) ns e n =
    mapped (λ writes. record ns { policy_writes = writes }) (with_one max_list ns.policy_writes write) (AreFew max_list _) IsNsSet
    (λ writes few. record { name = n.name; reads = n.reads; ranges = n.ranges; writes = n.writes; policy_writes = listed _ writes few })
    (with_one_within _ max_list ns.policy_writes write n.policy_writes.1 e)

-- the same kind, and within the limits still
IsLike : BlockVersion → Content → Type 0
IsLike version asked = IsContent asked × IsOf version asked

in_namespaces_within : (version : BlockVersion) (change : List NsSet → Option (List NsSet)) (asked : Content)
    → ((namespaces : List NsSet) → AreItems IsNsSet namespaces → IfSome (change namespaces) (AreItems IsNsSet)) → IsContent asked → IfSome (spec.in_namespaces change asked) (IsLike version)
unfolding IsLike
in_namespaces_within version change (content.Tx namespaces) to n =
    mapped content.Tx (change namespaces) (AreItems IsNsSet) (IsLike version) (λ changed m. (m, tt)) (to namespaces n)
in_namespaces_within version change (content.Update policy) to n = tt

with_content_within : (version : BlockVersion) (keys : List book.Entry) (change : Content → Option Content) (draft : Draft) → IfSome (change draft.content) (IsLike version)
    → IsDraft version keys draft → IfSome (spec.with_content change draft) (IsDraft version keys)
unfolding IsLike
with_content_within version keys change draft like d =
    mapped (λ changed. record draft { content = changed }) (change draft.content) (IsLike version) (IsDraft version keys)
    (λ changed is. record {
      limits = record { creator = d.limits.creator; nonce = d.limits.nonce; chaincode = d.limits.chaincode; content = is.0; count = d.limits.count; endorsers = d.limits.endorsers };
      kind = is.1;
      creator_signs = d.creator_signs;
      endorsers_sign = d.endorsers_sign;
    }) like

with_namespace_within : (version : BlockVersion) (keys : List book.Entry) (name : List ℕ) (draft : Draft) → IsTrue (is_name name) → IsDraft version keys draft → IfSome (spec.with_namespace name draft) (IsDraft version keys)
with_namespace_within version keys name draft n d =
    with_content_within version keys (spec.in_namespaces (spec.one_namespace_more name)) draft
    (in_namespaces_within version (spec.one_namespace_more name) draft.content one_more d.limits.content) d
  where
    one_more : (namespaces : List NsSet) → AreItems IsNsSet namespaces → IfSome (spec.one_namespace_more name namespaces) (AreItems IsNsSet)
    one_more namespaces all =
        if_some (spec.one_namespace_more name namespaces) (AreFew max_list IsNsSet) (AreItems IsNsSet) (listed IsNsSet)
        (with_one_within IsNsSet max_list namespaces (spec.empty_namespace name) all.1
        (record { name = n; reads = (omega arith, tt); ranges = (omega arith, tt); writes = (omega arith, tt); policy_writes = (omega arith, tt) }))

with_addition_within : (version : BlockVersion) (keys : List book.Entry) (e : Entry) (draft : Draft) → IsEntry e → IsDraft version keys draft → IfSome (spec.with_addition e draft) (IsDraft version keys)
with_addition_within version keys e draft h d =
    with_content_within version keys (spec.in_namespaces (spec.one_entry_more e)) draft
    (in_namespaces_within version (spec.one_entry_more e) draft.content one_more d.limits.content) d
  where
    one_more : (namespaces : List NsSet) → AreItems IsNsSet namespaces → IfSome (spec.one_entry_more e namespaces) (AreItems IsNsSet)
    one_more namespaces all =
        if_some (spec.one_entry_more e namespaces) (AreAsMany IsNsSet namespaces) (AreItems IsNsSet) (λ changed many. as_many IsNsSet namespaces changed all many)
        (with_last_within IsNsSet (spec.with_entry e) namespaces (λ ns n. with_entry_within e ns h n) all.1)

both : {A : Type 0} (o : Option A) (P Q : A → Type 0) → IfSome o P → IfSome o Q → IfSome o (λ x. P x × Q x)
both None P Q p q = tt
both (Some x) P Q p q = (p, q)

with_endorser_within : (version : BlockVersion) (keys : List book.Entry) (endorser : Identity) (draft : Draft) → IsIdentity endorser → IsTrue (spec.can_sign keys endorser) → IsDraft version keys draft → IfSome (spec.with_endorser endorser draft) (IsDraft version keys)
unfolding AreFew
with_endorser_within version keys endorser draft e signs d =
    let Signs = λ (i : Identity). IsTrue (spec.can_sign keys i) in
    let longer = with_one max_endorsements draft.endorsers endorser in
    let few = AreFew max_endorsements IsIdentity in
    let signing = AreFew max_endorsements Signs in
    mapped (λ endorsers. record draft { endorsers = endorsers }) longer (λ es. few es × signing es) (IsDraft version keys)
    (λ endorsers all. record { limits = record { creator = d.limits.creator; nonce = d.limits.nonce; chaincode = d.limits.chaincode; content = d.limits.content; count = all.0.0; endorsers = all.0.1 }; kind = d.kind; creator_signs = d.creator_signs; endorsers_sign = all.1.1 })
    (both longer few signing (with_one_within IsIdentity max_endorsements draft.endorsers endorser d.limits.endorsers e)
    (with_one_within Signs max_endorsements draft.endorsers endorser d.endorsers_sign signs))

-- ---- all of them

record IsSoFar (version : BlockVersion) (keys : List book.Entry) (so_far : SoFar) : Type 0 where
  count : length so_far.items + length (option_to_list so_far.drafting) ≤ max_txs
  each : AllByRecursion (IsItem version keys) so_far.items
  drafting : IfSome so_far.drafting (IsDraft version keys)

in_open_within : (version : BlockVersion) (keys : List book.Entry) (change : Draft → Option Draft) (items : List Item) (drafting : Option Draft) → ((d : Draft) → IsDraft version keys d → IfSome (change d) (IsDraft version keys))
    → IsSoFar version keys (record { items = items; drafting = drafting }) → IfSome (spec.in_open change (record { items = items; drafting = drafting })) (IsSoFar version keys)
in_open_within version keys change items None to s = tt
in_open_within version keys change items (Some draft) to s =
    mapped (λ d. record { items = items; drafting = Some d }) (change draft) (IsDraft version keys) (IsSoFar version keys) (λ d h. record { count = s.count; each = s.each; drafting = h }) (to draft s.drafting)

ended_within : (version : BlockVersion) (keys : List book.Entry) (items : List Item) (drafting : Option Draft) → IsSoFar version keys (record { items = items; drafting = drafting }) → IsSoFar version keys (spec.ended (record { items = items; drafting = drafting }))
ended_within version keys items None s = record { count = omega (arith, s.count, length-append items []); each = all_append (IsItem version keys) items [] s.each tt; drafting = tt }
ended_within version keys items (Some draft) s =
    record { count = omega (arith, s.count, length-append items (Drafted draft ∷ [])); each = all_append (IsItem version keys) items (Drafted draft ∷ []) s.each (s.drafting, tt); drafting = tt }

before_within : (version : BlockVersion) (keys : List book.Entry) (ends : Bool) (so_far : SoFar) → IsSoFar version keys so_far → IsSoFar version keys (cond ends (spec.ended so_far) so_far)
before_within version keys true so_far s = ended_within version keys so_far.items so_far.drafting s
before_within version keys false so_far s = s

with_draft_within : (version : BlockVersion) (keys : List book.Entry) (draft : Draft) (so_far : SoFar) → (IsTrue (spec.can_sign keys draft.creator) → IsDraft version keys draft) → IsSoFar version keys so_far → IfSome (spec.with_draft keys draft so_far) (IsSoFar version keys)
with_draft_within version keys draft so_far d s =
    let signs = spec.can_sign keys draft.creator in
    let fits = nat_lt (length so_far.items) max_txs in
    kept (signs && fits) (record { items = so_far.items; drafting = Some draft }) (IsSoFar version keys)
    (λ test. with_room (d (and_parts signs fits test).0) s (below (length so_far.items) max_txs (and_parts signs fits test).1))
  where
    with_room : IsDraft version keys draft → IsSoFar version keys so_far → length so_far.items < max_txs → IsSoFar version keys (record { items = so_far.items; drafting = Some draft })
    with_room d s few = record { count = omega arith; each = s.each; drafting = d }

with_raw_within : (version : BlockVersion) (keys : List book.Entry) (bytes : List ℕ) (so_far : SoFar) → IsItem version keys (Raw bytes) → IsSoFar version keys so_far → IfSome (spec.with_raw bytes so_far) (IsSoFar version keys)
unfolding AreFew
with_raw_within version keys bytes so_far b s =
    mapped (λ items. record { items = items; drafting = None }) (with_one max_txs so_far.items (Raw bytes)) (AreFew max_txs (IsItem version keys)) (IsSoFar version keys)
    (λ items few. record { count = omega (arith, few.0); each = few.1; drafting = tt }) (with_one_within (IsItem version keys) max_txs so_far.items (Raw bytes) s.each b)

when : {A : Type 0} (b : Bool) (x : Option A) (P : A → Type 0) → (b ≡ true → IfSome x P) → IfSome (cond b x None) P
when true x P holds = holds refl
when false x P holds = tt

said_by_within : (version : BlockVersion) (keys : List book.Entry) (n : ℕ) (so_far : SoFar) (saying : Saying) → IsSaying version saying → IsSoFar version keys so_far → IfSome (spec.said_by keys n so_far saying) (IsSoFar version keys)
said_by_within version keys n so_far (saying.Begins creator nonce chaincode asked) h s =
    with_draft_within version keys _ so_far
    (λ signs. record { limits = record { creator = h.0; nonce = omega (arith, h.1); chaincode = h.2; content = h.3; count = omega arith; endorsers = tt }; kind = h.4; creator_signs = signs; endorsers_sign = tt }) s
said_by_within version keys n so_far (saying.Raw bytes) h s = with_raw_within version keys bytes so_far h s
said_by_within version keys n so_far (saying.Namespace name) h s =
    in_open_within version keys (spec.with_namespace name) so_far.items so_far.drafting (λ d dh. with_namespace_within version keys name d h dh) s
said_by_within version keys n so_far (saying.Adds e) h s =
    in_open_within version keys (spec.with_addition e) so_far.items so_far.drafting (λ d dh. with_addition_within version keys e d h dh) s
said_by_within version keys n so_far (saying.Endorse endorser) h s =
    when (spec.can_sign keys endorser) (spec.in_open (spec.with_endorser endorser) so_far) (IsSoFar version keys)
    (λ signs. in_open_within version keys (spec.with_endorser endorser) so_far.items so_far.drafting (λ d dh. with_endorser_within version keys endorser d h signs dh) s)

said_with_within : (version : BlockVersion) (keys : List book.Entry) (n : ℕ) (so_far : SoFar) (o : Option Saying) → IfSome o (IsSaying version) → IsSoFar version keys so_far → IfSome (option_and_then (spec.said_by keys n so_far) o) (IsSoFar version keys)
said_with_within version keys n so_far None h s = tt
said_with_within version keys n so_far (Some saying) h s = said_by_within version keys n so_far saying h s

drafted : (version : BlockVersion) (keys : List book.Entry) (so_far : SoFar) → IsSoFar version keys so_far → AreDrafted version keys so_far.items
drafted version keys so_far s = record { count = omega (arith, s.count); each = s.each }

or_stops_within : (version : BlockVersion) (keys : List book.Entry) (go : SoFar → Script) (n : ℕ) (items : List Item) (o : Option SoFar) → AreDrafted version keys items → ((s : SoFar) → IsSoFar version keys s → AreDrafted version keys (go s).items) → IfSome o (IsSoFar version keys)
    → AreDrafted version keys (spec.or_stops go n items o).items
or_stops_within version keys go n items None i to h = i
or_stops_within version keys go n items (Some s) i to h = to s h

script_from_within : (version : BlockVersion) (keys : List book.Entry) (so_far : SoFar) (text : List Statement) → IsSoFar version keys so_far → AreDrafted version keys (spec.script_from version keys so_far text).items
script_from_within version keys so_far [] s = drafted version keys (spec.ended so_far) (ended_within version keys so_far.items so_far.drafting s)
script_from_within version keys so_far (line ∷ more) s =
    let before = spec.before version line.bytes so_far in
    let b : IsSoFar version keys before = before_within version keys (spec.ends_before version line.bytes) so_far s in
    or_stops_within version keys (λ next. spec.script_from version keys next more) line.line before.items (spec.said_with version keys line.line before line.bytes) (drafted version keys before b)
    (λ next h. script_from_within version keys next more h) (said_with_within version keys line.line before (says version line.bytes) (says_within version line.bytes) b)

pub script_within : (version : BlockVersion) (keys : List book.Entry) (text : List ℕ) → AreDrafted version keys (spec.script_of version keys text).items
script_within version keys text = script_from_within version keys spec.nothing_said (statements text) (record { count = omega arith; each = tt; drafting = tt })

pub read_within : {E : Type 0} (r : Result Script E) (version : BlockVersion) (keys : List book.Entry) (text : List ℕ) → IfOk r (λ script. script ≡ spec.script_of version keys text)
    → IfOk r (λ script. AreDrafted version keys script.items)
read_within (Ok script) version keys text is = subst (λ (s : Script). AreDrafted version keys s.items) (sym is) (script_within version keys text)
read_within (Err e) version keys text is = tt
