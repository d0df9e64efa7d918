-- What a script says where nobody can sign, it says whoever can: bytes as they are, and nothing else.
use Rattle.std.proofs.Common.{◌≡◌, ℕ, Bool, true, false, cond, List, [], ◌∷◌, ◌++◌, length, Option, Some, None, ap, refl, sym, subst, nat_lt}
use Rattle.std.specs.Prelude.{option_map}
use Rattle.std.specs.List.{AllByRecursion}
use Rattle.std.proofs.lemmas.List.{append-nil}
use Rattle.text_lines.specs.Lines.{Statement, statements}
use Rattle.transaction.specs.Combined.{◌>>=◌}
use Rattle.transaction.proofs.PutLoop.{all_push}
use Rattle.transaction.specs.declared.block_version.BlockVersion.{BlockVersion}
use Rattle.block.specs.Limits.{max_txs}
use Rattle.key_book.specs.Entry as book
use Rattle.scripts.specs.declared.saying.Saying.{Saying}
use Rattle.scripts.specs.declared.saying.Saying.TheVariants as saying
use Rattle.scripts.specs.declared.script.Item.{Item}
use Rattle.scripts.specs.declared.script.Item.TheVariants.{Raw, Drafted}
use Rattle.scripts.specs.declared.script.Script.{Script}
use Rattle.scripts.specs.declared.so_far.SoFar.{SoFar}
use Rattle.scripts.specs.Says.{says}
use Rattle.scripts.specs.Script.{ended, ends_before, said_by, said_with, or_stops, script_from, script_of}

abbrev pub IsRaw : Item → Type 0
IsRaw (Raw bytes) = Unit {0}
IsRaw (Drafted draft) = ⊥

abbrev pub AreRaw : List Item → Type 0
AreRaw items = AllByRecursion IsRaw items

abbrev nothing_open : List Item → SoFar
nothing_open items = record { items = items; drafting = None }

record IsClosed (so_far : SoFar) : Type 0 where
  items : List Item
  is : so_far ≡ nothing_open items
  raw : AreRaw items

-- what is said so where nobody can sign is said so by others too
abbrev Agrees : Option SoFar → Option SoFar → Type 0
Agrees None other = Unit {0}
Agrees (Some so_far) other = (other ≡ Some so_far) × IsClosed so_far

raw_by : (items : List Item) (bytes : List ℕ) → AreRaw items → (b : Bool) → let said = option_map (λ i. nothing_open i) (cond b (Some (items ++ Raw bytes ∷ [])) None) in Agrees said said
raw_by items bytes raw true = (refl, record { items = items ++ Raw bytes ∷ []; is = refl; raw = all_push IsRaw items (Raw bytes) raw tt })
raw_by items bytes raw false = tt

agree_by : (keys : List book.Entry) (n : ℕ) (items : List Item) (saying : Saying) → AreRaw items → Agrees (said_by [] n (nothing_open items) saying) (said_by keys n (nothing_open items) saying)
agree_by keys n items (saying.Begins creator nonce chaincode asked) raw = tt
agree_by keys n items (saying.Raw bytes) raw = raw_by items bytes raw (nat_lt (length items) max_txs)
agree_by keys n items (saying.Namespace name) raw = tt
agree_by keys n items (saying.Adds entry) raw = tt
agree_by keys n items (saying.Endorse endorser) raw = tt

agree_in : (keys : List book.Entry) (n : ℕ) (items : List Item) (said : Option Saying) → AreRaw items → Agrees (said >>= said_by [] n (nothing_open items)) (said >>= said_by keys n (nothing_open items))
agree_in keys n items None raw = tt
agree_in keys n items (Some saying) raw = agree_by keys n items saying raw

before_by : (items : List Item) (b : Bool) → cond b (ended (nothing_open items)) (nothing_open items) ≡ nothing_open items
before_by items true = ap (λ i. nothing_open i) (append-nil items)
before_by items false = refl

-- of what follows
pub record IsSame (mine others : Script) : Type 0 where
  pub same : others ≡ mine
  pub raw : AreRaw mine.items

module _ (version : BlockVersion) (keys : List book.Entry) where
  Follows : SoFar → List Statement → Type 0
  Follows so_far left = (script_from version [] so_far left).fault ≡ None → IsSame (script_from version [] so_far left) (script_from version keys so_far left)

  goes_on : (n : ℕ) (items : List Item) (left : List Statement) (mine others : Option SoFar) → Agrees mine others → ((more : List Item) → AreRaw more → Follows (nothing_open more) left)
      → (or_stops (λ next. script_from version [] next left) n items mine).fault ≡ None
      → IsSame (or_stops (λ next. script_from version [] next left) n items mine) (or_stops (λ next. script_from version keys next left) n items others)
  unfolding Follows
  goes_on n items left None others agrees follows none = cc
  goes_on n items left (Some so_far) others agrees follows none =
      let closed = agrees.1 in
      let there = subst (λ (s : SoFar). Follows s left) (sym closed.is) (follows closed.items closed.raw) none in
      subst (λ (o : Option SoFar). IsSame (script_from version [] so_far left) (or_stops (λ next. script_from version keys next left) n items o)) (sym agrees.0) there

  from : (left : List Statement) (items : List Item) → AreRaw items → Follows (nothing_open items) left
  unfolding Follows
  from [] items raw = λ none. record { same = refl; raw = subst AreRaw (sym (append-nil items)) raw }
  from (s ∷ left) items raw =
      let closed = before_by items (ends_before version s.bytes) in
      subst
      (λ (o : SoFar).
      (or_stops (λ next. script_from version [] next left) s.line o.items (said_with version [] s.line o s.bytes)).fault ≡ None
      → IsSame (or_stops (λ next. script_from version [] next left) s.line o.items (said_with version [] s.line o s.bytes))
      (or_stops (λ next. script_from version keys next left) s.line o.items (said_with version keys s.line o s.bytes)))
      (sym closed)
      (goes_on s.line items left (said_with version [] s.line (nothing_open items) s.bytes) (said_with version keys s.line (nothing_open items) s.bytes) (agree_in keys s.line items (says version s.bytes) raw) (from left))

-- where no line is faulty by no keys
pub unsigned : (version : BlockVersion) (keys : List book.Entry) (text : List ℕ) → (script_of version [] text).fault ≡ None → IsSame (script_of version [] text) (script_of version keys text)
unfolding Follows
unsigned version keys text none = from version keys (statements text) [] tt none
