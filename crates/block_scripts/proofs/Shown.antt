-- From what a script states to the block that it drafts.
use Rattle.std.proofs.Common.{◌≡◌, ℕ, ◌≤◌, List, [], ◌∷◌, length, map, Option, Some, None, Result, Ok, Err, ap, refl, sym, ◌∙◌, subst}
use Rattle.std.specs.List.{AllByRecursion}
use Rattle.hex.specs.Hex.{IsBytes}
use Rattle.transaction.specs.Limits.{max_tx_bytes}
use Rattle.transaction.specs.declared.block_version.BlockVersion.{BlockVersion}
use Rattle.block.specs.Limits.{max_txs}
use Rattle.block.specs.Grammar.{bytes_of}
use Rattle.key_book.specs.Entry.{Entry}
use Rattle.scripts.specs.declared.script.Item.{Item}
use Rattle.scripts.specs.declared.script.Item.TheVariants.{Raw, Drafted}
use Rattle.scripts.specs.RawLines.{raw_lines}
use Rattle.scripts.specs.Script.{script_of}
use Rattle.scripts.proofs.RawLines.{raw_script}
use Rattle.scripts.proofs.Unsigned.{AreRaw, unsigned}
use Rattle.drafts.specs.declared.fault.DraftFault.{DraftFault}
use Rattle.drafts.specs.DraftBlock.{◌>>=◌, items_bytes, or_line, script_txs, txs_of, block_after}
use Rattle.block_scripts.specs.Shown.{Shows}

pub shows : (keys : List Entry) (channel : List ℕ) (version : BlockVersion) (txs : List (List ℕ)) (text : List ℕ) → txs_of version keys channel text ≡ Ok txs → Shows keys channel version txs text
shows keys channel version txs text said = λ previous. ap (λ (r : Result (List (List ℕ)) DraftFault). r >>= λ t. Ok (bytes_of (block_after version previous t))) said

raw_bytes : (keys : List Entry) (channel : List ℕ) (txs : List (List ℕ)) → items_bytes keys channel (map Raw txs) ≡ Ok txs
raw_bytes keys channel [] = refl
raw_bytes keys channel (tx ∷ txs) = ap (λ (r : Result (List (List ℕ)) DraftFault). r >>= λ others. Ok (tx ∷ others)) (raw_bytes keys channel txs)

-- a line for each states them
pub raw_lines_say : (keys : List Entry) (channel : List ℕ) (version : BlockVersion) (txs : List (List ℕ)) → AllByRecursion IsBytes txs → length txs ≤ max_txs → AllByRecursion (λ tx. length tx ≤ max_tx_bytes) txs
    → txs_of version keys channel (raw_lines txs) ≡ Ok txs
raw_lines_say keys channel version txs bytes count short =
    ap (script_txs keys channel) (raw_script version keys txs bytes count short) ∙ ap (λ (r : Result (List (List ℕ)) DraftFault). r >>= or_line None) (raw_bytes keys channel txs)

pub raw_shows : (keys : List Entry) (channel : List ℕ) (version : BlockVersion) (txs lent : List (List ℕ)) (text : List ℕ) → lent ≡ txs → text ≡ raw_lines lent → AllByRecursion IsBytes lent → length txs ≤ max_txs
    → AllByRecursion (λ tx. length tx ≤ max_tx_bytes) txs → Shows keys channel version txs text
raw_shows keys channel version txs lent text same is bytes count short =
    let said = raw_lines_say keys channel version txs (subst (AllByRecursion IsBytes) same bytes) count short in
    subst (Shows keys channel version txs) (sym (is ∙ ap raw_lines same)) (shows keys channel version txs (raw_lines txs) said)

same_bytes : (keys : List Entry) (channel other : List ℕ) (items : List Item) → AreRaw items → items_bytes keys channel items ≡ items_bytes [] other items
same_bytes keys channel other [] raw = refl
same_bytes keys channel other (Raw bytes ∷ items) raw = ap (λ (r : Result (List (List ℕ)) DraftFault). r >>= λ others. Ok (bytes ∷ others)) (same_bytes keys channel other items raw.1)
same_bytes keys channel other (Drafted draft ∷ items) raw = absurd raw.0

no_fault : (r : Result (List (List ℕ)) DraftFault) (fault : Option ℕ) (txs : List (List ℕ)) → (r >>= or_line fault) ≡ Ok txs → fault ≡ None
no_fault (Ok found) None txs said = refl
no_fault (Ok found) (Some n) txs said = cc
no_fault (Err e) fault txs said = cc

-- what is stated without anybody's keys is stated on each channel and by all keys
pub any_says : (keys : List Entry) (channel other : List ℕ) (version : BlockVersion) (txs : List (List ℕ)) (text : List ℕ) → txs_of version [] other text ≡ Ok txs → txs_of version keys channel text ≡ Ok txs
any_says keys channel other version txs text said =
    let mine = script_of version [] text in
    let whole = unsigned version keys text (no_fault (items_bytes [] other mine.items) mine.fault txs said) in
    ap (script_txs keys channel) whole.same ∙ ap (λ (r : Result (List (List ℕ)) DraftFault). r >>= or_line mine.fault) (same_bytes keys channel other mine.items whole.raw) ∙ said
