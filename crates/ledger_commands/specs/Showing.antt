-- What `show` prints, from what the files hold.
use Rattle.std.specs.Prelude.{◌≡◌, ◌⊎◌, ℕ, zero, suc, Bool, true, false, ◌&&◌, if◌then◌else◌, List, [], ◌∷◌, ◌++◌, codes, Option, Some, None}
use Rattle.std.specs.Fmt.{decimal}
use Rattle.std.specs.Io.KnownBytes.{Appends}
use Rattle.block.specs.Faults.{HasFault}
use Rattle.block.specs.Grammar.{Spells}
use Rattle.block.specs.declared.block.Block.{Block}
use Rattle.block.specs.declared.fault.BlockFault.{BlockFault}
use Rattle.block_scripts.specs.Shown.{Shows}
use Rattle.key_book.specs.Entry.{Entry}
use Rattle.rules.specs.declared.answer.Refused.TheVariants.{Malformed}
use Rattle.cli_lines.specs.BlockLines.{refusal_of, refusal_text}
use Rattle.cli_lines.specs.declared.refusal.Refusal.{Refusal}
use Rattle.cli_words.specs.declared.paths.ConfigurationPaths.{ConfigurationPaths}
use Rattle.cli_words.specs.declared.show.Show.{Show}
use Rattle.command_files.specs.Reading.{AreHeld, HoldConfiguration}
use Rattle.command_files.specs.declared.inputs.Configuration.{Configuration}

-- Drafted again, on the channel and by the keys if these are known, else on any channel by any keys, the text gives the block's
-- transactions.
abbrev pub ShowsBy : Option Configuration → Block → List ℕ → Type 0
ShowsBy (Some known) block text = Shows known.keys known.channel.name block.version block.txs text
ShowsBy None block text = (keys : List Entry) → (channel : List ℕ) → Shows keys channel block.version block.txs text

-- the string spells a block, and this is its script
pub record IsScriptOf (known : Option Configuration) (bytes text : List ℕ) : Type 0 where
  pub block : Block
  pub spelled : Spells bytes block
  pub shows : ShowsBy known block text

abbrev pub fault_line : ℕ → Refusal → ℕ → List ℕ
fault_line place why byte = codes "# refused " ++ (decimal place ++ (codes " " ++ (refusal_text why ++ (codes " at byte " ++ (decimal byte ++ codes "\n")))))

-- the line for a fault; of its byte nothing is said
pub record IsFaultLine (place : ℕ) (fault : BlockFault) (text : List ℕ) : Type 0 where
  pub why : Refusal
  pub is_why : refusal_of (Malformed fault) ≡ Some why
  pub byte : ℕ
  pub is_text : text ≡ fault_line place why byte

-- What is printed for the string at a place, from 1, and whether it spells a block.
abbrev pub IsShownAs : Option Configuration → ℕ → List ℕ → List ℕ → Bool → Type 0
IsShownAs known place bytes text is_block =
    (IsScriptOf known bytes text × (is_block ≡ true)) ⊎ ((fault : BlockFault) × HasFault bytes fault × IsFaultLine place fault text × (is_block ≡ false))

-- before each string but the first
abbrev pub separator : ℕ → List ℕ
separator zero = []
separator (suc before) = codes "\n"

-- what is printed for byte strings after `before` others, and whether all are blocks
abbrev pub AreShown : Option Configuration → ℕ → List (List ℕ) → List ℕ → Bool → Type 0
AreShown known before [] text are_blocks = (text ≡ []) × (are_blocks ≡ true)
AreShown known before (bytes ∷ more) text are_blocks =
    (one rest : List ℕ) × (is_block others : Bool) × IsShownAs known (suc before) bytes one is_block × AreShown known (suc before) more rest others × (text ≡ (separator before ++ one) ++ rest)
    × (are_blocks ≡ (is_block && others))

-- the channel and the keys that the words name, if they do
abbrev pub IsKnown : (List ℕ → List ℕ → Type 0) → Option ConfigurationPaths → Option Configuration → Type 0
IsKnown Holds None known = known ≡ None
IsKnown Holds (Some paths) known = (configuration : Configuration) × HoldConfiguration (Holds paths.channel.now) (Holds paths.keys.now) configuration.channel configuration.keys × (known ≡ Some configuration)

pub record Prints (known : Option Configuration) (blocks : List (List ℕ)) (before : Option (List ℕ)) (are_blocks : Bool) (now : Option (List ℕ)) : Type 0 where
  pub text : List ℕ
  pub shown : AreShown known 0 blocks text are_blocks
  pub written : Appends before now text

-- `show` on these words, if files hold what `Holds` says
pub record ShowsFiles (Holds : List ℕ → List ℕ → Type 0) (words : Show) (before : Option (List ℕ)) (status : ℕ) (now : Option (List ℕ)) : Type 0 where
  pub known : Option Configuration
  pub is_known : IsKnown Holds words.configuration known
  pub blocks : List (List ℕ)
  pub held : AreHeld (λ path. Holds path.now) words.blocks.items blocks
  pub are_blocks : Bool
  pub prints : Prints known blocks before are_blocks now
  pub is_status : status ≡ (if are_blocks then 0 else 1)
