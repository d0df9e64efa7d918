-- What a committer's answers determine, and what they leave.
use Rattle.std.proofs.Common.{◌≡◌, ◌≢◌, ℕ, zero, suc, true, false, List, [], ◌∷◌, ◌++◌, Some, Result, Ok, Err, refl, sym, ap, subst, ◌∙◌}
use Rattle.std.specs.Prelude.{slice_get}
use Rattle.std.specs.List.{AllByRecursion}
use Rattle.std.proofs.lemmas.Bool.{false≢true}
use Rattle.policy_eval.specs.Accepts.{Accepts}
use Rattle.channel.specs.Configuration.{Configuration}
use Rattle.rules.specs.declared.answer.Accepted.{Accepted}
use Rattle.rules.specs.declared.answer.Refused as rules
use Rattle.rules.specs.declared.answer.Refused.TheVariants.{Memory}
use Rattle.rules.specs.World.{World}
use Rattle.commit.specs.declared.not_committed.NotCommitted.{NotCommitted}
use Rattle.commit.specs.declared.not_committed.NotCommitted.TheVariants.{Refused, MemoryInCommit, Stopped}
use Rattle.theorem.specs.Step.{Takes}
use Rattle.theorem.specs.Promise.{Shown, first_ledger, ledger_at, newest, Submits, Runs, HadMemory}

-- ---- one answer

-- a ledger and bytes have one answer and one next ledger, out of memory aside
abbrev pub StepsAlike : Type 0
StepsAlike = (channel : Configuration) (accepts : Accepts) (old a b : World) (bytes : List ℕ) (x y : Result Accepted rules.Refused)
    → Takes channel accepts old bytes x a → Takes channel accepts old bytes y b → x ≢ Err Memory → y ≢ Err Memory → (x ≡ y) × (a ≡ b)

abbrev accepted : Accepted → Result Accepted NotCommitted
accepted a = Ok a

abbrev refused : rules.Refused → Result Accepted NotCommitted
refused r = Err (Refused r)

abbrev ledgers_accept : Accepted → Result Accepted rules.Refused
ledgers_accept a = Ok a

abbrev ledgers_refuse : rules.Refused → Result Accepted rules.Refused
ledgers_refuse r = Err r

accepted_is_no_memory : (a : Accepted) → ledgers_accept a ≢ Err Memory
accepted_is_no_memory a e = absurd cc

refused_is_no_memory : (r : rules.Refused) → HadMemory (refused r) → ledgers_refuse r ≢ Err Memory
refused_is_no_memory r m e = let same : r ≡ Memory = cc in m.0 (ap refused same)

accepted_same : (a b : Accepted) → ledgers_accept a ≡ ledgers_accept b → a ≡ b
accepted_same a b e = cc

refused_same : (a b : rules.Refused) → ledgers_refuse a ≡ ledgers_refuse b → a ≡ b
refused_same a b e = cc

accepted_or_refused : (a : Accepted) (r : rules.Refused) → ledgers_accept a ≡ ledgers_refuse r → ⊥
accepted_or_refused a r e = absurd cc

module _ (laws : StepsAlike) (accepts : Accepts) where
  -- a refusal as a step
  refusal : (s : Shown) (bytes : List ℕ) (r : rules.Refused) (new : Shown) → Submits accepts s bytes (Err (Refused r)) new → Takes s.channel accepts (newest s) bytes (Err r) (newest s)
  refusal s bytes r new h = (h.1, refl)

  apart : (old : Shown) (bytes : List ℕ) (a : Accepted) (r : rules.Refused) (new other : Shown)
      → Submits accepts old bytes (Ok a) new → Submits accepts old bytes (Err (Refused r)) other → HadMemory (refused r) → ⊥
  apart old bytes a r new other h k m =
      accepted_or_refused a r
      (laws old.channel accepts (newest old) h.1.0 (newest old) bytes (Ok a) (Err r) h.1.1 (refusal old bytes r other k) (accepted_is_no_memory a) (refused_is_no_memory r m)).0

  running : {A : Type 0} (s : Shown) → s.stopped ≡ false → s.stopped ≡ true → A
  running s going stopped = let wrong : false ≡ true = sym going ∙ stopped in absurd (false≢true wrong)

  pub submit_alike : (old a b : Shown) (bytes : List ℕ) (x y : Result Accepted NotCommitted)
      → Submits accepts old bytes x a → Submits accepts old bytes y b → HadMemory x → HadMemory y → (x ≡ y) × (a ≡ b)
  submit_alike old a b bytes (Ok x) (Ok y) h k m n =
      let same = laws old.channel accepts (newest old) h.1.0 k.1.0 bytes (Ok x) (Ok y) h.1.1 k.1.1 (accepted_is_no_memory x) (accepted_is_no_memory y) in
      (ap accepted (accepted_same x y same.0), h.1.2 ∙ (λ i. record { channel = old.channel; ledgers = old.ledgers ++ same.1 i ∷ []; stopped = old.stopped }) ∙ sym k.1.2)
  submit_alike old a b bytes (Ok x) (Err (Refused r)) h k m n = absurd (apart old bytes x r a b h k n)
  submit_alike old a b bytes (Ok x) (Err MemoryInCommit) h k m n = absurd (n.1 refl)
  submit_alike old a b bytes (Ok x) (Err Stopped) h k m n = running old h.0 k.0
  submit_alike old a b bytes (Err (Refused r)) (Ok y) h k m n = absurd (apart old bytes y r b a k h m)
  submit_alike old a b bytes (Err (Refused r)) (Err (Refused q)) h k m n =
      let same = laws old.channel accepts (newest old) (newest old) (newest old) bytes (Err r) (Err q) (refusal old bytes r a h) (refusal old bytes q b k) (refused_is_no_memory r m) (refused_is_no_memory q n) in
      (ap refused (refused_same r q same.0), h.2 ∙ sym k.2)
  submit_alike old a b bytes (Err (Refused r)) (Err MemoryInCommit) h k m n = absurd (n.1 refl)
  submit_alike old a b bytes (Err (Refused r)) (Err Stopped) h k m n = running old h.0 k.0
  submit_alike old a b bytes (Err MemoryInCommit) y h k m n = absurd (m.1 refl)
  submit_alike old a b bytes (Err Stopped) (Ok y) h k m n = running old k.0 h.0
  submit_alike old a b bytes (Err Stopped) (Err (Refused r)) h k m n = running old k.0 h.0
  submit_alike old a b bytes (Err Stopped) (Err MemoryInCommit) h k m n = absurd (n.1 refl)
  submit_alike old a b bytes (Err Stopped) (Err Stopped) h k m n = (refl, h.1 ∙ sym k.1)

  pub run_alike : (old a b : Shown) (blocks : List (List ℕ)) (xs ys : List (Result Accepted NotCommitted))
      → Runs accepts old blocks xs a → Runs accepts old blocks ys b → AllByRecursion HadMemory xs → AllByRecursion HadMemory ys → (xs ≡ ys) × (a ≡ b)
  run_alike old a b [] [] [] h k m n = (refl, h ∙ sym k)
  run_alike old a b [] [] (y ∷ ys) h k m n = absurd k
  run_alike old a b [] (x ∷ xs) ys h k m n = absurd h
  run_alike old a b (bytes ∷ blocks) [] ys h k m n = absurd h
  run_alike old a b (bytes ∷ blocks) (x ∷ xs) [] h k m n = absurd k
  run_alike old a b (bytes ∷ blocks) (x ∷ xs) (y ∷ ys) h k m n =
      let first = submit_alike old h.0 k.0 bytes x y h.1 k.1 m.0 n.0 in
      let rest = run_alike h.0 a b blocks xs ys h.2 (subst (λ (s : Shown). Runs accepts s blocks ys b) (sym first.1) k.2) m.1 n.1 in
      ((λ i. first.0 i ∷ rest.0 i), rest.1)

-- ---- what stays

pub refused_nothing : (accepts : Accepts) (old new : Shown) (bytes : List ℕ) (r : rules.Refused) → Submits accepts old bytes (Err (Refused r)) new → new ≡ old
refused_nothing accepts old new bytes r h = h.2

pub failed_nothing : (accepts : Accepts) (old new : Shown) (bytes : List ℕ) (e : NotCommitted) → Submits accepts old bytes (Err e) new → new.ledgers ≡ old.ledgers
failed_nothing accepts old new bytes (Refused r) h = ap (λ (s : Shown). s.ledgers) h.2
failed_nothing accepts old new bytes MemoryInCommit h = ap (λ (s : Shown). s.ledgers) h.2
failed_nothing accepts old new bytes Stopped h = ap (λ (s : Shown). s.ledgers) h.1

stopped_before : {A : Type 0} (s : Shown) → s.stopped ≡ true → s.stopped ≡ false → A
stopped_before s stopped going = let wrong : false ≡ true = sym going ∙ stopped in absurd (false≢true wrong)

pub stopped_stays : (accepts : Accepts) (old new : Shown) (bytes : List ℕ) (x : Result Accepted NotCommitted) → old.stopped ≡ true → Submits accepts old bytes x new → (x ≡ Err Stopped) × (new ≡ old)
stopped_stays accepts old new bytes (Ok a) stopped h = stopped_before old stopped h.0
stopped_stays accepts old new bytes (Err (Refused r)) stopped h = stopped_before old stopped h.0
stopped_stays accepts old new bytes (Err MemoryInCommit) stopped h = stopped_before old stopped h.0
stopped_stays accepts old new bytes (Err Stopped) stopped h = (refl, h.1)

there_still : {A : Type 0} (xs ys : List A) (n : ℕ) (x : A) → slice_get xs n ≡ Some x → slice_get (xs ++ ys) n ≡ Some x
there_still {A} [] ys n x e = absurd cc
there_still {A} (y ∷ xs) ys zero x e = e
there_still {A} (y ∷ xs) ys (suc n) x e = there_still xs ys n x e

pub ledger_stays : (accepts : Accepts) (old new : Shown) (bytes : List ℕ) (x : Result Accepted NotCommitted) (height : ℕ) (l : World)
    → Submits accepts old bytes x new → ledger_at old height ≡ Some l → ledger_at new height ≡ Some l
ledger_stays accepts old new bytes (Ok a) height l h there =
    ap (λ (s : Shown). ledger_at s height) h.1.2 ∙ there_still (first_ledger old ∷ old.ledgers) (h.1.0 ∷ []) height l there
ledger_stays accepts old new bytes (Err (Refused r)) height l h there = ap (λ (s : Shown). ledger_at s height) h.2 ∙ there
ledger_stays accepts old new bytes (Err MemoryInCommit) height l h there = ap (λ (s : Shown). ledger_at s height) h.2 ∙ there
ledger_stays accepts old new bytes (Err Stopped) height l h there = ap (λ (s : Shown). ledger_at s height) h.1 ∙ there

pub ledger_stays_on : (accepts : Accepts) (old new : Shown) (blocks : List (List ℕ)) (xs : List (Result Accepted NotCommitted)) (height : ℕ) (l : World)
    → Runs accepts old blocks xs new → ledger_at old height ≡ Some l → ledger_at new height ≡ Some l
ledger_stays_on accepts old new [] [] height l h there = ap (λ (s : Shown). ledger_at s height) h ∙ there
ledger_stays_on accepts old new (bytes ∷ blocks) (x ∷ xs) height l h there =
    ledger_stays_on accepts h.0 new blocks xs height l h.2 (ledger_stays accepts old h.0 bytes x height l h.1 there)
ledger_stays_on accepts old new [] (x ∷ xs) height l h there = absurd h
ledger_stays_on accepts old new (bytes ∷ blocks) [] height l h there = absurd h
