-- The last receipt of blocks that are handed in.
use Rattle.std.proofs.Common.{◌≡◌, ◌++◌, ◌∷◌, ℕ, List, [], Option, Some, None, Result, Ok, Err, IfSome, max, option_and_then, refl, sym, subst}
use Rattle.std.specs.List.{All}
use Rattle.std.proofs.lemmas.List.Elements.{All-head, All-tail}
use Rattle.policy_eval.specs.Accepts.{Accepts}
use Rattle.logbook.specs.Pages.{Book}
use Rattle.query.specs.declared.receipt.Receipt.{Receipt}
use Rattle.commit.specs.declared.not_committed.NotCommitted.{NotCommitted}
use Rattle.commit.specs.Committing.{Committing}
use Rattle.command_line.specs.declared.committing.Committed.{Committed}
use Rattle.command_line.specs.declared.lines.Style.{Style}
use Rattle.command_line.specs.Handing.{AreHandedIn, last_receipt, worst_of}
use Rattle.command_line.specs.Lines.{status_of}
use Rattle.command_line.proofs.Books.{IsFor, are_for}

pub last_receipt-behind : (before : Option Receipt) (answers others : List (Result Receipt NotCommitted)) → last_receipt (last_receipt before answers) others ≡ last_receipt before (answers ++ others)
last_receipt-behind before [] others = refl
last_receipt-behind before (Ok receipt ∷ answers) others = last_receipt-behind (Some receipt) answers others
last_receipt-behind before (Err why ∷ answers) others = last_receipt-behind before answers others

-- one answer, and then the others
worst-by : (so_far next : ℕ) (of_one : Option ℕ) (answers : List (Result Receipt NotCommitted)) (end : Option ℕ)
    → option_and_then (λ status. worst_of (max so_far status) []) of_one ≡ Some next → worst_of next answers ≡ end → option_and_then (λ status. worst_of (max so_far status) answers) of_one ≡ end
worst-by so_far next None answers end one others = absurd cc
worst-by so_far next (Some status) answers end one others = subst (λ n. worst_of n answers ≡ end) (sym (some-inj one)) others
  where
    some-inj : {m n : ℕ} → Some m ≡ Some n → m ≡ n
    some-inj e = cc

pub worst_of-behind : (so_far next : ℕ) (answer : Result Receipt NotCommitted) (answers : List (Result Receipt NotCommitted)) (end : Option ℕ)
    → worst_of so_far (answer ∷ []) ≡ Some next → worst_of next answers ≡ end → worst_of so_far (answer ∷ answers) ≡ end
worst_of-behind so_far next answer answers end one others = worst-by so_far next (status_of answer) answers end one others

last_receipt-is_for : (book : Book) (before : Option Receipt) (answers : List (Result Receipt NotCommitted)) → IfSome before (λ r. r.front.book ≡ book) → All (IsFor book) answers → IfSome (last_receipt before answers) (λ r. r.front.book ≡ book)
last_receipt-is_for book before [] is are = is
last_receipt-is_for book before (Ok receipt ∷ answers) is are = last_receipt-is_for book (Some receipt) answers (All-head (IsFor book) (Ok receipt) answers are) (All-tail (IsFor book) (Ok receipt) answers are)
last_receipt-is_for book before (Err why ∷ answers) is are = last_receipt-is_for book before answers is (All-tail (IsFor book) (Err why) answers are)

-- the last receipt is for the handles of the committer
pub last_is_for : (accepts : Accepts) (style : Style) (old new : Committing) (from to : Option (List ℕ)) (blocks : List (List ℕ)) (committed : Committed)
    → AreHandedIn accepts style old from blocks committed new to → IfSome committed.last (λ r. r.front.book ≡ old.book)
last_is_for accepts style old new from to blocks committed handed =
    subst (λ (l : Option Receipt). IfSome l (λ r. r.front.book ≡ old.book)) (sym handed.is_last)
    (last_receipt-is_for old.book None handed.answers tt (are_for accepts old new blocks handed.answers handed.runs))
