-- Text that is added to what an output was given and a buffer keeps.
use Rattle.std.proofs.Common.{◌≡◌, ◌++◌, ◌∙◌, ℕ, List, [], Option, Some, None, sym, ap, append_assoc}
use Rattle.std.proofs.lemmas.List.{append-nil}
use Rattle.ledger_commands.specs.Kept.{Adds}

-- to what is kept alone
pub kept_too : (given : Option (List ℕ)) (kept left text : List ℕ) → left ≡ kept ++ text → Adds given kept given left text
kept_too None kept left text is = tt
kept_too (Some xs) kept left text is = ap (λ l. xs ++ l) is ∙ sym (append_assoc xs kept text)

-- a line that was kept, and what was added after it
pub line_added : (a b c : Option (List ℕ)) (kept one more left line rest : List ℕ) → one ≡ kept ++ line → Adds a one b more [] → Adds b more c left rest → Adds a kept c left (line ++ rest)
line_added None b c kept one more left line rest is first second = tt
line_added (Some x) None c kept one more left line rest is first second = absurd first
line_added (Some x) (Some y) None kept one more left line rest is first second = absurd second
line_added (Some x) (Some y) (Some z) kept one more left line rest is first second =
    let now : (y ++ more) ≡ (x ++ kept) ++ line = first ∙ (append-nil (x ++ one) ∙ (ap (λ l. x ++ l) is ∙ sym (append_assoc x kept line))) in
    second ∙ (ap (λ l. l ++ rest) now ∙ append_assoc (x ++ kept) line rest)

-- a line that was kept first, and what was added after it
pub first_kept : (a c : Option (List ℕ)) (kept one left line rest : List ℕ) → one ≡ kept ++ line → Adds a one c left rest → Adds a kept c left (line ++ rest)
first_kept None c kept one left line rest is added = tt
first_kept (Some x) None kept one left line rest is added = absurd added
first_kept (Some x) (Some z) kept one left line rest is added =
    added ∙ (ap (λ l. (x ++ l) ++ rest) is ∙ (ap (λ l. l ++ rest) (sym (append_assoc x kept line)) ∙ append_assoc (x ++ kept) line rest))
