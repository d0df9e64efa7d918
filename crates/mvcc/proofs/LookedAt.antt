-- A key that one read of a list looks at.
use Rattle.std.proofs.Common.{◌≡◌, ℕ, ◌<◌, true, List, length, get_or, None, refl}
use Rattle.std.specs.Str.{bytes_eq}
use Rattle.std.specs.Cmp.Lexicographic.{bytes_decides}
use Rattle.transaction.specs.declared.transaction.Read.{Read}
use Rattle.rules.specs.Job.{Job}
use Rattle.rules.specs.Depends.{VersionDepends}
use Rattle.key_chains.specs.Known.{Known}
use Rattle.mvcc.specs.Waiting.{WaitsFor, reads_at}
use Rattle.mvcc.proofs.EachTested.{any_at}

same_bytes : (bs : List ℕ) → bytes_eq bs bs ≡ true
same_bytes bs = (bytes_decides bs bs).1 refl

module _ (j : Job) (known : Known) (i h : ℕ) (namespace : List ℕ) where
  pub of_read : (reads : List Read) (n : ℕ) (r : Read) → n < length reads → r ≡ get_or reads n r → VersionDepends j (namespace, r.key) i h × (known.flag h ≡ None) → WaitsFor j known i (reads_at namespace reads) h
  of_read reads n r within is (depends, unknown) = record {
    key = (namespace, r.key);
    is_looked_at = rw (same_bytes namespace, any_at (λ (x : Read). bytes_eq r.key x.key) reads n r within is (same_bytes r.key)) refl;
    depends = depends;
    unknown = unknown;
  }
