-- Whether two values are one.
use Rattle.std.specs.Prelude.{Bool, ◌&&◌, ◌==◌}
use Rattle.std.specs.Str.{bytes_eq}
use Rattle.transaction.specs.declared.identity.Identity.{Identity}
use Rattle.transaction.specs.declared.transaction.Version.{Version}
use Rattle.transaction.specs.Grammar.{role_byte}

abbrev pub is_same_identity : Identity → Identity → Bool
is_same_identity a b = bytes_eq a.org b.org && (role_byte a.role == role_byte b.role) && bytes_eq a.label b.label

abbrev pub is_same_version : Version → Version → Bool
is_same_version a b = (a.block == b.block) && (a.tx == b.tx)
