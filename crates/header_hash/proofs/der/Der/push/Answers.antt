use Rattle.std.proofs.Common.{◌+◌, ℕ, ap, List, ◌++◌, ◌∙◌, length, take, arith}
use Rattle.std.proofs.lemmas.List.{length-take-le}
use Rattle.header_hash.specs.Der.{element}
use Rattle.header_hash.proofs.Pushed.{pushed}
use Rattle.header_hash.proofs.der.Der.push.Goals as goal

pub returns : goal.returns
returns c =
    let new = element c.args.tag c.args.contents.now in
    let front = length-take-le c.self.inside.len c.self.inside.bytes (omega arith) in
    pushed (take c.self.inside.len c.self.inside.bytes) new _ _ c.write_element.new.out c.self.inside.len (length c.args.contents.now + 2) front (omega arith) c.write_element.ensures
    ∙ ap (λ (bytes : List ℕ). bytes ++ new) c.self.view_is
