use Rattle.std.proofs.Common.{◌≡◌, [], ◌∷◌, ◌++◌, subst, ◌∙◌}
use Rattle.state_db.specs.Need.{AreEmpty}
use Rattle.state_db.proofs.Opened.{empty_last}
use Rattle.state_db.proofs.apply.begin.Goals as goal

pub returns-clause-ok : goal.returns-clause-ok
returns-clause-ok c =
    let none : c.in-Some.page ≡ [] = (empty_last c.pop.new.self.items c.in-Some.page (subst AreEmpty c.in-Some.ensures.items c.stock.ensures.empty)).1 in
    c.push_reserved.ensures.items ∙ (λ i. (c.reserve.ensures.items ∙ c.requires.none) i ++ none i ∷ [])

pub returns-clause-empty : goal.returns-clause-empty
returns-clause-empty c = (empty_last c.pop.new.self.items c.in-Some.page (subst AreEmpty c.in-Some.ensures.items c.stock.ensures.empty)).0
