use Rattle.std.proofs.Common.{◌≡◌, ◌∙◌, List, ℕ, length, map, subst, sym}
use Rattle.std.specs.FinMap.{entries}
use Rattle.std.specs.List.{AllByRecursion, filter}
use Rattle.muck_prop.specs.Store.{IsKept, path_behind}
use Rattle.muck_prop.proofs.Listing.{all_is, goes_on}
use Rattle.muck_prop.proofs.Maps.{entries_are}
use Rattle.muck_prop.proofs.props.Props.all.Goals as goal

pub returns-clause-list : goal.returns-clause-list
returns-clause-list c =
    let list = subst (λ (dir : List (List ℕ)). c.in_ok-list.list ≡ map (path_behind (length dir)) (filter (goes_on dir) c.self.inside.values.entries)) c.in_ok-top.ensures c.in_ok-list.ensures.list in
    list
    ∙ all_is c.self.inside.values.entries c.in_ok-list.ensures.ordered c.self.invariant
    ∙ (λ i. map (path_behind 0) (entries (c.self.view_is i)))

pub returns-clause-kept : goal.returns-clause-kept
returns-clause-kept c =
    subst (λ es. AllByRecursion IsKept es) (sym (entries_are c.self.inside.values.entries c.in_ok-list.ensures.ordered) ∙ (λ i. entries (c.self.view_is i))) c.self.invariant
