use Rattle.std.proofs.Common.{◌≡◌, ℕ, List, [], ◌∷◌, ◌++◌, Some, None, ◌∙◌, ap, Bool, cond}
use Rattle.muck_store.proofs.Walking.{tree_stops, tree_met}
use Rattle.muck_store.proofs.tree.is_tree.Goals as goal

pub returns-then-not-branch : goal.returns-then-not-branch
returns-then-not-branch c =
    let first : c.push.new.self.numbers.items ≡ 0 ∷ [] = c.in_ok-push.ensures.ok ∙ ap (λ (l : List ℕ). l ++ 0 ∷ []) c.in_ok-met.ensures.none in
    tree_stops c.args.records.now c.push.new.self.numbers.items first
    (c.in_ok-all_met.ensures ∙ ap (λ (yes : Bool). cond yes (Some c.all_met.new.met.numbers.items) None) c.if-not-branch.true)

pub returns : goal.returns
returns c =
    let first : c.push.new.self.numbers.items ≡ 0 ∷ [] = c.in_ok-push.ensures.ok ∙ ap (λ (l : List ℕ). l ++ 0 ∷ []) c.in_ok-met.ensures.none in
    tree_met c.args.records.now c.push.new.self.numbers.items c.all_met.new.met.numbers.items c.len.result c.count_there.result first
    (c.in_ok-all_met.ensures ∙ ap (λ (yes : Bool). cond yes (Some c.all_met.new.met.numbers.items) None) c.if-not-branch.false)
    c.len.ensures.is c.count_there.ensures
