use Rattle.std.proofs.Common.{◌-◌, ◌<◌, ◌≤◌, ℕ, Some, None, length, ◌∙◌, ap, subst, Bool, cond}
use Rattle.muck_store.proofs.Marking.{most_marked}
use Rattle.muck_store.proofs.Walking.{all_more, all_stops, all_end}
use Rattle.muck_store.proofs.tree.all_met.Goals as goal

pub returns-then-not-branch : goal.returns-then-not-branch
returns-then-not-branch c =
    let os = c.args.records.now in
    let met = c.loop-i.met.numbers.items in
    let inside : c.loop-i.i < length met = subst (λ (n : ℕ). c.loop-i.i < n) c.len.ensures.is c.loop-i-test.true in
    let most : length met ≤ length os = subst (λ (n : ℕ). length met ≤ n) c.loop-i.invariant.size (most_marked c.loop-i.met.marks.items met c.loop-i.met.marked) in
    c.loop-i.invariant.same
    ∙ all_stops os c.loop-i.i c.at.result met inside most c.at.ensures
    (c.in_ok-held_met.ensures.is ∙ ap (λ (yes : Bool). cond yes (Some c.held_met.new.met.numbers.items) None) c.if-not-branch.true)

pub loop-i-preserved : goal.loop-i-preserved
loop-i-preserved c =
    let os = c.args.records.now in
    let met = c.loop-i.met.numbers.items in
    let inside : c.loop-i.i < length met = subst (λ (n : ℕ). c.loop-i.i < n) c.len.ensures.is c.loop-i-test.true in
    let most : length met ≤ length os = subst (λ (n : ℕ). length met ≤ n) c.loop-i.invariant.size (most_marked c.loop-i.met.marks.items met c.loop-i.met.marked) in
    record {
      size = c.in_ok-held_met.ensures.size;
      same =
          c.loop-i.invariant.same
          ∙ all_more os c.loop-i.i c.at.result met inside most c.at.ensures c.held_met.new.met.numbers.items
          (c.in_ok-held_met.ensures.is ∙ ap (λ (yes : Bool). cond yes (Some c.held_met.new.met.numbers.items) None) c.if-not-branch.false);
    }

pub returns : goal.returns
returns c =
    let met = c.loop-i.met.numbers.items in
    let past : length met ≤ c.loop-i.i = subst (λ (n : ℕ). n ≤ c.loop-i.i) c.len.ensures.is c.loop-i-test.false in
    c.loop-i.invariant.same ∙ all_end (length c.args.records.now - c.loop-i.i) c.args.records.now c.loop-i.i met past
