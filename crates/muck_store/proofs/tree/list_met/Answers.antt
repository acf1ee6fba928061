use Rattle.std.proofs.Common.{◌≡◌, ◌≤◌, ℕ, suc, Option, length, sym, ◌∙◌, ap, subst, Bool, false, not, ◌&&◌}
use Rattle.std.proofs.lemmas.Bool.{and_left, and_right, not_from_true}
use Rattle.spec_live.specs.Chain.{has}
use Rattle.muck_store.specs.Whole.{chain_met, record_stands_in}
use Rattle.muck_store.proofs.Marking.{most_marked}
use Rattle.muck_store.proofs.Walking.{rest_first, rest_more, rest_stops, rest_ends}
use Rattle.muck_store.proofs.tree.list_met.Goals.{then-not-stands_in-via-then-not-stands_in, then-not-stands_in-via-else-not-stands_in+then-has}
use Rattle.muck_store.proofs.tree.list_met.Goals as goal

pub loop-at-init : goal.loop-at-init
loop-at-init c =
    let os = c.args.records.now in
    let met = c.args.met.now.numbers.items in
    let most : length met ≤ length os = subst (λ (n : ℕ). length met ≤ n) c.requires (most_marked c.args.met.now.marks.items met c.args.met.now.marked) in
    record {
      size = c.requires;
      same =
          ap (λ (o : Option ℕ). chain_met (suc (length os)) os c.args.exits c.args.p o met) (sym c.first_at-at.ensures)
          ∙ sym (rest_first os c.args.exits c.args.p c.first_at-at.result met most);
    }

pub returns-then-not-stands_in-clause-is : goal.returns-then-not-stands_in-clause-is
returns-then-not-stands_in-clause-is c =
    let os = c.args.records.now in
    let met = c.loop-at.met.numbers.items in
    let stands : Bool = record_stands_in os c.args.exits c.args.p c.in-Some.d in
    let stop : (stands && not (has c.in-Some.d met)) ≡ false = elim c.then-not-stands_in.branch [
      | then-not-stands_in-via-then-not-stands_in w ↦ and_left stands (not (has c.in-Some.d met)) (sym c.stands_in.ensures.value ∙ w.if-not-stands_in.true)
      | then-not-stands_in-via-else-not-stands_in+then-has w ↦ and_right stands (not (has c.in-Some.d met)) (not_from_true (has c.in-Some.d met) (sym w.has.ensures ∙ w.if-has.true))
    ] in
    c.loop-at.invariant.same ∙ rest_stops os c.args.exits c.args.p c.in-Some.d (length c.args.met.now.numbers.items) c.loop-at.at met c.in-Some.is stop

pub loop-at-preserved : goal.loop-at-preserved
loop-at-preserved c =
    let os = c.args.records.now in
    let more = c.push.new.self.numbers.items in
    let size : length c.push.new.self.marks.items ≡ length os = c.in_ok-push.ensures.size ∙ c.loop-at.invariant.size in
    let most : length more ≤ length os = subst (λ (n : ℕ). length more ≤ n) size (most_marked c.push.new.self.marks.items more c.push.new.self.marked) in
    record {
      size = size;
      same =
          c.loop-at.invariant.same
          ∙ rest_more os c.args.exits c.args.p c.in-Some.d (length c.args.met.now.numbers.items) c.loop-at.at c.next_at-at.result c.loop-at.met.numbers.items more
          c.in-Some.is (sym c.stands_in.ensures.value ∙ c.if-not-stands_in.false) (sym c.has.ensures ∙ c.if-has.false) c.next_at-at.ensures c.in_ok-push.ensures.ok most;
    }

pub returns-clause-is : goal.returns-clause-is
returns-clause-is c =
    c.loop-at.invariant.same ∙ rest_ends c.args.records.now c.args.exits c.args.p (length c.args.met.now.numbers.items) c.loop-at.at c.loop-at.met.numbers.items c.in_default.is
