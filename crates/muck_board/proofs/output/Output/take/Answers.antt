use Rattle.std.proofs.Common.{◌≡◌, ◌<◌, ◌≤◌, arith, ap, sym, ◌∙◌, refl, length, drop, length-drop}
use Rattle.spec_live.specs.Output.{bytes_of, output_taken}
use Rattle.muck_board.proofs.Outputs.{taken_left, taken_more, taken_rest, took, rest_within}
use Rattle.muck_board.proofs.output.Output.take.Goals as goal

pub loop-n-init : goal.loop-n-init
loop-n-init c = record { left = sym (taken_rest 0 c.args.self.now (omega arith)); there = omega arith; bytes = refl; within = omega arith; len = refl }

pub returns-then-not-begin-clause-count : goal.returns-then-not-begin-clause-count
returns-then-not-begin-clause-count c =
    let all = bytes_of c.args.self.now in
    let left = sym (ap bytes_of c.loop-n.invariant.left ∙ taken_left c.loop-n.n c.args.self.now) ∙ c.if-not-begin.ensures.begun.0 in
    omega (arith, ap length left, length-drop c.loop-n.n all, c.loop-n.invariant.there, c.loop-n.invariant.len)

pub returns-then-not-begin-clause-left : goal.returns-then-not-begin-clause-left
returns-then-not-begin-clause-left c = c.begin.ensures.same ∙ ap bytes_of c.loop-n.invariant.left ∙ taken_left c.loop-n.n c.args.self.now

pub loop-n-preserved : goal.loop-n-preserved
loop-n-preserved c =
    let o = c.args.self.now in
    let n = c.loop-n.n in
    let k = c.take_begun-n.result in
    let inv = c.loop-n.invariant in
    let within : k ≤ length c.begin.new.self.rest = omega (arith, c.take_begun-n.ensures.count) in
    let some : 0 < k = omega (arith, c.take_begun-n.ensures.count, c.if-not-begin.ensures.begun, inv.len, inv.within) in
    let behind : bytes_of c.begin.new.self ≡ drop n (bytes_of o) = c.begin.ensures.same ∙ ap bytes_of inv.left ∙ taken_left n o in
    record {
      left = c.take_begun-n.ensures.rest ∙ sym (taken_rest k c.begin.new.self within) ∙ c.begin.ensures.taken k some ∙ ap (output_taken k) inv.left ∙ taken_more k n o;
      there = omega (arith, within, rest_within c.begin.new.self, ap length behind, length-drop n (bytes_of o), inv.there);
      bytes = took n k (bytes_of o) _ _ c.begin.new.self behind within inv.bytes c.take_begun-n.ensures.bytes;
      within = omega (arith, c.take_begun-n.ensures.count, c.take_begun-n.ensures.len, inv.within);
      len = c.take_begun-n.ensures.len ∙ inv.len;
    }

pub returns-clause-left : goal.returns-clause-left
returns-clause-left c = ap bytes_of c.loop-n.invariant.left ∙ taken_left c.loop-n.n c.args.self.now
