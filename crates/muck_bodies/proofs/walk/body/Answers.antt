use Rattle.std.proofs.Common.{◌∙◌, ◌+◌, ◌-◌, ◌≤◌, Some, None, true, false, length, take, drop, sym, ap, subst, arith}
use Rattle.std.specs.Prelude.{IfSome}
use Rattle.std.proofs.lemmas.List.{drop-drop}
use Rattle.std.proofs.lemmas.Bool.{eq-eqb, ne_eqb}
use Rattle.muck_bodies.specs.Bodies.{bodies_of, body_numbered}
use Rattle.muck_bodies.specs.declared.head.Head.{Head}
use Rattle.muck_bodies.specs.inner.Heads.{IsHead}
use Rattle.muck_log.proofs.Mounting.{quiet_too}
use Rattle.muck_bodies.proofs.Heads.{found_none, found_end, found_next}
use Rattle.muck_bodies.proofs.walk.body.Goals as goal

pub returns-in_default-clause-found : goal.returns-in_default-clause-found
returns-in_default-clause-found g c t =
    let s = g.D.Disk.seen c.args.disk.now in
    let end = c.loop-at.invariant.end t ∙ ap length (sym (c.loop-at.invariant.seen t)) in
    let h : IsHead c.in_ok-head.field-0 (drop c.loop-at.at s) = subst (λ l. IsHead c.in_ok-head.field-0 (drop c.loop-at.at l)) (c.loop-at.invariant.seen t) (c.in_ok-head.ensures.head t end) in
    let none : IsHead None (drop c.loop-at.at s) = subst (λ o. IsHead o (drop c.loop-at.at s)) c.in_default.is h in
    sym (found_none c.args.number (drop c.loop-at.at s) none) ∙ c.loop-at.invariant.found t

pub returns-then-head-number-clause-found : goal.returns-then-head-number-clause-found
returns-then-head-number-clause-found g c t =
    let s = g.D.Disk.seen c.args.disk.now in
    let end = c.loop-at.invariant.end t ∙ ap length (sym (c.loop-at.invariant.seen t)) in
    let h : IsHead c.in_ok-head.field-0 (drop c.loop-at.at s) = subst (λ l. IsHead c.in_ok-head.field-0 (drop c.loop-at.at l)) (c.loop-at.invariant.seen t) (c.in_ok-head.ensures.head t end) in
    let w : IsHead (Some c.in-Some.head) (drop c.loop-at.at s) = subst (λ o. IsHead o (drop c.loop-at.at s)) c.in-Some.is h in
    ap Some (c.in_ok-bytes.ensures.bytes t ∙ ap (λ l. take c.in-Some.head.size (drop (c.loop-at.at + 9) l)) (c.read_head.ensures.seen t ∙ c.loop-at.invariant.seen t) ∙ ap (take c.in-Some.head.size) (sym (drop-drop 9 c.loop-at.at s)))
    ∙ sym (found_next c.args.number c.in-Some.head.size c.in-Some.head.number (drop c.loop-at.at s) true w.fits w.number w.first (eq-eqb _ _ c.if-head-number.true)) ∙ c.loop-at.invariant.found t

pub loop-at-preserved : goal.loop-at-preserved
loop-at-preserved g c =
    let inside : 9 + c.in-Some.head.size ≤ c.in_ok-end.end - c.loop-at.at = subst (λ o. IfSome o (λ (x : Head). 9 + x.size ≤ c.in_ok-end.end - c.loop-at.at)) c.in-Some.is c.in_ok-head.ensures.inside in record {
      within = omega (arith, inside, c.loop-at-test.true);
      end = c.loop-at.invariant.end;
      found = λ t.
          let s = g.D.Disk.seen c.args.disk.now in
          let end = c.loop-at.invariant.end t ∙ ap length (sym (c.loop-at.invariant.seen t)) in
          let h : IsHead c.in_ok-head.field-0 (drop c.loop-at.at s) = subst (λ l. IsHead c.in_ok-head.field-0 (drop c.loop-at.at l)) (c.loop-at.invariant.seen t) (c.in_ok-head.ensures.head t end) in
          let w : IsHead (Some c.in-Some.head) (drop c.loop-at.at s) = subst (λ o. IsHead o (drop c.loop-at.at s)) c.in-Some.is h in
          ap (λ l. body_numbered c.args.number (bodies_of l)) (sym (drop-drop (9 + c.in-Some.head.size) c.loop-at.at s))
          ∙ sym (found_next c.args.number c.in-Some.head.size c.in-Some.head.number (drop c.loop-at.at s) false w.fits w.number w.first (ne_eqb _ _ c.if-head-number.false)) ∙ c.loop-at.invariant.found t;
      seen = λ t. c.read_head.ensures.seen t ∙ c.loop-at.invariant.seen t;
      any = λ t. quiet_too g.D.Disk.seen g.D.Disk.moment g.D.Disk.images c.args.disk.now c.loop-at.disk c.read_head.new.disk (c.loop-at.invariant.any t) (c.read_head.ensures.any t);
      attached = c.read_head.ensures.attached ∙ c.loop-at.invariant.attached;
      later = omega (arith, c.loop-at.invariant.later, c.read_head.ensures.later);
    }

pub returns-clause-found : goal.returns-clause-found
returns-clause-found g c t =
    sym (found_end c.args.number c.loop-at.at (g.D.Disk.seen c.args.disk.now) (omega (arith, c.loop-at-test.false, c.loop-at.invariant.end t))) ∙ c.loop-at.invariant.found t
