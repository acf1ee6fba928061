use Rattle.std.proofs.Common.{◌∙◌, ◌++◌, ◌<◌, ◌≤◌, sym, ap, refl, subst, ℕ, List, take, insert, arith}
use Rattle.muck_mirror.specs.Bodies.{FedBody}
use Rattle.muck_mirror.specs.Mirrors.{ahead}
use Rattle.muck_mirror.specs.contracts.mirror.Waiting.{the_view}
use Rattle.muck_mirror.proofs.Walks.{place_more, place_here, place_end, seen_at}
use Rattle.muck_mirror.proofs.feeding.place_of.Goals as goal

abbrev body : ℕ → List ℕ → FedBody
body number payload = record { version = 1; number = number; payload = payload }

pub returns-then-ahead-far-clause-place : goal.returns-then-ahead-far-clause-place
returns-then-ahead-far-clause-place c payload =
    let b : FedBody = body c.args.number payload in
    let k = seen_at c.args.kept.now c.loop-k.k-index (the_view c.k.inside) c.k-item.result c.k.view_is c.k-item.is in
    let far : ahead c.args.next c.args.number ≤ ahead c.args.next c.k.inside.number = omega (arith, c.if-ahead-far.true, c.ahead.ensures, c.ahead-far.ensures) in
    ap (λ n. insert c.args.kept.now n b) c.loop-k.invariant.at
    ∙ sym (c.loop-k.invariant.place b refl ∙ ap (λ l. take c.loop-k.k-index c.args.kept.now ++ l) (place_here c.args.kept.now c.loop-k.k-index (the_view c.k.inside) b c.args.next c.loop-k-test.true k far))

pub loop-k-preserved : goal.loop-k-preserved
loop-k-preserved c =
    let k = seen_at c.args.kept.now c.loop-k.k-index (the_view c.k.inside) c.k-item.result c.k.view_is c.k-item.is in
    let near : ahead c.args.next c.k.inside.number < ahead c.args.next c.args.number = omega (arith, c.if-ahead-far.false, c.ahead.ensures, c.ahead-far.ensures) in record {
      at = omega (arith, c.loop-k.invariant.at);
      place = λ b is. c.loop-k.invariant.place b is
          ∙ place_more c.args.kept.now c.loop-k.k-index (the_view c.k.inside) b c.args.next c.loop-k-test.true k (subst (λ n. ahead c.args.next c.k.inside.number < ahead c.args.next n) (sym is) near);
    }

pub returns-clause-place : goal.returns-clause-place
returns-clause-place c payload =
    let b : FedBody = body c.args.number payload in
    ap (λ n. insert c.args.kept.now n b) c.loop-k.invariant.at
    ∙ sym (c.loop-k.invariant.place b refl ∙ ap (λ l. take c.loop-k.k-index c.args.kept.now ++ l) (place_end c.args.kept.now c.loop-k.k-index b c.args.next c.loop-k-test.false))
