use Rattle.std.proofs.Common.{◌≡◌, ℕ, ◌+◌, ◌<◌, List, length, refl, sym, ap, ◌∙◌, subst, arith, []}
use Rattle.std.proofs.lemmas.Bool.{false≢true}
use Rattle.turn_lock.specs.Histories.{Has}
use Rattle.turn_lock.specs.inner.Turns.{left_after, newcomer}
use Rattle.muck_machine.specs.inner.Seats.{Sight, Chair}
use Rattle.muck_crew.specs.inner.Parts.{AreDealt, given_to}
use Rattle.muck_crew.proofs.Seating.{given_low, given_count, given_next, given_place, newcomer_given, dealt_none, dealt_next}
use Rattle.muck_crew.proofs.seats.deal.Goals as goal

pub loop-number-init : goal.loop-number-init
loop-number-init c = record { lock = refl; first = c.requires.own.1; me = refl; room = c.requires.room; dealt = dealt_none _ _ _ c.requires.none }

pub split-requires-clause-own : goal.split-requires-clause-own
split-requires-clause-own c = (c.loop-number.invariant.lock ∙ c.requires.own.0, c.loop-number.invariant.first)

pub split-requires-clause-idle : goal.split-requires-clause-idle
split-requires-clause-idle c =
    let me = c.loop-number.invariant.me in
    let count = ap (λ (m : Chair). m.0.given) me in
    let many = given_count c.loop-number.number c.args.seat.now.me.0 c.requires.idle.1 in (
      ap (λ (m : Chair). m.0.place) me ∙ given_place c.loop-number.number c.args.seat.now.me.0 ∙ c.requires.idle.0,
      subst (λ (ps : List ℕ). length ps < 9) (sym count) (omega (arith, many, c.loop-number-test.true, c.requires.few)),
    )

pub split-requires-clause-fresh : goal.split-requires-clause-fresh
split-requires-clause-fresh c =
    let n = c.loop-number.number in
    let v = c.args.seat.now.me.0 in (
      (λ e. omega (arith, e)),
      (λ h. let low = given_low n v (n + 1) c.requires.idle.1 (subst (λ (m : Chair). Has m.0.given (n + 1)) c.loop-number.invariant.me h) in omega (arith, low.1)),
    )

pub unreachable-requires : goal.unreachable-requires
unreachable-requires c = false≢true (c.in_default.ensures.succeeds (omega (arith, c.loop-number.invariant.dealt.count, c.loop-number.invariant.room, c.loop-number-test.true)))

pub loop-number-preserved : goal.loop-number-preserved
loop-number-preserved c =
    let inv = c.loop-number.invariant in
    let n = c.loop-number.number in
    let v = c.args.seat.now.me.0 in record {
      lock = c.split.ensures.own.0 ∙ inv.lock;
      first = c.split.ensures.own.1;
      me = c.split.ensures.first ∙ ap (λ (m : Chair). (left_after (n + 1) m.0, m.1)) inv.me
          ∙ ap (λ (u : Sight). (u, c.args.seat.now.me.1)) (sym (given_next n (n + 1) v (omega arith)));
      room = omega (arith, inv.room, c.in-Ok.ensures.capacity);
      dealt = dealt_next _ n (n + 1) v _ _ _ (omega arith) inv.dealt
          (record {
            lock = c.split.ensures.own.2 ∙ inv.lock;
            number = refl;
            me = c.split.ensures.second ∙ ap (λ (m : Chair). (newcomer (n + 1) m.0, [])) inv.me ∙ ap (λ (u : Sight). (u, [])) (newcomer_given n (n + 1) v);
          })
          c.in-Ok.ensures.items;
    }

pub returns-clause-own : goal.returns-clause-own
returns-clause-own c = (c.loop-number.invariant.lock, c.loop-number.invariant.first)

pub returns-clause-first : goal.returns-clause-first
returns-clause-first c =
    let all : c.loop-number.number ≡ c.args.workers = omega (arith, c.loop-number.auto.number-end, c.loop-number-test.false) in
    c.loop-number.invariant.me ∙ ap (λ (n : ℕ). (given_to n c.args.seat.now.me.0, c.args.seat.now.me.1)) all

pub returns-clause-parts : goal.returns-clause-parts
returns-clause-parts c =
    let all : c.loop-number.number ≡ c.args.workers = omega (arith, c.loop-number.auto.number-end, c.loop-number-test.false) in
    subst (λ (n : ℕ). AreDealt c.args.seat.now.table_id n c.args.seat.now.me.0 c.loop-number.parts.all.items) all c.loop-number.invariant.dealt
