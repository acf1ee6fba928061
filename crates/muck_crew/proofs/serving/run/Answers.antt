use Rattle.std.proofs.Common.{◌≡◌, ℕ, ◌<◌, List, [], ◌∷◌, length, sym, ap, ◌∙◌, subst, arith}
use Rattle.turn_lock.specs.Histories.{Has}
use Rattle.turn_lock.specs.inner.Turns.{left_after, newcomer}
use Rattle.spec_events.specs.Histories.{History}
use Rattle.muck_machine.specs.inner.Seats.{Chair}
use Rattle.muck_porter.specs.inner.Kept.{account}
use Rattle.muck_crew.specs.declared.seats.Part.{Part}
use Rattle.muck_crew.specs.inner.Parts.{all_in}
use Rattle.muck_crew.specs.inner.Runs.{IsEndOf}
use Rattle.muck_crew.proofs.Seating.{given_low, given_count, given_place}
use Rattle.muck_crew.proofs.Closing.{Begins, fresh_logged, ready_porter, ready_dumper, ready_parts}
use Rattle.muck_crew.proofs.Ending.{Shut, over_done, all_taken, last_place, stands, has_run}
use Rattle.muck_crew.proofs.serving.run.Goals as goal

-- the first seat, as the lock gives it
begins : (v : Chair) (world : History) → (v.0.party ≡ 0) → v.0.place ≡ Rattle.turn_lock.specs.declared.view.Place.TheVariants.Idle → v.1 ≡ [] → v.0.seen ≡ [] → v.0.own ≡ [] → v.0.root ≡ Rattle.muck_machine.specs.inner.Beginnings.beginning world ∷ [] → v.0.given ≡ [] → v.0.joined ≡ [] → Begins v world
begins v world party idle free unseen unowned root ungiven unjoined = record { free = free; idle = idle; party = party; unseen = unseen; unowned = unowned; root = root; ungiven = ungiven; unjoined = unjoined }

pub new-requires : goal.new-requires
new-requires g c = fresh_logged c.requires.fresh.0 c.args.world c.requires.fresh.1

pub split-other-requires-clause-idle : goal.split-other-requires-clause-idle
split-other-requires-clause-idle g c =
    let v = c.in_ok-turn.seat.me.0 in
    let me = c.deal.ensures.first in
    let many = given_count c.args.workers v c.in_ok-turn.ensures.alone.0 in (
      ap (λ (m : Chair). m.0.place) me ∙ given_place c.args.workers v ∙ c.in_ok-turn.ensures.party.1,
      subst (λ (ps : List ℕ). length ps < 9) (sym (ap (λ (m : Chair). m.0.given) me)) (omega (arith, many, c.requires.few)),
    )

pub split-other-requires-clause-fresh : goal.split-other-requires-clause-fresh
split-other-requires-clause-fresh g c =
    let v = c.in_ok-turn.seat.me.0 in (
      (λ e. omega (arith, e)),
      (λ h. let low = given_low c.args.workers v 9 c.in_ok-turn.ensures.alone.0 (subst (λ (m : Chair). Has m.0.given 9) c.deal.ensures.first h) in omega (arith, low.1, c.requires.few)),
    )

pub all_beside-porter-requires-clause-porter : goal.all_beside-porter-requires-clause-porter
all_beside-porter-requires-clause-porter g c κs within =
    let v = c.in_ok-turn.seat.me in
    let en = c.in_ok-turn.ensures in
    ready_porter c.requires.fresh.0 c.args.world c.requires.fresh.1 v (begins v c.args.world en.party.0 en.party.1 en.seat.2 en.history.0 en.history.1 en.history.2 en.alone.0 en.alone.1) c.args.workers
    c.split-other.new.seat.me (c.split-other.ensures.first ∙ ap (λ (m : Chair). (left_after 9 m.0, m.1)) c.deal.ensures.first)

pub all_beside-porter-requires-clause-dumper : goal.all_beside-porter-requires-clause-dumper
all_beside-porter-requires-clause-dumper g c κs within =
    let v = c.in_ok-turn.seat.me in
    let en = c.in_ok-turn.ensures in
    ready_dumper c.requires.fresh.0 c.args.world c.requires.fresh.1 v (begins v c.args.world en.party.0 en.party.1 en.seat.2 en.history.0 en.history.1 en.history.2 en.alone.0 en.alone.1) c.args.workers
    g.D.Disk.tells g.D.Disk.seen g.D.Disk.moment g.D.Disk.images g.D.Disk.faults c.args.store.now c.args.first.now c.args.second.now
    c.split-other.result.me (c.split-other.ensures.second ∙ ap (λ (m : Chair). (newcomer 9 m.0, [])) c.deal.ensures.first) c.requires.knows c.requires.mounted

pub all_beside-porter-requires-clause-workers : goal.all_beside-porter-requires-clause-workers
all_beside-porter-requires-clause-workers g c κs within =
    let v = c.in_ok-turn.seat.me in
    let en = c.in_ok-turn.ensures in
    subst (λ t. Rattle.std.specs.Prelude.All (λ p. Rattle.muck_crew.specs.inner.Parts.IsReady t p) c.deal.new.parts.all.items) en.seat.0
    (ready_parts c.requires.fresh.0 c.args.world c.requires.fresh.1 v (begins v c.args.world en.party.0 en.party.1 en.seat.2 en.history.0 en.history.1 en.history.2 en.alone.0 en.alone.1) c.args.workers
    c.in_ok-turn.seat.table_id c.deal.new.parts.all.items c.requires.few c.deal.ensures.parts)

pub take_in-requires-clause-parts : goal.take_in-requires-clause-parts
take_in-requires-clause-parts g c =
    over_done c.in_ok-turn.seat.table_id c.in_ok-turn.turn.table.shared.table_id c.args.workers c.in_ok-turn.seat.me.0 c.deal.new.parts.all.items c.all_beside-porter.new.parts.all.items
    c.in_ok-turn.ensures.seat.0 c.deal.ensures.parts c.all_beside-porter.ensures.workers

pub close-world-requires-clause-own : goal.close-world-requires-clause-own
close-world-requires-clause-own g c = (
  c.take_in.ensures.own.0 ∙ c.join.ensures.own.0 ∙ c.all_beside-porter.ensures.own.0 ∙ c.split-other.ensures.own.0 ∙ c.deal.ensures.own.0 ∙ c.in_ok-turn.ensures.seat.0,
  c.take_in.ensures.own.1,
  last_place c.all_beside-porter.new.parts.all.items c.all_beside-porter.new.seat.me c.take_in.new.seat.me c.all_beside-porter.new.other.me.0
      (c.take_in.ensures.taken ∙ ap (λ (m : Chair). (all_in c.all_beside-porter.new.parts.all.items m.0, m.1)) c.join.ensures.taken) c.all_beside-porter.ensures.porter.over.left.over,
)

pub close-world-requires-clause-all : goal.close-world-requires-clause-all
close-world-requires-clause-all g c =
    all_taken c.args.workers c.deal.new.parts.all.items c.all_beside-porter.new.parts.all.items c.in_ok-turn.seat.table_id c.in_ok-turn.seat.me c.split-other.new.seat.me c.all_beside-porter.new.seat.me c.take_in.new.seat.me
    c.all_beside-porter.new.other.me.0 c.in_ok-turn.ensures.alone.0 c.in_ok-turn.ensures.alone.1
    (c.split-other.ensures.first ∙ ap (λ (m : Chair). (left_after 9 m.0, m.1)) c.deal.ensures.first) c.deal.ensures.parts c.all_beside-porter.ensures.workers c.all_beside-porter.ensures.porter.lists
    (c.take_in.ensures.taken ∙ ap (λ (m : Chair). (all_in c.all_beside-porter.new.parts.all.items m.0, m.1)) c.join.ensures.taken)

pub returns-clause-knows : goal.returns-clause-knows
returns-clause-knows g c =
    let v = c.in_ok-turn.seat.me in
    let en = c.in_ok-turn.ensures in
    let shut : Shut c.take_in.new.seat.me.0 c.close-world.result = record {
      seen = c.close-world.ensures.seen;
      start = c.close-world.ensures.start;
      own = c.close-world.ensures.own;
      joined = c.close-world.ensures.joined;
      known = c.close-world.ensures.known;
      allowed = c.close-world.ensures.allowed;
    } in
    stands g.D.Disk.tells g.D.Disk.seen g.D.Disk.moment g.D.Disk.images g.D.Disk.faults (g.L.Links.tells c.args.links.now)
    (account (g.L.Links.told c.args.links.now) (g.L.Links.listening c.args.links.now) (g.C.Clock.answers c.args.clock.now)) (account (g.L.Links.told c.all_beside-porter.new.links) (g.L.Links.listening c.all_beside-porter.new.links) (g.C.Clock.answers c.all_beside-porter.new.clock))
    c.args.workers c.way_of-ended.result c.all_beside-porter.result.0 c.all_beside-porter.result.1
    c.args.store.now c.all_beside-porter.new.store c.args.first.now c.args.second.now c.all_beside-porter.new.first c.all_beside-porter.new.second c.args.world c.close-world.result
    c.requires.fresh.0 c.requires.fresh.1 c.requires.few c.deal.new.parts.all.items c.all_beside-porter.new.parts.all.items c.in_ok-turn.seat.table_id
    v c.split-other.new.seat.me c.all_beside-porter.new.seat.me c.split-other.result.me c.all_beside-porter.new.other.me c.take_in.new.seat.me
    (begins v c.args.world en.party.0 en.party.1 en.seat.2 en.history.0 en.history.1 en.history.2 en.alone.0 en.alone.1)
    (c.split-other.ensures.first ∙ ap (λ (m : Chair). (left_after 9 m.0, m.1)) c.deal.ensures.first)
    (c.split-other.ensures.second ∙ ap (λ (m : Chair). (newcomer 9 m.0, [])) c.deal.ensures.first)
    c.deal.ensures.parts c.all_beside-porter.ensures.porter c.all_beside-porter.ensures.dumper c.all_beside-porter.ensures.workers
    (subst (λ (ps : List Part). IsEndOf c.way_of-ended.result c.all_beside-porter.result.0 c.all_beside-porter.result.1 ps) c.as_slice.ensures.value c.way_of-ended.ensures)
    (c.take_in.ensures.taken ∙ ap (λ (m : Chair). (all_in c.all_beside-porter.new.parts.all.items m.0, m.1)) c.join.ensures.taken)
    shut c.is_dead-dead.ensures.placed c.is_dead-dead.ensures.lawful

pub returns-clause-ran : goal.returns-clause-ran
returns-clause-ran g c =
    let v = c.in_ok-turn.seat.me in
    let en = c.in_ok-turn.ensures in
    let shut : Shut c.take_in.new.seat.me.0 c.close-world.result = record {
      seen = c.close-world.ensures.seen;
      start = c.close-world.ensures.start;
      own = c.close-world.ensures.own;
      joined = c.close-world.ensures.joined;
      known = c.close-world.ensures.known;
      allowed = c.close-world.ensures.allowed;
    } in
    has_run g.D.Disk.tells g.D.Disk.seen g.D.Disk.moment g.D.Disk.images g.D.Disk.faults (g.L.Links.tells c.args.links.now)
    (account (g.L.Links.told c.args.links.now) (g.L.Links.listening c.args.links.now) (g.C.Clock.answers c.args.clock.now)) (account (g.L.Links.told c.all_beside-porter.new.links) (g.L.Links.listening c.all_beside-porter.new.links) (g.C.Clock.answers c.all_beside-porter.new.clock))
    c.args.workers c.way_of-ended.result c.all_beside-porter.result.0 c.all_beside-porter.result.1
    c.args.store.now c.all_beside-porter.new.store c.args.first.now c.args.second.now c.all_beside-porter.new.first c.all_beside-porter.new.second c.args.world c.close-world.result
    c.requires.fresh.0 c.requires.fresh.1 c.requires.few c.deal.new.parts.all.items c.all_beside-porter.new.parts.all.items c.in_ok-turn.seat.table_id
    v c.split-other.new.seat.me c.all_beside-porter.new.seat.me c.split-other.result.me c.all_beside-porter.new.other.me c.take_in.new.seat.me
    (begins v c.args.world en.party.0 en.party.1 en.seat.2 en.history.0 en.history.1 en.history.2 en.alone.0 en.alone.1)
    (c.split-other.ensures.first ∙ ap (λ (m : Chair). (left_after 9 m.0, m.1)) c.deal.ensures.first)
    (c.split-other.ensures.second ∙ ap (λ (m : Chair). (newcomer 9 m.0, [])) c.deal.ensures.first)
    c.deal.ensures.parts c.all_beside-porter.ensures.porter c.all_beside-porter.ensures.dumper c.all_beside-porter.ensures.workers
    (subst (λ (ps : List Part). IsEndOf c.way_of-ended.result c.all_beside-porter.result.0 c.all_beside-porter.result.1 ps) c.as_slice.ensures.value c.way_of-ended.ensures)
    (c.take_in.ensures.taken ∙ ap (λ (m : Chair). (all_in c.all_beside-porter.new.parts.all.items m.0, m.1)) c.join.ensures.taken)
    shut c.is_dead-dead.ensures.placed c.is_dead-dead.ensures.lawful
