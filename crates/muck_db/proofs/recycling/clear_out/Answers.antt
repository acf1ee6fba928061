use Rattle.std.proofs.Common.{sym, ◌∙◌, ap, arith, subst, List, ◌≡◌, ◌<◌, length, false}
use Rattle.spec_live.specs.Objects.{Entry, list_in}
use Rattle.spec_live.specs.Recycling.{sent_home}
use Rattle.spec_live.proofs.Readers.{length_moved}
use Rattle.spec_live.proofs.HomeLaws.{IsUntied}
use Rattle.muck_db.specs.inner.Slots.{entries_of}
use Rattle.muck_db.proofs.Readers.{length-entries_of}
use Rattle.muck_db.proofs.Leaving.{Turn, turn, first_none, sent_none, Untied, untied_table}
use Rattle.muck_db.proofs.Tying.{ties_moved}
use Rattle.muck_db.proofs.recycling.clear_out.Goals as goal

pub untie-requires-clause-few : goal.untie-requires-clause-few
untie-requires-clause-few c = omega (arith, length-entries_of c.args.slots.now.items, c.requires.order.ordered.few)

pub loop-x-init : goal.loop-x-init
loop-x-init c =
    let u : Untied c.args.d c.args.slots.now.items c.untie.new.slots.items = untied_table c.args.d c.args.slots.now.items _ c.requires.order c.requires.lower c.untie.ensures.items in
    record { order = u.order; known = omega (arith, c.requires.known, u.same_length); free = u.free; sent = u.sent; tied = c.untie.ensures.tied }

pub relocate-requires-clause-may : goal.relocate-requires-clause-may
relocate-requires-clause-may c = (turn c.loop-x.slots.items c.args.d c.in-Some.x c.way_home-home.result c.loop-x.invariant.order c.loop-x.invariant.free c.requires.lower (sym c.first_of.ensures ∙ c.in-Some.is) c.way_home-home.ensures).may

pub loop-x-smaller : goal.loop-x-smaller
loop-x-smaller c =
    let t : Turn (entries_of c.loop-x.slots.items) c.args.d c.in-Some.x c.way_home-home.result = turn c.loop-x.slots.items c.args.d c.in-Some.x c.way_home-home.result c.loop-x.invariant.order c.loop-x.invariant.free c.requires.lower (sym c.first_of.ensures ∙ c.in-Some.is) c.way_home-home.ensures in
    let P : List Entry → Type 0 = λ z. length (list_in false z c.args.d) < length (list_in false (entries_of c.loop-x.slots.items) c.args.d) in
    subst P (sym c.relocate.ensures.moved) t.shorter

pub loop-x-preserved : goal.loop-x-preserved
loop-x-preserved c =
    let t : Turn (entries_of c.loop-x.slots.items) c.args.d c.in-Some.x c.way_home-home.result = turn c.loop-x.slots.items c.args.d c.in-Some.x c.way_home-home.result c.loop-x.invariant.order c.loop-x.invariant.free c.requires.lower (sym c.first_of.ensures ∙ c.in-Some.is) c.way_home-home.ensures in
    let P : List Entry → Type 0 = λ z. sent_home (list_in false z c.args.d) z ≡ sent_home (list_in false (entries_of c.loop-x.slots.items) c.args.d) (entries_of c.loop-x.slots.items) in
    record {
      order = c.relocate.ensures.order;
      known = omega (arith, c.loop-x.invariant.known, length-entries_of c.loop-x.slots.items, length-entries_of c.relocate.new.slots.items, ap (λ (z : List Entry). length z) c.relocate.ensures.moved, length_moved (entries_of c.loop-x.slots.items) c.in-Some.x c.way_home-home.result);
      free = let Q : List Entry → Type 0 = λ z. IsUntied c.args.d z in subst Q (sym c.relocate.ensures.moved) t.free;
      sent = subst P (sym c.relocate.ensures.moved) t.sent ∙ c.loop-x.invariant.sent;
      tied = ties_moved c.in-Some.x c.way_home-home.result _ _ _ c.relocate.ensures.moved c.loop-x.invariant.tied;
    }

pub returns-clause-sent : goal.returns-clause-sent
returns-clause-sent c = sym (sent_none _ _ (first_none c.loop-x.slots.items c.args.d (sym c.first_of.ensures ∙ c.in_default.is))) ∙ c.loop-x.invariant.sent

pub returns-clause-empty : goal.returns-clause-empty
returns-clause-empty c = first_none c.loop-x.slots.items c.args.d (sym c.first_of.ensures ∙ c.in_default.is)
