use Rattle.std.proofs.Common.{sym, ℕ, arith, List, subst}
use Rattle.spec_live.specs.Chain.{Member}
use Rattle.muck_db.specs.inner.Slots.{list_at}
use Rattle.spec_live.proofs.Chains.{ends_from, without_gone}
use Rattle.muck_db.proofs.Readers.{length-entries_of}
use Rattle.muck_db.proofs.Bridge.{order_chains, placed_chain, list_is, entries_moved, order_moved, moves_alive}
use Rattle.muck_db.proofs.moves.relocate.Goals as goal

pub is_exit_of-exits-requires : goal.is_exit_of-exits-requires
is_exit_of-exits-requires c = omega (arith, length-entries_of c.args.slots.now.items, c.requires.may.known)

pub take_out-requires-clause-chains : goal.take_out-requires-clause-chains
take_out-requires-clause-chains c = order_chains _ c.requires.order

pub take_out-requires-clause-known : goal.take_out-requires-clause-known
take_out-requires-clause-known c = omega (arith, length-entries_of c.args.slots.now.items, c.requires.may.known)

pub set_place-requires : goal.set_place-requires
set_place-requires c = omega (arith, length-entries_of c.args.slots.now.items, c.requires.may.known, c.take_out.ensures.same_length)

pub link-requires-clause-ends : goal.link-requires-clause-ends
link-requires-clause-ends c = λ v p. ends_from _ _ _ _ (placed_chain _ _ _ _ _ c.take_out.ensures c.set_place.ensures.items v p)

pub link-requires-clause-nowhere : goal.link-requires-clause-nowhere
link-requires-clause-nowhere c = λ v p m.
    without_gone c.args.d (list_at v c.args.slots.now.items p)
    (let M : List ℕ → Type 0 = λ l. Member c.args.d l in subst M (list_is v _ p _ (placed_chain _ _ _ _ _ c.take_out.ensures c.set_place.ensures.items v p)) m)

pub link-requires-clause-known : goal.link-requires-clause-known
link-requires-clause-known c = omega (arith, length-entries_of c.args.slots.now.items, c.requires.may.known, c.take_out.ensures.same_length, c.set_place.ensures.len)

pub link-requires-clause-place : goal.link-requires-clause-place
link-requires-clause-place c = omega (arith, length-entries_of c.args.slots.now.items, c.requires.may.place, c.take_out.ensures.same_length, c.set_place.ensures.len)

pub returns-clause-moved : goal.returns-clause-moved
returns-clause-moved c = entries_moved c.args.d c.args.to c.is_exit_of-exits.result c.args.slots.now.items _ _ _ (sym c.is_exit_of-exits.ensures)
    (omega (arith, length-entries_of c.args.slots.now.items, c.requires.may.place)) (moves_alive _ c.args.to c.args.slots.now.items _ c.requires.may c.take_out.ensures) c.take_out.ensures c.set_place.ensures.items c.link.ensures

pub returns-clause-order : goal.returns-clause-order
returns-clause-order c = order_moved c.args.d c.args.to c.is_exit_of-exits.result c.args.slots.now.items _ _ c.requires.order c.requires.may c.link.ensures
    (entries_moved c.args.d c.args.to c.is_exit_of-exits.result c.args.slots.now.items _ _ _ (sym c.is_exit_of-exits.ensures)
    (omega (arith, length-entries_of c.args.slots.now.items, c.requires.may.place)) (moves_alive _ c.args.to c.args.slots.now.items _ c.requires.may c.take_out.ensures) c.take_out.ensures c.set_place.ensures.items c.link.ensures)
