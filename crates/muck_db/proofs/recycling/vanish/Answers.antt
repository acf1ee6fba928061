use Rattle.std.proofs.Common.{◌∙◌, ap, arith}
use Rattle.spec_live.specs.Objects.{is_garbage}
use Rattle.muck_db.proofs.Readers.{length-entries_of}
use Rattle.muck_db.proofs.Bridge.{order_chains}
use Rattle.muck_db.proofs.Exiting.{lists_exits, kind_below, mark_below}
use Rattle.muck_db.proofs.Leaving.{entries_vanished, ends_vanished, length_wiped}
use Rattle.muck_db.proofs.Tying.{ties_unlinked}
use Rattle.muck_db.proofs.recycling.vanish.Goals as goal

pub take_out-requires-clause-chains : goal.take_out-requires-clause-chains
take_out-requires-clause-chains c = order_chains _ c.requires.order

pub wipe_exits-least-requires-clause-known : goal.wipe_exits-least-requires-clause-known
wipe_exits-least-requires-clause-known c = omega (arith, c.take_out.ensures.same_length, c.requires.known)

pub wipe_exits-least-requires-clause-exits : goal.wipe_exits-least-requires-clause-exits
wipe_exits-least-requires-clause-exits c = lists_exits c.args.d _ _ c.requires.order c.take_out.ensures

pub wipe_exits-least-requires-clause-number : goal.wipe_exits-least-requires-clause-number
wipe_exits-least-requires-clause-number c = omega (arith, c.requires.known, length-entries_of c.args.slots.now.items, c.requires.order.ordered.few)

pub wipe_exits-least-requires-clause-tied : goal.wipe_exits-least-requires-clause-tied
wipe_exits-least-requires-clause-tied c = ties_unlinked c.args.d _ _ _ c.take_out.ensures c.requires.tied

pub wipe-requires-clause-known : goal.wipe-requires-clause-known
wipe-requires-clause-known c = omega (arith, c.requires.known, c.take_out.ensures.same_length, length_wiped c.args.d _ _ c.wipe_exits-least.ensures.items)

pub returns-clause-entries : goal.returns-clause-entries
returns-clause-entries c = entries_vanished c.args.d c.args.slots.now.items _ _ _ c.requires.order c.requires.empty c.requires.known c.take_out.ensures c.wipe_exits-least.ensures.items c.wipe.ensures.items

pub returns-clause-ends : goal.returns-clause-ends
returns-clause-ends c = ends_vanished c.args.d c.args.slots.now.items _ _ _ c.requires.order c.requires.known c.take_out.ensures c.wipe_exits-least.ensures.items c.wipe.ensures.items

pub returns-clause-full : goal.returns-clause-full
returns-clause-full c = λ k lt alive. ap (λ z. is_garbage z) (kind_below c.args.d c.wipe_exits-least.result k c.args.slots.now.items _ _ _ c.take_out.ensures c.wipe_exits-least.ensures.most lt c.wipe_exits-least.ensures.below c.wipe.ensures.items) ∙ alive

pub returns-clause-unmarked : goal.returns-clause-unmarked
returns-clause-unmarked c = λ k lt none. mark_below c.args.d c.wipe_exits-least.result k c.args.slots.now.items _ _ _ c.take_out.ensures c.wipe_exits-least.ensures.most lt c.wipe_exits-least.ensures.below c.wipe.ensures.items ∙ none
