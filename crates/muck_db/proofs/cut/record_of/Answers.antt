use Rattle.std.proofs.Common.{sym, arith}
use Rattle.muck_db.specs.inner.Slots.{entries_of}
use Rattle.muck_db.proofs.Readers.{length-entries_of}
use Rattle.muck_db.proofs.Cutting.{record_is}
use Rattle.muck_db.proofs.cut.record_of.Goals as goal

pub dbref_of-requires : goal.dbref_of-requires
dbref_of-requires c = omega (arith, c.requires.known, length-entries_of c.args.slots.now.items, c.requires.order.ordered.few)

pub returns-clause-stored : goal.returns-clause-stored
returns-clause-stored c =
    rw (c.in_ok-name.ensures, c.in_ok-props.ensures.list, c.in_ok-lines.ensures.copy, c.in_ok-digest.ensures, c.dbref_of.ensures, c.first_link.ensures, c.first_link-2.ensures, c.next_link.ensures)
    (sym (record_is (entries_of c.args.slots.now.items) c.args.k c.args.object.now c.requires.object))

pub returns-clause-storable : goal.returns-clause-storable
returns-clause-storable c = record {
  dbref = c.see_numbers.ensures.dbref;
  flags = c.see_numbers.ensures.flags;
  level = c.see_numbers.ensures.level;
  ties = c.see_ties.ensures;
  lists = c.see_lists.ensures;
  name = c.see_text.ensures;
  props = c.in_ok-props.ensures.storable;
  lines = c.in_ok-lines.ensures.storable;
  digest = c.see_text-2.ensures;
}
