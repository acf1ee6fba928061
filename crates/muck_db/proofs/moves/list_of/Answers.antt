use Rattle.std.proofs.Common.{sym, ◌∙◌, arith}
use Rattle.muck_db.proofs.Readers.{length-entries_of}
use Rattle.muck_db.proofs.Bridge.{ends_none, dbrefs_none, dbrefs_list, listed_none, listed_some}
use Rattle.muck_db.proofs.moves.list_of.Goals as goal

pub new-requires-clause-ends : goal.new-requires-clause-ends
new-requires-clause-ends c = ends_none _ _

pub new-requires-clause-few : goal.new-requires-clause-few
new-requires-clause-few c = omega (arith, length-entries_of c.args.slots.now.items, c.requires.ordered.few)

pub returns-in_default : goal.returns-in_default
returns-in_default c = c.new.ensures ∙ dbrefs_none _ ∙ sym (listed_none _ _ _ (sym c.number_of.ensures.value ∙ c.in_default.is))

pub new-requires-2-clause-few : goal.new-requires-2-clause-few
new-requires-2-clause-few c = omega (arith, length-entries_of c.args.slots.now.items, c.requires.ordered.few)

pub returns : goal.returns
returns c = rw (c.new-2.ensures, c.first_of.ensures, dbrefs_list c.args.exits c.args.slots.now.items c.in-Some.k) (sym (listed_some _ _ _ _ (sym c.number_of.ensures.value ∙ c.in-Some.is)))
