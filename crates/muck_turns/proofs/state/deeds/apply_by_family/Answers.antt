use Rattle.muck_turns.proofs.state.deeds.apply_by_family.Goals as goal

pub returns-in-Object : goal.returns-in-Object
returns-in-Object c = c.apply.ensures.row c.args.descr

pub returns-in-Property : goal.returns-in-Property
returns-in-Property c = c.apply-in-Property.ensures.row c.args.descr
