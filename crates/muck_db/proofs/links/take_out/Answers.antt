use Rattle.std.proofs.Common.{sym, ◌∙◌}
use Rattle.muck_db.proofs.Bridge.{list_within, unlinked_none}
use Rattle.muck_db.proofs.links.take_out.Goals as goal

pub unlink-requires-clause-place : goal.unlink-requires-clause-place
unlink-requires-clause-place c = list_within c.is_exit_of-exits.result c.args.slots.now.items _ c.args.d (c.requires.chains.listed _ _ _ (record { place = sym c.place_of.ensures ∙ c.in-Some.is; kind = sym c.is_exit_of-exits.ensures }))

pub returns-in_default : goal.returns-in_default
returns-in_default c = unlinked_none _ _ c.requires.chains (sym c.place_of.ensures ∙ c.in_default.is)
