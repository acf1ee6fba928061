use Rattle.muck_turns.proofs.Deeds.{drops, dropped_passes, dropped_behind, dropped_room}
use Rattle.muck_turns.proofs.state.deeds.behind.Goals as goal

pub drop_items-requires : goal.drop_items-requires
drop_items-requires c = drops c.args.items c.take_apart-programs.result.1 c.args.running c.take_apart-programs.ensures.shows c.requires.items

pub passed-requires : goal.passed-requires
passed-requires c =
    dropped_passes c.args.items c.take_apart-programs.result.0 c.take_apart-programs.result.1 c.drop_items.new.self c.args.running c.take_apart-programs.ensures.apart c.requires.at c.drop_items.ensures.value

pub returns-clause-state : goal.returns-clause-state
returns-clause-state c =
    dropped_behind c.args.items c.take_apart-programs.result.0 c.take_apart-programs.result.1 c.drop_items.new.self c.args.running c.passed.result c.take_apart-programs.ensures.apart c.take_apart-programs.ensures.shows c.drop_items.ensures.value c.passed.ensures

pub returns-clause-most : goal.returns-clause-most
returns-clause-most c =
    dropped_room c.args.items c.take_apart-programs.result.1 c.drop_items.new.self c.args.running c.take_apart-programs.ensures.shows c.drop_items.ensures.value c.drop_items.ensures.most
