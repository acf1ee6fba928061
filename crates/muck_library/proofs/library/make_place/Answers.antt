use Rattle.std.proofs.Common.{◌+◌, None, rules}
use Rattle.muck_laws.proofs.Walks.{filled_up}
use Rattle.muck_library.proofs.library.make_place.Goals as goal

pub returns-in_ok-resize_with-clause-filled : goal.returns-in_ok-resize_with-clause-filled
returns-in_ok-resize_with-clause-filled c =
    filled_up _ None (c.args.n + 1) c.args.forms.now.items c.resize_with.new.self.items _ (λ f y g h. search rules) (search rules) (search rules) (c.in_ok-resize_with.ensures.items)
