use Rattle.std.proofs.Common.{◌<◌, ◌≤◌, length, arith}
use Rattle.muck_prop.proofs.Below.{below_by_start, below_is_longer}
use Rattle.muck_prop.proofs.segments.Segments.is_below.Goals as goal

pub returns-then-len : goal.returns-then-len
returns-then-len c =
    let more : length c.args.above.now < length c.args.self.now = omega arith in
    let found = below_by_start c.args.above.now c.args.self.now more in
    cc

pub returns-else-len : goal.returns-else-len
returns-else-len c =
    let few : length c.args.self.now ≤ length c.args.above.now = omega arith in
    let none = below_is_longer c.args.above.now c.args.self.now few in
    grind arith
