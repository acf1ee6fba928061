use Rattle.std.proofs.Common.{◌≡◌, ◌∙◌, ◌-◌, length, drop, arith, length-drop}
use Rattle.muck_laws.proofs.Parts.{front_of}
use Rattle.muck_bodies.proofs.head.read_head.Goals as goal

pub returns-clause-head : goal.returns-clause-head
returns-clause-head g c t end =
    let whole = drop c.args.at (g.D.Disk.seen c.args.disk.now) in
    let size : length whole ≡ c.args.end - c.args.at = omega (arith, end, length-drop c.args.at (g.D.Disk.seen c.args.disk.now)) in
    c.head_of.ensures.head whole size
    (front_of whole c.read.new.buf c.split_at.result.0.now c.in_ok-n.n (c.args.end - c.args.at) size (c.if-n-less.false ∙ c.less.ensures) (c.in_ok-n.ensures.bytes t) c.split_at.ensures.front)
