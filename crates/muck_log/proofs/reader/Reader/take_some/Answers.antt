use Rattle.std.proofs.Common.{◌≡◌, ◌≤◌, ◌<◌, ◌+◌, ◌-◌, ◌++◌, length, take, rules, sym, ◌∙◌, ap, arith, length-take}
use Rattle.muck_log.specs.File.{FileReading, run}
use Rattle.muck_log.specs.declared.reader.Mode.TheVariants.{Body as InBody}
use Rattle.muck_log.proofs.Runs.{part_run, run_one}
use Rattle.muck_log.proofs.reader.Reader.take_some.Goals as goal
use Rattle.muck_log.proofs.reader.Reader.take_some.Goals.{then-bytes-left, else-bytes-left}

pub returns-then-self-had-gt1-clause-run : goal.returns-then-self-had-gt1-clause-run
returns-then-self-had-gt1-clause-run c =
    let r : FileReading = record { place = c.self.inside.place; mode = c.self.inside.mode; size = c.self.inside.size; bytes = c.self.inside.bytes.items; held = record { generation = c.self.inside.generation; number = c.self.inside.number; count = c.self.inside.count; last = c.self.inside.last; world = c.self.inside.world } } in
    let n = c.if-bytes-left.n in
    let part = take n c.args.bytes.now in
    let items = c.in_ok-extend_from_slice.ensures.items ∙ ap (λ l. c.self.inside.bytes.items ++ l) c.split_at.ensures.front in
    let mode : c.self.inside.mode ≡ InBody = search rules in
    let few : n ≤ c.self.inside.size - c.len-had.result - 1 = elim c.if-bytes-left.branch [ then-bytes-left w ↦ omega arith | else-bytes-left w ↦ omega arith ] in
    let short : length c.self.inside.bytes.items + length part < c.self.inside.size = omega (arith, few, length-take n c.args.bytes.now, c.len-had.ensures, c.if-self-had-gt1.true) in
    ap (λ l. record r { bytes = l }) items ∙ sym (part_run r part mode short) ∙ ap (λ (s : FileReading). run s part) c.self.view_is

pub returns-clause-run : goal.returns-clause-run
returns-clause-run c = c.in_ok-take.ensures.step ∙ sym (run_one c.args.self.now c.args.bytes.now 0 c.requires.some)
