use Rattle.std.proofs.Common.{sym, arith}
use Rattle.std.proofs.lemmas.List.{take_all}
use Rattle.muck_model.specs.Bytes.{text_most}
use Rattle.muck_looking.proofs.lines.front.Goals as goal

pub returns-then-bytes-le-TEXT_MOST : goal.returns-then-bytes-le-TEXT_MOST
returns-then-bytes-le-TEXT_MOST c = sym (take_all text_most c.args.bytes.now (omega (arith, c.if-bytes-le-TEXT_MOST.true)))
