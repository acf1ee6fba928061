use Rattle.muck_laws.proofs.Parts.{tail_is, tail_none}
use Rattle.muck_script.proofs.Cuts.{line_cut}
use Rattle.muck_script.proofs.lines.cut_line.Goals as goal

pub returns-in-Some-clause-lines : goal.returns-in-Some-clause-lines
returns-in-Some-clause-lines c =
    line_cut c.args.bytes.now _ c.in-Some.others.now c.line_len.result c.line_len.ensures.at c.requires c.split_at.ensures.front
    (tail_is _ _ _ c.line_len.result c.in-Some.field-0-0.now c.in-Some.ensures.cases.0 c.split_at.ensures.back)

pub returns-in-None-clause-lines : goal.returns-in-None-clause-lines
returns-in-None-clause-lines c =
    line_cut c.args.bytes.now _ c.split_at.result.1.now c.line_len.result c.line_len.ensures.at c.requires c.split_at.ensures.front
    (tail_none _ _ c.line_len.result c.in-None.ensures.cases c.split_at.ensures.back)
