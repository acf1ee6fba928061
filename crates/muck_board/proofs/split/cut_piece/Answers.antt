use Rattle.muck_laws.proofs.Texts.{piece_ends, piece_last}
use Rattle.muck_board.proofs.split.cut_piece.Goals as goal

pub returns-in-Some-clause-pieces : goal.returns-in-Some-clause-pieces
returns-in-Some-clause-pieces c =
    piece_ends _ _ _ _ c.in-Some.others.now c.in-Some.field-0-0.now _ c.count_before.ensures.at c.split_at.ensures.front c.split_at.ensures.back c.in-Some.ensures.cases.0

pub returns-in-None-clause-pieces : goal.returns-in-None-clause-pieces
returns-in-None-clause-pieces c =
    piece_last _ _ _ _ _ c.count_before.ensures.at c.split_at.ensures.front c.split_at.ensures.back c.in-None.ensures.cases
