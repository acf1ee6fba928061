use Rattle.std.proofs.lemmas.Result.{err_from_is_err_and}
use Rattle.muck_library.proofs.Built.{unread, uncompiled, built}
use Rattle.muck_library.proofs.building.build.Goals as goal

pub returns-in_err-words-clause-built : goal.returns-in_err-words-clause-built
returns-in_err-words-clause-built c =
    let p = err_from_is_err_and c.from_residual.result c.from_residual.ensures.1 in
    rw (p.1, p.2) (unread c.args.db.now c.args.program c.in_err-words.field-0.0 c.in_err-words.ensures)

pub returns-in_err-code-clause-built : goal.returns-in_err-code-clause-built
returns-in_err-code-clause-built c =
    let p = err_from_is_err_and c.from_residual-in_err-code.result c.from_residual-in_err-code.ensures.1 in
    rw (p.1, p.2) (uncompiled c.args.db.now c.args.program c.in_ok-words.words c.in_err-code.field-0.0 c.in_ok-words.ensures c.in_err-code.ensures.code)

pub returns-clause-built : goal.returns-clause-built
returns-clause-built c = built c.args.db.now c.args.program c.in_ok-words.words c.in_ok-code.code c.in_ok-words.ensures c.in_ok-code.ensures.code

pub returns-clause-written : goal.returns-clause-written
returns-clause-written c = (c.in_ok-words.words, c.in_ok-words.ensures, c.in_ok-code.ensures.written)

pub returns-clause-some : goal.returns-clause-some
returns-clause-some c = c.in_ok-code.ensures.written.word
