use Rattle.std.proofs.Common.{◌≡◌, refl, sym, ◌∙◌, Err, rules}
use Rattle.muck_run.proofs.Lining.{plays_asked, breaks_asked, plays_unasked, held_resting, held_dumped, held_died}
use Rattle.muck_run.proofs.Noted.{noted_same}
use Rattle.muck_run.proofs.playing.make_asked.Goals as goal

pub returns-then-not-is_due-clause-plays : goal.returns-then-not-is_due-clause-plays
returns-then-not-is_due-clause-plays g c = λ o. plays_unasked c.args.line.now _ o (sym c.is_due.ensures ∙ c.if-not-is_due.true) c.requires.alive

pub returns-then-not-is_due-clause-kept : goal.returns-then-not-is_due-clause-kept
returns-then-not-is_due-clause-kept g c = λ mounted tells r. held_resting _ _ _ _ _ _ _ mounted _ _ r

pub returns-in_err-dump-clause-plays : goal.returns-in_err-dump-clause-plays
returns-in_err-dump-clause-plays g c =
    let err : c.from_residual.result ≡ Err c.in_err-dump.field-0.0 = search rules in
    λ o. rw err (breaks_asked c.args.line.now _ _ _ o (sym c.is_due.ensures ∙ c.if-not-is_due.false) (c.in_err-dump.ensures.plays o))

pub returns-in_err-dump-clause-kept : goal.returns-in_err-dump-clause-kept
returns-in_err-dump-clause-kept g c =
    let err : c.from_residual.result ≡ Err c.in_err-dump.field-0.0 = search rules in
    λ mounted tells r. rw err (held_died _ _ _ _ _ _ _ mounted _ _ (c.in_err-dump.ensures.kept mounted tells r) (cc c.in_err-dump.ensures.memory))

pub returns-clause-plays : goal.returns-clause-plays
returns-clause-plays g c = λ o. plays_asked c.args.line.now _ _ o (sym c.is_due.ensures ∙ c.if-not-is_due.false) (c.in_ok-dump.ensures.plays o)

pub returns-clause-kept : goal.returns-clause-kept
returns-clause-kept g c = λ mounted tells r. held_dumped _ _ _ _ _ _ _ mounted _ _ _ (c.in_ok-dump.ensures.kept mounted tells r)

-- the notes

pub returns-then-not-is_due-clause-notes : goal.returns-then-not-is_due-clause-notes
returns-then-not-is_due-clause-notes g c = noted_same _ _ refl
