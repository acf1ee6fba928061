use Rattle.std.proofs.Common.{sym, ap, subst, ◌∙◌, Some}
use Rattle.muck_run.specs.inner.Ends.{EndsPlay, ComesOutAs, LastKept, MayEndDump}
use Rattle.muck_run.proofs.Closing.{ends_by, may_end, comes_failed, broke_memory, kept_stored, kept_failed, kept_broken}
use Rattle.muck_run.proofs.running.last_dump.Goals as goal

-- the dump was stored

pub returns-in-Ok-None-clause-kept : goal.returns-in-Ok-None-clause-kept
returns-in-Ok-None-clause-kept g c = λ mounted tells r. kept_stored _ _ _ _ _ _ _ _ _ c.in-Ok-None.field-0 c.in-Ok-None.field-0-is (c.in-Ok-None.ensures.kept mounted tells r)

-- it failed

pub returns-in-Ok-Some-clause-plays : goal.returns-in-Ok-Some-clause-plays
returns-in-Ok-Some-clause-plays g c = λ o. subst (EndsPlay _ _ o) (sym c.why_of.ensures) (ends_by _ _ o c.in-Ok-Some.fault (λ e. c.in-Ok-Some.ensures.apart (c.in-Ok-Some.field-0-is ∙ ap Some e)) (c.in-Ok-Some.ensures.plays o))

pub returns-in-Ok-Some-clause-outcome : goal.returns-in-Ok-Some-clause-outcome
returns-in-Ok-Some-clause-outcome g c = subst (ComesOutAs _ _) (sym c.why_of.ensures) (comes_failed _ _ c.in-Ok-Some.field-0 c.in-Ok-Some.fault c.in-Ok-Some.field-0-is c.in-Ok-Some.ensures.outcome)

pub returns-in-Ok-Some-clause-kept : goal.returns-in-Ok-Some-clause-kept
returns-in-Ok-Some-clause-kept g c = λ mounted tells r.
    subst (LastKept _ _ _ _ _ _ _ _) (sym c.why_of.ensures) (kept_failed _ _ _ _ _ _ _ _ _ c.in-Ok-Some.field-0 c.in-Ok-Some.fault c.in-Ok-Some.field-0-is (c.in-Ok-Some.ensures.kept mounted tells r))

pub returns-in-Ok-Some-clause-why : goal.returns-in-Ok-Some-clause-why
returns-in-Ok-Some-clause-why g c =
    subst (MayEndDump _) (sym c.why_of.ensures)
    (may_end g.D.Disk.tells c.in-Ok-Some.field-0 c.in-Ok-Some.fault c.in-Ok-Some.field-0-is (λ tells. let there = c.requires.mounted tells in (c.in-Ok-Some.ensures.kept there.0 tells there.1).fault))

-- memory was wanted

pub returns-in-Err-clause-plays : goal.returns-in-Err-clause-plays
returns-in-Err-clause-plays g c = λ o. broke_memory _ _ _ _ _ c.in-Err.field-0 c.in-Err.ensures.memory (c.in-Err.ensures.plays o)

pub returns-in-Err-clause-kept : goal.returns-in-Err-clause-kept
returns-in-Err-clause-kept g c = λ mounted tells r. kept_broken _ _ _ _ _ _ _ _ _ _ (c.in-Err.ensures.kept mounted tells r)
