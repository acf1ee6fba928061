use Rattle.std.proofs.Common.{sym, ◌∙◌, ap}
use Rattle.muck_debugging.specs.declared.act.DebugAct.{DebugAct}
use Rattle.muck_watching.specs.inner.Seen.{commanded}
use Rattle.muck_watching.proofs.Seeing.{plays_nothing_seen, breaks_nothing_seen}
use Rattle.muck_watching.proofs.watching.command.Goals as goal

pub returns-in-Plain-clause-plays : goal.returns-in-Plain-clause-plays
returns-in-Plain-clause-plays c = λ o. plays_nothing_seen _ _ _ o (ap (λ (act : DebugAct). commanded act c.args.tracer.now) (sym c.in-Plain.is)) c.requires

pub returns-in-Ok-clause-plays : goal.returns-in-Ok-clause-plays
returns-in-Ok-clause-plays c = λ o. plays_nothing_seen _ _ _ o (c.in-Ok.ensures.ok ∙ ap (λ (act : DebugAct). commanded act c.args.tracer.now) (sym c.in-Break.is)) c.requires

pub returns-in-Err-clause-plays : goal.returns-in-Err-clause-plays
returns-in-Err-clause-plays c = λ o. breaks_nothing_seen _ _ _ o c.died.ensures

pub returns-in-Clear-clause-plays : goal.returns-in-Clear-clause-plays
returns-in-Clear-clause-plays c = λ o. plays_nothing_seen _ _ _ o (c.clear_break.ensures.cleared ∙ ap (λ (act : DebugAct). commanded act c.args.tracer.now) (sym c.in-Clear.is)) c.requires

pub returns-in-Trace-clause-plays : goal.returns-in-Trace-clause-plays
returns-in-Trace-clause-plays c = λ o. plays_nothing_seen _ _ _ o (c.trace.ensures ∙ ap (λ (act : DebugAct). commanded act c.args.tracer.now) (sym c.in-Trace.is)) c.requires
