use Rattle.std.proofs.Common.{rules, sym, subst, ◌≡◌, Err}
use Rattle.mpi.specs.Meaning.{scene_of, acted_by}
use Rattle.mpi.specs.Thoughts.{Thinks}
use Rattle.mpi.proofs.Acts.{ask_lacks, ask_answers, text_made}
use Rattle.mpi.proofs.acting.act.Goals as goal

pub returns-in_err-ask-in-Ask-clause-thinks : goal.returns-in_err-ask-in-Ask-clause-thinks
returns-in_err-ask-in-Ask-clause-thinks g c =
    let back : c.from_residual-in_err-ask-in-Ask.result ≡ Err c.in_err-ask-in-Ask.field-0.0 = search rules in
    rw back (subst (λ k. Thinks (acted_by k c.args.function (scene_of g.H.Host.powers c.args.place.this) c.args.values.now) (c.args.mind.now, g.H.Host.seen c.args.host.now) (c.args.mind.now, g.H.Host.seen c.args.host.now) (Err c.in_err-ask-in-Ask.field-0.0)) (sym c.in-Ask.is) (ask_lacks (scene_of g.H.Host.powers c.args.place.this) c.args.function c.args.values.now (c.args.mind.now, g.H.Host.seen c.args.host.now) c.in_err-ask-in-Ask.field-0.0 c.in_err-ask-in-Ask.ensures))

pub returns-in-Text-clause-thinks : goal.returns-in-Text-clause-thinks
returns-in-Text-clause-thinks g c = subst (λ k. Thinks (acted_by k c.args.function (scene_of g.H.Host.powers c.args.place.this) c.args.values.now) (c.args.mind.now, g.H.Host.seen c.args.host.now) (c.args.mind.now, g.H.Host.seen c.args.host.now) c.text_of.result) (sym c.in-Text.is) (text_made (scene_of g.H.Host.powers c.args.place.this) c.args.function c.args.values.now (c.args.mind.now, g.H.Host.seen c.args.host.now) c.text_of.result c.text_of.ensures)

pub returns-in_ok-ask-in-Ask-clause-thinks : goal.returns-in_ok-ask-in-Ask-clause-thinks
returns-in_ok-ask-in-Ask-clause-thinks g c = subst (λ k. Thinks (acted_by k c.args.function (scene_of g.H.Host.powers c.args.place.this) c.args.values.now) (c.args.mind.now, g.H.Host.seen c.args.host.now) (c.args.mind.now, g.H.Host.seen c.args.host.now) c.tells.result) (sym c.in-Ask.is) (ask_answers (scene_of g.H.Host.powers c.args.place.this) c.args.function c.args.values.now (c.args.mind.now, g.H.Host.seen c.args.host.now) c.in_ok-ask-in-Ask.ask c.tells.result c.in_ok-ask-in-Ask.ensures c.tells.ensures)
