-- The first step, and a text that ends where a term is wanted.
use Rattle.std.proofs.Common.{length, sym, ◌∙◌, ap, arith}
use Rattle.muck_laws.proofs.Numbers.{some_bytes}
use Rattle.muck_lock.specs.Naming.{Naming, naming}
use Rattle.muck_lock.specs.Grammar.{lock_of}
use Rattle.muck_lock.specs.inner.Waiting.{outcome_at}
use Rattle.muck_lock.proofs.Passing.{step_start, step_end}
use Rattle.muck_lock.proofs.reader.read.Goals as goal

pub loop-at-init : goal.loop-at-init
loop-at-init g c =
    let names : Naming = naming (g.F.Finder.found c.args.finder.now) (g.F.Finder.programs c.args.finder.now) in
    record {
      outcome = ap (λ l. outcome_at names c.as_slice-text.result.now l 0) c.new-waiting.ensures.items
          ∙ step_start names c.as_slice-text.result.now (some_bytes (length c.as_slice-text.result.now) c.if-is_empty.ensures)
          ∙ ap (lock_of names) c.as_slice-text.ensures.bytes;
      within = omega arith;
    }

pub returns : goal.returns
returns g c =
    let names : Naming = naming (g.F.Finder.found c.args.finder.now) (g.F.Finder.programs c.args.finder.now) in
    sym c.loop-at.invariant.outcome ∙ step_end names c.as_slice-text.result.now c.loop-at.waiting.items c.loop-at.at c.loop-at-test.false c.loop-at.invariant.within
