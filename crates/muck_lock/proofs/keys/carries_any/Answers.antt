-- Each step of the walk is one of the laws of walks.
use Rattle.std.proofs.Common.{◌<◌, Bool, false, refl, sym, length, subst}
use Rattle.muck_laws.proofs.Truths.{ends_from, goes_from}
use Rattle.muck_model.specs.declared.dbref.Dbref.{Dbref}
use Rattle.muck_lock.specs.inner.Chain.{same, nothing}
use Rattle.muck_lock.proofs.Walks.{Walking, walk, begins, at_end, found, goes_on, walk-smaller}
use Rattle.muck_lock.proofs.keys.carries_any.Goals as goal

pub loop-d-init : goal.loop-d-init
loop-d-init g c = record {
  walks = begins (g.K.Keys.nexts c.args.keys.now) (λ d. false) (g.K.Keys.contents c.args.keys.now c.args.x) c.first-d.result (rw c.first-d.ensures.value c.first-d.ensures.chained);
  tests = λ test h. begins (g.K.Keys.nexts c.args.keys.now) test (g.K.Keys.contents c.args.keys.now c.args.x) c.first-d.result (rw c.first-d.ensures.value c.first-d.ensures.chained);
}

pub returns-then-passes : goal.returns-then-passes
returns-then-passes g c = λ test h.
    sym (found (g.K.Keys.nexts c.args.keys.now) test (g.K.Keys.contents c.args.keys.now c.args.x) c.loop-d.d (c.loop-d.invariant.tests test h)
    (goes_from (same c.loop-d.d nothing) c.loop-d-test.ensures) (sym (h _ _ c.if-passes.ensures)))

pub loop-d-smaller : goal.loop-d-smaller
loop-d-smaller g c =
    let P : Dbref → Type 0 = λ d. length (walk (g.K.Keys.nexts c.args.keys.now) (length (g.K.Keys.contents c.args.keys.now c.args.x)) d)
    < length (walk (g.K.Keys.nexts c.args.keys.now) (length (g.K.Keys.contents c.args.keys.now c.args.x)) c.loop-d.d) in
    subst P (sym c.next-d.ensures) (walk-smaller (g.K.Keys.nexts c.args.keys.now) (λ d. false) (g.K.Keys.contents c.args.keys.now c.args.x) c.loop-d.d c.loop-d.invariant.walks
    (goes_from (same c.loop-d.d nothing) c.loop-d-test.ensures))

pub loop-d-preserved : goal.loop-d-preserved
loop-d-preserved g c =
    let P : (Dbref → Bool) → Dbref → Type 0 = λ test d. Walking (g.K.Keys.nexts c.args.keys.now) test (g.K.Keys.contents c.args.keys.now c.args.x) d in
    let goes = goes_from (same c.loop-d.d nothing) c.loop-d-test.ensures in
    record {
      walks = subst (P (λ d. false)) (sym c.next-d.ensures) (goes_on (g.K.Keys.nexts c.args.keys.now) (λ d. false) (g.K.Keys.contents c.args.keys.now c.args.x) c.loop-d.d c.loop-d.invariant.walks goes refl);
      tests = λ test h. subst (P test) (sym c.next-d.ensures) (goes_on (g.K.Keys.nexts c.args.keys.now) test (g.K.Keys.contents c.args.keys.now c.args.x) c.loop-d.d (c.loop-d.invariant.tests test h) goes (sym (h _ _ c.if-passes.ensures)));
    }

pub returns : goal.returns
returns g c = λ test h.
    sym (at_end (g.K.Keys.nexts c.args.keys.now) test (g.K.Keys.contents c.args.keys.now c.args.x) c.loop-d.d (c.loop-d.invariant.tests test h)
    (ends_from (same c.loop-d.d nothing) c.loop-d-test.ensures))
