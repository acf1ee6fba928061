use Rattle.std.proofs.Common.{◌≡◌, Bool, false, length}
use Rattle.muck_model.specs.declared.dbref.Dbref.{Dbref}
use Rattle.muck_lock.proofs.Walks.{Walking, walk}
use Rattle.muck_lock.proofs.keys.carries_any.Given as goal

-- the walk goes on, whatever the test says that the calls answer
abbrev pub invariant-loop-d : goal.invariant-loop-d
invariant-loop-d g l = record {
  walks : Walking (g.K.Keys.nexts l.keys) (λ d. false) (g.K.Keys.contents l.keys l.fn.x) l.d;
  tests : (test : Dbref → Bool) → ((d : Dbref) (r : Bool) → goal.F-post g l.passes d r → r ≡ test d) → Walking (g.K.Keys.nexts l.keys) test (g.K.Keys.contents l.keys l.fn.x) l.d;
}

abbrev pub decreases-loop-d : goal.decreases-loop-d
decreases-loop-d g l = length (walk (g.K.Keys.nexts l.keys) (length (g.K.Keys.contents l.keys l.fn.x)) l.d)
