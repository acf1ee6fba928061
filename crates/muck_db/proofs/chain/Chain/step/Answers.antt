use Rattle.std.proofs.Common.{sym, ◌∙◌, ap, arith, ◌≡◌, Option, ℕ, List, []}
use Rattle.muck_model.specs.declared.dbref.Dbref.{Dbref}
use Rattle.muck_db.specs.inner.Slots.{dbrefs_from}
use Rattle.spec_live.proofs.Chains.{ends_within, ends_next}
use Rattle.muck_db.proofs.Bridge.{dbrefs_none, dbrefs_next}
use Rattle.muck_db.proofs.chain.Chain.step.Goals as goal

pub next_of-self-inside-requires : goal.next_of-self-inside-requires
next_of-self-inside-requires c = ends_within _ _ _ _ c.in-Some.is c.self.invariant.0

pub dbref_of-requires : goal.dbref_of-requires
dbref_of-requires c = omega (arith, ends_within _ _ _ _ c.in-Some.is c.self.invariant.0, c.self.invariant.1)

pub invariant_of-self : goal.invariant_of-self
invariant_of-self c = (ends_next _ _ _ _ _ c.in-Some.is c.next_of-self-inside.ensures c.self.invariant.0, c.self.invariant.1)

pub returns-in-None : goal.returns-in-None
returns-in-None c =
    let none : ◌≡◌ {A = List Dbref} c.args.self.now [] = sym c.self.view_is ∙ ap (λ (o : Option ℕ). dbrefs_from c.self.inside.slots.now.items o) c.in-None.is ∙ dbrefs_none _ in
    (none, none)

pub returns-in-Some : goal.returns-in-Some
returns-in-Some c = rw c.dbref_of.ensures (sym c.self.view_is ∙ dbrefs_next _ _ _ _ c.in-Some.is c.next_of-self-inside.ensures c.self.invariant.0)
