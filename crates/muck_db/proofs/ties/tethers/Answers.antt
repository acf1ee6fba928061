use Rattle.std.proofs.Common.{inl, inr}
use Rattle.muck_db.proofs.ties.tethers.Goals as goal

pub returns : goal.returns
returns c = λ no way. elim way [ inl q ↦ c.leads.ensures c.if-leads.false q | inr q ↦ c.leads-2.ensures no q ]
