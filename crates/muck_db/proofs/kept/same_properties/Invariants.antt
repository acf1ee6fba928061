use Rattle.muck_db.proofs.Keeping.{IsWalked}
use Rattle.muck_db.proofs.kept.same_properties.Given as goal

abbrev pub invariant-loop-property : goal.invariant-loop-property
invariant-loop-property l = IsWalked l.kept l.props l.property-index l.left
