use Rattle.muck_db.proofs.Spelled.{properties_spelled}
use Rattle.muck_db.proofs.cut.properties_of.Goals as goal

pub returns-clause-storable : goal.returns-clause-storable
returns-clause-storable c =
    properties_spelled c.args.props.now c.in_ok-list.list c.in_ok-list.ensures.list c.see_count.ensures c.in_ok-list.ensures.kept c.in_ok-list.ensures.held
