use Rattle.spec_views.proofs.Showing.{is_cut}
use Rattle.spec_views.proofs.laws.views_shown.Goals as goal

pub returns-clause-cut : goal.returns-clause-cut
returns-clause-cut c = is_cut
