use Rattle.std.proofs.Common.{◌≡◌, to_z, of_z, w32, rules, ap, ◌∙◌}
use Rattle.muck_porter.specs.inner.Desks.{Far}
use Rattle.muck_porter.specs.inner.Reaches.{job_far, work_far}
use Rattle.muck_porter.proofs.Going.{goes_as, claimed_then, claimed_stands}
use Rattle.muck_porter.proofs.desk.Desk.works_once.Goals as goal

pub returns-in-Line : goal.returns-in-Line
returns-in-Line g c = goes_as _ _ _ _ (ap work_far c.in-Did.is ∙ ap job_far c.in-Line.is) c.in-Ok.ensures

pub returns-in-Idle : goal.returns-in-Idle
returns-in-Idle g c = goes_as _ _ _ _ (ap work_far c.in-Did.is ∙ ap job_far c.in-Idle.is) c.in-Ok.ensures

pub returns-in-Died : goal.returns-in-Died
returns-in-Died g c = goes_as _ _ _ _ (ap work_far c.in-Did.is ∙ ap job_far c.in-Died.is) c.in-Ok.ensures

pub returns-in-Waits : goal.returns-in-Waits
returns-in-Waits g c = goes_as _ _ _ _ (ap work_far c.in-Waits.is) c.in-Ok.ensures

pub returns-in-Ready : goal.returns-in-Ready
returns-in-Ready g c = goes_as _ _ _ _ (ap work_far c.in-Ready.is) c.in-Ok.ensures

pub does-requires : goal.does-requires
does-requires g c =
    let read : to_z w32 (of_z w32 c.in-Claim.pid) ≡ c.in-Claim.pid = search rules in
    claimed_stands _ _ _ _ read (goes_as _ _ _ _ (ap work_far c.in-Did.is ∙ ap job_far c.in-Claim.is) c.in-Ok.ensures)

pub returns-in-Ok-does : goal.returns-in-Ok-does
returns-in-Ok-does g c = claimed_then _ Far.free _ _ _ (goes_as _ _ _ _ (ap work_far c.in-Did.is ∙ ap job_far c.in-Claim.is) c.in-Ok.ensures) c.in-Ok-does.ensures.goes

pub returns-in-Err-does : goal.returns-in-Err-does
returns-in-Err-does g c = claimed_then _ _ _ _ _ (goes_as _ _ _ _ (ap work_far c.in-Did.is ∙ ap job_far c.in-Claim.is) c.in-Ok.ensures) c.in-Err-does.ensures.goes
