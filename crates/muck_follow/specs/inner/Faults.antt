-- Which fault a fault of reading a body is.
use Rattle.muck_bodies.specs.declared.fault.BodyFault.{BodyFault}
use Rattle.muck_bodies.specs.declared.fault.BodyFault.TheVariants as body
use Rattle.muck_follow.specs.declared.fault.FollowFault.{FollowFault}
use Rattle.muck_follow.specs.declared.fault.FollowFault.TheVariants.{NoMemory, DiskFault}

abbrev pub fault_of : BodyFault → FollowFault
fault_of body.DiskFault = DiskFault
fault_of body.NoMemory = NoMemory
