use Rattle.std.proofs.Common.{◌+◌, ◌*◌}
use Rattle.muck_lock.proofs.text.+parts.Given as goal

-- parts inside are nested less deeply, and a part stands above what it is made of
abbrev pub decreases-part_answer : goal.decreases-part_answer
decreases-part_answer g l = 4 * l.depth

abbrev pub decreases-term_answer : goal.decreases-term_answer
decreases-term_answer g l = 4 * l.depth + 1

abbrev pub decreases-all_answer : goal.decreases-all_answer
decreases-all_answer g l = 4 * l.depth + 2

abbrev pub decreases-one_answer : goal.decreases-one_answer
decreases-one_answer g l = 4 * l.depth + 3
