-- A queue that isn't full has a number left.
use Rattle.std.proofs.Common.{◌≡◌, ◌≢◌, false, length}
use Rattle.std.specs.Prelude.{nat_le}
use Rattle.std.specs.List.{count_by}
use Rattle.std.specs.Ordering.{int_eq}
use Rattle.muck_laws.proofs.Numbers.{int_equal}
use Rattle.muck_laws.proofs.Truths.{last_of}
use Rattle.muck_model.specs.declared.dbref.Dbref.{Dbref}
use Rattle.muck_model.specs.declared.tune.Tune.{Tune}
use Rattle.muck_queue.specs.Queues.{Queue, is_queue_full, is_process_of, number_most}

pub number_left : (player : Dbref) (tune : Tune) (q : Queue) → is_queue_full player tune q ≡ false → q.last ≢ number_most
unfolding is_queue_full
number_left player tune q h e =
    last_of (nat_le tune.process_limit (length q.processes)) (nat_le tune.player_processes (count_by (is_process_of player) q.processes)) (int_eq q.last number_most) h (int_equal q.last number_most e)
