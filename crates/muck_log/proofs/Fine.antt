-- The starting world hangs together, with every value within its limits.
use Rattle.std.proofs.Common.{◌≡◌, refl, sym, subst}
use Rattle.muck_model.specs.Parameters.{parameters, first_tune, tune_fits}
use Rattle.spec_live.specs.Chain.{has}
use Rattle.muck_store.specs.Forms.{next_of_stored}
use Rattle.muck_store.specs.Limits.{record_fits, is_digest}
use Rattle.muck_store.specs.Whole.{stored_kind, seats_in, all_tied, chain_met, all_met, is_tree, is_whole_store}
use Rattle.muck_log.specs.World.{StoredWorld, IsFine, start, stored_room_zero, stored_player_one, first_digest, is_fine}

pub start_fine : IsFine start
unfolding start stored_room_zero stored_player_one parameters first_tune first_digest is_fine tune_fits record_fits is_digest is_whole_store stored_kind seats_in all_tied is_tree all_met chain_met next_of_stored has
start_fine = refl

pub fine_start : (w : StoredWorld) → w ≡ start → IsFine w
fine_start w is = subst IsFine (sym is) start_fine
