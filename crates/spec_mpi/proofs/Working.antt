-- The worked messages compute.
use Rattle.std.proofs.Common.{refl}
use Rattle.std.specs.Fmt.{digits}
use Rattle.muck_model.specs.Decimal.{decimal_of}
use Rattle.muck_model.specs.Numbers.{dbref_written}
use Rattle.muck_match.specs.Words.{is_same}
use Rattle.muck_match.specs.Scenery.{place_in_scenery as place_seen, is_in_scenery}
use Rattle.muck_match.specs.Naming.{if_there, thing_found}
use Rattle.spec_live.specs.Objects.{object_at, number_in, kind_in, object_in, list_in, place_in as place_number, changed_at}
use Rattle.spec_live.specs.Boards.{first_tune, early_board}
use Rattle.spec_live.specs.Start.{room_zero, player_one, first_objects}
use Rattle.spec_live.specs.Seen.{listed_in, places_of, scenery_of, flag_letters}
use Rattle.spec_rights.specs.Levels.{owner_at, owns, controls_as}
use Rattle.spec_rights.specs.Verdict.{controls}
use Rattle.spec_rights.specs.Changing.{property_stored as store, unstored}
use Rattle.mpi.specs.Variables.{given_back}
use Rattle.mpi.specs.Brackets.{balances, part_len, pieces_up_to, arguments_up_to}
use Rattle.mpi.specs.Functions.{functions}
use Rattle.mpi.specs.Made.{is_long}
use Rattle.mpi.specs.Thoughts.{thought_followed, text_sized, command_counted, keeps, variable, scoped}
use Rattle.mpi.specs.Meaning.{prepared, nesting_most, object_argument as named_at, doing, acted_by, each_value, called_ahead, function_called, spelled, body_entered, evaluated}
use Rattle.spec_mpi.specs.Telling.{finds_in, sign_in, signs_in, path_written_in, property_text_at, first_text, below_at, tells_in}
use Rattle.spec_mpi.specs.Doing.{path_written}
use Rattle.spec_mpi.specs.Messages.{formula_heard, variables_of, answer_shown as show, message_spoken}
use Rattle.spec_mpi.specs.inner.Worked.{Worked}

pub worked : Worked
unfolding digits is_same decimal_of dbref_written place_seen is_in_scenery if_there thing_found object_at number_in kind_in object_in list_in place_number changed_at first_tune early_board room_zero player_one first_objects listed_in places_of scenery_of flag_letters owner_at owns controls_as controls store unstored given_back balances part_len pieces_up_to arguments_up_to functions is_long thought_followed text_sized command_counted keeps variable scoped prepared nesting_most named_at doing acted_by each_value called_ahead function_called spelled body_entered evaluated finds_in sign_in signs_in path_written_in property_text_at first_text below_at tells_in path_written formula_heard variables_of show message_spoken
worked = record {
  names = refl;
  lists = refl;
  tests = refl;
  hidden = refl;
  kept = refl;
  private = refl;
  guarded = refl;
  plain = refl;
  paths = refl;
  faults = refl;
}
