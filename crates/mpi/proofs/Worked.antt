-- The worked texts compute.
use Rattle.std.proofs.Common.{refl}
use Rattle.muck_model.specs.Decimal.{decimal_of}
use Rattle.muck_model.specs.Numbers.{dbref_written}
use Rattle.mpi.specs.Variables.{given_back}
use Rattle.mpi.specs.Brackets.{balances, part_len, pieces_up_to, arguments_up_to}
use Rattle.mpi.specs.Functions.{functions}
use Rattle.mpi.specs.Made.{is_long}
use Rattle.mpi.specs.Thoughts.{thought_followed, text_sized, command_counted, keeps, variable, scoped}
use Rattle.mpi.specs.Values.{is_true_text, bare_digits, past_spaces, number_read, order_of, stripped, place_in_text, replaced, items}
use Rattle.mpi.specs.Meaning.{prepared, nesting_most, object_argument, doing, diced, variable_row, acted_by, each_value, until_wanted, turns_while, while_true, text_with, turns_for, each_item, bodies_in_scope, in_scope, lazily, called_ahead, function_called, spelled, body_entered, evaluated}
use Rattle.mpi.specs.inner.Memory.{named_in, prop_in}
use Rattle.mpi.specs.inner.Worked.{Worked}

pub worked : Worked
unfolding decimal_of dbref_written given_back balances part_len pieces_up_to arguments_up_to functions is_long thought_followed text_sized command_counted keeps variable scoped is_true_text bare_digits past_spaces number_read order_of stripped place_in_text replaced items prepared nesting_most object_argument doing diced variable_row acted_by each_value until_wanted turns_while while_true text_with turns_for each_item bodies_in_scope in_scope lazily called_ahead function_called spelled body_entered evaluated named_in prop_in
worked = record { row_1 = refl; row_2 = refl; row_3 = refl; row_4 = refl; row_5 = refl; row_6 = refl; row_7 = refl; row_8 = refl }
