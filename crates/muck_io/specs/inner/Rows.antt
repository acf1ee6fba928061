-- Literal rows: what the definitions compute to.
use Rattle.std.proofs.Common.{◌≡◌, [], ◌∷◌, true, false, refl}
use Rattle.muck_io.specs.Faults.{one_more}
use Rattle.muck_io.specs.inner.Clock.{next_answer, later_answers}
use Rattle.muck_io.specs.inner.Memory.{no_calls, fails_next, after_call, after_fault, to_give, to_take, after_taking}

pub record Rows : Type 0 where
  pub count_rises : one_more 0 ≡ 1
  pub count_ends : one_more 18446744073709551615 ≡ 18446744073709551615
  -- the second call is to fail
  pub first_is_fine : fails_next (no_calls (2 ∷ [])) ≡ false
  pub second_fails : fails_next (after_call (no_calls (2 ∷ []))) ≡ true
  pub third_is_fine : fails_next (after_fault (after_call (no_calls (2 ∷ [])))) ≡ false
  pub fault_is_counted : (after_fault (after_call (no_calls (2 ∷ [])))).faults ≡ 1
  -- a read gives what fits, is left and may go in one read
  pub room_bounds : to_give (record { left = 7 ∷ 8 ∷ 9 ∷ []; calls = no_calls [] }) 2 ≡ 2
  pub left_bounds : to_give (record { left = 7 ∷ 8 ∷ 9 ∷ []; calls = no_calls [] }) 4096 ≡ 3
  pub most_bounds : to_give (record { left = 7 ∷ 8 ∷ 9 ∷ []; calls = record (no_calls []) { most = 1 } }) 4096 ≡ 1
  -- a sink that may take no byte finds a fault, but not where there is none to take
  pub takes_none : to_take (record { bytes = []; calls = record (no_calls []) { most = 0 } }) (7 ∷ []) ≡ 0
  pub none_is_a_fault : (after_taking 0 (7 ∷ []) (no_calls [])).faults ≡ 1
  pub nothing_to_take : (after_taking 0 [] (no_calls [])).faults ≡ 0
  -- the last answer stays; without one it is 0
  pub clock_goes_on : later_answers (5 ∷ 6 ∷ []) ≡ 6 ∷ []
  pub clock_stays : later_answers (6 ∷ []) ≡ 6 ∷ []
  pub clock_has_none : next_answer (later_answers []) ≡ 0

pub rows : Rows
rows = record { count_rises = refl; count_ends = refl; first_is_fine = refl; second_fails = refl; third_is_fine = refl; fault_is_counted = refl; room_bounds = refl; left_bounds = refl; most_bounds = refl; takes_none = refl; none_is_a_fault = refl; nothing_to_take = refl; clock_goes_on = refl; clock_stays = refl; clock_has_none = refl }
