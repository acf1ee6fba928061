-- Whether a connection or a line may come.
use Rattle.std.proofs.Common.{◌≡◌, ℕ, Bool, true, false, List, length, Some, None, refl, subst}
use Rattle.std.specs.Prelude.{not, ◌&&◌, ◌==◌, nat_lt, is_none}
use Rattle.std.specs.Option.{option_map_or}
use Rattle.muck_model.specs.declared.event.Event.TheVariants.{Opened, Input}
use Rattle.spec_live.specs.Connections.{Connection, connections_most, takes_line}
use Rattle.spec_events.specs.World.{World, connection}
use Rattle.spec_events.specs.Steps.{passes, is_allowed}

pub none_comes : (w : World) (d : ℕ) → w.stopping ≡ true → false ≡ is_allowed w 0 (Opened d)
none_comes w d e = rw e (by (is_none (connection d w)) (nat_lt (length w.live.board.connections) connections_most))
  where
    by : (new few : Bool) → false ≡ (0 == 0 && new && few && not true)
    by true true = refl
    by true false = refl
    by false few = refl

pub one_is_there : (w : World) (d : ℕ) (c : Connection) → Some c ≡ connection d w → false ≡ is_allowed w 0 (Opened d)
one_is_there w d c e = subst (λ o. false ≡ (0 == 0 && is_none o && nat_lt (length w.live.board.connections) connections_most && not w.stopping)) e refl

pub one_comes : (w : World) (d : ℕ) (few : Bool) → w.stopping ≡ false → None ≡ connection d w → few ≡ nat_lt (length w.live.board.connections) connections_most → few ≡ is_allowed w 0 (Opened d)
one_comes w d few s e f = subst (λ o. few ≡ (0 == 0 && is_none o && nat_lt (length w.live.board.connections) connections_most && not w.stopping)) e (rw (s, f) (by _))
  where
    by : (b : Bool) → b ≡ (0 == 0 && true && b && not false)
    by true = refl
    by false = refl

pub no_line_comes : (w : World) (d : ℕ) (line : List ℕ) → w.stopping ≡ true → false ≡ is_allowed w 0 (Input d line)
no_line_comes w d line e = rw e (by (passes takes_line d w))
  where
    by : (takes : Bool) → false ≡ (0 == 0 && takes && not true)
    by true = refl
    by false = refl

pub a_line_comes : (w : World) (d : ℕ) (line : List ℕ) (c : Connection) → w.stopping ≡ false → Some c ≡ connection d w → takes_line c ≡ is_allowed w 0 (Input d line)
a_line_comes w d line c s e = subst (λ o. takes_line c ≡ (0 == 0 && option_map_or takes_line o false && not w.stopping)) e (rw s (by (takes_line c)))
  where
    by : (b : Bool) → b ≡ (0 == 0 && b && not false)
    by true = refl
    by false = refl

pub nobody_is_there : (w : World) (d : ℕ) (line : List ℕ) → None ≡ connection d w → false ≡ is_allowed w 0 (Input d line)
nobody_is_there w d line e = subst (λ o. false ≡ (0 == 0 && option_map_or takes_line o false && not w.stopping)) e refl
