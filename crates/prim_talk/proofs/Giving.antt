-- Items that are given, as the values that stand for them.
use Rattle.std.proofs.Common.{◌≡◌, ◌-◌, ◌<◌, ℕ, zero, suc, ℤ, pos, List, [], ◌∷◌, ◌++◌, length, map, reverse, take, filter, filter_map, count_by, slice_get, Option, Some, None, option_map, refl, sym, ap, ◌∙◌, arith}
use native.Mathlib.Numerals.{unary_clauses}
use Rattle.std.specs.Prelude.{◌&&◌, nat_le}
use Rattle.std.specs.List.{cons_option}
use Rattle.std.specs.Int.{w32, cast_signed}
use Rattle.std.proofs.lemmas.List.{length-map, reverse-append}
use Rattle.muck_laws.proofs.Turned.{map_reverse}
use Rattle.muck_model.specs.declared.dbref.Dbref.{Dbref}
use Rattle.spec_live.specs.Connections.{Connection, is_connection_of, has_player}
use Rattle.spec_live.specs.Lives.{Live}
use Rattle.muf_model.specs.declared.value.Value.{Value}
use Rattle.muf_model.specs.declared.value.Value.TheVariants.{Int, Ref}
use Rattle.spec_rights.specs.declared.act.Actor.{Actor}
use Rattle.muf_model.specs.Datum.{Datum, object}
use Rattle.muf_frame.specs.inner.Answers.{object_at}
use Rattle.spec_prims.specs.Asking.{object_numbered}
use Rattle.spec_prims.specs.Row.{gives}
use Rattle.muf_model.specs.inner.View.{view}
use Rattle.spec_prims.specs.Talk.{count_item, player_item, number_item, items_with_count, players, player_numbered, player_at, seats, seat_numbered, seat_at, is_place, descriptors}

-- the players of connections
joined_player : (player : Option Dbref) (values : List Value) (ds : List Dbref) → map view values ≡ map player_item ds → map view (cons_option (option_map Ref player) values) ≡ map player_item (cons_option player ds)
joined_player None values ds e = e
joined_player (Some d) values ds e = ap (λ xs. player_item d ∷ xs) e

pub shown_players : (cs : List Connection) → map view (filter_map (λ c. option_map Ref c.player) cs) ≡ map player_item (filter_map (λ c. c.player) cs)
shown_players [] = refl
shown_players (c ∷ cs) = joined_player c.player _ _ (shown_players cs)

-- and their numbers
pub shown_numbers : (cs : List Connection) → map view (map (λ c. Int (cast_signed w32 c.number)) cs) ≡ map number_item cs
shown_numbers [] = refl
shown_numbers (c ∷ cs) = ap (λ xs. number_item c ∷ xs) (shown_numbers cs)

-- items with their count upon them
pub shown_count : (items : List Value) (count : Value) → view count ≡ count_item (length items) → map view (reverse (items ++ count ∷ [])) ≡ items_with_count (map view items)
shown_count items count e =
    ap (map view) (reverse-append items (count ∷ []))
    ∙ ap (λ x. x ∷ map view (reverse items)) (e ∙ ap count_item (sym (length-map items view)))
    ∙ ap (λ xs. count_item (length (map view items)) ∷ xs) (map_reverse view items)

-- the player at a place

pub numbered_at : (n : ℕ) (w : Live) → 0 < n → slice_get (players w) (n - 1) ≡ player_numbered n w
numbered_at zero w l = absurd (omega (arith, l))
numbered_at (suc n) w l = simp unary_clauses (same_path (slice_get (players w) n))
  where
    same_path : (o : Option Dbref) → o ≡ o
    same_path o = refl

pub seat_numbered_at : (n : ℕ) (w : Live) → 0 < n → slice_get (seats w) (n - 1) ≡ seat_numbered n w
seat_numbered_at zero w l = absurd (omega (arith, l))
seat_numbered_at (suc n) w l = simp unary_clauses (same_path (slice_get (seats w) n))
  where
    same_path : (o : Option ℕ) → o ≡ o
    same_path o = refl

pub seat_top : (i : ℤ) (n : ℕ) (w : Live) → i ≡ pos n → seat_numbered n w ≡ seat_at i w
seat_top i n w e = ap (λ j. seat_at j w) (sym e)

pub player_top : (i : ℤ) (n : ℕ) (w : Live) → i ≡ pos n → player_numbered n w ≡ player_at i w
player_top i n w e = ap (λ j. player_at j w) (sym e)

pub place_top : (i : ℤ) (n : ℕ) (w : Live) → i ≡ pos n → nat_le 1 n && nat_le n (count_by has_player w.board.connections) ≡ is_place i w
place_top i n w e = ap (λ j. is_place j w) (sym e)

-- DESCRIPTORS, by the object on the top
pub descriptors_of : (a : Actor) (stack : List Datum) (w : Live) (d : Dbref) (items : List Datum) → object_at 0 stack ≡ Some d.0 → items ≡ items_with_count (map number_item (filter (is_connection_of d) w.board.connections)) → descriptors a (take 1 stack) w ≡ gives items w
descriptors_of a [] w d items e k = absurd cc
descriptors_of a (object n ∷ rest) w d items e k =
    let same : n ≡ d.0 = cc in
    ap (λ x. gives (items_with_count (map number_item (filter (is_connection_of (object_numbered x)) w.board.connections))) w) same ∙ ap (λ xs. gives xs w) (sym k)
descriptors_of a (_ ∷ rest) w d items e k = absurd cc
