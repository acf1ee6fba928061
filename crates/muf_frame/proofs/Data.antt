-- How the data of a frame follows its values.
use Rattle.std.proofs.Common.{◌≡◌, ◌≤◌, ℕ, ◌-◌, arith, List, [], ◌∷◌, ◌++◌, length, map, take, drop, zero, suc, refl, ap, sym, ◌∙◌}
use Rattle.std.proofs.lemmas.List.{length-map, map-set, set_past, take-replicate}
use Rattle.std.proofs.lemmas.Option.{slice_get-map}
use Rattle.std.specs.Prelude.{pos}
use Rattle.muck_laws.proofs.Mapped.{map_drop, map_take}
use Rattle.muf_model.specs.declared.value.Value.{Value}
use Rattle.muf_model.specs.Datum.{Datum, int}
use Rattle.muf_model.specs.Source.{zeros, fitted}
use Rattle.muf_model.specs.inner.View.{view}
use Rattle.muf_model.specs.Unit.{lowest_items}
use Rattle.muf_frame.specs.declared.mark.Mark.{Mark}
use Rattle.muf_frame.specs.declared.mark.Mark.TheVariants.{Loop, Guard, Back, Leave}
use Rattle.muf_frame.specs.inner.Shown.{Shown, flat, flat_mark, left}
use Rattle.muf_frame.specs.inner.Moves.{behind}

pub lowest_data : (n : ℕ) (s : Shown) → map view (drop (length s.stack - n) s.stack) ≡ lowest_items n (flat s).stack
lowest_data n s =
    map_drop view (length s.stack - n) s.stack ∙ ap (λ k. drop (k - n) (map view s.stack)) (sym (length-map s.stack view))

pub left_data : (m : Mark) (ms : List Mark) (s : Shown) → flat (left m ms s) ≡ behind (flat_mark m) (map flat_mark ms) (flat s)
left_data (Loop t again after) ms s = refl
left_data (Guard locked outer handler) ms s = refl
left_data (Back base place) ms s = ap (λ vs. record (flat s) { variables = vs; base = base; marks = map flat_mark ms }) (map_take view s.base s.variables)
left_data (Leave caller base place) ms s = ap (λ vs. record (flat s) { variables = vs; base = base; program = caller.0; marks = map flat_mark ms }) (map_take view s.base s.variables)

pub ruleset list_steps = (slice_get-map, map-set, set_past)

pub ruleset give_steps = (map_drop, length-map)

pub ruleset data_steps = (lowest_data, left_data, length-map)

fitted_more : (n m : ℕ) (vs : List Datum) → n ≤ m → take n (vs ++ zeros m) ≡ take n vs ++ zeros (n - length (take n vs))
fitted_more zero m vs h = refl
fitted_more (suc n) m [] h =
    let e : suc n - 0 ≡ suc n = omega arith in
    take-replicate (suc n) m (int (pos 0)) h ∙ ap zeros (sym e)
fitted_more (suc n) m (v ∷ vs) h =
    let e : suc n - suc (length (take n vs)) ≡ n - length (take n vs) = omega arith in
    ap (λ r. v ∷ r) (fitted_more n m vs (omega (arith, h)) ∙ ap (λ k. take n vs ++ zeros k) (sym e))

-- variables cut to a count and filled up to it
pub fitted_parts : (n : ℕ) (vs : List Value) → map view (take n vs) ++ zeros (n - length (take n vs)) ≡ fitted n (map view vs)
fitted_parts n vs =
    ap (λ r. r ++ zeros (n - length (take n vs))) (map_take view n vs)
    ∙ ap (λ k. take n (map view vs) ++ zeros (n - k)) (sym (length-map (take n vs) view) ∙ ap length (map_take view n vs))
    ∙ sym (fitted_more n n (map view vs) (omega arith))

pub fitted_none : (n : ℕ) → fitted n [] ≡ zeros n
fitted_none n = take-replicate n n (int (pos 0)) (omega arith)

pub ruleset fit_steps = (fitted_parts)
