-- What a tracer keeps of views is what is shown of them.
use Rattle.std.proofs.Common.{◌≡◌, ◌≤◌, ℕ, Bool, true, false, cond, not, List, [], ◌∷◌, ◌++◌, length, map, take, reverse, replicate, Some, refl, ap, sym, subst, ◌∙◌, arith}
use Rattle.std.specs.Prelude.{ℤ, ◌&&◌, ◌||◌}
use Rattle.std.specs.Option.{option_map_or}
use Rattle.std.specs.Ordering.{int_eq, int_cmp}
use Rattle.std.specs.Cmp.{int_cmp_total}
use Rattle.std.specs.FinMap.{get, insert, get-insert, get-empty}
use Rattle.std.proofs.lemmas.Grind.{reverse_onto}
use Rattle.std.proofs.lemmas.List.{append-nil, append_assoc, length-take}
use Rattle.muck_model.specs.Bytes.{text_most}
use Rattle.muf_debug.specs.declared.places.Spot.{Spot}
use Rattle.muf_debug.specs.declared.view.View.{View}
use Rattle.muf_debug.specs.Printed.{head_text, values_text, top_of, scope_text, view_printed}
use Rattle.muf_debug.specs.Shown.{Tracer, Lasts, new_tracer, same_spot, spot_of, is_unit_shown as shows, view_told, views_told}
use Rattle.spec_events.specs.World.{World}
use Rattle.spec_events.specs.Slices.{Taken, units_of}
use Rattle.spec_views.specs.Views.{view_of}
use Rattle.spec_views.specs.Showing.{is_on, has_break, stays_on, is_shown, shown_behind, tracer_behind, KeepsThose, IsCut, SeesEach}

-- the lines that processes were at last are those of these views, the last one first
abbrev Follows : List View → Lasts → Type 0
Follows seen last = (v : View) → option_map_or (same_spot (spot_of v)) (get last v.pid) false ≡ stays_on seen v

-- one more is seen
seen_more : (u : View) (seen : List View) (last : Lasts) → Follows seen last → Follows (u ∷ seen) (insert last u.pid (spot_of u))
seen_more u seen last h v = ap (λ o. option_map_or (same_spot (spot_of v)) o false) (get-insert int_cmp_total last u.pid (spot_of u) v.pid) ∙ at (int_eq v.pid u.pid)
  where
    at : (b : Bool) → option_map_or (same_spot (spot_of v)) (cond b (Some (spot_of u)) (get last v.pid)) false ≡ cond b (is_on u.program u.line v) (stays_on seen v)
    at true = refl
    at false = h v

-- a line more is kept, or none
line_more : (b : Bool) (kept : List (List ℕ)) (v : View) (more : List View)
    → cond b (kept ++ view_printed v ∷ []) kept ++ map view_printed more ≡ kept ++ map view_printed (cond b (v ∷ more) more)
line_more true kept v more = append_assoc kept (view_printed v ∷ []) (map view_printed more)
line_more false kept v more = refl

keeps_behind : (vs seen : List View) (t : Tracer) → Follows seen t.last → (views_told vs t).kept ≡ t.kept ++ map view_printed (shown_behind seen t.on t.breaks vs)
unfolding views_told view_told shows
keeps_behind [] seen t h = sym (append-nil t.kept)
keeps_behind (v ∷ vs) seen t h =
    keeps_behind vs (v ∷ seen) (view_told v t) (seen_more v seen t.last h)
    ∙ ap (λ b. cond (t.on || (has_break t.breaks v && not b)) (t.kept ++ view_printed v ∷ []) t.kept ++ map view_printed (shown_behind (v ∷ seen) t.on t.breaks vs)) (h v)
    ∙ line_more (is_shown t.on t.breaks seen v) t.kept v (shown_behind (v ∷ seen) t.on t.breaks vs)

-- several more are seen
seen_all : (vs past : List View) (t : Tracer) → Follows past t.last → Follows (reverse vs ++ past) (views_told vs t).last
unfolding views_told view_told
seen_all [] past t h = h
seen_all (v ∷ vs) past t h =
    let order : reverse vs ++ (v ∷ past) ≡ reverse (v ∷ vs) ++ past = sym (append_assoc (reverse vs) (v ∷ []) past) ∙ ap (λ us. us ++ past) (sym (reverse_onto vs v [])) in
    subst (λ (us : List View). Follows us (views_told vs (view_told v t)).last) order (seen_all vs (v ∷ past) (view_told v t) (seen_more v past t.last h))

none_seen : Follows [] new_tracer.last
unfolding new_tracer
none_seen v = ap (λ o. option_map_or (same_spot (spot_of v)) o false) (get-empty int_cmp v.pid)

pub keeps_those : (seen : List View) (on : Bool) (breaks : List Spot) (vs : List View) → KeepsThose seen on breaks vs
keeps_those seen on breaks vs =
    keeps_behind vs (reverse seen) (tracer_behind seen on breaks)
    (subst (λ (us : List View). Follows us (views_told seen new_tracer).last) (append-nil (reverse seen)) (seen_all seen [] new_tracer none_seen))

is_within : (bytes : List ℕ) → length (take text_most bytes) ≤ text_most
is_within bytes = omega (arith, length-take text_most bytes)

pub is_cut : (v : View) → IsCut v
is_cut v = is_within (head_text v ++ (values_text (top_of v.stack) ++ scope_text v.scope))

-- each unit is seen once
each_seen : (pid : ℤ) (ts : List Taken) → map (λ (v : View). v.pid) (map (view_of pid) ts) ≡ replicate (length ts) pid
each_seen pid [] = refl
each_seen pid (t ∷ ts) = ap (λ ps. pid ∷ ps) (each_seen pid ts)

pub sees_each : (pid : ℤ) (w : World) → SeesEach pid w
sees_each pid w = each_seen pid (units_of pid w)
