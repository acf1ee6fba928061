-- What a tracer shows of views, and what is written of a history.
use Rattle.std.proofs.Common.{◌≡◌, ℕ, cond, List, [], ◌∷◌, ◌++◌, length, refl, sym, ◌∙◌, ap, suc, append_assoc, append-nil}
use Rattle.std.proofs.lemmas.Grind.{flat_map-append}
use Rattle.std.specs.List.{flat_map}
use Rattle.muck_laws.proofs.Lists.{kept_more, no_parts}
use Rattle.muck_model.specs.declared.event.Entry.{Entry}
use Rattle.spec_events.specs.World.{World}
use Rattle.spec_events.specs.Steps.{effect}
use Rattle.spec_events.specs.Histories.{after}
use Rattle.muck_script.specs.Story.{transcript_of, event_told as told_by_run}
use Rattle.muf_debug.specs.declared.view.View.{View}
use Rattle.muf_debug.specs.Printed.{view_printed}
use Rattle.muf_debug.specs.Shown.{Tracer, is_unit_shown, spot_of, view_told, views_told, handed_out}
use Rattle.muck_debugging.specs.Seen.{seen_of, views_in, shown_of, views_passed, SeenPiece, pieces_of, line_ended, piece_text, text_of_all, units_of_all}
use Rattle.muck_debugging.proofs.Watched.{views-append}

-- What a tracer kept before changes nothing of what it shows.

abbrev keeping : List (List ℕ) → Tracer → Tracer
keeping lines t = record t { kept = lines }

told_keeping : (v : View) (t : Tracer) (lines : List (List ℕ)) → view_told v (keeping lines t) ≡ keeping ((view_told v (keeping lines t)).kept) (view_told v t)
unfolding view_told
told_keeping v t lines = refl

pub all_keeping : (vs : List View) (t : Tracer) (lines others : List (List ℕ)) → keeping others (views_told vs (keeping lines t)) ≡ keeping others (views_told vs t)
unfolding views_told
all_keeping [] t lines others = refl
all_keeping (v ∷ vs) t lines others =
    ap (λ (x : Tracer). keeping others (views_told vs x)) (told_keeping v t lines)
    ∙ all_keeping vs (view_told v t) ((view_told v (keeping lines t)).kept) others

shown_as : (v : View) (t : Tracer) → is_unit_shown v.pid (spot_of v) (handed_out t) ≡ is_unit_shown v.pid (spot_of v) t
unfolding is_unit_shown
shown_as v t = refl

kept_told : (v : View) (t : Tracer) → (view_told v t).kept ≡ t.kept ++ (view_told v (handed_out t)).kept
unfolding view_told
kept_told v t =
    kept_more (is_unit_shown v.pid (spot_of v) t) t.kept (view_printed v)
    ∙ ap (λ b. t.kept ++ cond b ([] ++ view_printed v ∷ []) []) (sym (shown_as v t))

handed_told : (v : View) (t : Tracer) → handed_out (view_told v (handed_out t)) ≡ handed_out (view_told v t)
unfolding view_told
handed_told v t = refl

-- it keeps what is shown behind what it kept before
pub kept-all : (vs : List View) (t : Tracer) → (views_told vs t).kept ≡ t.kept ++ shown_of vs t
unfolding views_told
kept-all [] t = sym (append-nil t.kept)
kept-all (v ∷ vs) t =
    let more : (views_told vs (view_told v (handed_out t))).kept ≡ (view_told v (handed_out t)).kept ++ shown_of vs (view_told v t) =
    kept-all vs (view_told v (handed_out t)) ∙ ap (λ (x : Tracer). (view_told v (handed_out t)).kept ++ (views_told vs x).kept) (handed_told v t) in
    kept-all vs (view_told v t)
    ∙ ap (λ (lines : List (List ℕ)). lines ++ shown_of vs (view_told v t)) (kept_told v t)
    ∙ append_assoc t.kept (view_told v (handed_out t)).kept (shown_of vs (view_told v t))
    ∙ ap (λ (lines : List (List ℕ)). t.kept ++ lines) (sym more)

told-append : (vs ws : List View) (t : Tracer) → views_told (vs ++ ws) t ≡ views_told ws (views_told vs t)
unfolding views_told
told-append [] ws t = refl
told-append (v ∷ vs) ws t = told-append vs ws (view_told v t)

pub passed-append : (vs ws : List View) (t : Tracer) → views_passed ws (views_passed vs t) ≡ views_passed (vs ++ ws) t
passed-append vs ws t = all_keeping ws (views_told vs t) t.kept t.kept ∙ ap (keeping t.kept) (sym (told-append vs ws t))

pub shown-append : (vs ws : List View) (t : Tracer) → shown_of (vs ++ ws) t ≡ shown_of vs t ++ shown_of ws (views_passed vs t)
shown-append vs ws t =
    ap (λ (x : Tracer). x.kept) (told-append vs ws (handed_out t))
    ∙ kept-all ws (views_told vs (handed_out t))
    ∙ ap (λ (x : Tracer). shown_of vs t ++ (views_told ws x).kept) (all_keeping vs t [] [])

pub shown_nothing : (t : Tracer) → shown_of [] t ≡ []
unfolding views_told
shown_nothing t = refl

pub passed_nothing : (t : Tracer) → views_passed [] t ≡ t
unfolding views_told
passed_nothing t = refl

refused_told : (vs : List View) (t : Tracer) → (views_told vs t).refused ≡ t.refused
unfolding views_told view_told
refused_told [] t = refl
refused_told (v ∷ vs) t = refused_told vs (view_told v t)

pub refused_passed : (vs : List View) (t : Tracer) → (views_passed vs t).refused ≡ t.refused
refused_passed vs t = refused_told vs t

-- where nothing was kept, what is kept is what is shown, and what is left when it is handed out is what is passed on
pub kept_shown : (vs : List View) (t : Tracer) → t.kept ≡ [] → (views_told vs t).kept ≡ shown_of vs t
kept_shown vs t e = kept-all vs t ∙ ap (λ (lines : List (List ℕ)). lines ++ shown_of vs t) e

pub handed_passed : (vs : List View) (t : Tracer) → t.kept ≡ [] → handed_out (views_told vs t) ≡ views_passed vs t
handed_passed vs t e = ap (λ (lines : List (List ℕ)). record (views_told vs t) { kept = lines }) (sym e)

-- Pieces.

pub pieces-append : (es fs : List Entry) (w : World) (t : Tracer) → pieces_of t w (es ++ fs) ≡ pieces_of t w es ++ pieces_of (views_passed (views_in w es) t) (after w es) fs
pieces-append [] fs w t = ap (λ (x : Tracer). pieces_of x w fs) (sym (passed_nothing t))
pieces-append (e ∷ es) fs w t =
    let one : SeenPiece = record { units = shown_of (seen_of w e.event) t; run = told_by_run w e.event } in
    ap (λ (ps : List SeenPiece). one ∷ ps) (pieces-append es fs (effect w e) (views_passed (seen_of w e.event) t))
    ∙ ap (λ (x : Tracer). (one ∷ pieces_of (views_passed (seen_of w e.event) t) (effect w e) es) ++ pieces_of x (after (effect w e) es) fs) (passed-append (seen_of w e.event) (views_in (effect w e) es) t)

pub length-pieces : (es : List Entry) (w : World) (t : Tracer) → length (pieces_of t w es) ≡ length es
length-pieces [] w t = refl
length-pieces (e ∷ es) w t = ap suc (length-pieces es (effect w e) (views_passed (seen_of w e.event) t))

pub text-append : (ps qs : List SeenPiece) → text_of_all (ps ++ qs) ≡ text_of_all ps ++ text_of_all qs
text-append ps qs = flat_map-append piece_text ps qs

pub units-append : (ps qs : List SeenPiece) → units_of_all (ps ++ qs) ≡ units_of_all ps ++ units_of_all qs
units-append ps qs = flat_map-append (λ (p : SeenPiece). p.units) ps qs

-- the lines of units are those of all that is seen
pub units-seen : (es : List Entry) (w : World) (t : Tracer) → units_of_all (pieces_of t w es) ≡ shown_of (views_in w es) t
units-seen [] w t = sym (shown_nothing t)
units-seen (e ∷ es) w t =
    ap (λ (lines : List (List ℕ)). shown_of (seen_of w e.event) t ++ lines) (units-seen es (effect w e) (views_passed (seen_of w e.event) t))
    ∙ sym (shown-append (seen_of w e.event) (views_in (effect w e) es) t)

-- where a run writes nothing, only those lines are written
pub text_units : (es : List Entry) (w : World) (t : Tracer) → transcript_of w es ≡ [] → text_of_all (pieces_of t w es) ≡ flat_map line_ended (units_of_all (pieces_of t w es))
text_units [] w t silent = refl
text_units (e ∷ es) w t silent =
    let parts = no_parts (told_by_run w e.event) (transcript_of (effect w e) es) silent in
    let lines = shown_of (seen_of w e.event) t in
    let others = pieces_of (views_passed (seen_of w e.event) t) (effect w e) es in
    ap (λ (text : List ℕ). (flat_map line_ended lines ++ text) ++ text_of_all others) parts.0
    ∙ ap (λ (text : List ℕ). text ++ text_of_all others) (append-nil (flat_map line_ended lines))
    ∙ ap (λ (text : List ℕ). flat_map line_ended lines ++ text) (text_units es (effect w e) (views_passed (seen_of w e.event) t) parts.1)
    ∙ sym (flat_map-append line_ended lines (units_of_all others))

-- where nothing is seen, what a run writes is written
pub text_unseen : (es : List Entry) (w : World) (t : Tracer) → views_in w es ≡ [] → text_of_all (pieces_of t w es) ≡ transcript_of w es
text_unseen [] w t none = refl
text_unseen (e ∷ es) w t none =
    let parts = no_parts (seen_of w e.event) (views_in (effect w e) es) none in
    let lines : shown_of (seen_of w e.event) t ≡ [] = ap (λ (vs : List View). shown_of vs t) parts.0 ∙ shown_nothing t in
    ap (λ (ls : List (List ℕ)). (flat_map line_ended ls ++ told_by_run w e.event) ++ text_of_all (pieces_of (views_passed (seen_of w e.event) t) (effect w e) es)) lines
    ∙ ap (λ (text : List ℕ). told_by_run w e.event ++ text) (text_unseen es (effect w e) (views_passed (seen_of w e.event) t) parts.1)

pub units_unseen : (es : List Entry) (w : World) (t : Tracer) → views_in w es ≡ [] → units_of_all (pieces_of t w es) ≡ []
units_unseen es w t none = units-seen es w t ∙ ap (λ (vs : List View). shown_of vs t) none ∙ shown_nothing t

pub passed_unseen : (es : List Entry) (w : World) (t : Tracer) → views_in w es ≡ [] → views_passed (views_in w es) t ≡ t
passed_unseen es w t none = ap (λ (vs : List View). views_passed vs t) none ∙ passed_nothing t

-- nothing is seen of a part of what nothing is seen of
pub front_unseen : (es fs all : List Entry) (w : World) → es ++ fs ≡ all → views_in w all ≡ [] → views_in w es ≡ []
front_unseen es fs all w e none = (no_parts (views_in w es) (views_in (after w es) fs) (sym (views-append es fs w) ∙ ap (views_in w) e ∙ none)).0
