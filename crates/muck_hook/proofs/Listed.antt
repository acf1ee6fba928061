-- What the properties below a directory fire, and what those fire that aren't players.
use Rattle.std.proofs.Common.{◌≡◌, ℕ, ◌+◌, List, [], ◌∷◌, ◌++◌, map, drop, length, refl, sym, ◌∙◌, ap, append_assoc, append-nil, Bool, true, false, cond, eqb, not, ◌&&◌, Option, Some, None}
use Rattle.std.specs.Prelude.{MatchOption}
use Rattle.std.proofs.lemmas.Bool.{or_parts}
use Rattle.std.specs.List.{filter, filter_map, flat_map, cons_option, list_any}
use Rattle.std.specs.Option.{option_map_or}
use Rattle.std.specs.FinMap.{entries}
use Rattle.muck_laws.proofs.Lists.{joined}
use Rattle.muck_laws.proofs.Parts.{one_longer}
use Rattle.muck_model.specs.declared.dbref.Dbref.{Dbref}
use Rattle.muck_prop.specs.declared.value.PropValue.{PropValue}
use Rattle.muck_prop.specs.Order.{is_below}
use Rattle.muck_prop.specs.Store.{PropMap, path_behind, listed_below}
use Rattle.spec_live.specs.declared.object.Object.{Object}
use Rattle.spec_live.specs.Objects.{Entry, object_at}
use Rattle.spec_live.specs.Seen.{listed_in, places_of}
use Rattle.muck_db.specs.inner.Hearing.{listen_path, has_listeners, listens}
use Rattle.spec_rights.specs.Levels.{is_player_at}
use Rattle.spec_hooks.specs.declared.cause.Cause.{Cause}
use Rattle.spec_hooks.specs.declared.cause.Fire.{Fire}
use Rattle.spec_hooks.specs.Firing.{directory, values_in, fired, fired_by}
use Rattle.muck_hook.specs.Firing.{fired_listed, upward_from, fired_unplayed}

-- the value of what stands directly in a directory
abbrev direct : List (List ℕ) → List (List ℕ) × PropValue → Option PropValue
direct dir p = cond (is_below dir p.0 && eqb (length p.0) (length dir + 1)) (Some p.1) None

pub fired_below : (es : List Entry) (cause : Cause) (carrier : Dbref) (dir : List (List ℕ)) (m : PropMap) →
    flat_map (fired_listed es cause carrier) (listed_below dir m) ≡ filter_map (fired es cause carrier) (values_in dir m)
unfolding listed_below
fired_below es cause carrier dir m = by_entries (entries m)
  where
    step : (p : List (List ℕ) × PropValue) (b c : Bool) (ps : List (List (List ℕ) × PropValue)) (vs : List PropValue) → eqb (length (drop (length dir) p.0)) 1 ≡ c →
        flat_map (fired_listed es cause carrier) (map (path_behind (length dir)) ps) ≡ filter_map (fired es cause carrier) vs →
        flat_map (fired_listed es cause carrier) (map (path_behind (length dir)) (cond b (p ∷ ps) ps)) ≡ filter_map (fired es cause carrier) (cons_option (cond (b && c) (Some p.1) None) vs)
    step p false c ps vs e rest = rest
    step p true true ps vs e rest =
        ap (λ x. cond x (cons_option (fired es cause carrier p.1) []) [] ++ flat_map (fired_listed es cause carrier) (map (path_behind (length dir)) ps)) e
        ∙ joined (fired es cause carrier p.1) (flat_map (fired_listed es cause carrier) (map (path_behind (length dir)) ps)) ∙ ap (λ fs. cons_option (fired es cause carrier p.1) fs) rest
    step p true false ps vs e rest =
        ap (λ x. cond x (cons_option (fired es cause carrier p.1) []) [] ++ flat_map (fired_listed es cause carrier) (map (path_behind (length dir)) ps)) e ∙ rest

    by_entries : (ps : List (List (List ℕ) × PropValue)) → flat_map (fired_listed es cause carrier) (map (path_behind (length dir)) (filter (λ p. is_below dir p.0) ps)) ≡ filter_map (fired es cause carrier) (filter_map (direct dir) ps)
    by_entries [] = refl
    by_entries (p ∷ ps) = step p (is_below dir p.0) (eqb (length p.0) (length dir + 1)) (filter (λ q. is_below dir q.0) ps) (filter_map (direct dir) ps) (one_longer (length dir) p.0) (by_entries ps)

-- those that aren't players, one by one
fired_others : (es : List Entry) (cause : Cause) (ds : List Dbref) → flat_map (fired_unplayed es cause) ds ≡ flat_map (fired_by es cause) (filter (λ d. not (is_player_at es d)) ds)
fired_others es cause [] = refl
fired_others es cause (d ∷ ds) = by (is_player_at es d) (fired_others es cause ds)
  where
    by : (b : Bool) → flat_map (fired_unplayed es cause) ds ≡ flat_map (fired_by es cause) (filter (λ x. not (is_player_at es x)) ds) →
        cond b [] (fired_by es cause d) ++ flat_map (fired_unplayed es cause) ds ≡ flat_map (fired_by es cause) (cond (not b) (d ∷ filter (λ x. not (is_player_at es x)) ds) (filter (λ x. not (is_player_at es x)) ds))
    by true rest = rest
    by false rest = ap (λ fs. fired_by es cause d ++ fs) rest

-- a place, and those in it that aren't players
pub fired_around : (es : List Entry) (cause : Cause) (place : Dbref) (ds held : List Dbref) (fs gs hs : List Fire) → ds ≡ held → gs ≡ fs ++ fired_by es cause place → hs ≡ gs ++ flat_map (fired_unplayed es cause) ds →
    hs ≡ fs ++ flat_map (fired_by es cause) (place ∷ filter (λ d. not (is_player_at es d)) held)
fired_around es cause place ds held fs gs hs is first rest =
    rest ∙ ap (λ xs. xs ++ flat_map (fired_unplayed es cause) ds) first ∙ append_assoc fs (fired_by es cause place) (flat_map (fired_unplayed es cause) ds)
    ∙ ap (λ xs. fs ++ (fired_by es cause place ++ xs)) (fired_others es cause ds ∙ ap (λ xs. flat_map (fired_by es cause) (filter (λ d. not (is_player_at es d)) xs)) is)

-- what doesn't listen

none_below : (dir : List (List ℕ)) (ps : List (List (List ℕ) × PropValue)) → list_any (is_below dir) (map (λ p. p.0) ps) ≡ false → filter_map (direct dir) ps ≡ []
none_below dir [] h = refl
none_below dir (p ∷ ps) h =
    let both : (is_below dir p.0 ≡ false) × (list_any (is_below dir) (map (λ q. q.0) ps) ≡ false) = or_parts (is_below dir p.0) (list_any (is_below dir) (map (λ q. q.0) ps)) h in
    ap (λ b. cons_option (cond (b && eqb (length p.0) (length dir + 1)) (Some p.1) None) (filter_map (direct dir) ps)) both.0 ∙ none_below dir ps both.1

fired_unheard : (es : List Entry) (cause : Cause) (d : Dbref) → directory cause ≡ listen_path → listens es d ≡ false → fired_by es cause d ≡ []
unfolding fired_by listens
fired_unheard es cause d is h = by_object (object_at d es) h
  where
    by_object : (q : Option Object) → option_map_or has_listeners q false ≡ false → option_map_or (λ (o : Object). filter_map (fired es cause d) (values_in (directory cause) o.props)) q [] ≡ []
    by_object None e = refl
    by_object (Some o) e = ap (λ dir. filter_map (fired es cause d) (values_in dir o.props)) is ∙ ap (λ vs. filter_map (fired es cause d) vs) (none_below listen_path (entries o.props) e)

others_unheard : (es : List Entry) (cause : Cause) (ds : List Dbref) → directory cause ≡ listen_path → list_any (listens es) ds ≡ false → flat_map (fired_by es cause) (filter (λ d. not (is_player_at es d)) ds) ≡ []
others_unheard es cause [] is h = refl
others_unheard es cause (d ∷ ds) is h =
    let both : (listens es d ≡ false) × (list_any (listens es) ds ≡ false) = or_parts (listens es d) (list_any (listens es) ds) h in
    by (is_player_at es d) (fired_unheard es cause d is both.0) (others_unheard es cause ds is both.1)
  where
    by : (b : Bool) → fired_by es cause d ≡ [] → flat_map (fired_by es cause) (filter (λ x. not (is_player_at es x)) ds) ≡ [] →
        flat_map (fired_by es cause) (cond (not b) (d ∷ filter (λ x. not (is_player_at es x)) ds) (filter (λ x. not (is_player_at es x)) ds)) ≡ []
    by true first rest = rest
    by false first rest = ap (λ fs. fs ++ flat_map (fired_by es cause) (filter (λ x. not (is_player_at es x)) ds)) first ∙ rest

-- a place in which nothing listens
pub around_unheard : (es : List Entry) (cause : Cause) (place : Dbref) (fs gs : List Fire) → directory cause ≡ listen_path → list_any (listens es) (listed_in false place es) ≡ false → gs ≡ fs ++ fired_by es cause place →
    gs ≡ fs ++ flat_map (fired_by es cause) (place ∷ filter (λ d. not (is_player_at es d)) (listed_in false place es))
around_unheard es cause place fs gs is none first =
    first ∙ ap (λ xs. fs ++ xs) (sym (append-nil (fired_by es cause place)) ∙ ap (λ xs. fired_by es cause place ++ xs) (sym (others_unheard es cause (listed_in false place es) is none)))

-- one place more upward
pub upward_more : (es : List Entry) (cause : Cause) (at : Dbref) (next : Option Dbref) (fs gs : List Fire) → MatchOption next (places_of es at ≡ []) (λ up. places_of es at ≡ up ∷ places_of es up) → gs ≡ fs ++ fired_by es cause at →
    gs ++ flat_map (fired_by es cause) (upward_from es next) ≡ fs ++ flat_map (fired_by es cause) (at ∷ places_of es at)
upward_more es cause at None fs gs e is =
    append-nil gs ∙ is ∙ ap (λ hs. fs ++ hs) (sym (append-nil (fired_by es cause at)) ∙ ap (λ ds. fired_by es cause at ++ flat_map (fired_by es cause) ds) (sym e))
upward_more es cause at (Some up) fs gs e is =
    ap (λ hs. hs ++ flat_map (fired_by es cause) (up ∷ places_of es up)) is ∙ append_assoc fs (fired_by es cause at) (flat_map (fired_by es cause) (up ∷ places_of es up))
    ∙ ap (λ ds. fs ++ (fired_by es cause at ++ flat_map (fired_by es cause) ds)) (sym e)
